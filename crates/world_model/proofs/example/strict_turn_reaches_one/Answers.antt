use Rattle.std.proofs.Common.{map, is_some, ◌∷◌, [], ◌∙◌, ap}
use Rattle.std.specs.Option.{option_map}
use Rattle.agent_rules.specs.Half.{entry_of}
use Rattle.world_model.specs.World.{asks_full, record_in_world}
use Rattle.world_model.specs.Clusters.{Cluster}
use Rattle.world_model.specs.Example.{start, one_server, other_server, start_with_two, in_strict_turn}
use Rattle.world_model.proofs.StrictTurn.{turn_is, end_numbers, end_changes, end_one, end_other, end_known, end_next, end_unknown}
use Rattle.world_model.proofs.example.strict_turn_reaches_one.Goals as goal

pub returns-clause-numbers : goal.returns-clause-numbers
returns-clause-numbers c = ap (λ (d : Cluster). map (λ e. e.number) d.sent) (turn_is c.delta_carries_changes.ensures.exactly c.must_be_whole_is_exact.ensures.exactly) ∙ end_numbers

pub returns-clause-changes : goal.returns-clause-changes
returns-clause-changes c = ap (λ (d : Cluster). map (λ e. is_some e.basis) d.sent) (turn_is c.delta_carries_changes.ensures.exactly c.must_be_whole_is_exact.ensures.exactly) ∙ end_changes

pub returns-clause-one_asks : goal.returns-clause-one_asks
returns-clause-one_asks c =
    ap (λ (d : Cluster). map (λ place. option_map asks_full (d.replies one_server place)) (0 ∷ 1 ∷ 2 ∷ []))
    (turn_is c.delta_carries_changes.ensures.exactly c.must_be_whole_is_exact.ensures.exactly) ∙ end_one

pub returns-clause-other_asks : goal.returns-clause-other_asks
returns-clause-other_asks c =
    ap (λ (d : Cluster). map (λ place. option_map asks_full (d.replies other_server place)) (0 ∷ 1 ∷ 2 ∷ []))
    (turn_is c.delta_carries_changes.ensures.exactly c.must_be_whole_is_exact.ensures.exactly) ∙ end_other

pub returns-clause-known : goal.returns-clause-known
returns-clause-known c =
    ap (option_map (λ r. r.number)) (c.any_server_of_an_endpoint.ensures.held start_with_two in_strict_turn one_server start.uid
    (c.one_agent_has_room_at_each.ensures.room start_with_two in_strict_turn one_server (tt, (tt, (tt, (tt, (tt, (tt, (tt, (tt, (tt, (tt, tt))))))))))))
    ∙ ap (λ (d : Cluster). option_map (λ r. r.number) (record_in_world d.sent (d.held one_server start.uid))) (turn_is c.delta_carries_changes.ensures.exactly c.must_be_whole_is_exact.ensures.exactly)
    ∙ end_known

pub returns-clause-unknown : goal.returns-clause-unknown
returns-clause-unknown c =
    c.any_server_of_an_endpoint.ensures.held start_with_two in_strict_turn other_server start.uid
    (c.one_agent_has_room_at_each.ensures.room start_with_two in_strict_turn other_server (tt, (tt, (tt, (tt, (tt, (tt, (tt, (tt, (tt, (tt, tt)))))))))))
    ∙ ap (λ (d : Cluster). record_in_world d.sent (d.held other_server start.uid)) (turn_is c.delta_carries_changes.ensures.exactly c.must_be_whole_is_exact.ensures.exactly)
    ∙ end_unknown

pub returns-clause-goes_on : goal.returns-clause-goes_on
returns-clause-goes_on c =
    ap (λ (d : Cluster). is_some (entry_of d.agent).basis) (turn_is c.delta_carries_changes.ensures.exactly c.must_be_whole_is_exact.ensures.exactly)
    ∙ end_next c.must_be_whole_is_exact.ensures.exactly
