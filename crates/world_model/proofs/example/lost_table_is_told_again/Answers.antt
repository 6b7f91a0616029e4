use Rattle.std.proofs.Common.{map, is_some, ◌∷◌, [], ◌∙◌, ap}
use Rattle.std.specs.Option.{option_map}
use Rattle.world_model.specs.World.{World, asks_full, record_held}
use Rattle.world_model.specs.Example.{start, lost_table}
use Rattle.world_model.proofs.LostTable.{run_is}
use Rattle.world_model.proofs.example.lost_table_is_told_again.Goals as goal

pub returns-clause-numbers : goal.returns-clause-numbers
returns-clause-numbers c = ap (λ (w : World). map (λ e. e.number) w.sent) (run_is c.delta_carries_changes.ensures.exactly c.must_be_whole_is_exact.ensures.exactly)

pub returns-clause-changes : goal.returns-clause-changes
returns-clause-changes c = ap (λ (w : World). map (λ e. is_some e.basis) w.sent) (run_is c.delta_carries_changes.ensures.exactly c.must_be_whole_is_exact.ensures.exactly)

pub returns-clause-asks : goal.returns-clause-asks
returns-clause-asks c = ap (λ (w : World). map (λ place. option_map asks_full (w.replies place)) (0 ∷ 1 ∷ 2 ∷ [])) (run_is c.delta_carries_changes.ensures.exactly c.must_be_whole_is_exact.ensures.exactly)

pub returns-clause-kept : goal.returns-clause-kept
returns-clause-kept c =
    ap (option_map (λ r. r.number)) (c.records_are_entries.ensures.held start lost_table start.settings.endpoint start.uid
    (c.one_agent_has_room.ensures.room start lost_table start.settings.endpoint (tt, (tt, (tt, (tt, (tt, (tt, (tt, (tt, (tt, (tt, (tt, tt))))))))))))
    ∙ ap (λ (w : World). record_held w start.settings.endpoint start.uid) (run_is c.delta_carries_changes.ensures.exactly c.must_be_whole_is_exact.ensures.exactly))

pub returns-clause-limit : goal.returns-clause-limit
returns-clause-limit c = ap (λ (w : World). w.agent.saved.limit) (run_is c.delta_carries_changes.ensures.exactly c.must_be_whole_is_exact.ensures.exactly)
