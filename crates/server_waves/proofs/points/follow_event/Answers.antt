use Rattle.std.proofs.Common.{◌∙◌, ◌≡◌, ◌++◌, ℕ, List, ap, subst, drop}
use Rattle.server_waves.specs.Candidates.{AreUndecidedBut, is_candidate}
use Rattle.server_waves.specs.Register.{Rolling}
use Rattle.server_waves.specs.Waves.{Terms, hash_of}
use Rattle.server_waves.proofs.CandidateLemmas.{later_undecided}
use Rattle.server_waves.proofs.PointLemmas.{all_in_part, keeps_rolled}
use Rattle.server_waves.proofs.Results.{map_ok, on_err, on_ok}
use Rattle.server_waves.proofs.points.follow_event.Goals as goal

pub returns-in_err-from-clause-part : goal.returns-in_err-from-clause-part
returns-in_err-from-clause-part g c = on_err c.from_residual.result c.in_err-from.ensures.part

pub returns-clause-rolled : goal.returns-clause-rolled
returns-clause-rolled g c = on_ok c.add_each.result c.in_ok-from.ensures.rolled

pub returns-clause-table : goal.returns-clause-table
returns-clause-table g c = on_ok c.add_each.result c.in_ok-from.ensures.table

pub returns-clause-newly : goal.returns-clause-newly
returns-clause-newly g c =
    map_ok c.add_each.result
    (λ added. added ∙ ap (λ (us : List (List ℕ)). c.args.newly.now ++ us) (c.offered_behind-added.ensures.newly ∙ c.in_ok-from.ensures.newly))
    c.add_each.ensures.added

pub returns-clause-part : goal.returns-clause-part
returns-clause-part g c =
    on_err c.add_each.result
    (all_in_part (g.J.Judge.finds_fine c.args.judge.now) c.args.heard.now c.args.rollout.now c.come_to_point.new.rollout c.args.server.now.table c.come_to_point.new.server.table
    c.in_ok-from.ensures.rolled c.in_ok-from.ensures.table)

pub returns-clause-undecided : goal.returns-clause-undecided
returns-clause-undecided g c =
    let fine = g.J.Judge.finds_fine c.args.judge.now in
    let records = c.come_to_point.new.server.table.records in
    let terms : c.come_to_point.new.rollout.terms ≡ c.args.rollout.now.terms =
    ap (λ (r : Rolling). r.terms) c.in_ok-from.ensures.rolled ∙ keeps_rolled (g.J.Judge.finds_fine c.args.judge.now) c.args.heard.now c.args.server.now.table c.args.rollout.now in
    on_ok c.add_each.result
    (later_undecided (is_candidate c.weigh.new.candidates) fine (hash_of c.args.rollout.now.terms) records c.come_to_point.new.rollout.waves.offered c.in_ok-from.from c.in_ok-from.ensures.undecided
    (subst (λ (t : Terms). AreUndecidedBut (is_candidate c.weigh.new.candidates) (g.J.Judge.finds_fine c.args.judge.now) (hash_of t) c.come_to_point.new.server.table.records (drop c.in_ok-from.from c.come_to_point.new.rollout.waves.offered)) terms
    (subst (λ (us : List (List ℕ)). AreUndecidedBut (is_candidate c.weigh.new.candidates) (g.J.Judge.finds_fine c.args.judge.now) (hash_of c.come_to_point.new.rollout.terms) c.come_to_point.new.server.table.records us) c.offered_behind-added.ensures.newly
    c.weigh.ensures.weighed)))
