use Rattle.std.proofs.Common.{◌∙◌, ◌≡◌, ◌≤◌, ℕ, inl, inr, List, ap, refl, subst, sym, take}
use Rattle.server_waves.specs.Candidates.{AreUndecidedBut, IsUnknownOf, is_candidate}
use Rattle.server_waves.specs.Points.{RollsInPart, most, pointed, with_heard}
use Rattle.server_waves.specs.Register.{Rolling}
use Rattle.server_waves.specs.Waves.{Terms, hash_of, offered_at, table_at}
use Rattle.server_waves.proofs.PointLemmas.{keeps_heard}
use Rattle.server_waves.proofs.Results.{map_err, map_if, map_ok, on_err}
use Rattle.server_waves.proofs.points.come_to_point.Goals as goal

pub advance-requires : goal.advance-requires
advance-requires g c =
    let kept = keeps_heard c.args.server.now.table.records c.args.heard.now c.args.rollout.now in
    record {
      undecided = subst (λ (r : Rolling). AreUndecidedBut (is_candidate c.args.own.now) (g.J.Judge.finds_fine c.args.judge.now) (hash_of r.terms) c.args.server.now.table.records r.waves.offered) (sym c.in_ok-join_heard.ensures.joined)
          (subst (λ (t : Terms). AreUndecidedBut (is_candidate c.args.own.now) (g.J.Judge.finds_fine c.args.judge.now) (hash_of t) c.args.server.now.table.records (with_heard c.args.server.now.table.records c.args.heard.now c.args.rollout.now).waves.offered) (sym kept.terms)
          (subst (λ (us : List (List ℕ)). AreUndecidedBut (is_candidate c.args.own.now) (g.J.Judge.finds_fine c.args.judge.now) (hash_of c.args.rollout.now.terms) c.args.server.now.table.records us) (sym kept.offered) c.requires.undecided));
    }

pub returns-in_err-join_heard-clause-part : goal.returns-in_err-join_heard-clause-part
returns-in_err-join_heard-clause-part g c =
    let some = c.in_err-join_heard.ensures.some in
    let part : RollsInPart (g.J.Judge.finds_fine c.args.judge.now) c.args.heard.now c.args.rollout.now c.join_heard.new.rollout c.args.server.now.table c.args.server.now.table = inl (some.0, some.1, refl) in
    on_err c.from_residual.result part

pub returns-clause-rolled : goal.returns-clause-rolled
returns-clause-rolled g c =
    map_ok c.advance.result
    (λ is. is ∙ ap (λ (r : Rolling). pointed (g.J.Judge.finds_fine c.args.judge.now) c.args.server.now.table (most (g.J.Judge.finds_fine c.args.judge.now) c.args.server.now.table r) r) c.in_ok-join_heard.ensures.joined)
    c.advance.ensures.point

pub returns-clause-table : goal.returns-clause-table
returns-clause-table g c =
    map_ok c.advance.result
    (λ is. is ∙ ap (λ (r : Rolling). table_at (g.J.Judge.finds_fine c.args.judge.now) r.terms c.args.server.now.table r.waves (most (g.J.Judge.finds_fine c.args.judge.now) c.args.server.now.table r)) c.in_ok-join_heard.ensures.joined)
    c.advance.ensures.table

pub returns-clause-part : goal.returns-clause-part
returns-clause-part g c =
    map_err c.advance.result
    (λ part.
    subst (λ (r : Rolling). (made : ℕ) × (made ≤ most (g.J.Judge.finds_fine c.args.judge.now) c.args.server.now.table r)
    × (c.advance.new.self ≡ pointed (g.J.Judge.finds_fine c.args.judge.now) c.args.server.now.table made r)
    × (c.advance.new.server.table ≡ table_at (g.J.Judge.finds_fine c.args.judge.now) r.terms c.args.server.now.table r.waves made)
    → RollsInPart (g.J.Judge.finds_fine c.args.judge.now) c.args.heard.now c.args.rollout.now c.advance.new.self c.args.server.now.table c.advance.new.server.table)
    (sym c.in_ok-join_heard.ensures.joined) (λ p. inr p) part)
    c.advance.ensures.part

pub returns-clause-newly : goal.returns-clause-newly
returns-clause-newly g c =
    map_if c.advance.result
    (λ from is. is ∙ ap (λ (r : Rolling). offered_at (g.J.Judge.finds_fine c.args.judge.now) r.terms c.args.server.now.table r.waves) c.in_ok-join_heard.ensures.joined)
    c.advance.ensures.newly

pub returns-clause-undecided : goal.returns-clause-undecided
returns-clause-undecided g c =
    let terms : c.join_heard.new.rollout.terms ≡ c.args.rollout.now.terms =
    ap (λ (r : Rolling). r.terms) c.in_ok-join_heard.ensures.joined ∙ (keeps_heard c.args.server.now.table.records c.args.heard.now c.args.rollout.now).terms in
    map_if c.advance.result
    (λ from unknown. subst (λ (t : Terms). IsUnknownOf (g.J.Judge.finds_fine c.args.judge.now) (hash_of t) c.advance.new.server.table.records (take from c.advance.new.self.waves.offered)) terms unknown)
    c.advance.ensures.unknown
