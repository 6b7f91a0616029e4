use Rattle.std.proofs.Common.{◌≡◌, ℕ, ◌+◌, ◌<◌, ◌≤◌, List, ◌++◌, length, take, drop, ◌∙◌, ap, subst, sym, arith}
use Rattle.std.proofs.lemmas.List.{length-take, take-append-le, take-take}
use Rattle.server_core.specs.Table.{find_record}
use Rattle.server_waves.specs.Waves.{has_applied, has_failed, passes}
use Rattle.server_waves.specs.Candidates.{AreUndecided}
use Rattle.server_waves.proofs.CandidateLemmas.{decided_applied, decided_failed, decided_not, step_open, taken_fewer, taken_joins, taken_not, taken_others}
use Rattle.server_waves.proofs.sorting.sort_at.Goals as goal

-- one of them is moved
moved : (offered offered2 list list2 other : ℕ) → offered2 + 1 ≡ offered → list2 ≡ list + 1 → offered2 + list2 + other ≡ offered + list + other
moved offered offered2 list list2 other less more = omega arith

moved_last : (offered offered2 other list list2 : ℕ) → offered2 + 1 ≡ offered → list2 ≡ list + 1 → offered2 + other + list2 ≡ offered + other + list
moved_last offered offered2 other list list2 less more = omega arith

nearer : (offered offered2 at : ℕ) → offered2 + 1 ≡ offered → offered2 + at + 1 ≡ offered + at
nearer offered offered2 at less = omega arith

longer : (list list2 : ℕ) → list2 ≡ list + 1 → list ≤ list2
longer list list2 more = omega arith

-- those before the place are the same
front : (xs new : List (List ℕ)) (i : ℕ) → i < length xs → new ≡ take i xs ++ drop (i + 1) xs → take i xs ≡ take i new
front xs new i within without =
    let many = length-take i xs in
    sym (ap (take i) without ∙ take-append-le i (take i xs) (drop (i + 1) xs) (omega (arith, many, within)) ∙ take-take i i xs (omega arith))

pub returns-in-Applied-clause-others : goal.returns-in-Applied-clause-others
returns-in-Applied-clause-others g c = taken_others (g.J.Judge.finds_fine c.args.judge.now) c.args.hash.now c.args.server.now.table.records c.args.offered.now.items c.remove.new.self.items c.args.at c.index.result.now (omega (arith, c.requires.within, c.args.offered.now.ok)) c.index.ensures c.remove.ensures.by_index.2
    (decided_applied (g.J.Judge.finds_fine c.args.judge.now) c.args.hash.now c.args.server.now.table.records (find_record c.args.server.now.table.records c.index.result.now) (ap (passes (has_applied (g.J.Judge.finds_fine c.args.judge.now) c.args.hash.now)) (sym c.find.ensures.found) ∙ sym c.in-Applied.ensures.applied))

pub returns-in-Applied-clause-applied : goal.returns-in-Applied-clause-applied
returns-in-Applied-clause-applied g c = taken_joins (g.J.Judge.finds_fine c.args.judge.now) c.args.hash.now c.args.server.now.table.records c.args.offered.now.items c.remove.new.self.items c.args.at c.index.result.now (omega (arith, c.requires.within, c.args.offered.now.ok)) c.index.ensures c.remove.ensures.by_index.2
    (has_applied (g.J.Judge.finds_fine c.args.judge.now) c.args.hash.now) c.args.applied.now.items _ c.put_last.ensures.items c.requires.undecided.none_applied (ap (passes (has_applied (g.J.Judge.finds_fine c.args.judge.now) c.args.hash.now)) (sym c.find.ensures.found) ∙ sym c.in-Applied.ensures.applied)

pub returns-in-Applied-clause-failed : goal.returns-in-Applied-clause-failed
returns-in-Applied-clause-failed g c = taken_not (g.J.Judge.finds_fine c.args.judge.now) c.args.hash.now c.args.server.now.table.records c.args.offered.now.items c.remove.new.self.items c.args.at c.index.result.now (omega (arith, c.requires.within, c.args.offered.now.ok)) c.index.ensures c.remove.ensures.by_index.2
    (has_failed (g.J.Judge.finds_fine c.args.judge.now) c.args.hash.now) c.args.failed.now.items (ap (passes (has_failed (g.J.Judge.finds_fine c.args.judge.now) c.args.hash.now)) (sym c.find.ensures.found) ∙ sym c.in-Applied.ensures.failed)

pub returns-in-Applied-clause-fewer : goal.returns-in-Applied-clause-fewer
returns-in-Applied-clause-fewer g c = λ uid there. taken_fewer (g.J.Judge.finds_fine c.args.judge.now) c.args.hash.now c.args.server.now.table.records c.args.offered.now.items c.remove.new.self.items c.args.at c.index.result.now (omega (arith, c.requires.within, c.args.offered.now.ok)) c.index.ensures c.remove.ensures.by_index.2 uid there

pub returns-in-Failed-clause-others : goal.returns-in-Failed-clause-others
returns-in-Failed-clause-others g c = taken_others (g.J.Judge.finds_fine c.args.judge.now) c.args.hash.now c.args.server.now.table.records c.args.offered.now.items c.remove-in-Failed.new.self.items c.args.at c.index.result.now (omega (arith, c.requires.within, c.args.offered.now.ok)) c.index.ensures c.remove-in-Failed.ensures.by_index.2
    (decided_failed (g.J.Judge.finds_fine c.args.judge.now) c.args.hash.now c.args.server.now.table.records (find_record c.args.server.now.table.records c.index.result.now) (ap (passes (has_failed (g.J.Judge.finds_fine c.args.judge.now) c.args.hash.now)) (sym c.find.ensures.found) ∙ sym c.in-Failed.ensures.failed))

pub returns-in-Failed-clause-failed : goal.returns-in-Failed-clause-failed
returns-in-Failed-clause-failed g c = taken_joins (g.J.Judge.finds_fine c.args.judge.now) c.args.hash.now c.args.server.now.table.records c.args.offered.now.items c.remove-in-Failed.new.self.items c.args.at c.index.result.now (omega (arith, c.requires.within, c.args.offered.now.ok)) c.index.ensures c.remove-in-Failed.ensures.by_index.2
    (has_failed (g.J.Judge.finds_fine c.args.judge.now) c.args.hash.now) c.args.failed.now.items _ c.put_last-in-Failed.ensures.items c.requires.undecided.none_failed (ap (passes (has_failed (g.J.Judge.finds_fine c.args.judge.now) c.args.hash.now)) (sym c.find.ensures.found) ∙ sym c.in-Failed.ensures.failed)

pub returns-in-Failed-clause-applied : goal.returns-in-Failed-clause-applied
returns-in-Failed-clause-applied g c = taken_not (g.J.Judge.finds_fine c.args.judge.now) c.args.hash.now c.args.server.now.table.records c.args.offered.now.items c.remove-in-Failed.new.self.items c.args.at c.index.result.now (omega (arith, c.requires.within, c.args.offered.now.ok)) c.index.ensures c.remove-in-Failed.ensures.by_index.2
    (has_applied (g.J.Judge.finds_fine c.args.judge.now) c.args.hash.now) c.args.applied.now.items (ap (passes (has_applied (g.J.Judge.finds_fine c.args.judge.now) c.args.hash.now)) (sym c.find.ensures.found) ∙ sym c.in-Failed.ensures.applied)

pub returns-in-Failed-clause-fewer : goal.returns-in-Failed-clause-fewer
returns-in-Failed-clause-fewer g c = λ uid there. taken_fewer (g.J.Judge.finds_fine c.args.judge.now) c.args.hash.now c.args.server.now.table.records c.args.offered.now.items c.remove-in-Failed.new.self.items c.args.at c.index.result.now (omega (arith, c.requires.within, c.args.offered.now.ok)) c.index.ensures c.remove-in-Failed.ensures.by_index.2 uid there

pub returns-in-Applied-clause-undecided : goal.returns-in-Applied-clause-undecided
returns-in-Applied-clause-undecided g c =
    subst (λ (uids : List (List ℕ)). AreUndecided (g.J.Judge.finds_fine c.args.judge.now) c.args.hash.now c.args.server.now.table.records uids)
    (front c.args.offered.now.items c.remove.new.self.items c.args.at (omega (arith, c.requires.within, c.args.offered.now.ok)) c.remove.ensures.by_index.2) c.requires.undecided

pub returns-in-Applied-clause-grown : goal.returns-in-Applied-clause-grown
returns-in-Applied-clause-grown g c = moved _ _ _ _ _ c.remove.ensures.len c.put_last.ensures.len

pub returns-in-Applied-clause-nearer : goal.returns-in-Applied-clause-nearer
returns-in-Applied-clause-nearer g c = nearer _ _ c.args.at c.remove.ensures.len

pub returns-in-Applied-clause-applied_grown : goal.returns-in-Applied-clause-applied_grown
returns-in-Applied-clause-applied_grown g c = longer _ _ c.put_last.ensures.len

pub returns-in-Applied-clause-applied_capacity : goal.returns-in-Applied-clause-applied_capacity
returns-in-Applied-clause-applied_capacity g c = c.put_last.ensures.capacity

pub returns-in-Failed-clause-undecided : goal.returns-in-Failed-clause-undecided
returns-in-Failed-clause-undecided g c =
    subst (λ (uids : List (List ℕ)). AreUndecided (g.J.Judge.finds_fine c.args.judge.now) c.args.hash.now c.args.server.now.table.records uids)
    (front c.args.offered.now.items c.remove-in-Failed.new.self.items c.args.at (omega (arith, c.requires.within, c.args.offered.now.ok)) c.remove-in-Failed.ensures.by_index.2) c.requires.undecided

pub returns-in-Failed-clause-grown : goal.returns-in-Failed-clause-grown
returns-in-Failed-clause-grown g c = moved_last _ _ _ _ _ c.remove-in-Failed.ensures.len c.put_last-in-Failed.ensures.len

pub returns-in-Failed-clause-nearer : goal.returns-in-Failed-clause-nearer
returns-in-Failed-clause-nearer g c = nearer _ _ c.args.at c.remove-in-Failed.ensures.len

pub returns-in-Failed-clause-failed_grown : goal.returns-in-Failed-clause-failed_grown
returns-in-Failed-clause-failed_grown g c = longer _ _ c.put_last-in-Failed.ensures.len

pub returns-in-Failed-clause-failed_capacity : goal.returns-in-Failed-clause-failed_capacity
returns-in-Failed-clause-failed_capacity g c = c.put_last-in-Failed.ensures.capacity

pub returns-in-Open-clause-undecided : goal.returns-in-Open-clause-undecided
returns-in-Open-clause-undecided g c = step_open (g.J.Judge.finds_fine c.args.judge.now) c.args.hash.now c.args.server.now.table.records c.args.offered.now.items c.args.at c.index.result.now (omega (arith, c.requires.within, c.args.offered.now.ok)) c.index.ensures c.requires.undecided
    (decided_not (g.J.Judge.finds_fine c.args.judge.now) c.args.hash.now c.args.server.now.table.records (find_record c.args.server.now.table.records c.index.result.now) (ap (passes (has_applied (g.J.Judge.finds_fine c.args.judge.now) c.args.hash.now)) (sym c.find.ensures.found) ∙ sym c.in-Open.ensures.applied) (ap (passes (has_failed (g.J.Judge.finds_fine c.args.judge.now) c.args.hash.now)) (sym c.find.ensures.found) ∙ sym c.in-Open.ensures.failed))
