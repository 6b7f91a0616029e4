use Rattle.std.proofs.Common.{◌≡◌, ◌+◌, ◌++◌, ◌≤◌, List, ℕ, length, take, drop, arith, sym, subst, ap, ◌∙◌}
use Rattle.std.proofs.lemmas.Grind.{common_steps}
use Rattle.std.proofs.lemmas.List.{drop_all}
use Rattle.edge_devices.specs.Objects.{SourceState}
use Rattle.edge_devices.proofs.memory.MemorySourceSource.take.Goals as goal

pub returns-clause-bytes : goal.returns-clause-bytes
returns-clause-bytes c =
    let bytes = c.self.inside.bytes.items in
    let at = c.self.inside.at in
    let count = c.move_front-count.result in
    let left = sym (ap (λ (s : SourceState). s.left) c.self.view_is) in
    let long = ap length c.deref-2.ensures.value in (
      left ∙ subst (λ (bytes : List ℕ). drop at bytes ≡ take count c.move_front-count.new.into ++ drop (at + count) bytes) c.deref-2.ensures.value c.move_front-count.ensures.front,
      λ none room. let past : length bytes ≤ at + count = grind (arith, common_steps) in drop_all _ _ past,
    )
