use Rattle.std.proofs.Common.{take}
use Rattle.std.specs.Prelude.{filter, not, is_some}
use Rattle.plain_values.specs.Pairs.{value_at}
use Rattle.agent_packages.specs.Due.{IsGoneRemove, MakesOnly}
use Rattle.agent_packages.specs.Visits.{IsCleared}
use Rattle.agent_packages.specs.Touched.{is_named, gone_names}
use Rattle.agent_packages.proofs.Touching.{Keeps}
use Rattle.agent_packages.proofs.syncing.clear_all.Given as goal

abbrev pub invariant-loop-item : goal.invariant-loop-item
invariant-loop-item g l =
    IsCleared (g.F.Folder.state l.fn.folder) (g.F.Folder.state l.folder) (filter (λ item. not (is_some (value_at l.offered item.key))) (take l.item-index l.items)) l.fn.made l.made
    × Keeps (is_named (gone_names l.offered l.items)) (g.F.Folder.state l.fn.folder) (g.F.Folder.state l.folder)
    × MakesOnly (IsGoneRemove l.offered l.items) (g.F.Folder.state l.fn.folder) (g.F.Folder.state l.folder)
