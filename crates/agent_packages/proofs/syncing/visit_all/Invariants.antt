use Rattle.std.proofs.Common.{take}
use Rattle.agent_packages.specs.Due.{AsksOnly, IsDueFetch, IsFetchedWrite, MakesOnly}
use Rattle.agent_packages.specs.Visits.{IsVisited}
use Rattle.agent_packages.specs.Touched.{is_named, fetched_names}
use Rattle.agent_packages.proofs.Touching.{Keeps}
use Rattle.agent_packages.proofs.syncing.visit_all.Given as goal

abbrev pub invariant-loop-item : goal.invariant-loop-item
invariant-loop-item g l =
    IsVisited (g.G.Dialer.state l.fn.dialer) (g.G.Dialer.state l.dialer) (g.F.Folder.state l.fn.folder) (g.F.Folder.state l.folder) l.held (take l.item-index l.items) l.fn.made l.made
    × Keeps (is_named (fetched_names l.held l.items)) (g.F.Folder.state l.fn.folder) (g.F.Folder.state l.folder)
    × MakesOnly (IsFetchedWrite l.held l.items) (g.F.Folder.state l.fn.folder) (g.F.Folder.state l.folder)
    × AsksOnly (IsDueFetch l.held l.items) (g.G.Dialer.state l.fn.dialer) (g.G.Dialer.state l.dialer)
