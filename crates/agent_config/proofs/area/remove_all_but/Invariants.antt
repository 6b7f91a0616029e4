use Rattle.std.proofs.Common.{take}
use Rattle.agent_config.proofs.Bringing.{Removes}
use Rattle.agent_config.proofs.area.remove_all_but.Given as goal

abbrev pub invariant-loop-name : goal.invariant-loop-name
invariant-loop-name g l = Removes (g.F.Folder.state l.fn.folder) (g.F.Folder.state l.folder) l.files (take l.name-index l.names)
