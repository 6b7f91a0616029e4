use Rattle.std.proofs.Common.{take}
use Rattle.agent_config.proofs.Bringing.{Writes}
use Rattle.agent_config.proofs.area.write_files.Given as goal

abbrev pub invariant-loop-file : goal.invariant-loop-file
invariant-loop-file g l = Writes (g.F.Folder.state l.fn.folder) (g.F.Folder.state l.folder) (take l.file-index l.files)
