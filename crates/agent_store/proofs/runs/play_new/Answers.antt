use Rattle.std.proofs.Common.{arith}
use Rattle.edge_devices.specs.MemoryDisks.{memory_disk}
use Rattle.agent_store.proofs.Undamaged.{new-undamaged}
use Rattle.agent_store.proofs.runs.play_new.Goals as goal

pub play-requires : goal.play-requires
play-requires g c = record { whole = new-undamaged g.P.Payload.codec c.args.layout (memory_disk c.new-disk.result) c.new-disk.ensures.settled c.new-disk.ensures.blank }

pub returns-clause-never : goal.returns-clause-never
returns-clause-never g c = λ t image to left. c.play.ensures.never.each t image (omega (arith, c.new-disk.ensures.first)) to left
