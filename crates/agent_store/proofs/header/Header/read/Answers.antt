use Rattle.edge_devices.specs.Disks.{disk_bytes}
use Rattle.agent_store.proofs.header.Header.read.Goals as goal

pub returns-clause-header : goal.returns-clause-header
returns-clause-header g c = λ told. c.of.ensures (disk_bytes (g.D.Disk.state c.args.disk.now)) c.args.at (c.in_ok-read.ensures.gives told)
