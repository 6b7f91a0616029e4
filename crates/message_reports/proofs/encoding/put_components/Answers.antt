use Rattle.std.proofs.Common.{ap}
use Rattle.message_codec.specs.Row.{Row}
use Rattle.message_reports.proofs.ComponentsWritten.{components_put}
use Rattle.message_reports.proofs.encoding.put_components.Goals as goal

pub returns : goal.returns
returns c = record { puts = components_put c.put_map.result c.args.components.now c.args.out.now c.reserve.new.self c.put_map.new.out (ap (λ (r : Row). r.bytes) c.in_ok-reserve.ensures.ok) c.put_map.ensures.puts }
