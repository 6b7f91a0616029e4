use Rattle.std.proofs.Common.{arith}
use Rattle.message_codec.specs.Tables.{rows_of}
use Rattle.message_codec.proofs.Canonical.{needed_is, roomy}
use Rattle.agent_rules.proofs.written.append_counted.Goals as goal

pub put-requires : goal.put-requires
put-requires g c = record { few = omega (arith, c.requires.few, needed_is (rows_of g.M.Written.name) (g.M.Written.columns c.args.message.now)) }

pub returns : goal.returns
returns g c =
    record { appends = roomy c.put.result c.args.out.now c.reserve.new.self c.put.new.out c.args.len (rows_of g.M.Written.name) (g.M.Written.columns c.args.message.now) c.in_ok-reserve.ensures.ok c.requires.counted c.put.ensures.ok c.put.ensures.short }
