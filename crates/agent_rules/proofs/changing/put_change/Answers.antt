use Rattle.std.proofs.Common.{◌≡◌, length, arith}
use Rattle.std.proofs.lemmas.Result.{err_from_is_err_and}
use Rattle.message_codec.proofs.Canonical.{capped_is}
use Rattle.agent_rules.specs.Spelled.{change}
use Rattle.agent_rules.proofs.Steps.{change_roomy}
use Rattle.agent_rules.proofs.changing.put_change.Goals as goal

pub returns-in_err-reserve : goal.returns-in_err-reserve
returns-in_err-reserve c =
    let measured : c.change_len.result ≡ length (change c.args.former.now c.args.next.now) = capped_is c.change_len.result _ c.change_len.ensures.counts c.requires.few in
    let p = err_from_is_err_and c.from_residual.result c.from_residual.ensures.1 in
    rw p.1 (record { appends = record { ok = tt; err = c.in_err-reserve.ensures.err; within = λ le. c.in_err-reserve.ensures.within (omega (arith, measured, le)) } })

pub returns : goal.returns
returns c =
    let measured : c.change_len.result ≡ length (change c.args.former.now c.args.next.now) = capped_is c.change_len.result _ c.change_len.ensures.counts c.requires.few in
    record { appends = change_roomy c.put_from.result c.args.out.now c.reserve.new.self c.put_from.new.out c.change_len.result c.args.former.now c.args.next.now c.in_ok-reserve.ensures.ok measured c.put_from.ensures.puts }
