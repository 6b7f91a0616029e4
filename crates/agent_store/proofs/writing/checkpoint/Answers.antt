use Rattle.std.proofs.Common.{◌≡◌, length, sym, ◌∙◌, ap, arith}
use Rattle.edge_devices.proofs.DiskMoments.{ok_part}
use Rattle.agent_store.specs.Slots.{body_bytes}
use Rattle.agent_store.proofs.Saving.{length-body}
use Rattle.agent_store.proofs.writing.checkpoint.Goals as goal

pub write_slot-requires-clause-short : goal.write_slot-requires-clause-short
write_slot-requires-clause-short g c =
    let body = body_bytes c.args.generation c.args.payload.now in
    let is_body : c.as_slice.result.now ≡ body = c.as_slice.ensures.bytes ∙ ok_part c.fill_body.result (c.fill_body.new.row.bytes ≡ body) (sym c.is_err.ensures.value ∙ c.if-is_err.false) c.fill_body.ensures.bytes in
    omega (arith, ap length is_body, length-body c.args.generation c.args.payload.now, c.requires.short)
