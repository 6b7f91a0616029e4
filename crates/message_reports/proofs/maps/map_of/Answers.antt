use Rattle.std.proofs.Common.{◌∙◌, sym}
use Rattle.plain_values.proofs.EntryLemmas.{put_all-ascending}
use Rattle.message_reports.proofs.maps.map_of.Goals as goal

pub returns-then-ascends : goal.returns-then-ascends
returns-then-ascends g c =
    let up = rw c.as_slice.ensures.value at (c.ascends.ensures.order c.if-ascends.true) in
    record { value = c.from_ascending.ensures.value ∙ c.into_vec.ensures.value ∙ sym (put_all-ascending c.args.entries up) }
