use Rattle.std.proofs.Common.{refl}
use Rattle.message_codec.specs.Tables as tables
use Rattle.message_reports.specs.Pieces.{part_name}
use Rattle.message_reports.proofs.PartsHeld.{entry_parts, is_details}
use Rattle.message_reports.proofs.pieces.close_details_entry.Goals as goal

pub returns-in-Details : goal.returns-in-Details
returns-in-Details c =
    let a = entry_parts tables.ComponentDetails c.args.number tables.ComponentDetails (rw c.in-Details.is at c.requires.part) in
    record { closes = rw (a.number_is, c.in-Details.is) (refl, (refl, tt)) }

pub returns-in_default : goal.returns-in_default
returns-in_default c = absurd (is_details c.args.part (entry_parts tables.ComponentDetails c.args.number (part_name c.args.part) c.requires.part).name_is c.in_default.not-Details)
