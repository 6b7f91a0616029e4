use Rattle.std.proofs.Common.{refl}
use Rattle.message_codec.specs.Tables as tables
use Rattle.message_attributes.proofs.PartLaws.{on_ok}
use Rattle.message_reports.specs.Pieces.{part_name}
use Rattle.message_reports.proofs.PartsHeld.{components_parts, is_details_entry}
use Rattle.message_reports.proofs.pieces.close_components.Goals as goal

pub returns-in-DetailsEntry : goal.returns-in-DetailsEntry
returns-in-DetailsEntry c =
    let a = components_parts c.args.number (tables.Entry tables.ComponentDetails) (rw c.in-DetailsEntry.is at c.requires.part) in
    record { closes = rw (a.number_is, c.in-DetailsEntry.is) (on_ok c.put_details.result _ _ (λ k. (k, (refl, tt))) c.put_details.ensures.closes) }

pub returns-in_default : goal.returns-in_default
returns-in_default c = absurd (is_details_entry c.args.part (components_parts c.args.number (part_name c.args.part) c.requires.part).name_is c.in_default.not-DetailsEntry)
