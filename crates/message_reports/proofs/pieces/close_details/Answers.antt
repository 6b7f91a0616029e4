use Rattle.std.proofs.Common.{refl}
use Rattle.message_attributes.specs.AnyColumns.{pair_columns}
use Rattle.message_reports.specs.ComponentColumns.{details_entry_draft_columns}
use Rattle.message_reports.specs.Pieces.{part_columns}
use Rattle.message_attributes.proofs.PartLaws.{on_ok}
use Rattle.message_reports.proofs.PieceLaws.{same_present}
use Rattle.message_reports.proofs.pieces.close_details.Goals as goal

pub returns-in-Some : goal.returns-in-Some
returns-in-Some c =
    let e = same_present (details_entry_draft_columns c.in-Some.entry) (part_columns c.args.part) c.in-Some.ensures.columns in
    record { closes = rw (c.in-2.is, e) (on_ok c.put_details.result _ _ (λ k. (refl, (k, tt))) c.put_details.ensures.closes) }

pub returns-in-Some-attribute_in : goal.returns-in-Some-attribute_in
returns-in-Some-attribute_in c =
    let e = same_present (pair_columns c.in-Some-attribute_in.pair) (part_columns c.args.part) c.in-Some-attribute_in.ensures.columns in
    record { closes = rw (c.in-1.is, e) (on_ok c.close_many.result _ _ (λ k. (k, (refl, tt))) c.close_many.ensures.closes) }
