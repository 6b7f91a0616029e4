use Rattle.std.proofs.Common.{refl}
use Rattle.message_codec.specs.Tables as tables
use Rattle.message_codec.specs.Values.{Several}
use Rattle.message_codec.specs.Read.{each_of}
use Rattle.message_codec.specs.Openings.{ClosesColumn, ClosesIn}
use Rattle.message_attributes.specs.AnyColumns.{any_columns, list_columns}
use Rattle.message_attributes.specs.Pieces.{part_columns}
use Rattle.message_attributes.proofs.PartLaws.{array_parts, on_ok}
use Rattle.message_attributes.proofs.pieces.close_array.Goals as goal

pub returns-in-Any : goal.returns-in-Any
returns-in-Any c =
    let a = array_parts c.args.number tables.AnyValue (rw c.in-Any.is at c.requires.part) in
    record { closes = rw (a.number_is, c.in-Any.is) (on_ok c.close_many.result _ _ (λ k. (k, tt)) c.close_many.ensures.closes) }
