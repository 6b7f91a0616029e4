use Rattle.std.proofs.Common.{refl}
use Rattle.message_codec.specs.Tables as tables
use Rattle.message_codec.specs.Values.{Several}
use Rattle.message_codec.specs.Read.{each_of}
use Rattle.message_codec.specs.Openings.{ClosesColumn, ClosesIn}
use Rattle.message_attributes.specs.AnyColumns.{pair_columns, list_columns}
use Rattle.message_attributes.specs.Pieces.{part_columns}
use Rattle.message_attributes.proofs.PartLaws.{pairs_parts, on_ok}
use Rattle.message_attributes.proofs.pieces.close_pairs.Goals as goal

pub returns-in-Pair : goal.returns-in-Pair
returns-in-Pair c =
    let a = pairs_parts c.args.number tables.KeyValue (rw c.in-Pair.is at c.requires.part) in
    record { closes = rw (a.number_is, c.in-Pair.is) (on_ok c.close_many.result _ _ (λ k. (k, tt)) c.close_many.ensures.closes) }
