use Rattle.std.specs.Int.{w64}
use Rattle.std.proofs.Math.Facts.{sfits_lit, yes_ltb}
use Rattle.std.proofs.lemmas.Int.{to_z-of_z}
use Rattle.message_attributes.proofs.AnyLaws.{any_shape, any_text, any_bool, any_int, any_double, any_bytes, text_chosen, truth_chosen, signed_chosen, double_chosen, blob_chosen}
use Rattle.message_attributes.proofs.any.take_plain.Goals as goal

pub returns-in-2-Varint-clause-ok : goal.returns-in-2-Varint-clause-ok
returns-in-2-Varint-clause-ok c below = rw (c.set-in-2-Varint.ensures, c.in-2-Varint.is-0, c.in-2-Varint.is-1, any_bool, any_shape c.args.any.now) (truth_chosen c.in-2-Varint.x _)

pub returns-in-4-Eight-clause-ok : goal.returns-in-4-Eight-clause-ok
returns-in-4-Eight-clause-ok c below = rw (c.set-in-4-Eight.ensures, c.in-4-Eight.is-0, c.in-4-Eight.is-1, any_double, any_shape c.args.any.now) (double_chosen c.in-4-Eight.x _)

pub returns-in_ok-text-in-1-Bytes-clause-ok : goal.returns-in_ok-text-in-1-Bytes-clause-ok
returns-in_ok-text-in-1-Bytes-clause-ok c below =
    let text = c.in_ok-text-in-1-Bytes.ensures.ok in
    rw (c.set.ensures, c.in-1-Bytes.is-0, c.in-1-Bytes.is-1, text.0, any_text, any_shape c.args.any.now) (text_chosen _ _ (rw text.0 at text.1))

pub returns-in-3-Varint-clause-ok : goal.returns-in-3-Varint-clause-ok
returns-in-3-Varint-clause-ok c below =
    rw (c.set-in-3-Varint.ensures, c.in-3-Varint.is-0, c.in-3-Varint.is-1, to_z-of_z w64 c.cast_signed.result (sfits_lit (yes_ltb c.cast_signed.type_inv)), c.cast_signed.ensures, any_int, any_shape c.args.any.now) (signed_chosen c.in-3-Varint.x _)

pub returns-in_ok-blob-in-7-Bytes-clause-ok : goal.returns-in_ok-blob-in-7-Bytes-clause-ok
returns-in_ok-blob-in-7-Bytes-clause-ok c below =
    rw (c.set-in-7-Bytes.ensures, c.in-7-Bytes.is-0, c.in-7-Bytes.is-1, c.of.ensures.value, c.in_ok-blob-in-7-Bytes.ensures.items, any_bytes, any_shape c.args.any.now) (blob_chosen _ _)
