-- The bytes of a reply that tells capabilities alone.
use Rattle.std.proofs.Common.{◌≡◌, ℕ, List, [], ◌∷◌, ◌++◌, length, ap, sym, ◌∙◌, arith, append_assoc, append-nil, Result, Ok, Err, OnOk}
use Rattle.message_codec.specs.Row.{Row, appended}
use Rattle.message_codec.specs.Tables.{Blob, Unsigned}
use Rattle.message_codec.specs.Values.{Content, Number}
use Rattle.message_codec.specs.Canonical.{Puts, column_bytes, part_spelling}
use Rattle.message_replies.specs.Canonical.{canonical_reply}
use Rattle.server_core.specs.Replies.{bare_reply}

regrouped : (a b : List ℕ) → (((((((((a ++ []) ++ []) ++ []) ++ []) ++ []) ++ b) ++ []) ++ []) ++ []) ++ [] ≡ a ++ b
regrouped a b = simp append-nil

-- the two fields, one after the other
fields_are : (uid : List ℕ) (capabilities : ℕ) → canonical_reply (bare_reply uid capabilities) ≡ column_bytes 1 Blob (Content uid) ++ column_bytes 7 Unsigned (Number capabilities)
unfolding canonical_reply
fields_are uid capabilities = regrouped (column_bytes 1 Blob (Content uid)) (column_bytes 7 Unsigned (Number capabilities))

uid_field : (uid : List ℕ) → length uid ≡ 16 → column_bytes 1 Blob (Content uid) ≡ part_spelling 1 uid
uid_field [] long = absurd (omega (arith, long))
uid_field (b ∷ bs) long = append-nil (part_spelling 1 (b ∷ bs))

-- both fields were appended
pub both_put : {E : Type 0} (a b c : Row) (uid : List ℕ) (capabilities : ℕ) (r : Result Unit E) → length uid ≡ 16 → b ≡ appended a (part_spelling 1 uid)
    → Puts b c (column_bytes 7 Unsigned (Number capabilities)) r → OnOk r (c.bytes ≡ a.bytes ++ canonical_reply (bare_reply uid capabilities))
both_put a b c uid capabilities (Ok done) long first second =
    let one = part_spelling 1 uid in
    let other = column_bytes 7 Unsigned (Number capabilities) in
    let whole : canonical_reply (bare_reply uid capabilities) ≡ one ++ other = fields_are uid capabilities ∙ ap (λ (xs : List ℕ). xs ++ other) (uid_field uid long) in
    ap (λ (row : Row). row.bytes) second.ok ∙ ap (λ (row : Row). row.bytes ++ other) first ∙ append_assoc a.bytes one other ∙ ap (λ (xs : List ℕ). a.bytes ++ xs) (sym whole)
both_put a b c uid capabilities (Err e) long first second = tt

-- bytes, and the reply behind them
pub put_after : {E : Type 0} (a b c d : Row) (spare : ℕ) (front reply : List ℕ) (r : Result Unit E) → b ≡ record a { spare = spare } → c ≡ appended b front
    → OnOk r (d.bytes ≡ c.bytes ++ reply) → OnOk r (d.bytes ≡ a.bytes ++ (front ++ reply))
put_after a b c d spare front reply (Ok done) room first second =
    second ∙ ap (λ (row : Row). row.bytes ++ reply) first ∙ ap (λ (row : Row). (row.bytes ++ front) ++ reply) room ∙ append_assoc a.bytes front reply
put_after a b c d spare front reply (Err e) room first second = tt
