-- No message begins with the byte of a WebSocket message's header.
use Rattle.std.proofs.Common.{◌≡◌, ℕ, zero, suc, ◌≤◌, List, [], ◌∷◌, ◌++◌, refl, sym, ◌∙◌, ap, subst, arith, append_assoc}
use Rattle.message_codec.specs.Fields.{WireField, Fields}
use Rattle.message_codec.specs.Varint.{Spells}
use Rattle.message_codec.specs.Tables.{Name}
use Rattle.message_codec.specs.Values.{Values}
use Rattle.message_codec.specs.Means.{Means}
use Rattle.message_replies.specs.Header.{payload_of}

tag_stays : (tag rest : List ℕ) (n : ℕ) → 8 ≤ n → Spells tag n → payload_of (tag ++ rest) ≡ tag ++ rest
tag_stays [] rest n known spells = absurd spells
tag_stays (zero ∷ []) rest n known spells = absurd (omega (arith, spells.1))
tag_stays (suc b ∷ []) rest n known spells = refl
tag_stays (zero ∷ c ∷ bytes) rest n known spells = absurd (omega (arith, spells.0))
tag_stays (suc b ∷ c ∷ bytes) rest n known spells = refl

fields_stay : (fields : List WireField) (bytes : List ℕ) → Fields bytes fields → payload_of bytes ≡ bytes
fields_stay [] bytes none = rw none refl
fields_stay (field ∷ fields) bytes (front, rest, whole, spells, more) =
    let parts = whole ∙ ap (λ (front : List ℕ). front ++ rest) spells.whole ∙ append_assoc spells.tag spells.rest rest in
    subst (λ (bytes : List ℕ). payload_of bytes ≡ bytes) (sym parts) (tag_stays spells.tag (spells.rest ++ rest) _ spells.is_tag.0 spells.tags.groups)

pub message_stays : (levels : ℕ) (name : Name) (bytes : List ℕ) (columns : Values) → Means levels name bytes columns → payload_of bytes ≡ bytes
message_stays zero name bytes columns means = absurd means
message_stays (suc levels) name bytes columns means = fields_stay means.0 bytes means.1
