-- The lengths of a component's details, and of the components that a hash is made of.
use Rattle.std.proofs.Common.{◌≡◌, ℕ, ◌<◌, ◌≤◌, ◌^◌, List, [], ◌∷◌, ◌++◌, length, refl, ap, sym, ◌∙◌, arith}
use Rattle.std.specs.Prelude.{Result, Ok, Err, IfOk, OnOk}
use Rattle.message_codec.specs.Row.{Row}
use Rattle.plain_values.specs.declared.maps.Pair.{Pair}
use Rattle.message_values.specs.declared.components.ComponentDetails.{ComponentDetails}
use Rattle.sha2.specs.Sha256.{sha256}
use Rattle.message_codec.specs.Tables as tables
use Rattle.message_codec.specs.Tables.{Keyed}
use Rattle.message_codec.specs.Values.{Several}
use Rattle.message_codec.specs.Means.{entries_of}
use Rattle.message_codec.proofs.ColumnLaws.{append-nothing}
use Rattle.message_codec.specs.Canonical.{capped, column_bytes, plus_length, Puts}
use Rattle.message_codec.proofs.Canonical.{count_first, count_more}
use Rattle.message_reports.specs.ComponentColumns.{details_columns}
use Rattle.message_reports.specs.Components.{canonical_components, components_hash}

-- two columns
pub two_counted : (a b : List ℕ) (first whole : ℕ) → first ≡ plus_length 0 a → whole ≡ plus_length first b → whole ≡ capped (a ++ b)
two_counted a b first whole p q = q ∙ ap (λ (n : ℕ). plus_length n b) (p ∙ count_first a) ∙ count_more a b

-- bytes that were counted below the limit are as many as were counted, and others are not fewer than 2^62
pub counted_few : (len : ℕ) (bytes : List ℕ) → len ≡ plus_length 0 bytes → len < 2 ^ 62 → length bytes < 2 ^ 62
unfolding plus_length
counted_few len bytes e few = omega arith

pub counted_many : (len : ℕ) (bytes : List ℕ) → len ≡ plus_length 0 bytes → 2 ^ 62 ≤ len → length bytes < 2 ^ 62 → ⊥
unfolding plus_length
counted_many len bytes e many few = omega arith

-- ---- the hash

pub components_are : (ps : List (Pair ComponentDetails)) → column_bytes 1 (Keyed tables.ComponentDetails) (Several (entries_of details_columns ps)) ≡ canonical_components ps
unfolding canonical_components
components_are ps = sym (append-nothing (column_bytes 1 (Keyed tables.ComponentDetails) (Several (entries_of details_columns ps))))

-- they are appended, whatever the spare was
pub components_put : {E : Type 0} (outcome : Result Unit E) (ps : List (Pair ComponentDetails)) (old middle new : Row) → middle.bytes ≡ old.bytes → Puts middle new (column_bytes 1 (Keyed tables.ComponentDetails) (Several (entries_of details_columns ps))) outcome
    → OnOk outcome (new.bytes ≡ old.bytes ++ canonical_components ps)
components_put (Ok u) ps old middle new same puts =
    ap (λ (r : Row). r.bytes) puts.ok ∙ ap (λ (xs : List ℕ). xs ++ column_bytes 1 (Keyed tables.ComponentDetails) (Several (entries_of details_columns ps))) same ∙ ap (λ (xs : List ℕ). old.bytes ++ xs) (components_are ps)
components_put (Err e) ps old middle new same puts = tt

pub none_hashed : (ps : List (Pair ComponentDetails)) (hash : List ℕ) → ps ≡ [] → hash ≡ [] → hash ≡ components_hash ps
none_hashed ps hash none empty = empty ∙ ap components_hash (sym none)

hash_is : (ps : List (Pair ComponentDetails)) → (ps ≡ [] → ⊥) → components_hash ps ≡ sha256 (canonical_components ps)
hash_is [] some = absurd (some refl)
hash_is (p ∷ ps) some = refl

pub some_hashed : {E : Type 0} (outcome : Result (List ℕ) E) (ps : List (Pair ComponentDetails)) (row : Row) → row.bytes ≡ canonical_components ps → (ps ≡ [] → ⊥) → IfOk outcome (λ hash. hash ≡ sha256 row.bytes) → IfOk outcome (λ hash. hash ≡ components_hash ps)
some_hashed (Ok hash) ps row are some is = is ∙ ap sha256 are ∙ sym (hash_is ps some)
some_hashed (Err e) ps row are some is = tt
