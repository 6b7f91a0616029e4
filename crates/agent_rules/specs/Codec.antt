-- Payloads and changes as functions over bytes, as a store sees them.
use Rattle.std.specs.Prelude.{ℕ, List, Option, Some, None, cond}
use Rattle.std.proofs.Common.{inl, inr}
use Rattle.message_codec.specs.Tables as tables
use Rattle.message_codec.specs.Values.{Values}
use Rattle.message_codec.specs.Canonical.{canonical}
use Rattle.agent_store.specs.Codecs.{Codec}
use Rattle.agent_rules.specs.Payloads.{MeansFields}
use Rattle.agent_rules.specs.Changes.{Changes}
use Rattle.agent_rules.specs.Right.{are_right}
use Rattle.agent_rules.specs.Spelled.{change}
use Rattle.agent_rules.specs.Deciding.{Decided}
use Rattle.agent_rules.specs.Next.{fields_or, changes_or}

-- the columns, where they may be kept
abbrev pub kept_if : Values → Option Values
kept_if vs = cond (are_right vs) (Some vs) None

abbrev pub found_in : (P : Values → Type 0) → Decided ((vs : Values) × P vs) → Option Values
found_in P (inl found) = kept_if found.0
found_in P (inr never) = None

-- the columns that bytes mean and that may be kept
unfoldable pub value_of : List ℕ → Option Values
value_of payload = found_in (MeansFields payload) (fields_or payload)

-- and those that a change leads to
unfoldable pub next_of : List ℕ → Values → Option Values
next_of fields vs = found_in (Changes fields vs) (changes_or fields vs)

abbrev pub canonical_if : Option Values → Option (List ℕ)
canonical_if None = None
canonical_if (Some vs) = Some (canonical tables.SavedState vs)

abbrev pub after : Option Values → List ℕ → Option Values
after None fields = None
after (Some vs) fields = next_of fields vs

-- the canonical bytes of what a payload means
unfoldable pub meaning : List ℕ → Option (List ℕ)
meaning payload = canonical_if (value_of payload)

-- the canonical bytes of what a change makes of what a payload means
unfoldable pub changed : List ℕ → List ℕ → Option (List ℕ)
changed former fields = canonical_if (after (value_of former) fields)

abbrev pub codec : Codec
codec = record { meaning = meaning; change = change; changed = changed }
