-- What is written means what was written, and no other value is written so.
use Rattle.std.specs.Prelude.{◌≡◌, ◌<◌, ◌^◌, ℕ, List, length, IsTrue, Some, refl}
use Rattle.std.proofs.Common.{subst, arith}
use Rattle.message_codec.specs.Tables as tables
use Rattle.message_codec.proofs.CanonicalMeans.{canonical_means}
use Rattle.agent_rules.specs.declared.saved.Saved.{Saved}
use Rattle.agent_rules.specs.Columns.{saved_columns}
use Rattle.agent_rules.specs.Payloads.{MeansFields, canonical_saved, FitsTypes}
use Rattle.agent_rules.specs.Right.{is_right}
use Rattle.agent_rules.specs.Codec.{meaning}
use Rattle.agent_rules.specs.Next.{fields_one}
use Rattle.agent_rules.specs.Tells.{saved_columns_tell, saved_shallow}

-- what is written means what was written
pub written_fields : (s : Saved) → FitsTypes s → length (canonical_saved s) < 2 ^ 62 → MeansFields (canonical_saved s) (saved_columns s)
unfolding canonical_saved
written_fields s typed few = record {
  columns = saved_columns s;
  means = canonical_means 99 tables.SavedState (saved_columns s) typed.fits (saved_shallow s) (omega (arith, few));
  filled = refl;
}

-- values with the same canonical bytes are the same
pub one_value : (a b : Saved) → IsTrue (is_right a) → FitsTypes a → IsTrue (is_right b) → FitsTypes b → length (canonical_saved a) < 2 ^ 62 → meaning (canonical_saved a) ≡ Some (canonical_saved a) → canonical_saved a ≡ canonical_saved b → a ≡ b
one_value a b right typed right' typed' few means e =
    let other = written_fields b typed' (subst (λ (bytes : List ℕ). length bytes < 2 ^ 62) e few) in
    saved_columns_tell a b (fields_one (canonical_saved b) (saved_columns a) (saved_columns b) (subst (λ (bytes : List ℕ). MeansFields bytes (saved_columns a)) e (written_fields a typed few)) other)
