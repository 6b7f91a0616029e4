-- Parts that are written and read again are the same, and never refused.
use Rattle.std.proofs.Common.{◌≡◌, ℕ, zero, suc, ◌<◌, ◌≤◌, ◌^◌, List, length, arith}
use Rattle.message_codec.specs.declared.wire.field.Why.{Why}
use Rattle.message_codec.specs.Tables.{Name}
use Rattle.message_codec.specs.Values.{Values}
use Rattle.message_codec.specs.Means.{Means}
use Rattle.message_codec.specs.Faults.{FirstFault}
use Rattle.message_codec.proofs.Laws.{no_fault}
use Rattle.message_codec.specs.Canonical.{canonical}
use Rattle.message_codec.specs.Levels.{levels}
use Rattle.message_codec.specs.Fits.{FitsMessage}
use Rattle.message_codec.proofs.CanonicalMeans.{canonical_means, canonical_same}
use Rattle.message_attributes.specs.ReadBack.{ReadsSame, IsNeverRefused}
use Rattle.message_attributes.proofs.Injective.{Tells}

pub reads_same : {T : Type 0} (name : Name) (columns : T → Values) (written : T → List ℕ) → ((m : T) → written m ≡ canonical name (columns m)) → ((m : T) → Tells columns m) → ReadsSame name columns written
reads_same name columns written is tells zero m n h means = absurd means
reads_same name columns written is tells (suc below) m n h means =
    tells n m (canonical_same below name (columns m) (columns n) h.fits (omega (arith, h.shallow)) (omega (arith, rw (is m) at h.short)) (rw (is m) at means))

fault_none : (below : ℕ) (name : Name) (vs : Values) (at : ℕ) (why : Why) → FitsMessage name vs → levels vs ≤ suc below → length (canonical name vs) < 2 ^ 62 → FirstFault (suc below) name (canonical name vs) at why → ⊥
fault_none below name vs at why fits shallow short fault =
    let means : Means (suc below) name (canonical name vs) vs = canonical_means below name vs fits (omega (arith, shallow)) (omega (arith, short)) in
    no_fault (suc below) name (canonical name vs) at why (means.0, means.1, means.2) fault

pub never_refused : {T : Type 0} (name : Name) (columns : T → Values) (written : T → List ℕ) → ((m : T) → written m ≡ canonical name (columns m)) → IsNeverRefused name columns written
never_refused name columns written is zero from m at why h fault = absurd fault.fault
never_refused name columns written is (suc below) from m at why h fault =
    fault_none below name (columns m) fault.inner why h.fits h.shallow (rw (is m) at h.short) (rw (is m) at fault.fault)
