-- Families of which bytes have one meaning or one fault.
use Rattle.std.proofs.Common.{◌≡◌, ℕ, ◌≤◌, ◌⊎◌, List, ap, ◌∙◌}
use Rattle.std.specs.Prelude.{Result, Ok, Err}
use Rattle.message_codec.specs.declared.wire.field.Why.{Why}
use Rattle.message_codec.specs.Fields.{AreBytes}
use Rattle.message_codec.specs.declared.reader.items.ReadFail.{ReadFail}
use Rattle.message_codec.specs.declared.reader.items.ReadFail.TheVariants as fails
use Rattle.message_codec.specs.Read.{Refuses, FailsWith}
use Rattle.message_codec.specs.Faults.{SameFault}
use Rattle.command_streams.specs.Made.{HasFault}
use Rattle.command_frames.specs.Families.{Family}

-- what holds of a family
pub record IsDecided {Message : Type 0} (family : Family Message) : Type 0 where
  pub one : (bytes : List ℕ) (m n : Message) → family.means bytes m → family.means bytes n → m ≡ n
  pub never_both : (bytes : List ℕ) (m : Message) (at : ℕ) (why : Why) → family.means bytes m → family.fault bytes at why → ⊥
  pub one_fault : (bytes : List ℕ) (i j : ℕ) (v w : Why) → family.fault bytes i v → family.fault bytes j w → SameFault i j v w

-- and that bytes have a meaning or a fault
abbrev pub MeansOrFails : {Message : Type 0} → Family Message → Type 0
MeansOrFails {Message} family = (bytes : List ℕ) → AreBytes bytes → ((m : Message) × family.means bytes m) ⊎ ((at : ℕ) × (why : Why) × family.fault bytes at why)

pub same_fault : {Message : Type 0} (family : Family Message) → IsDecided family → (bytes : List ℕ) (i j : ℕ) (v w : Why) → family.fault bytes i v → family.fault bytes j w → HasFault i v ≡ HasFault j w
same_fault family decided bytes i j v w p q =
    let same = decided.one_fault bytes i j v w p q in
    ap (λ (k : ℕ). HasFault k v) same.at ∙ ap (λ (u : Why). HasFault j u) same.why

-- ---- a fault lies within the bytes

pub refused_within : (len : ℕ) (fault : ℕ → Why → Type 0) (fail : ReadFail) → ((at : ℕ) (why : Why) → fault at why → at ≤ len) → Refuses fail fault → Refuses fail (λ at why. at ≤ len)
refused_within len fault (fails.Refused e) within refused = within e.at e.why refused
refused_within len fault fails.NoMemory within refused = tt

pub fails_within : {T : Type 0} (len : ℕ) (fault : ℕ → Why → Type 0) (r : Result T ReadFail) → ((at : ℕ) (why : Why) → fault at why → at ≤ len) → FailsWith r fault → FailsWith r (λ at why. at ≤ len)
fails_within len fault (Ok x) within refused = tt
fails_within len fault (Err fail) within refused = refused_within len fault fail within refused
