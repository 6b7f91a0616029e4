-- A disk holds one part.
use Rattle.std.specs.Prelude.{◌≡◌, ◌<◌, ◌^◌, ℕ, List, [], length}
use Rattle.std.proofs.Common.{sym, ◌∙◌, ap}
use Rattle.edge_devices.specs.Disks.{DiskState}
use Rattle.agent_store.specs.Codecs.{IsRight}
use Rattle.agent_store.specs.Slots.{Reading, Nothing, Holds, Damaged}
use Rattle.store_tests.specs.Keeping.{HoldsPart, Meaning}

abbrev bytes_in : Reading → List ℕ
bytes_in Nothing = []
bytes_in (Holds bytes) = bytes
bytes_in (Damaged slot) = []

-- values with the same canonical bytes are the same, where these mean themselves
abbrev pub IsTold : {P : Type 0} → (P → Type 0) → (P → Type 0) → Meaning P → Type 0
IsTold {P} right typed meaning = (a b : P) → right a → typed a → right b → typed b → length (meaning.canonical a) < 2 ^ 62
    → IsRight meaning.codec (meaning.canonical a) → meaning.canonical a ≡ meaning.canonical b → a ≡ b

pub one_part : {P : Type 0} (right typed : P → Type 0) (meaning : Meaning P) → IsTold right typed meaning → (disk : DiskState) (a b : P)
    → HoldsPart right typed meaning disk a → HoldsPart right typed meaning disk b → a ≡ b
one_part right typed meaning one disk a b p q = one a b p.right p.typed q.right q.typed p.short p.itself (ap bytes_in (sym p.stands ∙ q.stands))
