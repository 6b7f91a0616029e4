-- What was loaded, told by its canonical bytes, is the value that was saved.
use Rattle.std.proofs.Common.{◌≡◌, ℕ, ◌<◌, ◌^◌, List, length, Result, Err, refl, sym, ap}
use Rattle.agent_store.specs.Codecs.{Codec, IsRight}
use Rattle.agent_store.specs.declared.opened.Opened.{Opened}
use Rattle.agent_store.specs.declared.opened.Opened.TheVariants.{Fresh, Kept}
use Rattle.agent_store.specs.Slots.{Nothing, Holds, Damaged}
use Rattle.agent_store.specs.Found.{reading_of, AllKept}

same-bytes : (a b : List ℕ) → Holds a ≡ Holds b → a ≡ b
same-bytes a b is = cc

nothing-held : (bytes : List ℕ) → Nothing ≡ Holds bytes → ⊥
nothing-held bytes is = cc

held-none : (bytes : List ℕ) → Holds bytes ≡ Nothing → ⊥
held-none bytes is = cc

-- one error
pub error-is : {T E : Type 0} (x y : Result T E) (a b : E) → x ≡ Err a → y ≡ Err b → x ≡ y → a ≡ b
error-is x y a b is_a is_b is = cc

pub nothing-damaged : (slot : ℕ) → Nothing ≡ Damaged slot → ⊥
nothing-damaged slot is = cc

pub fresh-value : {T : Type 0} (canonical : T → List ℕ) (opened : Opened T) → reading_of canonical opened ≡ Nothing → opened ≡ Fresh
fresh-value canonical Fresh is = refl
fresh-value canonical (Kept part) is = absurd (held-none (canonical part) is)

pub loaded-value : {T : Type 0} (codec : Codec) (canonical : T → List ℕ) (right typed : T → Type 0)
    → ((a b : T) → right a → typed a → right b → typed b → length (canonical a) < 2 ^ 62 → IsRight codec (canonical a) → canonical a ≡ canonical b → a ≡ b)
    → (next : T) → right next → typed next → length (canonical next) < 2 ^ 62 → IsRight codec (canonical next)
    → (opened : Opened T) → AllKept right opened → AllKept typed opened → reading_of canonical opened ≡ Holds (canonical next) → opened ≡ Kept next
loaded-value codec canonical right typed one next is_right is_typed few itself Fresh fresh_right fresh_typed is = absurd (nothing-held (canonical next) is)
loaded-value codec canonical right typed one next is_right is_typed few itself (Kept part) part_right part_typed is =
    ap Kept (sym (one next part is_right is_typed part_right part_typed few itself (sym (same-bytes (canonical part) (canonical next) is))))
