-- What reading a slot with its log found, at its ends.
use Rattle.std.proofs.Common.{◌≡◌, ℕ, ◌+◌, ◌≤◌, List, Option, Ok, ◌∙◌, sym, ap, subst, arith}
use Rattle.std.specs.Prelude.{IsErrOf}
use Rattle.agent_store.specs.Codecs.{Codec}
use Rattle.agent_store.specs.declared.fail.StoreFail.{StoreFail}
use Rattle.agent_store.specs.declared.log.Found.{Found}
use Rattle.agent_store.specs.declared.slots.Layout.{Layout}
use Rattle.agent_store.specs.declared.slots.Side.{Side}
use Rattle.agent_store.specs.Found.{EndsWithin}
use Rattle.agent_store.specs.Log.{Standing, replay}
use Rattle.agent_store.specs.Slots.{by_form, log_start}
use Rattle.agent_store.proofs.Standings.{form-two}

pub same-count : (n : ℕ) → n ≤ n
same-count n = omega arith

pub later-count : (a b c : ℕ) → a ≤ b → b ≤ c → a ≤ c
later-count a b c first second = omega arith

pub no-error : {T X : Type 0} (x : T) (e : StoreFail) → IsErrOf {T = T} {E = StoreFail} (Ok x) e → X
no-error x e is = absurd (cc)

pub ends-at-stop : (start log tail : ℕ) → tail ≡ start + log → (start ≤ tail) × (tail ≤ start + log)
ends-at-stop start log tail is = (omega arith, omega arith)

pub within-log : {T : Type 0} (start from len log : ℕ) (found : Option (Found T)) → start ≡ from → len ≡ log → EndsWithin start (start + len) found → EndsWithin from (from + log) found
within-log start from len log found is long within =
    subst (λ (s : ℕ). EndsWithin s (s + log) found) is (subst (λ (n : ℕ). EndsWithin start (start + n) found) long within)

-- what the entries of the log of a slot of form 2 make of its part
pub by-log : (codec : Codec) (layout : Layout) (image : ℕ → ℕ) (side : Side) (form : ℕ) (part : List ℕ) (start len : ℕ) (standing : Standing) → start ≡ log_start layout side → len ≡ layout.log → form ≡ 2
    → standing ≡ replay codec image (start + len) len start part → standing ≡ by_form codec layout image side form part
by-log codec layout image side form part start len standing is long two replayed =
    replayed ∙ ap (λ (s : ℕ). replay codec image (s + len) len s part) is ∙ ap (λ (n : ℕ). replay codec image (log_start layout side + n) n (log_start layout side) part) long
    ∙ sym (form-two codec layout image side form part two)
