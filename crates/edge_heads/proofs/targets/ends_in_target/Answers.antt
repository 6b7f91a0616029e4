use Rattle.std.proofs.Common.{◌≡◌, ◌≢◌, ℕ, ◌+◌, ◌<◌, Bool, true, List, length, get_or, take, drop, refl, sym, subst, ap, ◌∙◌, arith, IsTrue, ◌↔◌}
use Rattle.std.proofs.lemmas.Bool.{false≢true}
use Rattle.std.proofs.lemmas.List.{take_rest}
use Rattle.std.proofs.lemmas.List.Sums.{AllPass-from_list_all, list_all-from_AllPass}
use Rattle.std.specs.List.{list_all}
use Rattle.edge_heads.specs.declared.values.Side.TheVariants.{Requests}
use Rattle.edge_heads.specs.Heads.{is_target_byte, EndsInTarget}
use Rattle.edge_heads.specs.Targets.{IsUpToBlank, HasMethod}
use Rattle.edge_heads.proofs.Blanks.{in_target, from_in_target, no_target, clear_all, clear_front, split_at, take_with}
use Rattle.edge_heads.proofs.targets.ends_in_target.Goals as goal

-- the first blank of the bytes
record IsFirst (bytes : List ℕ) (at : ℕ) : Type 0 where
  lt : at < length bytes
  blank : get_or bytes at 0 ≡ 32
  clear : (k : ℕ) → k < at → get_or bytes k 0 ≢ 32

up_to : (bytes : List ℕ) (at : ℕ) → IsFirst bytes at → IsUpToBlank (take (at + 1) bytes)
up_to bytes at x =
    let lt : at < length bytes = x.lt in
    (take at bytes, clear_front bytes at (omega arith) x.clear, take_with bytes at 32 lt x.blank)

decides : (bytes : List ℕ) (at : ℕ) (target method : Bool) → IsFirst bytes at → target ≡ list_all is_target_byte (drop (at + 1) bytes)
    → IsTrue method ↔ HasMethod (take (at + 1) bytes)
    → ((IsTrue target × IsTrue method) → EndsInTarget Requests bytes) × (EndsInTarget Requests bytes → IsTrue target × IsTrue method)
decides bytes at target method x t m =
    let lt : at < length bytes = x.lt in
    let clear = clear_front bytes at (omega arith) x.clear in
    let whole = split_at bytes at 32 lt x.blank in
    let front = take_with bytes at 32 lt x.blank in (
      λ both. in_target bytes (take at bytes) (drop (at + 1) bytes) (AllPass-from_list_all is_target_byte (drop (at + 1) bytes) (sym t ∙ both.0)) whole
          (subst HasMethod front (m.0 both.1)) clear,
      λ ends.
          let parts = from_in_target bytes (take at bytes) (drop (at + 1) bytes) clear whole ends in
          (t ∙ list_all-from_AllPass is_target_byte (drop (at + 1) bytes) parts.0, m.1 (subst HasMethod (sym front) parts.1)),
    )

first : (bytes : List ℕ) (at : ℕ) → (at < length bytes) × (get_or bytes at 0 ≡ 32) × ((k : ℕ) → k < at → get_or bytes k 0 ≢ 32) → IsFirst bytes at
first bytes at x = record { lt = x.0; blank = x.1; clear = x.2 }

pub returns-in_default : goal.returns-in_default
returns-in_default c =
    let bytes = c.args.bytes.now in
    let none : (k : ℕ) → k < length bytes → get_or bytes k 0 ≢ 32 = c.in_default.ensures in
    (λ f. absurd (false≢true f), λ x. absurd (no_target bytes (clear_all bytes none) x))

pub has_method-method-requires : goal.has_method-method-requires
has_method-method-requires c = up_to c.args.bytes.now c.in-Some.at (first c.args.bytes.now c.in-Some.at c.in-Some.ensures)

pub returns-then-target : goal.returns-then-target
returns-then-target c =
    let bytes = c.args.bytes.now in
    let at = c.in-Some.at in
    let rest = take_rest bytes (at + 1) in
    let d = decides bytes at true c.has_method-method.result (first bytes at c.in-Some.ensures)
    (sym c.if-target.true ∙ c.has_no_end-target.ensures ∙ ap (λ (t : List ℕ). list_all is_target_byte t) rest) c.has_method-method.ensures in
    (λ m. d.0 (refl, m), λ e. (d.1 e).1)

pub returns-else-target : goal.returns-else-target
returns-else-target c =
    let bytes = c.args.bytes.now in
    let at = c.in-Some.at in
    let rest = take_rest bytes (at + 1) in
    let d = decides bytes at c.has_no_end-target.result c.has_method-method.result (first bytes at c.in-Some.ensures)
    (c.has_no_end-target.ensures ∙ ap (λ (t : List ℕ). list_all is_target_byte t) rest) c.has_method-method.ensures in
    (λ t. absurd (false≢true (sym c.if-target.false ∙ t)), λ e. (d.1 e).0)
