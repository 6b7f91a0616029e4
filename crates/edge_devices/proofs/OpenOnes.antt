-- Which connections are open.
use Rattle.std.proofs.Common.{◌≡◌, ℕ, suc, ◌≤◌, ◌+◌, List, [], ◌∷◌, ◌++◌, length, Bool, true, false, not, cond, ◌==◌, ◌||◌, if◌then◌else◌, refl, sym, ap, ◌∙◌, arith}
use Rattle.std.proofs.lemmas.List.Sums.{fold-append}
use Rattle.edge_devices.specs.declared.wires.Kind.{Kind}
use Rattle.edge_devices.specs.declared.wires.WireCall.{WireCall}
use Rattle.edge_devices.specs.declared.wires.WireCall.TheVariants.{Gave}
use Rattle.edge_devices.specs.declared.wires.WireEvent.TheVariants as event
use Rattle.edge_devices.specs.Wires.{is_open, open_after}
use Rattle.edge_devices.specs.WireLogs.{is_in, AreTheOpen, others, LeavesOpen, EndsOne}

-- one that left isn't in it, and others are as before
pub in_others : (c conn : ℕ) (xs : List ℕ) → is_in conn (others c xs) ≡ (if c == conn then false else is_in conn xs)
in_others c conn [] = grind arith
in_others c conn (x ∷ xs) = by_test (x == c) refl (in_others c conn xs)
  where
    by_test : (b : Bool) → (x == c) ≡ b → is_in conn (others c xs) ≡ (if c == conn then false else is_in conn xs)
        → is_in conn (cond (not b) (x ∷ others c xs) (others c xs)) ≡ (if c == conn then false else ((x == conn) || is_in conn xs))
    by_test true e more = more ∙ grind arith
    by_test false e more = rw more (grind arith)

-- no more than before
pub others_within : (c : ℕ) (xs : List ℕ) → length (others c xs) ≤ length xs
others_within c [] = omega arith
others_within c (x ∷ xs) = by_test (x == c) (others_within c xs)
  where
    by_test : (b : Bool) → length (others c xs) ≤ length xs → length (cond (not b) (x ∷ others c xs) (others c xs)) ≤ suc (length xs)
    by_test true more = omega (arith, more)
    by_test false more = omega (arith, more)

-- fewer, where it was in it
pub others_fewer : (c : ℕ) (xs : List ℕ) → is_in c xs ≡ true → length (others c xs) + 1 ≤ length xs
others_fewer c [] there = absurd (cc there)
others_fewer c (x ∷ xs) there = by_test (x == c) there (others_fewer c xs)
  where
    by_test : (b : Bool) → (b || is_in c xs) ≡ true → (is_in c xs ≡ true → length (others c xs) + 1 ≤ length xs)
        → length (cond (not b) (x ∷ others c xs) (others c xs)) + 1 ≤ suc (length xs)
    by_test true e more = let fits = others_within c xs in omega (arith, fits)
    by_test false e more = let fits = more e in omega (arith, fits)

pub in_more : (c conn : ℕ) (xs : List ℕ) → is_in conn (xs ++ c ∷ []) ≡ (if c == conn then true else is_in conn xs)
in_more c conn [] = grind arith
in_more c conn (x ∷ xs) = rw (in_more c conn xs) (grind arith)

behind : (calls : List WireCall) (call : WireCall) (conn : ℕ) → is_open (calls ++ call ∷ []) conn ≡ open_after conn (is_open calls conn) call
behind calls call conn = rw fold-append refl

module _ (calls : List WireCall) (xs : List ℕ) (so : AreTheOpen calls xs) where
  pub open_left : (call : WireCall) → LeavesOpen call → AreTheOpen (calls ++ call ∷ []) xs
  open_left call leaves conn = so conn ∙ sym (leaves conn (is_open calls conn)) ∙ sym (behind calls call conn)

  pub open_ended : (call : WireCall) (c : ℕ) → EndsOne call c → AreTheOpen (calls ++ call ∷ []) (others c xs)
  open_ended call c ends conn =
      in_others c conn xs ∙ ap (λ (b : Bool). if c == conn then false else b) (so conn) ∙ sym (ends conn (is_open calls conn)) ∙ sym (behind calls call conn)

  pub open_opened : (at c : ℕ) (k : Kind) → AreTheOpen (calls ++ Gave at (event.Opened c k) ∷ []) (xs ++ c ∷ [])
  open_opened at c k conn =
      in_more c conn xs ∙ ap (λ (b : Bool). if c == conn then true else b) (so conn) ∙ sym (behind calls (Gave at (event.Opened c k)) conn)
