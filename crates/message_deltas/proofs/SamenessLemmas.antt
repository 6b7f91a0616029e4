-- The test of sameness is exact.
use Rattle.std.proofs.Common.{◌≡◌, ◌≢◌, Bool, true, false, cond, not, Option, None, Some, inl, inr, refl, sym, ◌∙◌, ap, IsTrue, ◌↔◌}
use Rattle.std.proofs.lemmas.Bool.{false≢true, eqb-true, eq-eqb, and_parts, and_from}
use Rattle.std.specs.Coded.{Coded, coded_option}
use base.Stored.{Gv, gnil, gnum, gcons}
use Rattle.message_deltas.specs.Sameness.{alike, same, where_differs}
use Rattle.message_deltas.specs.Deltas.{CarriesChange, differs_where}

alike-true : (a b : Gv) → alike a b ≡ true → a ≡ b
alike-true gnil gnil e = refl
alike-true gnil (gnum n) e = absurd (false≢true e)
alike-true gnil (gcons a b) e = absurd (false≢true e)
alike-true (gnum m) gnil e = absurd (false≢true e)
alike-true (gnum m) (gnum n) e = ap gnum (eqb-true m n e)
alike-true (gnum m) (gcons a b) e = absurd (false≢true e)
alike-true (gcons a b) gnil e = absurd (false≢true e)
alike-true (gcons a b) (gnum n) e = absurd (false≢true e)
alike-true (gcons a b) (gcons c d) e = let both = and_parts (alike a c) (alike b d) e in λ i. gcons (alike-true a c both.0 i) (alike-true b d both.1 i)

alike-self : (a : Gv) → alike a a ≡ true
alike-self gnil = refl
alike-self (gnum n) = eq-eqb n n refl
alike-self (gcons a b) = and_from (alike a a) (alike b b) (alike-self a) (alike-self b)

module _ {T : Type 0} (code : Coded T) where
  pub same-true : (a b : T) → same code a b ≡ true → a ≡ b
  unfolding same
  same-true a b e = code.inj a b (alike-true (code.code a) (code.code b) e)

  pub same-equal : (a b : T) → a ≡ b → same code a b ≡ true
  unfolding same
  same-equal a b e = ap (λ x. alike (code.code a) (code.code x)) (sym e) ∙ alike-self (code.code a)

  pub same-false : (a b : T) → same code a b ≡ false → a ≢ b
  same-false a b e equal = false≢true (sym e ∙ same-equal a b equal)

  -- a test that is true exactly of equal values is that one
  pub is_same : (a b : T) (test : Bool) → (IsTrue test ↔ (a ≡ b)) → test ≡ same code a b
  is_same a b true exact = sym (same-equal a b (exact.0 refl))
  is_same a b false exact = by_test (same code a b) refl
    where
      by_test : (t : Bool) → same code a b ≡ t → false ≡ t
      by_test true e = absurd (false≢true (exact.1 (same-true a b e)))
      by_test false e = refl

  -- two values that are there
  pub same-some : (a b : T) → same (coded_option code) (Some a) (Some b) ≡ same code a b
  unfolding same
  same-some a b = refl

  pub left_out : (before now : Option T) → same (coded_option code) before now ≡ true → None ≡ where_differs code before now
  unfolding where_differs
  left_out before now e = ap (λ t. cond t None now) (sym e)

  pub carried : (before now : Option T) → same (coded_option code) before now ≡ false → now ≡ where_differs code before now
  unfolding where_differs
  carried before now e = ap (λ t. cond t None now) (sym e)

-- a part that is left out or carried by the test is carried exactly where it differs
pub where_differs-exact : {T : Type 0} (code : Coded T) (before now : Option T) → CarriesChange before now (where_differs code before now)
where_differs-exact code before now = by_test (same (coded_option code) before now) refl
  where
    by_test : (t : Bool) → same (coded_option code) before now ≡ t → CarriesChange before now (where_differs code before now)
    by_test true e = inl (same-true (coded_option code) before now e, sym (left_out code before now e))
    by_test false e = inr (same-false (coded_option code) before now e, sym (carried code before now e))

-- the test of a part that is obliged is exact
pub differs_where-exact : {T : Type 0} (owed : Bool) (code : Coded T) (before now : Option T) → IsTrue (differs_where owed code before now) ↔ (IsTrue owed → before ≢ now)
unfolding differs_where
differs_where-exact true code before now = by_test (same (coded_option code) before now) refl
  where
    by_test : (t : Bool) → same (coded_option code) before now ≡ t → IsTrue (not t) ↔ (IsTrue true → before ≢ now)
    by_test true e = (λ h. absurd (false≢true h), λ apart. absurd (apart refl (same-true (coded_option code) before now e)))
    by_test false e = (λ h owed. same-false (coded_option code) before now e, λ apart. refl)
differs_where-exact false code before now = (λ h owed. absurd (false≢true owed), λ apart. refl)
