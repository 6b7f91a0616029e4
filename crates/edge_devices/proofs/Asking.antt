-- Calls of a dialer, one after the other.
use Rattle.std.proofs.Common.{◌≡◌, ◌++◌, List, [], ◌∷◌, Bool, true, false, refl, sym, ◌∙◌, ap, subst, arith, append_assoc, ◌⊎◌, inl, inr}
use Rattle.std.specs.Prelude.{IsTrue, ◌||◌}
use Rattle.std.specs.List.{list_any}
use Rattle.std.proofs.lemmas.List.{append-nil}
use Rattle.std.proofs.lemmas.Bool.{false≢true}
use Rattle.edge_devices.specs.declared.dialers.DialerCall.{DialerCall}
use Rattle.edge_devices.specs.Dialers.{DialerState, Asks, is_failed}
use Rattle.edge_devices.proofs.Running.{risen_on, risen_later}

any_append : (xs ys : List DialerCall) → list_any is_failed (xs ++ ys) ≡ (list_any is_failed xs || list_any is_failed ys)
any_append [] ys = refl
any_append (x ∷ xs) ys = or_cases (is_failed x) (any_append xs ys)
  where
    or_cases : (b : Bool) → list_any is_failed (xs ++ ys) ≡ (list_any is_failed xs || list_any is_failed ys)
        → (b || list_any is_failed (xs ++ ys)) ≡ ((b || list_any is_failed xs) || list_any is_failed ys)
    or_cases true e = refl
    or_cases false e = e

or_either : (a b : Bool) → (a || b) ≡ true → (a ≡ true) ⊎ (b ≡ true)
or_either true b e = inl refl
or_either false b e = inr e

pub asks_none : (s : DialerState) → Asks s s []
asks_none s = record { told = refl; calls = λ t. sym (append-nil s.calls); count = omega arith; fault = λ e. absurd (false≢true e); no_want = refl }

pub asks_append : (a b c : DialerState) (xs ys : List DialerCall) → Asks a b xs → Asks b c ys → Asks a c (xs ++ ys)
asks_append a b c xs ys m n = record {
  told = n.told ∙ m.told;
  calls = λ t. n.calls t ∙ ap (λ calls. calls ++ ys) (m.calls (subst IsTrue n.told t)) ∙ append_assoc a.calls xs ys;
  count = omega (arith, m.count, n.count);
  fault = λ e. elim (or_either (list_any is_failed xs) (list_any is_failed ys) (sym (any_append xs ys) ∙ e)) [
    | inl x ↦ risen_on a.faults b.faults c.faults m.count n.count (m.fault x)
    | inr y ↦ risen_later a.faults b.faults c.faults m.count n.count (n.fault y)
  ];
  no_want = n.no_want ∙ m.no_want;
}
