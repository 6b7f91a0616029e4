-- Calls of a folder, one after the other.
use Rattle.std.proofs.Common.{◌≡◌, ℕ, ◌≤◌, ◌++◌, List, [], ◌∷◌, Bool, true, false, Option, Some, None, refl, sym, ◌∙◌, ap, subst, arith, append_assoc, ◌⊎◌, inl, inr}
use Rattle.std.specs.Prelude.{Result, Ok, Err, IsErrAnd, IsTrue, ◌||◌}
use Rattle.std.specs.List.{list_any}
use Rattle.std.proofs.lemmas.List.{append-nil}
use Rattle.std.proofs.lemmas.Bool.{cases_lt, false≢true}
use Rattle.edge_devices.specs.Faults.{HasRisen}
use Rattle.edge_devices.specs.declared.folders.FolderCall.{FolderCall}
use Rattle.edge_devices.specs.declared.folders.FolderFail.{FolderFail}
use Rattle.edge_devices.specs.declared.folders.FolderFail.TheVariants.{Fault, NoMemory}
use Rattle.edge_devices.specs.Folders.{FolderState, is_fault, NoFault, Makes, Stops, Runs, Calls}

pub risen_on : (a b c : ℕ) → a ≤ b → b ≤ c → HasRisen a b → HasRisen a c
risen_on a b c first then risen =
    elim risen [
      | inl rose ↦ inl (omega (arith, rose, then))
      | inr end ↦ elim (cases_lt a c) [ inl less ↦ inl less | inr more ↦ inr (omega (arith, end, more, first, then)) ]
    ]

pub risen_later : (a b c : ℕ) → a ≤ b → b ≤ c → HasRisen b c → HasRisen a c
risen_later a b c first then risen = elim risen [ inl rose ↦ inl (omega (arith, rose, first)) | inr end ↦ inr end ]

any_append : (xs ys : List FolderCall) → list_any is_fault (xs ++ ys) ≡ (list_any is_fault xs || list_any is_fault ys)
any_append [] ys = refl
any_append (x ∷ xs) ys = or_cases (is_fault x) (any_append xs ys)
  where
    or_cases : (b : Bool) → list_any is_fault (xs ++ ys) ≡ (list_any is_fault xs || list_any is_fault ys)
        → (b || list_any is_fault (xs ++ ys)) ≡ ((b || list_any is_fault xs) || list_any is_fault ys)
    or_cases true e = refl
    or_cases false e = e

or_either : (a b : Bool) → (a || b) ≡ true → (a ≡ true) ⊎ (b ≡ true)
or_either true b e = inl refl
or_either false b e = inr e

pub none_append : (xs ys : List FolderCall) → NoFault xs → NoFault ys → NoFault (xs ++ ys)
none_append xs ys a b = any_append xs ys ∙ ap (λ t. t || list_any is_fault ys) a ∙ b

pub makes_none : (s : FolderState) → Makes s s []
makes_none s = record { told = refl; calls = λ t. sym (append-nil s.calls); count = omega arith; fault = λ e. absurd (false≢true e) }

pub makes_append : (a b c : FolderState) (xs ys : List FolderCall) → Makes a b xs → Makes b c ys → Makes a c (xs ++ ys)
makes_append a b c xs ys m n = record {
  told = n.told ∙ m.told;
  calls = λ t. n.calls t ∙ ap (λ calls. calls ++ ys) (m.calls (subst IsTrue n.told t)) ∙ append_assoc a.calls xs ys;
  count = omega (arith, m.count, n.count);
  fault = λ e. elim (or_either (list_any is_fault xs) (list_any is_fault ys) (sym (any_append xs ys) ∙ e)) [
    | inl x ↦ risen_on a.faults b.faults c.faults m.count n.count (m.fault x)
    | inr y ↦ risen_later a.faults b.faults c.faults m.count n.count (n.fault y)
  ];
}

module _ {T : Type 0} where
  -- a call is a fault exactly where its answer is one
  pub record TellsFaults (call : Option T → FolderCall) : Type 0 where
    pub some : (value : T) → is_fault (call (Some value)) ≡ false
    pub none : is_fault (call None) ≡ true

  pub runs_call : (old new : FolderState) (call : Option T → FolderCall) (result : Result T FolderFail) → TellsFaults call → Calls old new call result → Runs old new result
  runs_call old new call (Ok value) tells calls = record {
    seen = call (Some value) ∷ [];
    makes = record {
      told = calls.told;
      calls = calls.calls;
      count = calls.count;
      fault = λ e. absurd (false≢true (sym (ap (λ t. t || false) (tells.some value)) ∙ e));
    };
    stops = ap (λ t. t || false) (tells.some value);
  }
  runs_call old new call (Err Fault) tells calls = record {
    seen = call None ∷ [];
    makes = record { told = calls.told; calls = calls.calls; count = calls.count; fault = λ e. calls.fault refl };
    stops = record { before = []; last = call None; parts = refl; none = refl; fault = tells.none };
  }
  runs_call old new call (Err NoMemory) tells calls = record {
    seen = [];
    makes = record { told = calls.told; calls = calls.calls; count = calls.count; fault = λ e. absurd (false≢true e) };
    stops = refl;
  }

  stops_then : (xs ys : List FolderCall) (result : Result T FolderFail) → NoFault xs → Stops ys result → Stops (xs ++ ys) result
  stops_then xs ys (Ok value) a b = none_append xs ys a b
  stops_then xs ys (Err Fault) a b = record {
    before = xs ++ b.before;
    last = b.last;
    parts = ap (λ calls. xs ++ calls) b.parts ∙ sym (append_assoc xs b.before (b.last ∷ []));
    none = none_append xs b.before a b.none;
    fault = b.fault;
  }
  stops_then xs ys (Err NoMemory) a b = none_append xs ys a b

  pub runs_done : (s : FolderState) (value : T) → Runs s s (Ok value)
  runs_done s value = record { seen = []; makes = makes_none s; stops = refl }

module _ {S T : Type 0} where
  pub runs_then : (a b c : FolderState) (value : S) (result : Result T FolderFail) → Runs a b (Ok value) → Runs b c result → Runs a c result
  runs_then a b c value result first then = record {
    seen = first.seen ++ then.seen;
    makes = makes_append a b c first.seen then.seen first.makes then.makes;
    stops = stops_then first.seen then.seen result first.stops then.stops;
  }

  -- an answer that carries no value is the answer of whatever it ends
  pub runs_fail : (a b : FolderState) (fail : FolderFail) → Runs {T = S} a b (Err fail) → Runs {T = T} a b (Err fail)
  runs_fail a b Fault r = record { seen = r.seen; makes = r.makes; stops = r.stops }
  runs_fail a b NoMemory r = record { seen = r.seen; makes = r.makes; stops = r.stops }

  pub runs_ok : (a b : FolderState) (value : S) (other : T) → Runs a b (Ok value) → Runs a b (Ok other)
  runs_ok a b value other r = record { seen = r.seen; makes = r.makes; stops = r.stops }

same_fail : {T : Type 0} (result : Result T FolderFail) (fail : FolderFail) → IsErrAnd result (λ e. e ≡ fail) → result ≡ Err fail
same_fail (Ok value) fail e = absurd e
same_fail (Err other) fail e = ap Err e

module _ {R S T : Type 0} where
  -- a call that failed ends the calls before it
  pub runs_end : (a b c : FolderState) (value : R) (fail : FolderFail) (result : Result T FolderFail) → IsErrAnd result (λ e. e ≡ fail)
      → Runs a b (Ok value) → Runs {T = S} b c (Err fail) → Runs a c result
  runs_end a b c value fail result is first then =
      subst (λ r. Runs a c r) (sym (same_fail result fail is)) (runs_then a b c value (Err fail) first (runs_fail {S = S} {T = T} b c fail then))
