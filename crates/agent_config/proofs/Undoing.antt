-- The folder's calls where an offered configuration failed.
use Rattle.std.proofs.Common.{◌≡◌, ℕ, ◌++◌, List, [], ◌∷◌, Bool, true, false, Option, Some, None, refl, ◌∙◌, ap, subst, Result, Ok, Err}
use Rattle.std.specs.Prelude.{◌||◌, IsErr}
use Rattle.std.proofs.lemmas.Bool.{false≢true}
use Rattle.std.specs.List.{list_any}
use Rattle.edge_devices.specs.Faults.{HasRisen}
use Rattle.edge_devices.specs.declared.folders.FolderCall.{FolderCall}
use Rattle.edge_devices.specs.declared.folders.FolderFail.{FolderFail}
use Rattle.edge_devices.specs.declared.folders.FolderFail.TheVariants.{Fault}
use Rattle.plain_values.specs.declared.memory.NoMemory.{NoMemory as Wanting}
use Rattle.edge_devices.specs.Folders.{FolderState, Runs, is_fault}
use Rattle.edge_devices.proofs.Running.{makes_append, makes_none, risen_on}
use Rattle.agent_config.specs.declared.Outcome.{Outcome}
use Rattle.agent_config.specs.declared.Outcome.TheVariants.{Applied, BadName, FolderFault}
use Rattle.agent_config.specs.Outcomes.{Applies, RisesAgain}

any_last : (before : List FolderCall) (last : FolderCall) → is_fault last ≡ true → list_any is_fault (before ++ last ∷ []) ≡ true
any_last [] last e = ap (λ b. b || false) e
any_last (call ∷ calls) last e = by_case (is_fault call) (any_last calls last e)
  where
    by_case : (b : Bool) → list_any is_fault (calls ++ last ∷ []) ≡ true → (b || list_any is_fault (calls ++ last ∷ [])) ≡ true
    by_case true h = refl
    by_case false h = h

-- calls that end with a fault raise the count
risen : (a b : FolderState) → Runs {T = Unit} a b (Err Fault) → HasRisen a.faults b.faults
risen a b r = r.makes.fault (ap (list_any is_fault) r.stops.parts ∙ any_last r.stops.before r.stops.last r.stops.fault)

module _ (a b c : FolderState) (fail : FolderFail) (is : fail ≡ Fault) (failed : Runs {T = Unit} a b (Err fail)) where
  by_fault : Runs {T = Unit} a b (Err Fault)
  by_fault = subst (λ fail. Runs {T = Unit} a b (Err fail)) is failed

  pub brought_back : Runs {T = Unit} b c (Ok tt) → Applies a c (Ok (FolderFault true))
  brought_back back = record {
    seen = by_fault.seen ++ back.seen;
    makes = makes_append a b c by_fault.seen back.seen by_fault.makes back.makes;
    ends = record { applying = by_fault.seen; back = back.seen; parts = refl; failed = by_fault.stops; brought = back.stops };
  }

  pub left_mixed : (again : FolderFail) → again ≡ Fault → Runs {T = Unit} b c (Err again) → Applies a c (Ok (FolderFault false))
  left_mixed again e back =
      let there = subst (λ fail. Runs {T = Unit} b c (Err fail)) e back in record {
        seen = by_fault.seen ++ there.seen;
        makes = makes_append a b c by_fault.seen there.seen by_fault.makes there.makes;
        ends = record { applying = by_fault.seen; back = there.seen; parts = refl; failed = by_fault.stops; brought = there.stops };
      }

  pub gave_up : (again : FolderFail) (wanting : Wanting) → Runs {T = Unit} b c (Err again) → Applies a c (Err wanting)
  gave_up again wanting back = record {
    seen = by_fault.seen ++ back.seen;
    makes = makes_append a b c by_fault.seen back.seen by_fault.makes back.makes;
    ends = tt;
  }

  pub rises_again : (again : FolderFail) → again ≡ Fault → Runs {T = Unit} b c (Err again) → RisesAgain a.faults c.faults
  rises_again again e back = record {
    between = b.faults;
    first = risen a b by_fault;
    second = risen b c (subst (λ fail. Runs {T = Unit} b c (Err fail)) e back);
  }

  -- the count that rose stays risen
  pub still_risen : (result : Result Unit FolderFail) → Runs b c result → HasRisen a.faults c.faults
  still_risen result back = risen_on a.faults b.faults c.faults by_fault.makes.count back.makes.count (risen a b by_fault)

-- an offer that ended so
abbrev pub ended : Outcome → Result Outcome Wanting
ended outcome = Ok outcome

-- It ended in one way.
module _ {P : Type 0} where
  pub applied_bad : (name : List ℕ) → ended Applied ≡ ended (BadName name) → P
  applied_bad name is = absurd cc

  pub applied_fault : (settled : Bool) → ended Applied ≡ ended (FolderFault settled) → P
  applied_fault settled is = absurd cc

  pub bad_applied : (name : List ℕ) → ended (BadName name) ≡ ended Applied → P
  bad_applied name is = absurd cc

  pub bad_fault : (name : List ℕ) (settled : Bool) → ended (BadName name) ≡ ended (FolderFault settled) → P
  bad_fault name settled is = absurd cc

  pub fault_applied : (settled : Bool) → ended (FolderFault settled) ≡ ended Applied → P
  fault_applied settled is = absurd cc

  pub fault_bad : (settled : Bool) (name : List ℕ) → ended (FolderFault settled) ≡ ended (BadName name) → P
  fault_bad settled name is = absurd cc

  pub settled_mixed : ended (FolderFault true) ≡ ended (FolderFault false) → P
  settled_mixed is = absurd cc

  pub mixed_settled : ended (FolderFault false) ≡ ended (FolderFault true) → P
  mixed_settled is = absurd cc

  pub wanting_ended : (wanting : Wanting) (outcome : Outcome) → (let r : Result Outcome Wanting = Err wanting in r ≡ ended outcome) → P
  wanting_ended wanting outcome is = absurd cc

  pub err_ended : (result : Result Outcome Wanting) (outcome : Outcome) → IsErr result → result ≡ ended outcome → P
  err_ended result outcome err is = absurd (false≢true (subst IsErr is err))

  -- there is no bad name
  pub none_bad : (bad : Option (List ℕ)) (name : List ℕ) → bad ≡ None → bad ≡ Some name → P
  none_bad bad name none some = absurd cc

pub same_bad : (bad : Option (List ℕ)) (name other : List ℕ) → bad ≡ Some name → bad ≡ Some other → name ≡ other
same_bad bad name other one two = cc

pub same_ended : (name other : List ℕ) → ended (BadName name) ≡ ended (BadName other) → name ≡ other
same_ended name other is = cc

pub applies : (a b : FolderState) → Runs {T = Unit} a b (Ok tt) → Applies a b (Ok Applied)
applies a b r = record { seen = r.seen; makes = r.makes; ends = r.stops }

pub wanted : (a b : FolderState) (fail : FolderFail) (wanting : Wanting) → Runs {T = Unit} a b (Err fail) → Applies a b (Err wanting)
wanted a b fail wanting r = record { seen = r.seen; makes = r.makes; ends = tt }

pub did_nothing : (a : FolderState) (name : List ℕ) → Applies a a (Ok (BadName name))
did_nothing a name = record { seen = []; makes = makes_none a; ends = refl }

pub wanted_nothing : (a : FolderState) (result : Result Outcome Wanting) → IsErr result → Applies a a result
wanted_nothing a (Ok outcome) err = absurd (false≢true err)
wanted_nothing a (Err wanting) err = record { seen = []; makes = makes_none a; ends = tt }
