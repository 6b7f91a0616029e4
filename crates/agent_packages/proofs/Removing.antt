-- How the file of a package that is not offered any more is removed.
use Rattle.std.proofs.Common.{◌≡◌, ℕ, List, [], ◌∷◌, Bool, true, false, cond, Ok, Err, refl, sym, ◌∙◌, subst}
use Rattle.std.specs.Prelude.{is_some}
use Rattle.std.proofs.lemmas.Bool.{false≢true}
use Rattle.edge_devices.specs.declared.folders.Area.TheVariants.{Packages}
use Rattle.edge_devices.specs.declared.folders.FolderCall.TheVariants.{Remove}
use Rattle.edge_devices.specs.declared.folders.FolderFail.TheVariants.{Fault, NoMemory}
use Rattle.edge_devices.specs.declared.folders.FolderFail.{FolderFail}
use Rattle.edge_devices.specs.Folders.{FolderState, Calls, Makes}
use Rattle.edge_devices.specs.Names.{is_good_name}
use Rattle.edge_devices.proofs.Running.{makes_none}
use Rattle.agent_packages.specs.Due.{IsRemoveOf, MakesOnly}
use Rattle.agent_packages.specs.Visits.{RemovesSo}
use Rattle.agent_packages.proofs.Dues.{only_makes_one}

module _ (f g : FolderState) (name : List ℕ) where
  pub bad_left_out : is_good_name name ≡ false → RemovesSo f f name true
  bad_left_out bad = record {
    bad = λ _. refl;
    removed = subst (λ (good : Bool). Makes f f (cond good (Remove Packages name true ∷ []) [])) (sym bad) (makes_none f);
  }

  module _ (done : Calls {T = Unit {0}} f g (λ done. Remove Packages name (is_some done)) (Ok tt)) where
    removes : Makes f g (Remove Packages name true ∷ [])
    removes = record { told = done.told; calls = done.calls; count = done.count; fault = λ failed. absurd (false≢true failed) }

    pub left_out : is_good_name name ≡ true → RemovesSo f g name true
    left_out good = record {
      bad = λ _. refl;
      removed = subst (λ (good : Bool). Makes f g (cond good (Remove Packages name true ∷ []) [])) (sym good) removes;
    }

    pub removes_only : MakesOnly (IsRemoveOf name) f g
    removes_only = only_makes_one (IsRemoveOf name) f g (Remove Packages name true) (refl, refl) removes

  module _ (fail : FolderFail) (failed : Calls {T = Unit {0}} f g (λ done. Remove Packages name (is_some done)) (Err fail)) where
    fails : fail ≡ Fault → Makes f g (Remove Packages name false ∷ [])
    fails is =
        let p : Calls {T = Unit {0}} f g (λ done. Remove Packages name (is_some done)) (Err Fault) =
        subst (λ (fail : FolderFail). Calls {T = Unit {0}} f g (λ done. Remove Packages name (is_some done)) (Err fail)) is failed in
        record { told = p.told; calls = p.calls; count = p.count; fault = λ _. p.fault refl }

    pub left_in : fail ≡ Fault → is_good_name name ≡ true → RemovesSo f g name false
    left_in is good = record {
      bad = λ bad. absurd (false≢true (sym bad ∙ good));
      removed = subst (λ (good : Bool). Makes f g (cond good (Remove Packages name false ∷ []) [])) (sym good) (fails is);
    }

    pub fails_only : fail ≡ Fault → MakesOnly (IsRemoveOf name) f g
    fails_only is = only_makes_one (IsRemoveOf name) f g (Remove Packages name false) (refl, refl) (fails is)

    pub wants_only : fail ≡ NoMemory → MakesOnly (IsRemoveOf name) f g
    wants_only is =
        let p : Calls {T = Unit {0}} f g (λ done. Remove Packages name (is_some done)) (Err NoMemory) =
        subst (λ (fail : FolderFail). Calls {T = Unit {0}} f g (λ done. Remove Packages name (is_some done)) (Err fail)) is failed in
        record { seen = []; made = record { told = p.told; calls = p.calls; count = p.count; fault = λ any. absurd (false≢true any) }; each = tt }
