-- What the reports of a state merge to, and which of them are full.
use Rattle.std.proofs.Common.{◌≡◌, ◌≢◌, ℕ, List, Bool, true, false, ◌&&◌, Option, None, Some, is_some, inl, inr, refl, sym, ◌∙◌, ap}
use Rattle.std.specs.Prelude.{unwrap_or, not, IfSome, IsSome, IsTrue}
use Rattle.std.specs.Option.{option_map, option_or}
use Rattle.message_values.specs.declared.components.AvailableComponents.{AvailableComponents}
use Rattle.std.proofs.lemmas.Bool.{false≢true, false_from_ne_true}
use Rattle.message_values.specs.declared.state.State.{State}
use Rattle.message_values.specs.declared.report.AgentToServer.{AgentToServer}
use Rattle.message_deltas.specs.Obligations.{obliged, is_met, is_full, IsValidState}
use Rattle.message_deltas.specs.Merging.{hash_in, merged_state}
use Rattle.message_deltas.specs.Deltas.{Details, told_under, CarriesComponents, whole_report, delta_report, must_be_whole, CarriesChange, IsDelta, DiffersInAll, MustBeWhole}
use Rattle.message_deltas.proofs.ExactLemmas.{delta_exact, must_be_whole-exact}

put_changed : {T : Type 0} (old new : T) (carried : Option T) → CarriesChange (Some old) (Some new) carried → unwrap_or carried old ≡ new
put_changed old new carried (inl same) = ap (λ o. unwrap_or o old) same.1 ∙ ap (λ o. unwrap_or o old) same.0
put_changed old new carried (inr changed) = ap (λ o. unwrap_or o old) changed.1

put_optional_changed : {T : Type 0} (old new carried : Option T) (owed : Bool) → is_some old ≡ owed → is_some new ≡ owed → CarriesChange old new carried → option_or carried old ≡ new
put_optional_changed old new carried owed was is (inl same) = ap (λ o. option_or o old) same.1 ∙ same.0
put_optional_changed None None carried owed was is (inr changed) = absurd (changed.0 refl)
put_optional_changed None (Some y) carried owed was is (inr changed) = absurd (false≢true (was ∙ sym is))
put_optional_changed (Some x) None carried owed was is (inr changed) = absurd (false≢true (is ∙ sym was))
put_optional_changed (Some x) (Some y) carried owed was is (inr changed) = ap (λ o. option_or o (Some x)) changed.1

hash_of_told : (details : Details) (o : Option (List ℕ)) → hash_in (option_map (told_under details) o) ≡ o
hash_of_told details None = refl
hash_of_told details (Some h) = refl

put_components : (details : Details) (old new : Option (List ℕ)) (carried : Option AvailableComponents) (owed : Bool) → is_some old ≡ owed → is_some new ≡ owed → IfSome details (λ _. IsSome new)
    → CarriesComponents details old new carried → option_or (hash_in carried) old ≡ new
put_components None old new carried owed was is given d = put_optional_changed old new (hash_in carried) owed was is d.0
put_components (Some details) old (Some h) carried owed was is given d = ap (λ c. option_or (hash_in c) old) d
put_components (Some details) old None carried owed was is given d = cc

merged_change : (uid : List ℕ) (number : ℕ) (before now : State) (details : Details) (m : AgentToServer) → IsValidState before → IsValidState now → before.capabilities ≡ now.capabilities → IfSome details (λ _. IsSome now.components) → IsDelta uid number before now details m → merged_state before m ≡ now
merged_change uid number before now details m valid_before valid_now same given d = λ i. record {
  description = put_changed before.description now.description m.agent_description d.description i;
  capabilities = d.capabilities i;
  health = put_optional_changed before.health now.health m.health _ valid_before.health (valid_now.health ∙ ap (λ c. (obliged c).health) (sym same)) d.health i;
  effective = put_optional_changed before.effective now.effective m.effective_config _ valid_before.effective (valid_now.effective ∙ ap (λ c. (obliged c).effective) (sym same)) d.effective i;
  remote = put_optional_changed before.remote now.remote m.remote_config_status _ valid_before.remote (valid_now.remote ∙ ap (λ c. (obliged c).remote) (sym same)) d.remote i;
  packages = put_optional_changed before.packages now.packages m.package_statuses _ valid_before.packages (valid_now.packages ∙ ap (λ c. (obliged c).packages) (sym same)) d.packages i;
  components = put_components details before.components now.components m.available_components _ valid_before.components (valid_now.components ∙ ap (λ c. (obliged c).components) (sym same)) given d.components i;
  custom = put_changed before.custom now.custom m.custom_capabilities d.custom i;
}

carried_differs : {T : Type 0} (old new carried : Option T) → CarriesChange old new carried → is_some carried ≡ true → old ≢ new
carried_differs old new carried (inl same) there = absurd (false≢true (ap is_some (sym same.1) ∙ there))
carried_differs old new carried (inr changed) there = changed.0

both : (a b : Bool) → (a && b) ≡ true → (a ≡ true) × (b ≡ true)
both true b e = (refl, e)
both false b e = absurd (false≢true e)

met : (owed there : Bool) → is_met owed there ≡ true → owed ≡ true → there ≡ true
met true there e o = e
met false there e o = absurd (false≢true o)

-- components that are carried without details differ
components_differ : (details : Details) (old new : Option (List ℕ)) (carried : Option AvailableComponents) → CarriesComponents details old new carried → is_some carried ≡ true → IsTrue (not (is_some details)) → old ≢ new
components_differ None old new carried d there alone = carried_differs old new (hash_in carried) d.0 (is_some-hash carried ∙ there)
  where
    is_some-hash : (o : Option AvailableComponents) → is_some (hash_in o) ≡ is_some o
    is_some-hash None = refl
    is_some-hash (Some c) = refl
components_differ (Some details) old new carried d there alone = absurd (false≢true alone)

full_delta_differs : (uid : List ℕ) (number : ℕ) (before now : State) (details : Details) (m : AgentToServer) → IsDelta uid number before now details m → is_full m ≡ true → DiffersInAll before now (is_some details)
full_delta_differs uid number before now details m d full =
    let description = both (is_some m.agent_description) _ full in
    let health = both (is_met (obliged m.capabilities).health (is_some m.health)) _ description.1 in
    let effective = both (is_met (obliged m.capabilities).effective (is_some m.effective_config)) _ health.1 in
    let remote = both (is_met (obliged m.capabilities).remote (is_some m.remote_config_status)) _ effective.1 in
    let packages = both (is_met (obliged m.capabilities).packages (is_some m.package_statuses)) (is_met (obliged m.capabilities).components (is_some m.available_components)) remote.1 in
    record {
      description = λ same. carried_differs (Some before.description) (Some now.description) m.agent_description d.description description.0 (ap (λ x. Some x) same);
      health = λ owed. carried_differs before.health now.health m.health d.health (met _ _ health.0 (ap (λ c. (obliged c).health) d.capabilities ∙ owed));
      effective = λ owed. carried_differs before.effective now.effective m.effective_config d.effective (met _ _ effective.0 (ap (λ c. (obliged c).effective) d.capabilities ∙ owed));
      remote = λ owed. carried_differs before.remote now.remote m.remote_config_status d.remote (met _ _ remote.0 (ap (λ c. (obliged c).remote) d.capabilities ∙ owed));
      packages = λ owed. carried_differs before.packages now.packages m.package_statuses d.packages (met _ _ packages.0 (ap (λ c. (obliged c).packages) d.capabilities ∙ owed));
      components = λ owed alone. components_differ details before.components now.components m.available_components d.components (met _ _ packages.1 (ap (λ c. (obliged c).components) d.capabilities ∙ owed)) alone;
    }

change_not_full : (uid : List ℕ) (number : ℕ) (before now : State) (details : Details) (m : AgentToServer) → (MustBeWhole before now (is_some details) → ⊥) → IsDelta uid number before now details m → is_full m ≡ false
change_not_full uid number before now details m small d = false_from_ne_true (is_full m) (λ full. small (inr (full_delta_differs uid number before now details m d full)))

pub merged_delta : (uid : List ℕ) (number : ℕ) (before now : State) (details : Details) → IsValidState before → IsValidState now → before.capabilities ≡ now.capabilities → IfSome details (λ _. IsSome now.components) → merged_state before (delta_report uid number before now details) ≡ now
merged_delta uid number before now details valid_before valid_now same given = merged_change uid number before now details (delta_report uid number before now details) valid_before valid_now same given (delta_exact uid number before now details)

pub delta_not_full : (uid : List ℕ) (number : ℕ) (before now : State) (details : Details) → must_be_whole before now (is_some details) ≡ false → is_full (delta_report uid number before now details) ≡ false
delta_not_full uid number before now details small =
    change_not_full uid number before now details (delta_report uid number before now details) (λ must. false≢true (sym small ∙ (must_be_whole-exact before now (is_some details)).1 must)) (delta_exact uid number before now details)

put_optional_now : {T : Type 0} (old new : Option T) (owed : Bool) → is_some old ≡ owed → is_some new ≡ owed → option_or new old ≡ new
put_optional_now None None owed was is = refl
put_optional_now (Some x) None owed was is = absurd (false≢true (is ∙ sym was))
put_optional_now old (Some y) owed was is = refl

pub merged_whole : (uid : List ℕ) (number : ℕ) (before now : State) (details : Details) → IsValidState before → IsValidState now → before.capabilities ≡ now.capabilities → merged_state before (whole_report uid number now details) ≡ now
merged_whole uid number before now details valid_before valid_now same = λ i. record {
  description = now.description;
  capabilities = now.capabilities;
  health = put_optional_now before.health now.health _ valid_before.health (valid_now.health ∙ ap (λ c. (obliged c).health) (sym same)) i;
  effective = put_optional_now before.effective now.effective _ valid_before.effective (valid_now.effective ∙ ap (λ c. (obliged c).effective) (sym same)) i;
  remote = put_optional_now before.remote now.remote _ valid_before.remote (valid_now.remote ∙ ap (λ c. (obliged c).remote) (sym same)) i;
  packages = put_optional_now before.packages now.packages _ valid_before.packages (valid_now.packages ∙ ap (λ c. (obliged c).packages) (sym same)) i;
  components = (ap (λ o. option_or o before.components) (hash_of_told details now.components) ∙ put_optional_now before.components now.components _ valid_before.components (valid_now.components ∙ ap (λ c. (obliged c).components) (sym same))) i;
  custom = now.custom;
}
