-- The functions by codes are exact: what a report of changes carries, and when a report must be whole.
use Rattle.std.proofs.Common.{◌≡◌, ℕ, List, Bool, true, false, ◌||◌, not, eqb, ◌&&◌, Option, None, Some, is_some, [], ◌⊎◌, inl, inr, refl, sym, ◌∙◌, ap, subst, IsTrue, ◌↔◌}
use Rattle.std.proofs.lemmas.Bool.{and_parts, and_from, or_cases, or_left, or_right, or_parts, not-true, not-false, not_from_false, eqb-true, eq-eqb, eqb-false, ne_eqb, false_from_ne_true}
use Rattle.message_values.specs.contracts.attributes.AgentDescription as description
use Rattle.message_values.specs.contracts.config.EffectiveConfig as effective
use Rattle.message_values.specs.contracts.config.RemoteConfigStatus as remote
use Rattle.message_values.specs.contracts.custom.CustomCapabilities as custom
use Rattle.message_values.specs.contracts.health.ComponentHealth as health
use Rattle.message_values.specs.contracts.packages.PackageStatuses as packages
use Rattle.std.specs.Prelude.{IfSome}
use Rattle.std.specs.Option.{option_map}
use Rattle.plain_values.specs.contracts.texts.Blob as blob
use Rattle.message_values.specs.declared.state.State.{State}
use Rattle.message_deltas.specs.Obligations.{obliged}
use Rattle.message_deltas.specs.Merging.{hash_in}
use Rattle.message_deltas.specs.Sameness.{same, where_differs}
use Rattle.message_deltas.specs.Deltas.{Details, told_under, hash_carried, delta_report, differs_where, differs_in_all, must_be_whole, CarriesChange, CarriesComponents, IsDelta, DiffersInAll, MustBeWhole}
use Rattle.message_deltas.proofs.SamenessLemmas.{same-true, same-false, where_differs-exact, differs_where-exact}

-- a hash alone, read again
hash_alone : (o : Option (List ℕ)) → hash_in (option_map (told_under None) o) ≡ o
hash_alone None = refl
hash_alone (Some h) = refl

no_components : (o : Option (List ℕ)) → IfSome (option_map (told_under None) o) (λ c. c.components ≡ [])
no_components None = tt
no_components (Some h) = refl

components_exact : (details : Details) (before now : Option (List ℕ)) → CarriesComponents details before now (option_map (told_under details) (hash_carried (is_some details) before now))
unfolding hash_carried
components_exact None before now =
    let o = where_differs blob.the_row.coded before now in
    let P : Option (List ℕ) → Type 0 = λ c. CarriesChange before now c in
    (subst P (sym (hash_alone o)) (where_differs-exact blob.the_row.coded before now), no_components o)
components_exact (Some details) before now = refl

-- the report of changes carries exactly what differs
pub delta_exact : (uid : List ℕ) (number : ℕ) (before now : State) (details : Details) → IsDelta uid number before now details (delta_report uid number before now details)
delta_exact uid number before now details = record {
  instance_uid = refl;
  sequence_num = refl;
  description = where_differs-exact description.the_row.coded (Some before.description) (Some now.description);
  capabilities = refl;
  health = where_differs-exact health.the_row.coded before.health now.health;
  effective = where_differs-exact effective.the_row.coded before.effective now.effective;
  remote = where_differs-exact remote.the_row.coded before.remote now.remote;
  packages = where_differs-exact packages.the_row.coded before.packages now.packages;
  disconnect = refl;
  flags = refl;
  custom = where_differs-exact custom.the_row.coded (Some before.custom) (Some now.custom);
  message = refl;
  components = components_exact details before.components now.components;
}

-- what is owed but for details
owed_alone : (owed detailed : Bool) → IsTrue owed → IsTrue (not detailed) → IsTrue (owed && not detailed)
owed_alone true detailed o d = d
owed_alone false detailed o d = o

differs_in_all-true : (before now : State) (detailed : Bool) → IsTrue (differs_in_all before now detailed) → DiffersInAll before now detailed
unfolding differs_in_all
differs_in_all-true before now detailed all =
    let owes = obliged now.capabilities in
    let first = and_parts (not (same description.the_row.coded before.description now.description)) _ all in
    let second = and_parts (differs_where owes.health health.the_row.coded before.health now.health) _ first.1 in
    let third = and_parts (differs_where owes.effective effective.the_row.coded before.effective now.effective) _ second.1 in
    let fourth = and_parts (differs_where owes.remote remote.the_row.coded before.remote now.remote) _ third.1 in
    let fifth = and_parts (differs_where owes.packages packages.the_row.coded before.packages now.packages) _ fourth.1 in
    record {
      description = same-false description.the_row.coded before.description now.description (not-true _ first.0);
      health = (differs_where-exact owes.health health.the_row.coded before.health now.health).0 second.0;
      effective = (differs_where-exact owes.effective effective.the_row.coded before.effective now.effective).0 third.0;
      remote = (differs_where-exact owes.remote remote.the_row.coded before.remote now.remote).0 fourth.0;
      packages = (differs_where-exact owes.packages packages.the_row.coded before.packages now.packages).0 fifth.0;
      components = λ owed alone. (differs_where-exact (owes.components && not detailed) blob.the_row.coded before.components now.components).0 fifth.1 (owed_alone owes.components detailed owed alone);
    }

differs_in_all-from : (before now : State) (detailed : Bool) → DiffersInAll before now detailed → IsTrue (differs_in_all before now detailed)
unfolding differs_in_all
differs_in_all-from before now detailed d =
    let owes = obliged now.capabilities in
    and_from _ _ (not_from_false _ (false_from_ne_true _ (λ e. d.description (same-true description.the_row.coded before.description now.description e))))
    (and_from _ _ ((differs_where-exact owes.health health.the_row.coded before.health now.health).1 d.health)
    (and_from _ _ ((differs_where-exact owes.effective effective.the_row.coded before.effective now.effective).1 d.effective)
    (and_from _ _ ((differs_where-exact owes.remote remote.the_row.coded before.remote now.remote).1 d.remote)
    (and_from _ _ ((differs_where-exact owes.packages packages.the_row.coded before.packages now.packages).1 d.packages)
    ((differs_where-exact (owes.components && not detailed) blob.the_row.coded before.components now.components).1 (λ both. d.components (and_parts owes.components (not detailed) both).0 (and_parts owes.components (not detailed) both).1))))))

pub differs_in_all-exact : (before now : State) (detailed : Bool) → IsTrue (differs_in_all before now detailed) ↔ DiffersInAll before now detailed
differs_in_all-exact before now detailed = (differs_in_all-true before now detailed, differs_in_all-from before now detailed)

whole_test : (before now : State) (detailed : Bool) → IsTrue (must_be_whole before now detailed) → MustBeWhole before now detailed
whole_test before now detailed whole = by_cases (or_cases (not (eqb before.capabilities now.capabilities)) (differs_in_all before now detailed) whole)
  where
    by_cases : (not (eqb before.capabilities now.capabilities) ≡ true) ⊎ (differs_in_all before now detailed ≡ true) → MustBeWhole before now detailed
    by_cases (inl e) = inl (eqb-false before.capabilities now.capabilities (not-true _ e))
    by_cases (inr e) = inr (differs_in_all-true before now detailed e)

whole_from : (before now : State) (detailed : Bool) → MustBeWhole before now detailed → IsTrue (must_be_whole before now detailed)
whole_from before now detailed (inl apart) = or_left (not (eqb before.capabilities now.capabilities)) (differs_in_all before now detailed) (not_from_false _ (ne_eqb before.capabilities now.capabilities apart))
whole_from before now detailed (inr all) = or_right (not (eqb before.capabilities now.capabilities)) (differs_in_all before now detailed) (differs_in_all-from before now detailed all)

pub must_be_whole-exact : (before now : State) (detailed : Bool) → IsTrue (must_be_whole before now detailed) ↔ MustBeWhole before now detailed
must_be_whole-exact before now detailed = (whole_test before now detailed, whole_from before now detailed)

-- a report that need not be whole has the capabilities that were reported before
pub must_be_whole-same : (before now : State) (detailed : Bool) → must_be_whole before now detailed ≡ false → before.capabilities ≡ now.capabilities
must_be_whole-same before now detailed small = eqb-true before.capabilities now.capabilities (not-false _ (or_parts (not (eqb before.capabilities now.capabilities)) (differs_in_all before now detailed) small).0)

pub must_be_whole-at_same : (before now : State) (detailed : Bool) → before.capabilities ≡ now.capabilities → must_be_whole before now detailed ≡ differs_in_all before now detailed
must_be_whole-at_same before now detailed same = ap (λ t. not t || differs_in_all before now detailed) (eq-eqb before.capabilities now.capabilities same)

-- what equals the test is as exact
pub exact_if_test : (before now : State) (detailed : Bool) (test : Bool) → test ≡ must_be_whole before now detailed → IsTrue test ↔ MustBeWhole before now detailed
exact_if_test before now detailed test is =
    let exact = must_be_whole-exact before now detailed in
    (λ h. exact.0 (sym is ∙ h), λ must. is ∙ exact.1 must)
