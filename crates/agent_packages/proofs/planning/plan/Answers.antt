use Rattle.std.proofs.Common.{◌≡◌, ℕ, List, Bool, true, false, cond, map, sym, ◌∙◌, ap}
use Rattle.std.specs.Prelude.{not, is_some}
use Rattle.plain_values.specs.declared.maps.Pair.{Pair}
use Rattle.message_values.specs.declared.packages.PackageAvailable.{PackageAvailable}
use Rattle.message_values.specs.declared.packages.PackageStatus.{PackageStatus}
use Rattle.plain_values.specs.Pairs.{value_at}
use Rattle.agent_packages.specs.Packages.{is_same, is_same_offer, names_where}
use Rattle.agent_packages.proofs.planning.plan.Goals as goal

by_true : (test : Bool) (one other made : List (List ℕ)) → test ≡ true → made ≡ one → made ≡ cond test one other
by_true test one other made is same = same ∙ ap (λ (b : Bool). cond b one other) (sym is)

by_false : (test : Bool) (one other made : List (List ℕ)) → test ≡ false → made ≡ other → made ≡ cond test one other
by_false test one other made is same = same ∙ ap (λ (b : Bool). cond b one other) (sym is)

pub returns-then-is_held_offer : goal.returns-then-is_held_offer
returns-then-is_held_offer c =
    let held = c.args.held.now in
    let is : is_same_offer held c.args.offered.now ≡ true = sym c.is_held_offer.ensures ∙ c.if-is_held_offer.true in
    record {
      fetch = by_true (is_same_offer held c.args.offered.now) _ _ _ is c.new.ensures.empty;
      same = by_true (is_same_offer held c.args.offered.now) _ _ _ is (c.in_ok-all_names.ensures ∙ ap (λ (items : List (Pair PackageStatus)). map (λ item. item.key) items) c.as_slice.ensures.value);
      gone = by_true (is_same_offer held c.args.offered.now) _ _ _ is c.new-then-is_held_offer.ensures.empty;
    }

pub returns : goal.returns
returns c =
    let held = c.args.held.now in
    let offered = c.args.offered.now in
    let is : is_same_offer held offered ≡ false = sym c.is_held_offer.ensures ∙ c.if-is_held_offer.false in
    record {
      fetch = by_false (is_same_offer held offered) _ _ _ is (c.in_ok-names_to_fetch.ensures ∙ ap (λ (items : List (Pair PackageAvailable)). names_where (λ item. not (is_same held.packages item)) items) c.as_slice-2.ensures.value);
      same = by_false (is_same_offer held offered) _ _ _ is (c.in_ok-names_to_keep.ensures ∙ ap (λ (items : List (Pair PackageAvailable)). names_where (is_same held.packages) items) c.as_slice-3.ensures.value);
      gone = by_false (is_same_offer held offered) _ _ _ is (c.in_ok-names_to_remove.ensures ∙ ap (λ (items : List (Pair PackageStatus)). names_where (λ item. not (is_some (value_at offered.packages item.key))) items) c.as_slice-4.ensures.value);
    }
