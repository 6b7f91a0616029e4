-- The visits of an offer are those of its plan.
use Rattle.std.proofs.Common.{◌≡◌, ℕ, List, [], ◌∷◌, map, Bool, true, false, cond, not, Option, Some, None, refl, sym, ◌∙◌, ap, subst}
use Rattle.std.specs.Prelude.{filter, is_some}
use Rattle.std.specs.List.{AllByRecursion}
use Rattle.plain_values.specs.declared.maps.Pair.{Pair}
use Rattle.message_values.specs.declared.packages.PackageAvailable.{PackageAvailable}
use Rattle.message_values.specs.declared.packages.PackageStatus.{PackageStatus}
use Rattle.message_values.specs.declared.packages.PackageStatuses.{PackageStatuses}
use Rattle.message_values.specs.declared.packages.PackagesAvailable.{PackagesAvailable}
use Rattle.plain_values.specs.Pairs.{value_at}
use Rattle.agent_packages.specs.declared.install.Ended.{Ended}
use Rattle.agent_packages.specs.Packages.{is_same, is_same_offer, names_where, to_fetch, to_keep, to_remove}
use Rattle.agent_packages.specs.Visits.{Departure, IsVisit, IsVisitSo, Visit}

abbrev fetches_it : Visit → Bool
fetches_it visit = is_some visit.ended

abbrev name_of : Visit → List ℕ
name_of visit = visit.item.key

abbrev key_of : {T : Type 0} → Pair T → List ℕ
key_of item = item.key

abbrev NamesFetched : List (Pair PackageStatus) → Visit → List Visit → List (Pair PackageAvailable) → Bool → Bool → Type 0
NamesFetched held visit visits items fetched other = map name_of (cond fetched (visit ∷ visits) visits) ≡ map key_of (cond other (visit.item ∷ items) items)

fetched_more : (held : List (Pair PackageStatus)) (visit : Visit) (visits : List Visit) (items : List (Pair PackageAvailable)) → IsVisit held visit
    → map name_of visits ≡ map key_of items → NamesFetched held visit visits items (is_some visit.ended) (not (is_same held visit.item))
fetched_more held visit visits items is e = by_end visit.ended is
  where
    by_end : (ended : Option Ended) → IsVisitSo held visit.item visit.content ended
        → NamesFetched held visit visits items (is_some ended) (not (is_same held visit.item))
    by_end None same = subst (λ b. NamesFetched held visit visits items false (not b)) (sym same) e
    by_end (Some ended) so = subst (λ b. NamesFetched held visit visits items true (not b)) (sym so.0) (ap (λ names. visit.item.key ∷ names) e)

fetched_names_are : (held : List (Pair PackageStatus)) (visits : List Visit) → AllByRecursion (IsVisit held) visits
    → map name_of (filter fetches_it visits) ≡ names_where (λ item. not (is_same held item)) (map (λ visit. visit.item) visits)
fetched_names_are held [] all = refl
fetched_names_are held (visit ∷ visits) all =
    fetched_more held visit (filter fetches_it visits) (filter (λ item. not (is_same held item)) (map (λ (v : Visit). v.item) visits)) all.0 (fetched_names_are held visits all.1)

kept_more : (held : List (Pair PackageStatus)) (visit : Visit) (visits : List Visit) (items : List (Pair PackageAvailable)) → IsVisit held visit
    → map name_of visits ≡ map key_of items → NamesFetched held visit visits items (not (is_some visit.ended)) (is_same held visit.item)
kept_more held visit visits items is e = by_end visit.ended is
  where
    by_end : (ended : Option Ended) → IsVisitSo held visit.item visit.content ended
        → NamesFetched held visit visits items (not (is_some ended)) (is_same held visit.item)
    by_end None same = subst (λ b. NamesFetched held visit visits items true b) (sym same) (ap (λ names. visit.item.key ∷ names) e)
    by_end (Some ended) so = subst (λ b. NamesFetched held visit visits items false b) (sym so.0) e

kept_names_are : (held : List (Pair PackageStatus)) (visits : List Visit) → AllByRecursion (IsVisit held) visits
    → map name_of (filter (λ visit. not (fetches_it visit)) visits) ≡ names_where (is_same held) (map (λ visit. visit.item) visits)
kept_names_are held [] all = refl
kept_names_are held (visit ∷ visits) all =
    kept_more held visit (filter (λ v. not (fetches_it v)) visits) (filter (is_same held) (map (λ (v : Visit). v.item) visits)) all.0 (kept_names_are held visits all.1)

departed_names_are : (departures : List Departure) → map (λ departure. departure.item.key) departures ≡ map key_of (map (λ departure. departure.item) departures)
departed_names_are [] = refl
departed_names_are (departure ∷ departures) = ap (λ names. departure.item.key ∷ names) (departed_names_are departures)

-- the names, where the offer as a whole isn't the one that is held
unless_held : (same : Bool) (names held other : List (List ℕ)) → same ≡ false → names ≡ other → names ≡ cond same held other
unless_held same names held other is e = subst (λ b. names ≡ cond b held other) (sym is) e

pub fetched_by_plan : (held : PackageStatuses) (offered : PackagesAvailable) (visits : List Visit) → is_same_offer held offered ≡ false
    → map (λ visit. visit.item) visits ≡ offered.packages → AllByRecursion (IsVisit held.packages) visits
    → map (λ visit. visit.item.key) (filter (λ visit. is_some visit.ended) visits) ≡ to_fetch held offered
fetched_by_plan held offered visits other are each =
    unless_held (is_same_offer held offered) _ [] _ other
    (fetched_names_are held.packages visits each ∙ ap (names_where (λ item. not (is_same held.packages item))) are)

pub kept_by_plan : (held : PackageStatuses) (offered : PackagesAvailable) (visits : List Visit) → is_same_offer held offered ≡ false
    → map (λ visit. visit.item) visits ≡ offered.packages → AllByRecursion (IsVisit held.packages) visits
    → map (λ visit. visit.item.key) (filter (λ visit. not (is_some visit.ended)) visits) ≡ to_keep held offered
kept_by_plan held offered visits other are each =
    unless_held (is_same_offer held offered) _ (map key_of held.packages) _ other
    (kept_names_are held.packages visits each ∙ ap (names_where (is_same held.packages)) are)

pub gone_by_plan : (held : PackageStatuses) (offered : PackagesAvailable) (departures : List Departure) → is_same_offer held offered ≡ false
    → map (λ departure. departure.item) departures ≡ filter (λ item. not (is_some (value_at offered.packages item.key))) held.packages
    → map (λ departure. departure.item.key) departures ≡ to_remove held offered
gone_by_plan held offered departures other are =
    unless_held (is_same_offer held offered) _ [] _ other (departed_names_are departures ∙ ap (map key_of) are)
