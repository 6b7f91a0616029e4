-- Which agents have an offer of which nothing is known yet, where rollouts change.
use Rattle.std.proofs.Common.{◌≡◌, ℕ, List, [], ◌∷◌, map, filter, Bool, true, false, not, cond, ◌||◌, ◌&&◌, Option, refl, sym, ◌∙◌, ap}
use Rattle.std.specs.List.{list_any}
use Rattle.std.specs.Str.{bytes_eq}
use Rattle.std.proofs.lemmas.List.Folds.{list_any-append}
use Rattle.server_core.specs.declared.rows.Record.{Record}
use Rattle.server_core.specs.History.{is_among}
use Rattle.server_waves.specs.declared.finders.Finder.{Finder}
use Rattle.server_waves.specs.Points.{OfferNoMore, is_offered}
use Rattle.server_waves.specs.Register.{Rolling, all_without, changed, finished, new_rolling, with_agents, with_rolling, with_waves, without_agent}
use Rattle.server_waves.specs.Waves.{Terms, Waves, hash_of}
use Rattle.server_waves.proofs.CourseLemmas.{among_fewer}
use Rattle.server_waves.proofs.PointLemmas.{keeps_agents}

pub or_right : (b c : Bool) → c ≡ true → (b || c) ≡ true
or_right true c h = refl
or_right false c h = h

pub or_left : (b c : Bool) → b ≡ true → (b || c) ≡ true
or_left true c h = refl
or_left false c h = absurd (cc h)

pub or_parts : {P : Type 0} (b c : Bool) → (b || c) ≡ true → (b ≡ true → P) → (c ≡ true → P) → P
or_parts true c h first second = first refl
or_parts false c h first second = second h

module _ (test : Rolling → Bool) where
  any_map : (change : Rolling → Rolling) → ((r : Rolling) → test (change r) ≡ true → test r ≡ true) → (rs : List Rolling) → list_any test (map change rs) ≡ true → list_any test rs ≡ true
  any_map change less [] there = there
  any_map change less (r ∷ rs) there =
      or_parts (test (change r)) (list_any test (map change rs)) there
      (λ own. or_left (test r) (list_any test rs) (less r own))
      (λ rest. or_right (test r) (list_any test rs) (any_map change less rs rest))

  any_fewer : (stays : Rolling → Bool) (rs : List Rolling) → list_any test (filter stays rs) ≡ true → list_any test rs ≡ true
  any_fewer stays [] there = there
  any_fewer stays (r ∷ rs) there = by_test (stays r) there (any_fewer stays rs)
    where
      by_test : (b : Bool) → list_any test (cond b (r ∷ filter stays rs) (filter stays rs)) ≡ true → (list_any test (filter stays rs) ≡ true → list_any test rs ≡ true) → (test r || list_any test rs) ≡ true
      by_test true h more = or_parts (test r) (list_any test (filter stays rs)) h (λ own. or_left (test r) (list_any test rs) own) (λ rest. or_right (test r) (list_any test rs) (more rest))
      by_test false h more = or_right (test r) (list_any test rs) (more h)

-- the agent has the rollout's offer, which has this hash
abbrev pub has_offer : List ℕ → List ℕ → Rolling → Bool
has_offer hash uid r = bytes_eq (hash_of r.terms) hash && is_among r.waves.offered uid

and_less : (a b c : Bool) → (b ≡ true → c ≡ true) → (a && b) ≡ true → (a && c) ≡ true
and_less true b c less h = less h
and_less false b c less h = h

module _ (hash uid : List ℕ) where
  -- one that stands as before
  named : (change : Waves → Waves) → ((w : Waves) → (change w).offered ≡ w.offered) → (id : List ℕ) (r : Rolling) → has_offer hash uid (with_waves change id r) ≡ true → has_offer hash uid r ≡ true
  named change same id r there = by_test (bytes_eq r.id id) there
    where
      by_test : (b : Bool) → has_offer hash uid (cond b (record r { waves = change r.waves }) r) ≡ true → has_offer hash uid r ≡ true
      by_test true h = and_less (bytes_eq (hash_of r.terms) hash) (is_among (change r.waves).offered uid) (is_among r.waves.offered uid)
          (λ own. ap (λ (us : List (List ℕ)). is_among us uid) (sym (same r.waves)) ∙ own) h
      by_test false h = h

pub changed_offers : (change : Waves → Waves) → ((w : Waves) → (change w).offered ≡ w.offered) → (id : List ℕ) (rollouts : List Rolling) → OfferNoMore rollouts (changed change id rollouts)
changed_offers change same id rollouts = λ hash uid there. any_map (has_offer hash uid) (with_waves change id) (named hash uid change same id) rollouts there

pub finished_offers : (id : List ℕ) (rollouts : List Rolling) → OfferNoMore rollouts (finished id rollouts)
finished_offers id rollouts = λ hash uid there. any_fewer (has_offer hash uid) (λ r. not (bytes_eq r.id id)) rollouts there

pub left_offers : (agent : List ℕ) (rollouts : List Rolling) → OfferNoMore rollouts (all_without agent rollouts)
left_offers agent rollouts = λ hash uid there.
    any_map (has_offer hash uid) (without_agent agent)
    (λ r h. and_less (bytes_eq (hash_of r.terms) hash) (is_among (without_agent agent r).waves.offered uid) (is_among r.waves.offered uid) (λ own. among_fewer (λ u. not (bytes_eq u agent)) r.waves.offered uid own) h)
    rollouts there

and_none : (a : Bool) → (a && false) ≡ false
and_none true = refl
and_none false = refl

or_none : (a : Bool) → (a || false) ≡ true → a ≡ true
or_none true h = refl
or_none false h = h

pub begun_offers : (records : List Record) (id : List ℕ) (sought : Option Finder) (terms : Terms) (rollouts : List Rolling) → OfferNoMore rollouts (with_rolling records id sought terms rollouts)
begun_offers records id sought terms rollouts = λ hash uid there.
    let new : Rolling = with_agents records (new_rolling id sought terms) in
    let none : has_offer hash uid new ≡ false =
    ap (λ (us : List (List ℕ)). bytes_eq (hash_of new.terms) hash && is_among us uid) (keeps_agents records (new_rolling id sought terms)).offered ∙ and_none (bytes_eq (hash_of new.terms) hash) in
    or_none (is_offered rollouts hash uid) (
    ap (λ (b : Bool). is_offered rollouts hash uid || b) (sym (ap (λ (b : Bool). b || false) none))
    ∙ sym (list_any-append (has_offer hash uid) rollouts (new ∷ []))
    ∙ there)
