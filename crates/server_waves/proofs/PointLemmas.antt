-- What the points of rollouts change.
use Rattle.std.proofs.Common.{◌≡◌, ◌⊎◌, inl, inr, ℕ, ◌+◌, ◌-◌, ◌≤◌, ◌<◌, min, List, [], ◌∷◌, ◌++◌, length, take, drop, Bool, true, false, not, cond, Option, None, Some, refl, ◌∙◌, ap, subst, arith, length-append}
use Rattle.std.proofs.Math.Seq.{drop-append_seam, take-append_seam}
use Rattle.std.proofs.lemmas.Bool.{cases_lt}
use Rattle.std.proofs.lemmas.List.{length-take}
use Rattle.server_core.specs.declared.rows.Record.{Record}
use Rattle.server_core.specs.Table.{Table, find_record}
use Rattle.server_waves.specs.Points.{RollsInPart, most, rolled_table, rolled, rolled_newly, with_found, with_heard}
use Rattle.server_waves.specs.Register.{Rolling, is_found, with_agent, with_agents}
use Rattle.server_waves.specs.Waves.{Terms, Waves, can_join, decided, hash_of, is_decided, offered_at, offers_at, others, passes, waves_at}
use Rattle.server_waves.proofs.CourseLemmas.{fewer_left, halted_then, no_offers_then}

-- ---- who joins waits, and has no offer

-- a rollout of the same name, for the same agents, on the same terms, whose offers stand as before
pub record Keeps (old new : Rolling) : Type 0 where
  pub id : new.id ≡ old.id
  pub finds : new.finds ≡ old.finds
  pub terms : new.terms ≡ old.terms
  pub offered : new.waves.offered ≡ old.waves.offered
  pub halted : new.waves.halted ≡ old.waves.halted

pub keeps_same : (r : Rolling) → Keeps r r
keeps_same r = record { id = refl; finds = refl; terms = refl; offered = refl; halted = refl }

keeps_on : (a b c : Rolling) → Keeps a b → Keeps b c → Keeps a c
keeps_on a b c p q = record { id = q.id ∙ p.id; finds = q.finds ∙ p.finds; terms = q.terms ∙ p.terms; offered = q.offered ∙ p.offered; halted = q.halted ∙ p.halted }

pub keeps_agent : (agent : Record) (r : Rolling) → Keeps r (with_agent agent r)
keeps_agent agent r = by_tests (is_found r.finds agent) (can_join r.waves agent)
  where
    by_tests : (f j : Bool)
        → Keeps r (cond f (record r { waves = cond j (record (r.waves) { members = r.waves.members ++ agent.uid ∷ []; waiting = r.waves.waiting ++ agent.uid ∷ [] }) r.waves }) r)
    by_tests true true = record { id = refl; finds = refl; terms = refl; offered = refl; halted = refl }
    by_tests true false = record { id = refl; finds = refl; terms = refl; offered = refl; halted = refl }
    by_tests false j = keeps_same r

pub keeps_agents : (agents : List Record) (r : Rolling) → Keeps r (with_agents agents r)
keeps_agents [] r = keeps_same r
keeps_agents (agent ∷ agents) r = keeps_on r (with_agent agent r) (with_agents agents (with_agent agent r)) (keeps_agent agent r) (keeps_agents agents (with_agent agent r))

keeps_found : (found : Option Record) (r : Rolling) → Keeps r (with_found found r)
keeps_found None r = keeps_same r
keeps_found (Some agent) r = keeps_agent agent r

pub keeps_heard : (records : List Record) (heard : List (List ℕ)) (r : Rolling) → Keeps r (with_heard records heard r)
keeps_heard records [] r = keeps_same r
keeps_heard records (uid ∷ heard) r =
    let next = with_found (find_record records uid) r in
    keeps_on r next (with_heard records heard next) (keeps_found (find_record records uid) r) (keeps_heard records heard next)

-- ---- behind a point

module _ (fine : Record → Bool) (terms : Terms) (table : Table) (waves : Waves) where
  still : length (decided fine terms table waves).offered ≤ length waves.offered
  still = fewer_left (λ uid. not (passes (is_decided fine (hash_of terms)) (find_record table.records uid))) waves.offered

  room_none : (halted : Bool) (offered failed : ℕ) → terms.width < offered → cond halted 0 (terms.width - offered - failed) ≡ 0
  room_none true offered failed over = refl
  room_none false offered failed over = omega (arith, over)

  room_some : (halted : Bool) (offered failed : ℕ) → offered ≤ terms.width → offered + cond halted 0 (terms.width - offered - failed) ≤ terms.width
  room_some true offered failed within = omega (arith, within)
  room_some false offered failed within = omega (arith, within)

  -- at most so many have the offer undecided, or more had it before, and it is made to no more
  pub point_width : (length (waves_at fine terms table waves (offers_at fine terms table waves)).offered ≤ terms.width)
      ⊎ ((terms.width < length waves.offered) × (offered_at fine terms table waves ≡ []))
  point_width = by_order (cases_lt terms.width (length (decided fine terms table waves).offered))
    where
      by_order : (terms.width < length (decided fine terms table waves).offered) ⊎ (length (decided fine terms table waves).offered ≤ terms.width)
          → (length (waves_at fine terms table waves (offers_at fine terms table waves)).offered ≤ terms.width)
          ⊎ ((terms.width < length waves.offered) × (offered_at fine terms table waves ≡ []))
      by_order (inl over) =
          let none : offers_at fine terms table waves ≡ 0 = room_none (decided fine terms table waves).halted (length (decided fine terms table waves).offered) (length (decided fine terms table waves).failed) over in
          inr (omega (arith, over, still), ap (λ n. take n (decided fine terms table waves).waiting) none)
      by_order (inr within) =
          let all : length ((decided fine terms table waves).offered ++ take (offers_at fine terms table waves) (decided fine terms table waves).waiting)
          ≡ length (decided fine terms table waves).offered + length (take (offers_at fine terms table waves) (decided fine terms table waves).waiting) =
          length-append (decided fine terms table waves).offered (take (offers_at fine terms table waves) (decided fine terms table waves).waiting) in
          let some : length (take (offers_at fine terms table waves) (decided fine terms table waves).waiting) ≡ min (offers_at fine terms table waves) (length (decided fine terms table waves).waiting) =
          length-take (offers_at fine terms table waves) (decided fine terms table waves).waiting in
          let most : length (decided fine terms table waves).offered + offers_at fine terms table waves ≤ terms.width =
          room_some (decided fine terms table waves).halted (length (decided fine terms table waves).offered) (length (decided fine terms table waves).failed) within in
          inl (omega (arith, all, some, most))

  -- to none is it made where the rollout was halted
  pub point_halted : waves.halted ≡ true → offered_at fine terms table waves ≡ []
  point_halted halted = ap (λ n. take n (decided fine terms table waves).waiting) (no_offers_then fine terms table waves halted)

module _ (fine : Record → Bool) (heard : List (List ℕ)) (table : Table) (rolling : Rolling) where
  kept : Keeps rolling (with_heard table.records heard rolling)
  kept = keeps_heard table.records heard rolling

  pub rolled_width : (length (rolled fine heard table rolling).waves.offered ≤ rolling.terms.width)
      ⊎ ((rolling.terms.width < length rolling.waves.offered) × (rolled_newly fine heard table rolling ≡ []))
  rolled_width = by_case (point_width fine (with_heard table.records heard rolling).terms table (with_heard table.records heard rolling).waves)
    where
      width : (with_heard table.records heard rolling).terms.width ≡ rolling.terms.width
      width = ap (λ (t : Terms). t.width) kept.terms

      before : length (with_heard table.records heard rolling).waves.offered ≡ length rolling.waves.offered
      before = ap length kept.offered

      by_case : (length (rolled fine heard table rolling).waves.offered ≤ (with_heard table.records heard rolling).terms.width)
          ⊎ (((with_heard table.records heard rolling).terms.width < length (with_heard table.records heard rolling).waves.offered) × (rolled_newly fine heard table rolling ≡ []))
          → (length (rolled fine heard table rolling).waves.offered ≤ rolling.terms.width)
          ⊎ ((rolling.terms.width < length rolling.waves.offered) × (rolled_newly fine heard table rolling ≡ []))
      by_case (inl within) = inl (subst (λ (n : ℕ). length (rolled fine heard table rolling).waves.offered ≤ n) width within)
      by_case (inr over) = inr (subst (λ (n : ℕ). n < length rolling.waves.offered) width (subst (λ (n : ℕ). (with_heard table.records heard rolling).terms.width < n) before over.0), over.1)

  pub rolled_halted : rolling.waves.halted ≡ true → ((rolled fine heard table rolling).waves.halted ≡ true) × (rolled_newly fine heard table rolling ≡ [])
  rolled_halted halted =
      let ready : (with_heard table.records heard rolling).waves.halted ≡ true = kept.halted ∙ halted in (
        halted_then fine (with_heard table.records heard rolling).terms table (with_heard table.records heard rolling).waves ready,
        point_halted fine (with_heard table.records heard rolling).terms table (with_heard table.records heard rolling).waves ready,
      )

-- how those that had the offer part from those that got it
module _ (fine : Record → Bool) (terms : Terms) (table : Table) (waves new : Waves) (n : ℕ) (is : new ≡ waves_at fine terms table waves (offers_at fine terms table waves)) (from : n ≡ length (decided fine terms table waves).offered) where
  pub within_from : n ≤ length new.offered
  within_from =
      let size : length new.offered ≡ length (decided fine terms table waves).offered + length (take (offers_at fine terms table waves) (decided fine terms table waves).waiting) =
      ap (λ (w : Waves). length w.offered) is ∙ length-append (decided fine terms table waves).offered (take (offers_at fine terms table waves) (decided fine terms table waves).waiting) in
      omega (arith, from, size)

  pub newly_from : drop n new.offered ≡ offered_at fine terms table waves
  newly_from =
      ap (λ k. drop k new.offered) from
      ∙ ap (λ (w : Waves). drop (length (decided fine terms table waves).offered) w.offered) is
      ∙ drop-append_seam (decided fine terms table waves).offered (take (offers_at fine terms table waves) (decided fine terms table waves).waiting)

  pub before_from : take n new.offered ≡ others (is_decided fine (hash_of terms)) table.records waves.offered
  before_from =
      ap (λ k. take k new.offered) from
      ∙ ap (λ (w : Waves). take (length (decided fine terms table waves).offered) w.offered) is
      ∙ take-append_seam (decided fine terms table waves).offered (take (offers_at fine terms table waves) (decided fine terms table waves).waiting)

-- the same name and terms
pub keeps_rolled : (fine : Record → Bool) (heard : List (List ℕ)) (table : Table) (r : Rolling) → (rolled fine heard table r).terms ≡ r.terms
keeps_rolled fine heard table r = (keeps_heard table.records heard r).terms

-- all of a point is a part of it
pub all_in_part : (fine : Record → Bool) (heard : List (List ℕ)) (old new : Rolling) (before after : Table) → new ≡ rolled fine heard before old → after ≡ rolled_table fine heard before old → RollsInPart fine heard old new before after
all_in_part fine heard old new before after is table = inr (most fine before (with_heard before.records heard old), omega arith, is, table)
