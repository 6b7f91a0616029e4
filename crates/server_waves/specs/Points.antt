-- The points of all rollouts behind an event.
use Rattle.std.specs.Prelude.{◌≡◌, ◌⊎◌, ℕ, ◌≤◌, List, [], ◌∷◌, ◌++◌, take, fold, Bool, true, false, ◌&&◌, Option, None, Some}
use Rattle.std.specs.List.{list_any}
use Rattle.std.specs.Str.{bytes_eq}
use Rattle.server_core.specs.declared.rows.Record.{Record}
use Rattle.server_core.specs.History.{is_among}
use Rattle.server_core.specs.Table.{Table, find_record}
use Rattle.server_waves.specs.Courses.{unsettled}
use Rattle.server_waves.specs.Register.{Rolling, with_agent}
use Rattle.server_waves.specs.Waves.{hash_of, is_decided, offered_at, offers_at, passes, table_at, waves_at}

-- an agent that the server holds may join
abbrev pub with_found : Option Record → Rolling → Rolling
with_found None rolling = rolling
with_found (Some agent) rolling = with_agent agent rolling

-- the agents that were heard in an event may join, in that order
abbrev pub with_heard : List Record → List (List ℕ) → Rolling → Rolling
with_heard records heard rolling = fold (λ seen uid. with_found (find_record records uid) seen) rolling heard

-- a rollout to whose agents these first ones of a point's offers were made
abbrev pub pointed : (Record → Bool) → Table → ℕ → Rolling → Rolling
pointed fine table made rolling = record rolling { waves = waves_at fine rolling.terms table rolling.waves made }

-- how many offers its point may make
abbrev pub most : (Record → Bool) → Table → Rolling → ℕ
most fine table rolling = offers_at fine rolling.terms table rolling.waves

-- Where a rollout stands behind an event: those that were heard joined, and it came to its point.
abbrev pub rolled : (Record → Bool) → List (List ℕ) → Table → Rolling → Rolling
rolled fine heard table rolling =
    let ready = with_heard table.records heard rolling in
    pointed fine table (most fine table ready) ready

-- the table then
abbrev pub rolled_table : (Record → Bool) → List (List ℕ) → Table → Rolling → Table
rolled_table fine heard table rolling =
    let ready = with_heard table.records heard rolling in
    table_at fine ready.terms table ready.waves (most fine table ready)

-- the agents that were newly offered
abbrev pub rolled_newly : (Record → Bool) → List (List ℕ) → Table → Rolling → List (List ℕ)
rolled_newly fine heard table rolling =
    let ready = with_heard table.records heard rolling in
    offered_at fine ready.terms table ready.waves

-- where the rollouts stand, the table, and the agents that were newly offered
pub record AfterPoints : Type 0 where
  pub rollouts : List Rolling
  pub table : Table
  pub newly : List (List ℕ)

-- What follows an event in which these agents were heard: each rollout, in the order of begin, has them join and comes to its point.
abbrev pub points : (Record → Bool) → List (List ℕ) → List Rolling → Table → AfterPoints
points fine heard [] table = record { rollouts = []; table = table; newly = [] }
points fine heard (r ∷ rollouts) table =
    let rest = points fine heard rollouts (rolled_table fine heard table r) in
    record { rollouts = rolled fine heard table r ∷ rest.rollouts; table = rest.table; newly = rolled_newly fine heard table r ++ rest.newly }

-- Memory was wanting for a rollout: some first ones of the agents joined, or all did and some first ones of its point's offers were made.
abbrev pub RollsInPart : (Record → Bool) → List (List ℕ) → Rolling → Rolling → Table → Table → Type 0
RollsInPart fine heard old new before after =
    ((count : ℕ) × (new ≡ with_heard before.records (take count heard) old) × (after ≡ before))
    ⊎ ((made : ℕ)
    × (made ≤ most fine before (with_heard before.records heard old))
    × (new ≡ pointed fine before made (with_heard before.records heard old))
    × (after ≡ table_at fine (with_heard before.records heard old).terms before (with_heard before.records heard old).waves made))

-- Memory was wanting: some first ones of the rollouts came to their points, perhaps the next one in part, and those behind it didn't.
abbrev pub ArePointedInPart : (Record → Bool) → List (List ℕ) → List Rolling → List Rolling → Table → Table → Type 0
ArePointedInPart fine heard [] new before after = (new ≡ []) × (after ≡ before)
ArePointedInPart fine heard (r ∷ rollouts) new before after =
    ((next : Rolling) × (new ≡ next ∷ rollouts) × RollsInPart fine heard r next before after)
    ⊎ ((rest : List Rolling)
    × (new ≡ rolled fine heard before r ∷ rest)
    × ArePointedInPart fine heard rollouts rest (rolled_table fine heard before r) after)

-- ---- of whom it is looked up what became of an offer

-- the agent has an offer of this hash by one of the rollouts, of which nothing is known yet
abbrev pub is_offered : List Rolling → List ℕ → List ℕ → Bool
is_offered rollouts hash uid = list_any (λ r. bytes_eq (hash_of r.terms) hash && is_among r.waves.offered uid) rollouts

-- Each agent that has an offer had it before.
abbrev pub OfferNoMore : List Rolling → List Rolling → Type 0
OfferNoMore old new = (hash uid : List ℕ) → is_offered new hash uid ≡ true → is_offered old hash uid ≡ true

-- Of no agent that has an offer, but for those that pass the test, it is known what became of it.
abbrev pub AreCurrentBut : (List ℕ → Bool) → (Record → Bool) → List Record → List Rolling → Type 0
AreCurrentBut but fine records rollouts =
    (hash uid : List ℕ) → is_offered rollouts hash uid ≡ true → but uid ≡ false → passes (is_decided fine hash) (find_record records uid) ≡ false

-- ---- what each rollout keeps to

-- Of each rollout at most so many agents as its width have the offer and haven't applied it, but for those that are excused.
abbrev pub AreWithin : List Rolling → Type 0
AreWithin [] = Unit {0}
AreWithin (r ∷ rollouts) = (unsettled r.waves ≤ r.terms.width) × AreWithin rollouts
