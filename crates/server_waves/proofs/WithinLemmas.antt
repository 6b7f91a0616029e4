-- That each rollout keeps its width.
use Rattle.std.proofs.Common.{ℕ, ◌≤◌, List, [], ◌∷◌, ◌++◌, length, map, Bool, true, false, not, cond, Option, None, Some, arith}
use Rattle.std.specs.Str.{bytes_eq}
use Rattle.server_core.specs.declared.rows.Record.{Record}
use Rattle.server_core.specs.Table.{Table, find_record}
use Rattle.server_waves.specs.declared.finders.Finder.{Finder}
use Rattle.server_waves.specs.Courses.{unsettled}
use Rattle.server_waves.specs.Points.{AreWithin, most, points, rolled, rolled_table, with_found, with_heard}
use Rattle.server_waves.specs.Register.{Rolling, all_without, changed, finished, is_found, new_rolling, with_agent, with_agents, with_rolling, with_waves, without_agent}
use Rattle.server_waves.specs.Waves.{Terms, Waves, can_join, decided, hash_of, resumed, settled, with_halt, without}
use Rattle.server_waves.proofs.CourseLemmas.{fewer_left}
use Rattle.server_waves.proofs.WaveLemmas.{fewer, width_holds}

abbrev IsWithin : Rolling → Type 0
IsWithin r = unsettled r.waves ≤ r.terms.width

-- who joins changes neither
agent_within : (agent : Record) (r : Rolling) → IsWithin r → IsWithin (with_agent agent r)
agent_within agent r within = by_tests (is_found r.finds agent) (can_join r.waves agent)
  where
    by_tests : (f j : Bool)
        → IsWithin (cond f (record r { waves = cond j (record (r.waves) { members = r.waves.members ++ agent.uid ∷ []; waiting = r.waves.waiting ++ agent.uid ∷ [] }) r.waves }) r)
    by_tests true true = within
    by_tests true false = within
    by_tests false j = within

agents_within : (agents : List Record) (r : Rolling) → IsWithin r → IsWithin (with_agents agents r)
agents_within [] r within = within
agents_within (agent ∷ agents) r within = agents_within agents (with_agent agent r) (agent_within agent r within)

heard_within : (records : List Record) (heard : List (List ℕ)) (r : Rolling) → IsWithin r → IsWithin (with_heard records heard r)
heard_within records [] r within = within
heard_within records (uid ∷ heard) r within = heard_within records heard (with_found (find_record records uid) r) (found_within (find_record records uid))
  where
    found_within : (found : Option Record) → IsWithin (with_found found r)
    found_within None = within
    found_within (Some agent) = agent_within agent r within

-- a point neither
rolled_within : (fine : Record → Bool) (heard : List (List ℕ)) (table : Table) (r : Rolling) → IsWithin r → IsWithin (rolled fine heard table r)
rolled_within fine heard table r within =
    let ready : Rolling = with_heard table.records heard r in
    let few : unsettled ready.waves ≤ ready.terms.width = heard_within table.records heard r within in
    let less : unsettled (settled fine (hash_of ready.terms) table.records ready.waves) ≤ unsettled ready.waves = fewer fine (hash_of ready.terms) table.records ready.waves in
    width_holds ready.terms.width (most fine table ready) (decided fine ready.terms table ready.waves) (omega (arith, less, few)) (omega arith)

pub points_within : (fine : Record → Bool) (heard : List (List ℕ)) (rollouts : List Rolling) (table : Table) → AreWithin rollouts → AreWithin (points fine heard rollouts table).rollouts
points_within fine heard [] table within = tt
points_within fine heard (r ∷ rollouts) table within = (rolled_within fine heard table r within.0, points_within fine heard rollouts (rolled_table fine heard table r) within.1)

-- ---- what is ordered

one_more : (rollouts : List Rolling) (r : Rolling) → AreWithin rollouts → IsWithin r → AreWithin (rollouts ++ r ∷ [])
one_more [] r within own = (own, tt)
one_more (q ∷ rollouts) r within own = (within.0, one_more rollouts r within.1 own)

pub begun_within : (records : List Record) (id : List ℕ) (sought : Option Finder) (terms : Terms) (rollouts : List Rolling) → AreWithin rollouts → AreWithin (with_rolling records id sought terms rollouts)
begun_within records id sought terms rollouts within = one_more rollouts (with_agents records (new_rolling id sought terms)) within (agents_within records (new_rolling id sought terms) (omega arith))

each_within : (change : Rolling → Rolling) → ((r : Rolling) → IsWithin r → IsWithin (change r)) → (rollouts : List Rolling) → AreWithin rollouts → AreWithin (map change rollouts)
each_within change one [] within = tt
each_within change one (r ∷ rollouts) within = (one r within.0, each_within change one rollouts within.1)

pub changed_within : (change : Waves → Waves) → ((w : Waves) → unsettled (change w) ≤ unsettled w) → (id : List ℕ) (rollouts : List Rolling) → AreWithin rollouts → AreWithin (changed change id rollouts)
changed_within change less id rollouts within = each_within (with_waves change id) one rollouts within
  where
    one : (r : Rolling) → IsWithin r → IsWithin (with_waves change id r)
    one r own = by_name (bytes_eq r.id id)
      where
        by_name : (b : Bool) → IsWithin (cond b (record r { waves = change r.waves }) r)
        by_name true = let no_more : unsettled (change r.waves) ≤ unsettled r.waves = less r.waves in omega (arith, no_more, own)
        by_name false = own

pub resumed_less : (w : Waves) → unsettled (resumed w) ≤ unsettled w
resumed_less w = omega arith

pub halted_less : (w : Waves) → unsettled (with_halt w) ≤ unsettled w
halted_less w = omega arith

pub finished_within : (id : List ℕ) (rollouts : List Rolling) → AreWithin rollouts → AreWithin (finished id rollouts)
finished_within id [] within = tt
finished_within id (r ∷ rollouts) within = by_name (bytes_eq r.id id) (finished_within id rollouts within.1)
  where
    by_name : (b : Bool) → AreWithin (finished id rollouts) → AreWithin (cond (not b) (r ∷ finished id rollouts) (finished id rollouts))
    by_name true rest = rest
    by_name false rest = (within.0, rest)

pub left_within : (uid : List ℕ) (rollouts : List Rolling) → AreWithin rollouts → AreWithin (all_without uid rollouts)
left_within uid rollouts within = each_within (without_agent uid) one rollouts within
  where
    one : (r : Rolling) → IsWithin r → IsWithin (without_agent uid r)
    one r own =
        let offered : length (without uid r.waves.offered) ≤ length r.waves.offered = fewer_left (λ u. not (bytes_eq u uid)) r.waves.offered in
        let failed : length (without uid r.waves.failed) ≤ length r.waves.failed = fewer_left (λ u. not (bytes_eq u uid)) r.waves.failed in
        omega (arith, offered, failed, own)
