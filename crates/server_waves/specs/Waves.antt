-- Rollouts in waves: a configuration is offered to a few agents at a time, and to no more of them once it failed at too many.
-- Sections are those of the OpAMP specification; the waves are this project's own.
use Rattle.std.specs.Prelude.{◌≡◌, ℕ, ℤ, ◌-◌, ◌≤◌, List, [], ◌∷◌, ◌++◌, length, take, drop, filter, fold, Bool, false, true, not, ◌&&◌, ◌||◌, nat_lt, if◌then◌else◌, Option, None, Some}
use Rattle.std.specs.Ordering.{int_eq}
use Rattle.std.specs.Str.{bytes_eq}
use Rattle.plain_values.specs.declared.files.AgentConfigMap.{AgentConfigMap}
use Rattle.message_values.specs.declared.config.RemoteConfigStatus.{RemoteConfigStatus}
use Rattle.message_values.specs.declared.profile.TheConstants.{ACCEPTS_REMOTE_CONFIG, REPORTS_REMOTE_CONFIG}
use Rattle.message_deltas.specs.Obligations.{has_bit}
use Rattle.server_core.specs.declared.rows.Record.{Record}
use Rattle.server_core.specs.History.{Offered, is_among}
use Rattle.server_core.specs.declared.offers.Offer.TheVariants.{Config as ConfigOffer}
use Rattle.server_core.specs.Offers.{hashed_config, names}
use Rattle.server_core.specs.Table.{Table, find_record, table_after}
use Rattle.server_waves.specs.declared.verdicts.TheConstants.{APPLIED, FAILED}

-- what is rolled out: the configuration; how many agents at a time may have the offer without having applied it; and how many of
-- those may fail before the rollout is halted
pub record Terms : Type 0 where
  pub files : AgentConfigMap
  pub width : ℕ
  pub allowed : ℕ

-- Where a rollout stands: the agents that joined, in the order of joining. Each of them is in one of the other lists: it waits for the
-- offer, in the order of joining; or the offer was made to it, and it has neither applied it nor failed; or it applied it; or it failed;
-- or it failed before the rollout was last resumed, which is excused.
pub record Waves : Type 0 where
  pub members : List (List ℕ)
  pub waiting : List (List ℕ)
  pub offered : List (List ℕ)
  pub applied : List (List ℕ)
  pub failed : List (List ℕ)
  pub excused : List (List ℕ)
  pub halted : Bool

-- no agent has joined
abbrev pub no_agents : Waves
no_agents = record { members = []; waiting = []; offered = []; applied = []; failed = []; excused = []; halted = false }

abbrev pub has_joined : Waves → List ℕ → Bool
has_joined waves uid = is_among waves.members uid

-- the agent is in one of the lists
abbrev pub has_place : Waves → List ℕ → Bool
has_place waves uid =
    is_among waves.waiting uid
    || (is_among waves.offered uid || (is_among waves.applied uid || (is_among waves.failed uid || is_among waves.excused uid)))

-- the agent is there, takes configurations and tells what became of them ("AgentToServer.capabilities")
abbrev pub is_eligible : Record → Bool
is_eligible agent =
    not agent.left && (has_bit agent.state.capabilities ACCEPTS_REMOTE_CONFIG && has_bit agent.state.capabilities REPORTS_REMOTE_CONFIG)

abbrev pub can_join : Waves → Record → Bool
can_join waves agent = not (has_joined waves agent.uid) && is_eligible agent

-- an agent that can join waits behind the others
abbrev pub joined : Record → Waves → Waves
joined agent waves =
    if can_join waves agent
    then record waves { members = waves.members ++ agent.uid ∷ []; waiting = waves.waiting ++ agent.uid ∷ [] }
    else waves

-- ---- what an operator orders of a rollout

-- it is halted
abbrev pub with_halt : Waves → Waves
with_halt waves = record waves { halted = true }

-- The halt ends, and those that failed are excused: they count no more, neither against the width nor against those that may fail.
abbrev pub resumed : Waves → Waves
resumed waves = record waves { failed = []; excused = waves.excused ++ waves.failed; halted = false }

-- the agents but this one
abbrev pub without : List ℕ → List (List ℕ) → List (List ℕ)
without uid uids = filter (λ u. not (bytes_eq u uid)) uids

-- the agent leaves the rollout, as if it had never joined
abbrev pub taken_out : List ℕ → Waves → Waves
taken_out uid waves = record waves {
  members = without uid waves.members;
  waiting = without uid waves.waiting;
  offered = without uid waves.offered;
  applied = without uid waves.applied;
  failed = without uid waves.failed;
  excused = without uid waves.excused;
}

-- ---- what becomes of the offers

-- the hash by which the agents name the configuration
abbrev pub hash_of : Terms → List ℕ
hash_of terms = (hashed_config terms.files).config_hash

-- the status of the configuration of this hash ("RemoteConfigStatus")
abbrev pub is_status : ℤ → List ℕ → Option RemoteConfigStatus → Bool
is_status status hash None = false
is_status status hash (Some told) = names (Some told.last_remote_config_hash) hash && int_eq told.status status

-- the agent tells this status of the configuration
abbrev pub tells : ℤ → List ℕ → Record → Bool
tells status hash agent = is_status status hash agent.state.remote

-- the agent says that it applied the configuration, and the judge finds it fine
abbrev pub has_applied : (Record → Bool) → List ℕ → Record → Bool
has_applied fine hash agent = tells APPLIED hash agent && fine agent

-- the agent says that it failed, or that it applied the configuration, and the judge doesn't find it fine
abbrev pub has_failed : (Record → Bool) → List ℕ → Record → Bool
has_failed fine hash agent = tells FAILED hash agent || (tells APPLIED hash agent && not (fine agent))

-- it is known what became of the offer at the agent
abbrev pub is_decided : (Record → Bool) → List ℕ → Record → Bool
is_decided fine hash agent = has_applied fine hash agent || has_failed fine hash agent

-- what is known of the agent passes the test
abbrev pub passes : (Record → Bool) → Option Record → Bool
passes test None = false
passes test (Some agent) = test agent

-- the agents, of these, whose records pass the test
abbrev pub those : (Record → Bool) → List Record → List (List ℕ) → List (List ℕ)
those test records uids = filter (λ uid. passes test (find_record records uid)) uids

-- those whose records don't
abbrev pub others : (Record → Bool) → List Record → List (List ℕ) → List (List ℕ)
others test records uids = filter (λ uid. not (passes test (find_record records uid))) uids

-- Of the agents that the offer was made to it is looked up in their records what became of it.
abbrev pub settled : (Record → Bool) → List ℕ → List Record → Waves → Waves
settled fine hash records waves = record waves {
  offered = others (is_decided fine hash) records waves.offered;
  applied = waves.applied ++ those (has_applied fine hash) records waves.offered;
  failed = waves.failed ++ those (has_failed fine hash) records waves.offered;
}

-- where more agents failed than may, the rollout is halted, and stays so
abbrev pub halted_over : ℕ → Waves → Waves
halted_over allowed waves = record waves { halted = waves.halted || nat_lt allowed (length waves.failed) }

-- to so many more agents the offer may be made
abbrev pub room : ℕ → Waves → ℕ
room width waves = if waves.halted then 0 else width - length waves.offered - length waves.failed

-- the offer is made to the first so many that wait
abbrev pub offering : ℕ → Waves → Waves
offering n waves = record waves { waiting = drop n waves.waiting; offered = waves.offered ++ take n waves.waiting }

-- where the rollout stands at a point before its offers
abbrev pub decided : (Record → Bool) → Terms → Table → Waves → Waves
decided fine terms table waves = halted_over terms.allowed (settled fine (hash_of terms) table.records waves)

-- the table after the configuration was offered to these agents, one after the other
abbrev pub table_offering : AgentConfigMap → List (List ℕ) → Table → Table
table_offering files uids table = fold (λ seen uid. table_after seen (Offered uid (ConfigOffer files))) table uids

-- Where the rollout stands, with its first so many offers of a point made.
abbrev pub waves_at : (Record → Bool) → Terms → Table → Waves → ℕ → Waves
waves_at fine terms table waves n = offering n (decided fine terms table waves)

-- the table then
abbrev pub table_at : (Record → Bool) → Terms → Table → Waves → ℕ → Table
table_at fine terms table waves n = table_offering terms.files (take n (decided fine terms table waves).waiting) table

-- how many offers a point may make
abbrev pub offers_at : (Record → Bool) → Terms → Table → Waves → ℕ
offers_at fine terms table waves = room terms.width (decided fine terms table waves)

-- the agents to which it makes the offer
abbrev pub offered_at : (Record → Bool) → Terms → Table → Waves → List (List ℕ)
offered_at fine terms table waves = take (offers_at fine terms table waves) (decided fine terms table waves).waiting

-- A point of a rollout: what became of the offers that were made is looked up, too many failures halt the rollout, and then the offer is
-- made to as many of those that wait as there is room for.
pub record IsPoint (fine : Record → Bool) (terms : Terms) (old new : Waves) (before after : Table) : Type 0 where
  pub waves : new ≡ waves_at fine terms before old (offers_at fine terms before old)
  pub table : after ≡ table_at fine terms before old (offers_at fine terms before old)

-- A point that ended among its offers, of which the first so many were made.
pub record IsPartOfPoint (fine : Record → Bool) (terms : Terms) (old new : Waves) (before after : Table) : Type 0 where
  pub made : ℕ
  pub few : made ≤ offers_at fine terms before old
  pub waves : new ≡ waves_at fine terms before old made
  pub table : after ≡ table_at fine terms before old made
