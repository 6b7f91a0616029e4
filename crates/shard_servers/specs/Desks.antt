-- Desks, and the rows that were told to them.
use Rattle.std.specs.Prelude.{◌≡◌, ℕ, ◌<◌, ◌==◌, Bool, if◌then◌else◌, List, [], ◌∷◌, ◌++◌, length, filter, map, slice_get, Some}
use Rattle.std.specs.List.{AllByRecursion, flat_map, sum_by}
use Rattle.message_values.specs.declared.reply.ServerToAgent.{ServerToAgent}
use Rattle.message_values.specs.declared.report.AgentToServer.{AgentToServer}
use Rattle.shard_journals.specs.Sharding.{shard_of}
use Rattle.shard_servers.specs.declared.desks.Told.{Told}
use Rattle.shard_servers.specs.Locked.{IsAnswer}

-- a number for each shard
pub record Four : Type 0 where
  pub first : ℕ
  pub second : ℕ
  pub third : ℕ
  pub fourth : ℕ

abbrev pub four : ℕ → ℕ → ℕ → ℕ → Four
four a b c d = record { first = a; second = b; third = c; fourth = d }

-- a desk, with the parts that its shares have
pub record AtDesk : Type 0 where
  pub number : ℕ
  pub told : List Told
  pub parts : Four

-- the places of the rows that were told by a shard, in the order of the telling
abbrev pub places_in : ℕ → List Told → List ℕ
places_in shard told = map (λ t. t.place) (filter (λ t. t.shard == shard) told)

-- how many rows were told by a shard
abbrev pub told_in : ℕ → List Told → ℕ
told_in shard told = length (places_in shard told)

-- how many were told by each shard
abbrev pub counts : List Told → Four
counts told = four (told_in 0 told) (told_in 1 told) (told_in 2 told) (told_in 3 told)

-- the places of the rows that a shard told to the desks, desk by desk
abbrev pub all_places : ℕ → List AtDesk → List ℕ
all_places shard desks = flat_map (λ d. places_in shard d.told) desks

-- the parts that the shares of the desks have together, of one ledger
abbrev pub parts_of : (Four → ℕ) → List AtDesk → ℕ
parts_of pick desks = sum_by (λ d. pick d.parts) desks

-- the row names the desk, and its shard is that of its report's agent
pub record IsOwn (number : ℕ) (t : Told) : Type 0 where
  pub desk : t.row.desk ≡ number
  pub shard : t.shard ≡ shard_of t.row.report.instance_uid

abbrev pub AreOwn : ℕ → List Told → Type 0
AreOwn number told = AllByRecursion (IsOwn number) told

-- the rows are the desk's own; each share has a part, and as its amount the number of the rows that were told by its shard
pub record IsInOrder (number : ℕ) (told : List Told) (parts amounts : Four) : Type 0 where
  pub own : AreOwn number told
  pub some_part : (0 < parts.first) × (0 < parts.second) × (0 < parts.third) × (0 < parts.fourth)
  pub counted : amounts ≡ counts told

abbrev pub one_if : Bool → ℕ
one_if b = if b then 1 else 0

-- The desk got this reply to this report: its list has one row more, with the shard of the report's agent. Its row is an
-- answer at its place: the reply that is due after some history of as many rows. That it is the shard's own history isn't
-- said here; it shows once the shards are closed, when the rows told are compared with those kept.
pub record IsToldNext (before after : AtDesk) (item : ℕ) (report : AgentToServer) (reply : ServerToAgent) : Type 0 where
  pub told : Told
  pub grows : after ≡ record before { told = before.told ++ told ∷ [] }
  pub of_shard : told.shard ≡ shard_of report.instance_uid
  pub answer : IsAnswer before.number item report told.place told.row
  pub gives : reply ≡ told.row.reply

-- the desks are numbered from 0, and nothing was told to them
abbrev pub AreFresh : List AtDesk → Type 0
AreFresh desks = (place : ℕ) (d : AtDesk) → slice_get desks place ≡ Some d → (d.number ≡ place) × (d.told ≡ [])
