-- The course of a rollout: what happens to it, one after the other.
use Rattle.std.specs.Prelude.{◌≡◌, ℕ, ◌+◌, min, List, ◌++◌, length, fold, Bool, true, false, ◌≤◌}
use Rattle.server_core.specs.declared.rows.Record.{Record}
use Rattle.server_core.specs.History.{is_among}
use Rattle.server_core.specs.Table.{Table}
use Rattle.server_waves.specs.Waves.{Terms, Waves, no_agents, joined, offers_at, resumed, taken_out, waves_at, with_halt}

-- An agent may join; or there is a point, at which the server's table is this, and of whose offers these are made, or all where there
-- are fewer; or an operator halts or resumes the rollout; or an agent leaves it.
pub data Step : Type 0 where
  Joins : (agent : Record) → Step
  Points : (table : Table) → (most : ℕ) → Step
  Halts : Step
  Resumes : Step
  Leaves : (uid : List ℕ) → Step

abbrev pub after_step : (Record → Bool) → Terms → Waves → Step → Waves
after_step fine terms waves Halts = with_halt waves
after_step fine terms waves Resumes = resumed waves
after_step fine terms waves (Leaves uid) = taken_out uid waves
after_step fine terms waves (Joins agent) = joined agent waves
after_step fine terms waves (Points table most) = waves_at fine terms table waves (min most (offers_at fine terms table waves))

-- from where it stood
abbrev pub course_from : (Record → Bool) → Terms → Waves → List Step → Waves
course_from fine terms waves steps = fold (after_step fine terms) waves steps

-- from its beginning
abbrev pub course : (Record → Bool) → Terms → List Step → Waves
course fine terms steps = course_from fine terms no_agents steps

-- the rollout isn't resumed
abbrev pub is_no_resume : Step → Bool
is_no_resume Resumes = false
is_no_resume Halts = true
is_no_resume (Leaves uid) = true
is_no_resume (Joins agent) = true
is_no_resume (Points table most) = true

-- no agent leaves
abbrev pub is_no_leave : Step → Bool
is_no_leave (Leaves uid) = false
is_no_leave Resumes = true
is_no_leave Halts = true
is_no_leave (Joins agent) = true
is_no_leave (Points table most) = true

-- how many have the offer and haven't applied it, but for those that are excused
abbrev pub unsettled : Waves → ℕ
unsettled waves = length waves.offered + length waves.failed

-- Those that waited still wait, and others behind them.
abbrev pub StillWait : Waves → Waves → Type 0
StillWait old new = (more : List (List ℕ)) × (new.waiting ≡ old.waiting ++ more)

-- The offer is made to no further agent: each one that has it had it before.
abbrev pub OffersNoMore : Waves → Waves → Type 0
OffersNoMore old new = (uid : List ℕ) → is_among new.offered uid ≡ true → is_among old.offered uid ≡ true

-- A rollout that was halted stays so: those that waited still wait, and the offer is made to no further agent.
pub record StaysHalted (old new : Waves) : Type 0 where
  pub halted : new.halted ≡ true
  pub waiting : StillWait old new
  pub offered : OffersNoMore old new

-- The rollout keeps its terms: where at most so many agents as its width had the offer and hadn't applied it, no more have, and a halt is final.
pub record KeepsTerms (terms : Terms) (old new : Waves) : Type 0 where
  pub width : unsettled old ≤ terms.width → unsettled new ≤ terms.width
  pub halt : old.halted ≡ true → StaysHalted old new
