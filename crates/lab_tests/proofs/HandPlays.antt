-- How far a script that is played by hand is.
use Rattle.std.proofs.Common.{ℕ, ◌≤◌, List, length}
use Rattle.server_core.specs.Served.{Served}
use Rattle.world_lab.specs.declared.plays.Play.{Play}
use Rattle.world_lab.specs.Playing.{Progress}
use Rattle.world_lab.specs.Mirrors.{Mirrors}

-- so many lines were played
pub record IsPlayedTo (lines : ℕ) (play : Play) (servers : List Served) : Type 0 where
  pub progress : Progress
  pub mirrors : Mirrors progress play servers
  pub few : length progress.events ≤ lines
