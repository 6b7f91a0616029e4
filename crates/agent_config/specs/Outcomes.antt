-- How an offered configuration ended.
use Rattle.std.specs.Prelude.{◌≡◌, ℕ, ◌++◌, List, [], Bool, true, false, Result, Ok, Err, ⊤}
use Rattle.edge_devices.specs.declared.folders.FolderCall.{FolderCall}
use Rattle.edge_devices.specs.Faults.{HasRisen}
use Rattle.edge_devices.specs.Folders.{FolderState, NoFault, EndsInFault, Makes}
use Rattle.plain_values.specs.declared.memory.NoMemory.{NoMemory}
use Rattle.agent_config.specs.declared.Outcome.{Outcome}
use Rattle.agent_config.specs.declared.Outcome.TheVariants.{Applied, BadName, FolderFault}

-- The calls end with the first that answered a fault, where the area was not settled, and else none did.
abbrev pub IsBroughtBack : Bool → List FolderCall → Type 0
IsBroughtBack true calls = NoFault calls
IsBroughtBack false calls = EndsInFault calls

-- Calls until the first fault, and then calls that brought the area back.
pub record IsUndone (settled : Bool) (seen : List FolderCall) : Type 0 where
  pub applying : List FolderCall
  pub back : List FolderCall
  pub parts : seen ≡ applying ++ back
  pub failed : EndsInFault applying
  pub brought : IsBroughtBack settled back

-- These calls of the folder are those of an offer that ended so.
abbrev pub EndsSo : List FolderCall → Result Outcome NoMemory → Type 0
EndsSo seen (Ok Applied) = NoFault seen
EndsSo seen (Ok (BadName name)) = seen ≡ []
EndsSo seen (Ok (FolderFault settled)) = IsUndone settled seen
EndsSo seen (Err wanting) = ⊤

-- The folder's calls were those of an offer that ended so.
pub record Applies (old new : FolderState) (result : Result Outcome NoMemory) : Type 0 where
  pub seen : List FolderCall
  pub makes : Makes old new seen
  pub ends : EndsSo seen result

-- The count has risen, and then risen again.
pub record RisesAgain (old new : ℕ) : Type 0 where
  pub between : ℕ
  pub first : HasRisen old between
  pub second : HasRisen between new
