-- The files of a configuration.
use Rattle.std.specs.Prelude.{◌≡◌, ℕ, fold, find, List, [], ◌∷◌, length, not, Option, Some, None, if◌then◌else◌, codes, option_map, Bool, true, false, ◌⊎◌, Contains}
use Rattle.std.specs.List.{list_any}
use Rattle.std.specs.Str.{bytes_eq}
use Rattle.plain_values.specs.declared.files.AgentConfigFile.{AgentConfigFile}
use Rattle.plain_values.specs.declared.files.AgentConfigMap.{AgentConfigMap}
use Rattle.plain_values.specs.declared.maps.Pair.{Pair}
use Rattle.message_values.specs.declared.config.AgentRemoteConfig.{AgentRemoteConfig}
use Rattle.edge_devices.specs.Folders.{Files}
use Rattle.edge_devices.specs.Names.{is_good_among, is_good_name}

-- the file's name in the folder: the one with the empty name is called `config`
abbrev pub file_name : List ℕ → List ℕ
file_name [] = codes "config"
file_name (byte ∷ bytes) = byte ∷ bytes

-- the file's name in the folder is good
abbrev pub has_good_name : Pair AgentConfigFile → Bool
has_good_name file = is_good_name (file_name file.key)

-- the files with this one among them, in place of one of its name
abbrev pub with_file : Files → Pair AgentConfigFile → Files
with_file files file = λ name. if bytes_eq (file_name file.key) name then Some file.value.body else files name

-- the files of a configuration
abbrev pub files_of : List (Pair AgentConfigFile) → Files
files_of config = fold with_file (λ name. None) config

-- the first name that is not good
abbrev pub first_bad : List (Pair AgentConfigFile) → Option (List ℕ)
first_bad config = option_map (λ file. file.key) (find (λ file. not (is_good_among (length config) file.key)) config)

-- an offer of these files, with this hash
abbrev pub as_offer : AgentConfigMap → List ℕ → AgentRemoteConfig
as_offer files hash = record { config = Some files; config_hash = hash }

-- An area holds these files and no others.
abbrev pub AreFiles : Files → Files → Type 0
AreFiles held files = (name : List ℕ) → held name ≡ files name

-- the configuration has a file of that name
abbrev pub has_file : List (Pair AgentConfigFile) → List ℕ → Bool
has_file config name = list_any (λ file. bytes_eq (file_name file.key) name) config

-- Of the files of these names those of the configuration are left, and all other files are as they were.
pub record Leaves (config : List (Pair AgentConfigFile)) (names : List (List ℕ)) (old new : Files) : Type 0 where
  pub kept : (name : List ℕ) → has_file config name ≡ true → new name ≡ old name
  pub removed : (name : List ℕ) → has_file config name ≡ false → (new name ≡ None) ⊎ ((new name ≡ old name) × ¬ Contains names name)
