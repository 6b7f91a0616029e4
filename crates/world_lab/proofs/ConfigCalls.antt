-- What becomes of a configuration on the agent's host.
use Rattle.std.proofs.Common.{◌≡◌, ◌∙◌, ℕ, List, [], ◌∷◌, length, Bool, true, false, not, ◌&&◌, cond, Option, Some, None, Ok, Err, codes, ap, sym, refl}
use Rattle.std.specs.Prelude.{find, IsTrue}
use Rattle.std.specs.Option.{option_map}
use Rattle.std.specs.List.{list_all}
use Rattle.edge_devices.specs.declared.folders.Area.TheVariants.{Config, Packages, Status}
use Rattle.edge_devices.specs.Names.{are_good_names, is_good_among}
use Rattle.edge_devices.specs.declared.memory_disk.MemDisk.{MemDisk}
use Rattle.edge_devices.specs.declared.memory_folder.MemoryFolder.{MemoryFolder}
use Rattle.plain_values.specs.declared.files.AgentConfigFile.{AgentConfigFile}
use Rattle.plain_values.specs.declared.files.AgentConfigMap.{AgentConfigMap}
use Rattle.message_values.specs.declared.config.AgentRemoteConfig.{AgentRemoteConfig}
use Rattle.message_values.specs.declared.config.RemoteConfigStatus.{RemoteConfigStatus}
use Rattle.plain_values.specs.declared.maps.Pair.{Pair}
use Rattle.edge_devices.specs.Folders.{SameAreas}
use Rattle.edge_devices.specs.MemoryFolders.{memory_folder}
use Rattle.agent_config.specs.Config.{AreFiles, as_offer, files_of, first_bad}
use Rattle.agent_rules.specs.declared.rules.parts.AgentFail.TheVariants.{StoreFault}
use Rattle.agent_rules.specs.Half.{AgentHalf, no_config}
use Rattle.agent_rules.specs.Keeping.{Call, ConfigDone, fits}
use Rattle.agent_rules.specs.Calls.{config_done}
use Rattle.agent_rules.specs.Offers.{applied_call, config_call, failed_call, failed_with, offered_files, status_of}
use Rattle.agent_state.specs.View.{AgentView}
use Rattle.agent_stopped.specs.Plays.{IsPlayed}
use Rattle.world_lab.specs.declared.plays.Host.{Host}
use Rattle.world_lab.specs.Transcripts.{is_applied}
use Rattle.world_lab.specs.Hearing.{all_fit}
use Rattle.world_lab.specs.Hosts.{GoesOn, HasFiles, HasNoOthers, IsHosted, IsSeated, StopsIn, lab_opening, stage_at}
use Rattle.world_lab.proofs.ScriptAgents.{agent_configured, config_keepable}
use Rattle.world_lab.proofs.Hosts.{goes_by, goes_from, goes_played, stops_by, stops_from, stops_played, with_agent, with_folder}
use Rattle.world_lab.proofs.Stages.{stopped_room}

-- ---- names

find_bad : {T : Type 0} (good : T → Bool) (xs : List T) → ((x : T) → find (λ y. not (good y)) xs ≡ Some x → ⊥) → list_all good xs ≡ true
find_bad {T} good [] none = refl
find_bad {T} good (x ∷ xs) none = by_test (λ rest. find_bad good xs rest) (good x) refl
  where
    by_test : (((y : T) → find (λ z. not (good z)) xs ≡ Some y → ⊥) → list_all good xs ≡ true) → (b : Bool) → good x ≡ b → (good x && list_all good xs) ≡ true
    by_test further true e = ap (λ (t : Bool). t && list_all good xs) e ∙ further (λ y found. none y (ap (λ (t : Bool). cond (not t) (Some x) (find (λ z. not (good z)) xs)) e ∙ found))
    by_test further false e = absurd (none x (ap (λ (t : Bool). cond (not t) (Some x) (find (λ z. not (good z)) xs)) e))

some_bad : {T : Type 0} (good : T → Bool) (xs : List T) (x : T) → find (λ y. not (good y)) xs ≡ Some x → list_all good xs ≡ false
some_bad good [] x found = absurd (cc found)
some_bad good (y ∷ ys) x found = by_test (λ rest. some_bad good ys x rest) (good y) refl
  where
    by_test : (find (λ z. not (good z)) ys ≡ Some x → list_all good ys ≡ false) → (b : Bool) → good y ≡ b → (good y && list_all good ys) ≡ false
    by_test further true e = ap (λ (t : Bool). t && list_all good ys) e ∙ further (sym (ap (λ (t : Bool). cond (not t) (Some y) (find (λ z. not (good z)) ys)) e) ∙ found)
    by_test further false e = ap (λ (t : Bool). t && list_all good ys) e

some_key : (o : Option (Pair AgentConfigFile)) (name : List ℕ) → option_map (λ file. file.key) o ≡ Some name → (file : Pair AgentConfigFile) × (o ≡ Some file)
some_key None name e = absurd (cc e)
some_key (Some file) name e = (file, refl)

-- without a bad name all names are good
pub good_names : (files : List (Pair AgentConfigFile)) → ((name : List ℕ) → first_bad files ≡ Some name → ⊥) → are_good_names files ≡ true
good_names files none = find_bad (λ file. is_good_among (length files) file.key) files (λ file found. none file.key (ap (option_map (λ f. f.key)) found))

pub bad_names : (files : List (Pair AgentConfigFile)) (name : List ℕ) → first_bad files ≡ Some name → are_good_names files ≡ false
bad_names files name found = let file = some_key _ name found in some_bad (λ f. is_good_among (length files) f.key) files file.0 file.1

-- ---- what becomes of an offer

pub bad_call : (a : AgentHalf) (offer : AgentRemoteConfig) → are_good_names (offered_files offer).config_map ≡ false → failed_call offer (codes "bad name") ≡ config_call a None offer
bad_call a offer bad = sym (ap (λ (b : Bool). cond (not b) (failed_call offer (codes "bad name")) (cond (fits a (applied_call offer)) (applied_call offer) (failed_call offer (codes "too large")))) bad)

pub good_call : (a : AgentHalf) (offer : AgentRemoteConfig) → are_good_names (offered_files offer).config_map ≡ true → fits a (applied_call offer) ≡ true → applied_call offer ≡ config_call a None offer
good_call a offer good room =
    sym (ap (λ (b : Bool). cond b (applied_call offer) (failed_call offer (codes "too large"))) room)
    ∙ sym (ap (λ (b : Bool). cond (not b) (failed_call offer (codes "bad name")) (cond (fits a (applied_call offer)) (applied_call offer) (failed_call offer (codes "too large")))) good)

pub large_call : (a : AgentHalf) (offer : AgentRemoteConfig) → are_good_names (offered_files offer).config_map ≡ true → fits a (applied_call offer) ≡ false → failed_call offer (codes "too large") ≡ config_call a None offer
large_call a offer good room =
    sym (ap (λ (b : Bool). cond b (applied_call offer) (failed_call offer (codes "too large"))) room)
    ∙ sym (ap (λ (b : Bool). cond (not b) (failed_call offer (codes "bad name")) (cond (fits a (applied_call offer)) (applied_call offer) (failed_call offer (codes "too large")))) good)

pub bad_applied : (a : AgentHalf) (offer : AgentRemoteConfig) → are_good_names (offered_files offer).config_map ≡ false → is_applied a offer ≡ false
bad_applied a offer bad = ap (λ (b : Bool). b && fits a (applied_call offer)) bad

pub good_applied : (a : AgentHalf) (offer : AgentRemoteConfig) (room : Bool) → are_good_names (offered_files offer).config_map ≡ true → fits a (applied_call offer) ≡ room → is_applied a offer ≡ room
good_applied a offer room good fit = ap (λ (b : Bool). b && fits a (applied_call offer)) good ∙ fit

-- ---- on the host

-- the status is kept without files
pub goes_failed : (host : Host) (agent : AgentView) (disk : MemDisk) (status : RemoteConfigStatus) → IsHosted host
    → fits host.agent.half (ConfigDone None status) ≡ true → agent.half ≡ config_done None status host.agent.half
    → IsPlayed {T = Unit {0}} host.agent agent host.disk disk (ConfigDone None status) (Ok tt)
    → GoesOn host (with_agent host agent disk) (ConfigDone None status ∷ []) 1
goes_failed host agent disk status h room step p =
    goes_played host agent disk (ConfigDone None status) tt h.seated h.files (agent_configured host.agent.half None status h.seated.agent) room step refl p

-- the files are in the folder, and the agent's own now
pub goes_applied : (host : Host) (agent : AgentView) (disk : MemDisk) (files : AgentConfigMap) (status : RemoteConfigStatus) → IsSeated host → HasFiles host files
    → fits host.agent.half (ConfigDone (Some files) status) ≡ true → agent.half ≡ config_done (Some files) status host.agent.half
    → IsPlayed {T = Unit {0}} host.agent agent host.disk disk (ConfigDone (Some files) status) (Ok tt)
    → GoesOn host (with_agent host agent disk) (ConfigDone (Some files) status ∷ []) 1
goes_applied host agent disk files status s f room step p =
    goes_played host agent disk (ConfigDone (Some files) status) tt s f (agent_configured host.agent.half (Some files) status s.agent) room step refl p

-- a device call was stopped while it was kept
pub config_stopped : (host : Host) (agent : AgentView) (disk : MemDisk) (applied : Option AgentConfigMap) (status : RemoteConfigStatus) → IsSeated host → HasNoOthers host
    → IsPlayed {T = Unit {0}} host.agent agent host.disk disk (ConfigDone applied status) (Err StoreFault)
    → StopsIn host (with_agent host agent disk) (ConfigDone applied status ∷ []) 1
config_stopped host agent disk applied status s others p =
    stops_played host agent disk (ConfigDone applied status) s (config_keepable host.agent.half applied status s.agent) others p

pub seated_folder : (host : Host) (folder : MemoryFolder) → IsSeated host → IsSeated (with_folder host folder)
seated_folder host folder s = record { agent = s.agent; rest = s.rest }

-- ---- what becomes of offered files on the host

-- they were applied, and there was room for them
pub applied_is : (a : AgentHalf) (files : AgentConfigMap) (hash : List ℕ) (status : RemoteConfigStatus) → IsTrue (are_good_names files.config_map) → status ≡ status_of (as_offer files hash)
    → fits a (ConfigDone (Some files) status) ≡ true → ConfigDone (Some files) status ≡ config_call a None (as_offer files hash)
applied_is a files hash status names is room =
    let call : ConfigDone (Some files) status ≡ applied_call (as_offer files hash) = ap (λ (s : RemoteConfigStatus). ConfigDone (Some files) s) is in
    call ∙ good_call a (as_offer files hash) names (ap (fits a) (sym call) ∙ room)

pub applied_goes : (old new : Host) (files : AgentConfigMap) (hash : List ℕ) (status : RemoteConfigStatus) → IsTrue (are_good_names files.config_map) → status ≡ status_of (as_offer files hash)
    → fits old.agent.half (ConfigDone (Some files) status) ≡ true → GoesOn old new (ConfigDone (Some files) status ∷ []) 1
    → GoesOn old new (config_call old.agent.half None (as_offer files hash) ∷ []) 1
applied_goes old new files hash status names is room goes = goes_by old new (ConfigDone (Some files) status ∷ []) _ 1 (ap (λ (c : Call). c ∷ []) (applied_is old.agent.half files hash status names is room)) goes

pub applied_so : (a : AgentHalf) (files : AgentConfigMap) (hash : List ℕ) (status : RemoteConfigStatus) (room : Bool) → IsTrue (are_good_names files.config_map) → status ≡ status_of (as_offer files hash)
    → fits a (ConfigDone (Some files) status) ≡ room → Some room ≡ Some (is_applied a (as_offer files hash))
applied_so a files hash status room names is fit =
    let call : ConfigDone (Some files) status ≡ applied_call (as_offer files hash) = ap (λ (s : RemoteConfigStatus). ConfigDone (Some files) s) is in
    ap (λ (b : Bool). Some b) (sym (good_applied a (as_offer files hash) room names (ap (fits a) (sym call) ∙ fit)))

pub applied_kept : (a : AgentHalf) (files : AgentConfigMap) (hash : List ℕ) (status : RemoteConfigStatus) → IsTrue (are_good_names files.config_map) → status ≡ status_of (as_offer files hash)
    → fits a (ConfigDone (Some files) status) ≡ true → true ≡ fits a (config_call a None (as_offer files hash))
applied_kept a files hash status names is room = sym room ∙ ap (fits a) (applied_is a files hash status names is room)

pub applied_stops : (old new : Host) (files : AgentConfigMap) (hash : List ℕ) (status : RemoteConfigStatus) → IsTrue (are_good_names files.config_map) → status ≡ status_of (as_offer files hash)
    → StopsIn old new (ConfigDone (Some files) status ∷ []) 1 → StopsIn old new (config_call old.agent.half None (as_offer files hash) ∷ []) 1
applied_stops old new files hash status names is stops =
    let room = stopped_room lab_opening (stage_at old) (ConfigDone (Some files) status) new.disk stops.stopped in
    stops_by old new (ConfigDone (Some files) status ∷ []) _ 1 (ap (λ (c : Call). c ∷ []) (applied_is old.agent.half files hash status names is room)) stops

-- there was no room for them
pub large_is : (a : AgentHalf) (files : AgentConfigMap) (hash : List ℕ) (status : RemoteConfigStatus) → IsTrue (are_good_names files.config_map) → status ≡ status_of (as_offer files hash)
    → fits a (ConfigDone (Some files) status) ≡ false → failed_call (as_offer no_config hash) (codes "too large") ≡ config_call a None (as_offer files hash)
large_is a files hash status names is room =
    let call : ConfigDone (Some files) status ≡ applied_call (as_offer files hash) = ap (λ (s : RemoteConfigStatus). ConfigDone (Some files) s) is in
    large_call a (as_offer files hash) names (ap (fits a) (sym call) ∙ room)

-- the calls are as there, from a host that left all as it was
pub goes_as : (old mid new : Host) (call there : Call) → call ≡ there → mid.agent ≡ old.agent → stage_at mid ≡ stage_at old → GoesOn mid new (call ∷ []) 1 → GoesOn old new (there ∷ []) 1
goes_as old mid new call there is agent stage goes = goes_by old new (call ∷ []) (there ∷ []) 1 (ap (λ (c : Call). c ∷ []) is) (goes_from old mid new (call ∷ []) 1 agent stage goes)

pub stops_as : (old mid new : Host) (call there : Call) → call ≡ there → mid.agent ≡ old.agent → stage_at mid ≡ stage_at old → StopsIn mid new (call ∷ []) 1 → StopsIn old new (there ∷ []) 1
stops_as old mid new call there is agent stage stops = stops_by old new (call ∷ []) (there ∷ []) 1 (ap (λ (c : Call). c ∷ []) is) (stops_from old mid new (call ∷ []) 1 agent stage stops)

pub kept_as : (old mid : Host) (call there : Call) (kept : Bool) → call ≡ there → mid.agent ≡ old.agent → kept ≡ fits mid.agent.half call → kept ≡ fits old.agent.half there
kept_as old mid call there kept is agent same = same ∙ ap (λ (a : AgentView). fits a.half call) agent ∙ ap (fits old.agent.half) is

-- the folder with the tried files, and the others as they were
pub files_brought : (host : Host) (folder : MemoryFolder) (active files : AgentConfigMap) → HasFiles host active → AreFiles ((memory_folder folder).files Config) (files_of files.config_map)
    → SameAreas Config (memory_folder host.folder).files (memory_folder folder).files → HasFiles (with_folder host folder) files
files_brought host folder active files f config others = record {
  config = config;
  packages = λ name. others Packages name refl ∙ f.packages name;
  status = λ name. others Status name refl ∙ f.status name;
}

pub hosted_brought : (host : Host) (folder : MemoryFolder) → IsSeated host → HasNoOthers host → AreFiles ((memory_folder folder).files Config) (files_of host.agent.half.saved.config.config_map)
    → SameAreas Config (memory_folder host.folder).files (memory_folder folder).files → IsHosted (with_folder host folder)
hosted_brought host folder s f config others = record {
  seated = seated_folder host folder s;
  files = record {
    config = config;
    packages = λ name. others Packages name refl ∙ f.packages name;
    status = λ name. others Status name refl ∙ f.status name;
  };
}

-- the names of the files were bad
pub bad_is : (a : AgentHalf) (files : AgentConfigMap) (hash name : List ℕ) (status : RemoteConfigStatus) → first_bad files.config_map ≡ Some name → status ≡ failed_with (as_offer files hash) (codes "bad name")
    → ConfigDone None status ≡ config_call a None (as_offer files hash)
bad_is a files hash name status found is =
    ap (λ (s : RemoteConfigStatus). ConfigDone None s) is ∙ bad_call a (as_offer files hash) (bad_names files.config_map name found)

pub bad_so : (a : AgentHalf) (files : AgentConfigMap) (hash name : List ℕ) → first_bad files.config_map ≡ Some name → Some false ≡ Some (is_applied a (as_offer files hash))
bad_so a files hash name found = ap (λ (b : Bool). Some b) (sym (bad_applied a (as_offer files hash) (bad_names files.config_map name found)))

-- one call fits by itself
pub one_fits : (a : AgentHalf) (call : Call) (kept : Bool) → kept ≡ fits a call → kept ≡ all_fit a (call ∷ [])
one_fits a call kept is = is ∙ by_room (fits a call)
  where
    by_room : (b : Bool) → b ≡ cond b true false
    by_room true = refl
    by_room false = refl
