-- A lab, before and after a script.
use Rattle.std.proofs.Common.{◌≡◌, ◌∙◌, ℕ, ◌==◌, List, Bool, false, Option, Some, None, ap, sym, refl}
use Rattle.std.proofs.Math.Path.{fun_ext}
use Rattle.std.specs.Prelude.{nat_lt}
use Rattle.plain_values.specs.declared.files.AgentConfigMap.{AgentConfigMap}
use Rattle.edge_devices.specs.declared.folders.Area.{Area}
use Rattle.edge_devices.specs.declared.folders.Area.TheVariants.{Config, Packages, Status}
use Rattle.edge_devices.specs.Disks.{disk_bytes}
use Rattle.edge_devices.specs.Folders.{Files, SameFiles}
use Rattle.edge_devices.specs.MemoryDisks.{memory_disk}
use Rattle.edge_devices.specs.MemoryFolders.{memory_folder}
use Rattle.agent_store.specs.declared.slots.Layout.{Layout}
use Rattle.agent_store.specs.declared.slots.Side.{Side}
use Rattle.agent_store.specs.declared.slots.Side.TheVariants.{First, Second}
use Rattle.agent_store.specs.Slots.{Reading, Nothing, reading, chosen, choice_by, choice_reading, is_open, generation_of}
use Rattle.agent_rules.specs.Codec.{codec}
use Rattle.server_core.specs.Served.{Served}
use Rattle.agent_rules.specs.Half.{AgentHalf, kept_part, no_config}
use Rattle.agent_rules.specs.declared.saved.Saved.{Saved}
use Rattle.agent_state.specs.View.{HasPart}
use Rattle.world_model.specs.Servers.{arrivals}
use Rattle.world_lab.specs.declared.plays.Play.{Play}
use Rattle.world_lab.specs.declared.plays.TheConstants.{LAYOUT}
use Rattle.world_lab.specs.Playing.{Progress, script_start, world_of}
use Rattle.world_lab.specs.Labs.{LabState, files_in_use, left_by, reading_of_part}
use Rattle.world_lab.specs.Mirrors.{Mirrors}

-- a disk that was never written reads nothing
pub blank_reads : (layout : Layout) (image : ℕ → ℕ) → ((place : ℕ) → image place ≡ 0) → reading codec layout image ≡ Nothing
unfolding reading chosen
blank_reads layout image blank =
    ap (λ (b : Bool). choice_reading codec layout image (choice_by b (is_open layout image Second) (generation_of layout image First == generation_of layout image Second) (nat_lt (generation_of layout image First) (generation_of layout image Second)))) (closed First)
    ∙ ap (λ (b : Bool). choice_reading codec layout image (choice_by false b (generation_of layout image First == generation_of layout image Second) (nat_lt (generation_of layout image First) (generation_of layout image Second)))) (closed Second)
  where
    closed : (side : Side) → is_open layout image side ≡ false
    closed side = ap (λ (n : ℕ). n == 1) (blank _)

-- a folder without files is that of no configuration
pub folder_is : (files : Area → Files) (config : AgentConfigMap) → ((name : List ℕ) → files Config name ≡ files_in_use config Config name)
    → ((name : List ℕ) → files Packages name ≡ None) → ((name : List ℕ) → files Status name ≡ None) → files ≡ files_in_use config
folder_is files config configs packages statuses = fun_ext (λ area. fun_ext (λ name. by_area area name))
  where
    by_area : (area : Area) (name : List ℕ) → files area name ≡ files_in_use config area name
    by_area Config name = configs name
    by_area Packages name = packages name
    by_area Status name = statuses name

pub empty_folder_is : (files : Area → Files) → SameFiles (λ area name. None) files → files ≡ files_in_use no_config
empty_folder_is files same = folder_is files no_config (same Config) (same Packages) (same Status)

-- the parts of a lab
pub state_is : (agent agent' : Option AgentHalf) (servers servers' : List Served) (kept kept' : Reading) (files files' : Area → Files) → agent ≡ agent' → servers ≡ servers' → kept ≡ kept' → files ≡ files'
    → let was : LabState = record { agent = agent; servers = servers; kept = kept; files = files } in
    was ≡ record { agent = agent'; servers = servers'; kept = kept'; files = files' }
state_is agent agent' servers servers' kept kept' files files' a s k f =
    ap (λ (x : Option AgentHalf). of x servers kept files) a
    ∙ ap (λ (x : List Served). of agent' x kept files) s
    ∙ ap (λ x. of agent' servers' x files) k
    ∙ ap (λ (x : Area → Files). of agent' servers' kept' x) f
  where
    of : Option AgentHalf → List Served → Reading → (Area → Files) → LabState
    of agent servers kept files = record { agent = agent; servers = servers; kept = kept; files = files }

-- what a disk reads
pub stands_reading : (layout : Layout) (image : ℕ → ℕ) (part : Option Saved) → HasPart layout part image → reading codec layout image ≡ reading_of_part part
stands_reading layout image None stands = stands
stands_reading layout image (Some s) stands = stands

-- what a play leaves
pub lab_left : (p : Progress) (play : Play) (servers : List Served) → Mirrors p play servers
    → let now : LabState = record { agent = Some play.host.agent.half; servers = servers; kept = reading codec LAYOUT (disk_bytes (memory_disk play.host.disk)); files = (memory_folder play.host.folder).files } in
    now ≡ left_by (world_of p).agent (arrivals script_start p.events)
lab_left p play servers m =
    let half = play.host.agent.half in
    let rest = m.hosted.seated.rest in
    let files = m.hosted.files in
    state_is (Some half) (Some (world_of p).agent) servers _ _ _ (memory_folder play.host.folder).files _
    (ap (λ a. Some a) m.world.agent_is)
    m.world.servers_are
    (ap (λ l. reading codec l (disk_bytes (memory_disk play.host.disk))) (sym rest.layout) ∙ stands_reading play.host.agent.store.layout (disk_bytes (memory_disk play.host.disk)) (kept_part half) (rest.fits.stands refl) ∙ ap (λ a. reading_of_part (kept_part a)) m.world.agent_is)
    (folder_is (memory_folder play.host.folder).files half.saved.config files.config files.packages files.status ∙ ap (λ a. files_in_use a.saved.config) m.world.agent_is)
