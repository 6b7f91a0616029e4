-- The agent on its host, once it started again.
use Rattle.std.proofs.Common.{◌≡◌, ◌∙◌, ℕ, List, IsTrue, Result, Ok, Err, OnOk, ap, sym, subst, refl}
use Rattle.edge_devices.specs.declared.disk_calls.Mode.{Mode}
use Rattle.edge_devices.specs.declared.memory_disk.MemDisk.{MemDisk}
use Rattle.edge_devices.specs.Disks.{DiskState, disk_bytes}
use Rattle.edge_devices.specs.Endpoints.{after_scheme, is_endpoint}
use Rattle.edge_devices.specs.MemoryDisks.{memory_disk}
use Rattle.agent_store.specs.Loads.{store_of}
use Rattle.agent_store.specs.Store.{StoreState, Fits}
use Rattle.agent_rules.specs.Codec.{codec}
use Rattle.agent_rules.specs.declared.rules.parts.LocalState.{LocalState}
use Rattle.agent_rules.specs.Half.{restarted}
use Rattle.agent_rules.specs.Keeping.{Call}
use Rattle.agent_state.specs.View.{AgentView}
use Rattle.agent_stopped.specs.declared.opening.Opening.{Opening}
use Rattle.agent_stopped.specs.Stages.{left_on}
use Rattle.agent_stopped.specs.Starts.{IsAtRest, StartsAs}
use Rattle.world_lab.specs.declared.plays.Host.{Host}
use Rattle.world_lab.specs.Hosts.{IsHosted, StopsIn, lab_opening}

-- an agent at rest starts again with what it keeps
abbrev pub RestStarts : Type 0
RestStarts = (opening : Opening) (agent : AgentView) (disk : MemDisk) → IsAtRest opening agent disk
    → StartsAs opening agent.half.local (disk_bytes (memory_disk disk)) (restarted agent.half)

-- the bytes of a disk tell its store
abbrev pub TellStore : Type 0
TellStore = (disk : DiskState) (store : StoreState) → Fits codec disk store → IsTrue disk.told → store_of codec store.layout (disk_bytes disk) ≡ store

pub good_endpoint : (opening : Opening) → opening ≡ lab_opening → IsTrue (is_endpoint opening.settings.endpoint)
unfolding after_scheme
good_endpoint opening is = ap (λ o. is_endpoint o.settings.endpoint) is

pub starts_whole : RestStarts → (opening : Opening) (local : LocalState) (host : Host) → opening ≡ lab_opening → local ≡ host.agent.half.local → IsHosted host
    → StartsAs opening local (disk_bytes (memory_disk host.disk)) (restarted host.agent.half)
starts_whole law opening local host opening_is local_is h =
    subst (λ (o : Opening). StartsAs o local (disk_bytes (memory_disk host.disk)) (restarted host.agent.half)) (sym opening_is)
    (subst (λ (l : LocalState). StartsAs lab_opening l (disk_bytes (memory_disk host.disk)) (restarted host.agent.half)) (sym local_is)
    (law lab_opening host.agent host.disk h.seated.rest))

pub starts_left : (before now : Host) (calls : List Call) (most : ℕ) (s : StopsIn before now calls most) (mode : Mode) (opening : Opening) (local : LocalState)
    → opening ≡ lab_opening → local ≡ before.agent.half.local → StartsAs opening local (left_on now.disk mode) (s.stopped.half mode)
starts_left before now calls most s mode opening local opening_is local_is =
    subst (λ (o : Opening). StartsAs o local (left_on now.disk mode) (s.stopped.half mode)) (sym opening_is)
    (subst (λ (l : LocalState). StartsAs lab_opening l (left_on now.disk mode) (s.stopped.half mode)) (sym local_is)
    (s.stopped.starts mode))

-- at rest by what the lab's agent is started with
pub rests : (opening : Opening) (agent : AgentView) (disk : MemDisk) → opening ≡ lab_opening → IsAtRest opening agent disk → IsAtRest lab_opening agent disk
rests opening agent disk is rest = subst (λ (o : Opening). IsAtRest o agent disk) is rest

-- the generation that a disk's bytes tell is the agent's
pub told_generation : TellStore → (opening : Opening) (host : Host) → opening ≡ lab_opening → IsHosted host
    → (store_of codec opening.layout (disk_bytes (memory_disk host.disk))).generation ≡ host.agent.store.generation
told_generation law opening host is h =
    ap (λ (o : Opening). (store_of codec o.layout (disk_bytes (memory_disk host.disk))).generation) is
    ∙ ap (λ l. (store_of codec l (disk_bytes (memory_disk host.disk))).generation) (sym h.seated.rest.layout)
    ∙ ap (λ (s : StoreState). s.generation) (law (memory_disk host.disk) host.agent.store h.seated.rest.fits.store_fits refl)

-- what holds anyway
pub always : {T E P : Type 0} (r : Result T E) → P → OnOk r P
always (Ok x) p = p
always (Err e) p = tt
