-- How an agent starts.
use Rattle.std.specs.Prelude.{◌≡◌, ℕ, List, [], None, Ok, Err, IsTrue}
use Rattle.plain_values.specs.declared.files.AgentConfigMap.{AgentConfigMap}
use Rattle.message_values.specs.declared.custom.CustomCapabilities.{CustomCapabilities}
use Rattle.message_values.specs.declared.state.Settings.{Settings}
use Rattle.uuid.specs.declared.Variant.TheVariants.{RFC4122}
use Rattle.uuid.specs.declared.Version.TheVariants.{Random}
use Rattle.uuid.specs.Parts.{with_variant, with_version}
use Rattle.edge_devices.specs.declared.clocks.EntropyFault.{EntropyFault}
use Rattle.edge_devices.specs.Clocks.{EntropyState, Fills}
use Rattle.edge_devices.specs.Disks.{DiskState, LeftSince, MayLeave, disk_bytes, medium}
use Rattle.agent_store.specs.declared.opened.Opened.{Opened}
use Rattle.agent_store.specs.declared.opened.Opened.TheVariants.{Fresh, Kept}
use Rattle.agent_store.specs.declared.slots.Layout.{Layout}
use Rattle.agent_store.specs.Found.{AllKept, part_of, reading_of}
use Rattle.agent_store.specs.Runs.{LeavesOnly}
use Rattle.agent_store.specs.Slots.{reading}
use Rattle.agent_store.specs.Slots as slots
use Rattle.agent_store.specs.Store.{StoreState, Fits}
use Rattle.agent_rules.specs.declared.saved.Saved.{Saved}
use Rattle.agent_rules.specs.Codec.{codec}
use Rattle.agent_rules.specs.Payloads.{FitsTypes, canonical_saved}
use Rattle.agent_rules.specs.Right.{is_right}
use Rattle.message_handlers.specs.Names.{IsOrdered}
use Rattle.agent_rules.specs.Half.{AgentHalf, no_config}
use Rattle.agent_state.specs.Starting.{started_with}
use Rattle.agent_state.specs.View.{AgentView}
use Rattle.agent_rounds.specs.Status.{local_by}
use Rattle.command_words.specs.declared.commands.AgentOptions.{AgentOptions}

-- where the store lies on its disk: 8,388,608 bytes of room for what is kept, and 1,048,576 for changes of it
abbrev pub store_layout : Layout
store_layout = record { room = 8388608; log = 1048576 }

-- the settings of an agent that was given none: the endpoint that its words name, no headers, no interval of its own, and no hash
abbrev pub opening_settings : List ℕ → Settings
opening_settings server = record { endpoint = server; headers = record { headers = [] }; interval = 0; hash = [] }

-- sixteen bytes made an identifier of version 4 (RFC 9562, section 5.4)
abbrev pub version_4 : List ℕ → List ℕ
version_4 bytes = with_version (with_variant bytes RFC4122) Random

-- the configuration that is active at first
abbrev pub active_at_first : Opened Saved → AgentConfigMap
active_at_first Fresh = no_config
active_at_first (Kept saved) = saved.config

-- Nothing was written: a read gives what it gave, and a crash leaves what it might have left before.
pub record IsUnwritten (old new : DiskState) : Type 0 where
  pub bytes : disk_bytes new ≡ disk_bytes old
  pub moments : LeftSince old new (MayLeave (medium old))

-- The store was loaded: it is what a read of the disk gives, which may be kept and has the types of its fields, and whatever a crash leaves from then on
-- stands for it.
pub record Loads (old new : DiskState) (opened : Opened Saved) (store : StoreState) : Type 0 where
  pub found : IsTrue old.told → reading_of canonical_saved opened ≡ reading codec store_layout (disk_bytes old)
  pub left : IsTrue old.told → LeavesOnly codec store_layout new (part_of canonical_saved opened)
  pub right : AllKept (λ s. IsTrue (is_right s)) opened
  pub typed : AllKept FitsTypes opened
  pub fits : Fits codec new store
  pub layout : store.layout ≡ store_layout
  pub unwritten : IsUnwritten old new

-- The store is damaged in this slot.
pub record FindsDamage (old new : DiskState) (slot : ℕ) : Type 0 where
  pub found : IsTrue old.told → reading codec store_layout (disk_bytes old) ≡ slots.Damaged slot
  pub unwritten : IsUnwritten old new

-- An agent that keeps nothing draws its identifier, and one that keeps something goes on with its own.
abbrev pub HasUid : Opened Saved → EntropyState → EntropyState → List ℕ → Type 0
HasUid Fresh old new uid = (bytes : List ℕ) × Fills old new bytes (Ok tt) × (uid ≡ version_4 bytes)
HasUid (Kept saved) old new uid = (new ≡ old) × (uid ≡ saved.uid)

-- an agent as it starts, which knows of itself what it knows without a status file
abbrev pub first_half : AgentOptions → CustomCapabilities → Opened Saved → List ℕ → AgentHalf
first_half options names opened uid =
    started_with opened (local_by None (active_at_first opened) names) uid (opening_settings options.server) store_layout.room options.request_uid

-- An agent starts: its store is loaded, it has its identifier, and it tells the names of its handlers in ascending order.
pub record Starts (handlers : List (List ℕ)) (options : AgentOptions) (disk disk' : DiskState) (entropy entropy' : EntropyState) (agent : AgentView) : Type 0 where
  pub opened : Opened Saved
  pub loads : Loads disk disk' opened agent.store
  pub uid : List ℕ
  pub has_uid : HasUid opened entropy entropy' uid
  pub names : CustomCapabilities
  pub ordered : IsOrdered handlers names.capabilities
  pub half : agent.half ≡ first_half options names opened uid

-- Nothing was kept, and no identifier could be drawn.
pub record LacksUid (disk disk' : DiskState) (entropy entropy' : EntropyState) : Type 0 where
  pub store : StoreState
  pub loads : Loads disk disk' Fresh store
  pub bytes : List ℕ
  pub fault : EntropyFault
  pub fails : Fills entropy entropy' bytes (Err fault)
