-- What is known of a play whose line was stopped, and of one whose line wasn't.
use Rattle.std.proofs.Common.{◌≡◌, ℕ, ◌+◌, ◌≤◌, List, [], None, Result, Ok, Err, OnOk, arith}
use Rattle.std.specs.Prelude.{IfOk}
use Rattle.edge_devices.specs.Disks.{disk_bytes}
use Rattle.edge_devices.specs.MemoryDisks.{memory_disk}
use Rattle.edge_devices.specs.declared.disk_calls.Mode.{Mode}
use Rattle.edge_devices.specs.declared.memory_disk.MemDisk.{MemDisk}
use Rattle.agent_store.specs.declared.slots.Layout.{Layout}
use Rattle.message_values.specs.declared.reply.ServerToAgent.{ServerToAgent}
use Rattle.agent_rules.specs.Half.{AgentHalf}
use Rattle.agent_rules.specs.Keeping.{Call}
use Rattle.agent_rules.specs.Offers.{Reactions}
use Rattle.agent_rules.specs.Events.{AgentEvent, Reports, Hears, Crashes, agent_after, calls_in}
use Rattle.agent_stopped.specs.Endings.{Ending, Passed, Stopped, event_ends}
use Rattle.agent_stopped.specs.declared.opening.Opening.{Opening}
use Rattle.agent_stopped.specs.Stages.{Crashed, Done, Leads, Stage, event_by, left_on, outcome}
use Rattle.agent_stopped.specs.Starts.{IsStopped}
use Rattle.world_model.specs.World.{no_reactions}
use Rattle.world_lab.specs.declared.plays.TheConstants.{LAYOUT}
use Rattle.world_lab.specs.Playing.{stop_call}
use Rattle.world_lab.specs.declared.plays.Play.{Play}
use Rattle.world_lab.specs.declared.written.Written.{Written}
use Rattle.world_lab.specs.Hosts.{IsHosted, StopsIn, lab_opening, stage_at}
use Rattle.world_lab.specs.Transcripts.{crash_line}
use Rattle.world_lab.proofs.Hosts.{stops_more}
use Rattle.world_lab.proofs.Stopping.{IsBeside, IsRecovered, IsTaken, StopLaws}

-- ---- the laws of stopped agents, as they stand

abbrev pub ReportsCome : Type 0
ReportsCome = (layout : Layout) (mode : Mode) (stage : Stage)
    → event_by stage.half Reports (event_ends layout mode stage.left stage.image stage.half Reports) ≡ outcome layout mode stage (calls_in stage.half Reports)

abbrev pub RepliesCome : Type 0
RepliesCome = (layout : Layout) (mode : Mode) (stage : Stage) (reply : ServerToAgent) (reactions : Reactions)
    → event_by stage.half (Hears reply reactions) (event_ends layout mode stage.left stage.image stage.half (Hears reply reactions)) ≡ outcome layout mode stage (calls_in stage.half (Hears reply reactions))

abbrev pub NoneLead : Type 0
NoneLead = (layout : Layout) (stage : Stage) → Leads layout stage [] stage

abbrev pub LedAreDone : Type 0
LedAreDone = (layout : Layout) (mode : Mode) (from to : Stage) (calls : List Call) → Leads layout from calls to → outcome layout mode from calls ≡ Done to.half to.image

abbrev pub StoppedCrash : Type 0
StoppedCrash = (opening : Opening) (mode : Mode) (from : Stage) (calls : List Call) (disk : MemDisk) (stopped : IsStopped opening from calls disk)
    → outcome opening.layout mode from calls ≡ Crashed (stopped.half mode) (left_on disk mode)

abbrev pub DoneTells : Type 0
DoneTells = (a half : AgentHalf) (event : AgentEvent) (ending : Ending) (image : ℕ → ℕ) → event_by a event ending ≡ Done half image → (ending ≡ Passed image) × (agent_after a event ≡ half)

abbrev pub CrashTells : Type 0
CrashTells = (a half : AgentHalf) (event : AgentEvent) (ending : Ending) (image : ℕ → ℕ) → event_by a event ending ≡ Crashed half image
    → (saves : ℕ) × ((ending ≡ Stopped saves image) × (agent_after a (Crashes event saves) ≡ half))

pub stop_laws : ReportsCome → RepliesCome → NoneLead → LedAreDone → StoppedCrash → DoneTells → CrashTells → StopLaws
stop_laws reports hears none done crashed tells_done tells_crashed = record {
  reports = λ mode stage. reports LAYOUT mode stage;
  hears = λ reply mode stage. hears LAYOUT mode stage reply no_reactions;
  none = λ stage. none LAYOUT stage;
  done = λ mode from to calls. done LAYOUT mode from to calls;
  crashed = λ mode from calls disk s. crashed lab_opening mode from calls disk s;
  tells_done = tells_done;
  tells_crashed = tells_crashed;
}

pub is_taken : (play mid : Play) → mid.host.agent ≡ play.host.agent → stage_at mid.host ≡ record (stage_at play.host) { left = stop_call play.stop } → mid.stop ≡ None → mid.opening ≡ play.opening
    → mid.local ≡ play.local → mid.sent.items ≡ play.sent.items → mid.pushes.items ≡ play.pushes.items → IsTaken play mid
is_taken play mid agent stage taken opening local sent pushes = record { agent = agent; stage = stage; taken = taken; opening = opening; local = local; sent = sent; pushes = pushes }

-- ---- a line that was stopped

-- five facts that hold where a call succeeds give another
pub if_recovered : {T E : Type 0} {A B C D : Type 0} {P Q : T → Type 0} (r : Result T E) → ((x : T) → A → B → C → D → P x → Q x)
    → OnOk r A → OnOk r B → OnOk r C → OnOk r D → IfOk r P → IfOk r Q
if_recovered (Ok x) f a b c d p = f x a b c d p
if_recovered (Err e) f a b c d p = tt

pub is_recovered : (mid halt end : Play) (calls : List Call) (most : ℕ) (mode : Mode) (written : Written) (s : StopsIn mid.host halt.host calls most) → most ≤ 4
    → end.host.agent.half ≡ s.stopped.half mode → IsHosted end.host → disk_bytes (memory_disk end.host.disk) ≡ left_on halt.host.disk mode
    → end.host.agent.store.generation ≤ mid.host.agent.store.generation + most → IsBeside mid end → end.sent.items ≡ mid.sent.items → end.pushes.items ≡ []
    → written ≡ crash_line end.host.agent.half
    → IsRecovered mid halt end calls mode written
is_recovered mid halt end calls most mode written s few half hosted image saves beside sent pushes text = record {
  stops = stops_more mid.host halt.host calls most 4 few s;
  half = half;
  hosted = hosted;
  image = image;
  saves = omega (arith, saves, few);
  beside = beside;
  sent = sent;
  pushes = pushes;
  written_is = text;
}
