-- Which calls lead from one stage to another.
use Rattle.std.proofs.Common.{◌≡◌, ℕ, zero, suc, ◌-◌, List, [], ◌∷◌, ◌++◌, Bool, true, false, cond, Option, None, Some, refl, sym, ◌∙◌, ap, subst, append_assoc}
use Rattle.std.specs.Option.{option_to_list}
use Rattle.edge_devices.specs.Disks.{DeviceCall, disk_bytes}
use Rattle.edge_devices.specs.DiskCalls.{cut_at}
use Rattle.edge_devices.specs.DiskStops.{settled, bytes_after, stopped_image, counts_on}
use Rattle.edge_devices.specs.MemoryDisks.{memory_disk, disk_countdown}
use Rattle.edge_devices.specs.declared.disk_calls.Mode.{Mode}
use Rattle.edge_devices.specs.declared.memory_disk.MemDisk.{MemDisk}
use Rattle.agent_store.specs.declared.slots.Layout.{Layout}
use Rattle.agent_store.specs.Loads.{image_after}
use Rattle.agent_store.specs.Plans.{load_plan}
use Rattle.agent_store.specs.Stops.{leaves_next}
use Rattle.agent_store.specs.Store.{StoreState}
use Rattle.message_values.specs.declared.reply.ServerToAgent.{ServerToAgent}
use Rattle.agent_rules.specs.declared.saved.Saved.{Saved}
use Rattle.agent_rules.specs.declared.rules.parts.LocalState.{LocalState}
use Rattle.agent_rules.specs.Reports.{where_true}
use Rattle.agent_rules.specs.Half.{AgentHalf, kept_part, restarted, started}
use Rattle.agent_rules.specs.Keeping.{Call, Change, Report, TakeReply, GiveUp, CommitTry, AbandonTry, ConfigDone, PackagesDone, Say, BeginTry, kept, kept_by, keeping, fits, fits_room}
use Rattle.agent_rules.specs.Calls.{call_after, calls_after, saves_of}
use Rattle.agent_rules.specs.Offers.{Reactions}
use Rattle.agent_rules.specs.Events.{AgentEvent, Reports, Hears, Restarts, Crashes, agent_after, calls_in, keeping_first}
use Rattle.agent_stopped.specs.Endings.{Ending, Passed, Stopped, after_a_save, stops_in, calls_of, stopped_save, saves_end, event_ends}
use Rattle.agent_state.specs.View.{AgentView, FitsDisk, HasPart}
use Rattle.agent_stopped.specs.declared.opening.Opening.{Opening}
use Rattle.agent_stopped.specs.Plays.{KeepsNothing}
use Rattle.agent_stopped.specs.Stages.{Stage, stage_of, Outcome, Done, Crashed, outcome_by, outcome, event_by, Leads, left_on}
use Rattle.agent_stopped.specs.Starts.{StartsAs, IsAtRest, IsStopped}
use Rattle.agent_stopped.proofs.Alike.{StartAlike, first-alike, first-none, StaysLocal, call-alike, alike-none, can-alike}

-- what an ending comes to of an agent that makes these saves, and leaves this half if they pass
abbrev by_saves : AgentHalf → AgentHalf → List Saved → Ending → Outcome
by_saves after a saves (Passed image) = Done after image
by_saves after a saves (Stopped n image) = Crashed (restarted (keeping_first n saves a)) image

by-calls : (a : AgentHalf) (calls : List Call) (ending : Ending) → outcome_by a calls ending ≡ by_saves (calls_after a calls) a (saves_of a calls) ending
by-calls a calls (Passed image) = refl
by-calls a calls (Stopped n image) = refl

outcome-is : (layout : Layout) (mode : Mode) (stage : Stage) (calls : List Call)
    → outcome layout mode stage calls ≡ by_saves (calls_after stage.half calls) stage.half (saves_of stage.half calls) (saves_end layout mode stage.left stage.image (saves_of stage.half calls))
unfolding outcome
outcome-is layout mode stage calls = by-calls stage.half calls (saves_end layout mode stage.left stage.image (saves_of stage.half calls))

by-alike : (after a b : AgentHalf) (saves : List Saved) (ending : Ending) → StartAlike a b → by_saves after a saves ending ≡ by_saves after b saves ending
by-alike after a b saves (Passed image) same = refl
by-alike after a b saves (Stopped n image) same = ap (λ (h : AgentHalf). Crashed h image) (first-alike n saves a b same)

by-later : (after a : AgentHalf) (part : Saved) (saves : List Saved) (ending : Ending) → by_saves after a (part ∷ saves) (after_a_save ending) ≡ by_saves after (keeping (Some part) a) saves ending
by-later after a part saves (Passed image) = refl
by-later after a part saves (Stopped n image) = refl

by-stopped : (after a : AgentHalf) (part : Saved) (saves : List Saved) (image : ℕ → ℕ) (next : Bool)
    → by_saves after a (part ∷ saves) (Stopped (cond next 1 0) image) ≡ Crashed (restarted (cond next (keeping (Some part) a) a)) image
by-stopped after a part saves image true = ap (λ (h : AgentHalf). Crashed (restarted h) image) (first-none saves (keeping (Some part) a))
by-stopped after a part saves image false = refl

end-passes : (layout : Layout) (mode : Mode) (stop : ℕ) (image : ℕ → ℕ) (part : Saved) (parts : List Saved) → stops_in stop (calls_of layout image part) ≡ false
    → saves_end layout mode stop image (part ∷ parts) ≡ after_a_save (saves_end layout mode (counts_on stop (calls_of layout image part)) (image_after image (calls_of layout image part)) parts)
unfolding saves_end
end-passes layout mode stop image part parts beyond =
    λ i. cond (beyond i) (stopped_save mode image (calls_of layout image part) stop)
    (after_a_save (saves_end layout mode (counts_on stop (calls_of layout image part)) (image_after image (calls_of layout image part)) parts))

end-stops : (layout : Layout) (mode : Mode) (stop : ℕ) (image : ℕ → ℕ) (part : Saved) (parts : List Saved) → stops_in stop (calls_of layout image part) ≡ true
    → saves_end layout mode stop image (part ∷ parts) ≡ stopped_save mode image (calls_of layout image part) stop
unfolding saves_end
end-stops layout mode stop image part parts hits =
    λ i. cond (hits i) (stopped_save mode image (calls_of layout image part) stop)
    (after_a_save (saves_end layout mode (counts_on stop (calls_of layout image part)) (image_after image (calls_of layout image part)) parts))

end-none : (layout : Layout) (mode : Mode) (stop : ℕ) (image : ℕ → ℕ) → saves_end layout mode stop image [] ≡ Passed image
unfolding saves_end
end-none layout mode stop image = refl

-- a call for which there is room
module _ (layout : Layout) (mode : Mode) (stage : Stage) (call : Call) (rest : List Call) (fit : fits stage.half call ≡ true) (stays : StaysLocal call) where
  abbrev a : AgentHalf
  a = stage.half

  abbrev after : AgentHalf
  after = call_after stage.half call

  saves-fit : saves_of a (call ∷ rest) ≡ option_to_list (kept_by a call) ++ saves_of after rest
  saves-fit = λ i. cond (fit i) (option_to_list (kept_by a call) ++ saves_of after rest) []

  after-fit : calls_after a (call ∷ rest) ≡ calls_after after rest
  after-fit = λ i. cond (fit i) (calls_after after rest) a

  saves-with : (p : Option Saved) → kept_by a call ≡ p → saves_of a (call ∷ rest) ≡ option_to_list p ++ saves_of after rest
  saves-with p keeps = saves-fit ∙ ap (λ (q : Option Saved). option_to_list q ++ saves_of after rest) keeps

  alike-with : (p : Option Saved) → kept_by a call ≡ p → StartAlike (keeping p a) after
  alike-with p keeps = let same : StartAlike (kept a call) after = call-alike a call stays in record {
    local = ap (λ (q : Option Saved). (keeping q a).local) (sym keeps) ∙ same.local;
    saved = ap (λ (q : Option Saved). (keeping q a).saved) (sym keeps) ∙ same.saved;
    is_kept = ap (λ (q : Option Saved). (keeping q a).is_kept) (sym keeps) ∙ same.is_kept;
    room = ap (λ (q : Option Saved). (keeping q a).room) (sym keeps) ∙ same.room;
    asks = ap (λ (q : Option Saved). (keeping q a).asks_uid) (sym keeps) ∙ same.asks;
  }

  abbrev fitted : List Saved → Outcome
  fitted saves = by_saves (calls_after after rest) a saves (saves_end layout mode stage.left stage.image saves)

  as-fitted : (saves : List Saved) → saves_of a (call ∷ rest) ≡ saves → outcome layout mode stage (call ∷ rest) ≡ fitted saves
  as-fitted saves is = outcome-is layout mode stage (call ∷ rest) ∙ (λ i. by_saves (after-fit i) a (is i) (saves_end layout mode stage.left stage.image (is i)))

  pub nothing-leads : kept_by a call ≡ None → outcome layout mode stage (call ∷ rest) ≡ outcome layout mode (record { half = after; image = stage.image; left = stage.left }) rest
  nothing-leads keeps =
      as-fitted (saves_of after rest) (saves-with None keeps)
      ∙ by-alike (calls_after after rest) a after (saves_of after rest) (saves_end layout mode stage.left stage.image (saves_of after rest)) (alike-with None keeps)
      ∙ sym (outcome-is layout mode (record { half = after; image = stage.image; left = stage.left }) rest)

  module _ (part : Saved) (keeps : kept_by a call ≡ Some part) where
    abbrev plan : List DeviceCall
    plan = calls_of layout stage.image part

    pub save-leads : stops_in stage.left plan ≡ false
        → outcome layout mode stage (call ∷ rest) ≡ outcome layout mode (record { half = after; image = image_after stage.image plan; left = counts_on stage.left plan }) rest
    save-leads beyond =
        let later = saves_end layout mode (counts_on stage.left plan) (image_after stage.image plan) (saves_of after rest) in
        as-fitted (part ∷ saves_of after rest) (saves-with (Some part) keeps)
        ∙ ap (by_saves (calls_after after rest) a (part ∷ saves_of after rest)) (end-passes layout mode stage.left stage.image part (saves_of after rest) beyond)
        ∙ by-later (calls_after after rest) a part (saves_of after rest) later
        ∙ by-alike (calls_after after rest) (keeping (Some part) a) after (saves_of after rest) later (alike-with (Some part) keeps)
        ∙ sym (outcome-is layout mode (record { half = after; image = image_after stage.image plan; left = counts_on stage.left plan }) rest)

    pub save-stops : stops_in stage.left plan ≡ true
        → outcome layout mode stage (call ∷ rest) ≡ Crashed (restarted (cond (leaves_next mode plan stage.left) (keeping (Some part) a) a)) (stopped_image mode stage.image plan stage.left)
    save-stops hits =
        as-fitted (part ∷ saves_of after rest) (saves-with (Some part) keeps)
        ∙ ap (by_saves (calls_after after rest) a (part ∷ saves_of after rest)) (end-stops layout mode stage.left stage.image part (saves_of after rest) hits)
        ∙ by-stopped (calls_after after rest) a part (saves_of after rest) (stopped_image mode stage.image plan stage.left) (leaves_next mode plan stage.left)

-- calls that lead on, joined
pub leads-none : (layout : Layout) (stage : Stage) → Leads layout stage [] stage
leads-none layout stage = record { on = λ mode rest. refl; local = refl }

pub leads-both : (layout : Layout) (from mid to : Stage) (first second : List Call) → Leads layout from first mid → Leads layout mid second to → Leads layout from (first ++ second) to
leads-both layout from mid to first second one two = record {
  on = λ mode rest. ap (outcome layout mode from) (append_assoc first second rest) ∙ one.on mode (second ++ rest) ∙ two.on mode rest;
  local = two.local ∙ one.local;
}

append-none : (calls : List Call) → calls ++ [] ≡ calls
append-none [] = refl
append-none (call ∷ calls) = ap (λ (c : List Call). call ∷ c) (append-none calls)

pub all-done : (layout : Layout) (mode : Mode) (from to : Stage) (calls : List Call) → Leads layout from calls to → outcome layout mode from calls ≡ Done to.half to.image
all-done layout mode from to calls leads =
    ap (outcome layout mode from) (sym (append-none calls)) ∙ leads.on mode [] ∙ outcome-is layout mode to []
    ∙ ap (by_saves to.half to.half []) (end-none layout mode to.left to.image)

-- what an event comes to
reports-by : (a : AgentHalf) (ending : Ending) → event_by a Reports ending ≡ outcome_by a (calls_in a Reports) ending
reports-by a (Passed image) = refl
reports-by a (Stopped n image) = refl

hears-by : (a : AgentHalf) (reply : ServerToAgent) (reactions : Reactions) (ending : Ending) → event_by a (Hears reply reactions) ending ≡ outcome_by a (calls_in a (Hears reply reactions)) ending
hears-by a reply reactions (Passed image) = refl
hears-by a reply reactions (Stopped n image) = refl

pub reports-end : (layout : Layout) (mode : Mode) (stage : Stage)
    → event_by stage.half Reports (event_ends layout mode stage.left stage.image stage.half Reports) ≡ outcome layout mode stage (calls_in stage.half Reports)
unfolding outcome
reports-end layout mode stage = reports-by stage.half (event_ends layout mode stage.left stage.image stage.half Reports)

pub hears-end : (layout : Layout) (mode : Mode) (stage : Stage) (reply : ServerToAgent) (reactions : Reactions)
    → event_by stage.half (Hears reply reactions) (event_ends layout mode stage.left stage.image stage.half (Hears reply reactions)) ≡ outcome layout mode stage (calls_in stage.half (Hears reply reactions))
unfolding outcome
hears-end layout mode stage reply reactions = hears-by stage.half reply reactions (event_ends layout mode stage.left stage.image stage.half (Hears reply reactions))

-- a stop in later calls, or in earlier ones
pub stopped-later : (opening : Opening) (from mid : Stage) (first second : List Call) (disk : MemDisk) → Leads opening.layout from first mid → IsStopped opening mid second disk → IsStopped opening from (first ++ second) disk
stopped-later opening from mid first second disk leads stopped = record {
  half = stopped.half;
  ends = λ mode rest. ap (outcome opening.layout mode from) (append_assoc first second rest) ∙ leads.on mode (second ++ rest) ∙ stopped.ends mode rest;
  starts = λ mode. subst (λ (l : LocalState). StartsAs opening l (left_on disk mode) (stopped.half mode)) leads.local (stopped.starts mode);
}

pub stopped-before : (opening : Opening) (from : Stage) (first second : List Call) (disk : MemDisk) → IsStopped opening from first disk → IsStopped opening from (first ++ second) disk
stopped-before opening from first second disk stopped = record {
  half = stopped.half;
  ends = λ mode rest. ap (outcome opening.layout mode from) (append_assoc first second rest) ∙ stopped.ends mode (second ++ rest);
  starts = stopped.starts;
}

-- a call that keeps nothing
keeps-none : (a : AgentHalf) (call : Call) → KeepsNothing call → kept_by a call ≡ None
keeps-none a (Change now) nothing = absurd nothing
keeps-none a Report nothing = absurd nothing
keeps-none a (TakeReply reply) nothing = absurd nothing
keeps-none a GiveUp nothing = refl
keeps-none a CommitTry nothing = absurd nothing
keeps-none a AbandonTry nothing = refl
keeps-none a (ConfigDone applied status) nothing = absurd nothing
keeps-none a (PackagesDone statuses) nothing = absurd nothing
keeps-none a (Say message) nothing = refl
keeps-none a (BeginTry next) nothing = refl

stays-local : (call : Call) → KeepsNothing call → StaysLocal call
stays-local (Change now) nothing = nothing
stays-local Report nothing = tt
stays-local (TakeReply reply) nothing = tt
stays-local GiveUp nothing = tt
stays-local CommitTry nothing = tt
stays-local AbandonTry nothing = tt
stays-local (ConfigDone applied status) nothing = tt
stays-local (PackagesDone statuses) nothing = tt
stays-local (Say message) nothing = tt
stays-local (BeginTry next) nothing = tt

module _ (disk : MemDisk) (before after : AgentView) (call : Call) (nothing : KeepsNothing call) (is : after.half ≡ call_after before.half call) where
  keeps : kept_by before.half call ≡ None
  keeps = keeps-none before.half call nothing

  same_start : StartAlike before.half after.half
  same_start = subst (λ (a : AgentHalf). StartAlike before.half a) (sym is) (alike-none before.half call (stays-local call nothing) keeps)

  pub beside-leads : (layout : Layout) → Leads layout (stage_of before disk) (call ∷ []) (stage_of after disk)
  beside-leads layout = record {
    on = λ mode rest. nothing-leads layout mode (stage_of before disk) call rest (ap (fits_room before.half.room) keeps) (stays-local call nothing) keeps
        ∙ (λ i. outcome layout mode (record { half = sym is i; image = disk_bytes (memory_disk disk); left = (disk_countdown disk).left }) rest);
    local = sym same_start.local;
  }

  pub beside-rest : (opening : Opening) → after.store ≡ before.store → IsAtRest opening before disk → IsAtRest opening after disk
  beside-rest opening store rest = record {
    fits = subst (λ (s : StoreState). FitsDisk (memory_disk disk) s (kept_part after.half)) (sym store)
        (subst (λ (p : Option Saved). FitsDisk (memory_disk disk) before.store p) (λ i. where_true (same_start.is_kept i) (same_start.saved i)) rest.fits);
    layout = ap (λ (s : StoreState). s.layout) store ∙ rest.layout;
    returns = can-alike opening before.half after.half same_start rest.returns;
  }

pub all-crashed : (opening : Opening) (mode : Mode) (from : Stage) (calls : List Call) (disk : MemDisk) (stopped : IsStopped opening from calls disk)
    → outcome opening.layout mode from calls ≡ Crashed (stopped.half mode) (left_on disk mode)
all-crashed opening mode from calls disk stopped = ap (outcome opening.layout mode from) (sym (append-none calls)) ∙ stopped.ends mode []

pub rest-starts : (opening : Opening) (agent : AgentView) (disk : MemDisk) → IsAtRest opening agent disk → StartsAs opening agent.half.local (disk_bytes (memory_disk disk)) (restarted agent.half)
rest-starts opening agent disk rest = record {
  start = λ i. started agent.half.local agent.half.saved agent.half.is_kept (rest.returns.room i) (rest.returns.asks i);
  returns = record { itself = rest.returns.itself; first = rest.returns.first; room = rest.returns.room; asks = rest.returns.asks };
  stands = subst (λ (l : Layout). HasPart l (kept_part agent.half) (disk_bytes (memory_disk disk))) rest.layout (rest.fits.stands refl);
}

pub cut-leaves : (image : ℕ → ℕ) (mode : Mode) (n : ℕ) → (bytes_after (settled image) (cut_at n load_plan)).left mode ≡ image
cut-leaves image mode zero = refl
cut-leaves image mode (suc n) = refl

restarts-by : (a : AgentHalf) (local : LocalState) (asks_uid : Bool) (image : ℕ → ℕ) (mode : Mode) (n : ℕ) (stops : Bool)
    → event_by a (Restarts local asks_uid) (cond stops (Stopped 0 ((bytes_after (settled image) (cut_at n load_plan)).left mode)) (Passed image))
    ≡ cond stops (Crashed (restarted a) image) (Done (started local a.saved a.is_kept a.room asks_uid) image)
restarts-by a local asks_uid image mode n true = ap (Crashed (restarted a)) (cut-leaves image mode n)
restarts-by a local asks_uid image mode n false = refl

pub restarts-end : (layout : Layout) (mode : Mode) (stage : Stage) (local : LocalState) (asks_uid : Bool)
    → event_by stage.half (Restarts local asks_uid) (event_ends layout mode stage.left stage.image stage.half (Restarts local asks_uid))
    ≡ cond (stops_in stage.left load_plan) (Crashed (restarted stage.half) stage.image) (Done (started local stage.half.saved stage.half.is_kept stage.half.room asks_uid) stage.image)
restarts-end layout mode stage local asks_uid = restarts-by stage.half local asks_uid stage.image mode (stage.left - 1) (stops_in stage.left load_plan)

pub done-tells : (a half : AgentHalf) (event : AgentEvent) (ending : Ending) (image : ℕ → ℕ) → event_by a event ending ≡ Done half image → (ending ≡ Passed image) × (agent_after a event ≡ half)
done-tells a half event (Passed left) image is = (let same : left ≡ image = cc in ap Passed same, cc)
done-tells a half event (Stopped saves left) image is = cc

pub crashed-tells : (a half : AgentHalf) (event : AgentEvent) (ending : Ending) (image : ℕ → ℕ) → event_by a event ending ≡ Crashed half image
    → (saves : ℕ) × ((ending ≡ Stopped saves image) × (agent_after a (Crashes event saves) ≡ half))
crashed-tells a half event (Passed left) image is = cc
crashed-tells a half event (Stopped saves left) image is = (saves, ((let same : left ≡ image = cc in ap (Stopped saves) same), cc))
