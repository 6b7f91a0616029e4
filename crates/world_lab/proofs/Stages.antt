-- What calls come to on a disk of which a device call may be stopped.
use Rattle.std.proofs.Common.{◌≡◌, ◌∙◌, ◌⊎◌, inl, inr, ℕ, List, [], ◌∷◌, ◌++◌, Bool, true, false, cond, Option, Some, None, ap, sym, subst, refl, append_assoc}
use Rattle.std.specs.Option.{option_to_list}
use Rattle.edge_devices.specs.DiskStops.{counts_on}
use Rattle.edge_devices.specs.declared.disk_calls.Mode.{Mode}
use Rattle.edge_devices.specs.declared.disk_calls.Mode.TheVariants.{Old}
use Rattle.edge_devices.specs.declared.memory_disk.MemDisk.{MemDisk}
use Rattle.agent_store.specs.declared.slots.Layout.{Layout}
use Rattle.agent_store.specs.Loads.{image_after}
use Rattle.agent_store.specs.Stops.{leaves_next}
use Rattle.agent_rules.specs.declared.saved.Saved.{Saved}
use Rattle.agent_rules.specs.Half.{AgentHalf, restarted}
use Rattle.agent_rules.specs.Keeping.{Call, fits, kept_by, keeping}
use Rattle.agent_rules.specs.Calls.{call_after, calls_after, saves_of}
use Rattle.agent_rules.specs.Events.{keeping_first}
use Rattle.agent_stopped.specs.Endings.{Ending, Passed, Stopped, after_a_save, calls_of, saves_end, stopped_save, stops_in}
use Rattle.agent_stopped.specs.declared.opening.Opening.{Opening}
use Rattle.agent_stopped.specs.Stages.{Crashed, Done, Leads, Outcome, Stage, left_on, outcome, outcome_by}
use Rattle.agent_stopped.specs.Starts.{IsStopped, StartsAs}

-- the half that an outcome leaves
abbrev pub half_of : Outcome → AgentHalf
half_of (Done half image) = half
half_of (Crashed half image) = half

-- what an ending comes to of an agent that makes these saves, and leaves this half if they pass
abbrev by_saves : AgentHalf → AgentHalf → List Saved → Ending → Outcome
by_saves after a saves (Passed image) = Done after image
by_saves after a saves (Stopped n image) = Crashed (restarted (keeping_first n saves a)) image

by_calls : (a : AgentHalf) (calls : List Call) (ending : Ending) → outcome_by a calls ending ≡ by_saves (calls_after a calls) a (saves_of a calls) ending
by_calls a calls (Passed image) = refl
by_calls a calls (Stopped n image) = refl

outcome_is : (layout : Layout) (mode : Mode) (stage : Stage) (calls : List Call)
    → outcome layout mode stage calls ≡ by_saves (calls_after stage.half calls) stage.half (saves_of stage.half calls) (saves_end layout mode stage.left stage.image (saves_of stage.half calls))
unfolding outcome
outcome_is layout mode stage calls = by_calls stage.half calls (saves_end layout mode stage.left stage.image (saves_of stage.half calls))

-- ---- room

nothing_saved : (layout : Layout) (mode : Mode) (stage : Stage) (after : AgentHalf)
    → by_saves after stage.half [] (saves_end layout mode stage.left stage.image []) ≡ Done after stage.image
unfolding saves_end
nothing_saved layout mode stage after = refl

-- a call for which there is no room is the last
pub no_room_ends : (layout : Layout) (mode : Mode) (stage : Stage) (call : Call) (rest : List Call) → fits stage.half call ≡ false
    → outcome layout mode stage (call ∷ rest) ≡ Done stage.half stage.image
no_room_ends layout mode stage call rest none =
    let after = call_after stage.half call in
    let saves : Bool → List Saved = λ b. cond b (option_to_list (kept_by stage.half call) ++ saves_of after rest) [] in
    outcome_is layout mode stage (call ∷ rest)
    ∙ ap (λ (b : Bool). by_saves (cond b (calls_after after rest) stage.half) stage.half (saves b) (saves_end layout mode stage.left stage.image (saves b))) none
    ∙ nothing_saved layout mode stage stage.half

-- ---- a stop

done_is_no_crash : {a b : AgentHalf} {i j : ℕ → ℕ} → Done a i ≡ Crashed b j → ⊥
done_is_no_crash e = cc e

-- a call of which a device call was stopped had room
pub stopped_room : (opening : Opening) (from : Stage) (call : Call) (disk : MemDisk) → IsStopped opening from (call ∷ []) disk → fits from.half call ≡ true
stopped_room opening from call disk stopped = by_room (fits from.half call) refl
  where
    by_room : (b : Bool) → fits from.half call ≡ b → b ≡ true
    by_room true is = refl
    by_room false is = absurd (done_is_no_crash (sym (no_room_ends opening.layout Old from call [] is) ∙ stopped.ends Old []))

-- the half that is left has what was kept before, or what the call keeps
abbrev pub IsBeforeOrAfter : AgentHalf → Option Saved → AgentHalf → Type 0
IsBeforeOrAfter a part h = (h ≡ restarted a) ⊎ (h ≡ restarted (keeping part a))

by_left : (a after h : AgentHalf) (part : Saved) (image image' : ℕ → ℕ) (left : Bool) → by_saves after a (part ∷ []) (Stopped (cond left 1 0) image) ≡ Crashed h image' → IsBeforeOrAfter a (Some part) h
by_left a after h part image image' true e = inr (sym (ap half_of e))
by_left a after h part image image' false e = inl (sym (ap half_of e))

by_stop : (layout : Layout) (mode : Mode) (a after h : AgentHalf) (part : Saved) (stop : ℕ) (image image' : ℕ → ℕ) (hits : Bool)
    → by_saves after a (part ∷ [])
    (cond hits (stopped_save mode image (calls_of layout image part) stop)
    (after_a_save (saves_end layout mode (counts_on stop (calls_of layout image part)) (image_after image (calls_of layout image part)) [])))
    ≡ Crashed h image' → IsBeforeOrAfter a (Some part) h
unfolding saves_end
by_stop layout mode a after h part stop image image' true e = by_left a after h part _ image' (leaves_next mode (calls_of layout image part) stop) e
by_stop layout mode a after h part stop image image' false e = absurd (done_is_no_crash e)

by_part : (layout : Layout) (mode : Mode) (stage : Stage) (after h : AgentHalf) (image : ℕ → ℕ) (part : Option Saved)
    → by_saves after stage.half (option_to_list part ++ []) (saves_end layout mode stage.left stage.image (option_to_list part ++ [])) ≡ Crashed h image → IsBeforeOrAfter stage.half part h
unfolding saves_end
by_part layout mode stage after h image None e = absurd (done_is_no_crash e)
by_part layout mode stage after h image (Some part) e = by_stop layout mode stage.half after h part stage.left stage.image image (stops_in stage.left (calls_of layout stage.image part)) e

pub stop_leaves : (opening : Opening) (from : Stage) (call : Call) (disk : MemDisk) (stopped : IsStopped opening from (call ∷ []) disk) (mode : Mode)
    → IsBeforeOrAfter from.half (kept_by from.half call) (stopped.half mode)
stop_leaves opening from call disk stopped mode =
    let after = call_after from.half call in
    let saves : Bool → List Saved = λ b. cond b (option_to_list (kept_by from.half call) ++ []) [] in
    by_part opening.layout mode from after (stopped.half mode) (left_on disk mode) (kept_by from.half call)
    (sym (ap (λ (b : Bool). by_saves (cond b after from.half) from.half (saves b) (saves_end opening.layout mode from.left from.image (saves b))) (stopped_room opening from call disk stopped))
    ∙ sym (outcome_is opening.layout mode from (call ∷ []))
    ∙ stopped.ends mode [])

-- ---- joined

pub leads_both : (layout : Layout) (from mid to : Stage) (first second : List Call) → Leads layout from first mid → Leads layout mid second to → Leads layout from (first ++ second) to
leads_both layout from mid to first second one two = record {
  on = λ mode rest. ap (outcome layout mode from) (append_assoc first second rest) ∙ one.on mode (second ++ rest) ∙ two.on mode rest;
  local = two.local ∙ one.local;
}

abbrev pub stopped_after : (opening : Opening) (from mid : Stage) (first second : List Call) (disk : MemDisk) → Leads opening.layout from first mid → IsStopped opening mid second disk
    → IsStopped opening from (first ++ second) disk
stopped_after opening from mid first second disk leads stopped = record {
  half = stopped.half;
  ends = λ mode rest. ap (outcome opening.layout mode from) (append_assoc first second rest) ∙ leads.on mode (second ++ rest) ∙ stopped.ends mode rest;
  starts = λ mode. subst (λ local. StartsAs opening local (left_on disk mode) (stopped.half mode)) leads.local (stopped.starts mode);
}

abbrev pub stopped_before : (opening : Opening) (from : Stage) (first second : List Call) (disk : MemDisk) → IsStopped opening from first disk → IsStopped opening from (first ++ second) disk
stopped_before opening from first second disk stopped = record {
  half = stopped.half;
  ends = λ mode rest. ap (outcome opening.layout mode from) (append_assoc first second rest) ∙ stopped.ends mode (second ++ rest);
  starts = stopped.starts;
}

append_nothing : (xs : List Call) → xs ++ [] ≡ xs
append_nothing [] = refl
append_nothing (x ∷ xs) = ap (λ (ys : List Call). x ∷ ys) (append_nothing xs)

none_done : (layout : Layout) (mode : Mode) (stage : Stage) → outcome layout mode stage [] ≡ Done stage.half stage.image
none_done layout mode stage = outcome_is layout mode stage [] ∙ nothing_saved layout mode stage stage.half

-- calls of which none was stopped are done
pub leads_done : (layout : Layout) (mode : Mode) (from to : Stage) (calls : List Call) → Leads layout from calls to → outcome layout mode from calls ≡ Done to.half to.image
leads_done layout mode from to calls leads = ap (outcome layout mode from) (sym (append_nothing calls)) ∙ leads.on mode [] ∙ none_done layout mode to

-- the same of calls of which one had no room
pub ends_done : (layout : Layout) (mode : Mode) (from to : Stage) (calls : List Call) → ((mode : Mode) (rest : List Call) → outcome layout mode from (calls ++ rest) ≡ Done to.half to.image)
    → outcome layout mode from calls ≡ Done to.half to.image
ends_done layout mode from to calls ends = ap (outcome layout mode from) (sym (append_nothing calls)) ∙ ends mode []

-- nothing is called
pub leads_nowhere : (layout : Layout) (stage : Stage) → Leads layout stage [] stage
leads_nowhere layout stage = record { on = λ mode rest. refl; local = refl }

-- where nothing was called the half and the bytes are as before
pub nothing_done : (layout : Layout) (from to : Stage) → Leads layout from [] to → Done from.half from.image ≡ Done to.half to.image
nothing_done layout from to leads = sym (none_done layout Old from) ∙ leads.on Old [] ∙ none_done layout Old to
