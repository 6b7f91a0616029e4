-- A disk that isn't armed stops no call.
use Rattle.std.proofs.Common.{◌≡◌, ℕ, ◌-◌, List, [], ◌∷◌, ◌++◌, length, refl, sym, ◌∙◌, ap, subst, arith}
use Rattle.edge_devices.specs.Disks.{DeviceCall}
use Rattle.edge_devices.specs.DiskStops.{counts_on}
use Rattle.edge_devices.specs.declared.disk_calls.Mode.{Mode}
use Rattle.edge_devices.specs.declared.disk_calls.Mode.TheVariants.{Old}
use Rattle.edge_devices.specs.declared.memory_disk.MemDisk.{MemDisk}
use Rattle.agent_store.specs.declared.slots.Layout.{Layout}
use Rattle.agent_store.specs.Loads.{image_after}
use Rattle.agent_rules.specs.declared.saved.Saved.{Saved}
use Rattle.agent_rules.specs.Half.{AgentHalf, restarted}
use Rattle.agent_rules.specs.Keeping.{Call}
use Rattle.agent_rules.specs.Calls.{calls_after, saves_of}
use Rattle.agent_rules.specs.Events.{AgentEvent, Changes, Reports, Hears, GivesUp, Restarts, Crashes, saves_in}
use Rattle.agent_stopped.specs.declared.opening.Opening.{Opening}
use Rattle.agent_stopped.specs.Endings.{Ending, Passed, Stopped, after_a_save, calls_of, event_ends, saves_end}
use Rattle.agent_stopped.specs.Stages.{Stage, Outcome, Done, Crashed, outcome, outcome_by, left_on}
use Rattle.agent_stopped.specs.Starts.{IsStopped}

none_left : (plan : List DeviceCall) → counts_on 0 plan ≡ 0
none_left plan = let e : 0 - length plan ≡ 0 = omega arith in e

saves_pass : (layout : Layout) (mode : Mode) (image : ℕ → ℕ) (parts : List Saved) → (after : ℕ → ℕ) × (saves_end layout mode 0 image parts ≡ Passed after)
unfolding saves_end
saves_pass layout mode image [] = (image, refl)
saves_pass layout mode image (part ∷ parts) =
    let rest = saves_pass layout mode (image_after image (calls_of layout image part)) parts in (
      rest.0,
      ap (λ (stop : ℕ). after_a_save (saves_end layout mode stop (image_after image (calls_of layout image part)) parts)) (none_left (calls_of layout image part)) ∙ ap after_a_save rest.1,
    )

pub calls_pass : (layout : Layout) (mode : Mode) (stage : Stage) (calls : List Call) → stage.left ≡ 0 → (image : ℕ → ℕ) × (outcome layout mode stage calls ≡ Done (calls_after stage.half calls) image)
unfolding outcome
calls_pass layout mode stage calls none =
    let saves = saves_pass layout mode stage.image (saves_of stage.half calls) in (
      saves.0,
      ap (λ (stop : ℕ). outcome_by stage.half calls (saves_end layout mode stop stage.image (saves_of stage.half calls))) none ∙ ap (outcome_by stage.half calls) saves.1,
    )

pub event_passes : (layout : Layout) (mode : Mode) (image : ℕ → ℕ) (a : AgentHalf) (event : AgentEvent) → (after : ℕ → ℕ) × (event_ends layout mode 0 image a event ≡ Passed after)
event_passes layout mode image a (Changes now) = (image, refl)
event_passes layout mode image a Reports = saves_pass layout mode image (saves_in a Reports)
event_passes layout mode image a (Hears reply reactions) = saves_pass layout mode image (saves_in a (Hears reply reactions))
event_passes layout mode image a GivesUp = (image, refl)
event_passes layout mode image a (Restarts local asks_uid) = (image, refl)
event_passes layout mode image a (Crashes during saves) = (image, refl)

done_apart : (half other : AgentHalf) (image left : ℕ → ℕ) → Done half image ≡ Crashed other left → ⊥
done_apart half other image left is = cc

pub none_stopped : (opening : Opening) (from : Stage) (calls : List Call) (disk : MemDisk) → from.left ≡ 0 → IsStopped opening from calls disk → ⊥
none_stopped opening from calls disk none stopped =
    let all = calls_pass opening.layout Old from (calls ++ []) none in
    done_apart (calls_after from.half (calls ++ [])) (stopped.half Old) all.0 (left_on disk Old) (sym all.1 ∙ stopped.ends Old [])
