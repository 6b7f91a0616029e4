-- Where no device call is to be stopped, none is.
use Rattle.std.proofs.Common.{◌≡◌, ◌∙◌, ℕ, ◌-◌, List, [], ◌∷◌, ◌++◌, length, ap, sym, refl, arith}
use Rattle.edge_devices.specs.Disks.{DeviceCall}
use Rattle.edge_devices.specs.declared.disk_calls.Mode.{Mode}
use Rattle.edge_devices.specs.declared.disk_calls.Mode.TheVariants.{Old}
use Rattle.edge_devices.specs.declared.memory_disk.MemDisk.{MemDisk}
use Rattle.agent_store.specs.Loads.{image_after}
use Rattle.agent_store.specs.declared.slots.Layout.{Layout}
use Rattle.agent_rules.specs.declared.saved.Saved.{Saved}
use Rattle.agent_rules.specs.Half.{AgentHalf}
use Rattle.agent_rules.specs.Keeping.{Call}
use Rattle.agent_rules.specs.Calls.{calls_after, saves_of}
use Rattle.agent_stopped.specs.declared.opening.Opening.{Opening}
use Rattle.agent_stopped.specs.Endings.{Passed, after_a_save, calls_of, saves_end}
use Rattle.agent_stopped.specs.Stages.{Stage, Done, Crashed, outcome, outcome_by}
use Rattle.agent_stopped.specs.Starts.{IsStopped}

none_left : (plan : List DeviceCall) → 0 - length plan ≡ 0
none_left plan = omega arith

-- saves of which no device call is to be stopped are all made
all_saved : (layout : Layout) (mode : Mode) (image : ℕ → ℕ) (parts : List Saved) → (last : ℕ → ℕ) × (saves_end layout mode 0 image parts ≡ Passed last)
unfolding saves_end
all_saved layout mode image [] = (image, refl)
all_saved layout mode image (part ∷ parts) =
    let plan = calls_of layout image part in
    let rest = all_saved layout mode (image_after image plan) parts in
    (rest.0, ap (λ (n : ℕ). after_a_save (saves_end layout mode n (image_after image plan) parts)) (none_left plan) ∙ ap after_a_save rest.1)

done_isnt_crash : (a b : AgentHalf) (last left : ℕ → ℕ) → Done a last ≡ Crashed b left → ⊥
done_isnt_crash a b last left same = cc same

pub never_stops : (opening : Opening) (from : Stage) (calls : List Call) (disk : MemDisk) → from.left ≡ 0 → IsStopped opening from calls disk → ⊥
unfolding outcome
never_stops opening from calls disk none s =
    let all = calls ++ [] in
    let saved = all_saved opening.layout Old from.image (saves_of from.half all) in
    done_isnt_crash (calls_after from.half all) _ saved.0 _
    (sym
    (ap (λ (n : ℕ). outcome_by from.half all (saves_end opening.layout Old n from.image (saves_of from.half all))) none
    ∙ ap (outcome_by from.half all) saved.1)
    ∙ s.ends Old [])
