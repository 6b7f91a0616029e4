use Rattle.std.proofs.Common.{◌≡◌, List, map, sym, ◌∙◌, ap, subst}
use Rattle.std.proofs.lemmas.List.{take_all}
use Rattle.plain_values.specs.declared.maps.Pair.{Pair}
use Rattle.plain_values.specs.Pairs.{IsAscending, IsAscending-on_value, on_value}
use Rattle.edge_shelf.specs.declared.slots.Slot.{Slot}
use Rattle.edge_shelf.specs.MemoryShelves.{settled_slot}
use Rattle.edge_shelf.proofs.slots.settle.Goals as goal

pub from_ascending-requires : goal.from_ascending-requires
from_ascending-requires c =
    let h : Slot → Slot = settled_slot c.args.mode in
    let made : c.into_vec.result.items ≡ map (on_value h) c.args.slots.now =
    c.into_vec.ensures.value ∙ c.loop-pair.invariant
    ∙ ap (map (on_value h)) (take_all c.loop-pair.pair-index c.as_slice-pairs.result.now c.loop-pair-test.false)
    ∙ ap (map (on_value h)) c.as_slice-pairs.ensures.value in
    record { ascending = subst (λ (ps : List (Pair Slot)). IsAscending ps) (sym made) (IsAscending-on_value h c.args.slots.now c.as_slice-pairs.ensures.ascending) }
