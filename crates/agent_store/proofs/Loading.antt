-- What a load finds.
use Rattle.std.proofs.Common.{◌≡◌, ℕ, true, false, List, sym, ◌∙◌, ap, arith}
use Rattle.std.proofs.lemmas.Bool.{true≢false}
use Rattle.edge_devices.specs.Disks.{DiskState, medium, MayLeave, LeftSince, Reads}
use Rattle.edge_devices.proofs.DiskMoments.{goes_on, step-reads}
use Rattle.agent_store.specs.Codecs.{Codec}
use Rattle.agent_store.specs.declared.slots.Layout.{Layout}
use Rattle.agent_store.specs.declared.slots.Side.{Side}
use Rattle.agent_store.specs.declared.slots.Side.TheVariants.{First, Second}
use Rattle.agent_store.specs.declared.slots.Choice.{Choice}
use Rattle.agent_store.specs.declared.slots.Choice.TheVariants.{Neither, Slot}
use Rattle.agent_store.specs.declared.header.Header.{Header}
use Rattle.agent_store.specs.Log.{Ends}
use Rattle.agent_store.specs.Slots.{other, slot_start, generation_of, standing, choice_reading, reading}
use Rattle.agent_store.specs.Headers.{TellsHeader, header_of, header_choice}
use Rattle.agent_store.specs.Store.{Matches}
use Rattle.agent_store.proofs.Choosing.{other-other, chosen-headers, tells-on, neither-shut, reading-chosen}

-- a load adds no image
pub load-run : (old mid new : DiskState) → LeftSince old mid (MayLeave (medium old)) → Reads mid new → LeftSince old new (MayLeave (medium old))
load-run old mid new first reads =
    let P = MayLeave (medium old) in
    goes_on old mid new P P first (step-reads mid new P reads (λ image left. first.each mid.moment image first.later (omega arith) left)) (λ image left. left)

module _ (codec : Codec) (layout : Layout) (image : ℕ → ℕ) (first second : Header) (one : TellsHeader image (slot_start layout First) first) (two : TellsHeader image (slot_start layout Second) second) where
  pub headers-reading : (choice : Choice) → header_choice first second ≡ choice → reading codec layout image ≡ choice_reading codec layout image choice
  headers-reading choice is = reading-chosen codec layout image choice (chosen-headers layout image first second one two ∙ is)

  pub matches-neither : (tail : ℕ) (part : List ℕ) → header_choice first second ≡ Neither
      → Matches codec image (record { layout = layout; target = First; target_open = false; kept = false; generation = 0; tail = tail; part = part; broken = false })
  matches-neither tail part is = record {
    choice = chosen-headers layout image first second one two ∙ is;
    target = sym (neither-shut layout image First (chosen-headers layout image first second one two ∙ is));
    generation = λ kept. absurd (true≢false (sym kept));
    stands = λ kept. absurd (true≢false (sym kept));
  }

  pub matches-slot : (side : Side) (tail : ℕ) (part : List ℕ) → header_choice first second ≡ Slot side → standing codec layout image side ≡ Ends part tail
      → (target : Side) → target ≡ other side → (target_header header : Header) → target_header ≡ header_of first second target → header ≡ header_of first second side
      → Matches codec image (record { layout = layout; target = target; target_open = target_header.is_open; kept = true; generation = header.generation; tail = tail; part = part; broken = false })
  matches-slot side tail part is stands target is_target target_header header is_there is_here =
      let back : other target ≡ side = ap other is_target ∙ other-other side in record {
        choice = chosen-headers layout image first second one two ∙ is ∙ ap Slot (sym back);
        target = ap (λ (h : Header). h.is_open) is_there ∙ (tells-on layout image first second target one two).gate;
        generation = λ _. ap (λ (h : Header). h.generation) is_here ∙ (tells-on layout image first second side one two).generation ∙ ap (λ (s : Side). generation_of layout image s) (sym back);
        stands = λ _. ap (λ (s : Side). standing codec layout image s) back ∙ stands;
      }
