-- How much comes from a source.
use Rattle.std.proofs.Common.{◌≡◌, ℕ, ◌+◌, ◌≤◌, inl, inr, List, [], ◌++◌, length, Option, None, Some, sym, ap, ◌∙◌, append_assoc, arith}
use Rattle.std.specs.Io.KnownBytes.{Consumes, prepend_known}
use Rattle.std.proofs.KnownBytes.{Consumes-nil, Consumes-trans}
use Rattle.std.proofs.lemmas.List.{length-append}
use Rattle.message_values.specs.declared.report.AgentToServer.{AgentToServer}
use Rattle.command_streams.specs.declared.TheConstants.{MESSAGE_LIMIT}
use Rattle.command_streams.specs.Framing.{frames_of}
use Rattle.command_streams.specs.Fronts.{Wants}
use Rattle.command_streams.specs.Held.{HeldState, taken_of}
use Rattle.command_streams.specs.Progress.{IsReadTo}
use Rattle.command_streams.specs.Reading.{messages_of}
use Rattle.command_streams.specs.Replies.{TakesNoFurther}
use Rattle.command_streams.specs.Supplies.{TakesWithin}
use Rattle.command_fleet.specs.Blocks.{HoldsBlock, TakesFewBehind, most_of_block}
use Rattle.command_fleet.specs.Reading.{Collects}

pub taken_none : (budget : ℕ) (left : Option (List ℕ)) → TakesFewBehind budget left left
taken_none budget left = record { steps = []; behind = []; each = tt; taken = Consumes-nil left; few = omega arith; within = omega arith }

-- a frame of which a part is there needs so many bytes at most
needs_few : (bytes : List ℕ) (need : ℕ) → Wants bytes need → need ≤ 4 + MESSAGE_LIMIT
needs_few bytes need (inl short) = omega (arith, short.1)
needs_few bytes need (inr part) = omega (arith, part.2, part.5)

-- with the one loop for all commands
pub taken_by_frames : (budget : ℕ) (left left' : Option (List ℕ)) → TakesNoFurther Collects [] budget left left' → TakesFewBehind budget left left'
taken_by_frames budget left left' takes = record {
  steps = takes.steps;
  behind = takes.cut ++ takes.last;
  each = takes.each;
  taken = takes.taken;
  few = let few : length (takes.cut ++ takes.last) ≤ takes.need + 65536 = takes.few in omega (arith, few, needs_few takes.cut takes.need takes.wants);
  within = takes.within;
}

-- where nothing was held before
pub taken_first : (budget : ℕ) (held : HeldState) (left left' : Option (List ℕ)) → TakesWithin budget held left left' → TakesFewBehind budget left left'
taken_first budget held left left' within = record {
  steps = [];
  behind = within.0;
  each = tt;
  taken = within.3;
  few = let few : length within.0 ≤ most_of_block = within.1 in omega (arith, few);
  within = omega (arith, within.2);
}

-- nothing more
pub within_none : (budget : ℕ) (held : HeldState) (left : Option (List ℕ)) → taken_of held ≤ budget → TakesWithin budget held left left
within_none budget held left few = ([], omega arith, omega (arith, few), Consumes-nil left)

-- as many were taken before
pub within_ahead : (budget : ℕ) (held ahead : HeldState) (left left' : Option (List ℕ)) → taken_of ahead ≡ taken_of held → TakesWithin budget ahead left left' → TakesWithin budget held left left'
within_ahead budget held ahead left left' same within = (within.0, within.1, omega (arith, same, within.2), within.3)

-- held bytes that begin anew behind others
pub ahead_of : (held ahead : HeldState) (at count place : ℕ) → at ≡ held.at → count ≡ length held.bytes → place ≡ at + count → (ahead.at ≡ place) × (ahead.bytes ≡ []) → taken_of ahead ≡ taken_of held
ahead_of held ahead at count place at_is count_is place_is begun = omega (arith, at_is, count_is, place_is, begun.0, ap length begun.1)

all_taken : (input left : Option (List ℕ)) (held front : List ℕ) → Consumes input (prepend_known held left) front → Consumes input left (front ++ held)
all_taken None left held front p = tt
all_taken (Some bytes) None held front p = absurd p
all_taken (Some bytes) (Some rest) held front p = p ∙ sym (append_assoc front held rest)

-- behind what was read of an input
pub taken_on : (budget : ℕ) (held : HeldState) (reports : List AgentToServer) (input left left' : Option (List ℕ)) → IsReadTo Collects [] budget held reports input left → HoldsBlock held
    → TakesWithin budget held left left' → TakesFewBehind budget input left'
taken_on budget held reports input left left' read holds within =
    let frames : List ℕ = frames_of (messages_of read.steps) in
    let all : Consumes input left' ((frames ++ held.bytes) ++ within.0) = Consumes-trans input left left' (frames ++ held.bytes) within.0 (all_taken input left held.bytes frames read.taken) within.3 in
    record {
      steps = read.steps;
      behind = held.bytes ++ within.0;
      each = read.each;
      taken = rw (sym (append_assoc frames held.bytes within.0)) all;
      few = let few : length within.0 ≤ most_of_block = within.1 in omega (arith, holds, few, length-append held.bytes within.0);
      within = omega (arith, within.2, read.place, length-append held.bytes within.0, length-append frames (held.bytes ++ within.0));
    }
