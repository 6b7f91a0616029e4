-- A reading that goes on block by block.
use Rattle.std.proofs.Common.{◌≡◌, ℕ, ◌+◌, ◌<◌, List, [], ◌∷◌, ◌++◌, drop, Option, None, refl, sym, ap, subst, ◌∙◌, arith}
use Rattle.std.specs.Io.KnownBytes.{IsAtEnd}
use Rattle.command_streams.specs.declared.front.Front.TheVariants.{Frame}
use Rattle.command_streams.specs.declared.held.Supply.{Supply}
use Rattle.command_streams.specs.declared.stop.Stop.{Stop}
use Rattle.command_streams.specs.declared.stop.Stop.TheVariants.{Spent}
use Rattle.command_streams.specs.Framing.{IsPartial}
use Rattle.command_streams.specs.Made.{Writes, Gives}
use Rattle.command_streams.specs.Reading.{state_after, IsLeft}
use Rattle.command_streams.specs.Held.{HeldState, taken_of}
use Rattle.command_streams.specs.Fronts.{FrontIs, front_message}
use Rattle.command_streams.specs.Blocks.{FramesPass, StopsInHeld}
use Rattle.command_streams.specs.Progress.{IsReadTo, Passes}
use Rattle.command_streams.specs.Replies.{IsReplied, TakesAll}
use Rattle.command_streams.specs.Supplies.{Fills, end_stop}
use Rattle.command_streams.proofs.Passing.{FramesPass-none, FramesPass-append, FramesPass-one, FramesPass-taken, state_after-append, step_of}
use Rattle.command_streams.proofs.Steps.{IsAt, IsAt-start, IsAt-block, IsAt-more, IsAt-held_stop, IsAt-ended, IsAt-spent}

-- ---- frames behind frames

pub Passes-none : {State : Type 0} (gives : Gives State) (state : State) (held : HeldState) → Passes gives state state held held
Passes-none gives state held = ([], FramesPass-none gives state held, refl)

pub Passes-trans : {State : Type 0} (gives : Gives State) (a b c : State) (h i j : HeldState) → Passes gives a b h i → Passes gives b c i j → Passes gives a c h j
Passes-trans {State} gives a b c h i j p q = (
  p.0 ++ q.0,
  FramesPass-append gives a h i j p.0 q.0 p.1 (subst (λ (s : State). FramesPass gives s i j q.0) p.2 q.1),
  q.2 ∙ ap (λ (s : State). state_after s q.0) p.2 ∙ sym (state_after-append a p.0 q.0),
)

pub Passes-one : {State : Type 0} (gives : Gives State) (state after : State) (old new : HeldState) (len : ℕ) (output : List ℕ) → FrontIs old.bytes (Frame len)
    → new.at ≡ old.at + (4 + len) → new.bytes ≡ drop (4 + len) old.bytes → gives state (front_message len old.bytes) (Writes output) after → Passes gives state after old new
Passes-one gives state after old new len output front at_is bytes_is given = (
  step_of (front_message len old.bytes) output after ∷ [],
  FramesPass-one gives state after old new len output front.0 front.1 front.2 at_is bytes_is given,
  refl,
)

pub Passes-taken : {State : Type 0} (gives : Gives State) (start now : State) (old new : HeldState) → Passes gives start now old new → taken_of new ≡ taken_of old
Passes-taken gives start now old new p = FramesPass-taken gives start old new p.0 p.1

-- ---- how far the reading is

at_of : {State : Type 0} (gives : Gives State) (start : State) (budget : ℕ) (held : HeldState) (state : State) (input left : Option (List ℕ))
    → IsReadTo gives start budget held state input left → IsAt gives start budget held state input left None None
at_of gives start budget held state input left so_far = record {
  steps = so_far.steps;
  taken = record { taken = so_far.taken; each = so_far.each; place = so_far.place; within = omega (arith, so_far.within) };
  state_is = so_far.state_is;
  written = tt;
  within = so_far.within;
}

of_at : {State : Type 0} (gives : Gives State) (start : State) (budget : ℕ) (held : HeldState) (state : State) (input left : Option (List ℕ))
    → IsAt gives start budget held state input left None None → IsReadTo gives start budget held state input left
of_at gives start budget held state input left so_far = record {
  steps = so_far.steps;
  each = so_far.taken.each;
  taken = so_far.taken.taken;
  place = so_far.taken.place;
  state_is = so_far.state_is;
  within = so_far.within;
}

pub IsReadTo-start : {State : Type 0} (gives : Gives State) (start : State) (budget room : ℕ) (input : Option (List ℕ)) → IsReadTo gives start budget (record { at = 0; bytes = []; room = room }) start input input
IsReadTo-start gives start budget room input = of_at gives start budget (record { at = 0; bytes = []; room = room }) start input input (IsAt-start gives start budget room input None)

pub IsReadTo-filled : {State : Type 0} (gives : Gives State) (start : State) (budget : ℕ) (held held' : HeldState) (state : State) (input left left' : Option (List ℕ)) (supply : Supply)
    → IsReadTo gives start budget held state input left → (fills : Fills budget held held' left left' supply) → IsReadTo gives start budget held' state input fills.last
IsReadTo-filled gives start budget held held' state input left left' supply so_far fills =
    of_at gives start budget held' state input fills.last
    (IsAt-more gives start budget fills.count held held' state input left fills.last None None (at_of gives start budget held state input left so_far) fills.takes fills.within)

pub IsReadTo-passed : {State : Type 0} (gives : Gives State) (start : State) (budget : ℕ) (held held' : HeldState) (state state' : State) (input left : Option (List ℕ))
    → IsReadTo gives start budget held state input left → Passes gives state state' held held' → IsReadTo gives start budget held' state' input left
IsReadTo-passed {State} gives start budget held held' state state' input left so_far p =
    subst (λ (s : State). IsReadTo gives start budget held' s input left) (sym p.2)
    (of_at gives start budget held' (state_after state p.0) input left (IsAt-block gives start budget held held' state input left None None None p.0 (at_of gives start budget held state input left so_far) p.1 tt))

taken_all : {State : Type 0} (gives : Gives State) (start now : State) (budget : ℕ) (input : Option (List ℕ)) (stop : Stop) → IsReplied gives start now budget input None None stop → TakesAll gives start now budget input stop
taken_all gives start now budget input stop replied = record { steps = replied.0; each = replied.1; reads = replied.2; left = replied.4 }

pub IsReadTo-stopped : {State : Type 0} (gives : Gives State) (start : State) (budget : ℕ) (held : HeldState) (state now : State) (input left : Option (List ℕ)) (stop : Stop)
    → IsReadTo gives start budget held state input left → StopsInHeld gives state held stop → IsLeft gives state now → TakesAll gives start now budget input stop
IsReadTo-stopped gives start budget held state now input left stop so_far stops leaves =
    taken_all gives start now budget input stop (IsAt-held_stop gives start budget held state input left None None stop (at_of gives start budget held state input left so_far) stops now leaves)

pub IsReadTo-ended : {State : Type 0} (gives : Gives State) (start : State) (budget : ℕ) (held : HeldState) (state : State) (input left : Option (List ℕ))
    → IsReadTo gives start budget held state input left → IsPartial held.bytes → taken_of held < budget → IsAtEnd left → TakesAll gives start state budget input (end_stop held.at held.bytes)
IsReadTo-ended gives start budget held state input left so_far cut short ended =
    taken_all gives start state budget input (end_stop held.at held.bytes) (IsAt-ended gives start budget held state input left None None (at_of gives start budget held state input left so_far) cut short ended state refl)

pub IsReadTo-spent : {State : Type 0} (gives : Gives State) (start : State) (budget : ℕ) (held : HeldState) (state : State) (input left : Option (List ℕ))
    → IsReadTo gives start budget held state input left → IsPartial held.bytes → taken_of held ≡ budget → TakesAll gives start state budget input Spent
IsReadTo-spent gives start budget held state input left so_far cut spent =
    taken_all gives start state budget input Spent (IsAt-spent gives start budget held state input left None None (at_of gives start budget held state input left so_far) cut spent state refl)
