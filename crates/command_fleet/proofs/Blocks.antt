-- Frames of a block whose reports were decoded, and how far a reading block by block is.
use Rattle.std.proofs.Common.{◌≡◌, ◌≢◌, ◌⊎◌, inl, inr, ℕ, suc, ◌+◌, ◌-◌, ◌<◌, ◌≤◌, List, [], ◌∷◌, ◌++◌, length, drop, Option, Some, refl, sym, ap, subst, ◌∙◌, append_assoc, append-nil, arith}
use Rattle.std.specs.Int.{w32, to_be_bytes}
use Rattle.std.specs.Prelude.{Result, IfOk, slice_index_or}
use Rattle.std.proofs.lemmas.List.{drop-drop, length-append, length-drop}
use Rattle.plain_values.specs.declared.memory.NoMemory.{NoMemory}
use Rattle.message_values.specs.declared.report.AgentToServer.{AgentToServer}
use Rattle.message_reports.specs.Reports.{MeansReport}
use Rattle.command_streams.specs.declared.TheConstants.{MESSAGE_LIMIT}
use Rattle.command_streams.specs.declared.front.Front.TheVariants.{Frame}
use Rattle.command_streams.specs.declared.held.Supply.{Supply}
use Rattle.command_streams.specs.declared.held.Supply.TheVariants.{More, End, Spent as BudgetSpent}
use Rattle.command_streams.specs.declared.stop.Stop.{Stop}
use Rattle.command_streams.specs.Blocks.{FramesPass}
use Rattle.command_streams.specs.Framing.{frames_of}
use Rattle.command_streams.specs.Fronts.{FrontIs, Wants, front_message}
use Rattle.command_streams.specs.Held.{HeldState, taken_of}
use Rattle.command_streams.specs.Made.{Writes}
use Rattle.command_streams.specs.Progress.{IsReadTo, Passes}
use Rattle.command_streams.specs.Reading.{IsLeft, behind_messages, behind_fault, behind_length, messages_of}
use Rattle.command_streams.specs.Replies.{TakesAll}
use Rattle.command_streams.specs.Supplies.{FilledBy, Fills}
use Rattle.command_fleet.specs.declared.blockwise.Next.TheVariants.{Holds}
use Rattle.command_fleet.specs.Blocks.{HoldsBlock, IsReadOn, TakesOn, most_of_block}
use Rattle.command_fleet.specs.declared.decoding.Decoded.{Decoded}
use Rattle.command_fleet.specs.Reading.{Collects, ReadsReports}
use Rattle.command_fleet.specs.Decoding.{AreDecodedIn, IsDecodedIn, IsDecodedNext, held_from}

-- ---- one frame of a block

-- the laws on frames that are passed over
abbrev pub PassOne : Type 0
PassOne = (state after : List AgentToServer) (old new : HeldState) (len : ℕ) (output : List ℕ) → FrontIs old.bytes (Frame len)
    → new.at ≡ old.at + (4 + len) → new.bytes ≡ drop (4 + len) old.bytes → Collects state (front_message len old.bytes) (Writes output) after → Passes Collects state after old new

abbrev pub PassNone : Type 0
PassNone = (state : List AgentToServer) (held : HeldState) → Passes Collects state state held held

abbrev pub PassBehind : Type 0
PassBehind = (a b c : List AgentToServer) (h i j : HeldState) → Passes Collects a b h i → Passes Collects b c i j → Passes Collects a c h j

-- the message of a frame at a place, where the block's rest and the message are such
pub next_frame : PassOne → (block rest message : List ℕ) (at len next : ℕ) (reports reports' : List AgentToServer) (report : AgentToServer)
    → rest ≡ drop at block → message ≡ front_message len rest → at ≤ length block → FrontIs rest (Frame len) → MeansReport message report → next ≡ at + (4 + len) → reports' ≡ reports ++ report ∷ []
    → IsDecodedNext block at reports reports' (Some next)
next_frame one block rest message at len next reports reports' report rest_is message_is within front means next_is added = (
  omega (arith, next_is),
  omega (arith, within, next_is, front.0, ap length rest_is, length-drop at block),
  λ start.
      let after : start ++ reports' ≡ (start ++ reports) ++ report ∷ [] = ap (λ (rs : List AgentToServer). start ++ rs) added ∙ sym (append_assoc start reports (report ∷ [])) in
      let later : drop next block ≡ drop (4 + len) (drop at block) = ap (λ (n : ℕ). drop n block) next_is ∙ sym (drop-drop (4 + len) at block) in
      let here : FrontIs (drop at block) (Frame len) = subst (λ (t : List ℕ). FrontIs t (Frame len)) rest_is front in
      let meant : MeansReport (front_message len (drop at block)) report =
      subst (λ (t : List ℕ). MeansReport t report) (message_is ∙ ap (λ (t : List ℕ). front_message len t) rest_is) means in
      one (start ++ reports) (start ++ reports') (held_from at block) (held_from next block) len [] here next_is later (report, meant, refl, after),
)

-- the frames of a block from a place on were decoded up to another one
pub record IsDecodedTo (block : List ℕ) (from at : ℕ) (reports : List AgentToServer) : Type 0 where
  pub behind : from ≤ at
  pub within : at ≤ length block
  pub passes : (start : List AgentToServer) → Passes Collects start (start ++ reports) (held_from from block) (held_from at block)

pub decoded_none : PassNone → (block : List ℕ) (from : ℕ) (reports : List AgentToServer) → from ≤ length block → reports ≡ [] → IsDecodedTo block from from reports
decoded_none none block from reports within empty = subst (λ (rs : List AgentToServer). IsDecodedTo block from from rs) (sym empty) (record {
  behind = omega arith;
  within = within;
  passes = λ start.
      subst (λ (rs : List AgentToServer). Passes Collects start rs (held_from from block) (held_from from block)) (sym (append-nil start)) (none start (held_from from block));
})

pub decoded_more : PassBehind → (block : List ℕ) (from at next : ℕ) (reports reports' : List AgentToServer) → IsDecodedTo block from at reports → IsDecodedNext block at reports reports' (Some next)
    → IsDecodedTo block from next reports'
decoded_more behind block from at next reports reports' so_far more = record {
  behind = omega (arith, so_far.behind, more.0);
  within = more.1;
  passes = λ start. behind start (start ++ reports) (start ++ reports') (held_from from block) (held_from at block) (held_from next block) (so_far.passes start) (more.2 start);
}

pub decoded_between : (block : List ℕ) (part : Decoded) (from at : ℕ) (reports reports' : List AgentToServer) → part.from ≡ from → part.from + part.len ≡ at → part.reports.items ≡ reports' → reports' ≡ reports
    → IsDecodedTo block from at reports → IsDecodedIn block part
decoded_between block part from at reports reports' from_is at_is reports_are same to =
    let here : IsDecodedTo block part.from at part.reports.items =
    subst (λ (f : ℕ). IsDecodedTo block f at part.reports.items) (sym from_is) (subst (λ (rs : List AgentToServer). IsDecodedTo block from at rs) (sym (reports_are ∙ same)) to) in
    record {
      within = omega (arith, at_is, to.within);
      passes = λ start.
          subst (λ (n : ℕ). Passes Collects start (start ++ part.reports.items) (held_from part.from block) (held_from n block)) (sym at_is) (here.passes start);
    }

-- ---- parts that follow one another

-- the frames at the front of what was held were passed over
pub record IsTaken (start : List AgentToServer) (old : HeldState) (passed : ℕ) (reports : List AgentToServer) (held : HeldState) : Type 0 where
  pub passes : Passes Collects start reports old held
  pub rest : held.bytes ≡ drop passed old.bytes
  pub within : passed ≤ length old.bytes

pub taken_none : PassNone → (start : List AgentToServer) (held : HeldState) → IsTaken start held 0 start held
taken_none none start held = record { passes = none start held; rest = refl; within = omega arith }

pub taken_more : PassBehind → (start : List AgentToServer) (old held new : HeldState) (passed : ℕ) (reports reports' : List AgentToServer) (part : Decoded)
    → IsTaken start old passed reports held → IsDecodedIn old.bytes part → part.from ≡ passed → new.at ≡ held.at + part.len → new.bytes ≡ drop part.len held.bytes
    → reports' ≡ reports ++ part.reports.items → IsTaken start old (passed + part.len) reports' new
taken_more behind start old held new passed reports reports' part so_far decoded next at_is bytes_is added =
    let q = decoded.passes reports in
    let block : List ℕ = old.bytes in
    let here : held.bytes ≡ drop part.from block = so_far.rest ∙ ap (λ (n : ℕ). drop n block) (sym next) in
    let there : new.bytes ≡ drop (part.from + part.len) block = bytes_is ∙ ap (λ (t : List ℕ). drop part.len t) here ∙ drop-drop part.len part.from block in
    let pass : FramesPass Collects reports held new q.0 = record {
      each = q.1.each;
      bytes = here ∙ subst (λ (t : List ℕ). drop part.from block ≡ frames_of (messages_of q.0) ++ t) (sym there) q.1.bytes;
      place = omega (arith, at_is, q.1.place);
    } in
    record {
      passes = behind start reports reports' old held new so_far.passes (q.0, pass, added ∙ q.2);
      rest = there ∙ ap (λ (n : ℕ). drop (n + part.len) block) next;
      within = omega (arith, next, decoded.within);
    }

-- what is held has room for the next part
pub taken_room : (start : List AgentToServer) (old held : HeldState) (passed : ℕ) (reports : List AgentToServer) (part : Decoded)
    → IsTaken start old passed reports held → IsDecodedIn old.bytes part → part.from ≡ passed → part.len ≤ length held.bytes
taken_room start old held passed reports part so_far decoded next =
    omega (arith, ap length so_far.rest, length-drop passed old.bytes, decoded.within, next, so_far.within)

-- a block that isn't shared has no parts
pub no_parts : (block : List ℕ) (parts : List (Result Decoded NoMemory)) → parts ≡ [] → AreDecodedIn block parts
no_parts block parts empty = λ place part within. absurd (omega (arith, within, ap length empty))

pub first_part : (block : List ℕ) (parts : List (Result Decoded NoMemory)) (part : Result Decoded NoMemory) → AreDecodedIn block parts → 0 < length parts → part ≡ slice_index_or parts 0 part
    → IfOk part (IsDecodedIn block)
first_part block parts part are some is = subst (λ (r : Result Decoded NoMemory). IfOk r (IsDecodedIn block)) (sym is) (are 0 part some)

pub other_parts : (block : List ℕ) (parts rest : List (Result Decoded NoMemory)) → AreDecodedIn block parts → rest ≡ drop 1 parts → AreDecodedIn block rest
other_parts block parts rest are is = subst (λ (rs : List (Result Decoded NoMemory)). AreDecodedIn block rs) (sym is) (later parts are)
  where
    later : (all : List (Result Decoded NoMemory)) → AreDecodedIn block all → AreDecodedIn block (drop 1 all)
    later [] each = each
    later (r ∷ rs) each = λ place part within. each (suc place) part (omega (arith, within))

-- ---- blocks that follow one another

-- so much more is held behind bytes that were held before, with which it was not held
filled_by : (budget : ℕ) (new joined : HeldState) (last left : Option (List ℕ)) (supply : Supply) → taken_of joined ≡ taken_of new → length new.bytes ≤ length joined.bytes → FilledBy budget new last left supply
    → FilledBy budget joined last left supply
filled_by budget new joined last left More taken longer by = (by.0, omega (arith, longer, by.1))
filled_by budget new joined last left End taken longer by = (by.0, omega (arith, taken, by.1))
filled_by budget new joined last left BudgetSpent taken longer by = taken ∙ by

-- bytes that were filled apart, from where taking was, are filled behind those that are put in front of them
pub filled_apart : (budget : ℕ) (held empty new joined : HeldState) (left left' : Option (List ℕ)) (supply : Supply) → empty.bytes ≡ [] → empty.at ≡ taken_of held → Fills budget empty new left left' supply
    → joined.at ≡ held.at → joined.bytes ≡ held.bytes ++ new.bytes → Fills budget held joined left left' supply
filled_apart budget held empty new joined left left' supply none behind fills at_is bytes_is =
    let more : List ℕ = fills.takes.0 in
    let came : new.bytes ≡ more = fills.takes.3 ∙ ap (λ (t : List ℕ). t ++ more) none in
    let len : length joined.bytes ≡ length held.bytes + length new.bytes = ap length bytes_is ∙ length-append held.bytes new.bytes in
    let taken : taken_of joined ≡ taken_of new = omega (arith, at_is, behind, fills.takes.2, len) in
    record {
      count = fills.count;
      last = fills.last;
      takes = (more, fills.takes.1, at_is, bytes_is ∙ ap (λ (t : List ℕ). held.bytes ++ t) came, fills.takes.4);
      few = fills.few;
      within = omega (arith, taken, fills.within);
      by = filled_by budget new joined fills.last left' supply taken (omega (arith, len)) fills.by;
    }

-- where another block is held, more was taken
pub block_is_more : (budget : ℕ) (old held joined : HeldState) (last left : Option (List ℕ)) (supply : Supply) → taken_of held ≡ taken_of old → length held.bytes < 4 + MESSAGE_LIMIT → joined.at ≡ held.at
    → FilledBy budget joined last left supply → TakesOn old joined (Holds supply)
block_is_more budget old held joined last left More taken short at_is by = λ same. omega (arith, taken, short, at_is, by.1)
block_is_more budget old held joined last left End taken short at_is by = λ same. cc
block_is_more budget old held joined last left BudgetSpent taken short at_is by = λ same. cc

-- where nothing was held, or less than a frame, a block is held at most once it was filled
pub holds_filled : (budget : ℕ) (empty held : HeldState) (left left' : Option (List ℕ)) (supply : Supply) → empty ≡ record { at = 0; bytes = []; room = 0 } → Fills budget empty held left left' supply → HoldsBlock held
holds_filled budget empty held left left' supply made fills =
    let few : fills.count ≤ most_of_block = fills.few in
    omega (arith, few, fills.takes.1, ap length fills.takes.3, length-append empty.bytes fills.takes.0, ap (λ (h : HeldState). length h.bytes) made)

pub wants_short : (bytes : List ℕ) (need : ℕ) → Wants bytes need → length bytes < 4 + MESSAGE_LIMIT
wants_short bytes need (inl short) = omega (arith, short.0)
wants_short bytes need (inr part) = omega (arith, part.2, part.3, ap length part.4, length-append (to_be_bytes w32 part.0) part.1)

pub holds_joined : (budget : ℕ) (held joined : HeldState) (left left' : Option (List ℕ)) (supply : Supply) → length held.bytes < 4 + MESSAGE_LIMIT → Fills budget held joined left left' supply → HoldsBlock joined
holds_joined budget held joined left left' supply short fills =
    let few : fills.count ≤ most_of_block = fills.few in
    omega (arith, short, few, fills.takes.1, ap length fills.takes.3, length-append held.bytes fills.takes.0)

-- the next block is held behind the reports of one
pub read_behind : (budget : ℕ) (held : HeldState) (now state : List AgentToServer) (input last left : Option (List ℕ)) (supply : Supply) → now ≡ state → IsReadTo Collects [] budget held state input last
    → HoldsBlock held → FilledBy budget held last left supply → IsReadOn budget held now input left supply
read_behind budget held now state input last left supply same so_far holds by = record {
  last = last;
  read = subst (λ (rs : List AgentToServer). IsReadTo Collects [] budget held rs input last) (sym same) so_far;
  few = holds;
  by = by;
}

-- where a block is held, what the source has left comes behind it
pub read_here : (budget : ℕ) (held : HeldState) (reports : List AgentToServer) (input left : Option (List ℕ)) (supply : Supply) → supply ≡ More → IsReadOn budget held reports input left supply
    → IsReadTo Collects [] budget held reports input left
read_here budget held reports input left More is so_far = subst (λ (l : Option (List ℕ)). IsReadTo Collects [] budget held reports input l) (sym so_far.by.0) so_far.read
read_here budget held reports input left End is so_far = cc
read_here budget held reports input left BudgetSpent is so_far = cc

-- where neither a block is held nor the input has ended, the budget is taken
pub budget_taken : (budget : ℕ) (held : HeldState) (last left : Option (List ℕ)) (supply : Supply) → (supply ≡ More) ⊎ (supply ≡ BudgetSpent) → supply ≢ More → FilledBy budget held last left supply
    → taken_of held ≡ budget
budget_taken budget held last left More is other by = absurd (other refl)
budget_taken budget held last left End is other by = elim is [
  | inl more ↦ cc
  | inr spent ↦ cc
]
budget_taken budget held last left BudgetSpent is other by = by

-- how many rounds there may be, at most: blocks that follow, and the last one
abbrev pub rounds_of : ℕ → HeldState → Supply → ℕ
rounds_of budget held More = suc (budget - taken_of held)
rounds_of budget held End = 0
rounds_of budget held BudgetSpent = 0

pub rounds_fall : (budget : ℕ) (old new : HeldState) (supply next : Supply) → supply ≡ More → TakesOn old new (Holds next) → taken_of new ≤ budget → rounds_of budget new next < rounds_of budget old supply
rounds_fall budget old new More More is on within = let more : taken_of old < taken_of new = on refl in omega (arith, more, within)
rounds_fall budget old new More End is on within = omega arith
rounds_fall budget old new More BudgetSpent is on within = omega arith
rounds_fall budget old new End next is on within = cc
rounds_fall budget old new BudgetSpent next is on within = cc

-- ---- what was read

-- a command that collects reports is left with those that it has read
left_is : (state now : List AgentToServer) → IsLeft Collects state now → now ≡ state
left_is state now (behind_messages same) = same
left_is state now (behind_fault message at why made) = made.1
left_is state now (behind_length message made) = absurd made

pub reports_read : (budget : ℕ) (input : Option (List ℕ)) (now : List AgentToServer) (stop : Stop) → TakesAll Collects [] now budget input stop → ReadsReports budget input now stop
reports_read budget input now stop taken = record { steps = taken.steps; each = taken.each; reads = taken.reads; all = left_is _ now taken.left }

-- the command is left with the reports behind the messages, and stopped so
pub taken_to : (budget : ℕ) (input : Option (List ℕ)) (now state : List AgentToServer) (stop stop' : Stop) → now ≡ state → stop' ≡ stop → TakesAll Collects [] state budget input stop
    → TakesAll Collects [] now budget input stop'
taken_to budget input now state stop stop' same is taken =
    subst (λ (s : Stop). TakesAll Collects [] now budget input s) (sym is) (subst (λ (rs : List AgentToServer). TakesAll Collects [] rs budget input stop) (sym same) taken)
