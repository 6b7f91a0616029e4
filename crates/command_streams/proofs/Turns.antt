-- The last call of the source, and what was written before it.
use Rattle.std.proofs.Common.{◌≡◌, ℕ, ◌+◌, ◌<◌, ◌≤◌, List, [], ◌++◌, length, take, Option, refl, sym, subst, append_assoc, append-nil, arith, inl}
use Rattle.std.specs.Prelude.{Result, Ok, Err}
use Rattle.std.specs.Io.KnownBytes.{Appends, Consumes, Keeps}
use Rattle.std.proofs.KnownBytes.{Appends-nil, Appends-trans}
use Rattle.std.proofs.lemmas.List.{length-append}
use Rattle.command_streams.specs.declared.held.TheConstants.{BLOCK}
use Rattle.command_streams.specs.declared.answering.Halt.{Halt}
use Rattle.command_streams.specs.declared.stop.OutputForm.{OutputForm}
use Rattle.command_streams.specs.declared.stop.RunFail.{RunFail}
use Rattle.command_streams.specs.declared.stop.RunFail.TheVariants.{ReadFault, WriteFault, NoMemory}
use Rattle.command_streams.specs.Framing.{frames_of}
use Rattle.command_streams.specs.Fronts.{Wants}
use Rattle.command_streams.specs.Made.{Gives}
use Rattle.command_streams.specs.Reading.{messages_of, outputs_of}
use Rattle.command_streams.specs.Held.{HeldState}
use Rattle.command_streams.specs.Supplies.{HoldsFew, TakesMore}
use Rattle.command_streams.specs.Blocks.{OutputsPut}
use Rattle.command_streams.specs.Output.{OutputOf}
use Rattle.command_streams.specs.Replies.{IsCut, IsCutShort, WritesBeforeLast}
use Rattle.command_streams.proofs.Needs.{Wants-less}
use Rattle.command_streams.proofs.Steps.{IsAt, ahead_taken, Appends-keeps}

-- The bytes were less than a frame, and then a call of the source brought what it was asked for at most.
pub record IsAsked (held : List ℕ) : Type 0 where
  pub cut : List ℕ
  pub last : List ℕ
  pub need : ℕ
  pub all : held ≡ cut ++ last
  pub wants : Wants cut need
  pub few : length held ≤ need + BLOCK

pub IsAsked-none : IsAsked []
IsAsked-none = record { cut = []; last = []; need = 4; all = refl; wants = inl (omega arith, refl); few = omega arith }

pub IsAsked-cut : (bytes : List ℕ) (need : ℕ) → Wants bytes need → IsAsked bytes
IsAsked-cut bytes need wants =
    let less : length bytes < need = Wants-less bytes need wants in
    record { cut = bytes; last = []; need = need; all = sym (append-nil bytes); wants = wants; few = omega (arith, less) }

pub IsAsked-more : (old new : HeldState) (left left' : Option (List ℕ)) (need n : ℕ) → Wants old.bytes need → TakesMore old new left left' n → HoldsFew need new → IsAsked new.bytes
IsAsked-more old new left left' need n wants takes few = record { cut = old.bytes; last = takes.0; need = need; all = takes.3; wants = wants; few = few }

-- Some bytes were written behind the others.
abbrev pub Adds : Option (List ℕ) → Option (List ℕ) → Type 0
Adds old new = (more : List ℕ) × Appends old new more

pub Adds-none : (known : Option (List ℕ)) → Adds known known
Adds-none known = ([], Appends-nil known)

pub Adds-put : (old new : Option (List ℕ)) (outputs : List ℕ) (r : Result Halt RunFail) → OutputsPut old new outputs r → Adds old new
Adds-put old new outputs (Ok halt) put = (outputs, put)
Adds-put old new outputs (Err ReadFault) put = absurd put
Adds-put old new outputs (Err WriteFault) put = (take put.0 outputs, put.1)
Adds-put old new outputs (Err NoMemory) put = (outputs, put)

pub Adds-short : (old new : Option (List ℕ)) (words : List ℕ) (fail : RunFail) → IsCutShort old new words fail → Adds old new
Adds-short old new words ReadFault cut = absurd cut
Adds-short old new words WriteFault cut = (take cut.0 words, cut.1)
Adds-short old new words NoMemory cut = ([], Appends-keeps old old new [] (Appends-nil old) cut)

-- what was written by a run that was cut
pub cut_answers : {State : Type 0} (form : OutputForm) (gives : Gives State) (start : State) (budget : ℕ) (input old new : Option (List ℕ)) (fail : RunFail) → IsCut gives start budget input old new fail
    → (out : List ℕ) × Appends old new out × OutputOf form gives start budget input out (Err fail)
cut_answers form gives start budget input old new ReadFault cut = cut
cut_answers form gives start budget input old new WriteFault cut = (cut.0, cut.2, (cut.1, cut.3, inl cut.4))
cut_answers form gives start budget input old new NoMemory cut = cut

module _ {State : Type 0} (gives : Gives State) (start : State) where
  -- the source gave no more, and some bytes were written
  pub in_turn : (budget : ℕ) (held : HeldState) (state : State) (input left left' old mid new : Option (List ℕ))
      → IsAt gives start budget held state input left old mid → IsAsked held.bytes → Keeps left left' → Adds mid new → WritesBeforeLast gives start budget input left' old new
  in_turn budget held state input left left' old mid new so_far asked kept added = record {
    takes = record {
      steps = so_far.steps;
      cut = asked.cut;
      last = asked.last;
      need = asked.need;
      each = so_far.taken.each;
      wants = asked.wants;
      taken = subst (λ (b : List ℕ). Consumes input left' (frames_of (messages_of so_far.steps) ++ b)) asked.all (ahead_taken input left left' held.bytes (frames_of (messages_of so_far.steps)) so_far.taken.taken kept);
      few = subst (λ (b : List ℕ). length b ≤ asked.need + BLOCK) asked.all asked.few;
      within = subst (λ (b : List ℕ). length (frames_of (messages_of so_far.steps) ++ b) ≤ budget) asked.all
          (omega (arith, so_far.taken.place, so_far.within, length-append (frames_of (messages_of so_far.steps)) held.bytes));
    };
    more = added.0;
    written = Appends-trans old mid new (outputs_of so_far.steps) added.0 so_far.written added.1;
  }

  -- more was written
  pub in_turn-more : (budget : ℕ) (left left' old mid new : Option (List ℕ)) → WritesBeforeLast gives start budget left left' old mid → Adds mid new → WritesBeforeLast gives start budget left left' old new
  in_turn-more budget left left' old mid new before added =
      let outputs : List ℕ = outputs_of before.takes.steps in
      record {
        takes = before.takes;
        more = before.more ++ added.0;
        written = subst (Appends old new) (append_assoc outputs before.more added.0) (Appends-trans old mid new (outputs ++ before.more) added.0 before.written added.1);
      }
