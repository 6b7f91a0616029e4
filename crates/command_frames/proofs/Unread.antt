-- Want of memory before anything is read.
use Rattle.std.proofs.Common.{ℕ, inl, inr, List, [], Option, None, Some, refl, take, arith}
use Rattle.std.specs.Prelude.{IfSome, Err}
use Rattle.std.proofs.KnownBytes.{Appends-nil, Consumes-nil}
use Rattle.command_streams.specs.declared.stop.OutputForm.{OutputForm}
use Rattle.command_streams.specs.declared.stop.OutputForm.TheVariants.{Frames, Lines}
use Rattle.command_streams.specs.declared.stop.RunFail.TheVariants.{NoMemory}
use Rattle.command_streams.specs.declared.stop.Stop.{Stop}
use Rattle.command_streams.specs.Made.{Gives}
use Rattle.command_streams.specs.Reading.{Step, Begins}
use Rattle.command_streams.specs.Output.{EndsBy, Framed}
use Rattle.command_streams.specs.Replies.{WritesBeforeLast}
use Rattle.command_frames.specs.declared.commands.StreamCommand.{StreamCommand}
use Rattle.command_frames.specs.declared.commands.StreamCommand.TheVariants.{Answer, CanonReport, CanonReply, Check, ShowReport, ShowReply}
use Rattle.command_frames.specs.declared.running.TheConstants.{BUDGET}
use Rattle.command_frames.specs.Answering.{Replies}
use Rattle.command_frames.specs.Commands.{StateOf, form_of, makes, opening, RunsStream, ReadsAs}
use Rattle.command_frames.specs.Families.{reports, replies}
use Rattle.command_frames.specs.Outcomes.{StreamEnds, StreamOutcome}
use Rattle.command_frames.specs.Rewriting.{Rewrites}
use Rattle.command_frames.specs.Showing.{Shows}
use Rattle.command_frames.specs.Checking.{Checks}

module _ {State : Type 0} (gives : Gives State) (start : State) (budget : ℕ) where
  begun : (input : Option (List ℕ)) → IfSome input (λ bytes. (rest : List ℕ) × Begins gives start budget bytes [] rest)
  begun None = tt
  begun (Some bytes) = (take budget bytes, record { parts = refl; each = tt })

  nothing_read : (form : OutputForm) (input old : Option (List ℕ)) → Framed form gives start budget input old old 5
  nothing_read form input old = (Err NoMemory, refl, ([], Appends-nil old, record { steps = []; each = tt; begins = begun input; whole = refl }))

  none_taken : (left old : Option (List ℕ)) → WritesBeforeLast gives start budget left left old old
  none_taken left old = record {
    takes = record {
      steps = [];
      cut = [];
      last = [];
      need = 4;
      each = tt;
      wants = inl (omega arith, refl);
      taken = Consumes-nil left;
      few = omega arith;
      within = omega arith;
    };
    more = [];
    written = Appends-nil old;
  }

stream_unread : (command : StreamCommand) (budget : ℕ) (input old : Option (List ℕ)) → RunsStream command budget input old old 5
stream_unread Answer budget input old = nothing_read Replies [] budget Frames input old
stream_unread CanonReport budget input old = nothing_read {State = Unit {0}} (Rewrites reports) tt budget Frames input old
stream_unread CanonReply budget input old = nothing_read {State = Unit {0}} (Rewrites replies) tt budget Frames input old
stream_unread ShowReport budget input old = nothing_read (Shows reports) 0 budget Lines input old
stream_unread ShowReply budget input old = nothing_read (Shows replies) 0 budget Lines input old
stream_unread Check budget input old = nothing_read Checks 0 budget Lines input old

ends_unread : (command : StreamCommand) (budget : ℕ) (input old : Option (List ℕ))
    → IfSome input (λ bytes. (steps : List (Step (StateOf command))) (stop : Stop) → ReadsAs command budget bytes steps stop → EndsBy (form_of command) steps stop old old 5)
ends_unread command budget None old = tt
ends_unread command budget (Some bytes) old = λ steps stop reads. inr (inr (inr refl))

pub none_read : (command : StreamCommand) (ends : StreamEnds) → StreamOutcome command ends ends 5
none_read command ends = record {
  output = stream_unread command BUDGET ends.source.left ends.sink.taken;
  exact = ends_unread command BUDGET ends.source.left ends.sink.taken;
  complete = λ valid no_read no_write. inr refl;
  before_read_fault = λ three. absurd (omega (arith, three));
  taken = none_taken (makes command) (opening command) BUDGET ends.source.left ends.sink.taken;
}
