-- What is made of a message that isn't read, is written again or is passed on.
use Rattle.std.proofs.Common.{◌≡◌, ℕ, ◌≤◌, List, ◌++◌, length, refl, sym, ap, subst, arith}
use Rattle.std.specs.Prelude.{Result, Ok, Err, IfOk}
use Rattle.plain_values.specs.declared.memory.NoMemory.{NoMemory}
use Rattle.message_codec.specs.declared.wire.field.Why.{Why}
use Rattle.message_codec.specs.declared.reader.items.ReadFail.{ReadFail}
use Rattle.message_codec.specs.declared.reader.items.ReadFail.TheVariants as fails
use Rattle.message_codec.specs.Read.{FailsWith, Refuses}
use Rattle.message_reports.specs.Reports.{ReportFault}
use Rattle.server_core.specs.Served.{Served}
use Rattle.command_streams.specs.declared.handler.Handled.{Handled}
use Rattle.command_streams.specs.declared.handler.Handled.TheVariants as handled
use Rattle.command_streams.specs.declared.TheConstants.{MESSAGE_LIMIT}
use Rattle.command_streams.specs.Framing.{frame_of}
use Rattle.command_streams.specs.Made.{Gives, HasFault, HandledAs, FaultsWithin}
use Rattle.command_frames.specs.Families.{Family}
use Rattle.command_frames.specs.Rewriting.{IsOwnForm, Rewrites}
use Rattle.command_frames.specs.Serving.{IsRefusal, IsRewritten, ServerReplies}

-- what is said of a reading that failed is said of its failure
pub refused_of : {T : Type 0} (fault : ℕ → Why → Type 0) (r : Result T ReadFail) (fail : ReadFail) → r ≡ Err fail → FailsWith r fault → Refuses fail fault
refused_of fault r fail is refused = subst (λ x. FailsWith x fault) is refused

-- What a command gives of a fault is given of its refusal, for which nothing is written.
pub refusal_gives : {State : Type 0} (gives : Gives State) (state : State) (bytes output : List ℕ) (fault : ℕ → Why → Type 0) → ((at : ℕ) (why : Why) → fault at why → gives state bytes (HasFault at why) state)
    → (fail : ReadFail) (r : Result Handled NoMemory) → Refuses fail fault → IfOk r (IsRefusal fail) → IfOk r (HandledAs gives state bytes state output output)
refusal_gives gives state bytes output fault gave fail (Err none) refused is = tt
refusal_gives gives state bytes output fault gave (fails.Refused e) (Ok handled) refused is = subst (HandledAs gives state bytes state output output) (sym is) (refl, gave e.at e.why refused)
refusal_gives gives state bytes output fault gave fails.NoMemory (Ok handled) refused is = absurd is

pub server_refuses : (server : Served) (bytes output : List ℕ) (fail : ReadFail) (r : Result Handled NoMemory) → Refuses fail (ReportFault bytes) → IfOk r (IsRefusal fail) → IfOk r (HandledAs ServerReplies server bytes server output output)
server_refuses server bytes output = refusal_gives ServerReplies server bytes output (ReportFault bytes) (λ at why fault. (fault, refl))

pub refusal_within : (bytes : List ℕ) (fail : ReadFail) (r : Result Handled NoMemory) → Refuses fail (λ at why. at ≤ length bytes) → IfOk r (IsRefusal fail) → IfOk r (FaultsWithin (length bytes))
refusal_within bytes fail (Err none) refused is = tt
refusal_within bytes (fails.Refused e) (Ok handled) refused is = subst (FaultsWithin (length bytes)) (sym is) refused
refusal_within bytes fails.NoMemory (Ok handled) refused is = absurd is

pub rewritten_gives : {Message State : Type 0} (family : Family Message) (state : State) (bytes old new : List ℕ) (message : Message) (r : Result Handled NoMemory) → family.means bytes message → IfOk r (IsRewritten family message old new)
    → IfOk r (HandledAs (Rewrites family) state bytes state old new)
rewritten_gives family state bytes old new message (Err none) means is = tt
rewritten_gives family state bytes old new message (Ok handled.Written) means is = (frame_of (family.canonical message), is.1, (message, means, is.0, refl, refl))
rewritten_gives family state bytes old new message (Ok (handled.Refused at why)) means is = absurd is
rewritten_gives family state bytes old new message (Ok handled.TooLong) means is = (is.1, (message, means, is.0, refl))

pub rewritten_within : {Message : Type 0} (family : Family Message) (bytes old new : List ℕ) (message : Message) (r : Result Handled NoMemory) → IfOk r (IsRewritten family message old new) → IfOk r (FaultsWithin (length bytes))
rewritten_within family bytes old new message (Err none) is = tt
rewritten_within family bytes old new message (Ok handled.Written) is = tt
rewritten_within family bytes old new message (Ok (handled.Refused at why)) is = absurd is
rewritten_within family bytes old new message (Ok handled.TooLong) is = tt

-- ---- bytes that are passed on

pub own_form_fits : {Message : Type 0} (family : Family Message) (bytes : List ℕ) → IsOwnForm family bytes → length bytes ≤ MESSAGE_LIMIT
own_form_fits family bytes own = omega (arith, ap length own.3, own.2.0)

pub passed_gives : {Message State : Type 0} (family : Family Message) (state : State) (bytes old new : List ℕ) → IsOwnForm family bytes → new ≡ old ++ frame_of bytes → HandledAs (Rewrites family) state bytes state old new handled.Written
passed_gives family state bytes old new own added = (frame_of bytes, added, (own.0, own.1, own.2, ap frame_of own.3, refl))
