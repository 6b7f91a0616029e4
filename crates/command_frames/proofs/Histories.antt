-- The server's table is that of the history of reports, and so its replies are the due ones.
use Rattle.std.proofs.Common.{◌≡◌, ℕ, List, [], ◌∷◌, ◌++◌, refl, ap, subst, ◌∙◌, Option, None}
use Rattle.message_values.specs.declared.report.AgentToServer.{AgentToServer}
use Rattle.message_replies.specs.Canonical.{canonical_reply}
use Rattle.server_core.specs.declared.replies.Profile.{Profile}
use Rattle.server_core.specs.History.{Event, Reported, due_reply}
use Rattle.server_core.specs.Table.{Table, table_of, table_after, table_after_report, table_reply}
use Rattle.server_core.specs.Served.{Served}
use Rattle.command_streams.specs.Framing.{frame_of}
use Rattle.command_streams.specs.Made.{Writes, HasFault, IsTooLong, Gives}
use Rattle.command_streams.specs.Telling.{Carries}
use Rattle.command_frames.specs.Answering.{answering, Replies}
use Rattle.command_frames.specs.Families.{Family}
use Rattle.command_frames.specs.Rewriting.{Rewrites}
use Rattle.command_frames.specs.Showing.{Numbers}
use Rattle.command_frames.specs.Serving.{ServerReplies, IsReachedBy}

-- The laws of the server's crate: the table follows the history, and the replies follow the table.
pub record TableFollows : Type 0 where
  pub follows : (history : List Event) (e : Event) → table_after (table_of history) e ≡ table_of (history ++ e ∷ [])
  pub replies : (server : Profile) (history : List Event) (m : AgentToServer) (fresh : Option (List ℕ)) → table_reply server (table_of history) m fresh ≡ due_reply server history m fresh

pub histories_carried : TableFollows → Carries IsReachedBy ServerReplies Replies
histories_carried law server history message (Writes output) after holds given =
    let report : AgentToServer = given.0 in
    let reply = ap (λ (p : Profile). table_reply p server.table report None) holds.0 ∙ ap (λ (t : Table). table_reply answering t report None) holds.1 ∙ law.replies answering history report None in
    let table = ap (λ (s : Served). s.table) given.3 ∙ ap (λ (t : Table). table_after_report t report) holds.1 ∙ law.follows history (Reported report) in (
      history ++ Reported report ∷ [],
      (report, given.1, given.2 ∙ ap (λ r. frame_of (canonical_reply r)) reply, refl),
      (ap (λ (s : Served). s.profile) given.3 ∙ holds.0, table),
    )
histories_carried law server history message (HasFault at why) after holds given = (history, (given.0, refl), (ap (λ (s : Served). s.profile) given.1 ∙ holds.0, ap (λ (s : Served). s.table) given.1 ∙ holds.1))
histories_carried law server history message IsTooLong after holds given = absurd given

-- ---- commands that keep nothing, or a number alone

pub rewrites_carried : {Message State : Type 0} (family : Family Message) → Carries {Kept = State} {State = Unit {0}} (λ state nothing. Unit {0}) (Rewrites family) (Rewrites family)
rewrites_carried family a u message (Writes output) after holds given = (tt, (given.0, given.1, given.2, given.3, refl), tt)
rewrites_carried family a u message (HasFault at why) after holds given = (tt, (given.0, refl), tt)
rewrites_carried family a u message IsTooLong after holds given = (tt, (given.0, given.1, given.2, refl), tt)

-- the state counts so many
abbrev pub Counts : {State : Type 0} → (State → ℕ) → State → ℕ → Type 0
Counts number state n = number state ≡ n

abbrev pub NumbersBy : {Message State : Type 0} → Family Message → (ℕ → Message → List ℕ) → (State → ℕ) → Gives State
NumbersBy family text number before bytes made after = Numbers family text (number before) bytes made (number after)

pub numbers_carried : {Message State : Type 0} (family : Family Message) (text : ℕ → Message → List ℕ) (number : State → ℕ) → Carries (Counts number) (NumbersBy family text number) (Numbers family text)
numbers_carried family text number a n bytes made after holds given = (number after, subst (λ (k : ℕ). Numbers family text k bytes made (number after)) holds given, refl)
