-- Reports whose reply tells capabilities alone: whose reply it is, and what such a report gets.
use Rattle.std.proofs.Common.{◌≡◌, ℕ, List, [], ◌∷◌, ◌++◌, refl, ap, sym, ◌∙◌, inr}
use Rattle.std.specs.Prelude.{Bool, true, false, not, if◌then◌else◌, Option, None, Some, is_some, IfSome, Result, Ok, Err, IfOk, OnOk, OnErr}
use Rattle.edge_devices.specs.Clocks.{EntropyState}
use Rattle.message_values.specs.declared.reply.ServerErrorResponse.{ServerErrorResponse}
use Rattle.message_values.specs.declared.reply.ServerToAgent.{ServerToAgent}
use Rattle.message_values.specs.declared.report.AgentToServer.{AgentToServer}
use Rattle.message_replies.specs.Canonical.{canonical_reply}
use Rattle.server_core.specs.declared.replies.Profile.{Profile}
use Rattle.server_core.specs.Lengths.{fits_reply}
use Rattle.server_core.specs.Replies.{Dues, Verdict, Unidentified, CrowdedOut, Passed, Taken, accepting_reply, bad_identifier, bare_reply, error_alone, error_reply, plain_reply, reply_to, too_many_agents}
use Rattle.server_core.specs.Table.{Table, is_accepted_at, is_crowded_at, dues_at, table_after, table_reply}
use Rattle.server_core.specs.History.{Reported, is_uid}
use Rattle.server_core.specs.Served.{Served}
use Rattle.server_sessions.specs.declared.answers.answering.Envelope.{Envelope}
use Rattle.server_sessions.specs.declared.answers.stepped.Handled.{Handled}
use Rattle.server_sessions.specs.Plain.{IsRepliedPlainly}
use Rattle.server_sessions.specs.Reports.{AnswersReport, Draws, HalfTakes, Host, IsAnswer, asks_uid, enclosed, intake_of, is_message, note_handled, reply_at, table_with, uid_in}

-- ---- whose reply it is

error_there : (b : Bool) (uid : List ℕ) (error : ServerErrorResponse) → is_some (if b then error_alone uid error else error_alone [] error).error_response ≡ true
error_there true uid error = refl
error_there false uid error = refl

no_error : (profile : Profile) (m : AgentToServer) (uid : List ℕ) (error : ServerErrorResponse) → error_reply m error ≡ plain_reply profile uid → ⊥
no_error profile m uid error is =
    let there : is_some (error_reply m error).error_response ≡ true = error_there (fits_reply (error_alone m.instance_uid error)) m.instance_uid error in
    let clash : true ≡ false = sym there ∙ ap (λ (r : ServerToAgent). is_some r.error_response) is in
    cc

accepted_uid : (profile : Profile) (m : AgentToServer) (fresh : Option (List ℕ)) (due : Dues) → (accepting_reply profile m fresh due).instance_uid ≡ m.instance_uid
accepted_uid profile m fresh due = either due.restart
  where
    either : (b : Bool) → (accepting_reply profile m fresh (record due { restart = b })).instance_uid ≡ m.instance_uid
    either true = refl
    either false = refl

own_uid : (profile : Profile) (m : AgentToServer) (fresh : Option (List ℕ)) (uid : List ℕ) (v : Verdict) → reply_to profile m fresh v ≡ plain_reply profile uid → m.instance_uid ≡ uid
own_uid profile m fresh uid Unidentified is = absurd (no_error profile m uid bad_identifier is)
own_uid profile m fresh uid CrowdedOut is = absurd (no_error profile m uid too_many_agents is)
own_uid profile m fresh uid Passed is = ap (λ (r : ServerToAgent). r.instance_uid) is
own_uid profile m fresh uid (Taken due) is = sym (accepted_uid profile m fresh due) ∙ ap (λ (r : ServerToAgent). r.instance_uid) is

named_so : (profile : Profile) (m : AgentToServer) (fresh : Option (List ℕ)) (uid : List ℕ) (named : Bool) (v : Verdict)
    → reply_to profile m fresh (if not named then Unidentified else v) ≡ plain_reply profile uid → (if named then Some m.instance_uid else None) ≡ Some uid
named_so profile m fresh uid true v is = ap Some (own_uid profile m fresh uid v is)
named_so profile m fresh uid false v is = absurd (no_error profile m uid bad_identifier is)

-- the plain reply to a report is one to its own agent
pub named_plainly : (profile : Profile) (table : Table) (m : AgentToServer) (fresh : Option (List ℕ)) (uid : List ℕ) → table_reply profile table m fresh ≡ plain_reply profile uid → uid_in m.instance_uid ≡ Some uid
named_plainly profile table m fresh uid is =
    named_so profile m fresh uid (is_uid m.instance_uid)
    (if is_crowded_at table m.instance_uid then CrowdedOut else if is_accepted_at table m then Taken (dues_at table m) else Passed) is

-- what the server gives is what the report gets
pub replied_plainly : (old new : Served) (m : AgentToServer) (r : Option (List ℕ)) → asks_uid m ≡ false → m.custom_message ≡ None
    → IfSome r (λ uid. (fresh : Option (List ℕ)) → table_reply old.profile old.table m fresh ≡ plain_reply old.profile uid)
    → IfSome r (λ uid. new ≡ record old { table = table_after old.table (Reported m) })
    → IfSome r (IsRepliedPlainly old.profile m old.table new.table)
unfolding reply_at table_with
replied_plainly old new m None unasked silent reply table = tt
replied_plainly old new m (Some uid) unasked silent reply table = record {
  unasked = unasked;
  silent = silent;
  named = named_plainly old.profile old.table m None uid (reply None);
  table = ap (λ (s : Served). s.table) table;
  reply = reply;
}

pub same_profile : (old new : Served) (table : Table) (r : Option (List ℕ)) → IfSome r (λ uid. new ≡ record old { table = table }) → (r ≡ None → new ≡ old) → new.profile ≡ old.profile
same_profile old new table None some none = ap (λ (s : Served). s.profile) (none refl)
same_profile old new table (Some uid) some none = ap (λ (s : Served). s.profile) some

-- ---- what the report gets

module _ (host : Host) (m : AgentToServer) (entropy : EntropyState) (old new : Table) (uid : List ℕ) (plain : IsRepliedPlainly host.profile m old new uid) where
  undrawn : Draws m entropy entropy None
  undrawn = rw plain.unasked (refl, refl)

  unanswered : IsAnswer host.answers m.custom_message None
  unanswered = rw plain.silent refl

  pub answered_plainly : (envelope : Envelope) (conn : ℕ) (handled noted : List Handled) (answer : List ℕ)
      → noted ≡ handled ++ record { conn = conn; ws = is_message envelope; uid = uid; taken = true } ∷ [] → answer ≡ enclosed envelope (canonical_reply (plain_reply host.profile uid))
      → AnswersReport envelope host conn m (intake_of entropy old) (intake_of entropy new) handled noted answer
  answered_plainly envelope conn handled noted answer is_noted is_enclosed = (
    plain_reply host.profile uid,
    record { fresh = None; answer = None; draws = undrawn; asked = unanswered; table = plain.table; carried = sym (plain.reply None) },
    is_noted ∙ sym (ap (λ (u : Option (List ℕ)). note_handled conn (is_message envelope) u (plain_reply host.profile uid) handled) plain.named),
    is_enclosed,
  )

  -- the same of what gives the answer
  pub answered_by : {E : Type 0} (envelope : Envelope) (conn capabilities : ℕ) (handled noted : List Handled) (r : Result (List ℕ) E) → capabilities ≡ host.profile.capabilities
      → IfOk r (λ answer. answer ≡ enclosed envelope (canonical_reply (bare_reply uid capabilities)))
      → OnOk r (noted ≡ handled ++ record { conn = conn; ws = is_message envelope; uid = uid; taken = true } ∷ [])
      → IfOk r (AnswersReport envelope host conn m (intake_of entropy old) (intake_of entropy new) handled noted)
  answered_by envelope conn capabilities handled noted (Ok answer) own is is_noted =
      answered_plainly envelope conn handled noted answer is_noted (is ∙ ap (λ (n : ℕ). enclosed envelope (canonical_reply (bare_reply uid n))) own)
  answered_by envelope conn capabilities handled noted (Err e) own is is_noted = tt

  -- memory was wanting behind it
  pub half_plainly : HalfTakes m (intake_of entropy old) (intake_of entropy new)
  half_plainly = record { fresh = None; draws = undrawn; table = inr plain.table }

  pub half_by : {T E : Type 0} (r : Result T E) → OnErr r (HalfTakes m (intake_of entropy old) (intake_of entropy new))
  half_by (Ok x) = tt
  half_by (Err e) = half_plainly
