-- While an answer is awaited the last report isn't known to be answered, and a report of an agent whose last one isn't is whole.
use Rattle.std.proofs.Common.{◌≡◌, ℕ, List, Bool, true, false, cond, Option, None, Some, refl, sym, ◌∙◌, ap, subst}
use Rattle.std.proofs.lemmas.Bool.{false≢true}
use Rattle.message_values.specs.declared.custom.CustomMessage.{CustomMessage}
use Rattle.message_values.specs.declared.reply.ServerToAgent.{ServerToAgent}
use Rattle.message_values.specs.declared.state.State.{State}
use Rattle.agent_rules.specs.declared.saved.Saved.{Saved}
use Rattle.agent_rules.specs.declared.rules.replies.Heard.{Heard}
use Rattle.agent_rules.specs.declared.rules.replies.Heard.TheVariants.{Commanded, Failed, Asked, Plain}
use Rattle.agent_rules.specs.Reports.{basis_for, fits_bytes, message_of}
use Rattle.agent_rules.specs.Half.{AgentHalf, due_details, entry_of, entry_with, state_now}
use Rattle.agent_rules.specs.Keeping.{Call, Change, Report, TakeReply, GiveUp, CommitTry, AbandonTry, ConfigDone, PackagesDone, Say, BeginTry, heard_in, kept_by, keeping}
use Rattle.agent_rules.specs.Calls.{told_by, call_after}
use Rattle.agent_rules.specs.Kinds.{IsUnanswered}

told_idle : (h : Heard) (reply : ServerToAgent) (a : AgentHalf) → (told_by h reply a).awaits ≡ false
told_idle Commanded reply a = refl
told_idle Failed reply a = refl
told_idle Asked reply a = refl
told_idle Plain reply a = refl

idle_unanswered : (a : AgentHalf) → a.awaits ≡ false → IsUnanswered a
idle_unanswered a idle awaits = absurd (false≢true (sym idle ∙ awaits))

pub unanswered_stays : (a : AgentHalf) (c : Call) → IsUnanswered a → IsUnanswered (call_after a c)
unanswered_stays a (Change now) u = u
unanswered_stays a Report u = λ awaits. refl
unanswered_stays a (TakeReply reply) u = idle_unanswered (told_by (heard_in reply) reply a) (told_idle (heard_in reply) reply a)
unanswered_stays a GiveUp u = λ awaits. absurd (false≢true awaits)
unanswered_stays a CommitTry u = u
unanswered_stays a AbandonTry u = λ awaits. refl
unanswered_stays a (ConfigDone None status) u = u
unanswered_stays a (ConfigDone (Some applied) status) u = u
unanswered_stays a (PackagesDone statuses) u = u
unanswered_stays a (Say message) u = u
unanswered_stays a (BeginTry next) u = λ awaits. refl

keeping_linked : (o : Option Saved) (a : AgentHalf) → (keeping o a).linked ≡ a.linked
keeping_linked None a = refl
keeping_linked (Some s) a = refl

no_basis : (last : Option State) (now : State) (detailed : Bool) → basis_for false last now detailed ≡ None
no_basis None now detailed = refl
no_basis (Some last) now detailed = refl

with_no_basis : (a : AgentHalf) (message : Option CustomMessage) → a.linked ≡ false → (entry_with a message).basis ≡ None
with_no_basis a message unlinked =
    subst (λ linked. basis_for linked a.last (state_now a) (due_details a) ≡ None) (sym unlinked) (no_basis a.last (state_now a) (due_details a))

whole_next : (a : AgentHalf) → a.linked ≡ false → (entry_of a).basis ≡ None
whole_next a unlinked = by_room (fits_bytes (message_of (entry_with a a.message)))
  where
    by_room : (t : Bool) → (cond t (entry_with a a.message) (entry_with a None)).basis ≡ None
    by_room true = with_no_basis a a.message unlinked
    by_room false = with_no_basis a None unlinked

pub failed_unanswered : (a : AgentHalf) (reply : ServerToAgent) → IsUnanswered a → a.awaits ≡ true → heard_in reply ≡ Failed
    → (entry_of (call_after a (TakeReply reply))).basis ≡ None
failed_unanswered a reply u awaits is =
    whole_next (call_after a (TakeReply reply)) (subst (λ h. (told_by h reply a).linked ≡ false) (sym is) (u awaits))

pub asked_unanswered : (a : AgentHalf) (reply : ServerToAgent) → IsUnanswered a → a.awaits ≡ true → heard_in reply ≡ Asked
    → (entry_of (call_after a (TakeReply reply))).basis ≡ None
asked_unanswered a reply u awaits is =
    whole_next (call_after a (TakeReply reply))
    (subst (λ h. (told_by h reply a).linked ≡ false) (sym is) (keeping_linked (kept_by a (TakeReply reply)) a ∙ u awaits))
