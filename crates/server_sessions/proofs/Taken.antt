-- A report that is noted as taken is one that was accepted.
use Rattle.std.proofs.Common.{◌≡◌, ℕ, List, Bool, true, false, not, cond, ◌&&◌, Option, None, Some, refl, sym, ap, ◌∙◌, subst}
use Rattle.std.specs.Prelude.{IsNone, IsTrue, ◌↔◌}
use Rattle.std.proofs.lemmas.Bool.{false≢true}
use Rattle.message_values.specs.declared.custom.CustomMessage.{CustomMessage}
use Rattle.message_values.specs.declared.profile.TheConstants.{REPORT_FULL_STATE}
use Rattle.message_values.specs.declared.reply.ServerErrorResponse.{ServerErrorResponse}
use Rattle.message_values.specs.declared.reply.ServerToAgent.{ServerToAgent}
use Rattle.message_values.specs.declared.report.AgentToServer.{AgentToServer}
use Rattle.message_deltas.specs.Obligations.{has_bit}
use Rattle.server_core.specs.declared.replies.Profile.{Profile}
use Rattle.server_core.specs.History.{Event, IsAccepted, reply_within}
use Rattle.server_core.specs.Lengths.{fits_reply}
use Rattle.server_sessions.specs.Reports.{can_carry, carrying, noted_report, with_message}
use Rattle.server_sessions.proofs.Unheard.{carries}

-- a handler's answer changes no flag
carries_flags : (reply : ServerToAgent) (answer : Option CustomMessage) → (carrying reply answer).flags ≡ reply.flags
carries_flags reply None = refl
carries_flags reply (Some answer) = by_test (can_carry reply && fits_reply (with_message reply answer))
  where
    by_test : (b : Bool) → (cond b (with_message reply answer) reply).flags ≡ reply.flags
    by_test true = refl
    by_test false = refl

-- what isn't asked for is accepted
taken_if : (asks accepted : Bool) → (IsTrue asks ↔ (IsTrue accepted → ⊥)) → (not asks ≡ true ↔ IsTrue accepted)
taken_if true true law = absurd (law.0 refl refl)
taken_if true false law = (λ h. absurd (false≢true h), λ h. absurd (false≢true h))
taken_if false true law = (λ h. refl, λ h. refl)
taken_if false false law = absurd (false≢true (law.1 (λ h. false≢true h)))

pub taken_accepted : (asked : (limit : ℕ) (server : Profile) (history : List Event) (m : AgentToServer) (fresh : Option (List ℕ)) → IsNone (reply_within limit server history m fresh).error_response
    → (IsTrue (has_bit (reply_within limit server history m fresh).flags REPORT_FULL_STATE) ↔ (IsAccepted limit history m → ⊥)))
    → (limit : ℕ) (profile : Profile) (history : List Event) (m : AgentToServer) (fresh : Option (List ℕ)) (answer : Option CustomMessage) (reply : ServerToAgent) (conn : ℕ) (ws : Bool) (uid : List ℕ)
    → reply ≡ carrying (reply_within limit profile history m fresh) answer → IsNone reply.error_response
    → ((noted_report conn ws uid reply).taken ≡ true ↔ IsAccepted limit history m)
taken_accepted asked limit profile history m fresh answer reply conn ws uid is none =
    let due = reply_within limit profile history m fresh in
    let error : reply.error_response ≡ due.error_response = ap (λ (r : ServerToAgent). r.error_response) is ∙ carries due answer in
    let flags : reply.flags ≡ due.flags = ap (λ (r : ServerToAgent). r.flags) is ∙ carries_flags due answer in
    let law = asked limit profile history m fresh (subst (λ (e : Option ServerErrorResponse). IsNone e) error none) in
    subst (λ (f : ℕ). (not (has_bit f REPORT_FULL_STATE) ≡ true ↔ IsAccepted limit history m)) (sym flags) (taken_if _ _ law)
