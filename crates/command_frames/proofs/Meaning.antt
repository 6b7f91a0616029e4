-- Of a message one thing is made, and something is.
use Rattle.std.proofs.Common.{◌≡◌, ℕ, List, ◌+◌, [], ◌∷◌, length, ◌++◌, refl, sym, ap, subst, ◌∙◌, arith, inl, inr}
use Rattle.std.proofs.lemmas.Bool.{cases_lt}
use Rattle.message_values.specs.declared.report.AgentToServer.{AgentToServer}
use Rattle.server_core.specs.History.{Reported}
use Rattle.command_streams.specs.Framing.{frame_of}
use Rattle.command_streams.specs.Made.{Writes, HasFault, IsTooLong, IsSingleValued}
use Rattle.message_codec.specs.Levels.{most_bytes}
use Rattle.command_streams.specs.Telling.{IsTotal}
use Rattle.command_frames.specs.Answering.{Replies, framed_reply}
use Rattle.command_frames.specs.Families.{Family, reports}
use Rattle.command_frames.specs.Rewriting.{Rewrites, IsWritable, IsUnwritable}
use Rattle.command_frames.specs.Showing.{Numbers}
use Rattle.command_frames.proofs.Decided.{IsDecided, MeansOrFails, same_fault}

pub replies_once : IsDecided reports → IsSingleValued Replies
replies_once decided history message (Writes a) (Writes b) after_a after_b p q =
    let same : p.0 ≡ q.0 = decided.one message p.0 q.0 p.1 q.1 in (
      ap Writes (p.2 ∙ ap (λ (m : AgentToServer). framed_reply history m) same ∙ sym q.2),
      p.3 ∙ ap (λ (m : AgentToServer). history ++ Reported m ∷ []) same ∙ sym q.3,
    )
replies_once decided history message (Writes a) (HasFault at why) after_a after_b p q = absurd (decided.never_both message p.0 at why p.1 q.0)
replies_once decided history message (Writes a) IsTooLong after_a after_b p q = absurd q
replies_once decided history message (HasFault at why) (Writes b) after_a after_b p q = absurd (decided.never_both message q.0 at why q.1 p.0)
replies_once decided history message (HasFault i v) (HasFault j w) after_a after_b p q = (same_fault reports decided message i j v w p.0 q.0, p.1 ∙ sym q.1)
replies_once decided history message (HasFault at why) IsTooLong after_a after_b p q = absurd q
replies_once decided history message IsTooLong b after_a after_b p q = absurd p

pub replies_total : MeansOrFails reports → IsTotal Replies
replies_total either history message are fits = elim (either message are) [
  | inl read ↦ (Writes (framed_reply history read.0), history ++ Reported read.0 ∷ [], (read.0, read.1, refl, refl))
  | inr bad ↦ (HasFault bad.0 bad.1, history, (bad.2, refl))
]

pub rewrites_total : {Message State : Type 0} (family : Family Message) → MeansOrFails family → IsTotal (Rewrites {State = State} family)
rewrites_total family either state message are fits = elim (either message are) [
  | inl read ↦ elim (cases_lt most_bytes (length (family.canonical read.0))) [
    | inl large ↦ (IsTooLong, state, (read.0, read.1, inl large, refl))
    | inr short ↦ elim (cases_lt 100 (family.depth read.0)) [
      | inl deep ↦ (IsTooLong, state, (read.0, read.1, inr deep, refl))
      | inr shallow ↦ (Writes (frame_of (family.canonical read.0)), state, (read.0, read.1, (short, shallow), refl, refl))
    ]
  ]
  | inr bad ↦ (HasFault bad.0 bad.1, state, (bad.2, refl))
]

pub numbers_total : {Message : Type 0} (family : Family Message) (text : ℕ → Message → List ℕ) → MeansOrFails family → IsTotal (Numbers family text)
numbers_total family text either shown message are fits = elim (either message are) [
  | inl read ↦ (Writes (text (shown + 1) read.0), shown + 1, (read.0, read.1, refl, refl))
  | inr bad ↦ (HasFault bad.0 bad.1, shown, (bad.2, refl))
]

module _ {Message : Type 0} (family : Family Message) (decided : IsDecided family) where
  not_both : (message : Message) → IsWritable family message → IsUnwritable family message → ⊥
  not_both message fits (inl large) = omega (arith, fits.0, large)
  not_both message fits (inr deep) = omega (arith, fits.1, deep)

  pub rewrites_once : {State : Type 0} → IsSingleValued (Rewrites {State = State} family)
  rewrites_once state bytes (Writes a) (Writes b) after_a after_b p q =
      let same : p.0 ≡ q.0 = decided.one bytes p.0 q.0 p.1 q.1 in
      (ap Writes (p.3 ∙ ap (λ (m : Message). frame_of (family.canonical m)) same ∙ sym q.3), p.4 ∙ sym q.4)
  rewrites_once state bytes (Writes a) (HasFault at why) after_a after_b p q = absurd (decided.never_both bytes p.0 at why p.1 q.0)
  rewrites_once state bytes (Writes a) IsTooLong after_a after_b p q =
      let same : p.0 ≡ q.0 = decided.one bytes p.0 q.0 p.1 q.1 in
      absurd (not_both q.0 (subst (IsWritable family) same p.2) q.2)
  rewrites_once state bytes (HasFault at why) (Writes b) after_a after_b p q = absurd (decided.never_both bytes q.0 at why q.1 p.0)
  rewrites_once state bytes (HasFault i v) (HasFault j w) after_a after_b p q = (same_fault family decided bytes i j v w p.0 q.0, p.1 ∙ sym q.1)
  rewrites_once state bytes (HasFault at why) IsTooLong after_a after_b p q = absurd (decided.never_both bytes q.0 at why q.1 p.0)
  rewrites_once state bytes IsTooLong (Writes b) after_a after_b p q =
      let same : q.0 ≡ p.0 = decided.one bytes q.0 p.0 q.1 p.1 in
      absurd (not_both p.0 (subst (IsWritable family) same q.2) p.2)
  rewrites_once state bytes IsTooLong (HasFault at why) after_a after_b p q = absurd (decided.never_both bytes p.0 at why p.1 q.0)
  rewrites_once state bytes IsTooLong IsTooLong after_a after_b p q = (refl, p.3 ∙ sym q.3)

  pub numbers_once : (text : ℕ → Message → List ℕ) → IsSingleValued (Numbers family text)
  numbers_once text shown bytes (Writes a) (Writes b) after_a after_b p q =
      let same : p.0 ≡ q.0 = decided.one bytes p.0 q.0 p.1 q.1 in
      (ap Writes (p.2 ∙ ap (λ (m : Message). text (shown + 1) m) same ∙ sym q.2), p.3 ∙ sym q.3)
  numbers_once text shown bytes (Writes a) (HasFault at why) after_a after_b p q = absurd (decided.never_both bytes p.0 at why p.1 q.0)
  numbers_once text shown bytes (Writes a) IsTooLong after_a after_b p q = absurd q
  numbers_once text shown bytes (HasFault at why) (Writes b) after_a after_b p q = absurd (decided.never_both bytes q.0 at why q.1 p.0)
  numbers_once text shown bytes (HasFault i v) (HasFault j w) after_a after_b p q = (same_fault family decided bytes i j v w p.0 q.0, p.1 ∙ sym q.1)
  numbers_once text shown bytes (HasFault at why) IsTooLong after_a after_b p q = absurd q
  numbers_once text shown bytes IsTooLong b after_a after_b p q = absurd p
