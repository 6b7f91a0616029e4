-- Of a message one thing is collected, and something is.
use Rattle.std.proofs.Common.{◌≡◌, ℕ, ◌⊎◌, List, [], ◌∷◌, ◌++◌, refl, sym, ap, ◌∙◌, inl, inr}
use Rattle.message_codec.specs.Fields.{AreBytes}
use Rattle.message_codec.specs.declared.wire.field.Why.{Why}
use Rattle.message_values.specs.declared.report.AgentToServer.{AgentToServer}
use Rattle.message_codec.specs.Faults.{SameFault}
use Rattle.message_reports.specs.Reports.{MeansReport, ReportFault}
use Rattle.command_streams.specs.Made.{Writes, HasFault, IsTooLong, IsSingleValued}
use Rattle.command_streams.specs.Telling.{IsTotal}
use Rattle.command_fleet.specs.Reading.{Collects}

-- the laws on what bytes mean as a report
pub record AreDecided : Type 0 where
  pub one : (bytes : List ℕ) (m n : AgentToServer) → MeansReport bytes m → MeansReport bytes n → m ≡ n
  pub not_both : (bytes : List ℕ) (m : AgentToServer) (at : ℕ) (why : Why) → MeansReport bytes m → ReportFault bytes at why → ⊥
  pub one_fault : (bytes : List ℕ) (i j : ℕ) (v w : Why) → ReportFault bytes i v → ReportFault bytes j w → SameFault i j v w

same_fault : (i j : ℕ) (v w : Why) → SameFault i j v w → HasFault i v ≡ HasFault j w
same_fault i j v w same = ap (λ (k : ℕ). HasFault k v) same.at ∙ ap (λ (u : Why). HasFault j u) same.why

pub collects_once : AreDecided → IsSingleValued Collects
collects_once decided reports message (Writes a) (Writes b) after_a after_b p q = (
  ap Writes (p.2 ∙ sym q.2),
  p.3 ∙ ap (λ (m : AgentToServer). reports ++ m ∷ []) (decided.one message p.0 q.0 p.1 q.1) ∙ sym q.3,
)
collects_once decided reports message (Writes a) (HasFault at why) after_a after_b p q = absurd (decided.not_both message p.0 at why p.1 q.0)
collects_once decided reports message (Writes a) IsTooLong after_a after_b p q = absurd q
collects_once decided reports message (HasFault at why) (Writes b) after_a after_b p q = absurd (decided.not_both message q.0 at why q.1 p.0)
collects_once decided reports message (HasFault i v) (HasFault j w) after_a after_b p q = (same_fault i j v w (decided.one_fault message i j v w p.0 q.0), p.1 ∙ sym q.1)
collects_once decided reports message (HasFault at why) IsTooLong after_a after_b p q = absurd q
collects_once decided reports message IsTooLong b after_a after_b p q = absurd p

pub collects_something : ((bytes : List ℕ) → AreBytes bytes → ((m : AgentToServer) × MeansReport bytes m) ⊎ ((at : ℕ) × (why : Why) × ReportFault bytes at why)) → IsTotal Collects
collects_something either reports message are fits = elim (either message are) [
  | inl read ↦ (Writes [], reports ++ read.0 ∷ [], (read.0, read.1, refl, refl))
  | inr bad ↦ (HasFault bad.0 bad.1, reports, (bad.2, refl))
]
