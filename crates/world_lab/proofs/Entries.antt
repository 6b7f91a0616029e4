-- The entry of a report, and the report that is kept of it.
use Rattle.std.proofs.Common.{◌≡◌, ◌∙◌, ℕ, ◌+◌, ◌<◌, List, [], ◌∷◌, ◌++◌, length, Bool, true, false, cond, None, ap, sym, refl}
use Rattle.std.specs.Prelude.{is_none}
use Rattle.message_values.specs.declared.report.AgentToServer.{AgentToServer}
use Rattle.message_reports.specs.Reports.{MeansReport}
use Rattle.agent_rules.specs.declared.rules.parts.Prepared.{Prepared}
use Rattle.agent_rules.specs.Half.{AgentHalf, entry_of, entry_with, target}
use Rattle.agent_rules.specs.Reports.{fits_bytes, message_of}
use Rattle.agent_state.specs.Refusals.{IsPrepared}
use Rattle.world_lab.specs.declared.plays.SentReport.{SentReport}
use Rattle.world_lab.specs.declared.written.Written.{Written}
use Rattle.world_lab.specs.declared.written.Written.TheVariants.{SentReport as SentLine}
use Rattle.world_lab.specs.Playing.{endpoint_of, server_at}
use Rattle.world_lab.specs.Reports.{IsKept}
use Rattle.world_lab.proofs.Numbers.{server_is}

-- the entry's place, number and server, whether it has a message or not
pub entry_server : (a : AgentHalf) → (target a).endpoint ≡ (entry_of a).server
entry_server a = by_length (fits_bytes (message_of (entry_with a a.message)))
  where
    by_length : (b : Bool) → (target a).endpoint ≡ (cond b (entry_with a a.message) (entry_with a None)).server
    by_length true = refl
    by_length false = refl

pub entry_number : (a : AgentHalf) → a.next ≡ (entry_of a).number
entry_number a = by_length (fits_bytes (message_of (entry_with a a.message)))
  where
    by_length : (b : Bool) → a.next ≡ (cond b (entry_with a a.message) (entry_with a None)).number
    by_length true = refl
    by_length false = refl

pub entry_uid : (a : AgentHalf) → (entry_of a).uid ≡ a.saved.uid
entry_uid a = by_length (fits_bytes (message_of (entry_with a a.message)))
  where
    by_length : (b : Bool) → (cond b (entry_with a a.message) (entry_with a None)).uid ≡ a.saved.uid
    by_length true = refl
    by_length false = refl

-- bytes mean one report at most
abbrev pub MeanOne : Type 0
MeanOne = (bytes : List ℕ) (m n : AgentToServer) → MeansReport bytes m → MeansReport bytes n → m ≡ n

pub kept_report : MeanOne → (before : AgentHalf) (prepared : Prepared) (endpoint : List ℕ) (number count : ℕ) (message : AgentToServer) (sent sent' : List SentReport) (written : Written)
    → MeansReport prepared.bytes message → number < 10 → endpoint_of number ≡ endpoint
    → sent' ≡ sent ++ record { server = number; message = message; reply = None } ∷ []
    → count ≡ length sent + 1 → written ≡ SentLine count number prepared.number prepared.whole prepared.bytes
    → IsPrepared before prepared → (target before).endpoint ≡ endpoint
    → IsKept before sent sent' written
kept_report one before prepared endpoint number count message sent sent' written means digit there sent_is count_is text is at = record {
  report = record { server = number; message = message; reply = None };
  message = one prepared.bytes message (message_of (entry_of before)) means is.means;
  server = there ∙ sym at;
  digit = digit;
  unanswered = refl;
  sent_are = sent_is;
  written =
      text
      ∙ ap (λ (n : ℕ). SentLine n number prepared.number prepared.whole prepared.bytes) count_is
      ∙ ap (λ (s : ℕ). SentLine (length sent + 1) s prepared.number prepared.whole prepared.bytes) (sym (server_is number) ∙ ap server_at (there ∙ sym at ∙ entry_server before))
      ∙ ap (λ (n : ℕ). SentLine (length sent + 1) (server_at (entry_of before).server) n prepared.whole prepared.bytes) (is.number ∙ entry_number before)
      ∙ ap (λ (b : Bool). SentLine (length sent + 1) (server_at (entry_of before).server) (entry_of before).number b prepared.bytes) is.whole
      ∙ ap (λ (bs : List ℕ). SentLine (length sent + 1) (server_at (entry_of before).server) (entry_of before).number (is_none (entry_of before).basis) bs) is.bytes;
}
