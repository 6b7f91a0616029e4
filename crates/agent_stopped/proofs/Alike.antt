-- Halves that start again the same.
use Rattle.std.proofs.Common.{◌≡◌, ℕ, zero, suc, List, [], ◌∷◌, Option, None, Some, refl, sym, ◌∙◌, ap, subst}
use Rattle.message_values.specs.declared.reply.ServerToAgent.{ServerToAgent}
use Rattle.agent_rules.specs.declared.saved.Saved.{Saved}
use Rattle.agent_rules.specs.declared.rules.replies.Heard.{Heard}
use Rattle.agent_rules.specs.declared.rules.replies.Heard.TheVariants.{Commanded, Failed, Asked, Plain}
use Rattle.agent_rules.specs.Half.{AgentHalf, started, restarted}
use Rattle.agent_rules.specs.Keeping.{Call, Change, Report, TakeReply, GiveUp, CommitTry, AbandonTry, ConfigDone, PackagesDone, Say, BeginTry, heard_in, kept, kept_by, kept_of_reply, keeping}
use Rattle.agent_rules.specs.Calls.{call_after, told_by}
use Rattle.agent_rules.specs.Events.{keeping_first}
use Rattle.agent_state.specs.View.{MeansItself}
use Rattle.agent_stopped.specs.declared.opening.Opening.{Opening}
use Rattle.agent_stopped.specs.Starts.{CanReturn}

pub record StartAlike (a b : AgentHalf) : Type 0 where
  pub local : a.local ≡ b.local
  pub saved : a.saved ≡ b.saved
  pub is_kept : a.is_kept ≡ b.is_kept
  pub room : a.room ≡ b.room
  pub asks : a.asks_uid ≡ b.asks_uid

pub start-alike : (a b : AgentHalf) → StartAlike a b → restarted a ≡ restarted b
start-alike a b same = λ i. started (same.local i) (same.saved i) (same.is_kept i) (same.room i) (same.asks i)

keeping-alike : (part : Saved) (a b : AgentHalf) → StartAlike a b → StartAlike (keeping (Some part) a) (keeping (Some part) b)
keeping-alike part a b same = record { local = same.local; saved = refl; is_kept = refl; room = same.room; asks = same.asks }

pub first-alike : (n : ℕ) (saves : List Saved) (a b : AgentHalf) → StartAlike a b → restarted (keeping_first n saves a) ≡ restarted (keeping_first n saves b)
first-alike n [] a b same = start-alike a b same
first-alike zero (part ∷ saves) a b same = start-alike a b same
first-alike (suc n) (part ∷ saves) a b same = first-alike n saves (keeping (Some part) a) (keeping (Some part) b) (keeping-alike part a b same)

pub first-none : (saves : List Saved) (a : AgentHalf) → keeping_first zero saves a ≡ a
first-none [] a = refl
first-none (part ∷ saves) a = refl

-- the call leaves what the agent knows of itself
abbrev pub StaysLocal : Call → Type 0
StaysLocal (Change now) = ⊥
StaysLocal Report = Unit {0}
StaysLocal (TakeReply reply) = Unit {0}
StaysLocal GiveUp = Unit {0}
StaysLocal CommitTry = Unit {0}
StaysLocal AbandonTry = Unit {0}
StaysLocal (ConfigDone applied status) = Unit {0}
StaysLocal (PackagesDone statuses) = Unit {0}
StaysLocal (Say message) = Unit {0}
StaysLocal (BeginTry next) = Unit {0}

alike-by : (a b c : AgentHalf) → a ≡ c → StartAlike c b → StartAlike a b
alike-by a b c is same = record {
  local = ap (λ (x : AgentHalf). x.local) is ∙ same.local;
  saved = ap (λ (x : AgentHalf). x.saved) is ∙ same.saved;
  is_kept = ap (λ (x : AgentHalf). x.is_kept) is ∙ same.is_kept;
  room = ap (λ (x : AgentHalf). x.room) is ∙ same.room;
  asks = ap (λ (x : AgentHalf). x.asks_uid) is ∙ same.asks;
}

told-alike : (a : AgentHalf) (reply : ServerToAgent) (heard : Heard) → heard_in reply ≡ heard → StartAlike (kept a (TakeReply reply)) (told_by heard reply a)
told-alike a reply Commanded is = alike-by (kept a (TakeReply reply)) (told_by Commanded reply a) a (ap (λ (h : Heard). keeping (kept_of_reply a h reply) a) is) (record { local = refl; saved = refl; is_kept = refl; room = refl; asks = refl })
told-alike a reply Failed is = alike-by (kept a (TakeReply reply)) (told_by Failed reply a) a (ap (λ (h : Heard). keeping (kept_of_reply a h reply) a) is) (record { local = refl; saved = refl; is_kept = refl; room = refl; asks = refl })
told-alike a reply Asked is = record { local = refl; saved = refl; is_kept = refl; room = refl; asks = refl }
told-alike a reply Plain is = record { local = refl; saved = refl; is_kept = refl; room = refl; asks = refl }

-- what a call leaves starts again as what it keeps
pub call-alike : (a : AgentHalf) (call : Call) → StaysLocal call → StartAlike (kept a call) (call_after a call)
call-alike a (Change now) stays = absurd stays
call-alike a Report stays = record { local = refl; saved = refl; is_kept = refl; room = refl; asks = refl }
call-alike a (TakeReply reply) stays = told-alike a reply (heard_in reply) refl
call-alike a GiveUp stays = record { local = refl; saved = refl; is_kept = refl; room = refl; asks = refl }
call-alike a CommitTry stays = record { local = refl; saved = refl; is_kept = refl; room = refl; asks = refl }
call-alike a AbandonTry stays = record { local = refl; saved = refl; is_kept = refl; room = refl; asks = refl }
call-alike a (ConfigDone applied status) stays = record { local = refl; saved = refl; is_kept = refl; room = refl; asks = refl }
call-alike a (PackagesDone statuses) stays = record { local = refl; saved = refl; is_kept = refl; room = refl; asks = refl }
call-alike a (Say message) stays = record { local = refl; saved = refl; is_kept = refl; room = refl; asks = refl }
call-alike a (BeginTry next) stays = record { local = refl; saved = refl; is_kept = refl; room = refl; asks = refl }

-- a call that keeps nothing leaves a half that starts again as before
pub alike-none : (a : AgentHalf) (call : Call) → StaysLocal call → kept_by a call ≡ None → StartAlike a (call_after a call)
alike-none a call stays keeps = alike-by a (call_after a call) (kept a call) (sym (ap (λ (p : Option Saved). keeping p a) keeps)) (call-alike a call stays)

-- what is kept of such halves can be read again alike
pub can-alike : (opening : Opening) (a b : AgentHalf) → StartAlike a b → CanReturn opening a → CanReturn opening b
can-alike opening a b same can = record {
  itself = λ kept. subst MeansItself same.saved (can.itself (same.is_kept ∙ kept));
  first = λ none. sym same.saved ∙ can.first (same.is_kept ∙ none);
  room = sym same.room ∙ can.room;
  asks = sym same.asks ∙ can.asks;
}
