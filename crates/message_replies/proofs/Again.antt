-- Replies that are written and read again.
use Rattle.std.proofs.Common.{◌≡◌, ℕ, List, arith, inl, inr}
use Rattle.std.specs.Prelude.{Result, Ok, Err, IfOk}
use Rattle.message_codec.specs.declared.wire.field.Why.{Why}
use Rattle.message_values.specs.declared.reply.ServerToAgent.{ServerToAgent}
use Rattle.message_codec.specs.Tables as tables
use Rattle.message_codec.specs.Means.{Means}
use Rattle.message_codec.proofs.Laws.{no_fault, one_meaning}
use Rattle.message_codec.specs.Levels.{Wrote}
use Rattle.message_replies.specs.ReplyColumns.{server_to_agent_columns}
use Rattle.message_replies.specs.Replies.{MeansReply, ReplyFault}
use Rattle.message_replies.proofs.Injective.{reply_columns_tell}

pub same_reply : (bytes : List ℕ) (m n : ServerToAgent) → MeansReply bytes m → MeansReply bytes n → m ≡ n
same_reply bytes m n p q = reply_columns_tell m n (one_meaning 100 tables.ServerToAgent bytes _ _ p.1 q.1)

pub reads_again : {E : Type 0} (reply : ServerToAgent) (result : Result (List ℕ) E) → IfOk result (Wrote tables.ServerToAgent (server_to_agent_columns reply))
    → IfOk result (λ bytes. Means 100 tables.ServerToAgent bytes (server_to_agent_columns reply)) → IfOk result (λ bytes. MeansReply bytes reply)
reads_again reply (Ok bytes) wrote means = (wrote.fits, means)
reads_again reply (Err e) wrote means = tt

-- bytes that mean a reply have no fault
pub never_refused : (bytes : List ℕ) (reply : ServerToAgent) (at : ℕ) (why : Why) → MeansReply bytes reply → ReplyFault bytes at why → ⊥
never_refused bytes reply at why means (inl large) = omega (arith, means.0, large.0)
never_refused bytes reply at why means (inr fault) = no_fault 100 tables.ServerToAgent bytes at why (means.1.0, means.1.1, means.1.2) fault.1
