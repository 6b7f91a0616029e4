-- Events in which no message that comes unasked gives the agent an identifier.
use Rattle.std.proofs.Common.{ℕ, List, [], ◌∷◌, ◌++◌, length, Option, None, Some}
use Rattle.message_values.specs.declared.reply.ServerErrorResponse.{ServerErrorResponse}
use Rattle.agent_rules.specs.declared.rules.parts.LocalState.{LocalState}
use Rattle.world_model.specs.World.{World, Event, Delivered}
use Rattle.world_model.specs.Servers.{NameNobody}
use Rattle.world_model.specs.Exchanges.{Meanwhile, changes, exchange, reply_or_error, exchange_or_error, middle_or_error, two_or_error}

pub nobody-append : (es fs : List Event) → NameNobody es → NameNobody fs → NameNobody (es ++ fs)
nobody-append [] fs p q = q
nobody-append (e ∷ es) fs p q = (p.0, nobody-append es fs p.1 q)

pub nobody-changes : (states : List LocalState) → NameNobody (changes states)
nobody-changes [] = tt
nobody-changes (now ∷ states) = (tt, nobody-changes states)

nobody-end : (m : Meanwhile) (error : Option ServerErrorResponse) → NameNobody (reply_or_error m error ∷ [])
nobody-end m None = (tt, tt)
nobody-end m (Some error) = (tt, tt)

pub nobody-exchange : (place : ℕ) (m : Meanwhile) (error : Option ServerErrorResponse) → NameNobody (exchange_or_error place m error)
nobody-exchange place m error = (
  tt,
  nobody-append (changes m.before_delivery) (Delivered place m.given ∷ changes m.before_reply ++ (reply_or_error m error ∷ [])) (nobody-changes m.before_delivery)
      (tt, nobody-append (changes m.before_reply) (reply_or_error m error ∷ []) (nobody-changes m.before_reply) (nobody-end m error)),
)

-- two exchanges are such
pub nobody-exchanges : (w : World) (first second : Meanwhile) (error : Option ServerErrorResponse) (between : List LocalState) → NameNobody (two_or_error w first error between second)
nobody-exchanges w first second error between =
    nobody-append (exchange_or_error (length w.sent) first error ++ changes between) (exchange (length (middle_or_error w first error between).sent) second)
    (nobody-append (exchange_or_error (length w.sent) first error) (changes between) (nobody-exchange (length w.sent) first error) (nobody-changes between))
    (nobody-exchange (length (middle_or_error w first error between).sent) second None)
