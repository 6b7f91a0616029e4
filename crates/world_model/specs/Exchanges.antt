-- Exchanges that nothing disturbs.
use Rattle.std.specs.Prelude.{ℕ, List, [], ◌∷◌, ◌++◌, length, map, Option, None, Some}
use Rattle.message_values.specs.declared.reply.ServerErrorResponse.{ServerErrorResponse}
use Rattle.agent_rules.specs.declared.rules.parts.LocalState.{LocalState}
use Rattle.agent_rules.specs.Offers.{Reactions}
use Rattle.world_model.specs.World.{World, Event, Changed, Sent, Delivered, Answered, Erred, Given, run}

-- local changes, and nothing else
abbrev pub changes : List LocalState → List Event
changes states = map (λ now. Changed now) states

-- what happens in an exchange beside the exchange itself
pub record Meanwhile : Type 0 where
  pub before_delivery : List LocalState
  pub before_reply : List LocalState
  pub given : Given
  pub reactions : Reactions

-- a send, the delivery of the entry sent and its reply, with only local changes between them
abbrev pub exchange : ℕ → Meanwhile → List Event
exchange place m =
    Sent ∷ changes m.before_delivery ++ (Delivered place m.given ∷ changes m.before_reply ++ (Answered m.reactions ∷ []))

-- two exchanges, one after the other, with only local changes between: the events of both, and the world between
abbrev pub middle_of : World → Meanwhile → List LocalState → World
middle_of w first between = run (exchange (length w.sent) first ++ changes between) w

abbrev pub two_exchanges : World → Meanwhile → List LocalState → Meanwhile → List Event
two_exchanges w first between second =
    (exchange (length w.sent) first ++ changes between) ++ exchange (length (middle_of w first between).sent) second

-- the end of an exchange: the reply reaches the agent, or this error in its place
abbrev pub reply_or_error : Meanwhile → Option ServerErrorResponse → Event
reply_or_error m None = Answered m.reactions
reply_or_error m (Some error) = Erred error

-- an exchange with such an end
abbrev pub exchange_or_error : ℕ → Meanwhile → Option ServerErrorResponse → List Event
exchange_or_error place m error =
    Sent ∷ changes m.before_delivery ++ (Delivered place m.given ∷ changes m.before_reply ++ (reply_or_error m error ∷ []))

-- two exchanges, of which the first may end by an error: the world between, and the events of both
abbrev pub middle_or_error : World → Meanwhile → Option ServerErrorResponse → List LocalState → World
middle_or_error w first error between = run (exchange_or_error (length w.sent) first error ++ changes between) w

abbrev pub two_or_error : World → Meanwhile → Option ServerErrorResponse → List LocalState → Meanwhile → List Event
two_or_error w first error between second =
    (exchange_or_error (length w.sent) first error ++ changes between) ++ exchange (length (middle_or_error w first error between).sent) second
