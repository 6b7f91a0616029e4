-- How the functions that deal with a reply say what they do.
use Rattle.std.specs.Prelude.{IsTrue, Option, Result, Ok, Err}
use Rattle.std.specs.Option.{ForSome}
use Rattle.message_values.specs.declared.state.Settings.{Settings}
use Rattle.message_values.specs.declared.custom.CustomMessage.{CustomMessage}
use Rattle.edge_devices.specs.Endpoints.{is_endpoint}
use Rattle.agent_rules.specs.declared.rules.parts.Next.{Next}
use Rattle.agent_rounds.specs.declared.ends.AgentEnd.{AgentEnd}
use Rattle.agent_rounds.specs.declared.ends.Pause.{Pause}
use Rattle.agent_rounds.specs.Replies.{BeginsTrial, Handles, Installs, PausesAfter}
use Rattle.agent_rounds.specs.Stages.{Stage, Then}

-- how a part ended, without what it gives
abbrev pub done_of : {T : Type 0} → Result T AgentEnd → Result Unit AgentEnd
done_of (Ok value) = Ok tt
done_of (Err end) = Err end

-- the settings that are to be tried have an endpoint of the grammar
abbrev pub CanBeTried : Option Settings → Type 0
CanBeTried next = ForSome next (λ settings. IsTrue (is_endpoint settings.endpoint))

-- What follows the configuration is dealt with: packages, message and settings, in this order.
abbrev pub DealsWithRest : (CustomMessage → Option CustomMessage → Type 0) → Next → Stage → Stage → Result Pause AgentEnd → Type 0
DealsWithRest may next =
    Then (Installs next.packages)
    (λ _. Then (Handles may next.message)
    (λ _. Then (BeginsTrial next.connection)
    (λ _. PausesAfter next)))
