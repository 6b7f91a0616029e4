-- What the lab's agent does with a reply, part by part.
use Rattle.std.specs.Prelude.{◌≡◌, ℕ, List, [], ◌∷◌, Bool, true, false, if◌then◌else◌, Option, None, Some}
use Rattle.std.specs.Option.{option_map, option_to_list}
use Rattle.plain_values.specs.declared.files.AgentConfigMap.{AgentConfigMap}
use Rattle.message_values.specs.declared.config.AgentRemoteConfig.{AgentRemoteConfig}
use Rattle.message_values.specs.declared.reply.ServerToAgent.{ServerToAgent}
use Rattle.message_values.specs.declared.state.Settings.{Settings}
use Rattle.agent_rules.specs.declared.rules.parts.Next.{Next}
use Rattle.agent_rules.specs.Half.{AgentHalf}
use Rattle.agent_rules.specs.Keeping.{Call, BeginTry, TakeReply, fits}
use Rattle.agent_rules.specs.Calls.{call_after}
use Rattle.agent_rules.specs.Offers.{config_call, next_of}

-- an agent takes a reply, and this is what that asks of its caller; or there is no room for what it teaches
abbrev pub Takes : AgentHalf → ServerToAgent → Option Next → Type 0
Takes a reply None = fits a (TakeReply reply) ≡ false
Takes a reply (Some next) = (fits a (TakeReply reply) ≡ true) × (next ≡ next_of reply a)

-- there is room for all that the calls keep
abbrev pub all_fit : AgentHalf → List Call → Bool
all_fit a [] = true
all_fit a (call ∷ calls) = if fits a call then all_fit (call_after a call) calls else false

-- a configuration, if one is to be applied; the lab's folder never fails
abbrev pub config_calls : AgentHalf → Option AgentRemoteConfig → List Call
config_calls a due = option_to_list (option_map (config_call a None) due)

-- settings, if some are to be tried
abbrev pub trying_calls : Option Settings → List Call
trying_calls next = option_to_list (option_map (λ settings. BeginTry settings) next)
