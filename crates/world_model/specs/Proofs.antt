-- What makes settings and files the agent's own.
use Rattle.std.specs.Prelude.{Option, ◌≡◌, ◌⊎◌, List, ◌∷◌, ◌++◌, true, false, None, Some, is_some}
use Rattle.plain_values.specs.declared.files.AgentConfigMap.{AgentConfigMap}
use Rattle.message_values.specs.declared.config.AgentRemoteConfig.{AgentRemoteConfig}
use Rattle.message_values.specs.declared.reply.ServerToAgent.{ServerToAgent}
use Rattle.message_values.specs.declared.state.Settings.{Settings}
use Rattle.agent_rules.specs.declared.saved.Saved.{Saved}
use Rattle.edge_devices.specs.Names.{are_good_names}
use Rattle.agent_rules.specs.Reports.{Entry}
use Rattle.agent_rules.specs.Half.{first_saved}
use Rattle.agent_rules.specs.declared.rules.replies.Heard.TheVariants.{Plain}
use Rattle.agent_rules.specs.Keeping.{heard_in}
use Rattle.agent_rules.specs.Offers.{Reactions, offered_files}
use Rattle.world_model.specs.World.{World, Event, Answered, Took, Crashed, no_reactions, Start, world, after, last_sent, reply_due}

-- the answers of the folder, the dialer and the handler in the event, or in the one in which the agent stops
abbrev pub reactions_in : Event → Reactions
reactions_in (Answered reactions) = reactions
reactions_in (Took message reactions) = reactions
reactions_in (Crashed during saves) = reactions_in during
reactions_in _ = no_reactions

-- the reply that the agent takes for its answer in the event, or in the one in which it stops
abbrev pub reply_in : World → Event → Option ServerToAgent
reply_in w (Answered reactions) = reply_due w
reply_in w (Took message reactions) = Some message
reply_in w (Crashed during saves) = reply_in w during
reply_in w _ = None

-- The proof of use: an answer without error, command and wish for the full state, to a whole report sent to the endpoint of the settings under trial.
pub record IsProvedIn (w : World) (e : Event) (settings : Settings) : Type 0 where
  pub tried : w.agent.trial ≡ Some settings
  pub entry : Entry
  pub is_last : last_sent w.sent ≡ Some entry
  pub through : entry.server ≡ settings.endpoint
  pub whole : entry.basis ≡ None
  pub awaited : w.agent.awaits ≡ true
  pub reply : ServerToAgent
  pub answered : reply_in w e ≡ Some reply
  pub plain : heard_in reply ≡ Plain

-- The files came with an answer without error and command, have good names, and neither the folder nor the collector failed with them.
pub record IsAppliedIn (w : World) (e : Event) (files : AgentConfigMap) : Type 0 where
  pub awaited : w.agent.awaits ≡ true
  pub reply : ServerToAgent
  pub answered : reply_in w e ≡ Some reply
  pub no_command : is_some reply.command ≡ false
  pub no_error : is_some reply.error_response ≡ false
  pub offer : AgentRemoteConfig
  pub offered : reply.remote_config ≡ Some offer
  pub files_are : files ≡ offered_files offer
  pub names : are_good_names files.config_map ≡ true
  pub applied : (reactions_in e).failure ≡ None

-- a part of what is kept, and what makes a value of it the agent's own
pub record Part (T : Type 0) : Type 1 where
  pub value : Saved → T
  pub IsEarned : World → Event → T → Type 0

abbrev pub settings_part : Part Settings
settings_part = record { value = λ s. s.settings; IsEarned = IsProvedIn }

abbrev pub config_part : Part AgentConfigMap
config_part = record { value = λ s. s.config; IsEarned = IsAppliedIn }

-- the value is the one from before the event, or the event earned it
abbrev pub IsFormerOrEarned : {T : Type 0} → Part T → World → Event → Type 0
IsFormerOrEarned part w e =
    (part.value (after w e).agent.saved ≡ part.value w.agent.saved) ⊎ part.IsEarned w e (part.value (after w e).agent.saved)

-- at some point of these events the value was earned
pub record WasEarned {T : Type 0} (part : Part T) (start : Start) (events : List Event) (value : T) : Type 0 where
  pub before : List Event
  pub event : Event
  pub later : List Event
  pub joined : events ≡ before ++ event ∷ later
  pub earned : part.IsEarned (world start before) event value

-- the value is the one from the start, or was earned since
abbrev pub IsFirstOrEarned : {T : Type 0} → Part T → Start → List Event → Type 0
IsFirstOrEarned part start events =
    (part.value (world start events).agent.saved ≡ part.value (first_saved start.uid start.settings))
    ⊎ WasEarned part start events (part.value (world start events).agent.saved)
