-- What happens to an agent, as the calls that are made of it.
use Rattle.std.specs.Prelude.{◌≡◌, ℕ, zero, suc, List, [], ◌∷◌, ◌++◌, Bool, if◌then◌else◌, Some, is_none}
use Rattle.std.specs.Option.{option_map, option_to_list, option_and_then}
use Rattle.message_values.specs.declared.reply.ServerToAgent.{ServerToAgent}
use Rattle.agent_rules.specs.declared.saved.Saved.{Saved}
use Rattle.agent_rules.specs.declared.rules.parts.LocalState.{LocalState}
use Rattle.agent_rules.specs.declared.rules.parts.Next.{Next}
use Rattle.agent_rules.specs.Half.{AgentHalf, started, restarted}
use Rattle.agent_rules.specs.Keeping.{Call, Change, Report, TakeReply, GiveUp, AbandonTry, PackagesDone, Say, BeginTry, keeping}
use Rattle.agent_rules.specs.Calls.{may_report, told, calls_after, saves_of}
use Rattle.agent_rules.specs.Offers.{Reactions, next_of, trial_calls, without_trial, config_call}

-- what happens to an agent
pub data AgentEvent : Type 0 where
  -- what it knows by its own means is now this
  Changes : (now : LocalState) → AgentEvent
  -- it reports
  Reports : AgentEvent
  -- the awaited reply reaches it, and this is what was answered to it
  Hears : (reply : ServerToAgent) (reactions : Reactions) → AgentEvent
  -- it waits for the reply no longer
  GivesUp : AgentEvent
  -- it starts again with what it keeps, and at this start it knows this of itself, and was told to ask for an identifier or not to
  Restarts : (local : LocalState) (asks_uid : Bool) → AgentEvent
  -- it stops in the event, when so many of the event's saves were done, and starts again as it was started before
  Crashes : (during : AgentEvent) (saves : ℕ) → AgentEvent

-- the calls that deal with what a reply asks, of an agent whose trial has ended: configuration, packages, message and settings, in this order
abbrev pub following : AgentHalf → Next → Reactions → List Call
following a next r =
    option_to_list (option_map (config_call a r.failure) next.config)
    ++ option_to_list (option_map (λ offer. PackagesDone r.statuses) next.packages)
    ++ option_to_list (option_and_then (λ message. option_map (λ answer. Say answer) r.answer) next.message)
    ++ option_to_list (option_map (λ settings. BeginTry settings) next.connection)

-- the calls that a reply makes: first it is taken, then a trial ends, and then the rest is dealt with
abbrev pub reply_calls : AgentHalf → ServerToAgent → Reactions → List Call
reply_calls a reply r =
    TakeReply reply ∷ trial_calls (told reply a) ++ following (without_trial (told reply a)) (next_of reply a) r

-- a trial that ends without its proof is abandoned
abbrev pub leaving_calls : AgentHalf → List Call
leaving_calls a = if is_none a.trial then [] else AbandonTry ∷ []

-- the calls that an event makes; what can't happen now makes none
abbrev pub calls_in : AgentHalf → AgentEvent → List Call
calls_in a (Changes now) = Change now ∷ []
calls_in a Reports = if may_report a then Report ∷ [] else []
calls_in a (Hears reply r) = if a.awaits then reply_calls a reply r else []
calls_in a GivesUp = if a.awaits then GiveUp ∷ leaving_calls a else []
calls_in a (Restarts local asks_uid) = []
calls_in a (Crashes during saves) = []

-- what an event keeps, in order
abbrev pub saves_in : AgentHalf → AgentEvent → List Saved
saves_in a event = saves_of a (calls_in a event)

-- the agent, of which this is kept after so many saves
abbrev pub keeping_first : ℕ → List Saved → AgentHalf → AgentHalf
keeping_first n [] a = a
keeping_first zero (s ∷ ss) a = a
keeping_first (suc n) (s ∷ ss) a = keeping_first n ss (keeping (Some s) a)

-- what an event leaves
abbrev pub agent_after : AgentHalf → AgentEvent → AgentHalf
agent_after a (Changes now) = calls_after a (calls_in a (Changes now))
agent_after a Reports = calls_after a (calls_in a Reports)
agent_after a (Hears reply r) = calls_after a (calls_in a (Hears reply r))
agent_after a GivesUp = calls_after a (calls_in a GivesUp)
agent_after a (Restarts local asks_uid) = started local a.saved a.is_kept a.room asks_uid
agent_after a (Crashes during saves) = restarted (keeping_first saves (saves_in a during) a)

-- what events leave, one after another
abbrev pub agent_run : List AgentEvent → AgentHalf → AgentHalf
agent_run [] a = a
agent_run (event ∷ events) a = agent_run events (agent_after a event)

-- each reply that it hears in the event is to the identifier in use
abbrev pub HearsOwn : AgentHalf → AgentEvent → Type 0
HearsOwn a (Changes now) = Unit {0}
HearsOwn a Reports = Unit {0}
HearsOwn a (Hears reply reactions) = reply.instance_uid ≡ a.saved.uid
HearsOwn a GivesUp = Unit {0}
HearsOwn a (Restarts local asks_uid) = Unit {0}
HearsOwn a (Crashes during saves) = HearsOwn a during

abbrev pub AllHearOwn : List AgentEvent → AgentHalf → Type 0
AllHearOwn [] a = Unit {0}
AllHearOwn (event ∷ events) a = HearsOwn a event × AllHearOwn events (agent_after a event)
