-- What a reply asks of an agent, and what the agent is once it took the reply.
use Rattle.std.proofs.Common.{◌≡◌, ℕ, List, [], ◌∷◌, Bool, true, false, not, ◌&&◌, ◌||◌, Option, None, Some, IsTrue, refl, ◌∙◌, ap, subst}
use Rattle.std.specs.Prelude.{if◌then◌else◌, is_none, nat_eq}
use Rattle.std.specs.Option.{option_and_then}
use Rattle.std.proofs.lemmas.Bool.{false≢true}
use Rattle.message_values.specs.declared.connection.OpAMPConnectionSettings.{OpAMPConnectionSettings}
use Rattle.message_values.specs.declared.reply.ServerToAgent.{ServerToAgent}
use Rattle.message_values.specs.declared.state.Settings.{Settings}
use Rattle.edge_devices.specs.Endpoints.{is_endpoint}
use Rattle.edge_devices.specs.Names.{are_good_names}
use Rattle.agent_rules.specs.declared.saved.Saved.{Saved}
use Rattle.agent_rules.specs.Right.{is_right}
use Rattle.agent_rules.specs.declared.rules.parts.AgentFail.{AgentFail}
use Rattle.agent_rules.specs.declared.rules.parts.AgentFail.TheVariants as fails
use Rattle.agent_rules.specs.Reports.{where_true}
use Rattle.agent_rules.specs.Half.{AgentHalf, target}
use Rattle.agent_rules.specs.Half as halves
use Rattle.agent_rules.specs.Keeping.{TakeReply, CommitTry, AbandonTry, fits, heard_in, keeping, kept_by, kept_of_reply}
use Rattle.agent_rules.specs.declared.rules.replies.Heard.{Heard}
use Rattle.agent_rules.specs.declared.rules.replies.Heard.TheVariants.{Commanded, Failed, Asked, Plain}
use Rattle.agent_rules.specs.Calls.{call_after, calls_after, told, told_by}
use Rattle.agent_rules.specs.Offers.{asked_after, is_acceptable, next_in, next_of, offered_hash, offered_settings, offered_to, settings_due, without_trial}
use Rattle.agent_state.specs.View.{AgentView, CallRefusal}
use Rattle.agent_state.specs.Refusals.{ReplyRefusal}
use Rattle.agent_rounds.specs.Dealing.{CanBeTried}

-- a reply that is to the agent is refused as the call is
pub refused_call : (a : AgentView) (reply : ServerToAgent) (fail : AgentFail) → reply.instance_uid ≡ a.half.saved.uid → ReplyRefusal a reply fail → CallRefusal a (TakeReply reply) fail
refused_call a reply fails.WrongUid to_it why = why to_it
refused_call a reply fails.NumbersSpent to_it why = why.1
refused_call a reply fails.TooLarge to_it why = why.1
refused_call a reply fails.NoMemory to_it why = why.1
refused_call a reply fails.StoreFault to_it why = why.1

-- an agent that took a reply awaits none
idle_by : (h : Heard) (reply : ServerToAgent) (a : AgentHalf) → (told_by h reply a).awaits ≡ false
idle_by Commanded reply a = refl
idle_by Failed reply a = refl
idle_by Asked reply a = refl
idle_by Plain reply a = refl

pub idle_told : (reply : ServerToAgent) (a : AgentHalf) → (told reply a).awaits ≡ false
idle_told reply a = idle_by (heard_in reply) reply a

-- a trial has its proof exactly where the agent says so
proved_in : (h : Heard) (reply : ServerToAgent) (a : AgentHalf) → heard_in reply ≡ h → (told reply a).proved ≡ (next_in h reply a).proved
proved_in Commanded reply a is = ap (λ h. (told_by h reply a).proved) is
proved_in Failed reply a is = ap (λ h. (told_by h reply a).proved) is
proved_in Asked reply a is = refl
proved_in Plain reply a is = refl

pub proved_next : (reply : ServerToAgent) (a : AgentHalf) → (told reply a).proved ≡ (next_of reply a).proved
proved_next reply a = proved_in (heard_in reply) reply a refl

-- a reply changes neither the settings nor those under trial
trial_keeping : (k : Option Saved) (a : AgentHalf) → (keeping k a).trial ≡ a.trial
trial_keeping None a = refl
trial_keeping (Some s) a = refl

trial_by : (h : Heard) (reply : ServerToAgent) (a : AgentHalf) → (told_by h reply a).trial ≡ a.trial
trial_by Commanded reply a = refl
trial_by Failed reply a = refl
trial_by Asked reply a = trial_keeping (kept_by a (TakeReply reply)) a
trial_by Plain reply a = trial_keeping (kept_by a (TakeReply reply)) a

settings_where : (keeps : Bool) (s : Saved) (a : AgentHalf) → s.settings ≡ a.saved.settings → (keeping (where_true keeps s) a).saved.settings ≡ a.saved.settings
settings_where true s a same = same
settings_where false s a same = refl

settings_kept : (h : Heard) (reply : ServerToAgent) (a : AgentHalf) → (keeping (kept_of_reply a h reply) a).saved.settings ≡ a.saved.settings
settings_kept Commanded reply a = refl
settings_kept Failed reply a = refl
settings_kept Asked reply a = settings_where _ _ a refl
settings_kept Plain reply a = settings_where _ _ a refl

settings_by : (h : Heard) (reply : ServerToAgent) (a : AgentHalf) → (told_by h reply a).saved.settings ≡ a.saved.settings
settings_by Commanded reply a = refl
settings_by Failed reply a = refl
settings_by Asked reply a = settings_kept (heard_in reply) reply a
settings_by Plain reply a = settings_kept (heard_in reply) reply a

-- an agent whose settings, and those under trial, have endpoints of the grammar
record HasEndpoints (a : AgentHalf) : Type 0 where
  own : is_endpoint a.saved.settings.endpoint ≡ true
  tried : is_endpoint (target a).endpoint ≡ true

abbrev target_of : Option Settings → Settings → Settings
target_of None settings = settings
target_of (Some tried) settings = tried

module _ (a : AgentHalf) (good : HasEndpoints a) where
  committed : (fit : Bool) → is_endpoint (if fit then call_after a CommitTry else a).saved.settings.endpoint ≡ true
  committed true = good.tried
  committed false = good.own

  ended : (none wins : Bool) → is_endpoint (calls_after a (if none then [] else if wins then CommitTry ∷ [] else AbandonTry ∷ [])).saved.settings.endpoint ≡ true
  ended true wins = good.own
  ended false true = committed (fits a CommitTry)
  ended false false = good.own

  -- once its trial has ended its settings have one
  ended_endpoint : is_endpoint (without_trial a).saved.settings.endpoint ≡ true
  ended_endpoint = ended (is_none a.trial) (a.proved && fits a CommitTry)

good_told : (reply : ServerToAgent) (a : AgentHalf) → HasEndpoints a → HasEndpoints (told reply a)
good_told reply a good = record {
  own = ap (λ (s : Settings). is_endpoint s.endpoint) (settings_by (heard_in reply) reply a) ∙ good.own;
  tried = ap (λ (s : Settings). is_endpoint s.endpoint) (λ i. halves.target (record a { trial = trial_by (heard_in reply) reply a i; saved = record (a.saved) { settings = settings_by (heard_in reply) reply a i } })) ∙ good.tried;
}

both : (x y : Bool) → (x && y) ≡ true → (x ≡ true) × (y ≡ true)
both true y is = (refl, is)
both false y is = absurd (false≢true is)

either_endpoint : (none : Bool) (own offered : List ℕ) → (none || is_endpoint offered) ≡ true → is_endpoint own ≡ true → is_endpoint (if none then own else offered) ≡ true
either_endpoint true own offered is good = good
either_endpoint false own offered is good = is

module _ (active : Settings) (hash : List ℕ) (offer : OpAMPConnectionSettings) (good : is_endpoint active.endpoint ≡ true) where
  offered_endpoint : is_acceptable offer ≡ true → is_endpoint (offered_settings active hash offer).endpoint ≡ true
  offered_endpoint is =
      let rest = (both _ _ is).1 in
      either_endpoint (halves.is_empty offer.destination_endpoint) active.endpoint offer.destination_endpoint (both _ _ rest).0 good

  due_by : (holds : Bool) → (holds ≡ true → is_endpoint (offered_settings active hash offer).endpoint ≡ true) → CanBeTried (where_true holds (offered_settings active hash offer))
  due_by true have settings is = subst (λ (o : Option Settings). is_endpoint (target_of o settings).endpoint ≡ true) is (have refl)
  due_by false have settings is = cc

  due_endpoint : CanBeTried (settings_due active hash offer)
  due_endpoint = due_by (is_acceptable offer) offered_endpoint

due_in : (active : Settings) (hash : List ℕ) (offer : Option OpAMPConnectionSettings) → is_endpoint active.endpoint ≡ true → CanBeTried (option_and_then (settings_due active hash) offer)
due_in active hash None good settings is = cc
due_in active hash (Some offer) good settings is = due_endpoint active hash offer good settings is

asked_endpoint : (reply : ServerToAgent) (full : Bool) (a : AgentHalf) → HasEndpoints a → CanBeTried (asked_after reply full a).connection
asked_endpoint reply full a good =
    due_in (without_trial a).saved.settings (offered_hash reply) (offered_to a.local.capabilities (without_trial a).saved.settings (without_trial a).abandoned reply) (ended_endpoint a good)

endpoint_in : (h : Heard) (reply : ServerToAgent) (a : AgentHalf) → HasEndpoints a → CanBeTried (next_in h reply a).connection
endpoint_in Commanded reply a good settings is = cc
endpoint_in Failed reply a good settings is = cc
endpoint_in Asked reply a good settings is = asked_endpoint reply true (told reply a) (good_told reply a good) settings is
endpoint_in Plain reply a good settings is = asked_endpoint reply false (told reply a) (good_told reply a good) settings is

-- offered settings that are to be tried have an endpoint of the grammar
pub next_endpoint : (reply : ServerToAgent) (a : AgentHalf) → is_endpoint a.saved.settings.endpoint ≡ true → is_endpoint (target a).endpoint ≡ true → CanBeTried (next_of reply a).connection
next_endpoint reply a own tried = endpoint_in (heard_in reply) reply a (record { own = own; tried = tried })

-- what may be kept has a good endpoint
endpoint_of_right : (limit endpoint names : Bool) → (limit && endpoint && names) ≡ true → endpoint ≡ true
endpoint_of_right true true names is = refl
endpoint_of_right true false names is = is
endpoint_of_right false endpoint names is = absurd (false≢true is)

pub own_endpoint : (s : Saved) → IsTrue (is_right s) → is_endpoint s.settings.endpoint ≡ true
own_endpoint s right = endpoint_of_right (not (nat_eq s.limit 0)) (is_endpoint s.settings.endpoint) (are_good_names s.config.config_map) right
