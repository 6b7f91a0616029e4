-- A script's agent stays one, whatever it is called for.
use Rattle.std.proofs.Common.{◌≡◌, ◌∙◌, length, ◌==◌, Bool, true, false, Option, Some, None, ap, sym, subst, refl}
use Rattle.std.specs.Prelude.{IfSome, unwrap_or}
use Rattle.std.specs.Option.{option_and_then}
use Rattle.plain_values.specs.declared.files.AgentConfigMap.{AgentConfigMap}
use Rattle.message_values.specs.declared.config.RemoteConfigStatus.{RemoteConfigStatus}
use Rattle.message_values.specs.declared.reply.AgentIdentification.{AgentIdentification}
use Rattle.message_values.specs.declared.reply.ServerToAgent.{ServerToAgent}
use Rattle.message_values.specs.declared.state.Settings.{Settings}
use Rattle.agent_rules.specs.declared.saved.Saved.{Saved}
use Rattle.agent_rules.specs.declared.rules.parts.LocalState.{LocalState}
use Rattle.agent_rules.specs.declared.rules.replies.Heard.{Heard}
use Rattle.agent_rules.specs.declared.rules.replies.Heard.TheVariants.{Commanded, Failed, Asked, Plain}
use Rattle.agent_rules.specs.Reports.{where_true}
use Rattle.agent_rules.specs.Half.{AgentHalf, target, restarted}
use Rattle.agent_rules.specs.Keeping.{Report, TakeReply, CommitTry, ConfigDone, heard_in, taught, kept_of_reply, kept_by, keeping}
use Rattle.agent_rules.specs.Calls.{changed, reported, told, told_by, given_up, trial_kept, trial_left, config_done, trial_begun}
use Rattle.world_lab.specs.Playing.{script_start}
use Rattle.world_lab.specs.Mirrors.{IsAgent, IsReply, IsServer}

-- what a script's agent may keep
pub record IsKeepable (s : Saved) : Type 0 where
  pub uid : s.uid ≡ script_start.uid
  pub active : IsServer s.settings.endpoint

true≢false : true ≡ false → ⊥
true≢false e = cc

-- the agent with other things that don't matter here
same_agent : (a b : AgentHalf) → IsAgent a → b.saved ≡ a.saved → b.is_kept ≡ a.is_kept → b.room ≡ a.room → b.asks_uid ≡ a.asks_uid → IfSome b.trial (λ settings. IsServer settings.endpoint) → IsAgent b
same_agent a b i saved is_kept room asks tried = record {
  uid = ap (λ s. s.uid) saved ∙ i.uid;
  first = λ no. saved ∙ i.first (sym is_kept ∙ no);
  room = room ∙ i.room;
  asks = asks ∙ i.asks;
  active = subst (λ (s : Saved). IsServer s.settings.endpoint) (sym saved) i.active;
  tried = tried;
}

-- it keeps this
pub agent_keeping : (a : AgentHalf) (part : Option Saved) → IsAgent a → IfSome part IsKeepable → IsAgent (keeping part a)
agent_keeping a None i p = i
agent_keeping a (Some s) i p = record {
  uid = p.uid;
  first = λ no. absurd (true≢false no);
  room = i.room;
  asks = i.asks;
  active = p.active;
  tried = i.tried;
}

keepable : (a : AgentHalf) → IsAgent a → IsKeepable a.saved
keepable a i = record { uid = i.uid; active = i.active }

pub agent_changed : (now : LocalState) (a : AgentHalf) → IsAgent a → IsAgent (changed now a)
agent_changed now a i = same_agent a (changed now a) i refl refl refl refl i.tried

-- the agent, of which something was kept, with other things that don't matter here
after_keeping : (a b : AgentHalf) (part : Option Saved) → IsAgent a → IfSome part IsKeepable
    → b.saved ≡ (keeping part a).saved → b.is_kept ≡ (keeping part a).is_kept → b.room ≡ (keeping part a).room → b.asks_uid ≡ (keeping part a).asks_uid
    → IfSome b.trial (λ settings. IsServer settings.endpoint) → IsAgent b
after_keeping a b part i p saved is_kept room asks tried = same_agent (keeping part a) b (agent_keeping a part i p) saved is_kept room asks tried

trial_stays : (part : Option Saved) (a : AgentHalf) → (keeping part a).trial ≡ a.trial
trial_stays None a = refl
trial_stays (Some s) a = refl

kept_tried : (part : Option Saved) (a : AgentHalf) → IsAgent a → IfSome (keeping part a).trial (λ settings. IsServer settings.endpoint)
kept_tried part a i = subst (λ (t : Option Settings). IfSome t (λ settings. IsServer settings.endpoint)) (sym (trial_stays part a)) i.tried

where_keepable : (b : Bool) (s : Saved) → IsKeepable s → IfSome (where_true b s) IsKeepable
where_keepable true s k = k
where_keepable false s k = tt

-- what its calls keep is keepable
pub report_keepable : (a : AgentHalf) → IsAgent a → IfSome (kept_by a Report) IsKeepable
report_keepable a i = where_keepable _ _ (record { uid = i.uid; active = i.active })

pub agent_reported : (a : AgentHalf) → IsAgent a → IsAgent (reported a)
agent_reported a i =
    after_keeping a (reported a) (kept_by a Report) i (report_keepable a i) refl refl refl refl (kept_tried (kept_by a Report) a i)

no_uid : (a : AgentHalf) (reply : ServerToAgent) (answered : Bool) → reply.agent_identification ≡ None → (taught a reply answered).uid ≡ a.saved.uid
no_uid a reply answered none =
    ap (λ (o : Option AgentIdentification). unwrap_or (option_and_then (λ given. where_true (length given.new_instance_uid == 16) given.new_instance_uid) o) a.saved.uid) none

taught_keepable : (a : AgentHalf) (reply : ServerToAgent) (answered : Bool) → IsAgent a → IsReply reply → IsKeepable (taught a reply answered)
taught_keepable a reply answered i r = record { uid = no_uid a reply answered r.given ∙ i.uid; active = i.active }

reply_keepable_in : (a : AgentHalf) (h : Heard) (reply : ServerToAgent) → IsAgent a → IsReply reply → IfSome (kept_of_reply a h reply) IsKeepable
reply_keepable_in a Commanded reply i r = tt
reply_keepable_in a Failed reply i r = tt
reply_keepable_in a Asked reply i r = where_keepable _ _ (taught_keepable a reply false i r)
reply_keepable_in a Plain reply i r = where_keepable _ _ (taught_keepable a reply true i r)

pub reply_keepable : (a : AgentHalf) (reply : ServerToAgent) → IsAgent a → IsReply reply → IfSome (kept_by a (TakeReply reply)) IsKeepable
reply_keepable a reply i r = reply_keepable_in a (heard_in reply) reply i r

pub agent_told : (a : AgentHalf) (reply : ServerToAgent) → IsAgent a → IsReply reply → IsAgent (told reply a)
agent_told a reply i r = by_word (heard_in reply) refl
  where
    by_word : (h : Heard) → heard_in reply ≡ h → IsAgent (told_by h reply a)
    by_word Commanded e = same_agent a (told_by Commanded reply a) i refl refl refl refl i.tried
    by_word Failed e = same_agent a (told_by Failed reply a) i refl refl refl refl i.tried
    by_word Asked e = after_keeping a (told_by Asked reply a) (kept_by a (TakeReply reply)) i (reply_keepable a reply i r) refl refl refl refl (kept_tried (kept_by a (TakeReply reply)) a i)
    by_word Plain e = after_keeping a (told_by Plain reply a) (kept_by a (TakeReply reply)) i (reply_keepable a reply i r) refl refl refl refl (kept_tried (kept_by a (TakeReply reply)) a i)

pub agent_given_up : (a : AgentHalf) → IsAgent a → IsAgent (given_up a)
agent_given_up a i = same_agent a (given_up a) i refl refl refl refl i.tried

-- the endpoint of the settings in use, or under trial
pub target_is : (a : AgentHalf) → IsAgent a → IsServer (target a).endpoint
target_is a i = of_trial a.trial i.tried
  where
    of_trial : (t : Option Settings) → IfSome t (λ settings. IsServer settings.endpoint) → IsServer (unwrap_or t a.saved.settings).endpoint
    of_trial None tried = i.active
    of_trial (Some settings) tried = tried

pub trial_keepable : (a : AgentHalf) → IsAgent a → IfSome (kept_by a CommitTry) IsKeepable
trial_keepable a i = record { uid = i.uid; active = target_is a i }

pub agent_kept_trial : (a : AgentHalf) → IsAgent a → IsAgent (trial_kept a)
agent_kept_trial a i = after_keeping a (trial_kept a) (kept_by a CommitTry) i (trial_keepable a i) refl refl refl refl tt

pub agent_left_trial : (a : AgentHalf) → IsAgent a → IsAgent (trial_left a)
agent_left_trial a i = same_agent a (trial_left a) i refl refl refl refl tt

pub config_keepable : (a : AgentHalf) (applied : Option AgentConfigMap) (status : RemoteConfigStatus) → IsAgent a → IfSome (kept_by a (ConfigDone applied status)) IsKeepable
config_keepable a None status i = record { uid = i.uid; active = i.active }
config_keepable a (Some files) status i = record { uid = i.uid; active = i.active }

pub agent_configured : (a : AgentHalf) (applied : Option AgentConfigMap) (status : RemoteConfigStatus) → IsAgent a → IsAgent (config_done applied status a)
agent_configured a None status i = agent_keeping a (kept_by a (ConfigDone None status)) i (record { uid = i.uid; active = i.active })
agent_configured a (Some files) status i = agent_keeping a (kept_by a (ConfigDone (Some files) status)) i (record { uid = i.uid; active = i.active })

pub agent_begun : (a : AgentHalf) (next : Settings) → IsAgent a → IsServer next.endpoint → IsAgent (trial_begun next a)
agent_begun a next i server = same_agent a (trial_begun next a) i refl refl refl refl server

pub agent_restarted : (a : AgentHalf) → IsAgent a → IsAgent (restarted a)
agent_restarted a i = same_agent a (restarted a) i refl refl refl refl tt
