-- What the agent's calls leave of what doesn't change.
use Rattle.std.proofs.Common.{◌≡◌, ◌∙◌, ℕ, List, [], ◌∷◌, Bool, true, false, not, ◌&&◌, cond, Option, Some, None, codes, ap, sym, refl}
use Rattle.std.specs.Prelude.{IfSome, is_none, is_some}
use Rattle.plain_values.specs.declared.files.AgentConfigMap.{AgentConfigMap}
use Rattle.message_values.specs.declared.config.AgentRemoteConfig.{AgentRemoteConfig}
use Rattle.message_values.specs.declared.config.RemoteConfigStatus.{RemoteConfigStatus}
use Rattle.message_values.specs.declared.reply.ServerToAgent.{ServerToAgent}
use Rattle.message_values.specs.declared.state.Settings.{Settings}
use Rattle.edge_devices.specs.Names.{are_good_names}
use Rattle.agent_rules.specs.declared.saved.Saved.{Saved}
use Rattle.agent_rules.specs.declared.rules.replies.Heard.{Heard}
use Rattle.agent_rules.specs.declared.rules.replies.Heard.TheVariants.{Commanded, Failed, Asked, Plain}
use Rattle.agent_rules.specs.Reports.{where_true}
use Rattle.agent_rules.specs.Half.{AgentHalf}
use Rattle.agent_rules.specs.Keeping.{Call, Report, TakeReply, CommitTry, AbandonTry, heard_in, taught, fits, kept_of_reply, kept_by, keeping}
use Rattle.agent_rules.specs.Calls.{call_after, calls_after, reported, told, told_by, trial_kept, config_done}
use Rattle.agent_rules.specs.Offers.{applied_call, config_call, failed_call, failed_with, offered_files, status_of, trial_calls, without_trial}
use Rattle.world_lab.specs.Hearing.{config_calls}

-- ---- one call

pub one_call : (a h : AgentHalf) (call : Call) → fits a call ≡ true → h ≡ call_after a call → h ≡ calls_after a (call ∷ [])
one_call a h call fit step = step ∙ ap (λ (b : Bool). cond b (call_after a call) a) (sym fit)

pub no_call : (a h : AgentHalf) (call : Call) → fits a call ≡ false → h ≡ a → h ≡ calls_after a (call ∷ [])
no_call a h call fit same = same ∙ ap (λ (b : Bool). cond b (call_after a call) a) (sym fit)

-- ---- what is kept

kept_config : (part : Option Saved) (a : AgentHalf) → IfSome part (λ p. p.config ≡ a.saved.config) → (keeping part a).saved.config ≡ a.saved.config
kept_config None a same = refl
kept_config (Some p) a same = same

where_config : (b : Bool) (s : Saved) (config : AgentConfigMap) → s.config ≡ config → IfSome (where_true b s) (λ p. p.config ≡ config)
where_config true s config same = same
where_config false s config same = tt

pub kept_local : (part : Option Saved) (a : AgentHalf) → (keeping part a).local ≡ a.local
kept_local None a = refl
kept_local (Some s) a = refl

pub reported_config : (a : AgentHalf) → (reported a).saved.config ≡ a.saved.config
reported_config a = kept_config (kept_by a Report) a (where_config _ _ a.saved.config refl)

of_reply : (a : AgentHalf) (h : Heard) (reply : ServerToAgent) → IfSome (kept_of_reply a h reply) (λ p. p.config ≡ a.saved.config)
of_reply a Commanded reply = tt
of_reply a Failed reply = tt
of_reply a Asked reply = where_config _ (taught a reply false) a.saved.config refl
of_reply a Plain reply = where_config _ (taught a reply true) a.saved.config refl

pub told_config : (a : AgentHalf) (reply : ServerToAgent) → (told reply a).saved.config ≡ a.saved.config
told_config a reply = by_word (heard_in reply)
  where
    by_word : (h : Heard) → (told_by h reply a).saved.config ≡ a.saved.config
    by_word Commanded = refl
    by_word Failed = refl
    by_word Asked = kept_config (kept_by a (TakeReply reply)) a (of_reply a (heard_in reply) reply)
    by_word Plain = kept_config (kept_by a (TakeReply reply)) a (of_reply a (heard_in reply) reply)

pub told_local : (a : AgentHalf) (reply : ServerToAgent) → (told reply a).local ≡ a.local
told_local a reply = by_word (heard_in reply)
  where
    by_word : (h : Heard) → (told_by h reply a).local ≡ a.local
    by_word Commanded = refl
    by_word Failed = refl
    by_word Asked = kept_local (kept_by a (TakeReply reply)) a
    by_word Plain = kept_local (kept_by a (TakeReply reply)) a

-- no answer is awaited once a reply was taken
pub told_idle : (a : AgentHalf) (reply : ServerToAgent) → (told reply a).awaits ≡ false
told_idle a reply = by_word (heard_in reply)
  where
    by_word : (h : Heard) → (told_by h reply a).awaits ≡ false
    by_word Commanded = refl
    by_word Failed = refl
    by_word Asked = refl
    by_word Plain = refl

-- ---- the end of a trial

-- without a trial nothing is done
pub none_ends : (a : AgentHalf) → is_some a.trial ≡ false → trial_calls a ≡ []
none_ends a none = of_trial a.trial none
  where
    of_trial : (t : Option Settings) → is_some t ≡ false → cond (is_none t) [] (cond (a.proved && fits a CommitTry) (CommitTry ∷ []) (AbandonTry ∷ [])) ≡ []
    of_trial None none = refl
    of_trial (Some s) none = absurd (cc none)

-- one ends by whether it is kept
pub some_ends : (a : AgentHalf) → is_some a.trial ≡ true → trial_calls a ≡ cond (a.proved && fits a CommitTry) (CommitTry ∷ []) (AbandonTry ∷ [])
some_ends a some = of_trial a.trial some
  where
    of_trial : (t : Option Settings) → is_some t ≡ true → cond (is_none t) [] (cond (a.proved && fits a CommitTry) (CommitTry ∷ []) (AbandonTry ∷ [])) ≡ cond (a.proved && fits a CommitTry) (CommitTry ∷ []) (AbandonTry ∷ [])
    of_trial None some = absurd (cc some)
    of_trial (Some s) some = refl

-- then none is left, and no answer is awaited that wasn't
pub ended_trial : (a : AgentHalf) → (without_trial a).trial ≡ None
ended_trial a = by_test a.trial refl (a.proved && fits a CommitTry) refl
  where
    and_right : (x y : Bool) → (x && y) ≡ true → y ≡ true
    and_right true y e = e
    and_right false y e = absurd (cc e)

    by_test : (t : Option Settings) → a.trial ≡ t → (wins : Bool) → (a.proved && fits a CommitTry) ≡ wins
        → (calls_after a (cond (is_none t) [] (cond wins (CommitTry ∷ []) (AbandonTry ∷ [])))).trial ≡ None
    by_test None none wins e = none
    by_test (Some s) some true e = ap (λ (b : Bool). (cond b (trial_kept a) a).trial) (and_right a.proved (fits a CommitTry) e)
    by_test (Some s) some false e = refl

pub ended_idle : (a : AgentHalf) → (without_trial a).awaits ≡ a.awaits
ended_idle a = by_test (is_none a.trial) (a.proved && fits a CommitTry)
  where
    by_room : (b : Bool) → (cond b (trial_kept a) a).awaits ≡ a.awaits
    by_room true = refl
    by_room false = refl

    by_test : (none wins : Bool) → (calls_after a (cond none [] (cond wins (CommitTry ∷ []) (AbandonTry ∷ [])))).awaits ≡ a.awaits
    by_test true wins = refl
    by_test false true = by_room (fits a CommitTry)
    by_test false false = refl

-- ---- configurations

config_trial_one : (a : AgentHalf) (applied : Option AgentConfigMap) (status : RemoteConfigStatus) → (config_done applied status a).trial ≡ a.trial
config_trial_one a None status = refl
config_trial_one a (Some files) status = refl

config_idle_one : (a : AgentHalf) (applied : Option AgentConfigMap) (status : RemoteConfigStatus) → (config_done applied status a).awaits ≡ a.awaits
config_idle_one a None status = refl
config_idle_one a (Some files) status = refl

-- what becomes of a configuration, by what could
config_word : (P : Call → Type 0) (a : AgentHalf) (offer : AgentRemoteConfig) → P (applied_call offer) → ((text : List ℕ) → P (failed_call offer text)) → P (config_call a None offer)
config_word P a offer applied failed = by_names (are_good_names (offered_files offer).config_map)
  where
    by_room : (b : Bool) → P (cond b (applied_call offer) (failed_call offer (codes "too large")))
    by_room true = applied
    by_room false = failed (codes "too large")

    by_names : (b : Bool) → P (cond (not b) (failed_call offer (codes "bad name")) (cond (fits a (applied_call offer)) (applied_call offer) (failed_call offer (codes "too large"))))
    by_names true = by_room (fits a (applied_call offer))
    by_names false = failed (codes "bad name")

-- it leaves the trial, and whether an answer is awaited
done_trial : (b : Bool) (a : AgentHalf) (applied : Option AgentConfigMap) (status : RemoteConfigStatus) → (cond b (config_done applied status a) a).trial ≡ a.trial
done_trial true a applied status = config_trial_one a applied status
done_trial false a applied status = refl

done_idle : (b : Bool) (a : AgentHalf) (applied : Option AgentConfigMap) (status : RemoteConfigStatus) → (cond b (config_done applied status a) a).awaits ≡ a.awaits
done_idle true a applied status = config_idle_one a applied status
done_idle false a applied status = refl

pub config_trial : (a : AgentHalf) (due : Option AgentRemoteConfig) → (calls_after a (config_calls a due)).trial ≡ a.trial
config_trial a None = refl
config_trial a (Some offer) =
    config_word (λ call. (cond (fits a call) (call_after a call) a).trial ≡ a.trial) a offer
    (done_trial (fits a (applied_call offer)) a (Some (offered_files offer)) (status_of offer))
    (λ text. done_trial (fits a (failed_call offer text)) a None (failed_with offer text))

pub config_idle : (a : AgentHalf) (due : Option AgentRemoteConfig) → (calls_after a (config_calls a due)).awaits ≡ a.awaits
config_idle a None = refl
config_idle a (Some offer) =
    config_word (λ call. (cond (fits a call) (call_after a call) a).awaits ≡ a.awaits) a offer
    (done_idle (fits a (applied_call offer)) a (Some (offered_files offer)) (status_of offer))
    (λ text. done_idle (fits a (failed_call offer text)) a None (failed_with offer text))
