-- What is kept of settings and configuration changes only by what earns it.
use Rattle.std.proofs.Common.{◌≡◌, ℕ, List, [], ◌∷◌, ◌++◌, ◌⊎◌, Bool, true, false, cond, not, ◌&&◌, Option, None, Some, refl, sym, ◌∙◌, ap, subst, inl, inr, append_assoc, codes, eqb, ◌+◌}
use Rattle.std.specs.Str.{bytes_eq}
use Rattle.std.specs.Prelude.{is_some, is_none, unwrap_or}
use Rattle.std.specs.Option.{option_map, option_map_or, option_and_then, option_to_list}
use Rattle.std.proofs.lemmas.Bool.{false≢true, and_parts}
use Rattle.std.proofs.lemmas.List.{append-nil}
use Rattle.plain_values.specs.declared.files.AgentConfigMap.{AgentConfigMap}
use Rattle.message_values.specs.declared.config.AgentRemoteConfig.{AgentRemoteConfig}
use Rattle.message_values.specs.declared.custom.CustomMessage.{CustomMessage}
use Rattle.message_values.specs.declared.packages.PackagesAvailable.{PackagesAvailable}
use Rattle.message_values.specs.declared.reply.ServerToAgent.{ServerToAgent}
use Rattle.message_values.specs.declared.state.Settings.{Settings}
use Rattle.agent_rules.specs.declared.saved.Saved.{Saved}
use Rattle.edge_devices.specs.Names.{are_good_names}
use Rattle.agent_rules.specs.declared.rules.parts.TheConstants.{RESERVED_BLOCK}
use Rattle.agent_rules.specs.declared.rules.replies.Heard.{Heard}
use Rattle.agent_rules.specs.declared.rules.replies.Heard.TheVariants.{Commanded, Failed, Asked, Plain}
use Rattle.agent_rules.specs.Half.{AgentHalf}
use Rattle.agent_rules.specs.Keeping.{Call, Report, TakeReply, GiveUp, CommitTry, AbandonTry, PackagesDone, Say, BeginTry, heard_in, taught, kept_of_reply, keeping, fits, with_settings}
use Rattle.agent_rules.specs.Calls.{may_report, told_by, told, call_after}
use Rattle.agent_rules.specs.Offers.{Reactions, next_of, next_in, without_trial, config_due, config_call, offered_files, failed_call, applied_call}
use Rattle.agent_rules.specs.Events.{AgentEvent, Hears, GivesUp, Crashes, following, reply_calls, leaving_calls, calls_in, agent_after}
use Rattle.server_core.specs.Offers.{fits_offer}
use Rattle.server_core.specs.Replies.{error_alone}
use Rattle.world_model.specs.World.{World, Holding, Event, Changed, Sent, Delivered, Answered, Took, Erred, GaveUp, Offered, Ordered, Withdrawn, Forgotten, ServerRestarted, Restarted, Crashed, Given, delivers, with_offer, with_restart, with_nothing, changes_held, reply_due, no_reactions, crash_of, seen_of, agent_follows, sends, after, run, Start, opening, world}
use Rattle.world_model.specs.Proofs.{reactions_in, reply_in, IsProvedIn, IsAppliedIn, Part, settings_part, config_part, IsFormerOrEarned, WasEarned, IsFirstOrEarned}
use Rattle.world_model.proofs.Places.{none≢some}
use Rattle.world_model.proofs.Calls.{ForKept, Keeps, AllKeep, EventKeeps, event_has, of_reply}
use Rattle.std.proofs.Common.{slice_get}
use Rattle.std.proofs.lemmas.Bool.{not-false}
use Rattle.message_values.specs.declared.config.RemoteConfigStatus.{RemoteConfigStatus}
use Rattle.message_values.specs.declared.profile.TheConstants.{ACCEPTS_REMOTE_CONFIG, REPORT_FULL_STATE}
use Rattle.message_deltas.specs.Obligations.{has_bit}
use Rattle.agent_rules.specs.Reports.{Entry, where_true}
use Rattle.agent_rules.specs.Half.{first_saved}
use Rattle.agent_rules.specs.Offers.{tells_hash, failed_with}
use Rattle.world_model.proofs.Calls.{call_has}
use Rattle.world_model.proofs.Kept.{IsSound, opening_sound, after_sound}

-- the value is the former one or the event earned it
abbrev pub Stands : {T : Type 0} → Part T → World → Event → Saved → Type 0
Stands part w e s = (part.value s ≡ part.value w.agent.saved) ⊎ part.IsEarned w e (part.value s)

on_touch : {T : Type 0} (part : Part T) (w : World) (e : Event) (old new : Saved) → part.value new ≡ part.value old → Stands part w e old → Stands part w e new
on_touch part w e old new same (inl former) = inl (same ∙ former)
on_touch part w e old new same (inr earned) = inr (subst (part.IsEarned w e) (sym same) earned)

-- calls that hand a property on whatever the agent is
abbrev AllFollow : (Saved → Type 0) → List Call → Type 0
AllFollow Q [] = Unit {0}
AllFollow Q (c ∷ cs) = ((a : AgentHalf) → Keeps Q a c) × AllFollow Q cs

follow_keep : (Q : Saved → Type 0) (cs : List Call) (a : AgentHalf) → AllFollow Q cs → AllKeep Q a cs
follow_keep Q [] a f = tt
follow_keep Q (c ∷ cs) a f = (f.0 a, follow_keep Q cs (call_after a c) f.1)

follow-append : (Q : Saved → Type 0) (cs ds : List Call) → AllFollow Q cs → AllFollow Q ds → AllFollow Q (cs ++ ds)
follow-append Q [] ds p q = q
follow-append Q (c ∷ cs) ds p q = (p.0, follow-append Q cs ds p.1 q)

-- neither numbers nor what replies teach touch the part
pub record IsApart {T : Type 0} (part : Part T) : Type 0 where
  pub report : (s : Saved) (limit : ℕ) → part.value (record s { limit = limit }) ≡ part.value s
  pub reply : (a : AgentHalf) (reply : ServerToAgent) (answered : Bool) → part.value (taught a reply answered) ≡ part.value a.saved
  pub packages : (a : AgentHalf) (r : Reactions) → part.value (record (a.saved) { packages = r.statuses }) ≡ part.value a.saved

-- what is left to show of an answer: the end of a trial, and the offered files
pub record IsEarnedByAnswers {T : Type 0} (part : Part T) (w : World) (e : Event) (reply : ServerToAgent) : Type 0 where
  pub commit : (told reply w.agent).proved ≡ true → (tried : Settings) → (told reply w.agent).trial ≡ Some tried → Keeps (Stands part w e) (told reply w.agent) CommitTry
  pub config : (a : AgentHalf) (failure : Option (List ℕ)) → failure ≡ (reactions_in e).failure → (o : Option AgentRemoteConfig) → (next_of reply w.agent).config ≡ o
      → AllFollow (Stands part w e) (option_to_list (option_map (config_call a failure) o))

module _ {T : Type 0} (part : Part T) (apart : IsApart part) (w : World) (e : Event) where
  abbrev Q : Saved → Type 0
  Q = Stands part w e

  packages_follow : (r : Reactions) (o : Option PackagesAvailable) → AllFollow Q (option_to_list (option_map (λ offer. PackagesDone r.statuses) o))
  packages_follow r None = tt
  packages_follow r (Some offer) = ((λ a q. on_touch part w e a.saved _ (apart.packages a r) q), tt)

  message_follows : (answer o : Option CustomMessage) → AllFollow Q (option_to_list (option_and_then (λ message. option_map (λ said. Say said) answer) o))
  message_follows answer None = tt
  message_follows None (Some message) = tt
  message_follows (Some said) (Some message) = ((λ a q. tt), tt)

  begin_follows : (o : Option Settings) → AllFollow Q (option_to_list (option_map (λ settings. BeginTry settings) o))
  begin_follows None = tt
  begin_follows (Some settings) = ((λ a q. tt), tt)

  take_keeps : (a : AgentHalf) (reply : ServerToAgent) → Keeps Q a (TakeReply reply)
  take_keeps a reply q = of_reply Q a reply (λ answered. on_touch part w e a.saved (taught a reply answered) (apart.reply a reply answered) q) (heard_in reply)

  report_keeps : (a : AgentHalf) → Keeps Q a Report
  report_keeps a q = by_test (eqb a.next a.saved.limit)
    where
      by_test : (t : Bool) → ForKept Q (cond t (Some (record (a.saved) { limit = a.saved.limit + RESERVED_BLOCK })) None)
      by_test true = on_touch part w e a.saved (record (a.saved) { limit = a.saved.limit + RESERVED_BLOCK }) (apart.report a.saved (a.saved.limit + RESERVED_BLOCK)) q
      by_test false = tt

  hears_keeps : (reply : ServerToAgent) (r : Reactions) → r.failure ≡ (reactions_in e).failure → (w.agent.awaits ≡ true → IsEarnedByAnswers part w e reply)
      → AllKeep Q w.agent (calls_in w.agent (Hears reply r))
  hears_keeps reply r failed earn = by_awaits w.agent.awaits refl
    where
      b : AgentHalf
      b = told reply w.agent

      rest : List Call
      rest = following (without_trial b) (next_of reply w.agent) r

      rest_follows : IsEarnedByAnswers part w e reply → AllFollow Q rest
      rest_follows x =
          follow-append Q _ _
          (follow-append Q _ _ (follow-append Q _ _ (x.config (without_trial b) r.failure failed (next_of reply w.agent).config refl) (packages_follow r (next_of reply w.agent).packages))
          (message_follows r.answer (next_of reply w.agent).message))
          (begin_follows (next_of reply w.agent).connection)

      by_proof : IsEarnedByAnswers part w e reply → (tried : Settings) → b.trial ≡ Some tried → (u : Bool) → (b.proved && fits b CommitTry) ≡ u
          → AllKeep Q b (cond u (CommitTry ∷ []) (AbandonTry ∷ []) ++ rest)
      by_proof x tried is true so = (x.commit (and_parts b.proved _ so).0 tried is, follow_keep Q rest _ (rest_follows x))
      by_proof x tried is false so = ((λ q. tt), follow_keep Q rest _ (rest_follows x))

      by_trial : IsEarnedByAnswers part w e reply → (o : Option Settings) → b.trial ≡ o
          → AllKeep Q b (cond (is_none o) [] (cond (b.proved && fits b CommitTry) (CommitTry ∷ []) (AbandonTry ∷ [])) ++ rest)
      by_trial x None is = follow_keep Q rest b (rest_follows x)
      by_trial x (Some tried) is = by_proof x tried is (b.proved && fits b CommitTry) refl

      by_awaits : (t : Bool) → w.agent.awaits ≡ t → AllKeep Q w.agent (cond t (reply_calls w.agent reply r) [])
      by_awaits true so = (take_keeps w.agent reply, by_trial (earn so) b.trial refl)
      by_awaits false so = tt

  -- what an agent sees, if anything
  abbrev SeenKeeps : Option AgentEvent → Type 0
  SeenKeeps None = Unit {0}
  SeenKeeps (Some it) = AllKeep Q w.agent (calls_in w.agent it)

  -- the replies that may come
  abbrev Earns : Type 0
  Earns = (reply : ServerToAgent) → (is_some reply.error_response ≡ false → reply_in w e ≡ Some reply) → w.agent.awaits ≡ true → IsEarnedByAnswers part w e reply

  seen_keeps : Earns → (during : Event) → reactions_in during ≡ reactions_in e → reply_in w during ≡ reply_in w e → SeenKeeps (seen_of w during)
  seen_keeps earn (Changed now) same comes = ((λ q. tt), tt)
  seen_keeps earn Sent same comes = by_test (may_report w.agent)
    where
      by_test : (t : Bool) → AllKeep Q w.agent (cond t (Report ∷ []) [])
      by_test true = (report_keeps w.agent, tt)
      by_test false = tt
  seen_keeps earn (Delivered place given) same comes = tt
  seen_keeps earn (Answered r) same comes = by_reply (reply_due w) refl
    where
      by_reply : (o : Option ServerToAgent) → reply_due w ≡ o → SeenKeeps (option_map (λ reply. Hears reply r) o)
      by_reply None is = tt
      by_reply (Some reply) is = hears_keeps reply r (ap (λ (x : Reactions). x.failure) same) (earn reply (λ no_error. sym comes ∙ is))
  seen_keeps earn (Took message r) same comes = by_uid (bytes_eq message.instance_uid w.agent.saved.uid)
    where
      by_uid : (t : Bool) → SeenKeeps (where_true t (Hears message r))
      by_uid true = hears_keeps message r (ap (λ (x : Reactions). x.failure) same) (earn message (λ no_error. sym comes))
      by_uid false = tt
  seen_keeps earn (Erred error) same comes =
      hears_keeps (error_alone w.agent.saved.uid error) no_reactions (ap (λ (x : Reactions). x.failure) same)
      (earn (error_alone w.agent.saved.uid error) (λ no_error. absurd (false≢true (sym no_error))))
  seen_keeps earn GaveUp same comes = by_awaits w.agent.awaits
    where
      by_trial : (t : Bool) → AllKeep Q w.agent (GiveUp ∷ cond t [] (AbandonTry ∷ []))
      by_trial true = ((λ q. tt), tt)
      by_trial false = ((λ q. tt), ((λ q. tt), tt))

      by_awaits : (t : Bool) → AllKeep Q w.agent (cond t (GiveUp ∷ leaving_calls w.agent) [])
      by_awaits true = by_trial (is_none w.agent.trial)
      by_awaits false = tt
  seen_keeps earn (Offered server uid offer) same comes = tt
  seen_keeps earn (Ordered server uid) same comes = tt
  seen_keeps earn (Withdrawn server uid) same comes = tt
  seen_keeps earn (Forgotten server uid) same comes = tt
  seen_keeps earn (ServerRestarted server) same comes = tt
  seen_keeps earn (Restarted local asks_uid) same comes = tt
  seen_keeps earn (Crashed during n) same comes = by_seen (seen_of w during)
    where
      by_seen : (o : Option AgentEvent) → AllKeep Q w.agent (calls_in w.agent (crash_of w.agent o n))
      by_seen None = tt
      by_seen (Some it) = tt

  seen_stands : (o : Option AgentEvent) → ((event : AgentEvent) → o ≡ Some event → EventKeeps Q w.agent event) → Q (agent_follows w.agent o).saved
  seen_stands None each = inl refl
  seen_stands (Some it) each = event_has Q w.agent it (each it refl) (inl refl)

  crash_stands : (n : ℕ) (o : Option AgentEvent) → SeenKeeps o → Q (agent_after w.agent (crash_of w.agent o n)).saved
  crash_stands n None k = inl refl
  crash_stands n (Some it) k = event_has Q w.agent (Crashes it n) k (inl refl)

  changes_stand : (change : Holding → Holding) (server uid : List ℕ) (o : Option Holding) → Q (changes_held change w server uid o).agent.saved
  changes_stand change server uid None = inl refl
  changes_stand change server uid (Some h) = inl refl

  delivers_stand : (place : ℕ) (given : Given) (o : Option Entry) → Q (delivers w place given o).agent.saved
  delivers_stand place given None = inl refl
  delivers_stand place given (Some x) = inl refl

  answered_stands : (r : Reactions) (o : Option ServerToAgent) → SeenKeeps (option_map (λ reply. Hears reply r) o)
      → Q (agent_follows w.agent (option_map (λ reply. Hears reply r) o)).saved
  answered_stands r None k = inl refl
  answered_stands r (Some reply) k = event_has Q w.agent (Hears reply r) k (inl refl)

  took_stands : (message : ServerToAgent) (r : Reactions) (t : Bool) → SeenKeeps (where_true t (Hears message r)) → Q (agent_follows w.agent (where_true t (Hears message r))).saved
  took_stands message r true k = event_has Q w.agent (Hears message r) k (inl refl)
  took_stands message r false k = inl refl

-- a step leaves the part as it was, or earns it
pub stands_after : {T : Type 0} (part : Part T) (apart : IsApart part) (w : World) (e : Event) → Earns part apart w e → IsFormerOrEarned part w e
stands_after part apart w (Changed now) earn = inl refl
stands_after part apart w Sent earn = by_test (may_report w.agent)
  where
    by_test : (t : Bool) → Stands part w Sent (cond t (sends w) w).agent.saved
    by_test true = call_has (Stands part w Sent) w.agent Report (inl refl) (report_keeps part apart w Sent w.agent)
    by_test false = inl refl
stands_after part apart w (Delivered place given) earn = delivers_stand part apart w (Delivered place given) place given (slice_get w.sent place)
stands_after part apart w (Answered r) earn =
    answered_stands part apart w (Answered r) r (reply_due w) (seen_keeps part apart w (Answered r) earn (Answered r) refl refl)
stands_after part apart w (Took message r) earn =
    took_stands part apart w (Took message r) message r (bytes_eq message.instance_uid w.agent.saved.uid) (seen_keeps part apart w (Took message r) earn (Took message r) refl refl)
stands_after part apart w (Erred error) earn =
    event_has (Stands part w (Erred error)) w.agent (Hears (error_alone w.agent.saved.uid error) no_reactions)
    (seen_keeps part apart w (Erred error) earn (Erred error) refl refl) (inl refl)
stands_after part apart w GaveUp earn = event_has (Stands part w GaveUp) w.agent GivesUp (seen_keeps part apart w GaveUp earn GaveUp refl refl) (inl refl)
stands_after part apart w (Offered server uid offer) earn = by_test (fits_offer offer)
  where
    by_test : (t : Bool) → Stands part w (Offered server uid offer) (cond t (changes_held (with_offer offer) w server uid (w.held server uid)) w).agent.saved
    by_test true = changes_stand part apart w (Offered server uid offer) (with_offer offer) server uid (w.held server uid)
    by_test false = inl refl
stands_after part apart w (Ordered server uid) earn = changes_stand part apart w (Ordered server uid) with_restart server uid (w.held server uid)
stands_after part apart w (Withdrawn server uid) earn = changes_stand part apart w (Withdrawn server uid) with_nothing server uid (w.held server uid)
stands_after part apart w (Forgotten server uid) earn = inl refl
stands_after part apart w (ServerRestarted server) earn = inl refl
stands_after part apart w (Restarted local asks_uid) earn = inl refl
stands_after part apart w (Crashed during n) earn =
    crash_stands part apart w (Crashed during n) n (seen_of w during) (seen_keeps part apart w (Crashed during n) earn during refl refl)

-- settings

told_trial : (a : AgentHalf) (reply : ServerToAgent) → (told reply a).trial ≡ a.trial
told_trial a reply = by_heard (heard_in reply)
  where
    by_kept : (o : Option Saved) → (keeping o a).trial ≡ a.trial
    by_kept None = refl
    by_kept (Some s) = refl

    by_heard : (h : Heard) → (told_by h reply a).trial ≡ a.trial
    by_heard Commanded = refl
    by_heard Failed = refl
    by_heard Asked = by_kept (kept_of_reply a (heard_in reply) reply)
    by_heard Plain = by_kept (kept_of_reply a (heard_in reply) reply)

proved_plain : (a : AgentHalf) (reply : ServerToAgent) → (told reply a).proved ≡ true → heard_in reply ≡ Plain
proved_plain a reply proved = by_heard (heard_in reply) refl proved
  where
    by_heard : (h : Heard) → heard_in reply ≡ h → (told_by h reply a).proved ≡ true → heard_in reply ≡ Plain
    by_heard Commanded is p = absurd (false≢true p)
    by_heard Failed is p = absurd (false≢true p)
    by_heard Asked is p = absurd (false≢true p)
    by_heard Plain is p = is

-- neither command nor error
abbrev is_answer : Heard → Bool
is_answer Commanded = false
is_answer Failed = false
is_answer Asked = true
is_answer Plain = true

answer_parts : (reply : ServerToAgent) → is_answer (heard_in reply) ≡ true → (is_some reply.command ≡ false) × (is_some reply.error_response ≡ false)
answer_parts reply is = by_command (is_some reply.command) refl is
  where
    by_error : (t : Bool) → is_some reply.command ≡ false → is_some reply.error_response ≡ t
        → is_answer (cond t Failed (cond (has_bit reply.flags REPORT_FULL_STATE) Asked Plain)) ≡ true → (is_some reply.command ≡ false) × (is_some reply.error_response ≡ false)
    by_error true none so it = absurd (false≢true it)
    by_error false none so it = (none, so)

    by_command : (t : Bool) → is_some reply.command ≡ t → is_answer (cond t Commanded (cond (is_some reply.error_response) Failed (cond (has_bit reply.flags REPORT_FULL_STATE) Asked Plain))) ≡ true
        → (is_some reply.command ≡ false) × (is_some reply.error_response ≡ false)
    by_command true so it = absurd (false≢true it)
    by_command false so it = by_error (is_some reply.error_response) so refl it

config_untouched : {T : Type 0} (part : Part T) (w : World) (e : Event) → ((s : Saved) (files : AgentConfigMap) (hash : List ℕ) (remote : RemoteConfigStatus)
    → part.value (record s { config = files; config_hash = hash; remote = remote }) ≡ part.value s)
    → ((s : Saved) (remote : RemoteConfigStatus) → part.value (record s { remote = remote }) ≡ part.value s)
    → (a : AgentHalf) (failure : Option (List ℕ)) (o : Option AgentRemoteConfig) → AllFollow (Stands part w e) (option_to_list (option_map (config_call a failure) o))
config_untouched part w e applied_same failed_same a failure None = tt
config_untouched part w e applied_same failed_same a failure (Some offer) = by_names (not (are_good_names (offered_files offer).config_map))
  where
    All : Call → Type 0
    All c = AllFollow (Stands part w e) (c ∷ [])

    untouched : (text : List ℕ) → All (failed_call offer text)
    untouched text = ((λ b q. on_touch part w e b.saved _ (failed_same b.saved _) q), tt)

    applied : All (applied_call offer)
    applied = ((λ b q. on_touch part w e b.saved _ (applied_same b.saved _ _ _) q), tt)

    by_room : (t : Bool) → All (cond t (applied_call offer) (failed_call offer (codes "too large")))
    by_room true = applied
    by_room false = untouched (codes "too large")

    by_failure : (t : Option (List ℕ)) → All (option_map_or (failed_call offer) t (cond (fits a (applied_call offer)) (applied_call offer) (failed_call offer (codes "too large"))))
    by_failure (Some text) = untouched text
    by_failure None = by_room (fits a (applied_call offer))

    by_names : (t : Bool) → All (cond t (failed_call offer (codes "bad name"))
        (option_map_or (failed_call offer) failure (cond (fits a (applied_call offer)) (applied_call offer) (failed_call offer (codes "too large")))))
    by_names true = untouched (codes "bad name")
    by_names false = by_failure failure

settings_apart : IsApart settings_part
settings_apart = record { report = λ s limit. refl; reply = λ a reply answered. refl; packages = λ a r. refl }

settings_earned : (w : World) (e : Event) → IsSound w → Earns settings_part settings_apart w e
settings_earned w e s reply due awaits = record {
  commit = λ proved tried is q. inr (
      let now : unwrap_or (told reply w.agent).trial (told reply w.agent).saved.settings ≡ tried = ap (λ o. unwrap_or o (told reply w.agent).saved.settings) is in
      let before : w.agent.trial ≡ Some tried = sym (told_trial w.agent reply) ∙ is in
      let own = s.fit.awaited awaits in
      let plain = proved_plain w.agent reply proved in
      subst (IsProvedIn w e) (sym now) (record {
        tried = before;
        entry = own.entry;
        is_last = own.is_last;
        through = own.server ∙ ap (λ o. (unwrap_or o w.agent.saved.settings).endpoint) before;
        whole = s.fit.alone awaits tried before own.entry own.is_last;
        awaited = awaits;
        reply = reply;
        answered = due (answer_parts reply (ap is_answer plain)).1;
        plain = plain;
      }));
  config = λ a failure same o is. config_untouched settings_part w e (λ s files hash remote. refl) (λ s remote. refl) a failure o;
}

pub settings_stand : (w : World) (e : Event) → IsSound w → IsFormerOrEarned settings_part w e
settings_stand w e s = stands_after settings_part settings_apart w e (settings_earned w e s)

-- configuration

config_apart : IsApart config_part
config_apart = record { report = λ s limit. refl; reply = λ a reply answered. refl; packages = λ a r. refl }

-- a configuration that is asked came with an answer
due_offer : (capabilities : ℕ) (held : List ℕ) (o : Option AgentRemoteConfig) (offer : AgentRemoteConfig) → option_and_then (config_due capabilities held) o ≡ Some offer → o ≡ Some offer
due_offer capabilities held None offer is = absurd (none≢some is)
due_offer capabilities held (Some x) offer is = by_test (has_bit capabilities ACCEPTS_REMOTE_CONFIG && not (tells_hash x.config_hash held)) is
  where
    by_test : (t : Bool) → where_true t x ≡ Some offer → Some x ≡ Some offer
    by_test true it = it
    by_test false it = absurd (none≢some it)

asked_offer : (a : AgentHalf) (reply : ServerToAgent) (offer : AgentRemoteConfig) → (next_of reply a).config ≡ Some offer
    → (is_answer (heard_in reply) ≡ true) × (reply.remote_config ≡ Some offer)
asked_offer a reply offer is = by_heard (heard_in reply) refl is
  where
    by_heard : (h : Heard) → heard_in reply ≡ h → (next_in h reply a).config ≡ Some offer → (is_answer (heard_in reply) ≡ true) × (reply.remote_config ≡ Some offer)
    by_heard Commanded so it = absurd (none≢some it)
    by_heard Failed so it = absurd (none≢some it)
    by_heard Asked so it = (ap is_answer so, due_offer _ _ reply.remote_config offer it)
    by_heard Plain so it = (ap is_answer so, due_offer _ _ reply.remote_config offer it)

config_earned : (w : World) (e : Event) → Earns config_part config_apart w e
config_earned w e reply due awaits = record {
  commit = λ proved tried is q. on_touch config_part w e (told reply w.agent).saved (with_settings (told reply w.agent)) refl q;
  config = config;
}
  where
    config : (a : AgentHalf) (failure : Option (List ℕ)) → failure ≡ (reactions_in e).failure → (o : Option AgentRemoteConfig) → (next_of reply w.agent).config ≡ o
        → AllFollow (Stands config_part w e) (option_to_list (option_map (config_call a failure) o))
    config a failure same None is = tt
    config a failure same (Some offer) is = by_names (not (are_good_names (offered_files offer).config_map)) refl
      where
        All : Call → Type 0
        All c = AllFollow (Stands config_part w e) (c ∷ [])

        untouched : (text : List ℕ) → All (failed_call offer text)
        untouched text = ((λ b q. on_touch config_part w e b.saved (record (b.saved) { remote = failed_with offer text }) refl q), tt)

        earned : are_good_names (offered_files offer).config_map ≡ true → failure ≡ None → IsAppliedIn w e (offered_files offer)
        earned good held =
            let asked = asked_offer w.agent reply offer is in
            let parts = answer_parts reply asked.0 in
            record {
              awaited = awaits;
              reply = reply;
              answered = due parts.1;
              no_command = parts.0;
              no_error = parts.1;
              offer = offer;
              offered = asked.1;
              files_are = refl;
              names = good;
              applied = sym same ∙ held;
            }

        by_room : (t : Bool) → are_good_names (offered_files offer).config_map ≡ true → failure ≡ None → All (cond t (applied_call offer) (failed_call offer (codes "too large")))
        by_room true good held = ((λ b q. inr (earned good held)), tt)
        by_room false good held = untouched (codes "too large")

        by_failure : (t : Option (List ℕ)) → failure ≡ t → are_good_names (offered_files offer).config_map ≡ true
            → All (option_map_or (failed_call offer) t (cond (fits a (applied_call offer)) (applied_call offer) (failed_call offer (codes "too large"))))
        by_failure (Some text) so good = untouched text
        by_failure None so good = by_room (fits a (applied_call offer)) good so

        by_names : (t : Bool) → not (are_good_names (offered_files offer).config_map) ≡ t → All (cond t (failed_call offer (codes "bad name"))
            (option_map_or (failed_call offer) failure (cond (fits a (applied_call offer)) (applied_call offer) (failed_call offer (codes "too large")))))
        by_names true so = untouched (codes "bad name")
        by_names false so = by_failure failure refl (not-false (are_good_names (offered_files offer).config_map) so)

pub config_stands : (w : World) (e : Event) → IsSound w → IsFormerOrEarned config_part w e
config_stands w e s = stands_after config_part config_apart w e (config_earned w e)

-- over a whole run

one_more : {T : Type 0} (part : Part T) (start : Start) (past : List Event) (e : Event) (first value : T) → (value ≡ first) ⊎ WasEarned part start past value
    → (value ≡ first) ⊎ WasEarned part start (past ++ e ∷ []) value
one_more part start past e first value (inl same) = inl same
one_more part start past e first value (inr it) =
    inr (record {
      before = it.before;
      event = it.event;
      later = it.later ++ e ∷ [];
      joined = ap (λ es. es ++ e ∷ []) it.joined ∙ append_assoc it.before (it.event ∷ it.later) (e ∷ []);
      earned = it.earned;
    })

pub run-append : (xs ys : List Event) (w : World) → run (xs ++ ys) w ≡ run ys (run xs w)
run-append [] ys w = refl
run-append (x ∷ xs) ys w = run-append xs ys (after w x)

module _ {T : Type 0} (part : Part T) (each : (w : World) (e : Event) → IsSound w → IsFormerOrEarned part w e) where
  abbrev Since : Start → List Event → World → Type 0
  Since start past w = (part.value w.agent.saved ≡ part.value (first_saved start.uid start.settings)) ⊎ WasEarned part start past (part.value w.agent.saved)

  step : (start : Start) (past : List Event) (w : World) (e : Event) → world start past ≡ w → IsSound w → Since start past w → Since start (past ++ e ∷ []) (after w e)
  step start past w e is s so =
      elim (each w e s) [
        | inl same ↦ subst (λ v. (v ≡ part.value (first_saved start.uid start.settings)) ⊎ WasEarned part start (past ++ e ∷ []) v) (sym same)
            (one_more part start past e (part.value (first_saved start.uid start.settings)) (part.value w.agent.saved) so)
        | inr proof ↦ inr (record { before = past; event = e; later = []; joined = refl; earned = subst (λ v. part.IsEarned v e (part.value (after w e).agent.saved)) (sym is) proof })
      ]

  over_run : (start : Start) (events past : List Event) (w : World) → world start past ≡ w → IsSound w → Since start past w → Since start (past ++ events) (run events w)
  over_run start [] past w is s so = subst (λ es. Since start es w) (sym (append-nil past)) so
  over_run start (e ∷ es) past w is s so =
      subst (λ xs. Since start xs (run es (after w e))) (append_assoc past (e ∷ []) es)
      (over_run start es (past ++ e ∷ []) (after w e) (run-append past (e ∷ []) (opening start) ∙ ap (λ v. after v e) is) (after_sound w e s) (step start past w e is s so))

  pub first_or_earned : (start : Start) (events : List Event) → IsFirstOrEarned part start events
  first_or_earned start events = over_run start events [] (opening start) refl (opening_sound start) (inl refl)
