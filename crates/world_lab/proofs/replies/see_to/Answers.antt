use Rattle.std.proofs.Common.{◌≡◌, ◌∙◌, None, Option, cond, ap, subst, arith}
use Rattle.std.specs.Option.{option_map}
use Rattle.message_values.specs.declared.config.AgentRemoteConfig.{AgentRemoteConfig}
use Rattle.message_values.specs.declared.reply.ServerToAgent.{ServerToAgent}
use Rattle.message_values.specs.declared.state.Settings.{Settings}
use Rattle.world_lab.specs.declared.configs.Configured.{Configured}
use Rattle.world_lab.specs.declared.plays.Host.{Host}
use Rattle.world_lab.specs.declared.written.TrialEnd.{TrialEnd}
use Rattle.world_lab.specs.Transcripts.{attempt, is_applied}
use Rattle.world_lab.specs.Hearing.{all_fit, config_calls}
use Rattle.world_lab.specs.Hosts.{GoesOn, StopsIn}
use Rattle.world_lab.specs.Taken.{HasTaken}
use Rattle.world_lab.proofs.Heard.{HeardBy, all_heard, begins_idle, begins_settled, config_stops, end_stops, heard_text, still_left, taken_idle, tells_proved, tries_server}
use Rattle.world_lab.proofs.Hosts.{stop_passed}
use Rattle.world_lab.proofs.replies.see_to.Goals as goal

-- the configuration that was taken out is the one that the reply asks for
configured_so : (old new : Host) (due asked : Option AgentRemoteConfig) → due ≡ asked → GoesOn old new (config_calls old.agent.half due) 1 → GoesOn old new (config_calls old.agent.half asked) 1
configured_so old new due asked is goes = subst (λ (o : Option AgentRemoteConfig). GoesOn old new (config_calls old.agent.half o) 1) is goes

pub end_trial-requires : goal.end_trial-requires
end_trial-requires c =
    let before = c.requires.taken.0 in
    let reply = c.requires.taken.1 in
    let h = c.requires.taken.2 in
    record {
      hosted = h.taken.hosted;
      generations = still_left before c.args.host.now _ 1 4 1 h.taken (omega arith) h.generations;
      idle = taken_idle before c.args.host.now reply h.taken h.room;
      proved = tells_proved before c.args.host.now reply c.args.next.now h.taken h.room h.next_is;
    }

pub configure-requires : goal.configure-requires
configure-requires c =
    let before = c.requires.taken.0 in
    let h = c.requires.taken.2 in
    let ended = c.in_ok-trial.ensures.goes in
    record {
      hosted = ended.hosted;
      generations = still_left c.args.host.now c.end_trial.new.host _ 1 3 1 ended (omega arith) (still_left before c.args.host.now _ 1 4 3 h.taken (omega arith) h.generations);
    }

pub begin-requires : goal.begin-requires
begin-requires c =
    let before = c.requires.taken.0 in
    let reply = c.requires.taken.1 in
    let h = c.requires.taken.2 in
    let next = c.args.next.now in
    let ended = c.in_ok-trial.ensures.goes in
    let configured = configured_so c.end_trial.new.host c.configure.new.host _ next.config c.take-config.ensures.value c.in_ok-configured.ensures.goes in
    record {
      hosted = configured.hosted;
      idle = begins_idle before c.args.host.now c.end_trial.new.host c.configure.new.host reply next h.taken h.room ended configured;
      settled = begins_settled before c.args.host.now c.end_trial.new.host c.configure.new.host c.configure.new.host reply next h.taken h.room ended configured;
      server = tries_server before.agent.half reply next c.in_ok-configured.configured.kept _ h.reply_is h.next_is
          (c.where_kept-connection.ensures.next ∙ ap (λ (o : Option Settings). cond c.in_ok-configured.configured.kept o None) c.take-offered.ensures.value);
    }

pub returns : goal.returns
returns c =
    let next = c.args.next.now in
    let mid = c.end_trial.new.host in
    let config_is = c.take-config.ensures.value in
    let last = c.where_kept-connection.result in
    let connection_is = c.where_kept-connection.ensures.next ∙ ap (λ (o : Option Settings). cond c.in_ok-configured.configured.kept o None) c.take-offered.ensures.value
    ∙ ap (λ kept. cond kept next.connection None) (c.in_ok-configured.ensures.kept ∙ ap (λ (o : Option AgentRemoteConfig). all_fit mid.agent.half (config_calls mid.agent.half o)) config_is) in
    let heard : (before : Host) (reply : ServerToAgent) → HasTaken before c.args.host.now reply next
    → HeardBy before c.args.host.now c.end_trial.new.host c.configure.new.host c.begin.new.host reply next last = λ before reply h. record {
      taken = h.taken;
      ended = c.in_ok-trial.ensures.goes;
      configured = configured_so mid c.configure.new.host _ next.config config_is c.in_ok-configured.ensures.goes;
      begun = c.in_ok-attempt.ensures.goes;
      next_is = h.next_is;
      room = h.room;
      reply_is = h.reply_is;
      connection_is = connection_is;
    } in
    record {
      goes = λ before reply h. all_heard before c.args.host.now c.end_trial.new.host c.configure.new.host c.begin.new.host reply next last (heard before reply h) h.awaits;
      written = λ before reply h. heard_text before c.args.host.now c.end_trial.new.host c.configure.new.host c.begin.new.host reply next last _ _ _ (heard before reply h) h.awaits
          c.in_ok-trial.ensures.end (c.in_ok-configured.ensures.applied ∙ ap (λ (o : Option AgentRemoteConfig). option_map (is_applied mid.agent.half) o) config_is)
          (c.in_ok-attempt.ensures.attempt ∙ ap (attempt last) c.take-refused.ensures.value);
      stopped = λ e. absurd (cc e);
    }

pub returns-in_err-trial-clause-stopped : goal.returns-in_err-trial-clause-stopped
returns-in_err-trial-clause-stopped c = λ e before reply h.
    end_stops before c.args.host.now c.end_trial.new.host reply c.args.next.now h.taken h.room h.reply_is h.next_is h.awaits
    (c.in_err-trial.ensures.stopped (stop_passed (Option TrialEnd) c.from_residual.result c.in_err-trial.field-0.0 c.from_residual.ensures.1 e))

pub returns-in_err-configured-clause-stopped : goal.returns-in_err-configured-clause-stopped
returns-in_err-configured-clause-stopped c = λ e before reply h.
    config_stops before c.args.host.now c.end_trial.new.host c.configure.new.host reply c.args.next.now h.taken h.room h.reply_is h.next_is h.awaits c.in_ok-trial.ensures.goes
    (subst (λ (o : Option AgentRemoteConfig). StopsIn c.end_trial.new.host c.configure.new.host (config_calls c.end_trial.new.host.agent.half o) 1) c.take-config.ensures.value
    (c.in_err-configured.ensures.stopped (stop_passed Configured c.from_residual-in_err-configured.result c.in_err-configured.field-0.0 c.from_residual-in_err-configured.ensures.1 e)))
