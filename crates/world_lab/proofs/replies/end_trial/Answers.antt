use Rattle.std.proofs.Common.{◌∙◌, Bool, Option, inl, ap, sym, arith}
use Rattle.agent_rules.specs.Offers.{trial_calls}
use Rattle.world_lab.specs.declared.written.TrialEnd.{TrialEnd}
use Rattle.world_lab.proofs.Hosts.{more_saves, same_stop}
use Rattle.world_lab.proofs.Heard.{no_end, no_trial, trial_stops}
use Rattle.world_lab.proofs.replies.end_trial.Goals as goal

pub returns-then-not-trying : goal.returns-then-not-trying
returns-then-not-trying c =
    let none = sym c.if-not-trying.ensures.trying in
    record { goes = no_trial c.args.host.now c.requires.hosted none; end = no_end c.args.host.now.agent.half none; stopped = λ e. absurd (cc e) }

pub abandon-requires : goal.abandon-requires
abandon-requires c = record {
  hosted = c.requires.hosted;
  idle = c.requires.idle;
  trying = sym c.if-not-trying.ensures.trying;
  lost = inl (sym c.requires.proved ∙ c.if-not-proved.true);
  endpoint = c.in_ok-endpoint.ensures.copied ∙ ap (λ t. t.endpoint) c.target.ensures.target;
}

pub returns-then-not-proved : goal.returns-then-not-proved
returns-then-not-proved c = record {
  goes = more_saves c.args.host.now c.abandon.new.host (trial_calls c.args.host.now.agent.half) 0 1 (omega arith) c.abandon.ensures.goes;
  end = c.abandon.ensures.end;
  stopped = λ e. absurd (cc e);
}

pub commit-requires : goal.commit-requires
commit-requires c = record {
  hosted = c.requires.hosted;
  generations = c.requires.generations;
  trying = sym c.if-not-trying.ensures.trying;
  proved = sym c.requires.proved ∙ c.if-not-proved.false;
}

pub returns-in-Err-clause-stopped : goal.returns-in-Err-clause-stopped
returns-in-Err-clause-stopped c = λ e.
    trial_stops c.args.host.now c.commit.new.host (c.in-Err.ensures.stopped (same_stop (Option TrialEnd) Bool c.in-Err.fail e)) (sym c.if-not-trying.ensures.trying) (sym c.requires.proved ∙ c.if-not-proved.false)
