-- How a trial ends.
use Rattle.std.proofs.Common.{◌≡◌, true, false, ◌∙◌, sym, ap}
use Rattle.std.specs.Prelude.{is_some}
use Rattle.agent_rules.specs.Half.{AgentHalf}
use Rattle.agent_rounds.proofs.TrialLemmas.{large_fits, large_idle, left_fits, none_tried, trial_kept, trial_large, trial_none, trial_refused, trial_unproved}
use Rattle.agent_rounds.proofs.trials.end_trial.Goals as goal

pub returns-then-not-trying-clause-does : goal.returns-then-not-trying-clause-does
returns-then-not-trying-clause-does g c = λ s.
    let none : is_some c.args.agent.now.half.trial ≡ false = sym c.trying.ensures.trying ∙ c.if-not-trying.true in
    trial_none (g.D.Disk.state c.args.disk.now) c.args.agent.now s c.requires.fits none

pub returns-then-not-trying-clause-fits : goal.returns-then-not-trying-clause-fits
returns-then-not-trying-clause-fits g c = c.requires.fits

pub returns-then-not-trying-clause-idle : goal.returns-then-not-trying-clause-idle
returns-then-not-trying-clause-idle g c = c.requires.idle

pub returns-then-not-trying-clause-settled : goal.returns-then-not-trying-clause-settled
returns-then-not-trying-clause-settled g c = none_tried c.args.agent.now.half.trial (sym c.trying.ensures.trying ∙ c.if-not-trying.true)

pub returns-then-not-proved-clause-does : goal.returns-then-not-proved-clause-does
returns-then-not-proved-clause-does g c = λ s.
    let tries : is_some c.args.agent.now.half.trial ≡ true = sym c.trying.ensures.trying ∙ c.if-not-trying.false in
    let unproved : c.args.agent.now.half.proved ≡ false = c.requires.proved ∙ c.if-not-proved.true in
    trial_unproved (g.D.Disk.state c.args.disk.now) c.args.agent.now c.abandon_try.new.self s c.requires.fits tries unproved c.abandon_try.ensures.left c.abandon_try.ensures.store

pub returns-then-not-proved-clause-fits : goal.returns-then-not-proved-clause-fits
returns-then-not-proved-clause-fits g c =
    left_fits (g.D.Disk.state c.args.disk.now) c.args.agent.now c.abandon_try.new.self c.requires.fits c.abandon_try.ensures.left c.abandon_try.ensures.store

pub returns-then-not-proved-clause-idle : goal.returns-then-not-proved-clause-idle
returns-then-not-proved-clause-idle g c = ap (λ (h : AgentHalf). h.awaits) c.abandon_try.ensures.left ∙ c.requires.idle

pub returns-then-not-proved-clause-settled : goal.returns-then-not-proved-clause-settled
returns-then-not-proved-clause-settled g c = ap (λ (h : AgentHalf). h.trial) c.abandon_try.ensures.left

pub returns-in-Ok-clause-does : goal.returns-in-Ok-clause-does
returns-in-Ok-clause-does g c = λ s.
    let tries : is_some c.args.agent.now.half.trial ≡ true = sym c.trying.ensures.trying ∙ c.if-not-trying.false in
    let proved : c.args.agent.now.half.proved ≡ true = c.requires.proved ∙ c.if-not-proved.false in
    trial_kept (g.D.Disk.state c.args.disk.now) (g.D.Disk.state c.commit_try.new.disk) (g.D.Disk.countdown c.args.disk.now) (g.D.Disk.countdown c.commit_try.new.disk) c.args.agent.now c.commit_try.new.self s
    c.requires.fits tries proved tt c.in-Ok.ensures.room c.in-Ok.ensures.kept c.in-Ok.ensures.one_save

pub returns-in-Ok-clause-fits : goal.returns-in-Ok-clause-fits
returns-in-Ok-clause-fits g c = c.in-Ok.ensures.one_save.fits (λ is. cc)

pub returns-in-Ok-clause-idle : goal.returns-in-Ok-clause-idle
returns-in-Ok-clause-idle g c = ap (λ (h : AgentHalf). h.awaits) c.in-Ok.ensures.kept ∙ c.requires.idle

pub returns-in-Ok-clause-settled : goal.returns-in-Ok-clause-settled
returns-in-Ok-clause-settled g c = ap (λ (h : AgentHalf). h.trial) c.in-Ok.ensures.kept

pub returns-in-TooLarge-clause-does : goal.returns-in-TooLarge-clause-does
returns-in-TooLarge-clause-does g c = λ s.
    let tries : is_some c.args.agent.now.half.trial ≡ true = sym c.trying.ensures.trying ∙ c.if-not-trying.false in
    let proved : c.args.agent.now.half.proved ≡ true = c.requires.proved ∙ c.if-not-proved.false in
    trial_large (g.D.Disk.state c.args.disk.now) (g.D.Disk.state c.commit_try.new.disk) (g.D.Disk.countdown c.args.disk.now) (g.D.Disk.countdown c.commit_try.new.disk) c.args.agent.now c.commit_try.new.self s
    c.requires.fits tries proved (Unit {0}) c.in-Err.ensures.one_save.room c.abandon_try-in-TooLarge.new.self
    (rw c.in-TooLarge.is at c.in-Err.ensures.one_save) (rw c.in-TooLarge.is at c.in-Err.ensures.refused)
    c.abandon_try-in-TooLarge.ensures.left c.abandon_try-in-TooLarge.ensures.store

pub returns-in-TooLarge-clause-fits : goal.returns-in-TooLarge-clause-fits
returns-in-TooLarge-clause-fits g c =
    large_fits (Unit {0}) (g.D.Disk.state c.args.disk.now) (g.D.Disk.state c.commit_try.new.disk) (g.D.Disk.countdown c.args.disk.now) (g.D.Disk.countdown c.commit_try.new.disk)
    c.args.agent.now c.commit_try.new.self c.abandon_try-in-TooLarge.new.self (rw c.in-TooLarge.is at c.in-Err.ensures.one_save) c.abandon_try-in-TooLarge.ensures.left c.abandon_try-in-TooLarge.ensures.store

pub returns-in-TooLarge-clause-idle : goal.returns-in-TooLarge-clause-idle
returns-in-TooLarge-clause-idle g c =
    large_idle (Unit {0}) (g.D.Disk.state c.args.disk.now) (g.D.Disk.state c.commit_try.new.disk) (g.D.Disk.countdown c.args.disk.now) (g.D.Disk.countdown c.commit_try.new.disk)
    c.args.agent.now c.commit_try.new.self c.abandon_try-in-TooLarge.new.self (rw c.in-TooLarge.is at c.in-Err.ensures.one_save) c.abandon_try-in-TooLarge.ensures.left c.requires.idle

pub returns-in-TooLarge-clause-settled : goal.returns-in-TooLarge-clause-settled
returns-in-TooLarge-clause-settled g c = ap (λ (h : AgentHalf). h.trial) c.abandon_try-in-TooLarge.ensures.left

pub returns-in_default-clause-does : goal.returns-in_default-clause-does
returns-in_default-clause-does g c = λ s.
    let tries : is_some c.args.agent.now.half.trial ≡ true = sym c.trying.ensures.trying ∙ c.if-not-trying.false in
    let proved : c.args.agent.now.half.proved ≡ true = c.requires.proved ∙ c.if-not-proved.false in
    trial_refused (g.D.Disk.state c.args.disk.now) (g.D.Disk.state c.commit_try.new.disk) (g.D.Disk.countdown c.args.disk.now) (g.D.Disk.countdown c.commit_try.new.disk) c.args.agent.now c.commit_try.new.self s
    c.requires.fits tries proved (Unit {0}) c.in-Err.ensures.one_save.room c.in-Err.fail c.end_of.result c.end_of.ensures.end
    c.in_default.not-TooLarge c.in-Err.ensures.one_save c.in-Err.ensures.refused

pub returns-in_default-clause-end : goal.returns-in_default-clause-end
returns-in_default-clause-end g c = c.end_of.ensures.call
