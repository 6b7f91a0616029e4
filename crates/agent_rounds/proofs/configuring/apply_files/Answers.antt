-- The offered files were applied, or not.
use Rattle.std.proofs.Common.{Ok, Err, refl, sym, ap}
use Rattle.agent_config.specs.Config.{as_offer}
use Rattle.agent_rounds.specs.Moments.{held_view, with_agent, with_folder, with_held}
use Rattle.agent_rounds.specs.Status.{HeldView}
use Rattle.agent_rounds.proofs.ConfigLemmas.{applied_to, tells_bad_name}
use Rattle.agent_rounds.proofs.configuring.apply_files.Goals as goal

pub returns-in-Ok-clause-does : goal.returns-in-Ok-clause-does
returns-in-Ok-clause-does g c = λ hash number s.
    let old = g.F.Folder.state c.args.folder.now in
    let new = g.F.Folder.state c.apply.new.folder in
    let held = held_view number c.args.held.now in
    record {
      answer = Ok c.in-Ok.outcome;
      applies = applied_to (as_offer c.args.trial.now.tried hash) c.args.trial.now.tried c.args.trial.now.former c.args.agent.now.half.saved.config old new (Ok c.in-Ok.outcome) refl c.requires.former (record {
        calls = c.in-Ok.ensures.calls;
        applied = c.in-Ok.ensures.applied;
        back = c.in-Ok.ensures.settled;
        undone = λ name is. ap g.F.Folder.state (c.in-Ok.ensures.untouched name (c.in-Ok.ensures.good_names name is));
        others = c.in-Ok.ensures.others;
      });
      names = tells_bad_name (as_offer c.args.trial.now.tried hash) c.args.trial.now.tried c.in-Ok.outcome refl c.in-Ok.ensures.bad_name c.in-Ok.ensures.good_names;
      rest = ap (λ (h : HeldView). with_agent c.args.agent.now (with_held h (with_folder new s))) (sym (c.settling_after-held.ensures held refl));
      end = refl;
    }

pub returns-in-Err-clause-does : goal.returns-in-Err-clause-does
returns-in-Err-clause-does g c = λ hash number s.
    let old = g.F.Folder.state c.args.folder.now in
    let new = g.F.Folder.state c.apply.new.folder in
    record {
      answer = Err c.in-Err.field-0;
      applies = applied_to (as_offer c.args.trial.now.tried hash) c.args.trial.now.tried c.args.trial.now.former c.args.agent.now.half.saved.config old new (Err c.in-Err.field-0) refl c.requires.former (record {
        calls = c.in-Err.ensures.calls;
        applied = c.in-Err.ensures.applied;
        back = c.in-Err.ensures.settled;
        undone = λ name is. ap g.F.Folder.state (c.in-Err.ensures.untouched name (c.in-Err.ensures.good_names name is));
        others = c.in-Err.ensures.others;
      });
      names = tt;
      rest = refl;
      end = refl;
    }
