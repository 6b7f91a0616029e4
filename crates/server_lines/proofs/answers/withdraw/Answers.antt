use Rattle.server_lines.proofs.OutcomeLemmas.{withdraw_answered, withdraw_profile, nothing_done}
use Rattle.server_lines.proofs.answers.withdraw.Goals as goal

pub returns : goal.returns
returns c =
    let done = c.withdraw-done in
    record {
      run = λ sight. withdraw_answered sight c.args.desk.now.server done.new.self c.args.desk.now.rollouts c.args.uid done.result c.outcome.result done.ensures.ok done.ensures.failed done.ensures.err c.outcome.ensures.words;
      profile = withdraw_profile c.args.desk.now.server done.new.self c.args.uid done.result done.ensures.ok done.ensures.err;
      err = nothing_done c.args.desk.now.server done.new.self c.args.desk.now.rollouts done.result c.outcome.result c.outcome.ensures.err done.ensures.err;
    }
