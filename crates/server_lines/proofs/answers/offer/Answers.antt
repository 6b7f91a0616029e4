use Rattle.server_lines.proofs.OutcomeLemmas.{offer_answered, offer_profile, nothing_done}
use Rattle.server_lines.proofs.answers.offer.Goals as goal

pub returns : goal.returns
returns c =
    let done = c.offer-done in
    record {
      run = λ sight. offer_answered sight c.args.desk.now.server done.new.self c.args.desk.now.rollouts c.args.uid c.args.offer done.result c.outcome.result
          done.ensures.offered done.ensures.table done.ensures.failed done.ensures.err c.outcome.ensures.words;
      profile = offer_profile c.args.desk.now.server done.new.self c.args.uid c.args.offer done.result done.ensures.table done.ensures.err;
      err = nothing_done c.args.desk.now.server done.new.self c.args.desk.now.rollouts done.result c.outcome.result c.outcome.ensures.err done.ensures.err;
    }
