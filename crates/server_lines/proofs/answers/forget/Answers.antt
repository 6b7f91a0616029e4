use Rattle.std.proofs.Common.{ap}
use Rattle.server_core.specs.Served.{Served}
use Rattle.server_lines.proofs.OutcomeLemmas.{runs_forget}
use Rattle.server_lines.proofs.answers.forget.Goals as goal

pub returns : goal.returns
returns c =
    let held = c.forget-held in
    record {
      run = λ sight. runs_forget sight c.args.desk.now.server held.new.self c.args.desk.now.rollouts c.take_out_where.new.rollouts c.args.uid c.in_ok-text.text held.result
          held.ensures.held held.ensures.table c.take_out_where.ensures.out c.in_ok-text.ensures.text;
      profile = ap (λ (s : Served). s.profile) held.ensures.table;
      err = tt;
    }
