use Rattle.std.proofs.Common.{ap}
use Rattle.server_core.specs.Served.{Served}
use Rattle.server_lines.proofs.OutcomeLemmas.{runs_forget_left}
use Rattle.server_lines.proofs.answers.forget_left.Goals as goal

pub returns : goal.returns
returns c =
    record {
      run = λ sight. runs_forget_left sight c.args.desk.now.server c.forget_left.new.self c.args.desk.now.rollouts c.take_out_left.new.rollouts c.list.result.now c.in_ok-ok.ok
          c.forget_left.ensures.table c.list.ensures.all c.take_out_left.ensures.left c.in_ok-ok.ensures.text;
      profile = ap (λ (s : Served). s.profile) c.forget_left.ensures.table;
      err = tt;
    }
