use Rattle.std.proofs.lemmas.Result.{IfOk-weaker}
use Rattle.command_fleet.proofs.Blocks.{reports_read}
use Rattle.command_fleet.proofs.Taken.{taken_by_frames}
use Rattle.command_fleet.proofs.reading.read_reports.Goals as goal

pub returns-clause-reads : goal.returns-clause-reads
returns-clause-reads g c =
    IfOk-weaker c.take_all.result _ _ (λ stop taken. reports_read c.args.budget (g.S.Source.left c.args.source.now) c.take_all.new.handler stop (rw c.requires.empty at taken)) c.take_all.ensures.taken

pub returns-clause-few : goal.returns-clause-few
returns-clause-few g c = taken_by_frames _ _ _ (rw c.requires.empty at c.take_all.ensures.no_further)
