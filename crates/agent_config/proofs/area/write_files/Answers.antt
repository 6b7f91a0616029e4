use Rattle.edge_devices.proofs.Running.{runs_end}
use Rattle.agent_config.proofs.Bringing.{writes_more}
use Rattle.agent_config.proofs.Naming.{good_at}
use Rattle.agent_config.proofs.area.write_files.Goals as goal

pub returns-in_err-write_file-clause-calls : goal.returns-in_err-write_file-clause-calls
returns-in_err-write_file-clause-calls g c = runs_end _ _ _ tt _ _ c.from_residual.ensures.1 c.loop-file.invariant.runs c.in_err-write_file.ensures.calls

pub loop-file-preserved : goal.loop-file-preserved
loop-file-preserved g c =
    let e = c.in_ok-write_file.ensures in
    writes_more _ _ _ c.args.files.now c.loop-file.file-index c.file-item.result c.loop-file.invariant c.loop-file-test.true c.file-item.is e.files e.others e.calls

pub write_file-requires : goal.write_file-requires
write_file-requires g c = good_at c.args.files.now c.loop-file.file-index c.file-item.result c.requires c.loop-file-test.true c.file-item.is
