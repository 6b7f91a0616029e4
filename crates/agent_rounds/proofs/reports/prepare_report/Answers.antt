use Rattle.std.proofs.Common.{Ok, Err, refl}
use Rattle.message_handlers.specs.Names.{IsOrdered, names_of}
use Rattle.message_values.specs.declared.custom.CustomCapabilities.{CustomCapabilities}
use Rattle.agent_rounds.specs.Moments.{held_view, with_agent, with_folder, with_held, with_saves}
use Rattle.agent_rounds.specs.Parts.{MakesReport}
use Rattle.agent_rounds.specs.Rounds.{Informs}
use Rattle.agent_rounds.proofs.ReportLemmas.{settling_intact}
use Rattle.agent_rounds.proofs.RunLemmas.{run_beside, run_ends, run_on}
use Rattle.agent_rounds.proofs.reports.prepare_report.Goals as goal

pub returns-in-Err-clause-runs : goal.returns-in-Err-clause-runs
returns-in-Err-clause-runs g c =
    let are = λ (names : CustomCapabilities). IsOrdered (names_of c.args.handlers.now) names.capabilities in
    let disk = g.D.Disk.state c.args.disk.now in
    λ number s.
    let before = with_agent c.args.agent.now (with_held (held_view number c.args.held.now) (with_folder (g.F.Folder.state c.args.folder.now) s)) in
    let between = with_agent c.inform.new.agent (with_held (held_view number c.inform.new.held) (with_folder (g.F.Folder.state c.inform.new.folder) s)) in
    run_ends (Informs are) (λ _. MakesReport) disk disk before between c.in-Err.end
    (run_beside (Informs are) disk before between (Err c.in-Err.end) c.requires.fits c.in-Err.ensures.store c.in-Err.ensures.kept
    (settling_intact c.in-Err.end c.in-Err.ensures.end) (c.in-Err.ensures.informs number s))

pub returns-clause-runs : goal.returns-clause-runs
returns-clause-runs g c =
    let are = λ (names : CustomCapabilities). IsOrdered (names_of c.args.handlers.now) names.capabilities in
    let disk = g.D.Disk.state c.args.disk.now in
    λ number s.
    let before = with_agent c.args.agent.now (with_held (held_view number c.args.held.now) (with_folder (g.F.Folder.state c.args.folder.now) s)) in
    let rest = with_held (held_view number c.inform.new.held) (with_folder (g.F.Folder.state c.inform.new.folder) s) in
    let first = run_beside (Informs are) disk before (with_agent c.inform.new.agent rest) (Ok tt) c.requires.fits c.in-Ok.ensures.store c.in-Ok.ensures.kept
    refl (c.in-Ok.ensures.informs number s)
    in
    run_on (Informs are) (λ _. MakesReport) disk disk (g.D.Disk.state c.make_report.new.disk) before (with_agent c.inform.new.agent rest)
    (with_agent c.make_report.new.agent rest) tt c.make_report.result first (c.make_report.ensures.runs (with_saves first.saves rest))
