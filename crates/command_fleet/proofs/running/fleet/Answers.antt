use Rattle.std.proofs.Common.{inl}
use Rattle.std.proofs.KnownBytes.{Keeps-refl}
use Rattle.std.proofs.lemmas.Result.{err_from_is_err_and}
use Rattle.command_fleet.proofs.Written.{each_history, fleet_cut, journals_of, nothing_written}
use Rattle.command_fleet.proofs.running.fleet.Goals as goal

-- ---- before anything is written

pub returns-in_err-stop-clause-writes : goal.returns-in_err-stop-clause-writes
returns-in_err-stop-clause-writes g c =
    let p = err_from_is_err_and c.from_residual.result c.from_residual.ensures.1 in
    rw (p.1, p.2) (nothing_written c.args.desks c.args.budget (g.S.Source.left c.args.source.now) (g.K.Sink.taken c.args.sink.now) c.in_err-stop.field-0.0 c.in_err-stop.ensures.no_write_fault)

pub returns-in_err-journals-clause-writes : goal.returns-in_err-journals-clause-writes
returns-in_err-journals-clause-writes g c =
    let p = err_from_is_err_and c.from_residual-in_err-journals.result c.from_residual-in_err-journals.ensures.1 in
    rw (p.1, p.2) (inl (Keeps-refl (g.K.Sink.taken c.args.sink.now)))

-- ---- the journals are written

pub put_fleet-requires : goal.put_fleet-requires
put_fleet-requires g c =
    let are = journals_of c.as_slice.result.now c.read_by_desks.new.reports c.args.desks c.in_ok-journals.journals c.as_slice-2.result.now c.as_slice.ensures.value c.as_slice-2.ensures.value c.in_ok-journals.ensures.journals in
    record { four = are.four; histories = each_history c.read_by_desks.new.reports c.args.desks c.as_slice-2.result.now are }

pub returns-in_err-put_fleet-clause-writes : goal.returns-in_err-put_fleet-clause-writes
returns-in_err-put_fleet-clause-writes g c =
    let p = err_from_is_err_and c.from_residual-in_err-put_fleet.result c.from_residual-in_err-put_fleet.ensures.1 in
    let are = journals_of c.as_slice.result.now c.read_by_desks.new.reports c.args.desks c.in_ok-journals.journals c.as_slice-2.result.now c.as_slice.ensures.value c.as_slice-2.ensures.value c.in_ok-journals.ensures.journals in
    rw (p.1, p.2) (fleet_cut c.args.desks c.args.budget (g.S.Source.left c.args.source.now) (g.K.Sink.taken c.args.sink.now) (g.K.Sink.taken c.put_fleet.new.sink)
    c.read_by_desks.new.reports c.as_slice-2.result.now c.in_ok-stop.stop c.in_err-put_fleet.field-0.0 c.in_ok-stop.ensures.reads are c.in_err-put_fleet.ensures.short)

pub returns-clause-writes : goal.returns-clause-writes
returns-clause-writes g c =
    let are = journals_of c.as_slice.result.now c.read_by_desks.new.reports c.args.desks c.in_ok-journals.journals c.as_slice-2.result.now c.as_slice.ensures.value c.as_slice-2.ensures.value c.in_ok-journals.ensures.journals in
    (c.as_slice-2.result.now, (c.read_by_desks.new.reports, c.in_ok-stop.ensures.reads, are), c.in_ok-put_fleet.ensures.ok)
