use Rattle.std.proofs.Common.{inl, inr, refl}
use Rattle.std.proofs.lemmas.Result.{err_from_is_err_and}
use Rattle.command_scripts.specs.Simulating.{script_note}
use Rattle.command_scripts.proofs.Scripts.{taken_front}
use Rattle.command_scripts.proofs.simulate.refuse.Goals as goal

pub returns-in_err-put-clause-ends : goal.returns-in_err-put-clause-ends
returns-in_err-put-clause-ends g c =
    let p = err_from_is_err_and c.from_residual-in_err-put.result c.from_residual-in_err-put.ensures.1 in
    let part = rw (c.as_bytes.ensures.value, c.in_ok-note.ensures.note) at c.in_err-put.ensures.bytes in
    rw (p.1, p.2) (inr (inr (inl refl, taken_front (g.K.Sink.taken c.args.sink.now) (g.K.Sink.taken c.put.new.self) part.0 (script_note c.args.at c.args.why) part.1)))
