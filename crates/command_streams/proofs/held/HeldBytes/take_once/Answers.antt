use Rattle.std.proofs.Common.{◌≡◌, ◌≤◌, ◌++◌, List, ℕ, length, take, drop, Result, Ok, Err, ap, ◌∙◌, arith}
use Rattle.std.specs.Prelude.{OnErr}
use Rattle.std.proofs.lemmas.List.{take_at}
use Rattle.std.proofs.lemmas.Result.{IfOk-from_err}
use Rattle.command_streams.specs.Held.{HeldState}
use Rattle.command_streams.proofs.Taking.{TakesBehind-held}
use Rattle.command_streams.proofs.held.HeldBytes.take_once.Goals as goal

on_err : {T E : Type 0} (r : Result T E) (P : Type 0) → P → OnErr r P
on_err (Ok x) P here = tt
on_err (Err e) P here = here

pub returns : goal.returns
returns g c =
    let buffer = c.self.inside.buffer in
    let start = c.self.inside.start in
    let end = c.self.inside.end in
    let before = c.as_mut_slice.result.now in
    let after = c.take_behind.new.buffer in
    let size : length after ≡ buffer.len = omega (arith, c.take_behind.ensures.len, c.as_mut_slice.ensures.len) in
    let within : end ≤ length before = omega (arith, c.self.invariant.1, c.as_mut_slice.ensures.len) in
    let whole : take buffer.len (after ++ drop (length after) buffer.items) ≡ after = take_at after (drop (length after) buffer.items) buffer.len size in
    let holds : drop start (take end before) ≡ c.args.self.now.bytes = ap (λ (t : List ℕ). drop start (take end t)) c.as_mut_slice.ensures.value ∙ ap (λ (s : HeldState). s.bytes) c.self.view_is in
    let came = TakesBehind-held start end c.in_ok-n.n before after (take buffer.len (after ++ drop (length after) buffer.items)) c.args.self.now.bytes (g.S.Source.left c.args.source.now) (g.S.Source.left c.take_behind.new.source) c.self.invariant.0 within whole holds c.in_ok-n.ensures.more in
    record {
      within = c.in_ok-n.ensures.within;
      more = (came.0, came.1, ap (λ (s : HeldState). s.at) c.self.view_is, came.2, came.3);
      at_end = c.in_ok-n.ensures.at_end;
      fault = tt;
      kept = tt;
      count = c.take_behind.ensures.count;
    }

pub returns-in_err-n : goal.returns-in_err-n
returns-in_err-n g c = record {
  within = IfOk-from_err _ _ c.from_residual.ensures.0;
  more = IfOk-from_err _ _ c.from_residual.ensures.0;
  at_end = IfOk-from_err _ _ c.from_residual.ensures.0;
  fault = on_err c.from_residual.result _ c.in_err-n.ensures.fault;
  kept = on_err c.from_residual.result _ c.in_err-n.ensures.kept;
  count = c.take_behind.ensures.count;
}
