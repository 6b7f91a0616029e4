use Rattle.std.proofs.Common.{◌≡◌, ◌<◌, length, ap, arith}
use Rattle.std.specs.Prelude.{slice_set}
use Rattle.server_waves.specs.Register.{with_waves}
use Rattle.server_waves.specs.Turns.{turned}
use Rattle.server_waves.proofs.FoldLemmas.{map_all, map_length, map_more}
use Rattle.server_waves.proofs.register.turn_all.Goals as goal

pub loop-at-preserved : goal.loop-at-preserved
loop-at-preserved c =
    let it = c.loop-at.invariant in
    let xs = c.args.rollouts.now.items in
    let many : length c.loop-at.rollouts.items ≡ length xs = map_length (with_waves (turned c.args.turn) c.args.id.now) xs c.loop-at.rollouts.items c.loop-at.at it.turned it.within in
    let within : c.loop-at.at < length xs = omega (arith, c.loop-at-test.true, c.len.ensures, c.loop-at.rollouts.ok, many) in
    record {
      within = omega (arith, within);
      turned = map_more (with_waves (turned c.args.turn) c.args.id.now) xs c.loop-at.rollouts.items _ c.loop-at.at c.index_mut.result.now it.turned within c.index_mut.ensures.value
          (ap (slice_set c.loop-at.rollouts.items c.loop-at.at) c.turn_named.ensures.turned);
    }

pub returns : goal.returns
returns c =
    let it = c.loop-at.invariant in
    let xs = c.args.rollouts.now.items in
    let many : length c.loop-at.rollouts.items ≡ length xs = map_length (with_waves (turned c.args.turn) c.args.id.now) xs c.loop-at.rollouts.items c.loop-at.at it.turned it.within in
    record { turned = map_all (with_waves (turned c.args.turn) c.args.id.now) xs c.loop-at.rollouts.items c.loop-at.at it.turned (omega (arith, c.loop-at-test.false, c.len.ensures, c.loop-at.rollouts.ok, many)) }
