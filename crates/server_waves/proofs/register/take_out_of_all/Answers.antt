use Rattle.std.proofs.Common.{◌≡◌, ◌<◌, length, ap, arith}
use Rattle.std.specs.Prelude.{slice_set}
use Rattle.server_waves.specs.Register.{without_agent}
use Rattle.server_waves.proofs.FoldLemmas.{map_all, map_length, map_more}
use Rattle.server_waves.proofs.register.take_out_of_all.Goals as goal

pub loop-at-preserved : goal.loop-at-preserved
loop-at-preserved c =
    let it = c.loop-at.invariant in
    let xs = c.args.rollouts.now.items in
    let many : length c.loop-at.rollouts.items ≡ length xs = map_length (without_agent c.args.uid.now) xs c.loop-at.rollouts.items c.loop-at.at it.taken_out it.within in
    let within : c.loop-at.at < length xs = omega (arith, c.loop-at-test.true, c.len.ensures, c.loop-at.rollouts.ok, many) in
    record {
      within = omega (arith, within);
      taken_out = map_more (without_agent c.args.uid.now) xs c.loop-at.rollouts.items _ c.loop-at.at c.index_mut.result.now it.taken_out within c.index_mut.ensures.value
          (ap (slice_set c.loop-at.rollouts.items c.loop-at.at) c.take_out.ensures.taken_out);
    }

pub returns : goal.returns
returns c =
    let it = c.loop-at.invariant in
    let xs = c.args.rollouts.now.items in
    let many : length c.loop-at.rollouts.items ≡ length xs = map_length (without_agent c.args.uid.now) xs c.loop-at.rollouts.items c.loop-at.at it.taken_out it.within in
    record { taken_out = map_all (without_agent c.args.uid.now) xs c.loop-at.rollouts.items c.loop-at.at it.taken_out (omega (arith, c.loop-at-test.false, c.len.ensures, c.loop-at.rollouts.ok, many)) }
