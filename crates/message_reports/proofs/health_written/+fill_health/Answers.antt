use Rattle.std.proofs.Common.{arith}
use Rattle.message_reports.proofs.HealthFilled.{component_before, front_before}
use Rattle.message_reports.proofs.health_written.+fill_health.Goals as goal

pub loop-left-preserved : goal.loop-left-preserved
loop-left-preserved t c = record {
  within = omega (arith, c.loop-left.invariant.within);
  filled = λ place.
      component_before c.args.health.now c.as_slice-components.result.now c.loop-left.left c.index-components-left.result c.args.out.now c.loop-left.out c.fill_health-start.new.out c.fill_head-value.new.out c.fill_text-entry.new.out c.fill_head-at.new.out
      c.args.end c.loop-left.at c.fill_health-start.result c.fill_head-value.result c.fill_text-entry.result c.fill_head-at.result c.as_slice-components.ensures.value c.loop-left-test.true c.loop-left.invariant.within c.index-components-left.is place
      (c.loop-left.invariant.filled place) c.fill_health-start.ensures.fills c.fill_head-value.ensures.fills c.fill_text-entry.ensures.fills c.fill_head-at.ensures.fills;
}

pub returns : goal.returns
returns t c = record {
  fills = λ place.
      front_before c.args.health.now c.as_slice-components.result.now c.loop-left.left c.args.out.now c.loop-left.out c.fill_front.new.out c.args.end c.loop-left.at c.fill_front.result c.as_slice-components.ensures.value c.loop-left-test.false place
      (c.loop-left.invariant.filled place) c.fill_front.ensures.fills;
}
