use Rattle.std.proofs.Common.{◌≡◌, ◌<◌, ◌∙◌, length, arith, refl}
use Rattle.server_waves.specs.Candidates.{is_candidate, is_candidate_or_heard}
use Rattle.server_waves.proofs.FoldLemmas.{all_done, front_current, front_length, front_more, front_part, none_yet}
use Rattle.server_waves.proofs.Results.{on_err}
use Rattle.server_waves.proofs.points.come_to_each.Goals as goal

pub loop-at-init : goal.loop-at-init
loop-at-init g c = record {
  front = none_yet (g.J.Judge.finds_fine c.args.judge.now) c.args.heard.now c.args.rollouts.now.items c.args.server.now.table c.args.newly.now (is_candidate c.args.later.now) c.requires.none;
  profile = refl;
}

pub follow_event-requires : goal.follow_event-requires
follow_event-requires g c =
    let it = c.loop-at.invariant in
    let many : length c.loop-at.rollouts.items ≡ length c.args.rollouts.now.items = front_length (g.J.Judge.finds_fine c.args.judge.now) c.args.heard.now c.args.rollouts.now.items c.args.server.now.table c.loop-at.at c.loop-at.rollouts.items c.loop-at.server.table c.loop-at.newly (is_candidate c.loop-at.later) it.front in
    let within : c.loop-at.at < length c.args.rollouts.now.items = omega (arith, c.loop-at-test.true, c.len.ensures, c.loop-at.rollouts.ok, many) in
    record {
      undecided = front_current (g.J.Judge.finds_fine c.args.judge.now) c.args.heard.now c.args.rollouts.now.items c.args.server.now.table c.loop-at.at c.loop-at.rollouts.items c.loop-at.server.table c.loop-at.newly (is_candidate c.loop-at.later) it.front
          c.index_mut.result.now within c.index_mut.ensures.value (is_candidate_or_heard c.args.before.now c.args.heard.now) c.requires.current;
    }

pub loop-at-preserved : goal.loop-at-preserved
loop-at-preserved g c =
    let it = c.loop-at.invariant in
    let many : length c.loop-at.rollouts.items ≡ length c.args.rollouts.now.items = front_length (g.J.Judge.finds_fine c.args.judge.now) c.args.heard.now c.args.rollouts.now.items c.args.server.now.table c.loop-at.at c.loop-at.rollouts.items c.loop-at.server.table c.loop-at.newly (is_candidate c.loop-at.later) it.front in
    let within : c.loop-at.at < length c.args.rollouts.now.items = omega (arith, c.loop-at-test.true, c.len.ensures, c.loop-at.rollouts.ok, many) in
    record {
      front = front_more (g.J.Judge.finds_fine c.args.judge.now) c.args.heard.now c.args.rollouts.now.items c.args.server.now.table c.loop-at.at c.loop-at.rollouts.items c.loop-at.server.table c.loop-at.newly (is_candidate c.loop-at.later) it.front
          c.index_mut.result.now within c.index_mut.ensures.value c.follow_event.new.rollout c.follow_event.new.server.table c.follow_event.new.newly (is_candidate c.follow_event.new.later)
          c.in_ok-follow_event.ensures.rolled c.in_ok-follow_event.ensures.table c.in_ok-follow_event.ensures.newly c.follow_event.ensures.kept c.in_ok-follow_event.ensures.undecided;
      profile = c.follow_event.ensures.profile ∙ it.profile;
    }

pub loop-at-smaller : goal.loop-at-smaller
loop-at-smaller g c =
    let it = c.loop-at.invariant in
    let many : length c.loop-at.rollouts.items ≡ length c.args.rollouts.now.items = front_length (g.J.Judge.finds_fine c.args.judge.now) c.args.heard.now c.args.rollouts.now.items c.args.server.now.table c.loop-at.at c.loop-at.rollouts.items c.loop-at.server.table c.loop-at.newly (is_candidate c.loop-at.later) it.front in
    let within : c.loop-at.at < length c.args.rollouts.now.items = omega (arith, c.loop-at-test.true, c.len.ensures, c.loop-at.rollouts.ok, many) in
    omega (arith, within)

pub returns-in_err-follow_event-clause-part : goal.returns-in_err-follow_event-clause-part
returns-in_err-follow_event-clause-part g c =
    let it = c.loop-at.invariant in
    let many : length c.loop-at.rollouts.items ≡ length c.args.rollouts.now.items = front_length (g.J.Judge.finds_fine c.args.judge.now) c.args.heard.now c.args.rollouts.now.items c.args.server.now.table c.loop-at.at c.loop-at.rollouts.items c.loop-at.server.table c.loop-at.newly (is_candidate c.loop-at.later) it.front in
    let within : c.loop-at.at < length c.args.rollouts.now.items = omega (arith, c.loop-at-test.true, c.len.ensures, c.loop-at.rollouts.ok, many) in
    on_err c.from_residual.result
    (front_part (g.J.Judge.finds_fine c.args.judge.now) c.args.heard.now c.args.rollouts.now.items c.args.server.now.table c.loop-at.at c.loop-at.rollouts.items c.loop-at.server.table c.loop-at.newly (is_candidate c.loop-at.later) it.front
    c.index_mut.result.now within c.index_mut.ensures.value c.follow_event.new.rollout c.follow_event.new.server.table c.in_err-follow_event.ensures.part)

pub returns-clause-rollouts : goal.returns-clause-rollouts
returns-clause-rollouts g c = (all_done (g.J.Judge.finds_fine c.args.judge.now) c.args.heard.now c.args.rollouts.now.items c.args.server.now.table c.loop-at.at c.loop-at.rollouts.items c.loop-at.server.table c.loop-at.newly (is_candidate c.loop-at.later) c.loop-at.invariant.front
    (let many : length c.loop-at.rollouts.items ≡ length c.args.rollouts.now.items = front_length (g.J.Judge.finds_fine c.args.judge.now) c.args.heard.now c.args.rollouts.now.items c.args.server.now.table c.loop-at.at c.loop-at.rollouts.items c.loop-at.server.table c.loop-at.newly (is_candidate c.loop-at.later) c.loop-at.invariant.front in
    omega (arith, c.loop-at-test.false, c.len.ensures, c.loop-at.rollouts.ok, many))).rollouts_are

pub returns-clause-table : goal.returns-clause-table
returns-clause-table g c = (all_done (g.J.Judge.finds_fine c.args.judge.now) c.args.heard.now c.args.rollouts.now.items c.args.server.now.table c.loop-at.at c.loop-at.rollouts.items c.loop-at.server.table c.loop-at.newly (is_candidate c.loop-at.later) c.loop-at.invariant.front
    (let many : length c.loop-at.rollouts.items ≡ length c.args.rollouts.now.items = front_length (g.J.Judge.finds_fine c.args.judge.now) c.args.heard.now c.args.rollouts.now.items c.args.server.now.table c.loop-at.at c.loop-at.rollouts.items c.loop-at.server.table c.loop-at.newly (is_candidate c.loop-at.later) c.loop-at.invariant.front in
    omega (arith, c.loop-at-test.false, c.len.ensures, c.loop-at.rollouts.ok, many))).table_is

pub returns-clause-newly : goal.returns-clause-newly
returns-clause-newly g c = (all_done (g.J.Judge.finds_fine c.args.judge.now) c.args.heard.now c.args.rollouts.now.items c.args.server.now.table c.loop-at.at c.loop-at.rollouts.items c.loop-at.server.table c.loop-at.newly (is_candidate c.loop-at.later) c.loop-at.invariant.front
    (let many : length c.loop-at.rollouts.items ≡ length c.args.rollouts.now.items = front_length (g.J.Judge.finds_fine c.args.judge.now) c.args.heard.now c.args.rollouts.now.items c.args.server.now.table c.loop-at.at c.loop-at.rollouts.items c.loop-at.server.table c.loop-at.newly (is_candidate c.loop-at.later) c.loop-at.invariant.front in
    omega (arith, c.loop-at-test.false, c.len.ensures, c.loop-at.rollouts.ok, many))).newly_are

pub returns-clause-current : goal.returns-clause-current
returns-clause-current g c = (all_done (g.J.Judge.finds_fine c.args.judge.now) c.args.heard.now c.args.rollouts.now.items c.args.server.now.table c.loop-at.at c.loop-at.rollouts.items c.loop-at.server.table c.loop-at.newly (is_candidate c.loop-at.later) c.loop-at.invariant.front
    (let many : length c.loop-at.rollouts.items ≡ length c.args.rollouts.now.items = front_length (g.J.Judge.finds_fine c.args.judge.now) c.args.heard.now c.args.rollouts.now.items c.args.server.now.table c.loop-at.at c.loop-at.rollouts.items c.loop-at.server.table c.loop-at.newly (is_candidate c.loop-at.later) c.loop-at.invariant.front in
    omega (arith, c.loop-at-test.false, c.len.ensures, c.loop-at.rollouts.ok, many))).current
