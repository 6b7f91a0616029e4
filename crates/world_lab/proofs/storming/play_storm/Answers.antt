use Rattle.std.proofs.Common.{◌≡◌, ◌∙◌, ℕ, length, ap, subst, rules, arith}
use Rattle.world_lab.specs.Playing.{script_progress}
use Rattle.world_lab.specs.Transcripts.{lines_written}
use Rattle.world_lab.specs.Mirrors.{Mirrors}
use Rattle.world_lab.specs.Storming.{counts_of, storm_script}
use Rattle.world_lab.proofs.StormSteps.{storm_grown, storm_steps}
use Rattle.world_lab.proofs.storming.play_storm.Goals as goal

pub play_owned-requires : goal.play_owned-requires
play_owned-requires c =
    let inv = c.loop-summary.invariant in
    record {
      mirror = (script_progress (storm_script c.args.start c.loop-summary.summary.events), inv.mirrors);
      generations = omega (arith, inv.mirrors.saves, inv.few, inv.within, c.requires.few);
    }

pub with_owned-summary-requires : goal.with_owned-summary-requires
with_owned-summary-requires c =
    let inv = c.loop-summary.invariant in
    let count : c.loop-summary.summary.events ≡ length (lines_written (storm_script c.args.start c.loop-summary.summary.events)) = ap (λ s. s.events) inv.counts in
    record { few = (lines_written (storm_script c.args.start c.loop-summary.summary.events), omega (arith, count, inv.within, c.requires.few), inv.counts) }

pub loop-summary-preserved : goal.loop-summary-preserved
loop-summary-preserved c =
    let inv = c.loop-summary.invariant in
    let lines = storm_script c.args.start c.loop-summary.summary.events in
    let sent : c.len.result ≡ length c.loop-summary.play.sent.items = search rules in
    let step = storm_steps c.args.start c.loop-summary.play c.play_owned.new.play c.loop-summary.servers c.play_owned.new.servers c.loop-summary.source c.next_line.new.self c.len.result
    c.in_ok-line.line c.in_ok-written.written c.loop-summary.summary c.with_owned-summary.result
    (record { mirrors = inv.mirrors; source_is = inv.source; counts = inv.counts }) sent c.in_ok-line.ensures.line c.next_line.ensures.state
    (c.in_ok-written.ensures.played (script_progress lines) inv.mirrors) (c.with_owned-summary.ensures.counts (lines_written lines) inv.counts) in
    record {
      mirrors = step.storm.mirrors;
      few = omega (arith, step.few, inv.few, step.more);
      within = omega (arith, step.more, c.loop-summary-test.true);
      source = step.storm.source_is;
      counts = step.storm.counts;
    }

pub loop-summary-smaller : goal.loop-summary-smaller
loop-summary-smaller c =
    let lines = storm_script c.args.start c.loop-summary.summary.events in
    let counted = c.with_owned-summary.ensures.counts (lines_written lines) c.loop-summary.invariant.counts in
    let more = storm_grown c.loop-summary.summary c.with_owned-summary.result (lines_written lines) c.in_ok-written.written c.loop-summary.invariant.counts counted in
    omega (arith, more, c.loop-summary-test.true)

pub returns : goal.returns
returns c =
    let inv = c.loop-summary.invariant in
    let all : c.loop-summary.summary.events ≡ c.args.count = omega (arith, inv.within, c.loop-summary-test.false) in
    record {
      counts = inv.counts ∙ ap (λ (n : ℕ). counts_of (lines_written (storm_script c.args.start n)) 0) all;
      mirrors = subst (λ (n : ℕ). Mirrors (script_progress (storm_script c.args.start n)) c.loop-summary.play c.loop-summary.servers) all inv.mirrors;
    }
