use Rattle.std.proofs.Common.{[], arith, rules}
use Rattle.command_streams.specs.Progress.{IsReadTo}
use Rattle.command_fleet.specs.Reading.{Collects}
use Rattle.command_fleet.proofs.Blocks.{holds_filled, read_behind, read_here, reports_read, rounds_fall}
use Rattle.command_fleet.proofs.Taken.{taken_first, taken_on}
use Rattle.command_fleet.proofs.reading.read_blocks.Goals as goal

pub blocks-2-init : goal.blocks-2-init
blocks-2-init g c =
    let input = g.S.Source.left c.args.source.now in
    let fills = c.in_ok-supply.ensures.filled in
    let start : IsReadTo Collects [] c.args.budget c.new-held.result [] input input = rw c.new-held.ensures.made (c.blocks_are_read.ensures.start [] c.args.budget 0 input) in
    let filled = c.blocks_are_read.ensures.filled [] c.args.budget c.new-held.result c.fill.new.held [] input input (g.S.Source.left c.fill.new.source) c.in_ok-supply.supply start fills in
    (read_behind c.args.budget c.fill.new.held c.args.reports.now [] input fills.last (g.S.Source.left c.fill.new.source) c.in_ok-supply.supply c.requires.empty filled (holds_filled _ _ _ _ _ _ c.new-held.ensures.made fills) fills.by, c.fill.ensures.count, taken_first c.args.budget c.new-held.result _ _ c.fill.ensures.within)

pub blocks-2-preserved : goal.blocks-2-preserved
blocks-2-preserved g c =
    let input = g.S.Source.left c.args.source.now in
    let so_far = read_here c.args.budget c.blocks-2.held c.blocks-2.reports input (g.S.Source.left c.blocks-2.source) c.blocks-2.supply c.in-More.is c.blocks-2.invariant.0 in
    (rw c.in-Holds.is at (c.in_ok-next.ensures.next input so_far), omega (arith, c.read_on.ensures.count, c.blocks-2.invariant.1), taken_on _ _ _ _ _ _ so_far c.blocks-2.invariant.0.few c.read_on.ensures.few)

pub blocks-2-smaller : goal.blocks-2-smaller
blocks-2-smaller g c =
    let input = g.S.Source.left c.args.source.now in
    let so_far = read_here c.args.budget c.blocks-2.held c.blocks-2.reports input (g.S.Source.left c.blocks-2.source) c.blocks-2.supply c.in-More.is c.blocks-2.invariant.0 in
    let next = rw c.in-Holds.is at (c.in_ok-next.ensures.next input so_far) in
    rounds_fall c.args.budget c.blocks-2.held c.read_on.new.held c.blocks-2.supply c.in-Holds.next c.in-More.is (rw c.in-Holds.is at c.in_ok-next.ensures.on) next.read.within

pub returns-in-Stops-clause-reads : goal.returns-in-Stops-clause-reads
returns-in-Stops-clause-reads g c =
    let input = g.S.Source.left c.args.source.now in
    let so_far = read_here c.args.budget c.blocks-2.held c.blocks-2.reports input (g.S.Source.left c.blocks-2.source) c.blocks-2.supply c.in-More.is c.blocks-2.invariant.0 in
    reports_read c.args.budget input c.read_on.new.reports c.in-Stops.stop (rw c.in-Stops.is at (c.in_ok-next.ensures.next input so_far))

pub returns-in-End : goal.returns-in-End
returns-in-End g c =
    let input = g.S.Source.left c.args.source.now in
    record {
      reads = reports_read c.args.budget input c.read_last.new.reports c.in_ok-read_last-in-End.field-0
          (c.in_ok-read_last-in-End.ensures.stop c.args.budget input (g.S.Source.left c.blocks-2.source) c.blocks-2.invariant.0);
      read_fault = λ is. search rules;
      no_write_fault = λ is. search rules;
      few = c.blocks-2.invariant.2;
    }

pub returns-in_err-supply-clause-few : goal.returns-in_err-supply-clause-few
returns-in_err-supply-clause-few g c = taken_first c.args.budget c.new-held.result _ _ c.fill.ensures.within

pub returns-in_err-read_last-in-End-clause-few : goal.returns-in_err-read_last-in-End-clause-few
returns-in_err-read_last-in-End-clause-few g c = c.blocks-2.invariant.2

pub returns-in_err-next-clause-few : goal.returns-in_err-next-clause-few
returns-in_err-next-clause-few g c =
    let so_far = read_here c.args.budget c.blocks-2.held c.blocks-2.reports (g.S.Source.left c.args.source.now) (g.S.Source.left c.blocks-2.source) c.blocks-2.supply c.in-More.is c.blocks-2.invariant.0 in
    taken_on _ _ _ _ _ _ so_far c.blocks-2.invariant.0.few c.read_on.ensures.few

pub returns-in-Stops-clause-few : goal.returns-in-Stops-clause-few
returns-in-Stops-clause-few g c =
    let so_far = read_here c.args.budget c.blocks-2.held c.blocks-2.reports (g.S.Source.left c.args.source.now) (g.S.Source.left c.blocks-2.source) c.blocks-2.supply c.in-More.is c.blocks-2.invariant.0 in
    taken_on _ _ _ _ _ _ so_far c.blocks-2.invariant.0.few c.read_on.ensures.few
