use Rattle.std.proofs.Common.{[], ◌∙◌, refl, arith}
use Rattle.command_fleet.proofs.Blocks.{budget_taken, taken_to}
use Rattle.command_fleet.proofs.reading.read_last.Goals as goal

pub returns-in-Stops : goal.returns-in-Stops
returns-in-Stops g c = record {
  stop = λ budget input left so_far.
      let halt = rw c.in-Stops.is at c.in_ok-stop.ensures.halts in
      let here = c.blocks_are_read.ensures.passed [] budget c.args.held.now c.handle_block.new.held c.args.reports.now halt.0 input so_far.last so_far.read halt.1 in
      c.blocks_are_one_input.ensures.stopped [] budget c.handle_block.new.held halt.0 c.handle_block.new.reports input so_far.last c.in-Stops.stop here halt.2.0 halt.2.1;
}

pub returns-in-End : goal.returns-in-End
returns-in-End g c = record {
  stop = λ budget input left so_far.
      let halt = rw c.in-Wants.is at c.in_ok-stop.ensures.halts in
      let by = rw c.in-End.is at so_far.by in
      let here = c.blocks_are_read.ensures.passed [] budget c.args.held.now c.handle_block.new.held c.args.reports.now halt.0 input so_far.last so_far.read halt.1 in
      let taken = c.frames_pass.ensures.taken c.args.reports.now halt.0 c.args.held.now c.handle_block.new.held halt.1 in
      taken_to budget input c.handle_block.new.reports halt.0 _ c.stop_at_end.result halt.2.0 c.stop_at_end.ensures.stop
      (c.blocks_are_one_input.ensures.ended [] budget c.handle_block.new.held halt.0 input so_far.last here (c.frames_pass.ensures.cut _ _ halt.2.1) (omega (arith, taken, by.1)) by.0);
}

pub returns-in-More : goal.returns-in-More
returns-in-More g c = record {
  stop = λ budget input left so_far.
      let halt = rw c.in-Wants.is at c.in_ok-stop.ensures.halts in
      let by = budget_taken budget c.args.held.now so_far.last left c.args.supply c.in-More.is c.requires.last so_far.by in
      let here = c.blocks_are_read.ensures.passed [] budget c.args.held.now c.handle_block.new.held c.args.reports.now halt.0 input so_far.last so_far.read halt.1 in
      let taken = c.frames_pass.ensures.taken c.args.reports.now halt.0 c.args.held.now c.handle_block.new.held halt.1 in
      taken_to budget input c.handle_block.new.reports halt.0 _ _ halt.2.0 refl
      (c.blocks_are_one_input.ensures.spent [] budget c.handle_block.new.held halt.0 input so_far.last here (c.frames_pass.ensures.cut _ _ halt.2.1) (taken ∙ by));
}
