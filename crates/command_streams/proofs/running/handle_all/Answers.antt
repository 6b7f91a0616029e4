use Rattle.std.proofs.Common.{arith}
use Rattle.std.proofs.KnownBytes.{Keeps-refl}
use Rattle.std.proofs.lemmas.Result.{IfOk-from_err, err_from_is_err_and}
use Rattle.std.specs.Prelude.{Err}
use Rattle.command_streams.specs.Reading.{outputs_of}
use Rattle.command_streams.proofs.Passing.{FramesPass-taken}
use Rattle.command_streams.proofs.Exits.{not_err, error_of, error_on, put_no_read, on_count, risen_on, fits_budget, small_budget, need_of_block, smaller}
use Rattle.command_streams.proofs.Steps.{IsAt-start, IsAt-block, IsAt-more, IsAt-cut, IsAt-held_stop, IsAt-ended, IsAt-spent, block-cut, so_far-cut, IsAt-all_taken, IsAt-few}
use Rattle.command_streams.proofs.Needs.{Wants-partial, Wants-less, Wants-few}
use Rattle.command_streams.proofs.Turns.{IsAsked-none, IsAsked-cut, IsAsked-more, Adds-none, Adds-put, in_turn}
use Rattle.command_streams.proofs.running.handle_all.Goals as goal

pub rounds-init : goal.rounds-init
rounds-init g c = (
  rw c.new-held.ensures.made (IsAt-start g.H.Handler.gives c.args.handler.now c.args.budget 0 (g.S.Source.left c.args.source.now) (g.K.Sink.taken c.args.sink.now)),
  omega arith,
  omega arith,
  rw c.new-held.ensures.made IsAsked-none,
)

pub returns-in_err-need-clause-cut : goal.returns-in_err-need-clause-cut
returns-in_err-need-clause-cut g c =
    let p = err_from_is_err_and c.from_residual.result c.from_residual.ensures.1 in
    let answers = c.in_err-need.ensures.answers in
    rw (p.1, p.2) (block-cut _ _ _ _ _ _ _ _ _ _ _ _ c.in_err-need.field-0.0 c.rounds.invariant.0 answers.1 answers.2)

pub returns-in-Stops-clause-replied : goal.returns-in-Stops-clause-replied
returns-in-Stops-clause-replied g c =
    let answers = rw c.in-Stops.is at c.in_ok-need.ensures.answers in
    let here = IsAt-block _ _ _ _ _ _ _ _ _ _ _ _ c.rounds.invariant.0 answers.1 answers.2 in
    IsAt-held_stop _ _ _ _ _ _ _ _ _ c.in-Stops.stop here answers.3.0 _ answers.3.1

pub returns-in_err-take_more-clause-cut : goal.returns-in_err-take_more-clause-cut
returns-in_err-take_more-clause-cut g c =
    let p = err_from_is_err_and c.from_residual-in_err-take_more.result c.from_residual-in_err-take_more.ensures.1 in
    let answers = rw c.in-Wants.is at c.in_ok-need.ensures.answers in
    let here = IsAt-block _ _ _ _ _ _ _ _ _ _ _ _ c.rounds.invariant.0 answers.1 answers.2 in
    rw (p.1, p.2) (so_far-cut _ _ _ _ _ _ c.in_err-take_more.field-0.0 (IsAt-cut _ _ _ _ _ _ _ _ _ here) c.in_err-take_more.ensures.no_write)

pub rounds-preserved : goal.rounds-preserved
rounds-preserved g c =
    let answers = rw c.in-Wants.is at c.in_ok-need.ensures.answers in
    let here = IsAt-block _ _ _ _ _ _ _ _ _ _ _ _ c.rounds.invariant.0 answers.1 answers.2 in
    let supply = rw c.in-More.is at c.in_ok-take_more.ensures.supply in (
      rw answers.3.0 (IsAt-more _ _ _ _ _ _ _ _ _ _ _ _ here supply.2 supply.3),
      omega (arith, c.take_more.ensures.count, c.rounds.invariant.1),
      omega (arith, c.answer_block.ensures.sink_count, c.rounds.invariant.2),
      IsAsked-more c.answer_block.new.held c.take_more.new.self _ _ c.in-Wants.need supply.0 answers.3.1 supply.2 c.in_ok-take_more.ensures.few,
    )

pub returns-in-End-clause-replied : goal.returns-in-End-clause-replied
returns-in-End-clause-replied g c =
    let answers = rw c.in-Wants.is at c.in_ok-need.ensures.answers in
    let here = IsAt-block _ _ _ _ _ _ _ _ _ _ _ _ c.rounds.invariant.0 answers.1 answers.2 in
    let supply = rw c.in-End.is at c.in_ok-take_more.ensures.supply in
    rw (c.stop_at_end.ensures.stop, supply.0.0, supply.0.1) (IsAt-ended _ _ _ _ _ _ _ _ _ here (Wants-partial _ _ answers.3.1) supply.2 supply.1 _ answers.3.0)

pub returns-in-Spent-clause-replied : goal.returns-in-Spent-clause-replied
returns-in-Spent-clause-replied g c =
    let answers = rw c.in-Wants.is at c.in_ok-need.ensures.answers in
    let here = IsAt-block _ _ _ _ _ _ _ _ _ _ _ _ c.rounds.invariant.0 answers.1 answers.2 in
    let supply = rw c.in-Spent.is at c.in_ok-take_more.ensures.supply in
    IsAt-spent _ _ _ _ _ _ _ _ _ here (Wants-partial _ _ answers.3.1) supply.1 _ answers.3.0

pub answer_block-requires-clause-few : goal.answer_block-requires-clause-few
answer_block-requires-clause-few g c =
    let few = IsAt-few g.H.Handler.gives g.H.Handler.counted c.args.handler.now c.args.budget c.rounds.held c.rounds.handler (g.S.Source.left c.args.source.now) (g.S.Source.left c.rounds.source) (g.K.Sink.taken c.args.sink.now) (g.K.Sink.taken c.rounds.sink) g.met.H.Handler.counts c.rounds.invariant.0 in
    omega (arith, c.requires)

pub returns-in_err-take_more-clause-before_read_fault : goal.returns-in_err-take_more-clause-before_read_fault
returns-in_err-take_more-clause-before_read_fault g c fault =
    let answers = rw c.in-Wants.is at c.in_ok-need.ensures.answers in
    let here = IsAt-block _ _ _ _ _ _ _ _ _ _ _ _ c.rounds.invariant.0 answers.1 answers.2 in
    IsAt-all_taken _ _ _ _ _ _ _ _ _ _ here (Wants-partial _ _ answers.3.1) c.in_err-take_more.ensures.kept

pub returns-in_err-take_more-clause-before_last_take : goal.returns-in_err-take_more-clause-before_last_take
returns-in_err-take_more-clause-before_last_take g c =
    let answers = rw c.in-Wants.is at c.in_ok-need.ensures.answers in
    let here = IsAt-block _ _ _ _ _ _ _ _ _ _ _ _ c.rounds.invariant.0 answers.1 answers.2 in
    in_turn _ _ _ _ _ _ _ _ _ _ _ here (IsAsked-cut _ _ answers.3.1) c.in_err-take_more.ensures.kept (Adds-none _)

pub answer_block-requires-clause-fits : goal.answer_block-requires-clause-fits
answer_block-requires-clause-fits g c = fits_budget c.rounds.held c.args.budget (g.H.Handler.counted c.args.handler.now) c.rounds.invariant.0.within c.requires.budget

pub returns-in_err-need-clause-replied : goal.returns-in_err-need-clause-replied
returns-in_err-need-clause-replied g c = IfOk-from_err c.from_residual.result _ c.from_residual.ensures.0

pub returns-in_err-need-clause-read_fault : goal.returns-in_err-need-clause-read_fault
returns-in_err-need-clause-read_fault g c = λ is.
    put_no_read _ _ _ c.from_residual.result c.in_err-need.field-0.0 (err_from_is_err_and c.from_residual.result c.from_residual.ensures.1) c.in_err-need.ensures.answers.2 is

pub returns-in_err-need-clause-write_fault : goal.returns-in_err-need-clause-write_fault
returns-in_err-need-clause-write_fault g c = λ is.
    risen_on _ _ _ c.rounds.invariant.2 (c.in_err-need.ensures.write_fault (error_on c.from_residual.result c.in_err-need.field-0.0 _ (err_from_is_err_and c.from_residual.result c.from_residual.ensures.1) is))

pub returns-in_err-need-clause-before_read_fault : goal.returns-in_err-need-clause-before_read_fault
returns-in_err-need-clause-before_read_fault g c = λ is.
    put_no_read _ _ _ c.from_residual.result c.in_err-need.field-0.0 (err_from_is_err_and c.from_residual.result c.from_residual.ensures.1) c.in_err-need.ensures.answers.2 is

pub returns-in_err-need-clause-sink_count : goal.returns-in_err-need-clause-sink_count
returns-in_err-need-clause-sink_count g c = on_count _ _ _ c.rounds.invariant.2 c.answer_block.ensures.sink_count

pub returns-in-Stops-clause-read_fault : goal.returns-in-Stops-clause-read_fault
returns-in-Stops-clause-read_fault g c = λ is. not_err _ _ is

pub returns-in-Stops-clause-write_fault : goal.returns-in-Stops-clause-write_fault
returns-in-Stops-clause-write_fault g c = λ is. not_err _ _ is

pub returns-in-Stops-clause-before_read_fault : goal.returns-in-Stops-clause-before_read_fault
returns-in-Stops-clause-before_read_fault g c = λ is. not_err _ _ is

pub returns-in_err-need-clause-before_last_take : goal.returns-in_err-need-clause-before_last_take
returns-in_err-need-clause-before_last_take g c =
    in_turn _ _ _ _ _ _ _ _ _ _ _ c.rounds.invariant.0 c.rounds.invariant.3 (Keeps-refl _)
    (Adds-put _ _ (outputs_of c.in_err-need.ensures.answers.0) (Err c.in_err-need.field-0.0) c.in_err-need.ensures.answers.2)

pub returns-in-Stops-clause-before_last_take : goal.returns-in-Stops-clause-before_last_take
returns-in-Stops-clause-before_last_take g c =
    in_turn _ _ _ _ _ _ _ _ _ _ _ c.rounds.invariant.0 c.rounds.invariant.3 (Keeps-refl _)
    (outputs_of c.in_ok-need.ensures.answers.0, c.in_ok-need.ensures.answers.2)

pub returns-in-End-clause-before_last_take : goal.returns-in-End-clause-before_last_take
returns-in-End-clause-before_last_take g c =
    let answers = rw c.in-Wants.is at c.in_ok-need.ensures.answers in
    let here = IsAt-block _ _ _ _ _ _ _ _ _ _ _ _ c.rounds.invariant.0 answers.1 answers.2 in
    let supply = rw c.in-End.is at c.in_ok-take_more.ensures.supply in
    in_turn _ _ _ _ _ _ _ _ _ _ _ here (IsAsked-cut _ _ answers.3.1) supply.3 (Adds-none _)

pub returns-in-Spent-clause-before_last_take : goal.returns-in-Spent-clause-before_last_take
returns-in-Spent-clause-before_last_take g c =
    let answers = rw c.in-Wants.is at c.in_ok-need.ensures.answers in
    let here = IsAt-block _ _ _ _ _ _ _ _ _ _ _ _ c.rounds.invariant.0 answers.1 answers.2 in
    let supply = rw c.in-Spent.is at c.in_ok-take_more.ensures.supply in
    in_turn _ _ _ _ _ _ _ _ _ _ _ here (IsAsked-cut _ _ answers.3.1) supply.2 (Adds-none _)

pub returns-in-Stops-clause-sink_count : goal.returns-in-Stops-clause-sink_count
returns-in-Stops-clause-sink_count g c = on_count _ _ _ c.rounds.invariant.2 c.answer_block.ensures.sink_count

pub take_more-requires-clause-need : goal.take_more-requires-clause-need
take_more-requires-clause-need g c =
    let answers = rw c.in-Wants.is at c.in_ok-need.ensures.answers in
    (Wants-less _ _ answers.3.1, need_of_block c.in-Wants.need (Wants-few _ _ answers.3.1))

pub take_more-requires-clause-within : goal.take_more-requires-clause-within
take_more-requires-clause-within g c =
    let answers = rw c.in-Wants.is at c.in_ok-need.ensures.answers in
    let here = IsAt-block _ _ _ _ _ _ _ _ _ _ _ _ c.rounds.invariant.0 answers.1 answers.2 in
    (here.within, small_budget c.args.budget (g.H.Handler.counted c.args.handler.now) c.requires.budget)

pub returns-in_err-take_more-clause-replied : goal.returns-in_err-take_more-clause-replied
returns-in_err-take_more-clause-replied g c = IfOk-from_err c.from_residual-in_err-take_more.result _ c.from_residual-in_err-take_more.ensures.0

pub returns-in_err-take_more-clause-read_fault : goal.returns-in_err-take_more-clause-read_fault
returns-in_err-take_more-clause-read_fault g c = λ is.
    risen_on _ _ _ c.rounds.invariant.1 (c.in_err-take_more.ensures.read_fault (error_on c.from_residual-in_err-take_more.result c.in_err-take_more.field-0.0 _ (err_from_is_err_and c.from_residual-in_err-take_more.result c.from_residual-in_err-take_more.ensures.1) is))

pub returns-in_err-take_more-clause-write_fault : goal.returns-in_err-take_more-clause-write_fault
returns-in_err-take_more-clause-write_fault g c = λ is.
    absurd (c.in_err-take_more.ensures.no_write (error_of c.from_residual-in_err-take_more.result c.in_err-take_more.field-0.0 _ (err_from_is_err_and c.from_residual-in_err-take_more.result c.from_residual-in_err-take_more.ensures.1) is))

pub returns-in_err-take_more-clause-sink_count : goal.returns-in_err-take_more-clause-sink_count
returns-in_err-take_more-clause-sink_count g c = on_count _ _ _ c.rounds.invariant.2 c.answer_block.ensures.sink_count

pub rounds-smaller : goal.rounds-smaller
rounds-smaller g c =
    let answers = rw c.in-Wants.is at c.in_ok-need.ensures.answers in
    let supply = rw c.in-More.is at c.in_ok-take_more.ensures.supply in
    smaller c.args.budget supply.0 c.rounds.held c.answer_block.new.held c.take_more.new.self (g.S.Source.left c.rounds.source) (g.S.Source.left c.take_more.new.source) (FramesPass-taken _ _ _ _ _ answers.1) supply.2 supply.1 supply.3

pub returns-in-End-clause-read_fault : goal.returns-in-End-clause-read_fault
returns-in-End-clause-read_fault g c = λ is. not_err _ _ is

pub returns-in-End-clause-write_fault : goal.returns-in-End-clause-write_fault
returns-in-End-clause-write_fault g c = λ is. not_err _ _ is

pub returns-in-End-clause-before_read_fault : goal.returns-in-End-clause-before_read_fault
returns-in-End-clause-before_read_fault g c = λ is. not_err _ _ is

pub returns-in-End-clause-sink_count : goal.returns-in-End-clause-sink_count
returns-in-End-clause-sink_count g c = on_count _ _ _ c.rounds.invariant.2 c.answer_block.ensures.sink_count

pub returns-in-Spent-clause-read_fault : goal.returns-in-Spent-clause-read_fault
returns-in-Spent-clause-read_fault g c = λ is. not_err _ _ is

pub returns-in-Spent-clause-write_fault : goal.returns-in-Spent-clause-write_fault
returns-in-Spent-clause-write_fault g c = λ is. not_err _ _ is

pub returns-in-Spent-clause-before_read_fault : goal.returns-in-Spent-clause-before_read_fault
returns-in-Spent-clause-before_read_fault g c = λ is. not_err _ _ is

pub returns-in-Spent-clause-sink_count : goal.returns-in-Spent-clause-sink_count
returns-in-Spent-clause-sink_count g c = on_count _ _ _ c.rounds.invariant.2 c.answer_block.ensures.sink_count
