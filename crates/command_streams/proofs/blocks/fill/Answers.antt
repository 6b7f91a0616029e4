use Rattle.std.proofs.Common.{ap, length, arith}
use Rattle.std.proofs.KnownBytes.{Keeps-refl}
use Rattle.command_streams.proofs.Filling.{IsFilling-start, IsFilling-more, IsFilling-full, IsFilling-ended, IsFilling-spent, IsFilling-within}
use Rattle.command_streams.proofs.blocks.fill.Goals as goal

pub fills-init : goal.fills-init
fills-init g c = (IsFilling-start c.args.budget c.args.held.now (g.S.Source.left c.args.source.now) c.requires.within.0, omega arith)

pub fills-preserved : goal.fills-preserved
fills-preserved g c =
    let supply = rw c.in-More.is at c.in_ok-take_more.ensures.supply in (
      IsFilling-more c.args.budget supply.0 c.args.held.now c.fills.held c.take_more.new.self (g.S.Source.left c.args.source.now) (g.S.Source.left c.fills.source) (g.S.Source.left c.take_more.new.source)
          c.fills.invariant.0 supply.2 c.in_ok-take_more.ensures.few supply.3,
      omega (arith, c.take_more.ensures.count, c.fills.invariant.1),
    )

pub returns-in-End-clause-filled : goal.returns-in-End-clause-filled
returns-in-End-clause-filled g c =
    let supply = rw c.in-End.is at c.in_ok-take_more.ensures.supply in
    IsFilling-ended c.args.budget c.args.held.now c.fills.held c.take_more.new.self (g.S.Source.left c.args.source.now) (g.S.Source.left c.fills.source) (g.S.Source.left c.take_more.new.source)
    c.fills.invariant.0 supply.0 supply.1 supply.2

pub returns-in-Spent-clause-filled : goal.returns-in-Spent-clause-filled
returns-in-Spent-clause-filled g c =
    let supply = rw c.in-Spent.is at c.in_ok-take_more.ensures.supply in
    IsFilling-spent c.args.budget c.args.held.now c.fills.held c.take_more.new.self (g.S.Source.left c.args.source.now) (g.S.Source.left c.fills.source) (g.S.Source.left c.take_more.new.source)
    c.fills.invariant.0 supply.0 supply.1

pub returns-clause-filled : goal.returns-clause-filled
returns-clause-filled g c =
    IsFilling-full c.args.budget c.args.held.now c.fills.held (g.S.Source.left c.args.source.now) (g.S.Source.left c.fills.source) c.fills.invariant.0 (omega (arith, c.fills-test.false, ap length c.bytes.ensures.bytes))

pub returns-in_err-take_more-clause-within : goal.returns-in_err-take_more-clause-within
returns-in_err-take_more-clause-within g c = IsFilling-within _ _ _ _ _ _ c.fills.invariant.0 c.in_err-take_more.ensures.kept

pub returns-in-End-clause-within : goal.returns-in-End-clause-within
returns-in-End-clause-within g c =
    let supply = rw c.in-End.is at c.in_ok-take_more.ensures.supply in
    IsFilling-within _ _ _ _ _ _ c.fills.invariant.0 supply.3

pub returns-in-Spent-clause-within : goal.returns-in-Spent-clause-within
returns-in-Spent-clause-within g c =
    let supply = rw c.in-Spent.is at c.in_ok-take_more.ensures.supply in
    IsFilling-within _ _ _ _ _ _ c.fills.invariant.0 supply.2

pub returns-clause-within : goal.returns-clause-within
returns-clause-within g c = IsFilling-within _ _ _ _ _ _ c.fills.invariant.0 (Keeps-refl _)
