use Rattle.std.proofs.Common.{◌∙◌, ◌||◌, ap}
use Rattle.std.specs.Str.{bytes_eq}
use Rattle.server_waves.proofs.Indexing.{among_more}
use Rattle.server_waves.proofs.known.Known.of.Goals as goal

pub loop-uid-preserved : goal.loop-uid-preserved
loop-uid-preserved c = λ u.
    c.in_ok-insert.ensures.added u ∙ ap (λ k. bytes_eq c.uid-item.result u || k) (c.loop-uid.invariant u)
    ∙ among_more c.args.uids.now c.loop-uid.uid-index c.uid-item.result u c.loop-uid-test.true c.uid-item.is
