use Rattle.server_waves.proofs.CandidateLemmas.{settled_none, undecided_all}
use Rattle.server_waves.proofs.members.Members.settle_at.Goals as goal

pub returns-else-not-is_none : goal.returns-else-not-is_none
returns-else-not-is_none g c = record {
  settled = settled_none (g.J.Judge.finds_fine c.args.judge.now) c.args.hash.now c.args.server.now.table.records c.args.self.now
      (undecided_all (g.J.Judge.finds_fine c.args.judge.now) c.args.hash.now c.args.server.now.table.records c.args.self.now.offered
      (λ uid there. c.requires.undecided uid there (c.is_none.ensures.none c.if-not-is_none.false uid)));
}
