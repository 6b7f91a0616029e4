use Rattle.std.proofs.Common.{ℕ, List}
use Rattle.server_core.specs.Table.{find_record}
use Rattle.server_waves.specs.Candidates.{is_candidate}
use Rattle.server_waves.specs.Waves.{is_decided, passes}
use Rattle.server_waves.proofs.CandidateLemmas.{weighed_more}
use Rattle.server_waves.proofs.candidates.Candidates.weigh_all.Goals as goal

pub loop-uid-preserved : goal.loop-uid-preserved
loop-uid-preserved g c =
    let it = c.loop-uid.invariant in record {
      weighed = weighed_more (λ (u : List ℕ). u) (is_candidate c.loop-uid.self) (is_candidate c.weigh.new.self)
          (λ (uid : List ℕ). passes (is_decided (g.J.Judge.finds_fine c.args.judge.now) c.args.hash.now) (find_record c.args.server.now.table.records uid))
          c.weigh.ensures.kept c.args.uids.now c.loop-uid.uid-index c.uid-item.result c.loop-uid-test.true c.uid-item.is it.weighed c.weigh.ensures.weighed;
      kept = λ u was. c.weigh.ensures.kept u (it.kept u was);
    }
