use Rattle.server_waves.specs.Candidates.{is_candidate}
use Rattle.server_waves.proofs.CandidateLemmas.{added_more}
use Rattle.server_waves.proofs.candidates.Candidates.add_each.Goals as goal

pub loop-uid-preserved : goal.loop-uid-preserved
loop-uid-preserved c =
    let it = c.loop-uid.invariant in record {
      added = added_more (is_candidate c.loop-uid.self) (is_candidate c.add.new.self) c.args.uids.now c.loop-uid.uid-index c.uid-item.result c.loop-uid-test.true c.uid-item.is c.add.ensures.kept c.add.ensures.added it.added;
      kept = λ u was. c.add.ensures.kept u (it.kept u was);
    }
