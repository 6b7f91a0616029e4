use Rattle.server_waves.specs.Candidates.{is_candidate}
use Rattle.server_waves.specs.Waves.{hash_of}
use Rattle.server_waves.proofs.CandidateLemmas.{heard_undecided}
use Rattle.server_waves.proofs.points.candidates_of.Goals as goal

pub returns : goal.returns
returns g c = record {
  undecided = heard_undecided (is_candidate c.args.before.now) (is_candidate c.weigh.new.candidates) c.args.heard.now (g.J.Judge.finds_fine c.args.judge.now) (hash_of c.args.rollout.now.terms)
      c.args.server.now.table.records c.args.rollout.now.waves.offered (λ u was. c.weigh.ensures.kept u (c.add_those.ensures.added u was)) c.requires.undecided c.weigh.ensures.weighed;
}
