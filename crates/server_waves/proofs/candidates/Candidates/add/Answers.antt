use Rattle.server_waves.proofs.CandidateLemmas.{among_last}
use Rattle.server_waves.proofs.candidates.Candidates.add.Goals as goal

pub returns-in-Ok-clause-added : goal.returns-in-Ok-clause-added
returns-in-Ok-clause-added c = among_last c.args.self.now.all c.args.self.now.uids.items _ c.args.uid.now c.in-Ok.ensures.items
