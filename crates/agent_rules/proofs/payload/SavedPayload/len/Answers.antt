use Rattle.agent_rules.specs.Payloads.{canonical_saved}
use Rattle.agent_rules.proofs.Steps.{capped_length}
use Rattle.agent_rules.proofs.payload.SavedPayload.len.Goals as goal

pub returns-clause-len : goal.returns-clause-len
returns-clause-len c = capped_length c.saved_len.result (canonical_saved c.args.self.now) c.saved_len.ensures.counts
