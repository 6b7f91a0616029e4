use Rattle.agent_stopped.proofs.Leading.{rest-starts}
use Rattle.agent_stopped.proofs.laws.rest_starts_again.Goals as goal

pub returns : goal.returns
returns c = record { starts = rest-starts }
