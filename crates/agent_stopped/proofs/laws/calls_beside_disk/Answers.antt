use Rattle.agent_stopped.proofs.Leading.{beside-leads, beside-rest}
use Rattle.agent_stopped.proofs.laws.calls_beside_disk.Goals as goal

pub returns-clause-leads : goal.returns-clause-leads
returns-clause-leads c = λ layout disk before after call nothing is. beside-leads disk before after call nothing is layout

pub returns-clause-at_rest : goal.returns-clause-at_rest
returns-clause-at_rest c = λ opening disk before after call nothing is store rest. beside-rest disk before after call nothing is opening store rest
