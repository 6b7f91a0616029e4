use Rattle.edge_http.proofs.StreamLaws.{body-there, body-begun, body-apart}
use Rattle.edge_http.proofs.laws.one_body.Goals as goal

pub returns-clause-there : goal.returns-clause-there
returns-clause-there c = body-there

pub returns-clause-begun : goal.returns-clause-begun
returns-clause-begun c = body-begun

pub returns-clause-apart : goal.returns-clause-apart
returns-clause-apart c = body-apart
