use Rattle.edge_heads.proofs.HeadLaws.{one-head, begun-or-there, never-or-there, begun-or-never}
use Rattle.edge_heads.proofs.laws.one_head.Goals as goal

pub returns-clause-there : goal.returns-clause-there
returns-clause-there c = one-head

pub returns-clause-begun : goal.returns-clause-begun
returns-clause-begun c = begun-or-there

pub returns-clause-never : goal.returns-clause-never
returns-clause-never c = never-or-there

pub returns-clause-apart : goal.returns-clause-apart
returns-clause-apart c = begun-or-never
