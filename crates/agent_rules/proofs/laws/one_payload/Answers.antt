use Rattle.agent_rules.specs.Columns.{saved_columns}
use Rattle.agent_rules.specs.Next.{fields_one}
use Rattle.agent_rules.specs.Tells.{saved_columns_tell}
use Rattle.agent_rules.proofs.Found.{meaning_is}
use Rattle.agent_rules.proofs.laws.one_payload.Goals as goal

pub returns-clause-one : goal.returns-clause-one
returns-clause-one c bytes s t h k = saved_columns_tell s t (fields_one bytes (saved_columns s) (saved_columns t) h.fields k.fields)

pub returns-clause-seen : goal.returns-clause-seen
returns-clause-seen c = meaning_is
