use Rattle.agent_packages.proofs.Planned.{fetched_by_plan, gone_by_plan, kept_by_plan}
use Rattle.agent_packages.proofs.laws.visits_follow_the_plan.Goals as goal

pub returns : goal.returns
returns c = record { fetch = fetched_by_plan; same = kept_by_plan; gone = gone_by_plan }
