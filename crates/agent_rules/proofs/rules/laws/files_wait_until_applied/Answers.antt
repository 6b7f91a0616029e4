use Rattle.agent_rules.proofs.CallLemmas.{files_kept, files_left}
use Rattle.agent_rules.proofs.rules.laws.files_wait_until_applied.Goals as goal

pub returns : goal.returns
returns c = record { kept = files_kept; left = files_left }
