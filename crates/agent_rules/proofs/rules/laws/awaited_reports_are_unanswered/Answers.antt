use Rattle.std.proofs.Common.{refl}
use Rattle.agent_rules.proofs.LinkLemmas.{asked_unanswered, failed_unanswered, unanswered_stays}
use Rattle.agent_rules.proofs.rules.laws.awaited_reports_are_unanswered.Goals as goal

pub returns : goal.returns
returns c = record {
  starts = λ local saved is_kept room asks_uid awaits. refl;
  stays = unanswered_stays;
  failed = failed_unanswered;
  asked = asked_unanswered;
}
