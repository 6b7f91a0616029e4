use Rattle.std.proofs.Common.{refl}
use Rattle.agent_rules.proofs.CallLemmas.{proved_before, proved_by, settings_kept, settings_left}
use Rattle.agent_rules.proofs.rules.laws.settings_wait_for_their_proof.Goals as goal

pub returns : goal.returns
returns c = record {
  kept = settings_kept;
  left = settings_left;
  begun = λ a settings. refl;
  by_a_reply = proved_before;
  by_an_answer = proved_by;
}
