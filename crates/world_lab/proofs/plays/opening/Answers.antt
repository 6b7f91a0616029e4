use Rattle.std.proofs.Common.{◌∙◌, false, refl, rules}
use Rattle.agent_rules.specs.Half.{first_saved, started}
use Rattle.world_lab.proofs.Opening.{opened_play}
use Rattle.world_lab.proofs.Restarts.{good_endpoint, rests}
use Rattle.world_lab.proofs.plays.opening.Goals as goal

pub begin-requires : goal.begin-requires
begin-requires c = record { endpoint = good_endpoint _ c.in_ok-opening.ensures.opening }

pub returns : goal.returns
returns c =
    let op = c.in_ok-opening.ensures.opening in
    let first = c.first_local-first.ensures.local in
    record {
      mirrors = opened_play _
          (c.in_ok-agent.ensures.started ∙ (λ i. started (first i) (first_saved (op i).uid (op i).settings) false (op i).layout.room (op i).asks_uid))
          (rests _ _ _ op c.in_ok-agent.ensures.at_rest) c.in_ok-agent.ensures.blank c.in_ok-agent.ensures.first_generation c.empty_folder-folder.ensures.empty
          c.first_local-local.ensures.local op refl (search rules) (search rules);
    }
