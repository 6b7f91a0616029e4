use Rattle.std.proofs.Common.{Some, subst}
use Rattle.plain_values.specs.declared.files.AgentConfigMap.{AgentConfigMap}
use Rattle.agent_config.specs.Config.{as_offer}
use Rattle.agent_rounds.specs.Moments.{held_view, with_agent, with_clock, with_folder, with_held, with_saves}
use Rattle.agent_rounds.specs.Replies.{Configures}
use Rattle.agent_rounds.proofs.ConfigLemmas.{as_offered}
use Rattle.agent_rounds.proofs.configuring.configure_offer.Goals as goal

pub returns-clause-does : goal.returns-clause-does
returns-clause-does g c = λ number s.
    let run = c.configure_files-ended.ensures.does number s in
    let f = with_agent c.args.agent.now (with_held (held_view number c.args.held.now) (with_folder (g.F.Folder.state c.args.folder.now) (with_clock (g.C.Clock.state c.args.clock.now) s))) in
    let h = with_agent c.configure_files-ended.new.agent (with_held (held_view number c.configure_files-ended.new.held) (with_folder (g.F.Folder.state c.configure_files-ended.new.folder) (with_clock (g.C.Clock.state c.configure_files-ended.new.clock) s))) in
    record {
      saves = run.saves;
      does = as_offered c.args.offer.config c.args.offer.config_hash f (with_saves run.saves h) c.configure_files-ended.result
          (subst (λ (files : AgentConfigMap). Configures (Some (as_offer files c.args.offer.config_hash)) f (with_saves run.saves h) c.configure_files-ended.result) c.offered_files-files.ensures run.does);
      images = run.images;
    }
