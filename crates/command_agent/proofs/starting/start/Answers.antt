use Rattle.std.proofs.Common.{◌∙◌, ap}
use Rattle.agent_rules.specs.Half.{AgentHalf}
use Rattle.command_agent.proofs.StartLemmas.{awaits_none, fits_start}
use Rattle.command_agent.proofs.starting.start.Goals as goal

pub returns-in-Ok-agent_of-clause-fits : goal.returns-in-Ok-agent_of-clause-fits
returns-in-Ok-agent_of-clause-fits g c =
    fits_start c.args.options.now c.in-Ok.names c.in-Ok-uid_of.uid (g.D.Disk.state c.args.disk.now) (g.D.Disk.state c.load.new.disk) c.in-Ok-load.loaded.1 c.in-Ok-load.loaded.0 c.in-Ok-agent_of.agent
    c.in-Ok-load.ensures.loads c.in-Ok-agent_of.ensures.store c.in-Ok-agent_of.ensures.half

pub returns-in-Ok-agent_of-clause-idle : goal.returns-in-Ok-agent_of-clause-idle
returns-in-Ok-agent_of-clause-idle g c =
    ap (λ (half : AgentHalf). half.awaits) c.in-Ok-agent_of.ensures.half
    ∙ awaits_none c.args.options.now c.in-Ok.names c.in-Ok-load.loaded.1 c.in-Ok-uid_of.uid
