use Rattle.std.proofs.Common.{◌≡◌, ◌∙◌, ℕ, List, Some, ap}
use Rattle.plain_values.specs.declared.files.AgentConfigMap.{AgentConfigMap}
use Rattle.message_values.specs.declared.config.RemoteConfigStatus.{RemoteConfigStatus}
use Rattle.agent_rules.specs.Keeping.{fits_room}
use Rattle.agent_state.specs.Sound.{view_of}
use Rattle.agent_state.specs.View.{AgentView}
use Rattle.agent_state.proofs.agent.Agent.config_fits.Goals as goal

measured : (a b : AgentView) (files : AgentConfigMap) (status : RemoteConfigStatus) (hash : List ℕ) → a ≡ b → hash ≡ status.last_remote_config_hash
    → fits_room a.half.room (Some (record (a.half.saved) { config = files; config_hash = hash; remote = status }))
    ≡ fits_room b.half.room (Some (record (b.half.saved) { config = files; config_hash = status.last_remote_config_hash; remote = status }))
measured a b files status hash same is =
    ap (λ (v : AgentView). fits_room v.half.room (Some (record (v.half.saved) { config = files; config_hash = hash; remote = status }))) same
    ∙ ap (λ (h : List ℕ). fits_room b.half.room (Some (record (b.half.saved) { config = files; config_hash = h; remote = status }))) is

pub returns-clause-fits : goal.returns-clause-fits
returns-clause-fits c =
    c.fits_with.ensures.fits
    ∙ measured (view_of c.self.inside) c.args.self.now c.args.files.now c.args.status.now c.in_ok-hash.hash c.self.view_is c.in_ok-hash.ensures.copied
