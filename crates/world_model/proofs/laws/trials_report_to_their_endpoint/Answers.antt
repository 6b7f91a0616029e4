use Rattle.std.proofs.Common.{Some, Option, ◌∙◌, ap}
use Rattle.std.specs.Prelude.{unwrap_or}
use Rattle.std.specs.Option.{option_map}
use Rattle.message_values.specs.declared.state.Settings.{Settings}
use Rattle.agent_rules.specs.Reports.{Entry}
use Rattle.world_model.specs.World.{world}
use Rattle.world_model.proofs.Kept.{world_sound}
use Rattle.world_model.proofs.laws.trials_report_to_their_endpoint.Goals as goal

pub returns-clause-there : goal.returns-clause-there
returns-clause-there c = λ start events tried awaits trial.
    let own = (world_sound start events).fit.awaited awaits in
    let active = (world start events).agent.saved.settings in
    ap (option_map (λ (e : Entry). e.server)) own.is_last
    ∙ ap (λ s. Some s) (own.server ∙ ap (λ (o : Option Settings). (unwrap_or o active).endpoint) trial)

pub returns-clause-whole : goal.returns-clause-whole
returns-clause-whole c = λ start events tried awaits trial.
    let fit = (world_sound start events).fit in
    let own = fit.awaited awaits in
    ap (option_map (λ (e : Entry). e.basis)) own.is_last ∙ ap (λ b. Some b) (fit.alone awaits tried trial own.entry own.is_last)
