use Rattle.std.proofs.Common.{refl}
use Rattle.message_values.specs.declared.health.ComponentHealth.{ComponentHealth}
use Rattle.world_lab.specs.Playing.{healthy}
use Rattle.agent_rules.specs.declared.rules.parts.LocalState.{LocalState}
use Rattle.world_scripts.specs.declared.lines.Line.TheVariants as lines
use Rattle.world_lab.proofs.Lines.{if_both, change_plays}
use Rattle.world_lab.proofs.changes.set_healthy.Goals as goal

abbrev with : LocalState → ComponentHealth → LocalState
with l x = record l { health = x }

pub returns : goal.returns
returns c =
    let copied = c.in_ok-now.ensures.copied in
    let part = c.healthy.ensures.health in
    record {
      played = if_both c.change.result
          (λ written goes text. change_plays (lines.HealthOk) (λ l. with l (healthy)) (λ a. refl) (λ w. refl) c.args.play.now c.change.new.play _ written (λ i. with (copied i) (part i)) goes text)
          c.change.ensures.mirrors c.change.ensures.written;
    }
