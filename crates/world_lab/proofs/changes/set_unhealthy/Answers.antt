use Rattle.std.proofs.Common.{◌∙◌, ℕ, List, ap, refl}
use Rattle.message_values.specs.declared.health.ComponentHealth.{ComponentHealth}
use Rattle.world_lab.specs.Playing.{unhealthy}
use Rattle.agent_rules.specs.declared.rules.parts.LocalState.{LocalState}
use Rattle.world_scripts.specs.declared.lines.Line.TheVariants as lines
use Rattle.world_lab.proofs.Lines.{if_both, change_plays}
use Rattle.world_lab.proofs.changes.set_unhealthy.Goals as goal

abbrev with : LocalState → ComponentHealth → LocalState
with l x = record l { health = x }

pub returns : goal.returns
returns c =
    let copied = c.in_ok-now.ensures.copied in
    let part = c.health_of.ensures ∙ ap (λ (e : List ℕ). unhealthy e) c.in_ok-copy.ensures.copied in
    record {
      played = if_both c.change.result
          (λ written goes text. change_plays (lines.HealthBad c.args.error.now) (λ l. with l (unhealthy c.args.error.now)) (λ a. refl) (λ w. refl) c.args.play.now c.change.new.play _ written (λ i. with (copied i) (part i)) goes text)
          c.change.ensures.mirrors c.change.ensures.written;
    }
