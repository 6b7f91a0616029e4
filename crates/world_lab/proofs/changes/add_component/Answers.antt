use Rattle.std.proofs.Common.{refl}
use Rattle.message_values.specs.declared.components.AvailableComponents.{AvailableComponents}
use Rattle.world_lab.specs.Playing.{hashed_components, put_component}
use Rattle.agent_rules.specs.declared.rules.parts.LocalState.{LocalState}
use Rattle.world_scripts.specs.declared.lines.Line.TheVariants as lines
use Rattle.world_lab.proofs.Lines.{if_both, change_plays}
use Rattle.world_lab.proofs.changes.add_component.Goals as goal

abbrev with : LocalState → AvailableComponents → LocalState
with l x = record l { components = x }

pub returns : goal.returns
returns c =
    let copied = c.in_ok-now.ensures.copied in
    let part = c.in_ok-now-2.ensures in
    record {
      played = if_both c.change.result
          (λ written goes text. change_plays (lines.Component c.args.name.now) (λ l. with l (hashed_components (put_component l.components.components c.args.name.now))) (λ a. refl) (λ w. refl) c.args.play.now c.change.new.play _ written (λ i. with (copied i) (part i)) goes text)
          c.change.ensures.mirrors c.change.ensures.written;
    }
