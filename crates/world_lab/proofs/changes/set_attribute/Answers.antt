use Rattle.std.proofs.Common.{List, refl}
use Rattle.message_values.specs.declared.attributes.KeyValue.{KeyValue}
use Rattle.world_lab.specs.Playing.{put_attribute}
use Rattle.agent_rules.specs.declared.rules.parts.LocalState.{LocalState}
use Rattle.world_scripts.specs.declared.lines.Line.TheVariants as lines
use Rattle.world_lab.proofs.Lines.{if_both, change_plays}
use Rattle.world_lab.proofs.changes.set_attribute.Goals as goal

abbrev with : LocalState → List KeyValue → LocalState
with l x = record l { description = record (l.description) { identifying_attributes = x } }

pub returns : goal.returns
returns c =
    let copied = c.in_ok-now.ensures.copied in
    let part = c.in_ok-now-2.ensures.attributes in
    record {
      played = if_both c.change.result
          (λ written goes text. change_plays (lines.Attr c.args.key.now c.args.value.now) (λ l. with l (put_attribute l.description.identifying_attributes c.args.key.now c.args.value.now)) (λ a. refl) (λ w. refl) c.args.play.now c.change.new.play _ written (λ i. with (copied i) (part i)) goes text)
          c.change.ensures.mirrors c.change.ensures.written;
    }
