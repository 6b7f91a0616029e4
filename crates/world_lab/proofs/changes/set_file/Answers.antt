use Rattle.std.proofs.Common.{refl}
use Rattle.message_values.specs.declared.config.EffectiveConfig.{EffectiveConfig}
use Rattle.world_lab.specs.Playing.{put_file}
use Rattle.agent_rules.specs.declared.rules.parts.LocalState.{LocalState}
use Rattle.world_scripts.specs.declared.lines.Line.TheVariants as lines
use Rattle.world_lab.proofs.Lines.{if_both, change_plays}
use Rattle.world_lab.proofs.changes.set_file.Goals as goal

abbrev with : LocalState → EffectiveConfig → LocalState
with l x = record l { effective = x }

pub returns : goal.returns
returns c =
    let copied = c.in_ok-now.ensures.copied in
    let part = c.in_ok-now-2.ensures in
    record {
      played = if_both c.change.result
          (λ written goes text. change_plays (lines.Effective c.args.name.now c.args.body.now) (λ l. with l (put_file l.effective c.args.name.now c.args.body.now)) (λ a. refl) (λ w. refl) c.args.play.now c.change.new.play _ written (λ i. with (copied i) (part i)) goes text)
          c.change.ensures.mirrors c.change.ensures.written;
    }
