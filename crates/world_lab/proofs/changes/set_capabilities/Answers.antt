use Rattle.std.proofs.Common.{◌≡◌, ℕ, refl}
use Rattle.agent_rules.specs.declared.rules.parts.LocalState.{LocalState}
use Rattle.world_scripts.specs.declared.lines.Line.TheVariants as lines
use Rattle.world_lab.proofs.Lines.{if_both, change_plays}
use Rattle.world_lab.proofs.changes.set_capabilities.Goals as goal

abbrev with : LocalState → ℕ → LocalState
with l x = record l { capabilities = x }

pub returns : goal.returns
returns c =
    let copied = c.in_ok-now.ensures.copied in
    let part = let same : c.args.bits ≡ c.args.bits = refl in same in
    record {
      played = if_both c.change.result
          (λ written goes text. change_plays (lines.Caps c.args.bits) (λ l. with l (c.args.bits)) (λ a. refl) (λ w. refl) c.args.play.now c.change.new.play _ written (λ i. with (copied i) (part i)) goes text)
          c.change.ensures.mirrors c.change.ensures.written;
    }
