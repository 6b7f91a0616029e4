use Rattle.std.proofs.Common.{◌∙◌, ℕ, List, [], ◌∷◌, ◌++◌, ap, refl}
use Rattle.agent_rules.specs.declared.rules.parts.LocalState.{LocalState}
use Rattle.world_scripts.specs.declared.lines.Line.TheVariants as lines
use Rattle.world_lab.proofs.Lines.{if_both, change_plays}
use Rattle.world_lab.proofs.changes.add_custom.Goals as goal

abbrev with : LocalState → List (List ℕ) → LocalState
with l x = record l { custom = record { capabilities = x } }

pub returns : goal.returns
returns c =
    let copied = c.in_ok-now.ensures.copied in
    let part = c.in_ok-push.ensures.ok ∙ ap (λ l. l.custom.capabilities ++ c.in_ok-copy.field-0 ∷ []) copied ∙ ap (λ (name : List ℕ). c.args.play.now.local.custom.capabilities ++ name ∷ []) c.in_ok-copy.ensures.copied in
    record {
      played = if_both c.change.result
          (λ written goes text. change_plays (lines.Custom c.args.name.now) (λ l. with l (l.custom.capabilities ++ c.args.name.now ∷ [])) (λ a. refl) (λ w. refl) c.args.play.now c.change.new.play _ written (λ i. with (copied i) (part i)) goes text)
          c.change.ensures.mirrors c.change.ensures.written;
    }
