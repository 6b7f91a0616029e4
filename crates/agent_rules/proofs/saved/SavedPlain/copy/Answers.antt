use Rattle.std.proofs.Common.{◌≡◌, ap, ◌∙◌}
use Rattle.plain_values.specs.declared.fours.Four.{Four}
use Rattle.agent_rules.proofs.saved.SavedPlain.copy.Goals as goal

-- four values that were copied, taken apart
four_copied : {A B C D : Type 0} (a : A) (b : B) (c : C) (d : D) (parts : A × B × C × D) (four : Four A B C D)
    → parts ≡ (four.first, four.second, four.third, four.fourth)
    → four ≡ record { first = a; second = b; third = c; fourth = d }
    → parts ≡ (a, b, c, d)
four_copied {A} {B} {C} {D} a b c d parts four apart copied = apart ∙ ap (λ (f : Four A B C D). (f.first, f.second, f.third, f.fourth)) copied

pub returns : goal.returns
returns c =
    let own = c.args.self.now in
    let parts = four_copied _ _ _ _ _ _ c.into_parts-settings.ensures.parts c.in_ok-parts.ensures.copied in
    record {
      copied = λ i. record {
        uid = c.copy-3.ensures.copied i;
        limit = own.limit;
        uid_given = own.uid_given;
        settings = (parts i).0;
        config = (parts i).1;
        config_hash = c.in_ok-config_hash.ensures.copied i;
        remote = (parts i).2;
        packages = (parts i).3;
        components_hash = c.in_ok-components_hash.ensures.copied i;
      };
    }
