use Rattle.std.proofs.Common.{◌≡◌, ℕ, List, ap, ◌∙◌}
use Rattle.message_codec.specs.Values.{Content, Values, And}
use Rattle.agent_rules.proofs.saved.Saved.into_parts.Goals as goal

first_column : (u w : List ℕ) (vs : Values) → u ≡ w → And (Content u) vs ≡ And (Content w) vs
first_column u w vs e = ap (λ (b : List ℕ). And (Content b) vs) e

pub returns : goal.returns
returns c = record { columns = first_column _ _ _ (c.in_ok-from_slice.ensures.value ∙ c.as_slice.ensures.value) }
