use Rattle.std.proofs.Common.{lit<, refl}
use Rattle.std.proofs.lemmas.Fmt.{decimal_digit}
use Rattle.world_scripts.specs.Storms.{next_state, line_chosen, rare_line}
use Rattle.world_scripts.proofs.laws.worked_draws.Goals as goal

pub returns-clause-attribute : goal.returns-clause-attribute
unfolding next_state line_chosen rare_line
returns-clause-attribute c = rw (decimal_digit 6 (lit< tt)) refl
