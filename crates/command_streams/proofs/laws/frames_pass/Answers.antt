use Rattle.command_streams.proofs.Progress.{Passes-none, Passes-one, Passes-trans, Passes-taken}
use Rattle.command_streams.proofs.Needs.{Wants-partial}
use Rattle.command_streams.proofs.laws.frames_pass.Goals as goal

pub returns-clause-none : goal.returns-clause-none
returns-clause-none g c = λ state held. Passes-none g.C.Told.makes state held

pub returns-clause-one : goal.returns-clause-one
returns-clause-one g c = λ state after old new len output. Passes-one g.C.Told.makes state after old new len output

pub returns-clause-behind : goal.returns-clause-behind
returns-clause-behind g c = λ a b d h i j. Passes-trans g.C.Told.makes a b d h i j

pub returns-clause-taken : goal.returns-clause-taken
returns-clause-taken g c = λ start now old new. Passes-taken g.C.Told.makes start now old new

pub returns-clause-cut : goal.returns-clause-cut
returns-clause-cut g c = Wants-partial
