-- What the rows of the table of words stand for.
use Rattle.std.specs.Prelude.{List, [], ◌∷◌, map}
use Rattle.clap.specs.Words.{App, Rule, Shape, with_subcommand}
use Rattle.command_words.specs.Table.{needed, option, choice, flag, subcommand}
use Rattle.command_words.specs.declared.table.Argument.{Argument}
use Rattle.command_words.specs.declared.table.Argument.TheVariants.{Needed, Valued, Chosen, Flag}
use Rattle.command_words.specs.declared.table.Subcommand.{Subcommand}

abbrev pub rule_in : Argument → Rule
rule_in (Needed name) = needed name.now
rule_in (Valued name value) = option name.now value.now
rule_in (Chosen name) = choice name.now
rule_in (Flag name) = flag name.now

abbrev pub shape_in : Subcommand → Shape
shape_in given = subcommand given.name.now (map rule_in given.arguments.now)

-- a command with these subcommands more
abbrev pub with_all : App → List Subcommand → App
with_all app [] = app
with_all app (given ∷ more) = with_all (with_subcommand app (shape_in given)) more
