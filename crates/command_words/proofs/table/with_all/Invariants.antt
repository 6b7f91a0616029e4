use Rattle.std.proofs.Common.{◌≡◌, take}
use Rattle.clap.specs.Words.{app_of}
use Rattle.command_words.specs.Rows.{with_all}
use Rattle.command_words.proofs.table.with_all.Given as goal

abbrev pub invariant-loop-given : goal.invariant-loop-given
invariant-loop-given l = app_of l.program ≡ with_all (app_of l.initial.program) (take l.given-index l.subcommands)
