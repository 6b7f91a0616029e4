use Rattle.std.proofs.Common.{◌≡◌, [], false, map, take}
use Rattle.clap.specs.Words.{app_of}
use Rattle.clap.specs.declared.builder.command.Command.TheViews.{out-Command}
use Rattle.command_words.specs.Rows.{rule_in}
use Rattle.command_words.specs.Table.{subcommand}
use Rattle.command_words.proofs.table.subcommand_of.Given as goal

abbrev pub invariant-loop-given : goal.invariant-loop-given
invariant-loop-given l = record {
  shape : app_of l.command ≡ record { top = subcommand l.name (map rule_in (take l.given-index l.arguments)); subs = [] };
  local : (out-Command l.command).has_globals ≡ false;
}
