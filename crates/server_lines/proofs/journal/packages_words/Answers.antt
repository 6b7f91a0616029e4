use Rattle.std.specs.String.{string_bytes}
use Rattle.server_lines.specs.Journal.{words_of_package}
use Rattle.server_lines.proofs.ListLemmas.{each_more}
use Rattle.server_lines.proofs.journal.packages_words.Goals as goal

pub loop-entry-preserved : goal.loop-entry-preserved
loop-entry-preserved c =
    each_more words_of_package (string_bytes c.loop-entry.text) (string_bytes c.put_package.new.text) c.loop-entry.entry-index c.entry-item.result c.args.packages.now c.loop-entry-test.true c.entry-item.is c.in_ok-put_package.ensures.ok c.loop-entry.invariant
