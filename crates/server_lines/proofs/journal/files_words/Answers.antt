use Rattle.std.specs.String.{string_bytes}
use Rattle.server_lines.specs.Journal.{file_words}
use Rattle.server_lines.proofs.ListLemmas.{each_more}
use Rattle.server_lines.proofs.journal.files_words.Goals as goal

pub loop-file-preserved : goal.loop-file-preserved
loop-file-preserved c =
    each_more file_words (string_bytes c.loop-file.text) (string_bytes c.put_file.new.text) c.loop-file.file-index c.file-item.result c.args.files.now c.loop-file-test.true c.file-item.is c.in_ok-put_file.ensures.ok c.loop-file.invariant
