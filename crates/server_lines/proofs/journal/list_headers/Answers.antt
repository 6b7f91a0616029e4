use Rattle.std.specs.String.{string_bytes}
use Rattle.server_lines.specs.Journal.{header_words}
use Rattle.server_lines.proofs.ListLemmas.{each_more}
use Rattle.server_lines.proofs.journal.list_headers.Goals as goal

pub loop-header-preserved : goal.loop-header-preserved
loop-header-preserved c =
    each_more header_words (string_bytes c.loop-header.text) (string_bytes c.put_header.new.text) c.loop-header.header-index c.header-item.result c.args.headers.now c.loop-header-test.true c.header-item.is c.in_ok-put_header.ensures.ok c.loop-header.invariant
