use Rattle.std.proofs.Common.{◌≡◌, ◌++◌, ◌∷◌, codes, rules}
use Rattle.std.specs.String.{string_bytes}
use Rattle.world_lab.specs.Transcripts.{file_word}
use Rattle.world_lab.proofs.Joined.{word_more}
use Rattle.world_lab.proofs.text.put_active.Goals as goal

pub loop-file-preserved : goal.loop-file-preserved
loop-file-preserved c =
    let file = c.file-item.result in
    let appended : string_bytes c.write-in-loop-file.new.self ≡ string_bytes c.loop-file.text ++ (32 ∷ file_word file) = search rules in
    word_more file_word (codes "active") c.args.endpoint.now c.args.files.now c.loop-file.file-index file (string_bytes c.args.text.now) (string_bytes c.loop-file.text) _ c.loop-file-test.true c.file-item.is c.loop-file.invariant appended
