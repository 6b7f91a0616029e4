use Rattle.std.proofs.Common.{◌∙◌, ℕ, List, ◌++◌, ap}
use Rattle.world_lab.specs.Transcripts.{text_of}
use Rattle.world_lab.proofs.Lines.{on_ok}
use Rattle.world_lab.proofs.Restarts.{always}
use Rattle.world_lab.proofs.simulating.show_line.Goals as goal

pub returns : goal.returns
returns c = record {
  mirrors = always c.put_written-shown.result (λ p m. (c.in_ok-written.ensures.played p m).mirrors);
  text = on_ok c.put_written-shown.result (λ text p m. text ∙ ap (λ (t : List ℕ). t ++ text_of c.in_ok-written.written) c.clear.ensures.bytes ∙ ap text_of (c.in_ok-written.ensures.played p m).written) c.put_written-shown.ensures.text;
}
