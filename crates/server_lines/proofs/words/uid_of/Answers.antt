use Rattle.std.proofs.Common.{sym}
use Rattle.uuid.specs.Text.{parsed}
use Rattle.server_lines.proofs.ArgumentLemmas.{unparsed}
use Rattle.server_lines.proofs.words.uid_of.Goals as goal

pub returns-in-Err : goal.returns-in-Err
returns-in-Err c = record { uid = sym (unparsed (parsed c.args.word.now) (λ u e. c.in-Err.ensures.ok.1 (u, e))) }
