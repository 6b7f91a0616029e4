use Rattle.std.proofs.Common.{arith, sym, ◌≡◌, length, []}
use Rattle.std.proofs.lemmas.Bool.{ltb-true, ltb-false}
use Rattle.server_lines.proofs.ArgumentLemmas.{connect_of_other, connect_read}
use Rattle.server_lines.proofs.lines.connect_of.Goals as goal
use Rattle.server_lines.proofs.lines.connect_of.Goals.{in_default-via-then-words-lt1, in_default-via-else-words-lt1+else-words-lt2}

pub returns-in_default : goal.returns-in_default
returns-in_default c = record {
  read = elim c.in_default.branch [
    | in_default-via-then-words-lt1 w ↦ sym (connect_of_other c.args.words.now (λ one. omega (arith, one, ltb-true, ltb-false)))
    | in_default-via-else-words-lt1+else-words-lt2 w ↦ sym (connect_of_other c.args.words.now (λ one. omega (arith, one, ltb-true, ltb-false)))
  ];
}

pub returns : goal.returns
returns c =
    let one : length c.args.words.now ≡ 1 = omega (arith, c.in-len1.len_at_least, c.in-len1.len_below) in
    record { read = connect_read c.args.words.now (record { ref_ptr = (0, 0); now = [] }) _ _ one c.endpoint_alone.ensures.settings c.in_ok-url.ensures.text }
