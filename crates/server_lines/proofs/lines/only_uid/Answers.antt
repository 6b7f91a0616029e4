use Rattle.std.proofs.Common.{arith, sym, ◌≡◌, length, []}
use Rattle.std.proofs.lemmas.Bool.{ltb-true, ltb-false}
use Rattle.server_lines.proofs.ArgumentLemmas.{not_one, one_uid}
use Rattle.server_lines.proofs.lines.only_uid.Goals as goal
use Rattle.server_lines.proofs.lines.only_uid.Goals.{in_default-via-then-arguments-lt1, in_default-via-else-arguments-lt1+else-arguments-lt2}

pub returns-in_default : goal.returns-in_default
returns-in_default c = record {
  read = elim c.in_default.branch [
    | in_default-via-then-arguments-lt1 w ↦ sym (not_one c.args.arguments.now (λ one. omega (arith, one, ltb-true, ltb-false)))
    | in_default-via-else-arguments-lt1+else-arguments-lt2 w ↦ sym (not_one c.args.arguments.now (λ one. omega (arith, one, ltb-true, ltb-false)))
  ];
}

pub returns-in-len1 : goal.returns-in-len1
returns-in-len1 c =
    let one : length c.args.arguments.now ≡ 1 = omega (arith, c.in-len1.len_at_least, c.in-len1.len_below) in
    record { read = one_uid c.args.arguments.now (record { ref_ptr = (0, 0); now = [] }) _ one c.uid_of.ensures.uid }
