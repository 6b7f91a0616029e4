use Rattle.std.proofs.Common.{◌≡◌, ◌∙◌, sym, subst, IfOk, Option, ◌-◌, length, get_or, take, drop, true, []}
use Rattle.std.specs.Prelude.{codes}
use Rattle.std.specs.Str.{bytes_eq}
use Rattle.std.proofs.lemmas.List.{take_rest}
use Rattle.server_lines.specs.declared.orders.Steering.{Steering}
use Rattle.server_lines.proofs.ArgumentLemmas.{behind_where}
use Rattle.server_lines.proofs.steering.begin_behind.Goals as goal

pub returns-then-eq : goal.returns-then-eq
returns-then-eq c =
    let args = c.args.words.now in
    let is : bytes_eq (get_or args 0 (record { ref_ptr = (0, 0); now = [] })).now (codes "where") ≡ true = sym c.eq.ensures ∙ c.if-eq.true in
    let same = behind_where c.args.width c.args.allowed args (take (length args - 2) (drop 2 args)) (record { ref_ptr = (0, 0); now = [] }) c.in-len2-up.len_at_least (take_rest args 2) is in
    record { read = subst (λ (o : Option Steering). IfOk c.begin_where.result (λ read. read ≡ o)) same c.begin_where.ensures.read }
