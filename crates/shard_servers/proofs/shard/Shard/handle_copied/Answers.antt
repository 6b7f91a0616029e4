use Rattle.std.proofs.Common.{List, ◌∷◌, ◌++◌, ℕ, [], ◌+◌, ap, length, sym, subst, ◌∙◌}
use Rattle.std.proofs.lemmas.List.{length-append}
use Rattle.shard_journals.specs.declared.rows.Row.{Row}
use Rattle.shard_journals.specs.Histories.{IsHistory, due_after}
use Rattle.shard_servers.proofs.shard.Shard.handle_copied.Goals as goal

pub invariant_of-self-2 : goal.invariant_of-self-2
invariant_of-self-2 g c = (
  c.add.ensures.total ∙ ap (λ (n : ℕ). n + 1) c.self.invariant.0
      ∙ sym (ap length c.in_ok-answer.ensures.kept ∙ length-append c.self.inside.journal (c.in_ok-answer.answer.0 ∷ [])),
  c.self.invariant.1,
  c.self.invariant.2,
)

pub returns-clause-row : goal.returns-clause-row
returns-clause-row g c =
    c.in_ok-answer.ensures.row
    ∙ ap (λ (rows : List Row). record { desk = c.args.desk; item = c.args.item; report = c.args.report.now; reply = due_after rows c.args.report.now }) c.self.view_is

pub returns-clause-reply : goal.returns-clause-reply
returns-clause-reply g c = c.in_ok-answer.ensures.reply

pub returns-clause-kept : goal.returns-clause-kept
returns-clause-kept g c = c.in_ok-answer.ensures.kept ∙ ap (λ (rows : List Row). rows ++ c.in_ok-answer.answer.0 ∷ []) c.self.view_is

pub returns-clause-history : goal.returns-clause-history
returns-clause-history g c = subst (λ (rows : List Row). IsHistory rows) c.self.view_is c.in_ok-answer.ensures.history

pub returns-clause-amount : goal.returns-clause-amount
returns-clause-amount g c = c.add.ensures.amount

pub returns-clause-parts : goal.returns-clause-parts
returns-clause-parts g c = c.add.ensures.parts
