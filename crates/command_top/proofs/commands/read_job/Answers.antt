use Rattle.std.proofs.Common.{sym, subst}
use Rattle.command_words.specs.declared.commands.Command.{Command}
use Rattle.command_words.specs.Meaning.{AreWords}
use Rattle.command_top.proofs.Naming.{can_begin}
use Rattle.command_top.proofs.commands.read_job.Goals as goal

pub returns-in-Ok-clause-can_begin : goal.returns-in-Ok-clause-can_begin
returns-in-Ok-clause-can_begin c =
    can_begin
    (record { count = c.named_values.ensures.count; server = c.named_values.ensures.server; rollout = c.named_values.ensures.rollout; desks = c.named_values.ensures.desks })
    c.args.words.now c.job_of.result
    (subst (λ (command : Command). AreWords c.args.words.now command) (sym c.job_of.ensures.job) c.in-Ok.ensures.read)
