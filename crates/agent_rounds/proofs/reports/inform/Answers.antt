use Rattle.std.proofs.Common.{Err, inl, sym, ap}
use Rattle.message_handlers.specs.Names.{IsOrdered, names_of}
use Rattle.message_values.specs.declared.custom.CustomCapabilities.{CustomCapabilities}
use Rattle.agent_rules.specs.declared.saved.Saved.{Saved}
use Rattle.agent_rounds.specs.Moments.{held_view, with_agent, with_folder, with_held}
use Rattle.agent_rounds.specs.Parts.{ReadsStatus, SettlesWhereDue, TellsLocal}
use Rattle.agent_rounds.specs.Stages.{Then}
use Rattle.agent_rounds.proofs.RunLemmas.{goes_on}
use Rattle.agent_rounds.proofs.reports.inform.Goals as goal

pub returns-in-Err-clause-informs : goal.returns-in-Err-clause-informs
returns-in-Err-clause-informs g c = λ number s. inl (c.in-Err.ensures.settles number (with_agent c.args.agent.now s) (ap (λ (saved : Saved). saved.config) (sym c.saved.ensures.saved)))

pub returns-in-Err-read_status-clause-informs : goal.returns-in-Err-read_status-clause-informs
returns-in-Err-read_status-clause-informs g c =
    λ number s.
    goes_on SettlesWhereDue (λ _. Then ReadsStatus (λ _. TellsLocal (λ (names : CustomCapabilities). IsOrdered (names_of c.args.handlers.now) names.capabilities)))
    _ (with_agent c.args.agent.now (with_held (held_view number c.settle_where_due.new.held) (with_folder (g.F.Folder.state c.settle_where_due.new.folder) s))) _
    tt (Err c.in-Err-read_status.end) (c.in-Ok.ensures.settles number (with_agent c.args.agent.now s) (ap (λ (saved : Saved). saved.config) (sym c.saved.ensures.saved)))
    (inl (c.in-Err-read_status.ensures.reads number (with_agent c.args.agent.now s)))

pub returns-clause-informs : goal.returns-clause-informs
returns-clause-informs g c =
    λ number s.
    goes_on SettlesWhereDue (λ _. Then ReadsStatus (λ _. TellsLocal (λ (names : CustomCapabilities). IsOrdered (names_of c.args.handlers.now) names.capabilities)))
    _ (with_agent c.args.agent.now (with_held (held_view number c.settle_where_due.new.held) (with_folder (g.F.Folder.state c.settle_where_due.new.folder) s))) _
    tt c.tell_local.result (c.in-Ok.ensures.settles number (with_agent c.args.agent.now s) (ap (λ (saved : Saved). saved.config) (sym c.saved.ensures.saved)))
    (goes_on ReadsStatus (λ _. TellsLocal (λ (names : CustomCapabilities). IsOrdered (names_of c.args.handlers.now) names.capabilities))
    _ (with_agent c.args.agent.now (with_held (held_view number c.read_status.new.held) (with_folder (g.F.Folder.state c.read_status.new.folder) s))) _
    tt c.tell_local.result (c.in-Ok-read_status.ensures.reads number (with_agent c.args.agent.now s))
    (c.tell_local.ensures.tells number (with_folder (g.F.Folder.state c.read_status.new.folder) s)))
