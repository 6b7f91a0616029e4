use Rattle.std.proofs.Common.{◌≡◌, List, ◌∷◌, ◌++◌, [], None, ap, sym, subst, ◌∙◌}
use Rattle.message_values.specs.declared.reply.ServerToAgent.{ServerToAgent}
use Rattle.message_values.specs.declared.report.AgentToServer.{AgentToServer}
use Rattle.server_core.specs.declared.rows.TheConstants.{AGENT_LIMIT}
use Rattle.server_core.specs.History.{Reported}
use Rattle.server_core.specs.Table.{table_after, table_reply}
use Rattle.shard_journals.specs.declared.rows.Row.{Row}
use Rattle.shard_journals.specs.Histories.{IsHistory, IsKeptBy, due_after}
use Rattle.shard_journals.specs.PlainReplies.{IsPlainTo}
use Rattle.shard_journals.proofs.HistoryLemmas.{due_is, handled}
use Rattle.shard_journals.proofs.journal.Journal.handle_copied.Goals as goal

pub invariant_of-self-2 : goal.invariant_of-self-2
invariant_of-self-2 c =
    let row = c.row_of-row.result in
    let server = c.self.inside.server in
    let items : c.put_last.new.items.items ≡ c.self.inside.rows.items ++ row ∷ [] =
    c.put_last.ensures.items ∙ (λ i. c.make_room.ensures.items i ++ c.again.ensures.same i ∷ []) in
    subst (λ (rs : List Row). IsKeptBy c.handle_owned.new.self rs) (sym items)
    (handled (c.table_follows_history.ensures.follows AGENT_LIMIT) (c.table_follows_history.ensures.replies AGENT_LIMIT) server c.handle_owned.new.self c.self.inside.rows.items
    c.args.desk c.args.item c.args.report.now c.in_ok-reply.reply row c.self.invariant
    (c.in_ok-reply.ensures.reply ∙ ap (λ (m : AgentToServer). table_reply server.profile server.table m None) c.requires.copied)
    (c.in_ok-reply.ensures.table ∙ ap (λ (m : AgentToServer). record server { table = table_after server.table (Reported m) }) c.requires.copied)
    c.row_of-row.ensures.row)

pub returns-clause-row : goal.returns-clause-row
returns-clause-row c =
    let m = c.args.report.now in
    let server = c.self.inside.server in
    let due : c.in_ok-reply.reply ≡ due_after c.self.inside.rows.items m =
    due_is (c.table_follows_history.ensures.replies AGENT_LIMIT) server c.self.inside.rows.items m c.in_ok-reply.reply c.self.invariant
    (c.in_ok-reply.ensures.reply ∙ ap (λ (x : AgentToServer). table_reply server.profile server.table x None) c.requires.copied) in
    c.row_of-row.ensures.row
    ∙ ap (λ (r : ServerToAgent). record { desk = c.args.desk; item = c.args.item; report = m; reply = r }) (due ∙ ap (λ (rs : List Row). due_after rs m) c.self.view_is)

pub returns-clause-history : goal.returns-clause-history
returns-clause-history c = subst (λ (rs : List Row). IsHistory rs) c.self.view_is c.self.invariant.history

pub returns-clause-reply : goal.returns-clause-reply
returns-clause-reply c = sym (ap (λ (r : Row). r.reply) c.row_of-row.ensures.row)

pub returns-clause-plain : goal.returns-clause-plain
returns-clause-plain c =
    let m = c.args.report.now in
    let server = c.self.inside.server in
    let due : c.in_ok-reply.reply ≡ due_after c.self.inside.rows.items m =
    due_is (c.table_follows_history.ensures.replies AGENT_LIMIT) server c.self.inside.rows.items m c.in_ok-reply.reply c.self.invariant
    (c.in_ok-reply.ensures.reply ∙ ap (λ (x : AgentToServer). table_reply server.profile server.table x None) c.requires.copied) in
    subst (λ (r : ServerToAgent). IsPlainTo m r) (sym due) (c.due_replies_are_plain.ensures.plain c.self.inside.rows.items m)
