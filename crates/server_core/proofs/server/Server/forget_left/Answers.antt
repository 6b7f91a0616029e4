use Rattle.std.proofs.Common.{List, length, sym, ◌∙◌, ap, subst}
use Rattle.std.proofs.lemmas.List.{length-map}
use Rattle.server_core.specs.declared.rows.Record.{Record}
use Rattle.server_core.specs.declared.rows.Row.{Row}
use Rattle.server_core.specs.Beside.{rows_here}
use Rattle.server_core.specs.Served.{Served}
use Rattle.server_core.specs.Table.{Table, left_agents, table_without_left}
use Rattle.server_core.proofs.AcceptLemmas.{AreKept, table_by}
use Rattle.server_core.proofs.ForgetLemmas.{forgot_left_kept, forgot_left_table}
use Rattle.server_core.proofs.GatherLemmas.{left_of}
use Rattle.server_core.proofs.server.Server.forget_left.Goals as goal

pub invariant_of-self : goal.invariant_of-self
invariant_of-self c =
    let records = c.self.inside.records.items in
    let rows = c.self.inside.rows.items in
    let kept : AreKept records rows = record { ascending = c.self.invariant.records; even = c.self.invariant.rows; fit = c.self.invariant.fit } in
    let first : AreKept c.drop_left.new.records.items (rows_here records rows) = subst (λ (rs : List Record). AreKept rs (rows_here records rows)) (sym c.drop_left.ensures.records) (forgot_left_kept records rows kept) in
    let after : AreKept c.drop_left.new.records.items c.drop_left.new.rows.items = subst (λ (ws : List Row). AreKept c.drop_left.new.records.items ws) (sym c.drop_left.ensures.rows) first in
    record { records = after.ascending; rows = after.even; fit = after.fit; list = c.self.invariant.list }

pub returns : goal.returns
returns c =
    let profile = c.self.inside.profile in
    let records = c.self.inside.records.items in
    let rows = c.self.inside.rows.items in
    let kept : AreKept records rows = record { ascending = c.self.invariant.records; even = c.self.invariant.rows; fit = c.self.invariant.fit } in
    record {
      count = c.drop_left.ensures.count
          ∙ sym (length-map (left_of records) (λ (r : Record). r.uid))
          ∙ ap (λ (v : Served). length (left_agents v.table)) c.self.view_is;
      table = (λ i. record { profile = profile; table = table_by c.self.inside.limit (c.drop_left.ensures.records i) (c.drop_left.ensures.rows i) })
          ∙ ap (λ (t : Table). record { profile = profile; table = t }) (forgot_left_table records rows kept c.self.inside.limit)
          ∙ ap (λ (v : Served). record { profile = v.profile; table = table_without_left v.table }) c.self.view_is;
    }
