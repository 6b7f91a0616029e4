use Rattle.std.proofs.Common.{◌≡◌, List, Bool, cond, sym, ◌∙◌, ap, subst}
use Rattle.std.specs.Prelude.{slice_set}
use Rattle.server_core.specs.declared.rows.Pending.{Pending}
use Rattle.server_core.specs.declared.rows.Record.{Record}
use Rattle.server_core.specs.Beside.{pending_in, pendings_of}
use Rattle.server_core.specs.Rows.{IsHeldAt}
use Rattle.server_core.specs.Served.{Served}
use Rattle.server_core.specs.Table.{pending_at, table_with_pending, with_nothing}
use Rattle.server_core.proofs.AcceptLemmas.{AreKept, table_by, waiting_there, row_put, row_kept}
use Rattle.server_core.proofs.Sound.{fit_none}
use Rattle.server_core.proofs.server.Server.withdraw.Goals as goal

pub invariant_of-self : goal.invariant_of-self
invariant_of-self c =
    let u = c.args.uid.now in
    let at = c.in_ok-at.at in
    let records = c.self.inside.records.items in
    let rows = c.self.inside.rows.items in
    let old = c.index_mut.result.now in
    let row = c.clear_row.new.row in
    let new_is : pending_in u row ≡ with_nothing (pending_in u old) = (λ i. record { uid = u; offers = c.clear_row.ensures.standing i; restart = c.clear_row.ensures.restart i; stale = c.clear_row.ensures.stale i }) in
    let kept : AreKept records rows = record { ascending = c.self.invariant.records; even = c.self.invariant.rows; fit = c.self.invariant.fit } in
    let held : IsHeldAt (λ (r : Record). r.uid) records u at = subst (λ (v : Served). IsHeldAt (λ (r : Record). r.uid) v.table.records u at) (sym c.self.view_is) c.in_ok-at.ensures.place in
    let beside : IsHeldAt (λ (p : Pending). p.uid) (pendings_of records rows) u at = subst (λ (v : Served). IsHeldAt (λ (p : Pending). p.uid) v.table.pendings u at) (sym c.self.view_is) c.in_ok-at.ensures.beside in
    let after : AreKept records (slice_set rows at row) = row_kept records rows at u held beside old c.index_mut.ensures.value kept (with_nothing (pending_in u old)) row new_is fit_none in
    record { records = after.ascending; rows = after.even; fit = after.fit; list = c.self.invariant.list }

pub returns-clause-ok : goal.returns-clause-ok
returns-clause-ok c =
    let u = c.args.uid.now in
    let at = c.in_ok-at.at in
    let now = c.args.self.now in
    let profile = c.self.inside.profile in
    let records = c.self.inside.records.items in
    let rows = c.self.inside.rows.items in
    let old = c.index_mut.result.now in
    let row = c.clear_row.new.row in
    let new_is : pending_in u row ≡ with_nothing (pending_in u old) = (λ i. record { uid = u; offers = c.clear_row.ensures.standing i; restart = c.clear_row.ensures.restart i; stale = c.clear_row.ensures.stale i }) in
    let kept : AreKept records rows = record { ascending = c.self.invariant.records; even = c.self.invariant.rows; fit = c.self.invariant.fit } in
    let held : IsHeldAt (λ (r : Record). r.uid) records u at = subst (λ (v : Served). IsHeldAt (λ (r : Record). r.uid) v.table.records u at) (sym c.self.view_is) c.in_ok-at.ensures.place in
    let beside : IsHeldAt (λ (p : Pending). p.uid) (pendings_of records rows) u at = subst (λ (v : Served). IsHeldAt (λ (p : Pending). p.uid) v.table.pendings u at) (sym c.self.view_is) c.in_ok-at.ensures.beside in (
      c.in_ok-at.ensures.held,
      ap (λ (ps : List Pending). record { profile = profile; table = record { limit = c.self.inside.limit; records = records; pendings = ps } })
          (row_put records rows at u held beside old c.index_mut.ensures.value kept (with_nothing (pending_in u old)) row new_is)
          ∙ ap (λ (p : Pending). record { profile = profile; table = table_with_pending (table_by c.self.inside.limit records rows) (with_nothing p) }) (sym (waiting_there records rows at u held beside old c.index_mut.ensures.value kept))
          ∙ ap (λ (v : Served). record { profile = v.profile; table = table_with_pending v.table (with_nothing (pending_at v.table.pendings u)) }) c.self.view_is
          ∙ ap (λ (b : Bool). record { profile = now.profile; table = cond b (table_with_pending now.table (with_nothing (pending_at now.table.pendings u))) now.table }) (sym c.in_ok-at.ensures.held),
    )
