use Rattle.std.proofs.Common.{◌≡◌, List, map, true, false, sym, ◌∙◌, ap, subst}
use Rattle.std.specs.Prelude.{remove}
use Rattle.server_core.specs.declared.rows.Pending.{Pending}
use Rattle.server_core.specs.declared.rows.Record.{Record}
use Rattle.server_core.specs.declared.rows.Row.{Row}
use Rattle.server_core.specs.Beside.{pendings_of}
use Rattle.server_core.specs.Rows.{IsFreeAt, IsHeldAt}
use Rattle.server_core.specs.Served.{Served}
use Rattle.server_core.specs.Table.{Table, is_held, table_without}
use Rattle.server_core.proofs.AcceptLemmas.{AreKept, table_by}
use Rattle.server_core.proofs.BesideLemmas.{uids}
use Rattle.server_core.proofs.ForgetLemmas.{forgot_kept, forgot_none, forgot_table}
use Rattle.server_core.proofs.ServedLemmas.{free_at, held_at}
use Rattle.server_core.proofs.server.Server.forget.Goals as goal

pub invariant_of-self : goal.invariant_of-self
invariant_of-self c =
    let u = c.args.uid.now in
    let at = c.in-Ok.at in
    let records = c.self.inside.records.items in
    let rows = c.self.inside.rows.items in
    let kept : AreKept records rows = record { ascending = c.self.invariant.records; even = c.self.invariant.rows; fit = c.self.invariant.fit } in
    let held : IsHeldAt (λ (r : Record). r.uid) records u at = subst (λ (rs : List Record). IsHeldAt (λ (r : Record). r.uid) rs u at) c.as_slice.ensures.value c.in-Ok.ensures.place in
    let beside : IsHeldAt (λ (p : Pending). p.uid) (pendings_of records rows) u at =
    c.in-Ok.ensures.beside (pendings_of records rows) (uids records rows ∙ ap (λ (rs : List Record). map (λ (r : Record). r.uid) rs) (sym c.as_slice.ensures.value)) in
    let first : AreKept c.remove.new.self.items (remove rows at) = subst (λ (rs : List Record). AreKept rs (remove rows at)) (sym c.remove.ensures.items) (forgot_kept records rows at u held beside kept) in
    let after : AreKept c.remove.new.self.items c.remove-in-Ok.new.self.items = subst (λ (ws : List Row). AreKept c.remove.new.self.items ws) (sym c.remove-in-Ok.ensures.items) first in
    record { records = after.ascending; rows = after.even; fit = after.fit; list = c.self.invariant.list }

pub returns-in-Ok : goal.returns-in-Ok
returns-in-Ok c =
    let u = c.args.uid.now in
    let at = c.in-Ok.at in
    let profile = c.self.inside.profile in
    let records = c.self.inside.records.items in
    let rows = c.self.inside.rows.items in
    let kept : AreKept records rows = record { ascending = c.self.invariant.records; even = c.self.invariant.rows; fit = c.self.invariant.fit } in
    let held : IsHeldAt (λ (r : Record). r.uid) records u at = subst (λ (rs : List Record). IsHeldAt (λ (r : Record). r.uid) rs u at) c.as_slice.ensures.value c.in-Ok.ensures.place in
    let beside : IsHeldAt (λ (p : Pending). p.uid) (pendings_of records rows) u at =
    c.in-Ok.ensures.beside (pendings_of records rows) (uids records rows ∙ ap (λ (rs : List Record). map (λ (r : Record). r.uid) rs) (sym c.as_slice.ensures.value)) in
    record {
      held = sym (subst (λ (v : Served). is_held v.table u ≡ true) c.self.view_is (held_at records (pendings_of records rows) u at (uids records rows) beside));
      table = (λ i. record { profile = profile; table = table_by c.self.inside.limit (c.remove.ensures.items i) (c.remove-in-Ok.ensures.items i) })
          ∙ ap (λ (t : Table). record { profile = profile; table = t }) (forgot_table records rows at u held beside kept c.self.inside.limit)
          ∙ ap (λ (v : Served). record { profile = v.profile; table = table_without v.table u }) c.self.view_is;
    }

pub returns-in-Err : goal.returns-in-Err
returns-in-Err c =
    let u = c.args.uid.now in
    let at = c.in-Err.field-0 in
    let profile = c.self.inside.profile in
    let records = c.self.inside.records.items in
    let rows = c.self.inside.rows.items in
    let free : IsFreeAt (λ (r : Record). r.uid) records u at = subst (λ (rs : List Record). IsFreeAt (λ (r : Record). r.uid) rs u at) c.as_slice.ensures.value c.in-Err.ensures.place in
    let beside : IsFreeAt (λ (p : Pending). p.uid) (pendings_of records rows) u at =
    c.in-Err.ensures.beside (pendings_of records rows) (uids records rows ∙ ap (λ (rs : List Record). map (λ (r : Record). r.uid) rs) (sym c.as_slice.ensures.value)) in
    record {
      held = sym (subst (λ (v : Served). is_held v.table u ≡ false) c.self.view_is (free_at records (pendings_of records rows) u at (uids records rows) beside));
      table = sym c.self.view_is
          ∙ ap (λ (t : Table). record { profile = profile; table = t }) (forgot_none (table_by c.self.inside.limit records rows) u at free beside)
          ∙ ap (λ (v : Served). record { profile = v.profile; table = table_without v.table u }) c.self.view_is;
    }
