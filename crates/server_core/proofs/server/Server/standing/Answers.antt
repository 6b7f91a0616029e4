use Rattle.std.proofs.Common.{List, map, sym, ◌∙◌, ap, subst}
use Rattle.std.specs.Prelude.{unwrap_or}
use Rattle.server_core.specs.declared.rows.Pending.{Pending}
use Rattle.server_core.specs.declared.rows.Record.{Record}
use Rattle.server_core.specs.Beside.{pendings_of}
use Rattle.server_core.specs.Rows.{IsFreeAt, IsHeldAt}
use Rattle.server_core.specs.Served.{Served}
use Rattle.server_core.specs.Table.{no_pending, pending_at}
use Rattle.server_core.proofs.AcceptLemmas.{AreKept, waiting_there}
use Rattle.server_core.proofs.BesideLemmas.{uids}
use Rattle.server_core.proofs.server.Server.standing.Goals as goal

pub returns-in-Ok : goal.returns-in-Ok
returns-in-Ok c =
    let u = c.args.uid.now in
    let at = c.in-Ok.at in
    let records = c.self.inside.records.items in
    let rows = c.self.inside.rows.items in
    let row = c.index.result.now in
    let kept : AreKept records rows = record { ascending = c.self.invariant.records; even = c.self.invariant.rows; fit = c.self.invariant.fit } in
    let held : IsHeldAt (λ (r : Record). r.uid) records u at = subst (λ (rs : List Record). IsHeldAt (λ (r : Record). r.uid) rs u at) c.as_slice.ensures.value c.in-Ok.ensures.place in
    let beside : IsHeldAt (λ (p : Pending). p.uid) (pendings_of records rows) u at =
    c.in-Ok.ensures.beside (pendings_of records rows) (uids records rows ∙ ap (λ (rs : List Record). map (λ (r : Record). r.uid) rs) (sym c.as_slice.ensures.value)) in
    record {
      standing = c.standing_in.ensures.standing
          ∙ ap (λ (p : Pending). p.offers) (sym (waiting_there records rows at u held beside row c.index.ensures kept))
          ∙ ap (λ (v : Served). (pending_at v.table.pendings u).offers) c.self.view_is;
    }

pub returns-in-Err : goal.returns-in-Err
returns-in-Err c =
    let u = c.args.uid.now in
    let records = c.self.inside.records.items in
    let rows = c.self.inside.rows.items in
    let free : IsFreeAt (λ (p : Pending). p.uid) (pendings_of records rows) u c.in-Err.field-0 =
    c.in-Err.ensures.beside (pendings_of records rows) (uids records rows ∙ ap (λ (rs : List Record). map (λ (r : Record). r.uid) rs) (sym c.as_slice.ensures.value)) in
    record {
      standing = ap (λ o. (unwrap_or o (no_pending u)).offers) (sym free.absent) ∙ ap (λ (v : Served). (pending_at v.table.pendings u).offers) c.self.view_is;
    }
