use Rattle.std.proofs.Common.{◌≡◌, Option, refl, sym, ◌∙◌, ap, subst}
use Rattle.std.specs.Prelude.{slice_set, unwrap_or}
use Rattle.server_core.specs.declared.rows.Pending.{Pending}
use Rattle.server_core.specs.declared.rows.Record.{Record}
use Rattle.server_core.specs.Beside.{IsPlainNext, pendings_of}
use Rattle.server_core.specs.Replies.{plain_reply}
use Rattle.server_core.specs.Rows.{IsHeldAt}
use Rattle.server_core.specs.Served.{Served}
use Rattle.server_core.specs.Table.{Table, table_after_report, table_reply}
use Rattle.server_core.proofs.AcceptLemmas.{AreKept, found_there}
use Rattle.server_core.proofs.PlainLemmas.{plain_kept, plain_table, plainly_replied}
use Rattle.server_core.proofs.server.Server.merge_plainly.Goals as goal

pub invariant_of-self : goal.invariant_of-self
invariant_of-self c =
    let u = c.args.uid in
    let at = c.args.at in
    let m = c.args.report.now in
    let records = c.self.inside.records.items in
    let rows = c.self.inside.rows.items in
    let old = c.index.result.now in
    let r = c.index_mut.result.now in
    let kept : AreKept records rows = record { ascending = c.self.invariant.records; even = c.self.invariant.rows; fit = c.self.invariant.fit } in
    let held : IsHeldAt (λ (r : Record). r.uid) records u at = subst (λ (v : Served). IsHeldAt (λ (r : Record). r.uid) v.table.records u at) (sym c.self.view_is) c.requires.place in
    let beside : IsHeldAt (λ (p : Pending). p.uid) (pendings_of records rows) u at = subst (λ (v : Served). IsHeldAt (λ (p : Pending). p.uid) v.table.pendings u at) (sym c.self.view_is) c.requires.beside in
    let same : c.index-record.result.now ≡ r = ap (λ (o : Option Record). unwrap_or o r)
    (sym (found_there records rows at u held beside old c.index.ensures kept c.index-record.result.now c.index-record.ensures) ∙ found_there records rows at u held beside old c.index.ensures kept r c.index_mut.ensures.value) in
    let plain : IsPlainNext r m = subst (λ (x : Record). IsPlainNext x m) same (c.if-not-is_plain_next.ensures.plain refl) in
    let after : AreKept (slice_set records at c.merge_next.new.kept) rows =
    plain_kept records rows at u held beside old c.index.ensures kept r c.index_mut.ensures.value m c.requires.own c.requires.named plain (c.if-not-is_bare.ensures.bare refl) c.merge_next.new.kept c.merge_next.ensures.updated in
    record { records = after.ascending; rows = after.even; fit = after.fit; list = c.self.invariant.list }

pub returns-clause-reply : goal.returns-clause-reply
returns-clause-reply c =
    let u = c.args.uid in
    let at = c.args.at in
    let m = c.args.report.now in
    let records = c.self.inside.records.items in
    let rows = c.self.inside.rows.items in
    let old = c.index.result.now in
    let r = c.index-record.result.now in
    let kept : AreKept records rows = record { ascending = c.self.invariant.records; even = c.self.invariant.rows; fit = c.self.invariant.fit } in
    let held : IsHeldAt (λ (r : Record). r.uid) records u at = subst (λ (v : Served). IsHeldAt (λ (r : Record). r.uid) v.table.records u at) (sym c.self.view_is) c.requires.place in
    let beside : IsHeldAt (λ (p : Pending). p.uid) (pendings_of records rows) u at = subst (λ (v : Served). IsHeldAt (λ (p : Pending). p.uid) v.table.pendings u at) (sym c.self.view_is) c.requires.beside in
    λ done fresh. subst (λ (v : Served). table_reply v.profile v.table m fresh ≡ plain_reply v.profile u) c.self.view_is
    (plainly_replied records rows at u held beside old c.index.ensures kept r c.index-record.ensures m c.requires.own c.requires.named (c.if-not-is_plain_next.ensures.plain refl) (c.if-not-is_bare.ensures.bare refl) c.self.inside.profile c.self.inside.limit fresh)

pub returns-clause-table : goal.returns-clause-table
returns-clause-table c =
    let u = c.args.uid in
    let at = c.args.at in
    let m = c.args.report.now in
    let profile = c.self.inside.profile in
    let records = c.self.inside.records.items in
    let rows = c.self.inside.rows.items in
    let old = c.index.result.now in
    let r = c.index_mut.result.now in
    let kept : AreKept records rows = record { ascending = c.self.invariant.records; even = c.self.invariant.rows; fit = c.self.invariant.fit } in
    let held : IsHeldAt (λ (r : Record). r.uid) records u at = subst (λ (v : Served). IsHeldAt (λ (r : Record). r.uid) v.table.records u at) (sym c.self.view_is) c.requires.place in
    let beside : IsHeldAt (λ (p : Pending). p.uid) (pendings_of records rows) u at = subst (λ (v : Served). IsHeldAt (λ (p : Pending). p.uid) v.table.pendings u at) (sym c.self.view_is) c.requires.beside in
    let same : c.index-record.result.now ≡ r = ap (λ (o : Option Record). unwrap_or o r)
    (sym (found_there records rows at u held beside old c.index.ensures kept c.index-record.result.now c.index-record.ensures) ∙ found_there records rows at u held beside old c.index.ensures kept r c.index_mut.ensures.value) in
    let plain : IsPlainNext r m = subst (λ (x : Record). IsPlainNext x m) same (c.if-not-is_plain_next.ensures.plain refl) in
    λ done.
    ap (λ (t : Table). record { profile = profile; table = t })
    (plain_table records rows at u held beside old c.index.ensures kept r c.index_mut.ensures.value m c.requires.own c.requires.named plain (c.if-not-is_bare.ensures.bare refl) c.merge_next.new.kept c.merge_next.ensures.updated profile c.self.inside.limit)
    ∙ ap (λ (v : Served). record { profile = v.profile; table = table_after_report v.table m }) c.self.view_is
