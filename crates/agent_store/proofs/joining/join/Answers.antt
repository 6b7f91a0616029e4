use Rattle.std.proofs.Common.{◌≡◌, ℕ, List, length, sym, ◌∙◌, ap, subst, arith}
use Rattle.edge_devices.specs.Disks.{disk_bytes, LeftSince}
use Rattle.edge_devices.proofs.DiskMoments.{ok_part}
use Rattle.agent_store.specs.Log.{entry_bytes}
use Rattle.agent_store.specs.Images.{IsJoined, IsJoining}
use Rattle.agent_store.proofs.Logs.{length-entry}
use Rattle.agent_store.proofs.joining.join.Goals as goal

pub append-requires-clause-range : goal.append-requires-clause-range
append-requires-clause-range g c =
    let fields = g.P.Payload.codec.change c.args.former.now c.args.next.now in
    let is_entry : c.as_slice-entry.result.now ≡ entry_bytes fields = c.as_slice-entry.ensures.bytes ∙ ok_part c.fill_entry.result (c.fill_entry.new.row.bytes ≡ entry_bytes fields) (sym c.is_err.ensures.value ∙ c.if-is_err.false) c.fill_entry.ensures.bytes in
    omega (arith, c.requires.range, ap length is_entry, length-entry fields)

pub returns-in_err-append-clause-any_moment : goal.returns-in_err-append-clause-any_moment
returns-in_err-append-clause-any_moment g c = λ told.
    let S = g.D.Disk.state in
    let old = S c.args.disk.now in
    let fields = g.P.Payload.codec.change c.args.former.now c.args.next.now in
    let is_entry : c.as_slice-entry.result.now ≡ entry_bytes fields = c.as_slice-entry.ensures.bytes ∙ ok_part c.fill_entry.result (c.fill_entry.new.row.bytes ≡ entry_bytes fields) (sym c.is_err.ensures.value ∙ c.if-is_err.false) c.fill_entry.ensures.bytes in
    subst (λ (e : List ℕ). LeftSince old (S c.append.new.disk) (IsJoining c.args.tail e (disk_bytes old))) is_entry (c.append.ensures.any_moment told)

pub returns-clause-any_moment : goal.returns-clause-any_moment
returns-clause-any_moment g c = λ told.
    let S = g.D.Disk.state in
    let old = S c.args.disk.now in
    let fields = g.P.Payload.codec.change c.args.former.now c.args.next.now in
    let is_entry : c.as_slice-entry.result.now ≡ entry_bytes fields = c.as_slice-entry.ensures.bytes ∙ ok_part c.fill_entry.result (c.fill_entry.new.row.bytes ≡ entry_bytes fields) (sym c.is_err.ensures.value ∙ c.if-is_err.false) c.fill_entry.ensures.bytes in
    subst (λ (e : List ℕ). LeftSince old (S c.append.new.disk) (IsJoining c.args.tail e (disk_bytes old))) is_entry (c.append.ensures.any_moment told)

pub returns-clause-joined : goal.returns-clause-joined
returns-clause-joined g c = λ told.
    let S = g.D.Disk.state in
    let old = S c.args.disk.now in
    let fields = g.P.Payload.codec.change c.args.former.now c.args.next.now in
    let is_entry : c.as_slice-entry.result.now ≡ entry_bytes fields = c.as_slice-entry.ensures.bytes ∙ ok_part c.fill_entry.result (c.fill_entry.new.row.bytes ≡ entry_bytes fields) (sym c.is_err.ensures.value ∙ c.if-is_err.false) c.fill_entry.ensures.bytes in
    subst (λ (e : List ℕ). IsJoined c.args.tail e (disk_bytes old) (disk_bytes (S c.append.new.disk))) is_entry (c.in_ok-append.ensures.joined told)

pub returns-clause-len : goal.returns-clause-len
returns-clause-len g c =
    let fields = g.P.Payload.codec.change c.args.former.now c.args.next.now in
    let is_entry : c.as_slice-entry.result.now ≡ entry_bytes fields = c.as_slice-entry.ensures.bytes ∙ ok_part c.fill_entry.result (c.fill_entry.new.row.bytes ≡ entry_bytes fields) (sym c.is_err.ensures.value ∙ c.if-is_err.false) c.fill_entry.ensures.bytes in
    omega (arith, ap length is_entry, length-entry fields)
