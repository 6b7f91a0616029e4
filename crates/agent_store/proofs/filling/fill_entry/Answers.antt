use Rattle.std.proofs.Common.{◌≡◌, length, ◌∙◌, ap}
use Rattle.std.specs.Prelude.{IsOk}
use Rattle.std.specs.Int.{w32, to_le_bytes}
use Rattle.std.proofs.lemmas.Result.{IfOk-from_err}
use Rattle.agent_store.proofs.Results.{on-ok}
use Rattle.agent_store.proofs.RowsFilled.{size-is, size-fails, size-larger, fields-fail, fields-room, entry-room, entry-ends, entry-filled}
use Rattle.agent_store.proofs.filling.fill_entry.Goals as goal

pub returns : goal.returns
returns g c =
    let fields = g.P.Payload.codec.change c.args.former.now c.args.next.now in
    let is : c.to_le_bytes.result ≡ to_le_bytes w32 (length fields) = c.to_le_bytes.ensures ∙ ap (to_le_bytes w32) (size-is c.change_len-size.result (length fields) c.change_len-size.ensures.len c.requires.few) in
    record {
      bytes = entry-filled c.args.row.now c.clear.new.self c.clear.ensures.cleared c.append.new.self c.to_le_bytes.result fields is c.in_ok-append.ensures.appends c.put_change.new.out c.in_ok-put_change.ensures.appends c.append-2.new.self c.append-2.result c.append-2.ensures.appends;
      leads = on-ok _ _ c.in_ok-put_change.ensures.leads;
      room = λ enough. entry-ends c.args.row.now c.clear.new.self c.clear.ensures.cleared c.append.new.self c.to_le_bytes.result fields is c.in_ok-append.ensures.appends c.put_change.new.out c.in_ok-put_change.ensures.appends c.append-2.new.self c.append-2.result c.append-2.ensures.appends enough;
      larger = entry-room c.args.row.now c.clear.new.self c.clear.ensures.cleared c.append.new.self c.to_le_bytes.result fields is c.in_ok-append.ensures.appends c.put_change.new.out c.in_ok-put_change.ensures.appends c.append-2.new.self c.append-2.result c.append-2.ensures.appends;
    }

pub returns-in_err-append : goal.returns-in_err-append
returns-in_err-append g c =
    let fields = g.P.Payload.codec.change c.args.former.now c.args.next.now in
    let is : c.to_le_bytes.result ≡ to_le_bytes w32 (length fields) = c.to_le_bytes.ensures ∙ ap (to_le_bytes w32) (size-is c.change_len-size.result (length fields) c.change_len-size.ensures.len c.requires.few) in
    record {
      bytes = IfOk-from_err _ _ c.from_residual.ensures.0;
      leads = IfOk-from_err _ _ c.from_residual.ensures.0;
      room = λ enough. size-fails c.args.row.now c.clear.new.self c.clear.ensures.cleared c.append.new.self c.to_le_bytes.result fields is c.in_err-append.field-0.0 (IsOk c.from_residual.result) c.in_err-append.ensures.appends enough;
      larger = size-larger c.args.row.now c.clear.new.self c.clear.ensures.cleared c.append.new.self c.to_le_bytes.result fields is c.append.result c.append.ensures.appends;
    }

pub returns-in_err-put_change : goal.returns-in_err-put_change
returns-in_err-put_change g c =
    let fields = g.P.Payload.codec.change c.args.former.now c.args.next.now in
    let is : c.to_le_bytes.result ≡ to_le_bytes w32 (length fields) = c.to_le_bytes.ensures ∙ ap (to_le_bytes w32) (size-is c.change_len-size.result (length fields) c.change_len-size.ensures.len c.requires.few) in
    record {
      bytes = IfOk-from_err _ _ c.from_residual-in_err-put_change.ensures.0;
      leads = IfOk-from_err _ _ c.from_residual-in_err-put_change.ensures.0;
      room = λ enough. fields-fail c.args.row.now c.clear.new.self c.clear.ensures.cleared c.append.new.self c.to_le_bytes.result fields is c.in_ok-append.ensures.appends c.put_change.new.out c.in_err-put_change.field-0.0 (IsOk c.from_residual-in_err-put_change.result) c.in_err-put_change.ensures.appends enough;
      larger = fields-room c.args.row.now c.clear.new.self c.clear.ensures.cleared c.append.new.self c.to_le_bytes.result fields is c.in_ok-append.ensures.appends c.put_change.new.out c.put_change.result c.put_change.ensures.appends;
    }
