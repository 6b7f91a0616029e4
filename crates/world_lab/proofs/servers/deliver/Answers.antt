use Rattle.std.proofs.Common.{◌≡◌, ◌∙◌, ℕ, ◌-◌, ◌<◌, ◌≤◌, length, get_or, set, Some, slice_get, ap, sym, refl, arith}
use Rattle.server_core.specs.declared.rows.TheConstants.{AGENT_LIMIT}
use Rattle.world_lab.proofs.Sent.{get_there}
use Rattle.world_lab.proofs.Lines.{if_all, report_server, delivered_plays, undelivered_plays}
use Rattle.world_lab.proofs.servers.deliver.Goals as goal

pub returns-then-place-len : goal.returns-then-place-len
returns-then-place-len c =
    let past : length c.args.play.now.sent.items ≤ c.args.report - 1 = omega (arith, c.saturating_sub-place.ensures, c.len.ensures, c.if-place-len.true) in
    record { played = undelivered_plays c.runs_go_on.ensures.world c.runs_go_on.ensures.arrivals c.args.report c.args.play.now c.args.servers.now past }

pub bounds-servers-from : goal.bounds-servers-from
bounds-servers-from c =
    let sent = c.args.play.now.sent.items in
    let place = c.saturating_sub-place.result in
    let r = c.index_mut-sent.result.now in
    let within : place < length sent = omega (arith, c.len.ensures, c.if-place-len.false) in
    let report : slice_get sent place ≡ Some r = get_there sent place r within c.index_mut-sent.ensures.value in
    let below = report_server c.requires.mirror.0 c.args.play.now c.args.servers.now place r c.requires.mirror.1 report in
    omega (arith, below, c.from.ensures)

pub returns : goal.returns
returns c =
    let sent = c.args.play.now.sent.items in
    let servers = c.args.servers.now in
    let place = c.saturating_sub-place.result in
    let r = c.index_mut-sent.result.now in
    let server = get_or servers c.from.result c.index-servers-from.result in
    let within : place < length sent = omega (arith, c.len.ensures, c.if-place-len.false) in
    let report : slice_get sent place ≡ Some r = get_there sent place r within c.index_mut-sent.ensures.value in
    let below : r.server < length servers = report_server c.requires.mirror.0 c.args.play.now servers place r c.requires.mirror.1 report in
    let from_below : c.from.result < length servers = omega (arith, below, c.from.ensures) in
    record {
      played = if_all c.hand_over.result
          (λ written table kept text. delivered_plays c.runs_go_on.ensures.world c.runs_go_on.ensures.arrivals c.runs_go_on.ensures.servers (c.table_follows_history.ensures.follows AGENT_LIMIT) (c.table_follows_history.ensures.replies AGENT_LIMIT) c.plain_reply_means_held.ensures.due c.plain_reply_means_held.ensures.asks c.one_agent_has_room.ensures.room
          c.args.report c.args.play.now _ servers _ r c.hand_over.new.sent server c.hand_over.new.server _ written
          (record {
            report = ap (λ (n : ℕ). slice_get sent n) (sym c.saturating_sub-place.ensures) ∙ report;
            server_is = ap (λ (n : ℕ). slice_get servers n) (sym c.from.ensures) ∙ get_there servers c.from.result c.index-servers-from.result from_below c.index-servers-from.is ∙ ap (λ s. Some s) c.index-servers-from.is;
            reply_is = refl;
            kept = kept;
            table = table;
            host = refl;
            stop = refl;
            opening = refl;
            local = refl;
            sent = ap (λ (n : ℕ). set sent n c.hand_over.new.sent) c.saturating_sub-place.ensures;
            pushes = refl;
            servers_are = ap (λ (n : ℕ). set servers n c.hand_over.new.server) c.from.ensures;
          })
          text)
          c.hand_over.ensures.server c.hand_over.ensures.sent c.hand_over.ensures.written;
    }
