use Rattle.std.proofs.Common.{◌≡◌, ◌∙◌, ℕ, ◌<◌, length, Some, None, slice_get, ap, sym, refl, arith}
use Rattle.server_core.specs.Table.{pushed_from}
use Rattle.world_lab.proofs.Sent.{get_there}
use Rattle.world_lab.proofs.Pushing.{pushed_plays, unpushed_plays}
use Rattle.world_lab.proofs.pushes.push.Goals as goal

pub returns-in_ok-push-in-Some : goal.returns-in_ok-push-in-Some
returns-in_ok-push-in-Some c =
    let server = c.index-servers-from.result in
    let within : c.from.result < length c.args.servers.now = omega (arith, c.from.ensures, c.requires.digit, c.requires.all) in
    let there : slice_get c.args.servers.now c.args.server ≡ Some server = ap (λ (n : ℕ). slice_get c.args.servers.now n) (sym c.from.ensures) ∙ get_there c.args.servers.now c.from.result server within c.index-servers-from.is in
    let found : Some c.in-Some.message ≡ pushed_from server.profile server.table c.args.play.now.host.agent.half.saved.uid =
    sym c.in-Some.is ∙ c.in_ok-message.ensures.pushed ∙ ap (λ saved. pushed_from server.profile server.table saved.uid) c.saved.ensures.saved in
    record {
      played = pushed_plays c.pushes_are_due.ensures.due c.records_are_entries.ensures.sent_there c.one_agent_has_room.ensures.room c.args.server c.args.play.now _ c.args.servers.now server c.in-Some.message c.requires.digit there found
          (record { host = refl; stop = refl; opening = refl; local = refl; sent = refl }) c.in_ok-push-in-Some.ensures.items;
    }

pub returns-in-None : goal.returns-in-None
returns-in-None c =
    let server = c.index-servers-from.result in
    let within : c.from.result < length c.args.servers.now = omega (arith, c.from.ensures, c.requires.digit, c.requires.all) in
    let there : slice_get c.args.servers.now c.args.server ≡ Some server = ap (λ (n : ℕ). slice_get c.args.servers.now n) (sym c.from.ensures) ∙ get_there c.args.servers.now c.from.result server within c.index-servers-from.is in
    let found : None ≡ pushed_from server.profile server.table c.args.play.now.host.agent.half.saved.uid =
    sym c.in-None.is ∙ c.in_ok-message.ensures.pushed ∙ ap (λ saved. pushed_from server.profile server.table saved.uid) c.saved.ensures.saved in
    record { played = unpushed_plays c.pushes_are_due.ensures.due c.one_agent_has_room.ensures.room c.args.server c.args.play.now c.args.servers.now server c.requires.digit there found }
