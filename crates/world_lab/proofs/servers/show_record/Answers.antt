use Rattle.std.proofs.Common.{◌≡◌, ◌∙◌, ℕ, ◌<◌, length, Some, None, slice_get, ap, sym, refl, arith}
use Rattle.server_core.specs.Table.{find_record}
use Rattle.world_lab.proofs.Sent.{get_there}
use Rattle.world_lab.proofs.Lines.{if_ok, record_plays}
use Rattle.world_lab.proofs.servers.show_record.Goals as goal

pub returns-in-Some : goal.returns-in-Some
returns-in-Some c =
    let server = c.index-servers-from.result in
    let within : c.from.result < length c.args.servers.now = omega (arith, c.from.ensures, c.requires.digit, c.requires.all) in
    let there : slice_get c.args.servers.now c.args.server ≡ Some server = ap (λ (n : ℕ). slice_get c.args.servers.now n) (sym c.from.ensures) ∙ get_there c.args.servers.now c.from.result server within c.index-servers-from.is in
    let found : Some c.in-Some.kept.now ≡ find_record server.table.records c.args.play.now.host.agent.half.saved.uid = c.in-Some.ensures.found ∙ ap (λ saved. find_record server.table.records saved.uid) c.saved.ensures.saved in
    record {
      played = if_ok c.whole_record.result
          (λ written text. record_plays c.records_are_entries.ensures.held c.one_agent_has_room.ensures.room c.args.server c.args.play.now c.args.servers.now server (Some c.in-Some.kept.now) written c.requires.digit there found text)
          c.whole_record.ensures;
    }

pub returns-in-None : goal.returns-in-None
returns-in-None c =
    let server = c.index-servers-from.result in
    let within : c.from.result < length c.args.servers.now = omega (arith, c.from.ensures, c.requires.digit, c.requires.all) in
    let there : slice_get c.args.servers.now c.args.server ≡ Some server = ap (λ (n : ℕ). slice_get c.args.servers.now n) (sym c.from.ensures) ∙ get_there c.args.servers.now c.from.result server within c.index-servers-from.is in
    let found : None ≡ find_record server.table.records c.args.play.now.host.agent.half.saved.uid = c.in-None.ensures.found ∙ ap (λ saved. find_record server.table.records saved.uid) c.saved.ensures.saved in
    record { played = record_plays c.records_are_entries.ensures.held c.one_agent_has_room.ensures.room c.args.server c.args.play.now c.args.servers.now server None _ c.requires.digit there found refl }
