use Rattle.std.proofs.Common.{◌≡◌, ◌∙◌, Some, None, ap, arith}
use Rattle.server_core.specs.Table.{find_record}
use Rattle.world_lab.proofs.Sent.{get_there}
use Rattle.world_lab.proofs.Lines.{number_held}
use Rattle.world_lab.proofs.storming.first_number.Goals as goal

pub returns-in-Some : goal.returns-in-Some
returns-in-Some c =
    let server = c.index-servers-0.result in
    let found : Some c.in-Some.kept.now ≡ find_record server.table.records c.args.play.now.host.agent.half.saved.uid = c.in-Some.ensures.found ∙ ap (λ saved. find_record server.table.records saved.uid) c.saved.ensures.saved in
    record { number = number_held c.records_are_entries.ensures.held c.one_agent_has_room.ensures.room c.args.play.now c.args.servers.now server (Some c.in-Some.kept.now) (get_there c.args.servers.now 0 server (omega (arith, c.requires.all)) c.index-servers-0.is) found }

pub returns-in-None : goal.returns-in-None
returns-in-None c =
    let server = c.index-servers-0.result in
    let found : None ≡ find_record server.table.records c.args.play.now.host.agent.half.saved.uid = c.in-None.ensures.found ∙ ap (λ saved. find_record server.table.records saved.uid) c.saved.ensures.saved in
    record { number = number_held c.records_are_entries.ensures.held c.one_agent_has_room.ensures.room c.args.play.now c.args.servers.now server None (get_there c.args.servers.now 0 server (omega (arith, c.requires.all)) c.index-servers-0.is) found }
