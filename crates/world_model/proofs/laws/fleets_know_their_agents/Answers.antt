use Rattle.std.proofs.Common.{◌++◌, ◌∷◌, [], None}
use Rattle.agent_rules.specs.Half.{entry_of}
use Rattle.world_model.specs.Exchanges.{middle_of, two_exchanges}
use Rattle.world_model.specs.Servers.{record_after_history}
use Rattle.world_model.specs.World.{Delivered, world}
use Rattle.world_model.proofs.Headline.{one_report, just_reported, reached}
use Rattle.world_model.proofs.laws.fleets_know_their_agents.Goals as goal

pub returns-clause-one_report : goal.returns-clause-one_report
returns-clause-one_report c = λ start events server uid known history among.
    one_report start events server uid (record_after_history history uid) known (c.records_hold_among_others.ensures.held start events server uid history among)

pub returns-clause-just_reported : goal.returns-clause-just_reported
returns-clause-just_reported c = λ start events place given e reply history at among.
    let server = start.server_of e.server in
    let all = events ++ Delivered place given ∷ [] in
    just_reported start events place given e reply (record_after_history history e.uid) at (c.records_hold_among_others.ensures.held start all server e.uid history among)

pub returns-clause-reached : goal.returns-clause-reached
returns-clause-reached c = λ start events first second between history may may_again among.
    let before = world start events in
    let reported = entry_of (middle_of before first between).agent in
    let server = start.server_of reported.server in
    let all = events ++ two_exchanges before first between second in
    reached start events first second None between (record_after_history history reported.uid) may may_again (c.records_hold_among_others.ensures.held start all server reported.uid history among)
