use Rattle.std.proofs.Common.{◌++◌, ◌∷◌, [], None}
use Rattle.agent_rules.specs.Half.{entry_of}
use Rattle.world_model.specs.Exchanges.{middle_of, two_exchanges}
use Rattle.world_model.specs.World.{Delivered, world}
use Rattle.world_model.proofs.Nobody.{nobody-append, nobody-exchanges}
use Rattle.world_model.proofs.laws.servers_know_their_agents.Goals as goal

pub returns-clause-one_report : goal.returns-clause-one_report
returns-clause-one_report c = λ start events server uid known nobody.
    c.records_hold_under_pushes.ensures.one_report start events server uid known (c.one_agent_has_room.ensures.room start events server nobody)

pub returns-clause-just_reported : goal.returns-clause-just_reported
returns-clause-just_reported c = λ start events place given e reply nobody at.
    let all = events ++ Delivered place given ∷ [] in
    c.records_hold_under_pushes.ensures.just_reported start events place given e reply at
    (c.one_agent_has_room.ensures.room start all (start.server_of e.server) (nobody-append events (Delivered place given ∷ []) nobody (tt, tt)))

pub returns-clause-reached : goal.returns-clause-reached
returns-clause-reached c = λ start events first second between nobody may may_again.
    let before = world start events in
    let all = events ++ two_exchanges before first between second in
    c.records_hold_under_pushes.ensures.reached start events first second between may may_again
    (c.one_agent_has_room.ensures.room start all (start.server_of (entry_of (middle_of before first between).agent).server)
    (nobody-append events (two_exchanges before first between second) nobody (nobody-exchanges before first second None between)))

pub returns-clause-settings : goal.returns-clause-settings
returns-clause-settings c = c.former_settings_stand.ensures.settings

pub returns-clause-configuration : goal.returns-clause-configuration
returns-clause-configuration c = c.former_settings_stand.ensures.configuration
