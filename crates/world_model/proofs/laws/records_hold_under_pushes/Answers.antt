use Rattle.std.proofs.Common.{◌++◌, ◌∷◌, [], None}
use Rattle.agent_rules.specs.Half.{entry_of}
use Rattle.world_model.specs.Exchanges.{middle_of, two_exchanges}
use Rattle.world_model.specs.Servers.{arrivals, record_after_history}
use Rattle.world_model.specs.World.{Delivered, Took, world}
use Rattle.world_model.proofs.Headline.{one_report, just_reported, reached}
use Rattle.world_model.proofs.Runs.{took_nothing}
use Rattle.world_model.proofs.laws.records_hold_under_pushes.Goals as goal

pub returns-clause-held : goal.returns-clause-held
returns-clause-held c = c.records_are_entries.ensures.held

pub returns-clause-one_report : goal.returns-clause-one_report
returns-clause-one_report c = λ start events server uid known few.
    one_report start events server uid (record_after_history (arrivals start events server) uid) known (c.records_are_entries.ensures.held start events server uid few)

pub returns-clause-just_reported : goal.returns-clause-just_reported
returns-clause-just_reported c = λ start events place given e reply at few.
    let server = start.server_of e.server in
    let all = events ++ Delivered place given ∷ [] in
    just_reported start events place given e reply (record_after_history (arrivals start all server) e.uid) at (c.records_are_entries.ensures.held start all server e.uid few)

pub returns-clause-reached : goal.returns-clause-reached
returns-clause-reached c = λ start events first second between may may_again few.
    let before = world start events in
    let reported = entry_of (middle_of before first between).agent in
    let server = start.server_of reported.server in
    let all = events ++ two_exchanges before first between second in
    reached start events first second None between (record_after_history (arrivals start all server) reported.uid) may may_again (c.records_are_entries.ensures.held start all server reported.uid few)

pub returns-clause-above : goal.returns-clause-above
returns-clause-above c = c.limit_is_above_numbers.ensures.above

pub returns-clause-settings : goal.returns-clause-settings
returns-clause-settings c = λ start events message reactions. c.former_settings_stand.ensures.settings start events (Took message reactions)

pub returns-clause-configuration : goal.returns-clause-configuration
returns-clause-configuration c = λ start events message reactions. c.former_settings_stand.ensures.configuration start events (Took message reactions)

pub returns-clause-not_awaited : goal.returns-clause-not_awaited
returns-clause-not_awaited c = took_nothing
