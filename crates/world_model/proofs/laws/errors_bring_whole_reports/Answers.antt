use Rattle.std.proofs.Common.{◌++◌}
use Rattle.agent_rules.specs.Half.{entry_of}
use Rattle.world_model.specs.Exchanges.{middle_or_error, two_or_error}
use Rattle.world_model.specs.Servers.{arrivals, record_after_history}
use Rattle.world_model.specs.World.{world}
use Rattle.world_model.proofs.Kept.{world_sound}
use Rattle.world_model.proofs.Exchanges.{next_alone, two_settle}
use Rattle.world_model.proofs.Headline.{two_held, reached}
use Rattle.world_model.proofs.Nobody.{nobody-append, nobody-exchanges}
use Rattle.world_model.proofs.laws.errors_bring_whole_reports.Goals as goal

pub returns-clause-whole : goal.returns-clause-whole
returns-clause-whole c = λ start events first error between may so. next_alone (world start events) first error between may so

pub returns-clause-plain : goal.returns-clause-plain
returns-clause-plain c = λ start events first second error between may may_again.
    (two_settle (world start events) first second error between (world_sound start events) may may_again).0

pub returns-clause-held : goal.returns-clause-held
returns-clause-held c = λ start events first second error between may may_again. two_held start events first second error between may may_again

pub returns-clause-reached : goal.returns-clause-reached
returns-clause-reached c = λ start events first second error between nobody may may_again.
    let before = world start events in
    let reported = entry_of (middle_or_error before first error between).agent in
    let server = start.server_of reported.server in
    let all = events ++ two_or_error before first error between second in
    reached start events first second error between (record_after_history (arrivals start all server) reported.uid) may may_again
    (c.records_are_entries.ensures.held start all server reported.uid
    (c.one_agent_has_room.ensures.room start all server (nobody-append events (two_or_error before first error between second) nobody (nobody-exchanges before first second error between))))
