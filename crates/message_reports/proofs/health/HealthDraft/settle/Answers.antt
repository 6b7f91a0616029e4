use Rattle.std.proofs.Common.{ap}
use Rattle.message_codec.proofs.Reading.{arrived_is}
use Rattle.message_reports.specs.HealthColumns.{health_row, health_columns}
use Rattle.message_reports.proofs.HealthLaws.{health_roll}
use Rattle.message_reports.proofs.health.HealthDraft.settle.Goals as goal

pub returns : goal.returns
returns c = record { columns = rw (health_roll, c.in_ok-map_of.ensures.value) (ap (health_row c.args.self.healthy c.args.self.start_time_unix_nano c.args.self.last_error c.args.self.status c.args.self.status_time_unix_nano) (arrived_is health_columns c.args.self.component_health_map)) }
