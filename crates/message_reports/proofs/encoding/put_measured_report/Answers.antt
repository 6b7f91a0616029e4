use Rattle.std.proofs.Common.{◌<◌, ◌^◌, length, [], arith}
use Rattle.message_codec.specs.Tables as tables
use Rattle.message_codec.specs.Tables.{rows_of}
use Rattle.message_codec.specs.Canonical.{canonical_onto}
use Rattle.message_codec.proofs.Canonical.{needed_is, roomy}
use Rattle.message_reports.specs.ReportColumns.{agent_to_server_columns}
use Rattle.message_reports.specs.Reports.{canonical_report}
use Rattle.message_reports.proofs.encoding.put_measured_report.Goals as goal

pub put-requires : goal.put-requires
unfolding canonical_report
put-requires c =
    let few : length (canonical_onto [] (rows_of tables.AgentToServer) (agent_to_server_columns c.args.message.now)) < 2 ^ 62 = c.requires.few in
    record { few = omega (arith, few, needed_is (rows_of tables.AgentToServer) (agent_to_server_columns c.args.message.now)) }

pub returns : goal.returns
unfolding canonical_report
returns c =
    record { appends = roomy c.put.result c.args.out.now c.reserve.new.self c.put.new.out c.args.len (rows_of tables.AgentToServer) (agent_to_server_columns c.args.message.now) c.in_ok-reserve.ensures.ok c.requires.measured c.put.ensures.ok c.put.ensures.short }
