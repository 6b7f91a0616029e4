use Rattle.std.proofs.Common.{[]}
use Rattle.command_fleet.proofs.Meaning.{collects_once, collects_something}
use Rattle.command_fleet.proofs.laws.one_reading.Goals as goal

pub returns : goal.returns
returns c = record {
  some = λ budget bytes are. c.some_reading.ensures.reading (collects_something c.report_or_fault.ensures.either) [] budget bytes are;
  one = λ budget bytes a b stop_a stop_b. c.one_reading.ensures.reading (collects_once (record { one = c.one_report.ensures.one; not_both = c.report_fault.ensures.not_both; one_fault = c.report_fault.ensures.one_fault })) [] budget bytes a b stop_a stop_b;
}
