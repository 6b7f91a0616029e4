use Rattle.std.proofs.Common.{◌≤◌, length, drop}
use Rattle.message_codec.specs.Filling.{HasPlace, Fills}
use Rattle.message_codec.specs.Tables as tables
use Rattle.message_codec.specs.Canonical.{canonical}
use Rattle.message_codec.proofs.Parts.{parts_bytes, entry_content}
use Rattle.message_reports.specs.HealthColumns.{health_columns}
use Rattle.message_reports.proofs.health_written.+fill_health.Given as goal

abbrev pub invariant-loop-left : goal.invariant-loop-left
invariant-loop-left l = record {
  within : l.left ≤ length l.components;
  filled : HasPlace l.initial.out l.end (canonical tables.ComponentHealth (health_columns l.health)) → Fills l.initial.out l.out l.end (parts_bytes (entry_content health_columns tables.ComponentHealth) 6 (drop l.left l.components)) l.at;
}

abbrev pub decreases-loop-left : goal.decreases-loop-left
decreases-loop-left l = l.left
