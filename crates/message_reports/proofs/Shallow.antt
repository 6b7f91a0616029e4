-- How deep parts of a report nest.
use Rattle.std.proofs.Common.{◌≤◌, arith}
use Rattle.message_values.specs.declared.packages.PackageStatuses.{PackageStatuses}
use Rattle.message_codec.specs.Levels.{levels}
use Rattle.message_attributes.proofs.Shallow.{entries_shallow}
use Rattle.message_reports.specs.Columns.{package_status_columns, package_statuses_columns}

pub package_statuses_levels : (p : PackageStatuses) → levels (package_statuses_columns p) ≤ 3
package_statuses_levels p = omega (arith, entries_shallow package_status_columns 0 (λ s. omega arith) p.packages)
