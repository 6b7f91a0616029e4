use Rattle.std.proofs.Common.{refl}
use Rattle.message_codec.specs.Tables as tables
use Rattle.message_reports.specs.Pieces.{part_name}
use Rattle.message_reports.proofs.PartsHeld.{entry_parts, is_package}
use Rattle.message_reports.proofs.pieces.close_package_entry.Goals as goal

pub returns-in-Package : goal.returns-in-Package
returns-in-Package c =
    let a = entry_parts tables.PackageStatus c.args.number tables.PackageStatus (rw c.in-Package.is at c.requires.part) in
    record { closes = rw (a.number_is, c.in-Package.is) (refl, (refl, tt)) }

pub returns-in_default : goal.returns-in_default
returns-in_default c = absurd (is_package c.args.part (entry_parts tables.PackageStatus c.args.number (part_name c.args.part) c.requires.part).name_is c.in_default.not-Package)
