use Rattle.std.proofs.Common.{refl}
use Rattle.message_codec.specs.Tables as tables
use Rattle.message_attributes.proofs.PartLaws.{on_ok}
use Rattle.message_reports.specs.Pieces.{part_name}
use Rattle.message_reports.proofs.PartsHeld.{packages_parts, is_package_entry}
use Rattle.message_reports.proofs.pieces.close_packages.Goals as goal

pub returns-in-PackageEntry : goal.returns-in-PackageEntry
returns-in-PackageEntry c =
    let a = packages_parts c.args.number (tables.Entry tables.PackageStatus) (rw c.in-PackageEntry.is at c.requires.part) in
    record { closes = rw (a.number_is, c.in-PackageEntry.is) (on_ok c.close_map.result _ _ (λ k. (k, (refl, (refl, tt)))) c.close_map.ensures.closes) }

pub returns-in_default : goal.returns-in_default
returns-in_default c = absurd (is_package_entry c.args.part (packages_parts c.args.number (part_name c.args.part) c.requires.part).name_is c.in_default.not-PackageEntry)
