use Rattle.std.proofs.Common.{refl}
use Rattle.message_codec.specs.Tables as tables
use Rattle.message_reports.specs.Pieces.{part_name}
use Rattle.message_reports.proofs.PartsHeld.{entry_parts, is_health}
use Rattle.message_reports.proofs.pieces.close_health_entry.Goals as goal

pub returns-in-Health : goal.returns-in-Health
returns-in-Health c =
    let a = entry_parts tables.ComponentHealth c.args.number tables.ComponentHealth (rw c.in-Health.is at c.requires.part) in
    record { closes = rw (a.number_is, c.in-Health.is) (refl, (refl, tt)) }

pub returns-in_default : goal.returns-in_default
returns-in_default c = absurd (is_health c.args.part (entry_parts tables.ComponentHealth c.args.number (part_name c.args.part) c.requires.part).name_is c.in_default.not-Health)
