use Rattle.std.proofs.Common.{refl}
use Rattle.message_codec.specs.Tables as tables
use Rattle.message_attributes.proofs.PartLaws.{on_ok}
use Rattle.message_reports.specs.Pieces.{part_name}
use Rattle.message_reports.proofs.PartsHeld.{health_parts, is_health_entry}
use Rattle.message_reports.proofs.pieces.close_health.Goals as goal

pub returns-in-HealthEntry : goal.returns-in-HealthEntry
returns-in-HealthEntry c =
    let a = health_parts c.args.number (tables.Entry tables.ComponentHealth) (rw c.in-HealthEntry.is at c.requires.part) in
    record { closes = rw (a.number_is, c.in-HealthEntry.is) (on_ok c.put_health.result _ _ (λ k. (refl, (refl, (refl, (refl, (refl, (k, tt))))))) c.put_health.ensures.closes) }

pub returns-in_default : goal.returns-in_default
returns-in_default c = absurd (is_health_entry c.args.part (health_parts c.args.number (part_name c.args.part) c.requires.part).name_is c.in_default.not-HealthEntry)
