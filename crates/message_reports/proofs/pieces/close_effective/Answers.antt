use Rattle.std.proofs.Common.{refl}
use Rattle.message_codec.specs.Tables as tables
use Rattle.message_reports.specs.Pieces.{part_name}
use Rattle.message_reports.proofs.PartsHeld.{effective_parts, is_config_map}
use Rattle.message_reports.proofs.pieces.close_effective.Goals as goal

pub returns-in-ConfigMap : goal.returns-in-ConfigMap
returns-in-ConfigMap c =
    let a = effective_parts c.args.number tables.AgentConfigMap (rw c.in-ConfigMap.is at c.requires.part) in
    record { closes = rw (a.number_is, c.in-ConfigMap.is) (refl, tt) }

pub returns-in_default : goal.returns-in_default
returns-in_default c = absurd (is_config_map c.args.part (effective_parts c.args.number (part_name c.args.part) c.requires.part).name_is c.in_default.not-ConfigMap)
