use Rattle.message_codec.specs.Tables as tables
use Rattle.message_attributes.proofs.PartLaws.{on_ok}
use Rattle.message_reports.specs.Pieces.{part_name}
use Rattle.message_reports.proofs.PartsHeld.{config_map_parts, is_config_entry}
use Rattle.message_reports.proofs.pieces.close_config_map.Goals as goal

pub returns-in-ConfigEntry : goal.returns-in-ConfigEntry
returns-in-ConfigEntry c =
    let a = config_map_parts c.args.number (tables.Entry tables.AgentConfigFile) (rw c.in-ConfigEntry.is at c.requires.part) in
    record { closes = rw (a.number_is, c.in-ConfigEntry.is) (on_ok c.close_map.result _ _ (λ k. (k, tt)) c.close_map.ensures.closes) }

pub returns-in_default : goal.returns-in_default
returns-in_default c = absurd (is_config_entry c.args.part (config_map_parts c.args.number (part_name c.args.part) c.requires.part).name_is c.in_default.not-ConfigEntry)
