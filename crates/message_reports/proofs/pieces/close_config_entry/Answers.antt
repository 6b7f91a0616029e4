use Rattle.std.proofs.Common.{refl}
use Rattle.message_codec.specs.Tables as tables
use Rattle.message_reports.specs.Pieces.{part_name}
use Rattle.message_reports.proofs.PartsHeld.{entry_parts, is_config_file}
use Rattle.message_reports.proofs.pieces.close_config_entry.Goals as goal

pub returns-in-ConfigFile : goal.returns-in-ConfigFile
returns-in-ConfigFile c =
    let a = entry_parts tables.AgentConfigFile c.args.number tables.AgentConfigFile (rw c.in-ConfigFile.is at c.requires.part) in
    record { closes = rw (a.number_is, c.in-ConfigFile.is) (refl, (refl, tt)) }

pub returns-in_default : goal.returns-in_default
returns-in_default c = absurd (is_config_file c.args.part (entry_parts tables.AgentConfigFile c.args.number (part_name c.args.part) c.requires.part).name_is c.in_default.not-ConfigFile)
