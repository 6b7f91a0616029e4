use Rattle.std.proofs.Common.{refl}
use Rattle.message_codec.specs.Tables as tables
use Rattle.message_reports.specs.Pieces.{part_name}
use Rattle.message_reports.proofs.PartsHeld.{report_parts, is_in_report}
use Rattle.message_reports.proofs.pieces.close_report.Goals as goal

pub returns-in-Description : goal.returns-in-Description
returns-in-Description c =
    let a = report_parts c.args.number tables.AgentDescription (rw c.in-Description.is at c.requires.part) in
    record { closes = rw (a.0, c.in-Description.is) (refl, (refl, (refl, (refl, (refl, (refl, (refl, (refl, (refl, (refl, (refl, (refl, (refl, tt))))))))))))) }

pub returns-in-Health : goal.returns-in-Health
returns-in-Health c =
    let a = report_parts c.args.number tables.ComponentHealth (rw c.in-Health.is at c.requires.part) in
    record { closes = rw (a.0, c.in-Health.is) (refl, (refl, (refl, (refl, (refl, (refl, (refl, (refl, (refl, (refl, (refl, (refl, (refl, tt))))))))))))) }

pub returns-in-EffectiveConfig : goal.returns-in-EffectiveConfig
returns-in-EffectiveConfig c =
    let a = report_parts c.args.number tables.EffectiveConfig (rw c.in-EffectiveConfig.is at c.requires.part) in
    record { closes = rw (a.0, c.in-EffectiveConfig.is) (refl, (refl, (refl, (refl, (refl, (refl, (refl, (refl, (refl, (refl, (refl, (refl, (refl, tt))))))))))))) }

pub returns-in-RemoteStatus : goal.returns-in-RemoteStatus
returns-in-RemoteStatus c =
    let a = report_parts c.args.number tables.RemoteConfigStatus (rw c.in-RemoteStatus.is at c.requires.part) in
    record { closes = rw (a.0, c.in-RemoteStatus.is) (refl, (refl, (refl, (refl, (refl, (refl, (refl, (refl, (refl, (refl, (refl, (refl, (refl, tt))))))))))))) }

pub returns-in-Packages : goal.returns-in-Packages
returns-in-Packages c =
    let a = report_parts c.args.number tables.PackageStatuses (rw c.in-Packages.is at c.requires.part) in
    record { closes = rw (a.0, c.in-Packages.is) (refl, (refl, (refl, (refl, (refl, (refl, (refl, (refl, (refl, (refl, (refl, (refl, (refl, tt))))))))))))) }

pub returns-in-Disconnect : goal.returns-in-Disconnect
returns-in-Disconnect c =
    let a = report_parts c.args.number tables.AgentDisconnect (rw c.in-Disconnect.is at c.requires.part) in
    record { closes = rw (a.0, c.in-Disconnect.is) (refl, (refl, (refl, (refl, (refl, (refl, (refl, (refl, (refl, (refl, (refl, (refl, (refl, tt))))))))))))) }

pub returns-in-CustomCapabilities : goal.returns-in-CustomCapabilities
returns-in-CustomCapabilities c =
    let a = report_parts c.args.number tables.CustomCapabilities (rw c.in-CustomCapabilities.is at c.requires.part) in
    record { closes = rw (a.0, c.in-CustomCapabilities.is) (refl, (refl, (refl, (refl, (refl, (refl, (refl, (refl, (refl, (refl, (refl, (refl, (refl, tt))))))))))))) }

pub returns-in-CustomMessage : goal.returns-in-CustomMessage
returns-in-CustomMessage c =
    let a = report_parts c.args.number tables.CustomMessage (rw c.in-CustomMessage.is at c.requires.part) in
    record { closes = rw (a.0, c.in-CustomMessage.is) (refl, (refl, (refl, (refl, (refl, (refl, (refl, (refl, (refl, (refl, (refl, (refl, (refl, tt))))))))))))) }

pub returns-in-Components : goal.returns-in-Components
returns-in-Components c =
    let a = report_parts c.args.number tables.AvailableComponents (rw c.in-Components.is at c.requires.part) in
    record { closes = rw (a.0, c.in-Components.is) (refl, (refl, (refl, (refl, (refl, (refl, (refl, (refl, (refl, (refl, (refl, (refl, (refl, tt))))))))))))) }

pub returns-in_default : goal.returns-in_default
returns-in_default c =
    let a = report_parts c.args.number (part_name c.args.part) c.requires.part in
    absurd (is_in_report c.args.part a.1 c.in_default.not-Description c.in_default.not-Health c.in_default.not-EffectiveConfig c.in_default.not-RemoteStatus c.in_default.not-Packages c.in_default.not-Disconnect c.in_default.not-CustomCapabilities c.in_default.not-CustomMessage c.in_default.not-Components)
