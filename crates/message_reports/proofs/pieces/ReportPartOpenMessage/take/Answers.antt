use Rattle.message_reports.proofs.PartsInside.{stands_inside}
use Rattle.message_reports.proofs.pieces.ReportPartOpenMessage.take.Goals as goal

pub returns-in-Report-clause-ok : goal.returns-in-Report-clause-ok
returns-in-Report-clause-ok c = rw c.in-Report.is c.take.ensures.ok

pub returns-in-Report-clause-refused : goal.returns-in-Report-clause-refused
returns-in-Report-clause-refused c = rw c.in-Report.is c.take.ensures.refused

pub returns-in-Description-clause-ok : goal.returns-in-Description-clause-ok
returns-in-Description-clause-ok c = rw c.in-Description.is c.take-in-Description.ensures.ok

pub returns-in-Description-clause-refused : goal.returns-in-Description-clause-refused
returns-in-Description-clause-refused c = rw c.in-Description.is c.take-in-Description.ensures.refused

pub returns-in-Health-clause-ok : goal.returns-in-Health-clause-ok
returns-in-Health-clause-ok c = rw c.in-Health.is c.take_health.ensures.ok

pub returns-in-Health-clause-refused : goal.returns-in-Health-clause-refused
returns-in-Health-clause-refused c = rw c.in-Health.is c.take_health.ensures.refused

pub returns-in-EffectiveConfig-clause-ok : goal.returns-in-EffectiveConfig-clause-ok
returns-in-EffectiveConfig-clause-ok c = rw c.in-EffectiveConfig.is c.take-in-EffectiveConfig.ensures.ok

pub returns-in-EffectiveConfig-clause-refused : goal.returns-in-EffectiveConfig-clause-refused
returns-in-EffectiveConfig-clause-refused c = rw c.in-EffectiveConfig.is c.take-in-EffectiveConfig.ensures.refused

pub returns-in-RemoteStatus-clause-ok : goal.returns-in-RemoteStatus-clause-ok
returns-in-RemoteStatus-clause-ok c = rw c.in-RemoteStatus.is c.take-in-RemoteStatus.ensures.ok

pub returns-in-RemoteStatus-clause-refused : goal.returns-in-RemoteStatus-clause-refused
returns-in-RemoteStatus-clause-refused c = rw c.in-RemoteStatus.is c.take-in-RemoteStatus.ensures.refused

pub returns-in-Packages-clause-ok : goal.returns-in-Packages-clause-ok
returns-in-Packages-clause-ok c = rw c.in-Packages.is c.take-in-Packages.ensures.ok

pub returns-in-Packages-clause-refused : goal.returns-in-Packages-clause-refused
returns-in-Packages-clause-refused c = rw c.in-Packages.is c.take-in-Packages.ensures.refused

pub returns-in-Disconnect-clause-ok : goal.returns-in-Disconnect-clause-ok
returns-in-Disconnect-clause-ok c = rw c.in-Disconnect.is c.take-in-Disconnect.ensures.ok

pub returns-in-Disconnect-clause-refused : goal.returns-in-Disconnect-clause-refused
returns-in-Disconnect-clause-refused c = rw c.in-Disconnect.is c.take-in-Disconnect.ensures.refused

pub returns-in-CustomCapabilities-clause-ok : goal.returns-in-CustomCapabilities-clause-ok
returns-in-CustomCapabilities-clause-ok c = rw c.in-CustomCapabilities.is c.take-in-CustomCapabilities.ensures.ok

pub returns-in-CustomCapabilities-clause-refused : goal.returns-in-CustomCapabilities-clause-refused
returns-in-CustomCapabilities-clause-refused c = rw c.in-CustomCapabilities.is c.take-in-CustomCapabilities.ensures.refused

pub returns-in-CustomMessage-clause-ok : goal.returns-in-CustomMessage-clause-ok
returns-in-CustomMessage-clause-ok c = rw c.in-CustomMessage.is c.take-in-CustomMessage.ensures.ok

pub returns-in-CustomMessage-clause-refused : goal.returns-in-CustomMessage-clause-refused
returns-in-CustomMessage-clause-refused c = rw c.in-CustomMessage.is c.take-in-CustomMessage.ensures.refused

pub returns-in-Components-clause-ok : goal.returns-in-Components-clause-ok
returns-in-Components-clause-ok c = rw c.in-Components.is c.take-in-Components.ensures.ok

pub returns-in-Components-clause-refused : goal.returns-in-Components-clause-refused
returns-in-Components-clause-refused c = rw c.in-Components.is c.take-in-Components.ensures.refused

pub take_inner-requires-clause-inner : goal.take_inner-requires-clause-inner
take_inner-requires-clause-inner c = stands_inside c.args.self.now c.in_default.not-Report c.in_default.not-Description c.in_default.not-Health c.in_default.not-EffectiveConfig c.in_default.not-RemoteStatus c.in_default.not-Packages c.in_default.not-Disconnect c.in_default.not-CustomCapabilities c.in_default.not-CustomMessage c.in_default.not-Components

pub returns-in_default-clause-ok : goal.returns-in_default-clause-ok
returns-in_default-clause-ok c = c.take_inner.ensures.ok

pub returns-in_default-clause-refused : goal.returns-in_default-clause-refused
returns-in_default-clause-refused c = c.take_inner.ensures.refused
