use Rattle.message_reports.proofs.PartsInside.{is_inside}
use Rattle.message_reports.proofs.inner_parts.take_inner.Goals as goal

pub returns-in-HealthEntry-clause-ok : goal.returns-in-HealthEntry-clause-ok
returns-in-HealthEntry-clause-ok c = rw c.in-HealthEntry.is c.take_health_entry.ensures.ok

pub returns-in-HealthEntry-clause-refused : goal.returns-in-HealthEntry-clause-refused
returns-in-HealthEntry-clause-refused c = rw c.in-HealthEntry.is c.take_health_entry.ensures.refused

pub returns-in-ConfigMap-clause-ok : goal.returns-in-ConfigMap-clause-ok
returns-in-ConfigMap-clause-ok c = rw c.in-ConfigMap.is c.take.ensures.ok

pub returns-in-ConfigMap-clause-refused : goal.returns-in-ConfigMap-clause-refused
returns-in-ConfigMap-clause-refused c = rw c.in-ConfigMap.is c.take.ensures.refused

pub returns-in-ConfigEntry-clause-ok : goal.returns-in-ConfigEntry-clause-ok
returns-in-ConfigEntry-clause-ok c = rw c.in-ConfigEntry.is c.take-in-ConfigEntry.ensures.ok

pub returns-in-ConfigEntry-clause-refused : goal.returns-in-ConfigEntry-clause-refused
returns-in-ConfigEntry-clause-refused c = rw c.in-ConfigEntry.is c.take-in-ConfigEntry.ensures.refused

pub returns-in-ConfigFile-clause-ok : goal.returns-in-ConfigFile-clause-ok
returns-in-ConfigFile-clause-ok c = rw c.in-ConfigFile.is c.take-in-ConfigFile.ensures.ok

pub returns-in-ConfigFile-clause-refused : goal.returns-in-ConfigFile-clause-refused
returns-in-ConfigFile-clause-refused c = rw c.in-ConfigFile.is c.take-in-ConfigFile.ensures.refused

pub returns-in-PackageEntry-clause-ok : goal.returns-in-PackageEntry-clause-ok
returns-in-PackageEntry-clause-ok c = rw c.in-PackageEntry.is c.take-in-PackageEntry.ensures.ok

pub returns-in-PackageEntry-clause-refused : goal.returns-in-PackageEntry-clause-refused
returns-in-PackageEntry-clause-refused c = rw c.in-PackageEntry.is c.take-in-PackageEntry.ensures.refused

pub returns-in-Package-clause-ok : goal.returns-in-Package-clause-ok
returns-in-Package-clause-ok c = rw c.in-Package.is c.take-in-Package.ensures.ok

pub returns-in-Package-clause-refused : goal.returns-in-Package-clause-refused
returns-in-Package-clause-refused c = rw c.in-Package.is c.take-in-Package.ensures.refused

pub returns-in-Details-clause-ok : goal.returns-in-Details-clause-ok
returns-in-Details-clause-ok c = rw c.in-Details.is c.take_details.ensures.ok

pub returns-in-Details-clause-refused : goal.returns-in-Details-clause-refused
returns-in-Details-clause-refused c = rw c.in-Details.is c.take_details.ensures.refused

pub returns-in-DetailsEntry-clause-ok : goal.returns-in-DetailsEntry-clause-ok
returns-in-DetailsEntry-clause-ok c = rw c.in-DetailsEntry.is c.take_details_entry.ensures.ok

pub returns-in-DetailsEntry-clause-refused : goal.returns-in-DetailsEntry-clause-refused
returns-in-DetailsEntry-clause-refused c = rw c.in-DetailsEntry.is c.take_details_entry.ensures.refused

pub returns-in-Attribute-clause-ok : goal.returns-in-Attribute-clause-ok
returns-in-Attribute-clause-ok c = rw c.in-Attribute.is c.take-in-Attribute.ensures.ok

pub returns-in-Attribute-clause-refused : goal.returns-in-Attribute-clause-refused
returns-in-Attribute-clause-refused c = rw c.in-Attribute.is c.take-in-Attribute.ensures.refused

pub unreachable-requires : goal.unreachable-requires
unreachable-requires c = is_inside c.args.part.now c.requires.inner c.in_default.not-HealthEntry c.in_default.not-ConfigMap c.in_default.not-ConfigEntry c.in_default.not-ConfigFile c.in_default.not-PackageEntry c.in_default.not-Package c.in_default.not-Details c.in_default.not-DetailsEntry c.in_default.not-Attribute
