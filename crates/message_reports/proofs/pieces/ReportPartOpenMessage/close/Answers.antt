use Rattle.message_reports.specs.Pieces.{part_name}
use Rattle.message_reports.proofs.PartsHeld.{holds_no_part}
use Rattle.message_reports.proofs.pieces.ReportPartOpenMessage.close.Goals as goal

pub close_report-requires : goal.close_report-requires
close_report-requires c = record { part = rw c.in-Report.is at c.requires.part }

pub returns-in-Report-clause-closes : goal.returns-in-Report-clause-closes
returns-in-Report-clause-closes c = rw c.in-Report.is c.close_report.ensures.closes

pub close_description-requires : goal.close_description-requires
close_description-requires c = record { part = rw c.in-Description.is at c.requires.part }

pub returns-in-Description-clause-closes : goal.returns-in-Description-clause-closes
returns-in-Description-clause-closes c = rw c.in-Description.is c.close_description.ensures.closes

pub close_health-requires : goal.close_health-requires
close_health-requires c = record { part = rw c.in-Health.is at c.requires.part }

pub returns-in-Health-clause-closes : goal.returns-in-Health-clause-closes
returns-in-Health-clause-closes c = rw c.in-Health.is c.close_health.ensures.closes

pub close_health_entry-requires : goal.close_health_entry-requires
close_health_entry-requires c = record { part = rw c.in-HealthEntry.is at c.requires.part }

pub returns-in-HealthEntry-clause-closes : goal.returns-in-HealthEntry-clause-closes
returns-in-HealthEntry-clause-closes c = rw c.in-HealthEntry.is c.close_health_entry.ensures.closes

pub close_effective-requires : goal.close_effective-requires
close_effective-requires c = record { part = rw c.in-EffectiveConfig.is at c.requires.part }

pub returns-in-EffectiveConfig-clause-closes : goal.returns-in-EffectiveConfig-clause-closes
returns-in-EffectiveConfig-clause-closes c = rw c.in-EffectiveConfig.is c.close_effective.ensures.closes

pub close_config_map-requires : goal.close_config_map-requires
close_config_map-requires c = record { part = rw c.in-ConfigMap.is at c.requires.part }

pub returns-in-ConfigMap-clause-closes : goal.returns-in-ConfigMap-clause-closes
returns-in-ConfigMap-clause-closes c = rw c.in-ConfigMap.is c.close_config_map.ensures.closes

pub close_config_entry-requires : goal.close_config_entry-requires
close_config_entry-requires c = record { part = rw c.in-ConfigEntry.is at c.requires.part }

pub returns-in-ConfigEntry-clause-closes : goal.returns-in-ConfigEntry-clause-closes
returns-in-ConfigEntry-clause-closes c = rw c.in-ConfigEntry.is c.close_config_entry.ensures.closes

pub close_packages-requires : goal.close_packages-requires
close_packages-requires c = record { part = rw c.in-Packages.is at c.requires.part }

pub returns-in-Packages-clause-closes : goal.returns-in-Packages-clause-closes
returns-in-Packages-clause-closes c = rw c.in-Packages.is c.close_packages.ensures.closes

pub close_package_entry-requires : goal.close_package_entry-requires
close_package_entry-requires c = record { part = rw c.in-PackageEntry.is at c.requires.part }

pub returns-in-PackageEntry-clause-closes : goal.returns-in-PackageEntry-clause-closes
returns-in-PackageEntry-clause-closes c = rw c.in-PackageEntry.is c.close_package_entry.ensures.closes

pub close_components-requires : goal.close_components-requires
close_components-requires c = record { part = rw c.in-Components.is at c.requires.part }

pub returns-in-Components-clause-closes : goal.returns-in-Components-clause-closes
returns-in-Components-clause-closes c = rw c.in-Components.is c.close_components.ensures.closes

pub close_details-requires : goal.close_details-requires
close_details-requires c = record { part = rw c.in-Details.is at c.requires.part }

pub returns-in-Details-clause-closes : goal.returns-in-Details-clause-closes
returns-in-Details-clause-closes c = rw c.in-Details.is c.close_details.ensures.closes

pub close_details_entry-requires : goal.close_details_entry-requires
close_details_entry-requires c = record { part = rw c.in-DetailsEntry.is at c.requires.part }

pub returns-in-DetailsEntry-clause-closes : goal.returns-in-DetailsEntry-clause-closes
returns-in-DetailsEntry-clause-closes c = rw c.in-DetailsEntry.is c.close_details_entry.ensures.closes

pub close_attribute-requires : goal.close_attribute-requires
close_attribute-requires c = record { part = rw c.in-Attribute.is at c.requires.part }

pub returns-in-Attribute-clause-closes : goal.returns-in-Attribute-clause-closes
returns-in-Attribute-clause-closes c = rw c.in-Attribute.is c.close_attribute.ensures.closes

pub returns-in_default-clause-closes : goal.returns-in_default-clause-closes
returns-in_default-clause-closes c = absurd (holds_no_part c.args.self.now c.args.number (part_name c.args.part) c.requires.part c.in_default.not-Report c.in_default.not-Description c.in_default.not-Health c.in_default.not-HealthEntry c.in_default.not-EffectiveConfig c.in_default.not-ConfigMap c.in_default.not-ConfigEntry c.in_default.not-Packages c.in_default.not-PackageEntry c.in_default.not-Components c.in_default.not-Details c.in_default.not-DetailsEntry c.in_default.not-Attribute)
