-- Which parts of a report stand in it, and which stand in its parts.
use Rattle.std.specs.Prelude.{Bool, true, false}
use Rattle.message_reports.specs.declared.report_parts.ReportPart.{ReportPart}
use Rattle.message_reports.specs.declared.report_parts.ReportPart.TheVariants as parts

-- the report itself, or a part that is a field of it
abbrev pub stands_in_report : ReportPart → Bool
stands_in_report (parts.Report m) = true
stands_in_report (parts.Description m) = true
stands_in_report (parts.Health m) = true
stands_in_report (parts.HealthEntry m) = false
stands_in_report (parts.EffectiveConfig m) = true
stands_in_report (parts.ConfigMap m) = false
stands_in_report (parts.ConfigEntry m) = false
stands_in_report (parts.ConfigFile m) = false
stands_in_report (parts.RemoteStatus m) = true
stands_in_report (parts.Packages m) = true
stands_in_report (parts.PackageEntry m) = false
stands_in_report (parts.Package m) = false
stands_in_report (parts.Disconnect m) = true
stands_in_report (parts.CustomCapabilities m) = true
stands_in_report (parts.CustomMessage m) = true
stands_in_report (parts.Components m) = true
stands_in_report (parts.Details m) = false
stands_in_report (parts.DetailsEntry m) = false
stands_in_report (parts.Attribute m) = false
