-- Which parts stand in a report, and which in its parts.
use Rattle.std.proofs.Common.{◌≡◌, false, refl}
use Rattle.plain_values.specs.declared.files.AgentConfigFile.{AgentConfigFile}
use Rattle.plain_values.specs.declared.maps.Pair.{Pair}
use Rattle.message_values.specs.declared.packages.PackageStatus.{PackageStatus}
use Rattle.message_values.specs.declared.attributes.AgentDescription.{AgentDescription}
use Rattle.message_values.specs.declared.config.RemoteConfigStatus.{RemoteConfigStatus}
use Rattle.message_values.specs.declared.report.AgentDisconnect.{AgentDisconnect}
use Rattle.message_values.specs.declared.custom.CustomCapabilities.{CustomCapabilities}
use Rattle.message_values.specs.declared.custom.CustomMessage.{CustomMessage}
use Rattle.message_attributes.specs.declared.parts.AgentConfigMapDraft.{AgentConfigMapDraft}
use Rattle.message_attributes.specs.declared.pieces.AttributePart.{AttributePart}
use Rattle.message_reports.specs.declared.health.HealthDraft.{HealthDraft}
use Rattle.message_reports.specs.declared.health.HealthEntryDraft.{HealthEntryDraft}
use Rattle.message_reports.specs.declared.components.DetailsDraft.{DetailsDraft}
use Rattle.message_reports.specs.declared.components.DetailsEntryDraft.{DetailsEntryDraft}
use Rattle.message_reports.specs.declared.components.AvailableComponentsDraft.{AvailableComponentsDraft}
use Rattle.message_reports.specs.declared.config.EffectiveConfigDraft.{EffectiveConfigDraft}
use Rattle.message_reports.specs.declared.packages.PackageStatusesDraft.{PackageStatusesDraft}
use Rattle.message_reports.specs.declared.report.AgentToServerDraft.{AgentToServerDraft}
use Rattle.message_reports.specs.declared.report_parts.ReportPart.{ReportPart}
use Rattle.message_reports.specs.declared.report_parts.ReportPart.TheVariants as parts
use Rattle.message_reports.specs.InnerParts.{stands_in_report}

-- a part that is none of these is no field of the report
pub stands_inside : (p : ReportPart) → ((m : AgentToServerDraft) → p ≡ parts.Report m → ⊥) → ((m : AgentDescription) → p ≡ parts.Description m → ⊥) → ((m : HealthDraft) → p ≡ parts.Health m → ⊥) → ((m : EffectiveConfigDraft) → p ≡ parts.EffectiveConfig m → ⊥) → ((m : RemoteConfigStatus) → p ≡ parts.RemoteStatus m → ⊥) → ((m : PackageStatusesDraft) → p ≡ parts.Packages m → ⊥) → ((m : AgentDisconnect) → p ≡ parts.Disconnect m → ⊥) → ((m : CustomCapabilities) → p ≡ parts.CustomCapabilities m → ⊥) → ((m : CustomMessage) → p ≡ parts.CustomMessage m → ⊥) → ((m : AvailableComponentsDraft) → p ≡ parts.Components m → ⊥) → stands_in_report p ≡ false
stands_inside (parts.Report v) a b c d e f g h i j = absurd (a v refl)
stands_inside (parts.Description v) a b c d e f g h i j = absurd (b v refl)
stands_inside (parts.Health v) a b c d e f g h i j = absurd (c v refl)
stands_inside (parts.HealthEntry v) a b c d e f g h i j = refl
stands_inside (parts.EffectiveConfig v) a b c d e f g h i j = absurd (d v refl)
stands_inside (parts.ConfigMap v) a b c d e f g h i j = refl
stands_inside (parts.ConfigEntry v) a b c d e f g h i j = refl
stands_inside (parts.ConfigFile v) a b c d e f g h i j = refl
stands_inside (parts.RemoteStatus v) a b c d e f g h i j = absurd (e v refl)
stands_inside (parts.Packages v) a b c d e f g h i j = absurd (f v refl)
stands_inside (parts.PackageEntry v) a b c d e f g h i j = refl
stands_inside (parts.Package v) a b c d e f g h i j = refl
stands_inside (parts.Disconnect v) a b c d e f g h i j = absurd (g v refl)
stands_inside (parts.CustomCapabilities v) a b c d e f g h i j = absurd (h v refl)
stands_inside (parts.CustomMessage v) a b c d e f g h i j = absurd (i v refl)
stands_inside (parts.Components v) a b c d e f g h i j = absurd (j v refl)
stands_inside (parts.Details v) a b c d e f g h i j = refl
stands_inside (parts.DetailsEntry v) a b c d e f g h i j = refl
stands_inside (parts.Attribute v) a b c d e f g h i j = refl

-- a part that is no field of the report is one of these
pub is_inside : (p : ReportPart) → stands_in_report p ≡ false → ((m : HealthEntryDraft) → p ≡ parts.HealthEntry m → ⊥) → ((m : AgentConfigMapDraft) → p ≡ parts.ConfigMap m → ⊥) → ((m : (Pair AgentConfigFile)) → p ≡ parts.ConfigEntry m → ⊥) → ((m : AgentConfigFile) → p ≡ parts.ConfigFile m → ⊥) → ((m : (Pair PackageStatus)) → p ≡ parts.PackageEntry m → ⊥) → ((m : PackageStatus) → p ≡ parts.Package m → ⊥) → ((m : DetailsDraft) → p ≡ parts.Details m → ⊥) → ((m : DetailsEntryDraft) → p ≡ parts.DetailsEntry m → ⊥) → ((m : AttributePart) → p ≡ parts.Attribute m → ⊥) → ⊥
is_inside (parts.Report v) s a b c d e f g h i = absurd cc
is_inside (parts.Description v) s a b c d e f g h i = absurd cc
is_inside (parts.Health v) s a b c d e f g h i = absurd cc
is_inside (parts.HealthEntry v) s a b c d e f g h i = absurd (a v refl)
is_inside (parts.EffectiveConfig v) s a b c d e f g h i = absurd cc
is_inside (parts.ConfigMap v) s a b c d e f g h i = absurd (b v refl)
is_inside (parts.ConfigEntry v) s a b c d e f g h i = absurd (c v refl)
is_inside (parts.ConfigFile v) s a b c d e f g h i = absurd (d v refl)
is_inside (parts.RemoteStatus v) s a b c d e f g h i = absurd cc
is_inside (parts.Packages v) s a b c d e f g h i = absurd cc
is_inside (parts.PackageEntry v) s a b c d e f g h i = absurd (e v refl)
is_inside (parts.Package v) s a b c d e f g h i = absurd (f v refl)
is_inside (parts.Disconnect v) s a b c d e f g h i = absurd cc
is_inside (parts.CustomCapabilities v) s a b c d e f g h i = absurd cc
is_inside (parts.CustomMessage v) s a b c d e f g h i = absurd cc
is_inside (parts.Components v) s a b c d e f g h i = absurd cc
is_inside (parts.Details v) s a b c d e f g h i = absurd (g v refl)
is_inside (parts.DetailsEntry v) s a b c d e f g h i = absurd (h v refl)
is_inside (parts.Attribute v) s a b c d e f g h i = absurd (i v refl)
