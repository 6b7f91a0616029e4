-- Which field of a message a part closes, and which part has a name.
use Rattle.std.proofs.Common.{◌≡◌, ℕ, refl, inl, inr, sym, subst, ◌∙◌}
use Rattle.plain_values.specs.declared.files.AgentConfigFile.{AgentConfigFile}
use Rattle.plain_values.specs.declared.maps.Pair.{Pair}
use Rattle.message_values.specs.declared.packages.PackageStatus.{PackageStatus}
use Rattle.message_values.specs.declared.attributes.AgentDescription.{AgentDescription}
use Rattle.message_values.specs.declared.config.RemoteConfigStatus.{RemoteConfigStatus}
use Rattle.message_values.specs.declared.report.AgentDisconnect.{AgentDisconnect}
use Rattle.message_values.specs.declared.custom.CustomCapabilities.{CustomCapabilities}
use Rattle.message_values.specs.declared.custom.CustomMessage.{CustomMessage}
use Rattle.message_codec.specs.Tables as tables
use Rattle.message_codec.specs.Tables.{Name, AsText, AsMessage, Unread, rows_of, kind_at}
use Rattle.message_codec.specs.Openings.{IsPartOf, HasPart}
use Rattle.message_codec.proofs.Openings.{has_part}
use Rattle.message_attributes.specs.Pieces as attributes
use Rattle.message_attributes.specs.declared.parts.AgentConfigMapDraft.{AgentConfigMapDraft}
use Rattle.message_attributes.specs.declared.pieces.AttributePart.{AttributePart}
use Rattle.message_attributes.specs.declared.pieces.AttributePart.TheVariants as attribute
use Rattle.message_attributes.proofs.PartLaws.{Among}
use Rattle.message_reports.specs.declared.health.HealthDraft.{HealthDraft}
use Rattle.message_reports.specs.declared.health.HealthEntryDraft.{HealthEntryDraft}
use Rattle.message_reports.specs.declared.components.DetailsDraft.{DetailsDraft}
use Rattle.message_reports.specs.declared.components.DetailsEntryDraft.{DetailsEntryDraft}
use Rattle.message_reports.specs.declared.components.AvailableComponentsDraft.{AvailableComponentsDraft}
use Rattle.message_reports.specs.declared.config.EffectiveConfigDraft.{EffectiveConfigDraft}
use Rattle.message_reports.specs.declared.packages.PackageStatusesDraft.{PackageStatusesDraft}
use Rattle.message_reports.specs.declared.report.AgentToServerDraft.{AgentToServerDraft}
use Rattle.message_reports.specs.declared.report_parts.ReportPart.{ReportPart}
use Rattle.message_reports.specs.declared.report_parts.ReportPart.TheVariants as parts
use Rattle.message_reports.specs.Pieces.{part_name}

text_no_message : (name : Name) → AsText ≡ AsMessage name → ⊥
text_no_message name e = cc

unread_no_message : (name : Name) → Unread ≡ AsMessage name → ⊥
unread_no_message name e = cc

same_name : (a b : Name) → AsMessage a ≡ AsMessage b → b ≡ a
same_name a b e = cc

-- ---- which number

pub health_parts : (number : ℕ) (name : Name) → IsPartOf (kind_at number (rows_of tables.ComponentHealth)) name → Among number 6 name (tables.Entry tables.ComponentHealth)
health_parts number name h = by (has_part (rows_of tables.ComponentHealth) number name h)
  where
    by : HasPart (rows_of tables.ComponentHealth) number name → Among number 6 name (tables.Entry tables.ComponentHealth)
    by (inl p) = absurd (unread_no_message name p.1)
    by (inr (inl p)) = absurd (unread_no_message name p.1)
    by (inr (inr (inl p))) = absurd (text_no_message name p.1)
    by (inr (inr (inr (inl p)))) = absurd (text_no_message name p.1)
    by (inr (inr (inr (inr (inl p))))) = absurd (unread_no_message name p.1)
    by (inr (inr (inr (inr (inr (inl p)))))) = record { number_is = p.0; name_is = same_name (tables.Entry tables.ComponentHealth) name p.1 }
    by (inr (inr (inr (inr (inr (inr p)))))) = absurd p

pub entry_parts : (held : Name) (number : ℕ) (name : Name) → IsPartOf (kind_at number (rows_of (tables.Entry held))) name → Among number 2 name held
entry_parts held number name h = by (has_part (rows_of (tables.Entry held)) number name h)
  where
    by : HasPart (rows_of (tables.Entry held)) number name → Among number 2 name held
    by (inl p) = absurd (text_no_message name p.1)
    by (inr (inl p)) = record { number_is = p.0; name_is = same_name held name p.1 }
    by (inr (inr p)) = absurd p

pub effective_parts : (number : ℕ) (name : Name) → IsPartOf (kind_at number (rows_of tables.EffectiveConfig)) name → Among number 1 name tables.AgentConfigMap
effective_parts number name h = by (has_part (rows_of tables.EffectiveConfig) number name h)
  where
    by : HasPart (rows_of tables.EffectiveConfig) number name → Among number 1 name tables.AgentConfigMap
    by (inl p) = record { number_is = p.0; name_is = same_name tables.AgentConfigMap name p.1 }
    by (inr p) = absurd p

pub config_map_parts : (number : ℕ) (name : Name) → IsPartOf (kind_at number (rows_of tables.AgentConfigMap)) name → Among number 1 name (tables.Entry tables.AgentConfigFile)
config_map_parts number name h = by (has_part (rows_of tables.AgentConfigMap) number name h)
  where
    by : HasPart (rows_of tables.AgentConfigMap) number name → Among number 1 name (tables.Entry tables.AgentConfigFile)
    by (inl p) = record { number_is = p.0; name_is = same_name (tables.Entry tables.AgentConfigFile) name p.1 }
    by (inr p) = absurd p

pub packages_parts : (number : ℕ) (name : Name) → IsPartOf (kind_at number (rows_of tables.PackageStatuses)) name → Among number 1 name (tables.Entry tables.PackageStatus)
packages_parts number name h = by (has_part (rows_of tables.PackageStatuses) number name h)
  where
    by : HasPart (rows_of tables.PackageStatuses) number name → Among number 1 name (tables.Entry tables.PackageStatus)
    by (inl p) = record { number_is = p.0; name_is = same_name (tables.Entry tables.PackageStatus) name p.1 }
    by (inr (inl p)) = absurd (unread_no_message name p.1)
    by (inr (inr (inl p))) = absurd (text_no_message name p.1)
    by (inr (inr (inr p))) = absurd p

pub components_parts : (number : ℕ) (name : Name) → IsPartOf (kind_at number (rows_of tables.AvailableComponents)) name → Among number 1 name (tables.Entry tables.ComponentDetails)
components_parts number name h = by (has_part (rows_of tables.AvailableComponents) number name h)
  where
    by : HasPart (rows_of tables.AvailableComponents) number name → Among number 1 name (tables.Entry tables.ComponentDetails)
    by (inl p) = record { number_is = p.0; name_is = same_name (tables.Entry tables.ComponentDetails) name p.1 }
    by (inr (inl p)) = absurd (unread_no_message name p.1)
    by (inr (inr p)) = absurd p

-- the number of each message in a report
abbrev pub number_in_report : Name → ℕ
number_in_report tables.AgentDescription = 3
number_in_report tables.ComponentHealth = 5
number_in_report tables.EffectiveConfig = 6
number_in_report tables.RemoteConfigStatus = 7
number_in_report tables.PackageStatuses = 8
number_in_report tables.AgentDisconnect = 9
number_in_report tables.CustomCapabilities = 12
number_in_report tables.CustomMessage = 13
number_in_report tables.AvailableComponents = 14
number_in_report _ = 0

abbrev pub StandsInReport : Name → Type 0
StandsInReport tables.AgentDescription = Unit {0}
StandsInReport tables.ComponentHealth = Unit {0}
StandsInReport tables.EffectiveConfig = Unit {0}
StandsInReport tables.RemoteConfigStatus = Unit {0}
StandsInReport tables.PackageStatuses = Unit {0}
StandsInReport tables.AgentDisconnect = Unit {0}
StandsInReport tables.CustomCapabilities = Unit {0}
StandsInReport tables.CustomMessage = Unit {0}
StandsInReport tables.AvailableComponents = Unit {0}
StandsInReport _ = ⊥

pub report_parts : (number : ℕ) (name : Name) → IsPartOf (kind_at number (rows_of tables.AgentToServer)) name → (number ≡ number_in_report name) × StandsInReport name
report_parts number name h = by (has_part (rows_of tables.AgentToServer) number name h)
  where
    is : (at : ℕ) (of : Name) → number_in_report of ≡ at → StandsInReport of → (number ≡ at) × (AsMessage of ≡ AsMessage name) → (number ≡ number_in_report name) × StandsInReport name
    is at of same stands p = subst (λ (n : Name). (number ≡ number_in_report n) × StandsInReport n) (sym (same_name of name p.1)) (p.0 ∙ sym same, stands)

    by : HasPart (rows_of tables.AgentToServer) number name → (number ≡ number_in_report name) × StandsInReport name
    by (inl p) = absurd (unread_no_message name p.1)
    by (inr (inl p)) = absurd (unread_no_message name p.1)
    by (inr (inr (inl p))) = is 3 tables.AgentDescription refl tt p
    by (inr (inr (inr (inl p)))) = absurd (unread_no_message name p.1)
    by (inr (inr (inr (inr (inl p))))) = is 5 tables.ComponentHealth refl tt p
    by (inr (inr (inr (inr (inr (inl p)))))) = is 6 tables.EffectiveConfig refl tt p
    by (inr (inr (inr (inr (inr (inr (inl p))))))) = is 7 tables.RemoteConfigStatus refl tt p
    by (inr (inr (inr (inr (inr (inr (inr (inl p)))))))) = is 8 tables.PackageStatuses refl tt p
    by (inr (inr (inr (inr (inr (inr (inr (inr (inl p))))))))) = is 9 tables.AgentDisconnect refl tt p
    by (inr (inr (inr (inr (inr (inr (inr (inr (inr (inl p)))))))))) = absurd (unread_no_message name p.1)
    by (inr (inr (inr (inr (inr (inr (inr (inr (inr (inr (inl p))))))))))) = is 12 tables.CustomCapabilities refl tt p
    by (inr (inr (inr (inr (inr (inr (inr (inr (inr (inr (inr (inl p)))))))))))) = is 13 tables.CustomMessage refl tt p
    by (inr (inr (inr (inr (inr (inr (inr (inr (inr (inr (inr (inr (inl p))))))))))))) = is 14 tables.AvailableComponents refl tt p
    by (inr (inr (inr (inr (inr (inr (inr (inr (inr (inr (inr (inr (inr p))))))))))))) = absurd p

-- ---- which part

abbrev Holds : Name → ReportPart → Type 0
Holds (tables.Entry tables.ComponentHealth) p = (m : HealthEntryDraft) × (p ≡ parts.HealthEntry m)
Holds tables.ComponentHealth p = (m : HealthDraft) × (p ≡ parts.Health m)
Holds tables.AgentConfigMap p = (m : AgentConfigMapDraft) × (p ≡ parts.ConfigMap m)
Holds (tables.Entry tables.AgentConfigFile) p = (m : (Pair AgentConfigFile)) × (p ≡ parts.ConfigEntry m)
Holds tables.AgentConfigFile p = (m : AgentConfigFile) × (p ≡ parts.ConfigFile m)
Holds (tables.Entry tables.PackageStatus) p = (m : (Pair PackageStatus)) × (p ≡ parts.PackageEntry m)
Holds tables.PackageStatus p = (m : PackageStatus) × (p ≡ parts.Package m)
Holds (tables.Entry tables.ComponentDetails) p = (m : DetailsEntryDraft) × (p ≡ parts.DetailsEntry m)
Holds tables.ComponentDetails p = (m : DetailsDraft) × (p ≡ parts.Details m)
Holds _ p = Unit {0}

holds_attribute : (m : AttributePart) → Holds (attributes.part_name m) (parts.Attribute m)
holds_attribute (attribute.Any any) = tt
holds_attribute (attribute.Array values) = tt
holds_attribute (attribute.Pairs pairs) = tt
holds_attribute (attribute.Pair pair) = tt

holds : (p : ReportPart) → Holds (part_name p) p
holds (parts.Report m) = tt
holds (parts.Description m) = tt
holds (parts.Health m) = (m, refl)
holds (parts.HealthEntry m) = (m, refl)
holds (parts.EffectiveConfig m) = tt
holds (parts.ConfigMap m) = (m, refl)
holds (parts.ConfigEntry m) = (m, refl)
holds (parts.ConfigFile m) = (m, refl)
holds (parts.RemoteStatus m) = tt
holds (parts.Packages m) = tt
holds (parts.PackageEntry m) = (m, refl)
holds (parts.Package m) = (m, refl)
holds (parts.Disconnect m) = tt
holds (parts.CustomCapabilities m) = tt
holds (parts.CustomMessage m) = tt
holds (parts.Components m) = tt
holds (parts.Details m) = (m, refl)
holds (parts.DetailsEntry m) = (m, refl)
holds (parts.Attribute m) = holds_attribute m

pub is_health_entry : (p : ReportPart) → part_name p ≡ (tables.Entry tables.ComponentHealth) → ((m : HealthEntryDraft) → p ≡ parts.HealthEntry m → ⊥) → ⊥
is_health_entry p e differs = of (subst (λ (n : Name). Holds n p) e (holds p))
  where
    of : (m : HealthEntryDraft) × (p ≡ parts.HealthEntry m) → ⊥
    of h = differs h.0 h.1

pub is_health : (p : ReportPart) → part_name p ≡ tables.ComponentHealth → ((m : HealthDraft) → p ≡ parts.Health m → ⊥) → ⊥
is_health p e differs = of (subst (λ (n : Name). Holds n p) e (holds p))
  where
    of : (m : HealthDraft) × (p ≡ parts.Health m) → ⊥
    of h = differs h.0 h.1

pub is_config_map : (p : ReportPart) → part_name p ≡ tables.AgentConfigMap → ((m : AgentConfigMapDraft) → p ≡ parts.ConfigMap m → ⊥) → ⊥
is_config_map p e differs = of (subst (λ (n : Name). Holds n p) e (holds p))
  where
    of : (m : AgentConfigMapDraft) × (p ≡ parts.ConfigMap m) → ⊥
    of h = differs h.0 h.1

pub is_config_entry : (p : ReportPart) → part_name p ≡ (tables.Entry tables.AgentConfigFile) → ((m : (Pair AgentConfigFile)) → p ≡ parts.ConfigEntry m → ⊥) → ⊥
is_config_entry p e differs = of (subst (λ (n : Name). Holds n p) e (holds p))
  where
    of : (m : (Pair AgentConfigFile)) × (p ≡ parts.ConfigEntry m) → ⊥
    of h = differs h.0 h.1

pub is_config_file : (p : ReportPart) → part_name p ≡ tables.AgentConfigFile → ((m : AgentConfigFile) → p ≡ parts.ConfigFile m → ⊥) → ⊥
is_config_file p e differs = of (subst (λ (n : Name). Holds n p) e (holds p))
  where
    of : (m : AgentConfigFile) × (p ≡ parts.ConfigFile m) → ⊥
    of h = differs h.0 h.1

pub is_package_entry : (p : ReportPart) → part_name p ≡ (tables.Entry tables.PackageStatus) → ((m : (Pair PackageStatus)) → p ≡ parts.PackageEntry m → ⊥) → ⊥
is_package_entry p e differs = of (subst (λ (n : Name). Holds n p) e (holds p))
  where
    of : (m : (Pair PackageStatus)) × (p ≡ parts.PackageEntry m) → ⊥
    of h = differs h.0 h.1

pub is_package : (p : ReportPart) → part_name p ≡ tables.PackageStatus → ((m : PackageStatus) → p ≡ parts.Package m → ⊥) → ⊥
is_package p e differs = of (subst (λ (n : Name). Holds n p) e (holds p))
  where
    of : (m : PackageStatus) × (p ≡ parts.Package m) → ⊥
    of h = differs h.0 h.1

pub is_details_entry : (p : ReportPart) → part_name p ≡ (tables.Entry tables.ComponentDetails) → ((m : DetailsEntryDraft) → p ≡ parts.DetailsEntry m → ⊥) → ⊥
is_details_entry p e differs = of (subst (λ (n : Name). Holds n p) e (holds p))
  where
    of : (m : DetailsEntryDraft) × (p ≡ parts.DetailsEntry m) → ⊥
    of h = differs h.0 h.1

pub is_details : (p : ReportPart) → part_name p ≡ tables.ComponentDetails → ((m : DetailsDraft) → p ≡ parts.Details m → ⊥) → ⊥
is_details p e differs = of (subst (λ (n : Name). Holds n p) e (holds p))
  where
    of : (m : DetailsDraft) × (p ≡ parts.Details m) → ⊥
    of h = differs h.0 h.1

stands_no_attribute : (m : AttributePart) → StandsInReport (attributes.part_name m) → ⊥
stands_no_attribute (attribute.Any any) s = absurd s
stands_no_attribute (attribute.Array values) s = absurd s
stands_no_attribute (attribute.Pairs pairs) s = absurd s
stands_no_attribute (attribute.Pair pair) s = absurd s

-- a part of a report is one of these
pub is_in_report : (p : ReportPart) → StandsInReport (part_name p) → ((m : AgentDescription) → p ≡ parts.Description m → ⊥) → ((m : HealthDraft) → p ≡ parts.Health m → ⊥) → ((m : EffectiveConfigDraft) → p ≡ parts.EffectiveConfig m → ⊥) → ((m : RemoteConfigStatus) → p ≡ parts.RemoteStatus m → ⊥) → ((m : PackageStatusesDraft) → p ≡ parts.Packages m → ⊥) → ((m : AgentDisconnect) → p ≡ parts.Disconnect m → ⊥) → ((m : CustomCapabilities) → p ≡ parts.CustomCapabilities m → ⊥) → ((m : CustomMessage) → p ≡ parts.CustomMessage m → ⊥) → ((m : AvailableComponentsDraft) → p ≡ parts.Components m → ⊥) → ⊥
is_in_report (parts.Report m) s a b c d e f g h i = absurd s
is_in_report (parts.Description m) s a b c d e f g h i = absurd (a m refl)
is_in_report (parts.Health m) s a b c d e f g h i = absurd (b m refl)
is_in_report (parts.HealthEntry m) s a b c d e f g h i = absurd s
is_in_report (parts.EffectiveConfig m) s a b c d e f g h i = absurd (c m refl)
is_in_report (parts.ConfigMap m) s a b c d e f g h i = absurd s
is_in_report (parts.ConfigEntry m) s a b c d e f g h i = absurd s
is_in_report (parts.ConfigFile m) s a b c d e f g h i = absurd s
is_in_report (parts.RemoteStatus m) s a b c d e f g h i = absurd (d m refl)
is_in_report (parts.Packages m) s a b c d e f g h i = absurd (e m refl)
is_in_report (parts.PackageEntry m) s a b c d e f g h i = absurd s
is_in_report (parts.Package m) s a b c d e f g h i = absurd s
is_in_report (parts.Disconnect m) s a b c d e f g h i = absurd (f m refl)
is_in_report (parts.CustomCapabilities m) s a b c d e f g h i = absurd (g m refl)
is_in_report (parts.CustomMessage m) s a b c d e f g h i = absurd (h m refl)
is_in_report (parts.Components m) s a b c d e f g h i = absurd (i m refl)
is_in_report (parts.Details m) s a b c d e f g h i = absurd s
is_in_report (parts.DetailsEntry m) s a b c d e f g h i = absurd s
is_in_report (parts.Attribute m) s a b c d e f g h i = absurd (stands_no_attribute m s)

-- ---- messages that hold none

in_config_file : (number : ℕ) (name : Name) → HasPart (rows_of tables.AgentConfigFile) number name → ⊥
in_config_file number name (inl p) = absurd (unread_no_message name p.1)
in_config_file number name (inr (inl p)) = absurd (text_no_message name p.1)
in_config_file number name (inr (inr p)) = absurd p

in_remote_status : (number : ℕ) (name : Name) → HasPart (rows_of tables.RemoteConfigStatus) number name → ⊥
in_remote_status number name (inl p) = absurd (unread_no_message name p.1)
in_remote_status number name (inr (inl p)) = absurd (unread_no_message name p.1)
in_remote_status number name (inr (inr (inl p))) = absurd (text_no_message name p.1)
in_remote_status number name (inr (inr (inr p))) = absurd p

in_package : (number : ℕ) (name : Name) → HasPart (rows_of tables.PackageStatus) number name → ⊥
in_package number name (inl p) = absurd (text_no_message name p.1)
in_package number name (inr (inl p)) = absurd (text_no_message name p.1)
in_package number name (inr (inr (inl p))) = absurd (unread_no_message name p.1)
in_package number name (inr (inr (inr (inl p)))) = absurd (text_no_message name p.1)
in_package number name (inr (inr (inr (inr (inl p))))) = absurd (unread_no_message name p.1)
in_package number name (inr (inr (inr (inr (inr (inl p)))))) = absurd (unread_no_message name p.1)
in_package number name (inr (inr (inr (inr (inr (inr (inl p))))))) = absurd (text_no_message name p.1)
in_package number name (inr (inr (inr (inr (inr (inr (inr p))))))) = absurd p

in_disconnect : (number : ℕ) (name : Name) → HasPart (rows_of tables.AgentDisconnect) number name → ⊥
in_disconnect number name p = absurd p

in_custom_capabilities : (number : ℕ) (name : Name) → HasPart (rows_of tables.CustomCapabilities) number name → ⊥
in_custom_capabilities number name (inl p) = absurd (text_no_message name p.1)
in_custom_capabilities number name (inr p) = absurd p

in_custom_message : (number : ℕ) (name : Name) → HasPart (rows_of tables.CustomMessage) number name → ⊥
in_custom_message number name (inl p) = absurd (text_no_message name p.1)
in_custom_message number name (inr (inl p)) = absurd (text_no_message name p.1)
in_custom_message number name (inr (inr (inl p))) = absurd (unread_no_message name p.1)
in_custom_message number name (inr (inr (inr p))) = absurd p

pub holds_no_part : (s : ReportPart) (number : ℕ) (name : Name) → IsPartOf (kind_at number (rows_of (part_name s))) name → ((m : AgentToServerDraft) → s ≡ parts.Report m → ⊥) → ((m : AgentDescription) → s ≡ parts.Description m → ⊥) → ((m : HealthDraft) → s ≡ parts.Health m → ⊥) → ((m : HealthEntryDraft) → s ≡ parts.HealthEntry m → ⊥) → ((m : EffectiveConfigDraft) → s ≡ parts.EffectiveConfig m → ⊥) → ((m : AgentConfigMapDraft) → s ≡ parts.ConfigMap m → ⊥) → ((m : (Pair AgentConfigFile)) → s ≡ parts.ConfigEntry m → ⊥) → ((m : PackageStatusesDraft) → s ≡ parts.Packages m → ⊥) → ((m : (Pair PackageStatus)) → s ≡ parts.PackageEntry m → ⊥) → ((m : AvailableComponentsDraft) → s ≡ parts.Components m → ⊥) → ((m : DetailsDraft) → s ≡ parts.Details m → ⊥) → ((m : DetailsEntryDraft) → s ≡ parts.DetailsEntry m → ⊥) → ((m : AttributePart) → s ≡ parts.Attribute m → ⊥) → ⊥
holds_no_part (parts.Report v) number name part a b c d e f g h i j k m n = absurd (a v refl)
holds_no_part (parts.Description v) number name part a b c d e f g h i j k m n = absurd (b v refl)
holds_no_part (parts.Health v) number name part a b c d e f g h i j k m n = absurd (c v refl)
holds_no_part (parts.HealthEntry v) number name part a b c d e f g h i j k m n = absurd (d v refl)
holds_no_part (parts.EffectiveConfig v) number name part a b c d e f g h i j k m n = absurd (e v refl)
holds_no_part (parts.ConfigMap v) number name part a b c d e f g h i j k m n = absurd (f v refl)
holds_no_part (parts.ConfigEntry v) number name part a b c d e f g h i j k m n = absurd (g v refl)
holds_no_part (parts.ConfigFile v) number name part a b c d e f g h i j k m n = in_config_file number name (has_part (rows_of tables.AgentConfigFile) number name part)
holds_no_part (parts.RemoteStatus v) number name part a b c d e f g h i j k m n = in_remote_status number name (has_part (rows_of tables.RemoteConfigStatus) number name part)
holds_no_part (parts.Packages v) number name part a b c d e f g h i j k m n = absurd (h v refl)
holds_no_part (parts.PackageEntry v) number name part a b c d e f g h i j k m n = absurd (i v refl)
holds_no_part (parts.Package v) number name part a b c d e f g h i j k m n = in_package number name (has_part (rows_of tables.PackageStatus) number name part)
holds_no_part (parts.Disconnect v) number name part a b c d e f g h i j k m n = in_disconnect number name (has_part (rows_of tables.AgentDisconnect) number name part)
holds_no_part (parts.CustomCapabilities v) number name part a b c d e f g h i j k m n = in_custom_capabilities number name (has_part (rows_of tables.CustomCapabilities) number name part)
holds_no_part (parts.CustomMessage v) number name part a b c d e f g h i j k m n = in_custom_message number name (has_part (rows_of tables.CustomMessage) number name part)
holds_no_part (parts.Components v) number name part a b c d e f g h i j k m n = absurd (j v refl)
holds_no_part (parts.Details v) number name part a b c d e f g h i j k m n = absurd (k v refl)
holds_no_part (parts.DetailsEntry v) number name part a b c d e f g h i j k m n = absurd (m v refl)
holds_no_part (parts.Attribute v) number name part a b c d e f g h i j k m n = absurd (n v refl)
