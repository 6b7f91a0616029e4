use Rattle.std.proofs.Common.{◌≡◌, ℕ, refl, inl, inr, subst}
use Rattle.message_codec.specs.Tables as tables
use Rattle.message_codec.specs.Tables.{Name, rows_of, kind_at}
use Rattle.message_codec.specs.Openings.{IsPartOf}
use Rattle.message_attributes.specs.Pieces as attributes
use Rattle.message_attributes.specs.declared.pieces.AttributePart.{AttributePart}
use Rattle.message_attributes.specs.declared.pieces.AttributePart.TheVariants as attribute
use Rattle.message_attributes.proofs.PartLaws.{any_parts, array_parts, pairs_parts, pair_parts}
use Rattle.message_reports.specs.declared.report_parts.ReportPart.{ReportPart}
use Rattle.message_reports.specs.declared.report_parts.ReportPart.TheVariants as parts
use Rattle.message_reports.specs.Pieces.{part_name}
use Rattle.message_reports.proofs.pieces.close_attribute.Goals as goal

-- a part of one of these names is an attribute's
abbrev IsAttribute : Name → ReportPart → Type 0
IsAttribute tables.AnyValue p = (v : AttributePart) × (p ≡ parts.Attribute v)
IsAttribute tables.ArrayValue p = (v : AttributePart) × (p ≡ parts.Attribute v)
IsAttribute tables.KeyValueList p = (v : AttributePart) × (p ≡ parts.Attribute v)
IsAttribute tables.KeyValue p = (v : AttributePart) × (p ≡ parts.Attribute v)
IsAttribute _ p = Unit {0}

of_attribute : (m : AttributePart) → IsAttribute (attributes.part_name m) (parts.Attribute m)
of_attribute (attribute.Any any) = (attribute.Any any, refl)
of_attribute (attribute.Array values) = (attribute.Array values, refl)
of_attribute (attribute.Pairs pairs) = (attribute.Pairs pairs, refl)
of_attribute (attribute.Pair pair) = (attribute.Pair pair, refl)

of_part : (p : ReportPart) → IsAttribute (part_name p) p
of_part (parts.Report m) = tt
of_part (parts.Description m) = tt
of_part (parts.Health m) = tt
of_part (parts.HealthEntry m) = tt
of_part (parts.EffectiveConfig m) = tt
of_part (parts.ConfigMap m) = tt
of_part (parts.ConfigEntry m) = tt
of_part (parts.ConfigFile m) = tt
of_part (parts.RemoteStatus m) = tt
of_part (parts.Packages m) = tt
of_part (parts.PackageEntry m) = tt
of_part (parts.Package m) = tt
of_part (parts.Disconnect m) = tt
of_part (parts.CustomCapabilities m) = tt
of_part (parts.CustomMessage m) = tt
of_part (parts.Components m) = tt
of_part (parts.Details m) = tt
of_part (parts.DetailsEntry m) = tt
of_part (parts.Attribute m) = of_attribute m

of_name : (p : ReportPart) (name : Name) → part_name p ≡ name → IsAttribute name p
of_name p name e = subst (λ (n : Name). IsAttribute n p) e (of_part p)

-- what stands within an attribute is an attribute's
no_other : (m : AttributePart) (number : ℕ) (p : ReportPart) → IsPartOf (kind_at number (rows_of (attributes.part_name m))) (part_name p) → ((v : AttributePart) → p ≡ parts.Attribute v → ⊥) → ⊥
no_other (attribute.Any any) number p part none = elim (any_parts number (part_name p) part) [
  | inl among ↦ let found = of_name p tables.ArrayValue among.name_is in none found.0 found.1
  | inr among ↦ let found = of_name p tables.KeyValueList among.name_is in none found.0 found.1
]
no_other (attribute.Array values) number p part none = let found = of_name p tables.AnyValue (array_parts number (part_name p) part).name_is in none found.0 found.1
no_other (attribute.Pairs pairs) number p part none = let found = of_name p tables.KeyValue (pairs_parts number (part_name p) part).name_is in none found.0 found.1
no_other (attribute.Pair pair) number p part none = let found = of_name p tables.AnyValue (pair_parts number (part_name p) part).name_is in none found.0 found.1

pub returns-in_default : goal.returns-in_default
returns-in_default c = record { name = refl; closes = absurd (no_other c.args.attribute.now c.args.number c.args.part c.requires.part c.in_default.not-Attribute) }
