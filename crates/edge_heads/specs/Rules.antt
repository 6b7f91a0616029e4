-- How the rules on header lines are looked up.
use Rattle.std.specs.Prelude.{◌≡◌, ℕ, Bool, List, [], ◌∷◌, length, map}
use Rattle.httparse.specs.declared.spans.Span.{Span}
use Rattle.httparse.specs.declared.spans.HeaderSpan.{HeaderSpan}
use Rattle.httparse.specs.Spans.{span_bytes, IsWithin, header_bytes}
use Rattle.edge_heads.specs.declared.rules.Lone.{Lone}
use Rattle.edge_heads.specs.declared.rules.Lone.TheVariants.{Nowhere, Once, Several}
use Rattle.edge_heads.specs.declared.rules.Rule.{Rule}
use Rattle.edge_heads.specs.declared.rules.Rule.TheVariants.{Protobuf, Coded, Close}
use Rattle.edge_heads.specs.Headers.{Header, is_protobuf, is_coded, is_close}

-- the headers that the spans cover
abbrev pub headers_at : List ℕ → List HeaderSpan → List Header
headers_at bytes spans = map (header_bytes bytes) spans

-- there is no value, or one, or there are more
abbrev pub IsLone : List ℕ → List (List ℕ) → Lone → Type 0
IsLone bytes found Nowhere = found ≡ []
IsLone bytes found (Once span) = (found ≡ span_bytes bytes span ∷ []) × IsWithin (length bytes) span
IsLone bytes found Several = (a : List ℕ) × (b : List ℕ) × (more : List (List ℕ)) × (found ≡ a ∷ b ∷ more)

abbrev pub rule_test : Rule → List ℕ → Bool
rule_test Protobuf = is_protobuf
rule_test Coded = is_coded
rule_test Close = is_close

abbrev pub one_more_of : Lone → Span → Lone
one_more_of Nowhere value = Once value
one_more_of (Once _) value = Several
one_more_of Several value = Several
