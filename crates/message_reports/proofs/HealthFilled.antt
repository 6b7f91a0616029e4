-- A health that is written from its end to its front.
use Rattle.std.proofs.Common.{◌≡◌, ℕ, ◌+◌, ◌-◌, ◌*◌, ◌^◌, ◌≤◌, ◌<◌, List, [], ◌++◌, length, get_or, drop, refl, ap, sym, subst, ◌∙◌, append_assoc, arith}
use Rattle.std.specs.Prelude.{Result, Ok, Err, OnOk, OnErr}
use Rattle.message_values.specs.declared.health.ComponentHealth.{ComponentHealth, out-ComponentHealth}
use Rattle.plain_values.specs.declared.maps.Pair.{Pair}
use Rattle.message_codec.specs.Varint.{varint}
use Rattle.message_codec.specs.Row.{Row, appended}
use Rattle.message_codec.specs.Filling.{HasPlace, Fills}
use Rattle.message_codec.specs.Tables as tables
use Rattle.message_codec.specs.Tables.{Keyed, Row as TableRow}
use Rattle.message_codec.specs.Values.{Content, Several, Values}
use Rattle.message_codec.specs.Means.{entries_of}
use Rattle.message_codec.specs.Canonical.{canonical, canonical_onto, capped, column_bytes, part_spelling, needed, put_onto, Puts}
use Rattle.message_codec.proofs.Backward.{fills_both, pair_fills, part_before, part_fills, parts_all, place_behind}
use Rattle.message_codec.proofs.Canonical.{appended_none, chain_puts, head_fits, needed_is, put_is}
use Rattle.message_codec.proofs.Parts.{entry_content, map_is, parts_bytes}
use Rattle.message_reports.specs.HealthColumns.{health_columns, front_rows, front_columns}
use Rattle.message_reports.proofs.HealthLaws.{health_canonical}

-- the columns before the components, and the components
front_of : ComponentHealth → List ℕ
front_of h = canonical_onto [] front_rows (front_columns h)

components_of : ComponentHealth → List ℕ
components_of h = column_bytes 6 (Keyed tables.ComponentHealth) (Several (entries_of health_columns (out-ComponentHealth h).component_health_map))

whole_place : (h : ComponentHealth) (row : Row) (end : ℕ) → HasPlace row end (canonical tables.ComponentHealth (health_columns h)) → HasPlace row end (front_of h ++ components_of h)
unfolding front_of components_of
whole_place h row end place = subst (λ (xs : List ℕ). HasPlace row end xs) (health_canonical h) place

-- an entry: its value, the head of its value, its key, its head
pub component_before : (h : ComponentHealth) (ps : List (Pair ComponentHealth)) (left : ℕ) (p : Pair ComponentHealth) (old now filled valued keyed new : Row) (end at start value entry first : ℕ) → ps ≡ (out-ComponentHealth h).component_health_map → 0 < left → left ≤ length ps → p ≡ get_or ps (left - 1) p
    → HasPlace old end (canonical tables.ComponentHealth (health_columns h)) → Fills old now end (parts_bytes (entry_content health_columns tables.ComponentHealth) 6 (drop left ps)) at
    → (HasPlace now at (canonical tables.ComponentHealth (health_columns p.value)) → Fills now filled at (canonical tables.ComponentHealth (health_columns p.value)) start)
    → (HasPlace filled start (varint (2 * 8 + 2) ++ varint (at - start)) → Fills filled valued start (varint (2 * 8 + 2) ++ varint (at - start)) value)
    → (HasPlace valued value (column_bytes 1 tables.Text (Content p.key)) → Fills valued keyed value (column_bytes 1 tables.Text (Content p.key)) entry)
    → (HasPlace keyed entry (varint (6 * 8 + 2) ++ varint (at - entry)) → Fills keyed new entry (varint (6 * 8 + 2) ++ varint (at - entry)) first)
    → Fills old new end (parts_bytes (entry_content health_columns tables.ComponentHealth) 6 (drop (left - 1) ps)) first
unfolding components_of
component_before h ps left p old now filled valued keyed new end at start value entry first is some within item place behind content head key outer =
    let inner = place_behind old end (front_of h) (components_of h) (whole_place h old end place) in
    let listed : HasPlace old end (parts_bytes (entry_content health_columns tables.ComponentHealth) 6 ps) =
    subst (λ (qs : List (Pair ComponentHealth)). HasPlace old end (parts_bytes (entry_content health_columns tables.ComponentHealth) 6 qs)) (sym is)
    (subst (λ (xs : List ℕ). HasPlace old end xs) (sym (map_is health_columns 6 tables.ComponentHealth (out-ComponentHealth h).component_health_map)) inner) in
    let bytes = canonical tables.ComponentHealth (health_columns p.value) in
    let named = column_bytes 1 tables.Text (Content p.key) in
    part_before (entry_content health_columns tables.ComponentHealth) 6 ps left (left - 1) p old now new end at first (omega (arith, some)) (omega (arith, some, within)) item listed behind
    (λ here. part_fills now keyed new 6 at entry first (named ++ (part_spelling 2 bytes ++ [])) here
    (λ there. pair_fills now valued keyed at value entry named (part_spelling 2 bytes) there (λ last. part_fills now filled valued 2 at start value bytes last content head) key) outer)

-- the columns before all components
pub front_before : (h : ComponentHealth) (ps : List (Pair ComponentHealth)) (left : ℕ) (old now new : Row) (end at first : ℕ) → ps ≡ (out-ComponentHealth h).component_health_map → left ≤ 0
    → HasPlace old end (canonical tables.ComponentHealth (health_columns h)) → Fills old now end (parts_bytes (entry_content health_columns tables.ComponentHealth) 6 (drop left ps)) at
    → (HasPlace now at (canonical_onto [] front_rows (front_columns h)) → Fills now new at (canonical_onto [] front_rows (front_columns h)) first) → Fills old new end (canonical tables.ComponentHealth (health_columns h)) first
unfolding front_of components_of
front_before h ps left old now new end at first is none place behind front =
    let content = entry_content health_columns tables.ComponentHealth in
    let all = parts_all content 6 ps left old now end at (parts_bytes content 6 ps) none behind refl in
    let components : Fills old now end (components_of h) at =
    subst (λ (xs : List ℕ). Fills old now end xs at) (map_is health_columns 6 tables.ComponentHealth (out-ComponentHealth h).component_health_map)
    (subst (λ (qs : List (Pair ComponentHealth)). Fills old now end (parts_bytes (entry_content health_columns tables.ComponentHealth) 6 qs) at) is all) in
    subst (λ (xs : List ℕ). Fills old new end xs first) (sym (health_canonical h)) (fills_both old now new end at first (front_of h) (components_of h) (whole_place h old end place) (λ _. components) front)

-- a field: its head, and then its content
pub headed_puts : {E : Type 0} (outcome : Result Unit E) (old middle new : Row) (number len : ℕ) (bytes : List ℕ) → len ≡ capped bytes → length (part_spelling number bytes) < 2 ^ 62
    → middle ≡ appended old (varint (number * 8 + 2) ++ varint len) → Puts middle new bytes outcome → Puts old new (part_spelling number bytes) outcome
headed_puts outcome old middle new number len bytes counts fits head content =
    let tag = varint (number * 8 + 2) in
    let spelled : part_spelling number bytes ≡ (tag ++ varint len) ++ ([] ++ ([] ++ bytes)) =
    ap (λ (n : ℕ). tag ++ (varint n ++ bytes)) (sym (head_fits number len bytes counts fits)) ∙ sym (append_assoc tag (varint len) bytes) in
    let nothing = sym (appended_none middle) in
    chain_puts outcome old middle middle middle new (tag ++ varint len) [] [] bytes (part_spelling number bytes) spelled head nothing nothing content

-- bytes that were appended at once were appended column by column
pub put_whole : {E : Type 0} (outcome : Result Unit E) (old new : Row) (rows : List TableRow) (vs : Values) → Puts old new (canonical_onto [] rows vs) outcome → OnOk outcome (new ≡ put_onto old rows vs)
put_whole (Ok u) old new rows vs h = h.ok ∙ sym (put_is old rows vs)
put_whole (Err e) old new rows vs h = tt

pub short_whole : {E : Type 0} (outcome : Result Unit E) (old new : Row) (rows : List TableRow) (vs : Values) → Puts old new (canonical_onto [] rows vs) outcome → OnErr outcome (old.spare < needed rows vs)
short_whole (Ok u) old new rows vs h = tt
short_whole (Err e) old new rows vs h = omega (arith, h.short, needed_is rows vs)
