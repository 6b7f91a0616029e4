-- The lines of a column begin with its path.
use Rattle.std.proofs.Common.{◌≡◌, ℕ, Bool, true, false, cond, ◌⊎◌, inl, inr, List, [], ◌∷◌, ◌++◌, refl, ap, sym, subst, append_assoc, codes}
use Rattle.std.specs.Fmt.{decimal, signed_decimal}
use Rattle.message_codec.specs.Tables.{Name, AnyValue, Entry, Kind, Unsigned, Signed, Enum, Truth, Fixed, Double, Text, Blob, Texts, Raw, One, Many, Keyed, Held, Row, rows_of, kind_at, AllOf, OneOf}
use Rattle.message_codec.specs.Values.{Value, Number, Integer, Flag, Content, Contents, Absent, Present, Several, Chosen, Values, End, And}
use Rattle.message_codec.proofs.ColumnLaws.{append-nothing}
use Rattle.message_codec.specs.Canonical.{is_default, kind_or}
use Rattle.message_codec.specs.Fits.{FitsColumn, FitsEach, FitsIn, FitsMessage, IsThere}
use Rattle.message_texts.specs.Words.{line, under, item_path, key_path, quoted, hexadecimal}
use Rattle.message_texts.specs.Texts.{bits, name_at, name_for, column_lines, part_lines, whole_lines, item_lines, entry_lines, message_lines}
use Rattle.message_texts.proofs.Paths.{Starts, Solid, apart_nothing, starts_more, starts_at, line_starts, under_up, item_solid, item_up, key_solid, key_up}
use Rattle.message_texts.proofs.Rows.{fine, is_name, name_solid, first_row, by_table, member_name, is_lined}

abbrev pub Opens : List ℕ → List ℕ → Type 0
Opens path lines = (lines ≡ []) ⊎ Starts path lines

-- the lines of a message are none, or begin with a field's path
abbrev pub ColumnsOpen : List ℕ → List ℕ → Type 0
ColumnsOpen path lines = (lines ≡ []) ⊎ ((name : List ℕ) × Starts (under path name) lines)

abbrev pub MessageOpens : Name → Values → Type 0
MessageOpens t vs = (path : List ℕ) → ColumnsOpen path (message_lines path (rows_of t) vs)

-- a message that has lines stands as they are
pub part_is : (path base lines : List ℕ) → Starts base lines → part_lines path lines ≡ lines
part_is path base [] s = absurd (apart_nothing base s)
part_is path base (c ∷ lines) s = refl

pub part_starts : (path lines : List ℕ) → Solid path → ColumnsOpen path lines → Starts path (part_lines path lines)
part_starts path lines solid (inl e) = starts_at path _ _ (ap (part_lines path) (sym e)) (line_starts path (codes "{}"))
part_starts path lines solid (inr (name, s)) = starts_at path _ _ (sym (part_is path (under path name) lines s)) (under_up path name lines solid s)

-- the name of a column of a message is that of its row
name_for_is : (name : List ℕ) (kind : Kind) (v : Value) → FitsColumn kind v → name_for name v ≡ name
name_for_is name Unsigned (Chosen n v) f = absurd f
name_for_is name kind (Chosen n v) f = absurd f
name_for_is name kind v f = refl

pub column_is : (path name : List ℕ) (kind : Kind) (v : Value) → FitsColumn kind v → column_lines path name kind v ≡ cond (is_default kind v) [] (whole_lines (under path name) kind v)
column_is path name kind v f = ap (λ (n : List ℕ). cond (is_default kind v) [] (whole_lines (under path n) kind v)) (name_for_is name kind v f)

pub lines_first : (path : List ℕ) (r : Row) (rows : List Row) (v : Value) (vs : Values) (more : List ℕ) → message_lines path (r ∷ rows) (And v vs) ++ more ≡ column_lines path r.name r.kind v ++ (message_lines path rows vs ++ more)
lines_first path r rows v vs more = append_assoc (column_lines path r.name r.kind v) (message_lines path rows vs) more

left_out : (b : Bool) (path lines : List ℕ) → Opens path lines → Opens path (cond b [] lines)
left_out true path lines o = inl refl
left_out false path lines o = o

-- the lines of a column, and those of the later ones
both_open : (path name column more : List ℕ) → Opens (under path name) column → ColumnsOpen path more → ColumnsOpen path (column ++ more)
both_open path name column more (inl e) o = subst (λ ls. ColumnsOpen path (ls ++ more)) (sym e) o
both_open path name column more (inr s) o = inr (name, starts_more (under path name) column more s)

named : (path name lines : List ℕ) → Opens (under path name) lines → ColumnsOpen path lines
named path name lines (inl e) = inl e
named path name lines (inr s) = inr (name, s)

mutual
  whole_opens : (kind : Kind) (v : Value) → FitsColumn kind v → (path : List ℕ) → Solid path → Opens path (whole_lines path kind v)
  whole_opens Unsigned (Number x) f path s = inr (line_starts path (decimal x))
  whole_opens Fixed (Number x) f path s = inr (line_starts path (decimal x))
  whole_opens Double (Number x) f path s = inr (line_starts path (bits x))
  whole_opens Signed (Integer z) f path s = inr (line_starts path (signed_decimal z))
  whole_opens Enum (Integer z) f path s = inr (line_starts path (signed_decimal z))
  whole_opens Truth (Flag b) f path s = inr (line_starts path (cond b (codes "true") (codes "false")))
  whole_opens Text (Content bytes) f path s = inr (line_starts path (quoted bytes))
  whole_opens Blob (Content bytes) f path s = inr (line_starts path (hexadecimal bytes))
  whole_opens Texts (Contents []) f path s = inl refl
  whole_opens Texts (Contents (text ∷ texts)) f path s = inr (starts_more path (line (item_path path 0) (quoted text)) _ (item_up path 0 _ (line_starts (item_path path 0) (quoted text))))
  whole_opens Raw Absent f path s = inl refl
  whole_opens Raw (Content bytes) f path s = inr (line_starts path (hexadecimal bytes))
  whole_opens (One t) Absent f path s = inl refl
  whole_opens (One t) (Present vs) f path s = inr (part_starts path _ s (by_table (λ n. MessageOpens n vs) vs (λ n fine g p. all_open (rows_of n) vs fine g p) (λ g p. any_open vs g p) t f path))
  whole_opens (Held t) (Present vs) f path s = inr (part_starts path _ s (by_table (λ n. MessageOpens n vs) vs (λ n fine g p. all_open (rows_of n) vs fine g p) (λ g p. any_open vs g p) t f path))
  whole_opens (Many t) (Several vs) f path s = each_opens t vs f path
  whole_opens (Keyed t) (Several vs) f path s = entries_open t vs f.0 path
  whole_opens _ _ f path s = absurd f

  each_opens : (t : Name) (vs : Values) → FitsEach t vs → (path : List ℕ) → Opens path (item_lines path (Many t) 0 vs)
  each_opens t End f path = inl refl
  each_opens t (And (Present v) vs) f path = inr (starts_more path _ _ (item_up path 0 _ (part_starts (item_path path 0) _ (item_solid path 0) (by_table (λ n. MessageOpens n v) v (λ n fine g p. all_open (rows_of n) v fine g p) (λ g p. any_open v g p) t f.0 (item_path path 0)))))
  each_opens t (And _ vs) f path = absurd f

  entries_open : (t : Name) (vs : Values) → FitsEach (Entry t) vs → (path : List ℕ) → Opens path (entry_lines path t vs)
  entries_open t End f path = inl refl
  entries_open t (And (Present (And (Content key) (And (Present v) End))) vs) f path = inr (starts_more path _ _ (key_up path key _ (part_starts (key_path path key) _ (key_solid path key) (by_table (λ n. MessageOpens n v) v (λ n fine g p. all_open (rows_of n) v fine g p) (λ g p. any_open v g p) t f.0.1.0 (key_path path key)))))
  entries_open t (And (Present (And (Content key) (And (Present v) (And w ws)))) vs) f path = absurd f.0.1.1
  entries_open t (And (Present (And (Content key) (And w ws))) vs) f path = absurd f.0.1.0
  entries_open t (And (Present (And (Content key) End)) vs) f path = absurd f.0.1
  entries_open t (And (Present (And k ws)) vs) f path = absurd f.0.0
  entries_open t (And (Present End) vs) f path = absurd f.0
  entries_open t (And _ vs) f path = absurd f

  all_open : (rows : List Row) (vs : Values) → fine rows ≡ true → FitsIn AllOf rows vs → (path : List ℕ) → ColumnsOpen path (message_lines path rows vs)
  all_open [] End fine f path = inl refl
  all_open (r ∷ rows) (And v vs) fine f path =
      let row = first_row r rows fine in
      let column = left_out (is_default r.kind v) (under path r.name) _ (whole_opens r.kind v f.0 (under path r.name) (name_solid path r.name row.0)) in
      subst (λ ls. ColumnsOpen path (ls ++ message_lines path rows vs)) (sym (column_is path r.name r.kind v f.0)) (both_open path r.name _ _ column (all_open rows vs row.2 f.1 path))
  all_open [] (And v vs) fine f path = absurd f
  all_open (r ∷ rows) End fine f path = absurd f

  any_open : (vs : Values) → FitsIn OneOf (rows_of AnyValue) vs → (path : List ℕ) → ColumnsOpen path (message_lines path (rows_of AnyValue) vs)
  any_open (And Absent End) f path = inl refl
  any_open (And (Chosen n v) End) f path =
      let name = name_at n (rows_of AnyValue) in
      subst (ColumnsOpen path) (sym (append-nothing (whole_lines (under path name) (kind_or (kind_at n (rows_of AnyValue))) v)))
      (named path name _ (whole_opens (kind_or (kind_at n (rows_of AnyValue))) v f.2 (under path name) (name_solid path name (member_name n f.0))))
  any_open (And v End) f path = absurd f
  any_open _ f path = absurd f

pub message_opens : (t : Name) (vs : Values) → FitsMessage t vs → MessageOpens t vs
message_opens t vs f = by_table (λ n. MessageOpens n vs) vs (λ n fine g p. all_open (rows_of n) vs fine g p) (λ g p. any_open vs g p) t f

pub column_opens : (path : List ℕ) (r : Row) (v : Value) → is_name r.name ≡ true → FitsColumn r.kind v → Opens (under path r.name) (column_lines path r.name r.kind v)
column_opens path r v named f = subst (Opens (under path r.name)) (sym (column_is path r.name r.kind v f)) (left_out (is_default r.kind v) (under path r.name) _ (whole_opens r.kind v f (under path r.name) (name_solid path r.name named)))

-- a column that is there, of a kind that isn't repeated
pub there_starts : (kind : Kind) (v : Value) → is_lined kind ≡ true → IsThere v → FitsColumn kind v → (path : List ℕ) → Solid path → Starts path (whole_lines path kind v)
there_starts Texts v l there f path s = absurd cc
there_starts (Many t) v l there f path s = absurd cc
there_starts (Keyed t) v l there f path s = absurd cc
there_starts Unsigned (Number x) l there f path s = line_starts path (decimal x)
there_starts Fixed (Number x) l there f path s = line_starts path (decimal x)
there_starts Double (Number x) l there f path s = line_starts path (bits x)
there_starts Signed (Integer z) l there f path s = line_starts path (signed_decimal z)
there_starts Enum (Integer z) l there f path s = line_starts path (signed_decimal z)
there_starts Truth (Flag b) l there f path s = line_starts path (cond b (codes "true") (codes "false"))
there_starts Text (Content bytes) l there f path s = line_starts path (quoted bytes)
there_starts Blob (Content bytes) l there f path s = line_starts path (hexadecimal bytes)
there_starts Raw (Content bytes) l there f path s = line_starts path (hexadecimal bytes)
there_starts Raw Absent l there f path s = absurd there
there_starts (One t) (Present vs) l there f path s = part_starts path _ s (message_opens t vs f path)
there_starts (One t) Absent l there f path s = absurd there
there_starts (Held t) (Present vs) l there f path s = part_starts path _ s (message_opens t vs f path)
there_starts _ _ l there f path s = absurd f
