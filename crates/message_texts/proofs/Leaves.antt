-- The lines of a column that holds no message tell the column.
use Rattle.std.proofs.Common.{◌≡◌, ◌∙◌, ℕ, ◌+◌, ◌<◌, ◌^◌, Bool, true, false, cond, ℤ, pos, negsuc, List, [], ◌∷◌, ◌++◌, refl, ap, sym, arith, append_assoc, codes}
use Rattle.std.specs.Prelude.{FitsSigned}
use Rattle.std.specs.Int.{w32, w64, cast_unsigned}
use Rattle.std.specs.Int.Signed.{mag}
use Rattle.std.specs.Fmt.{decimal, signed_decimal}
use Rattle.std.proofs.lemmas.Bool.{eqb-true}
use Rattle.std.proofs.lemmas.Bool.Decides.{nat_tests}
use Rattle.std.proofs.lemmas.Fmt.{decimal_injective, signed_decimal_injective}
use Rattle.hex.specs.Hex.{IsBytes}
use Rattle.message_codec.specs.Tables.{Kind, Unsigned, Signed, Enum, Truth, Fixed, Double, Text, Blob, Texts, Raw, One, Many, Keyed, Held}
use Rattle.message_codec.specs.Values.{Value, Number, Integer, Flag, Content, Contents, Absent, Present, Several}
use Rattle.message_codec.specs.Canonical.{is_default}
use Rattle.message_codec.specs.Fits.{FitsColumn, IsThere}
use Rattle.message_texts.specs.Ranges.{HoldsBytes}
use Rattle.message_texts.specs.Words.{line, item_path, quoted, hexadecimal}
use Rattle.message_texts.specs.Texts.{bits, text_lines, whole_lines}
use Rattle.message_texts.proofs.Splits.{first, Free, decimal_free, signed_free}
use Rattle.message_texts.proofs.Unquoted.{feed, quoted_tells, quoted_free, hexadecimal_free, hexadecimal_tells, bits_free, bits_tell}
use Rattle.message_texts.proofs.Paths.{Starts, Apart, Solid, starts_more, starts_at, line_starts, line_tells, item_up}
use Rattle.message_texts.proofs.Rows.{is_lined}
use Rattle.message_texts.proofs.Openings.{there_starts}

-- where this column and another have the same lines, with others behind them that don't begin with its path, they are the same, and so are the others
abbrev pub Tells : Kind → Value → Type 0
Tells kind v = (w : Value) → FitsColumn kind w → HoldsBytes w → (path r s : List ℕ) → Solid path → Apart path r → Apart path s → whole_lines path kind v ++ r ≡ whole_lines path kind w ++ s → (v ≡ w) × (r ≡ s)

-- ---- numbers

digit_free : (d : ℕ) → d < 10 → feed (48 + d) ≡ false
digit_free d h = grind (arith, nat_tests)

number_told : (path : List ℕ) (x y : ℕ) (r s : List ℕ) → x < 2 ^ 64 → y < 2 ^ 64 → line path (decimal x) ++ r ≡ line path (decimal y) ++ s → (Number x ≡ Number y) × (r ≡ s)
number_told path x y r s f g e =
    let told = line_tells path (decimal x) (decimal y) r s (decimal_free feed digit_free x) (decimal_free feed digit_free y) e in
    (ap Number (decimal_injective x y f g told.0), told.1)

integer_told : (path : List ℕ) (y z : ℤ) (r s : List ℕ) → mag y < 2 ^ 63 → mag z < 2 ^ 63 → line path (signed_decimal y) ++ r ≡ line path (signed_decimal z) ++ s → (Integer y ≡ Integer z) × (r ≡ s)
integer_told path y z r s f g e =
    let told = line_tells path (signed_decimal y) (signed_decimal z) r s (signed_free feed refl digit_free y) (signed_free feed refl digit_free z) e in
    (ap Integer (signed_decimal_injective y z f g told.0), told.1)

signed_mag : (z : ℤ) → FitsSigned w64 z → mag z < 2 ^ 63
signed_mag z f = f.sfits

enum_mag : (z : ℤ) → FitsSigned w32 z → mag z < 2 ^ 63
enum_mag z f = omega (arith, f.sfits)

pub unsigned_tells : (x : ℕ) → x < 2 ^ 64 → Tells Unsigned (Number x)
unsigned_tells x f (Number y) g b path r s solid ra sa e = number_told path x y r s f g e
unsigned_tells x f _ g b path r s solid ra sa e = absurd g

pub fixed_tells : (x : ℕ) → x < 2 ^ 64 → Tells Fixed (Number x)
fixed_tells x f (Number y) g b path r s solid ra sa e = number_told path x y r s f g e
fixed_tells x f _ g b path r s solid ra sa e = absurd g

pub double_tells : (x : ℕ) → x < 2 ^ 64 → Tells Double (Number x)
double_tells x f (Number y) g b path r s solid ra sa e =
    let told = line_tells path (bits x) (bits y) r s (bits_free x) (bits_free y) e in
    (ap Number (bits_tell x y f g told.0), told.1)
double_tells x f _ g b path r s solid ra sa e = absurd g

pub signed_tells : (z : ℤ) → FitsSigned w64 z → Tells Signed (Integer z)
signed_tells z f (Integer y) g b path r s solid ra sa e = integer_told path z y r s (signed_mag z f) (signed_mag y g) e
signed_tells z f _ g b path r s solid ra sa e = absurd g

pub enum_tells : (z : ℤ) → FitsSigned w32 z → Tells Enum (Integer z)
enum_tells z f (Integer y) g b path r s solid ra sa e = integer_told path z y r s (enum_mag z f) (enum_mag y g) e
enum_tells z f _ g b path r s solid ra sa e = absurd g

-- ---- truth values

flag_text : Bool → List ℕ
flag_text b = cond b (codes "true") (codes "false")

flag_free : (b : Bool) → Free feed (flag_text b)
unfolding flag_text
flag_free true = (refl, (refl, (refl, (refl, tt))))
flag_free false = (refl, (refl, (refl, (refl, (refl, tt)))))

flags_same : (b c : Bool) → flag_text b ≡ flag_text c → b ≡ c
unfolding flag_text
flags_same true true e = refl
flags_same false false e = refl
flags_same true false e = let wrong : 116 ≡ 102 = ap first e in absurd (omega (arith, wrong))
flags_same false true e = let wrong : 102 ≡ 116 = ap first e in absurd (omega (arith, wrong))

pub flag_tells : (b : Bool) → Tells Truth (Flag b)
unfolding flag_text
flag_tells b (Flag c) g h path r s solid ra sa e =
    let told = line_tells path (flag_text b) (flag_text c) r s (flag_free b) (flag_free c) e in
    (ap Flag (flags_same b c told.0), told.1)
flag_tells b _ g h path r s solid ra sa e = absurd g

-- ---- texts and bytes

quoted_same : (t u : List ℕ) → quoted t ≡ quoted u → t ≡ u
quoted_same t u e = (quoted_tells t u [] [] (ap (λ (xs : List ℕ). xs ++ []) e)).0

pub text_tells : (bytes : List ℕ) → Tells Text (Content bytes)
text_tells bytes (Content more) g b path r s solid ra sa e =
    let told = line_tells path (quoted bytes) (quoted more) r s (quoted_free bytes) (quoted_free more) e in
    (ap Content (quoted_same bytes more told.0), told.1)
text_tells bytes _ g b path r s solid ra sa e = absurd g

bytes_told : (path bytes more r s : List ℕ) → IsBytes bytes → IsBytes more → line path (hexadecimal bytes) ++ r ≡ line path (hexadecimal more) ++ s → (Content bytes ≡ Content more) × (r ≡ s)
bytes_told path bytes more r s f g e =
    let told = line_tells path (hexadecimal bytes) (hexadecimal more) r s (hexadecimal_free bytes) (hexadecimal_free more) e in
    (ap Content (hexadecimal_tells bytes more f g told.0), told.1)

pub blob_tells : (bytes : List ℕ) → IsBytes bytes → Tells Blob (Content bytes)
blob_tells bytes f (Content more) g b path r s solid ra sa e = bytes_told path bytes more r s f b e
blob_tells bytes f _ g b path r s solid ra sa e = absurd g

pub raw_tells : (bytes : List ℕ) → IsBytes bytes → Tells Raw (Content bytes)
raw_tells bytes f (Content more) g b path r s solid ra sa e = bytes_told path bytes more r s f b e
raw_tells bytes f Absent g b path r s solid ra sa e = absurd (sa (starts_at path _ _ e (starts_more path _ r (line_starts path (hexadecimal bytes)))))
raw_tells bytes f _ g b path r s solid ra sa e = absurd g

pub no_raw_tells : Tells Raw Absent
no_raw_tells (Content more) g b path r s solid ra sa e = absurd (ra (starts_at path _ _ (sym e) (starts_more path _ s (line_starts path (hexadecimal more)))))
no_raw_tells Absent g b path r s solid ra sa e = (refl, e)
no_raw_tells _ g b path r s solid ra sa e = absurd g

text_opens : (path : List ℕ) (i : ℕ) (t : List ℕ) (ts : List (List ℕ)) (more : List ℕ) → Starts path (text_lines path i (t ∷ ts) ++ more)
text_opens path i t ts more = starts_more path _ more (starts_more path (line (item_path path i) (quoted t)) _ (item_up path i _ (line_starts (item_path path i) (quoted t))))

texts_told : (path : List ℕ) (i : ℕ) (ts us : List (List ℕ)) (r s : List ℕ) → Apart path r → Apart path s → text_lines path i ts ++ r ≡ text_lines path i us ++ s → (ts ≡ us) × (r ≡ s)
texts_told path i [] [] r s ra sa e = (refl, e)
texts_told path i [] (u ∷ us) r s ra sa e = absurd (ra (starts_at path _ _ (sym e) (text_opens path i u us s)))
texts_told path i (t ∷ ts) [] r s ra sa e = absurd (sa (starts_at path _ _ e (text_opens path i t ts r)))
texts_told path i (t ∷ ts) (u ∷ us) r s ra sa e =
    let apart = sym (append_assoc (line (item_path path i) (quoted t)) (text_lines path (i + 1) ts) r) ∙ e ∙ append_assoc (line (item_path path i) (quoted u)) (text_lines path (i + 1) us) s in
    let this = line_tells (item_path path i) (quoted t) (quoted u) (text_lines path (i + 1) ts ++ r) (text_lines path (i + 1) us ++ s) (quoted_free t) (quoted_free u) apart in
    let later = texts_told path (i + 1) ts us r s ra sa this.1 in
    (λ k. quoted_same t u this.0 k ∷ later.0 k, later.1)

pub texts_tell : (ts : List (List ℕ)) → Tells Texts (Contents ts)
texts_tell ts (Contents us) g b path r s solid ra sa e = let told = texts_told path 0 ts us r s ra sa e in (ap Contents told.0, told.1)
texts_tell ts _ g b path r s solid ra sa e = absurd g

-- ---- what is left out

zero_is : (z : ℤ) → mag z < 2 ^ 63 → cast_unsigned w64 z ≡ 0 → z ≡ pos 0
zero_is (pos n) h e = ap pos (omega (arith, e))
zero_is (negsuc n) h e = absurd (omega (arith, h, e))

abbrev default_of : Kind → Value
default_of Unsigned = Number 0
default_of Fixed = Number 0
default_of Double = Number 0
default_of Signed = Integer (pos 0)
default_of Enum = Integer (pos 0)
default_of Truth = Flag false
default_of _ = Content []

default_is : (kind : Kind) (v : Value) → FitsColumn kind v → is_default kind v ≡ true → v ≡ default_of kind
default_is Unsigned (Number x) f e = ap Number (eqb-true x 0 e)
default_is Fixed (Number x) f e = ap Number (eqb-true x 0 e)
default_is Double (Number x) f e = ap Number (eqb-true x 0 e)
default_is Signed (Integer z) f e = ap Integer (zero_is z (signed_mag z f) (eqb-true (cast_unsigned w64 z) 0 e))
default_is Enum (Integer z) f e = ap Integer (zero_is z (enum_mag z f) (eqb-true (cast_unsigned w64 z) 0 e))
default_is Truth (Flag true) f e = absurd cc
default_is Truth (Flag false) f e = refl
default_is Text (Content []) f e = refl
default_is Text (Content (b ∷ bytes)) f e = absurd cc
default_is Blob (Content []) f e = refl
default_is Blob (Content (b ∷ bytes)) f e = absurd cc
default_is Texts (Contents texts) f e = absurd cc
default_is Raw Absent f e = absurd cc
default_is Raw (Content bytes) f e = absurd cc
default_is (One t) Absent f e = absurd cc
default_is (One t) (Present vs) f e = absurd cc
default_is (Held t) (Present vs) f e = absurd cc
default_is (Many t) (Several vs) f e = absurd cc
default_is (Keyed t) (Several vs) f e = absurd cc
default_is _ _ f e = absurd f

abbrev has_default : Kind → Bool
has_default Texts = false
has_default Raw = false
has_default (One t) = false
has_default (Held t) = false
has_default (Many t) = false
has_default (Keyed t) = false
has_default _ = true

default_has : (kind : Kind) (v : Value) → FitsColumn kind v → is_default kind v ≡ true → has_default kind ≡ true
default_has Texts (Contents texts) f e = absurd cc
default_has Raw Absent f e = absurd cc
default_has Raw (Content bytes) f e = absurd cc
default_has (One t) Absent f e = absurd cc
default_has (One t) (Present vs) f e = absurd cc
default_has (Held t) (Present vs) f e = absurd cc
default_has (Many t) (Several vs) f e = absurd cc
default_has (Keyed t) (Several vs) f e = absurd cc
default_has Unsigned v f e = refl
default_has Fixed v f e = refl
default_has Double v f e = refl
default_has Signed v f e = refl
default_has Enum v f e = refl
default_has Truth v f e = refl
default_has Text v f e = refl
default_has Blob v f e = refl
default_has _ _ f e = absurd f

has_there : (kind : Kind) (v : Value) → has_default kind ≡ true → FitsColumn kind v → (is_lined kind ≡ true) × IsThere v
has_there Unsigned (Number x) h f = (refl, tt)
has_there Fixed (Number x) h f = (refl, tt)
has_there Double (Number x) h f = (refl, tt)
has_there Signed (Integer z) h f = (refl, tt)
has_there Enum (Integer z) h f = (refl, tt)
has_there Truth (Flag b) h f = (refl, tt)
has_there Text (Content bytes) h f = (refl, tt)
has_there Blob (Content bytes) h f = (refl, tt)
has_there Texts v h f = absurd cc
has_there Raw v h f = absurd cc
has_there (One t) v h f = absurd cc
has_there (Held t) v h f = absurd cc
has_there (Many t) v h f = absurd cc
has_there (Keyed t) v h f = absurd cc
has_there _ _ h f = absurd f

default_starts : (kind : Kind) (v w : Value) → FitsColumn kind v → FitsColumn kind w → is_default kind v ≡ true → (path : List ℕ) → Solid path → Starts path (whole_lines path kind w)
default_starts kind v w f g e path solid =
    let there = has_there kind w (default_has kind v f e) g in
    there_starts kind w there.0 there.1 g path solid

-- a column of a message, which has no lines at its default
pub column_told : (kind : Kind) (v w : Value) → FitsColumn kind v → FitsColumn kind w → HoldsBytes w → Tells kind v → (path r s : List ℕ) → Solid path → Apart path r → Apart path s
    → cond (is_default kind v) [] (whole_lines path kind v) ++ r ≡ cond (is_default kind w) [] (whole_lines path kind w) ++ s → (v ≡ w) × (r ≡ s)
column_told kind v w f g b tells path r s solid ra sa e = at (is_default kind v) (is_default kind w) refl refl e
  where
    at : (x y : Bool) → is_default kind v ≡ x → is_default kind w ≡ y → cond x [] (whole_lines path kind v) ++ r ≡ cond y [] (whole_lines path kind w) ++ s → (v ≡ w) × (r ≡ s)
    at true true p q same = (default_is kind v f p ∙ sym (default_is kind w g q), same)
    at true false p q same = absurd (ra (starts_at path _ _ (sym same) (starts_more path _ s (default_starts kind v w f g p path solid))))
    at false true p q same = absurd (sa (starts_at path _ _ same (starts_more path _ r (default_starts kind w v g f q path solid))))
    at false false p q same = tells w g b path r s solid ra sa same
