-- The columns of a short report, their canonical bytes, and what these mean.
use Rattle.std.proofs.Common.{◌≡◌, ℕ, ◌+◌, ◌*◌, ◌<◌, ◌≤◌, ◌^◌, List, [], ◌∷◌, ◌++◌, length, refl, ap, sym, ◌∙◌, subst, arith, append_assoc, length-append}
use Rattle.std.specs.Prelude.{Bool, true, false, cond, nat_eq, Option, None, Some, option_map}
use Rattle.std.proofs.lemmas.Str.{IsUtf8-nil}
use Rattle.message_codec.specs.Fields.{Varint}
use Rattle.message_codec.specs.Varint.{groups_of, varint}
use Rattle.message_codec.proofs.Shortest.{length-varint}
use Rattle.message_codec.specs.Tables as tables
use Rattle.message_codec.specs.Tables.{Blob, Unsigned, One}
use Rattle.message_codec.specs.Values.{Value, Number, Content, Absent, Present, Values, End, And}
use Rattle.message_codec.specs.Means.{Means}
use Rattle.message_codec.specs.Read.{one_of}
use Rattle.message_codec.proofs.ColumnLaws.{append-nothing}
use Rattle.message_codec.specs.Canonical.{spelled, column_bytes, canonical}
use Rattle.message_codec.specs.Levels.{levels}
use Rattle.message_codec.specs.Fits.{FitsMessage}
use Rattle.message_codec.proofs.CanonicalMeans.{wrote_means}
use Rattle.message_reports.specs.HealthColumns.{health_row, health_columns}
use Rattle.message_reports.specs.ReportColumns.{agent_to_server_columns}
use Rattle.message_reports.specs.Reports.{canonical_report}
use Rattle.message_reports.proofs.HealthLaws.{health_roll}
use Rattle.message_short.specs.declared.reading.ShortReport.{ShortReport}
use Rattle.message_short.specs.Numbers.{number_field}
use Rattle.message_short.specs.Short.{health_of, report_of, health_field, short_bytes}

-- ---- columns

abbrev pub health_column : Option Bool → Value
health_column None = Absent
health_column (Some healthy) = Present (health_row healthy 0 [] [] 0 End)

abbrev pub columns_with : List ℕ → ℕ → ℕ → Value → Values
columns_with uid number capabilities health =
    And (Content uid) (And (Number number) (And Absent (And (Number capabilities) (And health (And Absent (And Absent (And Absent (And Absent (And (Number 0) (And Absent (And Absent (And Absent End))))))))))))

abbrev pub short_columns : ShortReport → Values
short_columns short = columns_with short.instance_uid short.sequence_num short.capabilities (health_column short.healthy)

health_is : (healthy : Option Bool) → one_of health_columns (option_map health_of healthy) ≡ health_column healthy
health_is None = refl
health_is (Some healthy) = ap Present (health_roll (record { healthy = healthy; start_time_unix_nano = 0; last_error = []; status = []; status_time_unix_nano = 0; component_health_map = [] }))

pub columns_are : (short : ShortReport) → agent_to_server_columns (report_of short) ≡ short_columns short
columns_are short = ap (columns_with short.instance_uid short.sequence_num short.capabilities) (health_is short.healthy)

-- ---- canonical bytes

uid_bytes : (uid : List ℕ) → length uid ≡ 16 → column_bytes 1 Blob (Content uid) ≡ 10 ∷ 16 ∷ uid
unfolding groups_of varint
uid_bytes [] long = absurd (omega (arith, long))
uid_bytes (b ∷ bs) long = ap (λ (n : ℕ). 10 ∷ ((varint n ++ (b ∷ bs)) ++ [])) long ∙ ap (λ (xs : List ℕ). 10 ∷ 16 ∷ b ∷ xs) (append-nothing bs)

number_bytes : (number tag n : ℕ) → varint (number * 8 + 0) ≡ tag ∷ [] → column_bytes number Unsigned (Number n) ≡ number_field tag n
number_bytes number tag n is = either (nat_eq n 0)
  where
    either : (zero : Bool) → spelled number (cond zero [] (Varint n ∷ [])) ≡ cond zero [] (tag ∷ varint n)
    either true = refl
    either false = ap (λ (xs : List ℕ). (xs ++ varint n) ++ []) is ∙ ap (λ (xs : List ℕ). tag ∷ xs) (append-nothing (varint n))

sequence_num_tag : varint (2 * 8 + 0) ≡ 16 ∷ []
unfolding groups_of varint
sequence_num_tag = refl

capabilities_tag : varint (4 * 8 + 0) ≡ 32 ∷ []
unfolding groups_of varint
capabilities_tag = refl

health_bytes : (healthy : Option Bool) → column_bytes 5 (One tables.ComponentHealth) (health_column healthy) ≡ health_field healthy
unfolding groups_of varint
health_bytes None = refl
health_bytes (Some true) = refl
health_bytes (Some false) = refl

regrouped : (a b c d : List ℕ) → (((((((((((a ++ b) ++ []) ++ c) ++ d) ++ []) ++ []) ++ []) ++ []) ++ []) ++ []) ++ []) ++ [] ≡ a ++ (b ++ (c ++ d))
regrouped a b c d = simp (append_assoc, append-nothing)

pub canonical_is : (short : ShortReport) → length short.instance_uid ≡ 16 → canonical tables.AgentToServer (short_columns short) ≡ short_bytes short
canonical_is short long =
    let uid = uid_bytes short.instance_uid long in
    let number = number_bytes 2 16 short.sequence_num sequence_num_tag in
    let capabilities = number_bytes 4 32 short.capabilities capabilities_tag in
    let health = health_bytes short.healthy in
    regrouped (column_bytes 1 Blob (Content short.instance_uid)) (column_bytes 2 Unsigned (Number short.sequence_num)) (column_bytes 4 Unsigned (Number short.capabilities)) (column_bytes 5 (One tables.ComponentHealth) (health_column short.healthy))
    ∙ (λ i. uid i ++ (number i ++ (capabilities i ++ health i)))

pub report_is : (short : ShortReport) → length short.instance_uid ≡ 16 → short_bytes short ≡ canonical_report (report_of short)
unfolding canonical_report
report_is short long = sym (ap (canonical tables.AgentToServer) (columns_are short) ∙ canonical_is short long)

-- ---- their length, and levels

number_short : (tag n : ℕ) → length (number_field tag n) ≤ 11
number_short tag n = either (nat_eq n 0)
  where
    either : (zero : Bool) → length (cond zero [] (tag ∷ varint n)) ≤ 11
    either true = omega arith
    either false = omega (arith, length-varint n)

health_short : (healthy : Option Bool) → length (health_field healthy) ≤ 4
health_short None = omega arith
health_short (Some true) = omega arith
health_short (Some false) = omega arith

all_short : (uid number capabilities health : List ℕ) → length uid ≡ 16 → length number ≤ 11 → length capabilities ≤ 11 → length health ≤ 4 → length (10 ∷ 16 ∷ (uid ++ (number ++ (capabilities ++ health)))) ≤ 64
all_short uid number capabilities health long a b c =
    omega (arith, long, a, b, c, length-append uid (number ++ (capabilities ++ health)), length-append number (capabilities ++ health), length-append capabilities health)

pub is_short : (short : ShortReport) → length short.instance_uid ≡ 16 → length (short_bytes short) ≤ 64
is_short short long =
    all_short short.instance_uid (number_field 16 short.sequence_num) (number_field 32 short.capabilities) (health_field short.healthy) long (number_short 16 short.sequence_num) (number_short 32 short.capabilities) (health_short short.healthy)

two_levels : (uid : List ℕ) (number capabilities : ℕ) (healthy : Option Bool) → levels (columns_with uid number capabilities (health_column healthy)) ≤ 2
two_levels uid number capabilities None = omega arith
two_levels uid number capabilities (Some healthy) = omega arith

pub is_shallow : (short : ShortReport) → levels (agent_to_server_columns (report_of short)) ≤ 2
is_shallow short = subst (λ (vs : Values). levels vs ≤ 2) (sym (columns_are short)) (two_levels short.instance_uid short.sequence_num short.capabilities short.healthy)

-- ---- what they mean

columns_fit : (uid : List ℕ) (number capabilities : ℕ) (healthy : Option Bool) → number < 2 ^ 64 → capabilities < 2 ^ 64 → FitsMessage tables.AgentToServer (columns_with uid number capabilities (health_column healthy))
columns_fit uid number capabilities None n c =
    (tt, (n, (tt, (c, (tt, (tt, (tt, (tt, (tt, (omega arith, (tt, (tt, (tt, tt)))))))))))))
columns_fit uid number capabilities (Some healthy) n c =
    (tt, (n, (tt, (c, ((tt, (omega arith, (IsUtf8-nil, (IsUtf8-nil, (omega arith, ((tt, tt), tt)))))), (tt, (tt, (tt, (tt, (omega arith, (tt, (tt, (tt, tt)))))))))))))

pub report_meant : (short : ShortReport) (bytes : List ℕ) → length short.instance_uid ≡ 16 → short.sequence_num < 2 ^ 64 → short.capabilities < 2 ^ 64 → bytes ≡ short_bytes short → Means 100 tables.AgentToServer bytes (agent_to_server_columns (report_of short))
report_meant short bytes long number capabilities is =
    let fits = columns_fit short.instance_uid short.sequence_num short.capabilities short.healthy number capabilities in
    let few : length bytes ≤ 64 = rw is (is_short short long) in
    let wrote = wrote_means tables.AgentToServer (short_columns short) bytes fits (record { bytes_are = is ∙ sym (canonical_is short long); fits = omega (arith, few); shallow = omega (arith, two_levels short.instance_uid short.sequence_num short.capabilities short.healthy) }) in
    subst (λ (vs : Values). Means 100 tables.AgentToServer bytes vs) (sym (columns_are short)) wrote
