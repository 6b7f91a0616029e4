-- What bytes that are a short report mean, and what follows for a function that gives one.
use Rattle.std.proofs.Common.{◌≡◌, ℕ, ◌<◌, ◌≤◌, ◌^◌, List, length, sym, ◌∙◌, subst, arith}
use Rattle.std.specs.Prelude.{Option, None, Some, Result, Ok, Err, IfSome, IfOk, IfErr}
use Rattle.message_codec.specs.declared.wire.field.Why.{Why}
use Rattle.message_codec.specs.declared.reader.items.ReadFail.{ReadFail}
use Rattle.message_codec.specs.declared.reader.items.ReadFail.TheVariants.{NoMemory}
use Rattle.message_codec.specs.Read.{Refuses, FailsWith}
use Rattle.message_reports.specs.Reports.{MeansReport, canonical_report, report_levels}
use Rattle.message_short.specs.declared.reading.ShortReport.{ShortReport}
use Rattle.message_short.specs.Short.{report_of, short_bytes}
use Rattle.message_short.proofs.Columns.{report_is, is_short, is_shallow, report_meant}

-- the bytes are the fields of the short report
pub record IsShort (bytes : List ℕ) (short : ShortReport) : Type 0 where
  pub named : length short.instance_uid ≡ 16
  pub numbered : short.sequence_num < 2 ^ 28
  pub able : short.capabilities < 2 ^ 28
  pub spelled : bytes ≡ short_bytes short

pub is_told : (bytes : List ℕ) (r : Option ShortReport) → IfSome r (λ short. length short.instance_uid ≡ 16) → IfSome r (λ short. short.sequence_num < 2 ^ 28) → IfSome r (λ short. short.capabilities < 2 ^ 28)
    → IfSome r (λ short. bytes ≡ short_bytes short) → IfSome r (IsShort bytes)
is_told bytes None named numbered able spelled = tt
is_told bytes (Some short) named numbered able spelled = record { named = named; numbered = numbered; able = able; spelled = spelled }

pub own_bytes : (bytes : List ℕ) (short : ShortReport) → IsShort bytes short → bytes ≡ canonical_report (report_of short)
own_bytes bytes short h = h.spelled ∙ report_is short h.named

pub few_bytes : (bytes : List ℕ) (short : ShortReport) → IsShort bytes short → length bytes ≤ 64
few_bytes bytes short h = rw h.spelled (is_short short h.named)

pub few_levels : (bytes : List ℕ) (short : ShortReport) → IsShort bytes short → report_levels (report_of short) ≤ 2
few_levels bytes short h = is_shallow short

pub meant : (bytes : List ℕ) (short : ShortReport) → IsShort bytes short → MeansReport bytes (report_of short)
meant bytes short h = (omega (arith, few_bytes bytes short h), report_meant short bytes h.named (omega (arith, h.numbered)) (omega (arith, h.able)) h.spelled)

-- ---- of what a function gives

pub some_told : {A : Type 0} (P Q : A → Type 0) → ((x : A) → P x → Q x) → (r : Option A) → IfSome r P → IfSome r Q
some_told P Q follows None h = tt
some_told P Q follows (Some x) h = follows x h

pub ok_told : {A E : Type 0} (P : A → Type 0) (x : A) (r : Result A E) → IfOk r (λ y. y ≡ x) → P x → IfOk r P
ok_told P x (Ok y) is h = subst P (sym is) h
ok_told P x (Err e) is h = tt

pub never_refused : {A : Type 0} (P : ℕ → Why → Type 0) (r : Result A ReadFail) → IfErr r (λ fail. fail ≡ NoMemory) → FailsWith r P
never_refused P (Ok y) is = tt
never_refused P (Err e) is = subst (λ (fail : ReadFail). Refuses fail P) (sym is) tt
