-- The body of a request under way.
use Rattle.std.specs.Prelude.{◌≡◌, ℕ, List, Option, MatchOption, ⊤}
use Rattle.message_reports.specs.declared.report_reader.ReportReader.{ReportReader}
use Rattle.message_reports.specs.ReportPieces.{IsInUse, WasFed}

-- the first bytes, as long as no more came, and what reads on once more came
pub record Body : Type 0 where
  pub front : List ℕ
  pub reader : Option ReportReader

abbrev pub body_of : List ℕ → Option ReportReader → Body
body_of front reader = record { front = front; reader = reader }

-- What reads on can be fed.
abbrev pub IsReadOn : Option ReportReader → Type 0
IsReadOn reader = MatchOption reader ⊤ IsInUse

-- These bytes of the body came so far.
unfoldable pub HasCome : Body → List ℕ → Type 0
HasCome body bytes = MatchOption body.reader (bytes ≡ body.front) (λ reader. WasFed reader bytes)
