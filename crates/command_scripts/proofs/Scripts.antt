-- Each list of bytes has one reading as a script, and what is taken of an input has its reading.
use Rattle.std.proofs.Common.{◌≡◌, ℕ, ◌<◌, ◌⊎◌, inl, inr, List, [], ◌++◌, length, Option, None, Some, refl, sym, ap, subst, ◌∙◌, arith, length-append, append-nil, take, drop, take-append-drop}
use Rattle.std.proofs.lemmas.Bool.{cases_lt}
use Rattle.std.specs.Prelude.{IfSome, Err}
use Rattle.std.specs.Io.KnownBytes.{Appends}
use Rattle.std.proofs.KnownBytes.{Keeps-refl, Appends-nil}
use Rattle.world_scripts.specs.declared.scripts.TheConstants.{SCRIPT_LIMIT}
use Rattle.world_scripts.specs.Cuts.{lines_in}
use Rattle.world_scripts.specs.Scripts.{Says, first_bad_line}
use Rattle.world_scripts.specs.declared.lines.Line.{Line}
use Rattle.world_lab.specs.Labs.{LabState, AppendsFrontOf, unplayed}
use Rattle.command_scripts.specs.declared.simulate.ScriptFault.TheVariants.{BadLine, TooLarge}
use Rattle.command_scripts.specs.declared.simulate.PlayFail.{PlayFail}
use Rattle.command_scripts.specs.declared.simulate.PlayFail.TheVariants.{Refused, ReadFault, WriteFault, NoMemory}
use Rattle.command_scripts.specs.Simulating.{ScriptReading, Plays, Fails, ReadsScript, script_output, Simulates, status_of_run}
use Rattle.command_scripts.specs.TakingScripts.{TakesScript, IsTakeFail}

-- The laws of the reader's crate: bytes are a script or have a bad line, and never both.
pub record ReadsOrBad : Type 0 where
  pub either : (bytes : List ℕ) → ((lines : List Line) × Says bytes lines) ⊎ ((at : ℕ) × (first_bad_line (lines_in bytes) ≡ Some at))
  pub one : (bytes : List ℕ) (lines others : List Line) → Says bytes lines → Says bytes others → lines ≡ others
  pub apart : (bytes : List ℕ) (lines : List Line) (at : ℕ) → Says bytes lines → first_bad_line (lines_in bytes) ≡ Some at → ⊥

pub one_reading : ReadsOrBad → (bytes : List ℕ) (a b : ScriptReading) → ReadsScript bytes a → ReadsScript bytes b → a ≡ b
one_reading law bytes (Plays a) (Plays b) p q = ap Plays (law.one bytes a b p.1 q.1)
one_reading law bytes (Plays a) (Fails at BadLine) p q = absurd (law.apart bytes a at p.1 q.1)
one_reading law bytes (Plays a) (Fails at TooLarge) p q = absurd (omega (arith, p.0, q.0))
one_reading law bytes (Fails at BadLine) (Plays b) p q = absurd (law.apart bytes b at q.1 p.1)
one_reading law bytes (Fails i BadLine) (Fails j BadLine) p q = let e : Some i ≡ Some j = sym p.1 ∙ q.1 in cc
one_reading law bytes (Fails i BadLine) (Fails j TooLarge) p q = absurd (omega (arith, p.0, q.0))
one_reading law bytes (Fails i TooLarge) (Plays b) p q = absurd (omega (arith, p.0, q.0))
one_reading law bytes (Fails i TooLarge) (Fails j BadLine) p q = absurd (omega (arith, p.0, q.0))
one_reading law bytes (Fails i TooLarge) (Fails j TooLarge) p q = ap (λ (at : ℕ). Fails at TooLarge) (p.1 ∙ sym q.1)

pub some_reading : ReadsOrBad → (bytes : List ℕ) → (reading : ScriptReading) × ReadsScript bytes reading
some_reading law bytes = elim (cases_lt SCRIPT_LIMIT (length bytes)) [
  | inl large ↦ (Fails SCRIPT_LIMIT TooLarge, (large, refl))
  | inr small ↦ elim (law.either bytes) [
    | inl all ↦ (Plays all.0, (small, all.1))
    | inr bad ↦ (Fails bad.0 BadLine, (small, bad.1))
  ]
]

large_reading : (bytes : List ℕ) → SCRIPT_LIMIT < length bytes → ReadsScript bytes (Fails SCRIPT_LIMIT TooLarge)
large_reading bytes large = (large, refl)

-- what was taken of an input has the reading of the input
-- each list of bytes has a reading
abbrev pub SomeReading : Type 0
SomeReading = (bytes : List ℕ) → (reading : ScriptReading) × ReadsScript bytes reading

pub taken_reading : SomeReading → (input left : Option (List ℕ)) (bytes : List ℕ) → TakesScript input left bytes → (reading : ScriptReading) × IfSome input (λ whole. ReadsScript whole reading) × ReadsScript bytes reading
taken_reading some_of None left bytes takes = let some = some_of bytes in (some.0, tt, some.1)
taken_reading some_of (Some whole) None bytes takes = absurd takes.0
taken_reading some_of (Some whole) (Some rest) bytes takes = elim takes.1 [
  | inl end ↦
      let same : whole ≡ bytes = takes.0 ∙ ap (λ l. bytes ++ l) end ∙ append-nil bytes in
      let some = some_of bytes in
      (some.0, subst (λ (l : List ℕ). ReadsScript l some.0) (sym same) some.1, some.1)
  | inr large ↦
      let more : SCRIPT_LIMIT < length whole = rw takes.0 (simp length-append (omega arith)) in
      (Fails SCRIPT_LIMIT TooLarge, large_reading whole more, large_reading bytes large)
]

any_reading : SomeReading → (input : Option (List ℕ)) → (reading : ScriptReading) × IfSome input (λ whole. ReadsScript whole reading)
any_reading some_of None = (Fails 0 BadLine, tt)
any_reading some_of (Some whole) = some_of whole

-- nothing is a front of all bytes
pub no_front : (old : Option (List ℕ)) (whole : List ℕ) → AppendsFrontOf old old whole
no_front old whole = record { front = []; rest = whole; parts = refl; taken = Appends-nil old }

pub taken_front : (old new : Option (List ℕ)) (n : ℕ) (whole : List ℕ) → Appends old new (take n whole) → AppendsFrontOf old new whole
taken_front old new n whole taken = record { front = take n whole; rest = drop n whole; parts = take-append-drop n whole; taken = taken }

-- where the script wasn't taken nothing was written
pub untaken : SomeReading → (risen : Type 0) (fail : PlayFail) (input old : Option (List ℕ)) (lab : LabState) → lab ≡ unplayed → IsTakeFail risen fail → Simulates input old old lab (status_of_run (Err fail))
untaken some_of risen Refused input old lab still failed = absurd failed
untaken some_of risen ReadFault input old lab still failed = let any = any_reading some_of input in (any.0, any.1, inr (inl (refl, Keeps-refl old, still)))
untaken some_of risen WriteFault input old lab still failed = absurd failed
untaken some_of risen NoMemory input old lab still failed = let any = any_reading some_of input in (any.0, any.1, inr (inr (inr refl, no_front old (script_output any.0))))
