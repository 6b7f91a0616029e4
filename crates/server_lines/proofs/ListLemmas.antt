-- Lines, one after the other.
use Rattle.std.proofs.Common.{◌≡◌, ◌<◌, ◌+◌, sym, ap, ℕ, suc, List, ◌∷◌, ◌++◌, length, get_or, drop, append_assoc, add-one, drop-cons}
use Rattle.std.specs.List.{flat_map}
use Rattle.server_core.specs.declared.rows.Record.{Record}
use Rattle.server_lines.specs.Answers.{record_line}

-- the text so far, and behind it the lines of those from this place on
abbrev pub with_each : {T : Type 0} → (T → List ℕ) → List ℕ → ℕ → List T → List ℕ
with_each line text i rows = text ++ flat_map line (drop i rows)

pub each_more : {T : Type 0} (line : T → List ℕ) (text more : List ℕ) (i : ℕ) (r : T) (rows : List T) → i < length rows → r ≡ get_or rows i r
    → more ≡ text ++ line r → with_each line text i rows ≡ flat_map line rows → with_each line more (i + 1) rows ≡ flat_map line rows
each_more {T} line text more i r rows within is made before =
    let cut : drop i rows ≡ r ∷ drop (i + 1) rows = rw (add-one, drop-cons rows i r within) (ap (λ (x : T). x ∷ drop (suc i) rows) (sym is)) in
    rw (made, append_assoc) (rw (ap (λ (rs : List T). text ++ flat_map line rs) cut) at before)

-- ---- of agents

-- the text so far, and behind it the lines of the agents from this place on
abbrev pub with_lines : List ℕ → ℕ → List Record → List ℕ
with_lines text i records = with_each record_line text i records

pub line_more : (text more : List ℕ) (i : ℕ) (r : Record) (records : List Record) → i < length records → r ≡ get_or records i r
    → more ≡ text ++ record_line r → with_lines text i records ≡ flat_map record_line records → with_lines more (i + 1) records ≡ flat_map record_line records
line_more text more i r records within is made before = each_more record_line text more i r records within is made before
