-- What `storm` writes.
use Rattle.std.specs.Prelude.{◌≡◌, ◌⊎◌, ℕ, List, [], ◌∷◌, ◌++◌, codes}
use Rattle.std.specs.Fmt.{decimal}
use Rattle.world_lab.specs.declared.storming.Summary.{Summary}
use Rattle.world_lab.specs.Storming.{storm_script, summary_of}

-- `events C sent A deltas B takes T`
unfoldable pub reports_counted : Summary → List ℕ
reports_counted s = codes "events " ++ (decimal s.events ++ (codes " sent " ++ (decimal s.sent ++ (codes " deltas " ++ (decimal s.deltas ++ (codes " takes " ++ decimal s.takes))))))

-- ` asks Q plain P full F number N` and a line feed
unfoldable pub replies_counted : Summary → List ℕ
replies_counted s = codes " asks " ++ (decimal s.asks ++ (codes " plain " ++ (decimal s.plain ++ (codes " full " ++ (decimal s.full ++ (codes " number " ++ (decimal s.number ++ 10 ∷ [])))))))

-- the line `events C sent A deltas B takes T asks Q plain P full F number N`
abbrev pub summary_line : Summary → List ℕ
summary_line s = reports_counted s ++ replies_counted s

-- the line of the script of so many lines that is drawn from this number
abbrev pub storm_output : ℕ → ℕ → List ℕ
storm_output start count = summary_line (summary_of (storm_script start count))

-- done, write fault, and want of memory
abbrev pub IsStormStatus : ℕ → Type 0
IsStormStatus status = (status ≡ 0) ⊎ ((status ≡ 4) ⊎ (status ≡ 5))
