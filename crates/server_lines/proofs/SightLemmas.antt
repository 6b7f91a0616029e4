-- Marks, and connections that are known.
use Rattle.std.proofs.Common.{◌≡◌, ◌∙◌, ℕ, List, Bool, arith}
use Rattle.std.specs.Prelude.{◌==◌, is_some}
use Rattle.std.specs.BTreeMap.{is_at}
use Rattle.std.specs.List.{list_any}
use Rattle.std.specs.Map.{lookup}
use Rattle.std.specs.Ordering.{nat_cmp}
use Rattle.std.proofs.lemmas.Bool.Decides.{nat_tests}
use Rattle.std.proofs.lemmas.Map.Made.{is_some-lookup}
use Rattle.server_lines.specs.Sights.{is_known, numbers_in}

-- a number is found at the key that it is
is_number : (conn c : ℕ) → is_at (nat_cmp conn) c ≡ (c == conn)
is_number conn c = grind (arith, nat_tests)

-- a connection is found by its number where it is known
pub found_where_known : {V : Type 0} (entries : List (ℕ × V)) (conn : ℕ) → is_some (lookup (is_at (nat_cmp conn)) entries) ≡ is_known (numbers_in entries) conn
found_where_known entries conn =
    let same : list_any (is_at (nat_cmp conn)) (numbers_in entries) ≡ is_known (numbers_in entries) conn = λ i. list_any (λ c. is_number conn c i) (numbers_in entries) in
    is_some-lookup (is_at (nat_cmp conn)) entries ∙ same
