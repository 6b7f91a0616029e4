-- Bringing the rows of agents that haven't left to the front.
use Rattle.std.proofs.Common.{◌≡◌, ℕ, suc, ◌+◌, ◌<◌, ◌≤◌, List, [], ◌∷◌, ◌++◌, length, get_or, take, drop, filter, Bool, true, false, cond, not, None, refl, sym, ◌∙◌, ap, subst, arith, append_assoc, append-nil}
use Rattle.std.specs.Prelude.{nat_le, slice_set}
use Rattle.std.specs.List.{swap}
use Rattle.std.proofs.lemmas.Bool.Decides.{nat_tests}
use Rattle.std.proofs.lemmas.List.{drop_all, drop_more, drop-set-lt, take-set, take-set-le, take_more_set, length-set}
use Rattle.std.proofs.lemmas.List.Edits.{length-swap, swap_is}
use Rattle.server_core.specs.declared.rows.Record.{Record}
use Rattle.server_core.specs.declared.rows.Row.{Row}
use Rattle.server_core.specs.Beside.{rows_here}

-- ---- a swap to the front

module _ {X : Type 0} (xs : List X) (here at : ℕ) (d : X) (le : here ≤ at) (lt : at < length xs) where
  swapped : swap xs here at ≡ slice_set (slice_set xs here (get_or xs at d)) at (get_or xs here d)
  swapped = sym (swap_is xs here at d (omega (arith, le, lt)) lt)

  pub take-swap : take (here + 1) (swap xs here at) ≡ take here xs ++ get_or xs at d ∷ []
  take-swap = ap (take (here + 1)) swapped ∙ by_test (nat_le at here) refl
    where
      after : List X
      after = slice_set xs here (get_or xs at d)

      within : here < length after
      within = let long = length-set xs here (get_or xs at d) in omega (arith, le, lt, long)

      by_test : (b : Bool) → nat_le at here ≡ b → take (here + 1) (slice_set after at (get_or xs here d)) ≡ take here xs ++ get_or xs at d ∷ []
      by_test true e =
          let same : at ≡ here = grind (arith, nat_tests) in
          ap (λ k. take (here + 1) (slice_set after k (get_or xs here d))) same
          ∙ take_more_set after here (get_or xs here d) within
          ∙ (λ i. take-set xs here (get_or xs at d) i ++ get_or xs (sym same i) d ∷ [])
      by_test false e =
          let less : here + 1 ≤ at = grind (arith, nat_tests) in
          take-set-le (here + 1) after at (get_or xs here d) less
          ∙ take_more_set xs here (get_or xs at d) (omega (arith, le, lt))

  pub drop-swap : drop (at + 1) (swap xs here at) ≡ drop (at + 1) xs
  drop-swap =
      ap (drop (at + 1)) swapped
      ∙ drop-set-lt (at + 1) (slice_set xs here (get_or xs at d)) at (get_or xs here d) (omega arith)
      ∙ drop-set-lt (at + 1) xs here (get_or xs at d) (omega (arith, le))

-- ---- the loop

abbrev pub here_of : List Record → List Record
here_of records = filter (λ r. not r.left) records

abbrev pub left_of : List Record → List Record
left_of records = filter (λ r. r.left) records

-- of the first rows those that are here stand at the front, and the later ones are as they were
pub record Gathered (records0 : List Record) (rows0 : List Row) (here at : ℕ) (records : List Record) (rows : List Row) : Type 0 where
  pub within : here ≤ at
  pub long : length records ≡ length records0
  pub even : length rows ≡ length records0
  pub gathered : here_of records0 ≡ take here records ++ here_of (drop at records)
  pub beside : rows_here records0 rows0 ≡ take here rows ++ rows_here (drop at records) (drop at rows)
  pub count : here + length (left_of records0) ≡ at + length (left_of (drop at records))

pub gathered_first : (records : List Record) (rows : List Row) → length rows ≡ length records → Gathered records rows 0 0 records rows
gathered_first records rows even = record { within = omega arith; long = refl; even = even; gathered = refl; beside = refl; count = refl }

abbrev no_row : Row
no_row = record { restart = false; rest = None }

module _ (records0 : List Record) (rows0 : List Row) (here at : ℕ) (records : List Record) (rows : List Row) (g : Gathered records0 rows0 here at records rows) (r : Record) (r_is : r ≡ get_or records at r) (lt : at < length records) where
  lt_rows : at < length rows
  lt_rows = let long = g.long in let even = g.even in omega (arith, lt, long, even)

  next : drop at records ≡ r ∷ drop (at + 1) records
  next = drop_more records at r lt ∙ ap (λ x. x ∷ drop (at + 1) records) (sym r_is)

  next_row : drop at rows ≡ get_or rows at no_row ∷ drop (at + 1) rows
  next_row = drop_more rows at no_row lt_rows

  pub gathered_stays : r.left ≡ true → Gathered records0 rows0 here (at + 1) records rows
  gathered_stays gone = record {
    within = let le = g.within in omega (arith, le);
    long = g.long;
    even = g.even;
    gathered =
        g.gathered
        ∙ ap (λ rs. take here records ++ here_of rs) next
        ∙ ap (λ b. take here records ++ cond (not b) (r ∷ here_of (drop (at + 1) records)) (here_of (drop (at + 1) records))) gone;
    beside =
        g.beside
        ∙ (λ i. take here rows ++ rows_here (next i) (next_row i))
        ∙ ap (λ b. take here rows ++ cond b (rows_here (drop (at + 1) records) (drop (at + 1) rows)) (get_or rows at no_row ∷ rows_here (drop (at + 1) records) (drop (at + 1) rows))) gone;
    count =
        let more : length (left_of (drop at records)) ≡ suc (length (left_of (drop (at + 1) records))) =
        ap (λ rs. length (left_of rs)) next
        ∙ ap (λ b. length (cond b (r ∷ left_of (drop (at + 1) records)) (left_of (drop (at + 1) records)))) gone in
        let before = g.count in omega (arith, more, before);
  }

  pub gathered_moves : r.left ≡ false → Gathered records0 rows0 (here + 1) (at + 1) (swap records here at) (swap rows here at)
  gathered_moves stays = record {
    within = let le = g.within in omega (arith, le);
    long = length-swap records here at ∙ g.long;
    even = length-swap rows here at ∙ g.even;
    gathered =
        g.gathered
        ∙ ap (λ rs. take here records ++ here_of rs) next
        ∙ ap (λ b. take here records ++ cond (not b) (r ∷ here_of (drop (at + 1) records)) (here_of (drop (at + 1) records))) stays
        ∙ sym (append_assoc (take here records) (r ∷ []) (here_of (drop (at + 1) records)))
        ∙ (λ i. (sym (take-swap records here at r g.within lt ∙ ap (λ x. take here records ++ x ∷ []) (sym r_is)) i) ++ here_of (sym (drop-swap records here at r g.within lt) i));
    beside =
        g.beside
        ∙ (λ i. take here rows ++ rows_here (next i) (next_row i))
        ∙ ap (λ b. take here rows ++ cond b (rows_here (drop (at + 1) records) (drop (at + 1) rows)) (get_or rows at no_row ∷ rows_here (drop (at + 1) records) (drop (at + 1) rows))) stays
        ∙ sym (append_assoc (take here rows) (get_or rows at no_row ∷ []) (rows_here (drop (at + 1) records) (drop (at + 1) rows)))
        ∙ (λ i. sym (take-swap rows here at no_row g.within lt_rows) i ++ rows_here (sym (drop-swap records here at r g.within lt) i) (sym (drop-swap rows here at no_row g.within lt_rows) i));
    count =
        let same : length (left_of (drop at records)) ≡ length (left_of (drop (at + 1) records)) =
        ap (λ rs. length (left_of rs)) next
        ∙ ap (λ b. length (cond b (r ∷ left_of (drop (at + 1) records)) (left_of (drop (at + 1) records)))) stays in
        let before = g.count in
        let later : length (left_of (drop (at + 1) (swap records here at))) ≡ length (left_of (drop (at + 1) records)) = ap (λ rs. length (left_of rs)) (drop-swap records here at r g.within lt) in
        omega (arith, same, before, later);
  }

  -- what the loop has behind it then
  pub gathered_moved : r.left ≡ false → (here' : ℕ) (records' : List Record) (rows' : List Row) → here' ≡ here + 1 → records' ≡ swap records here at → rows' ≡ swap rows here at
      → Gathered records0 rows0 here' (at + 1) records' rows'
  gathered_moved stays here' records' rows' here_is records_is rows_is =
      subst (λ k. Gathered records0 rows0 k (at + 1) records' rows') (sym here_is)
      (subst (λ rs. Gathered records0 rows0 (here + 1) (at + 1) rs rows') (sym records_is)
      (subst (λ ws. Gathered records0 rows0 (here + 1) (at + 1) (swap records here at) ws) (sym rows_is) (gathered_moves stays)))

  pub gathered_stayed : r.left ≡ true → (here' : ℕ) (records' : List Record) (rows' : List Row) → here' ≡ here → records' ≡ records → rows' ≡ rows → Gathered records0 rows0 here' (at + 1) records' rows'
  gathered_stayed gone here' records' rows' here_is records_is rows_is =
      subst (λ k. Gathered records0 rows0 k (at + 1) records' rows') (sym here_is)
      (subst (λ rs. Gathered records0 rows0 here (at + 1) rs rows') (sym records_is)
      (subst (λ ws. Gathered records0 rows0 here (at + 1) records ws) (sym rows_is) (gathered_stays gone)))

-- at the end
module _ (records0 : List Record) (rows0 : List Row) (here at : ℕ) (records : List Record) (rows : List Row) (g : Gathered records0 rows0 here at records rows) (end : length records ≤ at) where
  none_left : drop at records ≡ []
  none_left = drop_all at records end

  pub gathered_records : take here records ≡ here_of records0
  gathered_records = sym (g.gathered ∙ ap (λ rs. take here records ++ here_of rs) none_left ∙ append-nil (take here records))

  pub gathered_rows : take here rows ≡ rows_here records0 rows0
  gathered_rows = sym (g.beside ∙ ap (λ rs. take here rows ++ rows_here rs (drop at rows)) none_left ∙ append-nil (take here rows))

  pub gathered_count : at ≤ length records → here + length (left_of records0) ≡ length records0
  gathered_count most =
      let none : length (left_of (drop at records)) ≡ 0 = ap (λ rs. length (left_of rs)) none_left in
      let count = g.count in let long = g.long in omega (arith, none, count, long, end, most)
