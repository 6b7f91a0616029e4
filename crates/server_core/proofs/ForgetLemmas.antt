-- What a server keeps where agents are forgotten.
use Rattle.std.proofs.Common.{◌≡◌, ℕ, zero, suc, ◌<◌, List, [], ◌∷◌, length, map, fold, Bool, true, false, cond, not, refl, sym, ◌∙◌, ap, subst, arith}
use Rattle.std.specs.Prelude.{remove, unwrap_or}
use Rattle.std.specs.Str.{bytes_eq}
use Rattle.std.specs.Cmp.Lexicographic.{bytes_decides}
use Rattle.std.proofs.lemmas.List.Edits.{length-remove}
use Rattle.server_core.specs.declared.rows.Pending.{Pending}
use Rattle.server_core.specs.declared.rows.Record.{Record}
use Rattle.server_core.specs.declared.rows.Row.{Row}
use Rattle.server_core.specs.Beside.{pending_in, pendings_of, rows_here}
use Rattle.server_core.specs.History.{Forgotten}
use Rattle.server_core.specs.Offers.{FitOffers}
use Rattle.server_core.specs.Rows.{IsAscending, IsHeldAt, IsFreeAt, drop_row, find_row}
use Rattle.server_core.specs.Table.{Table, no_pending, pending_at, table_after, table_without, table_without_left}
use Rattle.server_core.proofs.RowLemmas.{IsBelowAll, bytes_eq_same}
use Rattle.server_core.proofs.DropLemmas.{ascending-filter, below-filter, drop-absent, drop-below, drop-cons, drops-below, find-drop_other, find-drop_own}
use Rattle.server_core.proofs.BesideLemmas.{uids}
use Rattle.server_core.proofs.AcceptLemmas.{AreKept, table_by}
use Rattle.server_core.proofs.GatherLemmas.{here_of, left_of}
use Rattle.server_core.proofs.Sound.{fit_none}

abbrev drop_pending : List Pending → List ℕ → List Pending
drop_pending pendings u = drop_row (λ p. p.uid) pendings u

abbrev drop_record : List Record → List ℕ → List Record
drop_record records u = drop_row (λ r. r.uid) records u

abbrev AllFit : List Pending → Type 0
AllFit pendings = (v : List ℕ) → FitOffers (pending_at pendings v).offers

fit_dropped : (pendings : List Pending) (u : List ℕ) → AllFit pendings → AllFit (drop_pending pendings u)
fit_dropped pendings u fit v = by_test (bytes_eq u v) refl
  where
    by_test : (b : Bool) → bytes_eq u v ≡ b → FitOffers (pending_at (drop_pending pendings u) v).offers
    by_test true e = subst (λ o. FitOffers (unwrap_or o (no_pending v)).offers) (sym (ap (find_row (λ p. p.uid) (drop_pending pendings u)) (sym ((bytes_decides u v).0 e)) ∙ find-drop_own (λ p. p.uid) pendings u)) fit_none
    by_test false e = subst (λ o. FitOffers (unwrap_or o (no_pending v)).offers) (sym (find-drop_other (λ p. p.uid) pendings u v e)) (fit v)

-- ---- one agent

remove_both : (records : List Record) (rows : List Row) (at : ℕ) → at < length records → length rows ≡ length records → remove (pendings_of records rows) at ≡ pendings_of (remove records at) (remove rows at)
remove_both [] rows at within even = absurd (omega arith)
remove_both (x ∷ records) [] at within even = absurd (omega arith)
remove_both (x ∷ records) (y ∷ rows) zero within even = refl
remove_both (x ∷ records) (y ∷ rows) (suc at) within even = ap (λ ps. pending_in x.uid y ∷ ps) (remove_both records rows at (omega arith) (omega arith))

module _ (records : List Record) (rows : List Row) (at : ℕ) (u : List ℕ) (held : IsHeldAt (λ r. r.uid) records u at) (beside : IsHeldAt (λ p. p.uid) (pendings_of records rows) u at) (kept : AreKept records rows) where
  forgot_beside : pendings_of (remove records at) (remove rows at) ≡ drop_pending (pendings_of records rows) u
  forgot_beside = sym (remove_both records rows at held.within kept.even) ∙ sym beside.dropped

  pub forgot_table : (limit : ℕ) → table_by limit (remove records at) (remove rows at) ≡ table_without (table_by limit records rows) u
  forgot_table limit = λ i. record { limit = limit; records = sym held.dropped i; pendings = forgot_beside i }

  pub forgot_kept : AreKept (remove records at) (remove rows at)
  forgot_kept = record {
    ascending = subst (λ rs. IsAscending (map (λ r. r.uid) rs)) held.dropped (ascending-filter (λ r. r.uid) (λ r. not (bytes_eq r.uid u)) records kept.ascending);
    even =
        let within = held.within in let even = kept.even in
        let shorter = length-remove records at within in
        let shorter_beside = length-remove rows at (omega (arith, within, even)) in
        omega (arith, even, shorter, shorter_beside);
    fit = subst AllFit (sym forgot_beside) (fit_dropped (pendings_of records rows) u kept.fit);
  }

-- an agent that isn't held
pub forgot_none : (table : Table) (u : List ℕ) (at : ℕ) → IsFreeAt (λ r. r.uid) table.records u at → IsFreeAt (λ p. p.uid) table.pendings u at → table ≡ table_without table u
forgot_none table u at free beside = λ i. record {
  limit = table.limit;
  records = sym (drop-absent (λ r. r.uid) table.records u free.absent) i;
  pendings = sym (drop-absent (λ p. p.uid) table.pendings u beside.absent) i;
}

-- ---- all that have left

through : (us : List (List ℕ)) (table : Table) → fold table_after table (map Forgotten us) ≡ record { limit = table.limit; records = fold drop_record table.records us; pendings = fold drop_pending table.pendings us }
through [] table = refl
through (u ∷ us) table = through us (table_without table u)

fit_through : (us : List (List ℕ)) (pendings : List Pending) → AllFit pendings → AllFit (fold drop_pending pendings us)
fit_through [] pendings fit = fit
fit_through (u ∷ us) pendings fit = fit_through us (drop_pending pendings u) (fit_dropped pendings u fit)

abbrev leavers : List Record → List (List ℕ)
leavers records = map (λ r. r.uid) (left_of records)

records_through : (records : List Record) → IsAscending (map (λ r. r.uid) records) → fold drop_record records (leavers records) ≡ here_of records
records_through [] up = refl
records_through (r ∷ records) up = by_test r.left (records_through records up.1)
  where
    by_test : (b : Bool) → fold drop_record records (leavers records) ≡ here_of records
        → fold drop_record (r ∷ records) (map (λ r. r.uid) (cond b (r ∷ left_of records) (left_of records))) ≡ cond (not b) (r ∷ here_of records) (here_of records)
    by_test true rest =
        ap (λ rs. fold drop_record rs (leavers records)) (drop-cons (λ r. r.uid) r records r.uid true (bytes_eq_same r.uid) ∙ drop-below (λ r. r.uid) records r.uid up.0)
        ∙ rest
    by_test false rest = drops-below (λ r. r.uid) (leavers records) r records (below-filter (λ r. r.uid) (λ r. r.left) r.uid records up.0) ∙ ap (λ rs. r ∷ rs) rest

pendings_through : (records : List Record) (rows : List Row) → IsAscending (map (λ r. r.uid) records) → length rows ≡ length records
    → fold drop_pending (pendings_of records rows) (leavers records) ≡ pendings_of (here_of records) (rows_here records rows)
pendings_through [] rows up even = refl
pendings_through (r ∷ records) [] up even = absurd (omega arith)
pendings_through (r ∷ records) (row ∷ rows) up even = by_test r.left (pendings_through records rows up.1 (omega arith))
  where
    by_test : (b : Bool) → fold drop_pending (pendings_of records rows) (leavers records) ≡ pendings_of (here_of records) (rows_here records rows)
        → fold drop_pending (pending_in r.uid row ∷ pendings_of records rows) (map (λ r. r.uid) (cond b (r ∷ left_of records) (left_of records)))
        ≡ pendings_of (cond (not b) (r ∷ here_of records) (here_of records)) (cond b (rows_here records rows) (row ∷ rows_here records rows))
    by_test true rest =
        ap (λ ps. fold drop_pending ps (leavers records))
        (drop-cons (λ p. p.uid) (pending_in r.uid row) (pendings_of records rows) r.uid true (bytes_eq_same r.uid)
        ∙ drop-below (λ p. p.uid) (pendings_of records rows) r.uid (subst (IsBelowAll r.uid) (sym (uids records rows)) up.0))
        ∙ rest
    by_test false rest = drops-below (λ p. p.uid) (leavers records) (pending_in r.uid row) (pendings_of records rows) (below-filter (λ r. r.uid) (λ r. r.left) r.uid records up.0) ∙ ap (λ ps. pending_in r.uid row ∷ ps) rest

length-here : (records : List Record) (rows : List Row) → length rows ≡ length records → length (rows_here records rows) ≡ length (here_of records)
length-here [] [] even = refl
length-here [] (row ∷ rows) even = absurd (omega arith)
length-here (r ∷ records) [] even = absurd (omega arith)
length-here (r ∷ records) (row ∷ rows) even = by_test r.left (length-here records rows (omega arith))
  where
    by_test : (b : Bool) → length (rows_here records rows) ≡ length (here_of records)
        → length (cond b (rows_here records rows) (row ∷ rows_here records rows)) ≡ length (cond (not b) (r ∷ here_of records) (here_of records))
    by_test true rest = rest
    by_test false rest = ap suc rest

module _ (records : List Record) (rows : List Row) (kept : AreKept records rows) where
  pub forgot_left_table : (limit : ℕ) → table_by limit (here_of records) (rows_here records rows) ≡ table_without_left (table_by limit records rows)
  forgot_left_table limit =
      (λ i. record { limit = limit; records = sym (records_through records kept.ascending) i; pendings = sym (pendings_through records rows kept.ascending kept.even) i })
      ∙ sym (through (leavers records) (table_by limit records rows))

  pub forgot_left_kept : AreKept (here_of records) (rows_here records rows)
  forgot_left_kept = record {
    ascending = ascending-filter (λ r. r.uid) (λ r. not r.left) records kept.ascending;
    even = length-here records rows kept.even;
    fit = subst AllFit (pendings_through records rows kept.ascending kept.even) (fit_through (leavers records) (pendings_of records rows) kept.fit);
  }
