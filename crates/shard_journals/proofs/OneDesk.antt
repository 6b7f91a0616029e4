-- With one desk the journal of a shard has its reports in their order.
use Prim.Native.Nat.{zero}
use Rattle.std.proofs.Common.{◌≡◌, ◌≢◌, ℕ, suc, ◌+◌, ◌<◌, ◌≤◌, ◌==◌, List, [], ◌∷◌, map, filter, Bool, true, false, cond, Some, refl, sym, ◌∙◌, ap, arith}
use Rattle.std.specs.Prelude.{slice_get}
use Rattle.std.proofs.lemmas.Bool.{eqb-true, eqb-false}
use Rattle.std.proofs.lemmas.Option.{none-some, same_Some}
use Rattle.message_values.specs.declared.report.AgentToServer.{AgentToServer}
use Rattle.shard_journals.specs.declared.rows.Row.{Row}
use Rattle.shard_journals.specs.Fleets.{IsJournalOf}
use Rattle.shard_journals.specs.Sharding.{shard_of}

-- the rows are those of the reports of the shard, which are counted from a number, and their items rise
record AreInOrder (from shard : ℕ) (items : List AgentToServer) (rows : List Row) : Type 0 where
  pub own : (place : ℕ) (row : Row) → slice_get rows place ≡ Some row → (k : ℕ) × (row.item ≡ from + k) × (slice_get items k ≡ Some row.report) × (shard_of row.report.instance_uid ≡ shard)
  pub each : (k : ℕ) (m : AgentToServer) → slice_get items k ≡ Some m → shard_of m.instance_uid ≡ shard → (place : ℕ) × (row : Row) × (slice_get rows place ≡ Some row) × (row.item ≡ from + k)
  pub rise : (earlier later : ℕ) (r t : Row) → earlier < later → slice_get rows earlier ≡ Some r → slice_get rows later ≡ Some t → r.item < t.item

abbrev of_shard : ℕ → AgentToServer → Bool
of_shard shard m = shard_of m.instance_uid == shard

module _ (from shard : ℕ) (m : AgentToServer) (items : List AgentToServer) where
  -- the first report is of another shard
  passed_over : (rows : List Row) → shard_of m.instance_uid ≢ shard → AreInOrder from shard (m ∷ items) rows → AreInOrder (from + 1) shard items rows
  passed_over rows other is = record {
    own = λ place row at. by_place row (is.own place row at);
    each = λ k t at own. (let old = is.each (suc k) t at own in (old.0, old.1, old.2, omega (arith, old.3)));
    rise = is.rise;
  }
    where
      by_place : (row : Row) → ((k : ℕ) × (row.item ≡ from + k) × (slice_get (m ∷ items) k ≡ Some row.report) × (shard_of row.report.instance_uid ≡ shard))
          → (k : ℕ) × (row.item ≡ (from + 1) + k) × (slice_get items k ≡ Some row.report) × (shard_of row.report.instance_uid ≡ shard)
      by_place row (zero, item, at, own) = absurd (other (ap (λ (x : AgentToServer). shard_of x.instance_uid) (same_Some m row.report at) ∙ own))
      by_place row (suc k, item, at, own) = (k, omega (arith, item), at, own)

  -- the first report is of the shard, and the first row is its row
  module _ (row : Row) (rows : List Row) (own : shard_of m.instance_uid ≡ shard) (is : AreInOrder from shard (m ∷ items) (row ∷ rows)) where
    first_item : row.item ≡ from
    first_item =
        let here = is.own 0 row refl in
        let stands = is.each 0 m refl own in
        by_place stands.0 stands.1 stands.2 (omega (arith, stands.3)) (omega (arith, here.1))
      where
        by_place : (place : ℕ) (r : Row) → slice_get (row ∷ rows) place ≡ Some r → r.item ≡ from → from ≤ row.item → row.item ≡ from
        by_place zero r at item least = ap (λ (x : Row). x.item) (same_Some row r at) ∙ item
        by_place (suc place) r at item least = let rises = is.rise 0 (suc place) row r (omega arith) refl at in absurd (omega (arith, rises, item, least))

    first_report : m ≡ row.report
    first_report = let here = is.own 0 row refl in by_place here.0 here.1 here.2
      where
        by_place : (k : ℕ) → row.item ≡ from + k → slice_get (m ∷ items) k ≡ Some row.report → m ≡ row.report
        by_place zero item at = same_Some m row.report at
        by_place (suc k) item at = absurd (omega (arith, item, first_item))

    rest_in_order : AreInOrder (from + 1) shard items rows
    rest_in_order = record {
      own = λ place r at. by_place place r at (is.own (suc place) r at);
      each = λ k t at mine. by_row k (is.each (suc k) t at mine);
      rise = λ earlier later r t before at then. is.rise (suc earlier) (suc later) r t (omega (arith, before)) at then;
    }
      where
        by_place : (place : ℕ) (r : Row) → slice_get rows place ≡ Some r → ((k : ℕ) × (r.item ≡ from + k) × (slice_get (m ∷ items) k ≡ Some r.report) × (shard_of r.report.instance_uid ≡ shard))
            → (k : ℕ) × (r.item ≡ (from + 1) + k) × (slice_get items k ≡ Some r.report) × (shard_of r.report.instance_uid ≡ shard)
        by_place place r at (zero, item, here, mine) = let rises = is.rise 0 (suc place) row r (omega arith) refl at in absurd (omega (arith, rises, item, first_item))
        by_place place r at (suc k, item, here, mine) = (k, omega (arith, item), here, mine)

        by_row : (k : ℕ) → ((place : ℕ) × (r : Row) × (slice_get (row ∷ rows) place ≡ Some r) × (r.item ≡ from + suc k))
            → (place : ℕ) × (r : Row) × (slice_get rows place ≡ Some r) × (r.item ≡ (from + 1) + k)
        by_row k (zero, r, at, item) = let same : row.item ≡ r.item = ap (λ (x : Row). x.item) (same_Some row r at) in absurd (omega (arith, same, item, first_item))
        by_row k (suc place, r, at, item) = (place, r, at, omega (arith, item))

in_order : (items : List AgentToServer) (from shard : ℕ) (rows : List Row) → AreInOrder from shard items rows → map (λ (r : Row). r.report) rows ≡ filter (of_shard shard) items
in_order [] from shard [] is = refl
in_order [] from shard (row ∷ rows) is = let here = is.own 0 row refl in absurd (none-some row.report here.2)
in_order (m ∷ items) from shard rows is = by_shard (of_shard shard m) refl (λ rs a. in_order items (from + 1) shard rs a)
  where
    Later : Type 0
    Later = (rs : List Row) → AreInOrder (from + 1) shard items rs → map (λ (r : Row). r.report) rs ≡ filter (of_shard shard) items

    by_rows : (rs : List Row) → shard_of m.instance_uid ≡ shard → AreInOrder from shard (m ∷ items) rs → Later → map (λ (r : Row). r.report) rs ≡ m ∷ filter (of_shard shard) items
    by_rows [] own a later = let stands = a.each 0 m refl own in absurd (none-some stands.1 stands.2)
    by_rows (row ∷ rs) own a later =
        (λ i. sym (first_report from shard m items row rs own a) i ∷ later rs (rest_in_order from shard m items row rs own a) i)

    by_shard : (b : Bool) → of_shard shard m ≡ b → Later → map (λ (r : Row). r.report) rows ≡ cond b (m ∷ filter (of_shard shard) items) (filter (of_shard shard) items)
    by_shard true e later = by_rows rows (eqb-true (shard_of m.instance_uid) shard e) is later
    by_shard false e later = later rows (passed_over from shard m items rows (eqb-false (shard_of m.instance_uid) shard e) is)

-- where there is one desk, all rows are its own
pub one_desk : (items : List AgentToServer) (shard : ℕ) (rows : List Row) → IsJournalOf items 1 shard rows → map (λ (r : Row). r.report) rows ≡ filter (of_shard shard) items
one_desk items shard rows is = in_order items 0 shard rows (record {
  own = λ place row at. (let of = is.own place row at in let z : row.item ≡ 0 + row.item = omega arith in (row.item, z, of.of_list, of.of_shard));
  each = λ k m at own. (let once = is.each k m at own in let z : k ≡ 0 + k = omega arith in (once.place, once.row, once.at, once.of_item ∙ z));
  rise = λ earlier later r t before at then. is.rise earlier later r t before at then (the_desk earlier r at ∙ sym (the_desk later t then));
})
  where
    the_desk : (place : ℕ) (row : Row) → slice_get rows place ≡ Some row → row.desk ≡ 0
    the_desk place row at = let of = is.own place row at in of.of_desk ∙ omega arith
