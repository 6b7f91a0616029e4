-- The journal of a shard, with one report more.
use Rattle.std.proofs.Common.{◌≡◌, ◌≢◌, ℕ, ◌%◌, ◌<◌, List, [], ◌∷◌, ◌++◌, length, Some, ◌⊎◌, inl, inr, sym, ◌∙◌, ap, subst, arith}
use Rattle.std.specs.Prelude.{slice_get}
use Rattle.std.proofs.lemmas.Option.{none-some, slice_get_within}
use Rattle.message_values.specs.declared.report.AgentToServer.{AgentToServer}
use Rattle.shard_journals.specs.declared.rows.Row.{Row}
use Rattle.shard_journals.specs.Fleets.{IsJournalOf, IsRowOf, ItemsRise, StandsOnce}
use Rattle.shard_journals.specs.Histories.{due_after}
use Rattle.shard_journals.specs.Sharding.{shard_of}
use Rattle.shard_journals.proofs.HistoryLemmas.{empty_history, history_push}
use Rattle.shard_journals.proofs.Places.{last_at, one_of, stays_at}

pub empty_journal : (desks shard : ℕ) → IsJournalOf [] desks shard []
empty_journal desks shard = record {
  history = empty_history;
  own = λ place row at. absurd (none-some row at);
  each = λ item m at own. absurd (none-some m at);
  rise = λ earlier later r t before at then same. absurd (none-some r at);
}

row_stays : (items : List AgentToServer) (m : AgentToServer) (desks shard : ℕ) (row : Row) → IsRowOf items desks shard row → IsRowOf (items ++ m ∷ []) desks shard row
row_stays items m desks shard row is = record { of_list = stays_at items (m ∷ []) row.item row.report is.of_list; of_desk = is.of_desk; of_shard = is.of_shard }

-- a report of another shard
pub journal_stays : (items : List AgentToServer) (m : AgentToServer) (desks shard : ℕ) (rows : List Row) → shard_of m.instance_uid ≢ shard
    → IsJournalOf items desks shard rows → IsJournalOf (items ++ m ∷ []) desks shard rows
journal_stays items m desks shard rows other is = record {
  history = is.history;
  own = λ place row at. row_stays items m desks shard row (is.own place row at);
  each = each;
  rise = is.rise;
}
  where
    each : (item : ℕ) (t : AgentToServer) → slice_get (items ++ m ∷ []) item ≡ Some t → shard_of t.instance_uid ≡ shard → StandsOnce rows item
    each item t at own = by_place (one_of items m item t at)
      where
        by_place : ((slice_get items item ≡ Some t) ⊎ ((item ≡ length items) × (m ≡ t))) → StandsOnce rows item
        by_place (inl before) = is.each item t before own
        by_place (inr last) = absurd (other (ap (λ (x : AgentToServer). shard_of x.instance_uid) last.1 ∙ own))

module _ (items : List AgentToServer) (m : AgentToServer) (desks shard : ℕ) (rows : List Row) (row : Row)
    (own : shard_of m.instance_uid ≡ shard)
    (row_is : row ≡ record { desk = length items % desks; item = length items; report = m; reply = due_after rows m })
    (is : IsJournalOf items desks shard rows) where
  item_is : row.item ≡ length items
  item_is = ap (λ (r : Row). r.item) row_is

  report_is : row.report ≡ m
  report_is = ap (λ (r : Row). r.report) row_is

  old_below : (place : ℕ) (r : Row) → slice_get rows place ≡ Some r → r.item < length items
  old_below place r at = slice_get_within items r.item r.report (is.own place r at).of_list

  is_row : IsRowOf (items ++ m ∷ []) desks shard row
  is_row = record {
    of_list = ap (λ n. slice_get (items ++ m ∷ []) n) item_is ∙ last_at items m ∙ ap Some (sym report_is);
    of_desk = ap (λ (r : Row). r.desk) row_is ∙ ap (λ n. n % desks) (sym item_is);
    of_shard = ap (λ (x : AgentToServer). shard_of x.instance_uid) report_is ∙ own;
  }

  rows_are : (place : ℕ) (r : Row) → slice_get (rows ++ row ∷ []) place ≡ Some r → IsRowOf (items ++ m ∷ []) desks shard r
  rows_are place r at = by_place (one_of rows row place r at)
    where
      by_place : ((slice_get rows place ≡ Some r) ⊎ ((place ≡ length rows) × (row ≡ r))) → IsRowOf (items ++ m ∷ []) desks shard r
      by_place (inl before) = row_stays items m desks shard r (is.own place r before)
      by_place (inr last) = subst (λ t. IsRowOf (items ++ m ∷ []) desks shard t) last.1 is_row

  old_stands : (item : ℕ) (t : AgentToServer) → slice_get items item ≡ Some t → StandsOnce rows item → StandsOnce (rows ++ row ∷ []) item
  old_stands item t within once = record {
    place = once.place;
    row = once.row;
    at = stays_at rows (row ∷ []) once.place once.row once.at;
    of_item = once.of_item;
    alone = λ other r at same. by_place other r same (one_of rows row other r at);
  }
    where
      by_place : (other : ℕ) (r : Row) → r.item ≡ item → ((slice_get rows other ≡ Some r) ⊎ ((other ≡ length rows) × (row ≡ r))) → other ≡ once.place
      by_place other r same (inl before) = once.alone other r before same
      by_place other r same (inr last) =
          let below = slice_get_within items item t within in
          let is_new : length items ≡ item = sym item_is ∙ ap (λ (x : Row). x.item) last.1 ∙ same in
          absurd (omega (arith, below, is_new))

  new_stands : StandsOnce (rows ++ row ∷ []) (length items)
  new_stands = record {
    place = length rows;
    row = row;
    at = last_at rows row;
    of_item = item_is;
    alone = λ other r at same. by_place other r same (one_of rows row other r at);
  }
    where
      by_place : (other : ℕ) (r : Row) → r.item ≡ length items → ((slice_get rows other ≡ Some r) ⊎ ((other ≡ length rows) × (row ≡ r))) → other ≡ length rows
      by_place other r same (inl before) = let below = old_below other r before in absurd (omega (arith, below, same))
      by_place other r same (inr last) = last.0

  each_stands : (item : ℕ) (t : AgentToServer) → slice_get (items ++ m ∷ []) item ≡ Some t → shard_of t.instance_uid ≡ shard → StandsOnce (rows ++ row ∷ []) item
  each_stands item t at mine = by_place (one_of items m item t at)
    where
      by_place : ((slice_get items item ≡ Some t) ⊎ ((item ≡ length items) × (m ≡ t))) → StandsOnce (rows ++ row ∷ []) item
      by_place (inl before) = old_stands item t before (is.each item t before mine)
      by_place (inr last) = subst (λ n. StandsOnce (rows ++ row ∷ []) n) (sym last.0) new_stands

  items_rise : ItemsRise (rows ++ row ∷ [])
  items_rise earlier later r t before at then same = by_places (one_of rows row earlier r at) (one_of rows row later t then)
    where
      by_places : ((slice_get rows earlier ≡ Some r) ⊎ ((earlier ≡ length rows) × (row ≡ r))) → ((slice_get rows later ≡ Some t) ⊎ ((later ≡ length rows) × (row ≡ t))) → r.item < t.item
      by_places (inl a) (inl b) = is.rise earlier later r t before a b same
      by_places (inl a) (inr b) =
          let below = old_below earlier r a in
          let new : length items ≡ t.item = sym item_is ∙ ap (λ (x : Row). x.item) b.1 in
          omega (arith, below, new)
      by_places (inr a) (inl b) = let within = slice_get_within rows later t b in absurd (omega (arith, before, within, a.0))
      by_places (inr a) (inr b) = absurd (omega (arith, before, a.0, b.0))

  pub journal_push : IsJournalOf (items ++ m ∷ []) desks shard (rows ++ row ∷ [])
  journal_push = record {
    history = history_push rows row is.history (ap (λ (r : Row). r.reply) row_is ∙ ap (due_after rows) (sym report_is));
    own = rows_are;
    each = each_stands;
    rise = items_rise;
  }
