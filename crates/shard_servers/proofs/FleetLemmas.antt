-- Where the journals keep what was told to desks that had the reports handled, they are the journals of the reports.
use Prim.Native.Nat.{zero}
use Rattle.std.proofs.Common.{◌≡◌, ℕ, suc, ◌+◌, ◌%◌, ◌<◌, List, [], ◌∷◌, length, Some, ◌⊎◌, inl, inr, refl, sym, ◌∙◌, ap, subst, arith}
use Rattle.std.specs.Prelude.{slice_get, unwrap_or}
use Rattle.std.specs.Option.{option_map}
use Rattle.std.proofs.lemmas.Bool.{cases_order}
use Rattle.std.proofs.lemmas.Nat.{mod_below}
use Rattle.std.proofs.lemmas.Option.{none-some, same_Some, slice_get_within, slice_get-map}
use Rattle.message_values.specs.declared.report.AgentToServer.{AgentToServer}
use Rattle.shard_journals.specs.declared.rows.Row.{Row}
use Rattle.shard_journals.specs.Fleets.{AreJournalsOf, IsJournalOf, IsRowOf, ItemsRise, StandsOnce}
use Rattle.shard_journals.specs.Sharding.{shard_of}
use Rattle.shard_servers.specs.declared.desks.Told.{Told}
use Rattle.shard_servers.specs.Agreement.{Agrees, Stands, kept_at}
use Rattle.shard_servers.specs.Desks.{AtDesk, IsOwn, all_places}
use Rattle.shard_servers.specs.Work.{handled, work_of}
use Rattle.shard_servers.proofs.Apart.{IsTold, piece_of, places_kept}
use Rattle.shard_servers.proofs.Lists.{all-at, element}
use Rattle.shard_servers.proofs.Pigeons.{covers}
use Rattle.shard_servers.proofs.PlaceLemmas.{later_above}
use Rattle.shard_servers.proofs.WorkLemmas.{in_share, of_list, share_rises}

abbrev handled_as : Told → ℕ × AgentToServer
handled_as t = (t.row.item, t.row.report)

-- what stands in a mapped list
mapped_at : (told : List Told) (k : ℕ) (y : ℕ × AgentToServer) → slice_get (handled told) k ≡ Some y → (t : Told) × (slice_get told k ≡ Some t) × (handled_as t ≡ y)
mapped_at [] k y at = absurd (none-some y at)
mapped_at (t ∷ told) zero y at = (t, refl, same_Some (handled_as t) y at)
mapped_at (t ∷ told) (suc k) y at = mapped_at told k y at

module _ (items : List AgentToServer) (n : ℕ) (journals : List (List Row)) (desks : List AtDesk)
    (agrees : Agrees journals desks) (some : 0 < n) (count : length desks ≡ n)
    (worked : (place : ℕ) (d : AtDesk) → slice_get desks place ≡ Some d → (d.number ≡ place) × (handled d.told ≡ work_of place n items)) where
  -- what a desk was told of is a report of its share
  work_at : (place : ℕ) (d : AtDesk) → slice_get desks place ≡ Some d → (k : ℕ) (t : Told) → slice_get d.told k ≡ Some t → slice_get (work_of place n items) k ≡ Some (handled_as t)
  work_at place d at k t here =
      ap (λ w. slice_get w k) (sym (worked place d at).1) ∙ slice_get-map handled_as d.told k ∙ ap (option_map handled_as) here

  report_of : (place : ℕ) (d : AtDesk) → slice_get desks place ≡ Some d → (k : ℕ) (t : Told) → slice_get d.told k ≡ Some t
      → (slice_get items t.row.item ≡ Some t.row.report) × (t.row.item % n ≡ place)
  report_of place d at k t here =
      let r = of_list place n items 0 k t.row.item t.row.report (work_at place d at k t here) in
      let e = r.1 in
      let same : t.row.item ≡ r.0 = omega (arith, e) in
      (ap (slice_get items) same ∙ r.2, r.3)

  own_of : (place : ℕ) (d : AtDesk) → slice_get desks place ≡ Some d → (k : ℕ) (t : Told) → slice_get d.told k ≡ Some t → IsOwn d.number t
  own_of place d at k t here = all-at (IsOwn d.number) d.told k t (agrees.own place d at) here

  -- two places of desks with one number are one
  same_desk : (a b : ℕ) (d e : AtDesk) → slice_get desks a ≡ Some d → slice_get desks b ≡ Some e → a ≡ b → d ≡ e
  same_desk a b d e at there same = same_Some d e (sym at ∙ ap (slice_get desks) same ∙ there)

  module _ (shard : ℕ) (rows : List Row) (at_shard : slice_get journals shard ≡ Some rows) where
    kept_in : (t : Told) → t.shard ≡ shard → Stands journals t → slice_get rows t.place ≡ Some t.row
    kept_in t own stands =
        ap (λ o. slice_get (unwrap_or o []) t.place) (sym at_shard) ∙ subst (λ s. kept_at journals s t.place ≡ Some t.row) own stands

    stands_of : (place : ℕ) (d : AtDesk) → slice_get desks place ≡ Some d → (k : ℕ) (t : Told) → slice_get d.told k ≡ Some t → t.shard ≡ shard → slice_get rows t.place ≡ Some t.row
    stands_of place d at k t here own = kept_in t own (all-at (Stands journals) d.told k t (agrees.stand place d at) here)

    -- each row of the journal was told to a desk
    record WasTold (p : ℕ) (row : Row) : Type 0 where
      pub place : ℕ
      pub desk : AtDesk
      pub at : slice_get desks place ≡ Some desk
      pub told : IsTold shard desk.told p
      pub row_is : told.t.row ≡ row

    below : shard < 4
    below = let within = slice_get_within journals shard rows at_shard in let four = agrees.kept.four in omega (arith, within, four)

    was_told : (p : ℕ) (row : Row) → slice_get rows p ≡ Some row → WasTold p row
    was_told p row here =
        let found = covers (length rows) (all_places shard desks)
        (places_kept journals shard rows at_shard desks agrees.stand)
        (agrees.apart shard below)
        (sym (agrees.as_many shard rows at_shard))
        p (slice_get_within rows p row here) in
        let of = piece_of shard desks found.0 p found.1 in
        let told : IsTold shard of.1.told p = of.3 in
        record {
          place = of.0;
          desk = of.1;
          at = of.2;
          told = told;
          row_is = same_Some told.t.row row (sym (stands_of of.0 of.1 of.2 told.number told.t told.at told.shard_is) ∙ ap (slice_get rows) told.place_is ∙ here);
        }

    row_of : (p : ℕ) (row : Row) → WasTold p row → IsRowOf items n shard row
    row_of p row w =
        let t = w.told.t in
        let report = report_of w.place w.desk w.at w.told.number t w.told.at in
        let own = own_of w.place w.desk w.at w.told.number t w.told.at in
        let is : IsRowOf items n shard t.row = record {
          of_list = report.0;
          of_desk = own.desk ∙ (worked w.place w.desk w.at).0 ∙ sym report.1;
          of_shard = sym own.shard ∙ w.told.shard_is;
        } in
        subst (IsRowOf items n shard) w.row_is is

    -- two rows that were told to one desk, of the same item, stand at one place
    one_item : (place : ℕ) (d : AtDesk) → slice_get desks place ≡ Some d → (k l : ℕ) (t u : Told) → slice_get d.told k ≡ Some t → slice_get d.told l ≡ Some u
        → t.row.item ≡ u.row.item → t ≡ u
    one_item place d at k l t u here there same = by_order (cases_order k l)
      where
        by_order : ((k ≡ l) ⊎ ((k < l) ⊎ (l < k))) → t ≡ u
        by_order (inl e) = same_Some t u (sym here ∙ ap (slice_get d.told) e ∙ there)
        by_order (inr (inl lt)) =
            let r = share_rises place n items 0 k l t.row.item u.row.item t.row.report u.row.report lt (work_at place d at k t here) (work_at place d at l u there) in
            absurd (omega (arith, r, same))
        by_order (inr (inr lt)) =
            let r = share_rises place n items 0 l k u.row.item t.row.item u.row.report t.row.report lt (work_at place d at l u there) (work_at place d at k t here) in
            absurd (omega (arith, r, same))

    each_once : (item : ℕ) (m : AgentToServer) → slice_get items item ≡ Some m → shard_of m.instance_uid ≡ shard → StandsOnce rows item
    each_once item m within own =
        let place = item % n in
        let found_desk = element desks place (subst (λ c. item % n < c) (sym count) (mod_below item n some)) in
        let d = found_desk.0 in
        let at = found_desk.1 in
        let zero_more : 0 + item ≡ item = omega arith in
        let in_work = in_share place n items 0 item m within (ap (λ k. k % n) zero_more) in
        let here = mapped_at d.told in_work.0 (item, m) (ap (λ w. slice_get w in_work.0) (worked place d at).1 ∙ in_work.1 ∙ ap (λ k. Some (k, m)) zero_more) in
        let t = here.0 in
        let item_is : t.row.item ≡ item = ap (λ (y : ℕ × AgentToServer). y.0) here.2 in
        let report_is : t.row.report ≡ m = ap (λ (y : ℕ × AgentToServer). y.1) here.2 in
        let shard_is : t.shard ≡ shard = (own_of place d at in_work.0 t here.1).shard ∙ ap (λ (x : AgentToServer). shard_of x.instance_uid) report_is ∙ own in
        record {
          place = t.place;
          row = t.row;
          at = stands_of place d at in_work.0 t here.1 shard_is;
          of_item = item_is;
          alone = λ other r there same. alone d at in_work.0 t here.1 item_is other r (was_told other r there) same;
        }
      where
        alone : (d : AtDesk) → slice_get desks (item % n) ≡ Some d → (k : ℕ) (t : Told) → slice_get d.told k ≡ Some t → t.row.item ≡ item
            → (other : ℕ) (r : Row) → WasTold other r → r.item ≡ item → other ≡ t.place
        alone d at k t here item_is other r w same =
            let u = w.told.t in
            let other_item : u.row.item ≡ item = ap (λ (x : Row). x.item) w.row_is ∙ same in
            let desk_is : w.place ≡ item % n = sym (report_of w.place w.desk w.at w.told.number u w.told.at).1 ∙ ap (λ i. i % n) other_item in
            let one : w.desk ≡ d = same_desk w.place (item % n) w.desk d w.at at desk_is in
            let there : slice_get d.told w.told.number ≡ Some u = ap (λ (x : AtDesk). slice_get x.told w.told.number) (sym one) ∙ w.told.at in
            sym w.told.place_is ∙ ap (λ (x : Told). x.place) (one_item (item % n) d at w.told.number k u t there here (other_item ∙ sym item_is))

    -- of two rows that were told to one desk, the one that stands behind the other has the greater item
    rises_at : (place : ℕ) (d : AtDesk) → slice_get desks place ≡ Some d → (k l : ℕ) (t u : Told) → slice_get d.told k ≡ Some t → slice_get d.told l ≡ Some u
        → t.shard ≡ shard → u.shard ≡ shard → t.place < u.place → t.row.item < u.row.item
    rises_at place d at k l t u here there of_t of_u before = by_order (cases_order k l)
      where
        by_order : ((k ≡ l) ⊎ ((k < l) ⊎ (l < k))) → t.row.item < u.row.item
        by_order (inl e) =
            let equal : t.place ≡ u.place = ap (λ (x : Told). x.place) (same_Some t u (sym here ∙ ap (slice_get d.told) e ∙ there)) in
            absurd (omega (arith, equal, before))
        by_order (inr (inl lt)) =
            share_rises place n items 0 k l t.row.item u.row.item t.row.report u.row.report lt (work_at place d at k t here) (work_at place d at l u there)
        by_order (inr (inr lt)) =
            let above = later_above shard d.told (agrees.rise place d at shard below) l k u t lt there here of_u of_t in
            absurd (omega (arith, above, before))

    rises : ItemsRise rows
    rises earlier later r t before at then same = by_rows (was_told earlier r at) (was_told later t then)
      where
        by_rows : WasTold earlier r → WasTold later t → r.item < t.item
        by_rows a b =
            let place_is : a.place ≡ b.place =
            sym (worked a.place a.desk a.at).0 ∙ sym (own_of a.place a.desk a.at a.told.number a.told.t a.told.at).desk
            ∙ ap (λ (x : Row). x.desk) a.row_is ∙ same ∙ sym (ap (λ (x : Row). x.desk) b.row_is)
            ∙ (own_of b.place b.desk b.at b.told.number b.told.t b.told.at).desk ∙ (worked b.place b.desk b.at).0 in
            let one : b.desk ≡ a.desk = sym (same_desk a.place b.place a.desk b.desk a.at b.at place_is) in
            let there : slice_get a.desk.told b.told.number ≡ Some b.told.t = ap (λ (x : AtDesk). slice_get x.told b.told.number) (sym one) ∙ b.told.at in
            let here = a.told.place_is in
            let after = b.told.place_is in
            let rise = rises_at a.place a.desk a.at a.told.number b.told.number a.told.t b.told.t a.told.at there a.told.shard_is b.told.shard_is (omega (arith, before, here, after)) in
            let first : r.item ≡ a.told.t.row.item = sym (ap (λ (x : Row). x.item) a.row_is) in
            let second : t.item ≡ b.told.t.row.item = sym (ap (λ (x : Row). x.item) b.row_is) in
            omega (arith, first, second, rise)

    journal_is : IsJournalOf items n shard rows
    journal_is = record {
      history = agrees.kept.histories shard rows at_shard;
      own = λ p row here. row_of p row (was_told p row here);
      each = each_once;
      rise = rises;
    }

  pub journals_are : AreJournalsOf items n journals
  journals_are = record { four = agrees.kept.four; each = journal_is }
