-- The points of rollouts, one after the other.
use Rattle.std.proofs.Common.{◌≡◌, inl, inr, ℕ, suc, ◌+◌, ◌-◌, ◌<◌, ◌≤◌, min, List, [], ◌∷◌, ◌++◌, length, length-append, arith, take, drop, get_or, map, Bool, true, false, ◌||◌, ◌&&◌, refl, sym, ◌∙◌, ap, subst, append-nil, append_assoc}
use Rattle.std.specs.Prelude.{slice_set}
use Rattle.std.proofs.Math.ListN.{drop_of_length-le}
use Rattle.std.proofs.Math.Seq.{get_or-append_seam, set-append_seam}
use Rattle.std.proofs.lemmas.List.{drop_more, length-drop, length-map, length-take, map-append, take_all}
use Rattle.std.specs.Str.{bytes_eq}
use Rattle.std.specs.Cmp.Lexicographic.{bytes_decides}
use Rattle.std.proofs.lemmas.List.Folds.{list_any-append}
use Rattle.server_core.specs.declared.rows.Record.{Record}
use Rattle.server_core.specs.History.{is_among}
use Rattle.server_core.specs.Table.{Table, find_record}
use Rattle.server_waves.specs.Candidates.{AreUndecidedBut}
use Rattle.server_waves.specs.Points.{AreCurrentBut, ArePointedInPart, RollsInPart, is_offered, most, points, rolled, rolled_newly, rolled_table, with_heard}
use Rattle.server_waves.specs.Register.{Rolling}
use Rattle.server_waves.specs.Waves.{decided, hash_of, is_decided, passes}
use Rattle.server_waves.proofs.CandidateLemmas.{none_before}
use Rattle.server_waves.proofs.Few.{longer, parts}
use Rattle.server_waves.proofs.OfferedLemmas.{has_offer, or_left, or_parts, or_right}
use Rattle.server_waves.proofs.PointLemmas.{keeps_heard}
use Rattle.server_waves.proofs.Unheard.{stays_offering}

module _ (fine : Record → Bool) (heard : List (List ℕ)) where
  -- one more rollout comes to its point
  pub more_rollouts : (xs : List Rolling) (x : Rolling) (table : Table) → (points fine heard (xs ++ x ∷ []) table).rollouts ≡ (points fine heard xs table).rollouts ++ rolled fine heard (points fine heard xs table).table x ∷ []
  more_rollouts [] x table = refl
  more_rollouts (y ∷ xs) x table = ap (λ (rs : List Rolling). rolled fine heard table y ∷ rs) (more_rollouts xs x (rolled_table fine heard table y))

  pub more_table : (xs : List Rolling) (x : Rolling) (table : Table) → (points fine heard (xs ++ x ∷ []) table).table ≡ rolled_table fine heard (points fine heard xs table).table x
  more_table [] x table = refl
  more_table (y ∷ xs) x table = more_table xs x (rolled_table fine heard table y)

  pub more_newly : (xs : List Rolling) (x : Rolling) (table : Table) → (points fine heard (xs ++ x ∷ []) table).newly ≡ (points fine heard xs table).newly ++ rolled_newly fine heard (points fine heard xs table).table x
  more_newly [] x table = append-nil (rolled_newly fine heard table x)
  more_newly (y ∷ xs) x table =
      ap (λ (us : List (List ℕ)). rolled_newly fine heard table y ++ us) (more_newly xs x (rolled_table fine heard table y))
      ∙ sym (append_assoc (rolled_newly fine heard table y) (points fine heard xs (rolled_table fine heard table y)).newly (rolled_newly fine heard (points fine heard xs (rolled_table fine heard table y)).table x))

  pub points_length : (xs : List Rolling) (table : Table) → length (points fine heard xs table).rollouts ≡ length xs
  points_length [] table = refl
  points_length (y ∷ xs) table = ap (λ (n : ℕ). suc n) (points_length xs (rolled_table fine heard table y))

  -- the next one comes to a part of its point, or of its joins
  pub part_at : (xs : List Rolling) (x next : Rolling) (rest : List Rolling) (before after : Table) → RollsInPart fine heard x next (points fine heard xs before).table after
      → ArePointedInPart fine heard (xs ++ x ∷ rest) ((points fine heard xs before).rollouts ++ next ∷ rest) before after
  part_at [] x next rest before after part = inl (next, refl, part)
  part_at (y ∷ xs) x next rest before after part = inr ((points fine heard xs (rolled_table fine heard before y)).rollouts ++ next ∷ rest, refl, part_at xs x next rest (rolled_table fine heard before y) after part)

  -- what is known of the agents stays
  pub rolled_records : (x : Rolling) (table : Table) → (rolled_table fine heard table x).records ≡ table.records
  rolled_records x table =
      let ready = with_heard table.records heard x in
      stays_offering ready.terms.files (take (most fine table ready) (decided fine ready.terms table ready.waves).waiting) table

  pub points_records : (xs : List Rolling) (table : Table) → (points fine heard xs table).table.records ≡ table.records
  points_records [] table = refl
  points_records (y ∷ xs) table = points_records xs (rolled_table fine heard table y) ∙ rolled_records y table

-- ---- of whom nothing is known

-- an offer of one of them
pub offered_there : (xs : List Rolling) (i : ℕ) (x : Rolling) → i < length xs → x ≡ get_or xs i x → (hash uid : List ℕ) → has_offer hash uid x ≡ true → is_offered xs hash uid ≡ true
offered_there xs i x within is hash uid there =
    ap (λ (rs : List Rolling). is_offered rs hash uid) (parts xs i x within is)
    ∙ list_any-append (has_offer hash uid) (take i xs) (x ∷ drop (i + 1) xs)
    ∙ or_right (is_offered (take i xs) hash uid) (has_offer hash uid x || is_offered (drop (i + 1) xs) hash uid) (or_left (has_offer hash uid x) (is_offered (drop (i + 1) xs) hash uid) there)

own_offer : (hash uid : List ℕ) (x : Rolling) → hash_of x.terms ≡ hash → is_among x.waves.offered uid ≡ true → has_offer hash uid x ≡ true
own_offer hash uid x is there = ap (λ b. b && is_among x.waves.offered uid) ((bytes_decides (hash_of x.terms) hash).1 is) ∙ there

pub current_at : (but : List ℕ → Bool) (fine : Record → Bool) (records : List Record) (xs : List Rolling) (i : ℕ) (x : Rolling) → i < length xs → x ≡ get_or xs i x → AreCurrentBut but fine records xs
    → AreUndecidedBut but fine (hash_of x.terms) records x.waves.offered
current_at but fine records xs i x within is current = λ uid there isnt. current (hash_of x.terms) uid (offered_there xs i x within is (hash_of x.terms) uid (own_offer (hash_of x.terms) uid x refl there)) isnt

and_left : (a b : Bool) → (a && b) ≡ true → a ≡ true
and_left true b h = refl
and_left false b h = absurd (cc h)

and_right : (a b : Bool) → (a && b) ≡ true → b ≡ true
and_right true b h = h
and_right false b h = absurd (cc h)

or_nothing : (a : Bool) → (a || false) ≡ true → a ≡ true
or_nothing true h = refl
or_nothing false h = h

-- one more rollout
pub current_more : (old new : List ℕ → Bool) (fine : Record → Bool) (records : List Record) (xs : List Rolling) (x : Rolling) → ((u : List ℕ) → old u ≡ true → new u ≡ true)
    → AreCurrentBut old fine records xs → AreUndecidedBut new fine (hash_of x.terms) records x.waves.offered → AreCurrentBut new fine records (xs ++ x ∷ [])
current_more old new fine records xs x kept current undecided = λ hash uid there isnt.
    or_parts (is_offered xs hash uid) (has_offer hash uid x || false) (sym (list_any-append (has_offer hash uid) xs (x ∷ [])) ∙ there)
    (λ first. current hash uid first (none_before old new kept uid isnt))
    (λ second.
    let own : has_offer hash uid x ≡ true = or_nothing (has_offer hash uid x) second in
    let same : hash_of x.terms ≡ hash = (bytes_decides (hash_of x.terms) hash).0 (and_left (bytes_eq (hash_of x.terms) hash) (is_among x.waves.offered uid) own) in
    subst (λ (h : List ℕ). passes (is_decided fine h) (find_record records uid) ≡ false) same (undecided uid (and_right (bytes_eq (hash_of x.terms) hash) (is_among x.waves.offered uid) own) isnt))

-- ---- a list of which some first items were changed

module _ {T : Type 0} (front xs now : List T) (i : ℕ) (x : T) (is : now ≡ front ++ drop i xs) (len : length front ≡ i) (within : i < length xs) (here : x ≡ get_or now i x) where
  own : T
  own = get_or xs i x

  shown : now ≡ front ++ get_or xs i x ∷ drop (i + 1) xs
  shown = is ∙ ap (λ (l : List T). front ++ l) (drop_more xs i x within)

  -- the item at the place is the old one
  pub item_there : x ≡ get_or xs i x
  item_there =
      here ∙ ap (λ (l : List T). get_or l i x) shown
      ∙ ap (λ (n : ℕ). get_or (front ++ get_or xs i x ∷ drop (i + 1) xs) n x) (sym len)
      ∙ get_or-append_seam front (get_or xs i x) (drop (i + 1) xs) x

  -- and is changed
  pub item_set : (y : T) → slice_set now i y ≡ (front ++ y ∷ []) ++ drop (i + 1) xs
  item_set y =
      ap (λ (l : List T). slice_set l i y) shown
      ∙ ap (λ (n : ℕ). slice_set (front ++ get_or xs i x ∷ drop (i + 1) xs) n y) (sym len)
      ∙ set-append_seam front (get_or xs i x) (drop (i + 1) xs) y
      ∙ sym (append_assoc front (y ∷ []) (drop (i + 1) xs))

-- one more is changed as all are
module _ {T : Type 0} (change : T → T) where
  map_front : (i : ℕ) (xs : List T) → i ≤ length xs → length (map change (take i xs)) ≡ i
  map_front i xs within =
      let all : length (map change (take i xs)) ≡ length (take i xs) = length-map (take i xs) change in
      let some : length (take i xs) ≡ min i (length xs) = length-take i xs in
      omega (arith, all, some, within)

  pub map_more : (xs now new : List T) (i : ℕ) (x : T) → now ≡ map change (take i xs) ++ drop i xs → i < length xs → x ≡ get_or now i x → new ≡ slice_set now i (change x)
      → new ≡ map change (take (i + 1) xs) ++ drop (i + 1) xs
  map_more xs now new i x is within here set =
      let few : length (map change (take i xs)) ≡ i = map_front i xs (omega (arith, within)) in
      let old : x ≡ get_or xs i x = item_there (map change (take i xs)) xs now i x is few within here in
      set ∙ item_set (map change (take i xs)) xs now i x is few within here (change x)
      ∙ ap (λ (l : List T). l ++ drop (i + 1) xs) (sym (ap (map change) (longer xs i x within old) ∙ map-append change (take i xs) (x ∷ [])))

  pub map_all : (xs now : List T) (i : ℕ) → now ≡ map change (take i xs) ++ drop i xs → length xs ≤ i → now ≡ map change xs
  map_all xs now i is past =
      is ∙ ap (λ (l : List T). map change l ++ drop i xs) (take_all i xs past) ∙ ap (λ (l : List T). map change xs ++ l) (drop_of_length-le xs past) ∙ append-nil (map change xs)

  pub map_length : (xs now : List T) (i : ℕ) → now ≡ map change (take i xs) ++ drop i xs → i ≤ length xs → length now ≡ length xs
  map_length xs now i is within =
      let all : length now ≡ length (map change (take i xs)) + length (drop i xs) = ap length is ∙ length-append (map change (take i xs)) (drop i xs) in
      let front : length (map change (take i xs)) ≡ i = map_front i xs within in
      let back : length (drop i xs) ≡ length xs - i = length-drop i xs in
      omega (arith, all, front, back, within)

-- ---- where the points of some first rollouts were come to

pub record Front (fine : Record → Bool) (heard : List (List ℕ)) (old : List Rolling) (first : Table) (i : ℕ) (now : List Rolling) (table : Table) (newly : List (List ℕ)) (later : List ℕ → Bool) : Type 0 where
  pub within : i ≤ length old
  pub rollouts_are : now ≡ (points fine heard (take i old) first).rollouts ++ drop i old
  pub table_is : table ≡ (points fine heard (take i old) first).table
  pub newly_are : newly ≡ (points fine heard (take i old) first).newly
  pub current : AreCurrentBut later fine first.records (points fine heard (take i old) first).rollouts

pub none_yet : (fine : Record → Bool) (heard : List (List ℕ)) (old : List Rolling) (first : Table) (newly : List (List ℕ)) (later : List ℕ → Bool) → newly ≡ [] → Front fine heard old first 0 old first newly later
none_yet fine heard old first newly later none = record { within = omega arith; rollouts_are = refl; table_is = refl; newly_are = none; current = λ hash uid there isnt. absurd (cc there) }

module _ (fine : Record → Bool) (heard : List (List ℕ)) (old : List Rolling) (first : Table) (i : ℕ) (now : List Rolling) (table : Table) (newly : List (List ℕ)) (later : List ℕ → Bool)
    (front : Front fine heard old first i now table newly later) where
  length_at : length (points fine heard (take i old) first).rollouts ≡ i
  length_at =
      let all : length (points fine heard (take i old) first).rollouts ≡ length (take i old) = points_length fine heard (take i old) first in
      let some : length (take i old) ≡ min i (length old) = length-take i old in
      omega (arith, all, some, front.within)

  pub front_length : length now ≡ length old
  front_length =
      let all : length now ≡ length (points fine heard (take i old) first).rollouts + length (drop i old) = ap length front.rollouts_are ∙ length-append (points fine heard (take i old) first).rollouts (drop i old) in
      let back : length (drop i old) ≡ length old - i = length-drop i old in
      omega (arith, all, length_at, back, front.within)

  pub front_records : table.records ≡ first.records
  front_records = ap (λ (t : Table). t.records) front.table_is ∙ points_records fine heard (take i old) first

  module _ (x : Rolling) (within : i < length old) (here : x ≡ get_or now i x) where
    there : x ≡ get_or old i x
    there = item_there (points fine heard (take i old) first).rollouts old now i x front.rollouts_are length_at within here

    next : take (i + 1) old ≡ take i old ++ x ∷ []
    next = longer old i x within there

    -- nothing is known of those that have its offer
    pub front_current : (but : List ℕ → Bool) → AreCurrentBut but fine first.records old → AreUndecidedBut but fine (hash_of x.terms) table.records x.waves.offered
    front_current but current =
        subst (λ (records : List Record). AreUndecidedBut but fine (hash_of x.terms) records x.waves.offered) (sym front_records) (current_at but fine first.records old i x within there current)

    -- the next one comes to its point
    pub front_more : (y : Rolling) (table2 : Table) (newly2 : List (List ℕ)) (later2 : List ℕ → Bool) → y ≡ rolled fine heard table x → table2 ≡ rolled_table fine heard table x
        → newly2 ≡ newly ++ rolled_newly fine heard table x → ((u : List ℕ) → later u ≡ true → later2 u ≡ true) → AreUndecidedBut later2 fine (hash_of x.terms) table2.records y.waves.offered
        → Front fine heard old first (i + 1) (slice_set now i y) table2 newly2 later2
    front_more y table2 newly2 later2 y_is table2_is newly2_is kept undecided = record {
      within = omega (arith, within);
      rollouts_are =
          item_set (points fine heard (take i old) first).rollouts old now i x front.rollouts_are length_at within here y
          ∙ ap (λ (l : List Rolling). l ++ drop (i + 1) old) (
          ap (λ (r : Rolling). (points fine heard (take i old) first).rollouts ++ r ∷ []) (y_is ∙ ap (λ (t : Table). rolled fine heard t x) front.table_is)
          ∙ sym (more_rollouts fine heard (take i old) x first) ∙ ap (λ (rs : List Rolling). (points fine heard rs first).rollouts) (sym next));
      table_is = table2_is ∙ ap (λ (t : Table). rolled_table fine heard t x) front.table_is ∙ sym (more_table fine heard (take i old) x first) ∙ ap (λ (rs : List Rolling). (points fine heard rs first).table) (sym next);
      newly_are = newly2_is ∙ ap (λ (us : List (List ℕ)). us ++ rolled_newly fine heard table x) front.newly_are
          ∙ ap (λ (t : Table). (points fine heard (take i old) first).newly ++ rolled_newly fine heard t x) front.table_is
          ∙ sym (more_newly fine heard (take i old) x first) ∙ ap (λ (rs : List Rolling). (points fine heard rs first).newly) (sym next);
      current =
          let ready : Rolling = rolled fine heard table x in
          let terms : ready.terms ≡ x.terms = (keeps_heard table.records heard x).terms in
          let records : table2.records ≡ first.records = ap (λ (t : Table). t.records) table2_is ∙ rolled_records fine heard x table ∙ front_records in
          let own : AreUndecidedBut later2 fine (hash_of ready.terms) first.records ready.waves.offered =
          subst (λ (rs : List Record). AreUndecidedBut later2 fine (hash_of ready.terms) rs ready.waves.offered) records
          (subst (λ (r : Rolling). AreUndecidedBut later2 fine (hash_of ready.terms) table2.records r.waves.offered) y_is
          (subst (λ (h : List ℕ). AreUndecidedBut later2 fine h table2.records y.waves.offered) (sym (ap hash_of terms)) undecided)) in
          let more : AreCurrentBut later2 fine first.records ((points fine heard (take i old) first).rollouts ++ ready ∷ []) =
          current_more later later2 fine first.records (points fine heard (take i old) first).rollouts ready kept front.current own in
          subst (λ (rs : List Rolling). AreCurrentBut later2 fine first.records rs)
          (ap (λ (t : Table). (points fine heard (take i old) first).rollouts ++ rolled fine heard t x ∷ []) front.table_is
          ∙ sym (more_rollouts fine heard (take i old) x first) ∙ ap (λ (rs : List Rolling). (points fine heard rs first).rollouts) (sym next)) more;
    }

    -- or to a part of it
    pub front_part : (y : Rolling) (table2 : Table) → RollsInPart fine heard x y table table2 → ArePointedInPart fine heard old (slice_set now i y) first table2
    front_part y table2 part =
        subst (λ (rs : List Rolling). ArePointedInPart fine heard rs (slice_set now i y) first table2) (sym (parts old i x within there))
        (subst (λ (rs : List Rolling). ArePointedInPart fine heard (take i old ++ x ∷ drop (i + 1) old) rs first table2)
        (sym (item_set (points fine heard (take i old) first).rollouts old now i x front.rollouts_are length_at within here y
        ∙ append_assoc (points fine heard (take i old) first).rollouts (y ∷ []) (drop (i + 1) old)))
        (part_at fine heard (take i old) x y (drop (i + 1) old) first table2 (subst (λ (t : Table). RollsInPart fine heard x y t table2) front.table_is part)))

-- all rollouts came to their points
pub record All (fine : Record → Bool) (heard : List (List ℕ)) (old : List Rolling) (first : Table) (now : List Rolling) (table : Table) (newly : List (List ℕ)) (later : List ℕ → Bool) : Type 0 where
  pub rollouts_are : now ≡ (points fine heard old first).rollouts
  pub table_is : table ≡ (points fine heard old first).table
  pub newly_are : newly ≡ (points fine heard old first).newly
  pub current : AreCurrentBut later fine table.records now

pub all_done : (fine : Record → Bool) (heard : List (List ℕ)) (old : List Rolling) (first : Table) (i : ℕ) (now : List Rolling) (table : Table) (newly : List (List ℕ)) (later : List ℕ → Bool)
    → Front fine heard old first i now table newly later → length old ≤ i → All fine heard old first now table newly later
all_done fine heard old first i now table newly later front past =
    let all : take i old ≡ old = take_all i old past in
    let rollouts : now ≡ (points fine heard old first).rollouts =
    front.rollouts_are ∙ ap (λ (rs : List Rolling). (points fine heard rs first).rollouts ++ drop i old) all
    ∙ ap (λ (rs : List Rolling). (points fine heard old first).rollouts ++ rs) (drop_of_length-le old past) ∙ append-nil (points fine heard old first).rollouts in
    record {
      rollouts_are = rollouts;
      table_is = front.table_is ∙ ap (λ (rs : List Rolling). (points fine heard rs first).table) all;
      newly_are = front.newly_are ∙ ap (λ (rs : List Rolling). (points fine heard rs first).newly) all;
      current =
          subst (λ (records : List Record). AreCurrentBut later fine records now) (sym (front_records fine heard old first i now table newly later front))
          (subst (λ (rs : List Rolling). AreCurrentBut later fine first.records rs) (ap (λ (rs : List Rolling). (points fine heard rs first).rollouts) all ∙ sym rollouts) front.current);
    }
