-- Of which agents it isn't known what became of the offer.
use Rattle.std.proofs.Common.{◌≡◌, ℕ, ◌+◌, ◌<◌, List, [], ◌∷◌, ◌++◌, length, get_or, take, drop, filter, Bool, true, false, not, cond, ◌||◌, Option, refl, sym, ◌∙◌, ap, subst, append-nil}
use Rattle.std.specs.Cmp.Lexicographic.{bytes_decides}
use Rattle.std.specs.List.{list_any}
use Rattle.std.specs.Str.{bytes_eq}
use Rattle.std.proofs.lemmas.List.{take-append-drop}
use Rattle.std.proofs.lemmas.List.Folds.{list_any-append}
use Rattle.server_core.specs.declared.rows.Record.{Record}
use Rattle.server_core.specs.History.{is_among}
use Rattle.server_core.specs.Table.{find_record}
use Rattle.server_waves.specs.Candidates.{AreUndecided, AreUndecidedBut, IsUnknownOf}
use Rattle.server_waves.specs.Waves.{Waves, has_applied, has_failed, is_decided, others, passes, settled, those}
use Rattle.server_waves.proofs.Few.{AreOpen, joins, joins_not, longer, more_open, others_stay, parts}
use Rattle.server_waves.proofs.Indexing.{among_more}
use Rattle.server_waves.proofs.WaveLemmas.{known_by}

-- who was none before, where who was one is one still
pub none_before : (old new : List ℕ → Bool) → ((u : List ℕ) → old u ≡ true → new u ≡ true) → (uid : List ℕ) → new uid ≡ false → old uid ≡ false
none_before old new kept uid isnt = by_old (old uid) refl
  where
    by_old : (b : Bool) → old uid ≡ b → b ≡ false
    by_old true is = let now : new uid ≡ true = kept uid is in absurd (cc)
    by_old false is = refl

same_bytes : (u : List ℕ) → bytes_eq u u ≡ true
same_bytes u = (bytes_decides u u).1 refl

or_true : (a b : Bool) → b ≡ true → (a || b) ≡ true
or_true true b is = refl
or_true false b is = is

or_cases : {P : Type 0} (a b : Bool) → (a || b) ≡ true → (a ≡ true → P) → (b ≡ true → P) → P
or_cases true b is first second = first refl
or_cases false b is first second = second is

or_none : (b : Bool) → (b || false) ≡ true → b ≡ true
or_none true is = refl
or_none false is = is

-- the last agent of a list is among them
pub among_last : (all : Bool) (xs ys : List (List ℕ)) (u : List ℕ) → ys ≡ xs ++ u ∷ [] → (all || is_among ys u) ≡ true
among_last all xs ys u is =
    or_true all (is_among ys u)
    (ap (λ (us : List (List ℕ)). is_among us u) is ∙ list_any-append (λ v. bytes_eq v u) xs (u ∷ []) ∙ or_true (is_among xs u) (bytes_eq u u || false) (ap (λ b. b || false) (same_bytes u)))

-- one more was weighed
module _ {T : Type 0} (uid_of : T → List ℕ) (old new decided : List ℕ → Bool) (kept : (u : List ℕ) → old u ≡ true → new u ≡ true) where
  pub weighed_more : (xs : List T) (i : ℕ) (x : T) → i < length xs → x ≡ get_or xs i x
      → ((uid : List ℕ) → list_any (λ y. bytes_eq (uid_of y) uid) (take i xs) ≡ true → old uid ≡ false → decided uid ≡ false)
      → (new (uid_of x) ≡ false → decided (uid_of x) ≡ false)
      → (uid : List ℕ) → list_any (λ y. bytes_eq (uid_of y) uid) (take (i + 1) xs) ≡ true → new uid ≡ false → decided uid ≡ false
  weighed_more xs i x within is before here = λ uid there isnt.
      or_cases (list_any (λ y. bytes_eq (uid_of y) uid) (take i xs)) (bytes_eq (uid_of x) uid || false)
      (sym (list_any-append (λ y. bytes_eq (uid_of y) uid) (take i xs) (x ∷ [])) ∙ ap (list_any (λ y. bytes_eq (uid_of y) uid)) (sym (longer xs i x within is)) ∙ there)
      (λ seen. before uid seen (none_before old new kept uid isnt))
      (λ own.
      let same : uid_of x ≡ uid = (bytes_decides (uid_of x) uid).0 (or_none (bytes_eq (uid_of x) uid) own) in
      subst (λ (u : List ℕ). decided u ≡ false) same (here (ap new same ∙ isnt)))

-- the agent at a place is among them
pub among_at : (xs : List (List ℕ)) (i : ℕ) (u : List ℕ) → i < length xs → u ≡ get_or xs i u → is_among xs u ≡ true
among_at xs i u within is =
    ap (λ (ys : List (List ℕ)). is_among ys u) (parts xs i u within is)
    ∙ list_any-append (λ v. bytes_eq v u) (take i xs) (u ∷ drop (i + 1) xs)
    ∙ or_true (is_among (take i xs) u) (bytes_eq u u || is_among (drop (i + 1) xs) u) (ap (λ b. b || is_among (drop (i + 1) xs) u) (same_bytes u))

-- without one of them no more are among them
pub among_without : (xs : List (List ℕ)) (i : ℕ) (u : List ℕ) → i < length xs → u ≡ get_or xs i u → (uid : List ℕ) → is_among (take i xs ++ drop (i + 1) xs) uid ≡ true → is_among xs uid ≡ true
among_without xs i u within is uid there =
    ap (λ (ys : List (List ℕ)). is_among ys uid) (parts xs i u within is)
    ∙ list_any-append (λ v. bytes_eq v uid) (take i xs) (u ∷ drop (i + 1) xs)
    ∙ wider (is_among (take i xs) uid) (bytes_eq u uid) (is_among (drop (i + 1) xs) uid) (sym (list_any-append (λ v. bytes_eq v uid) (take i xs) (drop (i + 1) xs)) ∙ there)
  where
    wider : (a b d : Bool) → (a || d) ≡ true → (a || (b || d)) ≡ true
    wider true b d h = refl
    wider false true d h = refl
    wider false false d h = h

-- who passes a filter passes its test
pub among_filter : (test : List ℕ → Bool) (xs : List (List ℕ)) (uid : List ℕ) → is_among (filter test xs) uid ≡ true → test uid ≡ true
among_filter test [] uid there = absurd (cc there)
among_filter test (x ∷ xs) uid there = by_test (test x) refl there (among_filter test xs uid)
  where
    by_test : (b : Bool) → test x ≡ b → is_among (cond b (x ∷ filter test xs) (filter test xs)) uid ≡ true → (is_among (filter test xs) uid ≡ true → test uid ≡ true) → test uid ≡ true
    by_test true is h more =
        or_cases (bytes_eq x uid) (is_among (filter test xs) uid) h
        (λ own. ap test (sym ((bytes_decides x uid).0 own)) ∙ is)
        more
    by_test false is h more = more h

-- of two lists, the one behind the other
pub among_both : {P : Type 0} (xs ys : List (List ℕ)) (uid : List ℕ) → is_among (xs ++ ys) uid ≡ true → (is_among xs uid ≡ true → P) → (is_among ys uid ≡ true → P) → P
among_both xs ys uid there first second = or_cases (is_among xs uid) (is_among ys uid) (sym (list_any-append (λ v. bytes_eq v uid) xs ys) ∙ there) first second

not_false : (b : Bool) → not b ≡ true → b ≡ false
not_false true is = absurd (cc is)
not_false false is = refl

module _ (fine : Record → Bool) (hash : List ℕ) (records : List Record) where
  -- who stays behind a look-up isn't decided
  pub stays_undecided : (uids : List (List ℕ)) (uid : List ℕ) → is_among (others (is_decided fine hash) records uids) uid ≡ true → passes (is_decided fine hash) (find_record records uid) ≡ false
  stays_undecided uids uid there = not_false (passes (is_decided fine hash) (find_record records uid)) (among_filter (λ u. not (passes (is_decided fine hash) (find_record records u))) uids uid there)

  -- where none is decided
  pub undecided_all : (uids : List (List ℕ)) → ((uid : List ℕ) → is_among uids uid ≡ true → passes (is_decided fine hash) (find_record records uid) ≡ false) → AreUndecided fine hash records uids
  undecided_all [] each = record { stay = refl; none_applied = refl; none_failed = refl }
  undecided_all (u ∷ uids) each =
      let rest : AreUndecided fine hash records uids = undecided_all uids (λ uid there. each uid (or_true (bytes_eq u uid) (is_among uids uid) there)) in
      let own : passes (is_decided fine hash) (find_record records u) ≡ false = each u (ap (λ b. b || is_among uids u) (same_bytes u)) in
      by_tests (passes (is_decided fine hash) (find_record records u)) (passes (has_applied fine hash) (find_record records u)) (passes (has_failed fine hash) (find_record records u)) refl refl refl
      own (sym (known_by fine hash records (find_record records u)) ∙ own) rest
    where
      by_tests : (d a f : Bool) → passes (is_decided fine hash) (find_record records u) ≡ d → passes (has_applied fine hash) (find_record records u) ≡ a → passes (has_failed fine hash) (find_record records u) ≡ f
          → d ≡ false → (a || f) ≡ false → AreUndecided fine hash records uids → AreUndecided fine hash records (u ∷ uids)
      by_tests false false false p q r isnt none rest = record {
        stay = rw p (ap (λ us. u ∷ us) rest.stay);
        none_applied = rw q rest.none_applied;
        none_failed = rw r rest.none_failed;
      }
      by_tests true a f p q r isnt none rest = absurd (cc isnt)
      by_tests false true f p q r isnt none rest = absurd (cc none)
      by_tests false false true p q r isnt none rest = absurd (cc none)

  pub decided_applied : (found : Option Record) → passes (has_applied fine hash) found ≡ true → passes (is_decided fine hash) found ≡ true
  decided_applied found does = known_by fine hash records found ∙ ap (λ b. b || passes (has_failed fine hash) found) does

  pub decided_failed : (found : Option Record) → passes (has_failed fine hash) found ≡ true → passes (is_decided fine hash) found ≡ true
  decided_failed found does = known_by fine hash records found ∙ or_true (passes (has_applied fine hash) found) (passes (has_failed fine hash) found) does

  pub decided_not : (found : Option Record) → passes (has_applied fine hash) found ≡ false → passes (has_failed fine hash) found ≡ false → passes (is_decided fine hash) found ≡ false
  decided_not found one two = known_by fine hash records found ∙ ap (λ b. b || passes (has_failed fine hash) found) one ∙ two

  -- one more that is open
  pub step_open : (xs : List (List ℕ)) (i : ℕ) (u : List ℕ) → i < length xs → u ≡ get_or xs i u → AreUndecided fine hash records (take i xs) → passes (is_decided fine hash) (find_record records u) ≡ false
      → AreUndecided fine hash records (take (i + 1) xs)
  step_open xs i u within is front isnt =
      let more : AreOpen (λ v. passes (is_decided fine hash) (find_record records v)) (λ v. passes (has_applied fine hash) (find_record records v)) (λ v. passes (has_failed fine hash) (find_record records v)) (take i xs ++ u ∷ []) =
      more_open (λ v. passes (is_decided fine hash) (find_record records v)) (λ v. passes (has_applied fine hash) (find_record records v)) (λ v. passes (has_failed fine hash) (find_record records v))
      (λ v. known_by fine hash records (find_record records v)) (take i xs) u (record { stay = front.stay; none_applied = front.none_applied; none_failed = front.none_failed }) isnt in
      subst (λ (ys : List (List ℕ)). AreUndecided fine hash records ys) (sym (longer xs i u within is)) (record { stay = more.stay; none_applied = more.none_applied; none_failed = more.none_failed })

  module _ (xs new : List (List ℕ)) (i : ℕ) (u : List ℕ) (within : i < length xs) (is : u ≡ get_or xs i u) (without : new ≡ take i xs ++ drop (i + 1) xs) where
    -- one that is decided is taken out
    pub taken_others : passes (is_decided fine hash) (find_record records u) ≡ true → others (is_decided fine hash) records new ≡ others (is_decided fine hash) records xs
    taken_others does =
        ap (others (is_decided fine hash) records) without
        ∙ others_stay (λ v. passes (is_decided fine hash) (find_record records v)) (λ v. passes (has_applied fine hash) (find_record records v)) (λ v. passes (has_failed fine hash) (find_record records v)) (take i xs) (drop (i + 1) xs) u does
        ∙ ap (others (is_decided fine hash) records) (sym (parts xs i u within is))

    -- and comes behind those of its list
    pub taken_joins : (test : Record → Bool) (list now : List (List ℕ)) → now ≡ list ++ u ∷ [] → those test records (take i xs) ≡ [] → passes test (find_record records u) ≡ true
        → now ++ those test records new ≡ list ++ those test records xs
    taken_joins test list now last none does =
        ap (λ (ys : List (List ℕ)). ys ++ those test records new) last
        ∙ ap (λ (ys : List (List ℕ)). (list ++ u ∷ []) ++ those test records ys) without
        ∙ joins (λ v. passes (is_decided fine hash) (find_record records v)) (λ v. passes (has_applied fine hash) (find_record records v)) (λ v. passes (has_failed fine hash) (find_record records v)) (take i xs) (drop (i + 1) xs) u
        (λ v. passes test (find_record records v)) list none does
        ∙ ap (λ (ys : List (List ℕ)). list ++ those test records ys) (sym (parts xs i u within is))

    pub taken_not : (test : Record → Bool) (list : List (List ℕ)) → passes test (find_record records u) ≡ false → list ++ those test records new ≡ list ++ those test records xs
    taken_not test list isnt =
        ap (λ (ys : List (List ℕ)). list ++ those test records ys) without
        ∙ joins_not (λ v. passes (is_decided fine hash) (find_record records v)) (λ v. passes (has_applied fine hash) (find_record records v)) (λ v. passes (has_failed fine hash) (find_record records v)) (take i xs) (drop (i + 1) xs) u
        (λ v. passes test (find_record records v)) list isnt
        ∙ ap (λ (ys : List (List ℕ)). list ++ those test records ys) (sym (parts xs i u within is))

    pub taken_fewer : (uid : List ℕ) → is_among new uid ≡ true → is_among xs uid ≡ true
    taken_fewer uid there = among_without xs i u within is uid (ap (λ (ys : List (List ℕ)). is_among ys uid) (sym without) ∙ there)

  -- a look-up changes nothing
  pub settled_none : (waves : Waves) → AreUndecided fine hash records waves.offered → waves ≡ settled fine hash records waves
  settled_none waves undecided =
      sym (ap (λ (os : List (List ℕ)). record waves { offered = os; applied = waves.applied ++ those (has_applied fine hash) records waves.offered; failed = waves.failed ++ those (has_failed fine hash) records waves.offered }) undecided.stay
      ∙ ap (λ (xs : List (List ℕ)). record waves { offered = waves.offered; applied = waves.applied ++ xs; failed = waves.failed ++ those (has_failed fine hash) records waves.offered }) undecided.none_applied
      ∙ ap (λ (xs : List (List ℕ)). record waves { offered = waves.offered; applied = waves.applied ++ []; failed = waves.failed ++ xs }) undecided.none_failed
      ∙ ap (λ (xs : List (List ℕ)). record waves { offered = waves.offered; applied = xs; failed = waves.failed ++ [] }) (append-nil waves.applied)
      ∙ ap (λ (xs : List (List ℕ)). record waves { offered = waves.offered; applied = waves.applied; failed = xs }) (append-nil waves.failed))

-- Those that stay behind a look-up aren't decided, wherever their records are the same.
pub stays_unknown : (fine : Record → Bool) (hash : List ℕ) (records later : List Record) → later ≡ records → (offered stay : List (List ℕ)) → stay ≡ others (is_decided fine hash) records offered → IsUnknownOf fine hash later stay
stays_unknown fine hash records later same offered stay is = λ uid there.
    ap (λ (rs : List Record). passes (is_decided fine hash) (find_record rs uid)) same
    ∙ stays_undecided fine hash records offered uid (ap (λ (us : List (List ℕ)). is_among us uid) (sym is) ∙ there)

-- Those that are heard were weighed.
pub heard_undecided : (old new : List ℕ → Bool) (heard : List (List ℕ)) (fine : Record → Bool) (hash : List ℕ) (records : List Record) (offered : List (List ℕ)) → ((u : List ℕ) → old u ≡ true → new u ≡ true)
    → AreUndecidedBut (λ u. old u || is_among heard u) fine hash records offered
    → ((uid : List ℕ) → is_among heard uid ≡ true → new uid ≡ false → passes (is_decided fine hash) (find_record records uid) ≡ false)
    → AreUndecidedBut new fine hash records offered
heard_undecided old new heard fine hash records offered kept others weighed = λ uid there isnt. by_heard uid there isnt (is_among heard uid) refl
  where
    by_heard : (uid : List ℕ) → is_among offered uid ≡ true → new uid ≡ false → (b : Bool) → is_among heard uid ≡ b → passes (is_decided fine hash) (find_record records uid) ≡ false
    by_heard uid there isnt true is = weighed uid is isnt
    by_heard uid there isnt false is = others uid there (ap (λ b. b || is_among heard uid) (none_before old new kept uid isnt) ∙ is)

-- of two tests that fail each fails
pub first_none : (a b : Bool) → (a || b) ≡ false → a ≡ false
first_none true b is = absurd (cc is)
first_none false b is = refl

pub second_none : (a b : Bool) → (a || b) ≡ false → b ≡ false
second_none true b is = absurd (cc is)
second_none false b is = is

-- where all are candidates
pub all_candidates : (fine : Record → Bool) (hash : List ℕ) (records : List Record) (offered : List (List ℕ)) (all : Bool) (uids : List (List ℕ)) → all ≡ true
    → AreUndecidedBut (λ u. all || is_among uids u) fine hash records offered
all_candidates fine hash records offered true uids is = λ uid there isnt. absurd (cc isnt)
all_candidates fine hash records offered false uids is = absurd (cc is)

-- Nothing is known of those that had the offer, and of those behind them only of the candidates.
pub later_undecided : (but : List ℕ → Bool) (fine : Record → Bool) (hash : List ℕ) (records : List Record) (offered : List (List ℕ)) (from : ℕ) → IsUnknownOf fine hash records (take from offered)
    → AreUndecidedBut but fine hash records (drop from offered) → AreUndecidedBut but fine hash records offered
later_undecided but fine hash records offered from unknown weighed = λ uid there isnt.
    among_both (take from offered) (drop from offered) uid (ap (λ (us : List (List ℕ)). is_among us uid) (take-append-drop from offered) ∙ there)
    (λ first. unknown uid first)
    (λ second. weighed uid second isnt)

-- one more is a candidate
pub added_more : (old new : List ℕ → Bool) (xs : List (List ℕ)) (i : ℕ) (x : List ℕ) → i < length xs → x ≡ get_or xs i x → ((u : List ℕ) → old u ≡ true → new u ≡ true) → new x ≡ true
    → ((u : List ℕ) → is_among (take i xs) u ≡ true → old u ≡ true) → (u : List ℕ) → is_among (take (i + 1) xs) u ≡ true → new u ≡ true
added_more old new xs i x within is kept own before u there =
    or_cases (bytes_eq x u) (is_among (take i xs) u) (among_more xs i x u within is ∙ there)
    (λ same. ap new (sym ((bytes_decides x u).0 same)) ∙ own)
    (λ seen. kept u (before u seen))
