-- Routes, after a report was noted or a connection was forgotten.
use Rattle.std.proofs.Common.{◌≡◌, ℕ, ◌+◌, ◌<◌, List, [], ◌∷◌, ◌++◌, Bool, true, false, not, ◌==◌, ◌||◌, ◌&&◌, length, take, get_or, slice_index, add-one, if◌then◌else◌, Result, Ok, Err, OnOk, OnErr, refl, sym, ap, ◌∙◌, subst, arith}
use Rattle.std.proofs.Math.Seq.{take-suc}
use Rattle.std.specs.Cmp.Lexicographic.{bytes_decides}
use Rattle.std.specs.Str.{bytes_eq}
use Rattle.plain_values.specs.declared.memory.NoMemory.{NoMemory}
use Rattle.server_sessions.specs.declared.answers.stepped.Handled.{Handled}
use Rattle.server_core.specs.History.{is_among}
use Rattle.server_deliveries.specs.Lists.{conns_at, agents_at, has_conn}
use Rattle.server_deliveries.specs.Routes.{Reach, without, routes_ended, routes_with, routes_without, routes_noted}
use Rattle.server_deliveries.specs.Views.{Agents, AreTied, Conns, Entries, reach_of}

pub has_without : (conn c : ℕ) (xs : List ℕ) → has_conn (without conn xs) c ≡ true → has_conn xs c ≡ true
has_without conn c [] h = h
has_without conn c (x ∷ xs) h = by_test (x == conn) h (has_without conn c xs)
  where
    by_test : (b : Bool) → has_conn (if not b then x ∷ without conn xs else without conn xs) c ≡ true → (has_conn (without conn xs) c ≡ true → has_conn xs c ≡ true) → ((x == c) || has_conn xs c) ≡ true
    by_test true h more = or_right (x == c) (has_conn xs c) (more h)
      where
        or_right : (a b : Bool) → b ≡ true → (a || b) ≡ true
        or_right true b e = refl
        or_right false b e = e
    by_test false h more = in_either (x == c) h
      where
        in_either : (a : Bool) → (a || has_conn (without conn xs) c) ≡ true → (a || has_conn xs c) ≡ true
        in_either true e = refl
        in_either false e = more e

pub not_without : (conn : ℕ) (xs : List ℕ) → has_conn (without conn xs) conn ≡ false
not_without conn [] = refl
not_without conn (x ∷ xs) = by_test (x == conn) refl (not_without conn xs)
  where
    by_test : (b : Bool) → (x == conn) ≡ b → has_conn (without conn xs) conn ≡ false → has_conn (if not b then x ∷ without conn xs else without conn xs) conn ≡ false
    by_test true e more = more
    by_test false e more = rw (e, more) refl

without_absent : (conn : ℕ) (xs : List ℕ) → has_conn xs conn ≡ false → without conn xs ≡ xs
without_absent conn [] h = refl
without_absent conn (x ∷ xs) h = by_test (x == conn) h (without_absent conn xs)
  where
    by_test : (b : Bool) → (b || has_conn xs conn) ≡ false → (has_conn xs conn ≡ false → without conn xs ≡ xs) → (if not b then x ∷ without conn xs else without conn xs) ≡ x ∷ xs
    by_test true h more = absurd (cc h)
    by_test false h more = ap (λ l. x ∷ l) (more h)

-- one that is added to the agents of a connection
tied_added : (m : Conns) (a b : Agents) (conn : ℕ) (uid : List ℕ) → AreTied m a
    → ((c : ℕ) → agents_at b c ≡ (if conn == c then agents_at a c ++ uid ∷ [] else agents_at a c)) → AreTied m b × (is_among (agents_at b conn) uid ≡ true)
tied_added m a b conn uid ties added = (record { tied = λ u c there. kept u c (conn == c) (added c) (ties.tied u c there) }, own (conn == conn) refl (added conn))
  where
    among_longer : (us : List (List ℕ)) (v u : List ℕ) → is_among us u ≡ true → is_among (us ++ v ∷ []) u ≡ true
    among_longer [] v u h = absurd (cc h)
    among_longer (w ∷ us) v u h = by_test (bytes_eq w u) h (among_longer us v u)
      where
        by_test : (t : Bool) → (t || is_among us u) ≡ true → (is_among us u ≡ true → is_among (us ++ v ∷ []) u ≡ true) → (t || is_among (us ++ v ∷ []) u) ≡ true
        by_test true h more = refl
        by_test false h more = more h

    among_last : (us : List (List ℕ)) (v : List ℕ) → is_among (us ++ v ∷ []) v ≡ true
    among_last [] v = rw ((bytes_decides v v).1 refl) refl
    among_last (w ∷ us) v = by_test (bytes_eq w v) (among_last us v)
      where
        by_test : (t : Bool) → is_among (us ++ v ∷ []) v ≡ true → (t || is_among (us ++ v ∷ []) v) ≡ true
        by_test true more = refl
        by_test false more = more

    kept : (u : List ℕ) (c : ℕ) (t : Bool) → agents_at b c ≡ (if t then agents_at a c ++ uid ∷ [] else agents_at a c) → is_among (agents_at a c) u ≡ true → is_among (agents_at b c) u ≡ true
    kept u c true is h = rw is (among_longer (agents_at a c) uid u h)
    kept u c false is h = rw is h

    own : (t : Bool) → (conn == conn) ≡ t → agents_at b conn ≡ (if t then agents_at a conn ++ uid ∷ [] else agents_at a conn) → is_among (agents_at b conn) uid ≡ true
    own true e is = rw is (among_last (agents_at a conn) uid)
    own false e is = absurd (grind (arith, e))

-- where there was room, and where there was none
pub tied_or_not : (m : Conns) (a b : Agents) (conn : ℕ) (uid : List ℕ) (r : Result Unit NoMemory)
    → OnOk r ((c : ℕ) → agents_at b c ≡ (if conn == c then agents_at a c ++ uid ∷ [] else agents_at a c)) → OnErr r ((c : ℕ) → agents_at b c ≡ agents_at a c)
    → AreTied m a → AreTied m b × OnOk r (is_among (agents_at b conn) uid ≡ true)
tied_or_not m a b conn uid (Ok done) added same ties = tied_added m a b conn uid ties added
tied_or_not m a b conn uid (Err e) added same ties = (record { tied = λ u c there. rw (same c) (ties.tied u c there) }, tt)

-- a connection is put first among those of the agent, or isn't among them
pub tied_put : (m n : Conns) (a : Agents) (conn : ℕ) (uid : List ℕ) (r : Result Unit NoMemory) → AreTied m a → is_among (agents_at a conn) uid ≡ true
    → OnOk r ((u : List ℕ) → conns_at n u ≡ (if bytes_eq uid u then conn ∷ without conn (conns_at m u) else conns_at m u))
    → OnErr r ((u : List ℕ) → conns_at n u ≡ (if bytes_eq uid u then without conn (conns_at m u) else conns_at m u))
    → AreTied n a
tied_put m n a conn uid (Ok done) ties own put left = record { tied = λ u c there. by_test u c (bytes_eq uid u) refl (put u) there }
  where
    by_test : (u : List ℕ) (c : ℕ) (t : Bool) → bytes_eq uid u ≡ t → conns_at n u ≡ (if t then conn ∷ without conn (conns_at m u) else conns_at m u) → has_conn (conns_at n u) c ≡ true → is_among (agents_at a c) u ≡ true
    by_test u c false e is there = ties.tied u c (rw is at there)
    by_test u c true e is there = by_same (conn == c) refl (rw is at there)
      where
        by_same : (s : Bool) → (conn == c) ≡ s → (s || has_conn (without conn (conns_at m u)) c) ≡ true → is_among (agents_at a c) u ≡ true
        by_same true same h = let equal : conn ≡ c = grind (arith, same) in subst (λ d. is_among (agents_at a d) u ≡ true) equal (subst (λ v. is_among (agents_at a conn) v ≡ true) ((bytes_decides uid u).0 e) own)
        by_same false same h = ties.tied u c (has_without conn c (conns_at m u) h)
tied_put m n a conn uid (Err e) ties own put left = record { tied = λ u c there. by_test u c (bytes_eq uid u) (left u) there }
  where
    by_test : (u : List ℕ) (c : ℕ) (t : Bool) → conns_at n u ≡ (if t then without conn (conns_at m u) else conns_at m u) → has_conn (conns_at n u) c ≡ true → is_among (agents_at a c) u ≡ true
    by_test u c false is there = ties.tied u c (rw is at there)
    by_test u c true is there = ties.tied u c (has_without conn c (conns_at m u) (rw is at there))

-- a connection is forgotten
module _ (m n : Conns) (a b : Agents) (conn : ℕ) (uids : List (List ℕ)) (ties : AreTied m a) (taken : uids ≡ agents_at a conn)
    (dropped : (u : List ℕ) → conns_at n u ≡ (if is_among uids u then without conn (conns_at m u) else conns_at m u)) where
  pub forgotten : (u : List ℕ) → conns_at n u ≡ without conn (conns_at m u)
  forgotten u = by_among (is_among uids u) refl (dropped u)
    where
      by_has : (t : Bool) → has_conn (conns_at m u) conn ≡ t → is_among uids u ≡ false → conns_at n u ≡ conns_at m u → conns_at n u ≡ without conn (conns_at m u)
      by_has true h away is = absurd (cc (ties.tied u conn h, ap (λ l. is_among l u) taken, away))
      by_has false h away is = is ∙ sym (without_absent conn (conns_at m u) h)

      by_among : (t : Bool) → is_among uids u ≡ t → conns_at n u ≡ (if t then without conn (conns_at m u) else conns_at m u) → conns_at n u ≡ without conn (conns_at m u)
      by_among true e is = is
      by_among false e is = by_has (has_conn (conns_at m u) conn) refl e is

  pub tied_forgotten : ((c : ℕ) → agents_at b c ≡ (if conn == c then [] else agents_at a c)) → AreTied n b
  tied_forgotten others = record { tied = λ u c there. by_same u c (conn == c) refl (others c) (rw (forgotten u) at there) }
    where
      by_same : (u : List ℕ) (c : ℕ) (t : Bool) → (conn == c) ≡ t → agents_at b c ≡ (if t then [] else agents_at a c) → has_conn (without conn (conns_at m u)) c ≡ true → is_among (agents_at b c) u ≡ true
      by_same u c true e is there =
          let equal : conn ≡ c = grind (arith, e) in
          absurd (cc (not_without conn (conns_at m u), subst (λ d. has_conn (without conn (conns_at m u)) d ≡ true) (sym equal) there))
      by_same u c false e is there = rw is (ties.tied u c (has_without conn c (conns_at m u) there))

-- one more report
noted_more : (done : List Handled) (h : Handled) (routes : Reach) (uid : List ℕ) → routes_noted (done ++ h ∷ []) routes uid ≡ routes_with h (routes_noted done routes) uid
noted_more [] h routes uid = refl
noted_more (d ∷ done) h routes uid = noted_more done h (routes_with d routes) uid

pub noted_next : (now mid old : Entries) (handled : List Handled) (i : ℕ) (h : Handled) (uid : List ℕ) → i < length handled → h ≡ get_or handled i h
    → reach_of now uid ≡ routes_with h (reach_of mid) uid → reach_of mid uid ≡ routes_noted (take i handled) (reach_of old) uid
    → reach_of now uid ≡ routes_noted (take (i + 1) handled) (reach_of old) uid
noted_next now mid old handled i h uid within here more so_far =
    let longer : take (i + 1) handled ≡ take i handled ++ h ∷ [] = ap (λ n. take n handled) (add-one i) ∙ take-suc handled i h within ∙ ap (λ y. take i handled ++ y ∷ []) (sym here) in
    more ∙ ap (λ (xs : List ℕ). if h.ws && bytes_eq h.uid uid then h.conn ∷ without h.conn xs else xs) so_far ∙ sym (noted_more (take i handled) h (reach_of old) uid)
    ∙ sym (ap (λ (l : List Handled). routes_noted l (reach_of old) uid) longer)

-- one more connection that ended
ended_more : (done : List ℕ) (conn : ℕ) (routes : Reach) (uid : List ℕ) → routes_ended (done ++ conn ∷ []) routes uid ≡ without conn (routes_ended done routes uid)
ended_more [] conn routes uid = refl
ended_more (d ∷ done) conn routes uid = ended_more done conn (routes_without d routes) uid

pub ended_next : (now mid old : Entries) (ended : List ℕ) (i : ℕ) (uid : List ℕ) → i < length ended
    → reach_of now uid ≡ without (slice_index ended i) (reach_of mid uid) → reach_of mid uid ≡ routes_ended (take i ended) (reach_of old) uid
    → reach_of now uid ≡ routes_ended (take (i + 1) ended) (reach_of old) uid
ended_next now mid old ended i uid within more so_far =
    let longer : take (i + 1) ended ≡ take i ended ++ slice_index ended i ∷ [] = ap (λ n. take n ended) (add-one i) ∙ take-suc ended i 0 within in
    more ∙ ap (without (slice_index ended i)) so_far ∙ sym (ended_more (take i ended) (slice_index ended i) (reach_of old) uid)
    ∙ sym (ap (λ (l : List ℕ). routes_ended l (reach_of old) uid) longer)
