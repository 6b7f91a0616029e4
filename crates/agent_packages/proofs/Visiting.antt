-- Packages, one after the other.
use Rattle.std.proofs.Common.{◌≡◌, ℕ, ◌+◌, ◌<◌, List, [], ◌∷◌, ◌++◌, length, get_or, take, map, Bool, true, false, cond, Some, None, refl, sym, ◌∙◌, ap, subst, append_assoc}
use Rattle.std.specs.Prelude.{filter, fold}
use Rattle.std.specs.List.{flat_map, AllByRecursion}
use Rattle.std.proofs.lemmas.Grind.{take_at_read}
use Rattle.std.proofs.lemmas.List.{append-nil}
use Rattle.std.proofs.lemmas.List.Sums.{fold-append}
use Rattle.plain_values.specs.declared.maps.Pair.{Pair}
use Rattle.message_values.specs.declared.packages.PackageAvailable.{PackageAvailable}
use Rattle.message_values.specs.declared.packages.PackageStatus.{PackageStatus}
use Rattle.plain_values.specs.Pairs.{value_at, put_pair}
use Rattle.edge_devices.specs.Dialers.{DialerState, Asks}
use Rattle.edge_devices.specs.Folders.{FolderState, Makes}
use Rattle.edge_devices.proofs.Running.{makes_none, makes_append}
use Rattle.edge_devices.proofs.Asking.{asks_none, asks_append}
use Rattle.agent_packages.specs.declared.install.Ended.{Ended}
use Rattle.agent_packages.specs.Packages.{is_same}
use Rattle.agent_packages.specs.Statuses.{status_after, status_left}
use Rattle.agent_packages.specs.Visits.{Visit, IsVisit, Installs, visit_fetches, visit_writes, visit_statuses, under, put_next, IsVisited, Departure, IsDeparture, RemovesSo, departure_removes, departure_statuses, IsCleared}

flat_map_append : {X Y : Type 0} (f : X → List Y) (xs ys : List X) → flat_map f (xs ++ ys) ≡ flat_map f xs ++ flat_map f ys
flat_map_append f [] ys = refl
flat_map_append f (x ∷ xs) ys = ap (λ zs. f x ++ zs) (flat_map_append f xs ys) ∙ sym (append_assoc (f x) (flat_map f xs) (flat_map f ys))

map_append : {X Y : Type 0} (f : X → Y) (xs ys : List X) → map f (xs ++ ys) ≡ map f xs ++ map f ys
map_append f [] ys = refl
map_append f (x ∷ xs) ys = ap (λ zs. f x ∷ zs) (map_append f xs ys)

filter_append : {X : Type 0} (p : X → Bool) (xs ys : List X) → filter p (xs ++ ys) ≡ filter p xs ++ filter p ys
filter_append p [] ys = refl
filter_append p (x ∷ xs) ys = by_case (p x) (filter_append p xs ys)
  where
    by_case : (b : Bool) → filter p (xs ++ ys) ≡ filter p xs ++ filter p ys
        → cond b (x ∷ filter p (xs ++ ys)) (filter p (xs ++ ys)) ≡ cond b (x ∷ filter p xs) (filter p xs) ++ filter p ys
    by_case true e = ap (λ zs. x ∷ zs) e
    by_case false e = e

all_append : {X : Type 0} (P : X → Type 0) (xs ys : List X) → AllByRecursion P xs → AllByRecursion P ys → AllByRecursion P (xs ++ ys)
all_append P [] ys a b = b
all_append P (x ∷ xs) ys a b = (a.0, all_append P xs ys a.1 b)

pub cleared_none : (f : FolderState) (made : List (Pair PackageStatus)) → IsCleared f f [] made made
cleared_none f made = record { departures = []; items_are = refl; each = tt; removed = makes_none f; statuses = refl }

pub cleared_append : (f g h : FolderState) (xs ys : List (Pair PackageStatus)) (a b c : List (Pair PackageStatus)) → IsCleared f g xs a b → IsCleared g h ys b c → IsCleared f h (xs ++ ys) a c
cleared_append f g h xs ys a b c p q = record {
  departures = p.departures ++ q.departures;
  items_are = map_append (λ departure. departure.item) p.departures q.departures ∙ ap (λ items. items ++ map (λ (d : Departure). d.item) q.departures) p.items_are ∙ ap (λ items. xs ++ items) q.items_are;
  each = all_append IsDeparture p.departures q.departures p.each q.each;
  removed = subst (Makes f h) (sym (flat_map_append departure_removes p.departures q.departures))
      (makes_append f g h (flat_map departure_removes p.departures) (flat_map departure_removes q.departures) p.removed q.removed);
  statuses = q.statuses ∙ ap (λ made. fold put_next made (flat_map departure_statuses q.departures)) p.statuses
      ∙ sym (fold-append put_next a (flat_map departure_statuses p.departures) (flat_map departure_statuses q.departures))
      ∙ sym (ap (fold put_next a) (flat_map_append departure_statuses p.departures q.departures));
}

cleared_one : (f g : FolderState) (item : Pair PackageStatus) (a b : List (Pair PackageStatus)) (out : Bool) → RemovesSo f g item.key out
    → b ≡ fold put_next a (departure_statuses (record { item = item; out = out })) → IsCleared f g (item ∷ []) a b
cleared_one f g item a b out r e = record {
  departures = record { item = item; out = out } ∷ [];
  items_are = refl;
  each = (r.bad, tt);
  removed = subst (Makes f g) (sym (append-nil (departure_removes (record { item = item; out = out })))) r.removed;
  statuses = e ∙ ap (fold put_next a) (sym (append-nil (departure_statuses (record { item = item; out = out }))));
}

pub cleared_out : (f g : FolderState) (item : Pair PackageStatus) (a : List (Pair PackageStatus)) (out : Bool) → RemovesSo f g item.key out → out ≡ true → IsCleared f g (item ∷ []) a a
cleared_out f g item a out r is = cleared_one f g item a a out r (ap (λ out. fold put_next a (departure_statuses (record { item = item; out = out }))) (sym is))

pub cleared_left : (f g : FolderState) (item : Pair PackageStatus) (a b : List (Pair PackageStatus)) (out : Bool) (key : List ℕ) (status : PackageStatus)
    → RemovesSo f g item.key out → out ≡ false → key ≡ item.key → status ≡ status_left item.value → b ≡ put_pair a key status → IsCleared f g (item ∷ []) a b
cleared_left f g item a b out key status r is named so put =
    cleared_one f g item a b out r
    (put ∙ ap (λ key. put_pair a key status) named ∙ ap (put_pair a item.key) so
    ∙ ap (λ out. fold put_next a (departure_statuses (record { item = item; out = out }))) (sym is))

-- the loop over the packages that are held
pub cleared_more : (f g h : FolderState) (test : Pair PackageStatus → Bool) (items : List (Pair PackageStatus)) (i : ℕ) (x : Pair PackageStatus) (a b c : List (Pair PackageStatus))
    → IsCleared f g (filter test (take i items)) a b → i < length items → x ≡ get_or items i x → test x ≡ true → IsCleared g h (x ∷ []) b c
    → IsCleared f h (filter test (take (i + 1) items)) a c
cleared_more f g h test items i x a b c p within is passes q =
    subst (λ items. IsCleared f h items a c)
    (ap (λ t. filter test (take i items) ++ cond t (x ∷ []) []) (sym passes) ∙ sym (filter_append test (take i items) (x ∷ []))
    ∙ ap (λ y. filter test (take i items ++ y ∷ [])) is ∙ ap (filter test) (sym (take_at_read items i x within).1))
    (cleared_append f g h (filter test (take i items)) (x ∷ []) a b c p q)

pub cleared_same : (f g : FolderState) (test : Pair PackageStatus → Bool) (items : List (Pair PackageStatus)) (i : ℕ) (x : Pair PackageStatus) (a b : List (Pair PackageStatus))
    → IsCleared f g (filter test (take i items)) a b → i < length items → x ≡ get_or items i x → test x ≡ false → IsCleared f g (filter test (take (i + 1) items)) a b
cleared_same f g test items i x a b p within is fails =
    subst (λ items. IsCleared f g items a b)
    (sym (append-nil (filter test (take i items))) ∙ ap (λ t. filter test (take i items) ++ cond t (x ∷ []) []) (sym fails) ∙ sym (filter_append test (take i items) (x ∷ []))
    ∙ ap (λ y. filter test (take i items ++ y ∷ [])) is ∙ ap (filter test) (sym (take_at_read items i x within).1))
    p

pub visited_none : (d : DialerState) (f : FolderState) (held made : List (Pair PackageStatus)) → IsVisited d d f f held [] made made
visited_none d f held made = record { visits = []; items_are = refl; each = tt; fetched = asks_none d; written = makes_none f; statuses = refl }

pub visited_append : (c d e : DialerState) (f g h : FolderState) (held : List (Pair PackageStatus)) (xs ys : List (Pair PackageAvailable)) (u v w : List (Pair PackageStatus))
    → IsVisited c d f g held xs u v → IsVisited d e g h held ys v w → IsVisited c e f h held (xs ++ ys) u w
visited_append c d e f g h held xs ys u v w p q = record {
  visits = p.visits ++ q.visits;
  items_are = map_append (λ visit. visit.item) p.visits q.visits ∙ ap (λ items. items ++ map (λ (v : Visit). v.item) q.visits) p.items_are ∙ ap (λ items. xs ++ items) q.items_are;
  each = all_append (IsVisit held) p.visits q.visits p.each q.each;
  fetched = subst (Asks c e) (sym (flat_map_append visit_fetches p.visits q.visits)) (asks_append c d e (flat_map visit_fetches p.visits) (flat_map visit_fetches q.visits) p.fetched q.fetched);
  written = subst (Makes f h) (sym (flat_map_append visit_writes p.visits q.visits)) (makes_append f g h (flat_map visit_writes p.visits) (flat_map visit_writes q.visits) p.written q.written);
  statuses = q.statuses ∙ ap (λ made. fold put_next made (flat_map (visit_statuses held) q.visits)) p.statuses
      ∙ sym (fold-append put_next u (flat_map (visit_statuses held) p.visits) (flat_map (visit_statuses held) q.visits))
      ∙ sym (ap (fold put_next u) (flat_map_append (visit_statuses held) p.visits q.visits));
}

visited_one : (c d : DialerState) (f g : FolderState) (held : List (Pair PackageStatus)) (visit : Visit) (u v : List (Pair PackageStatus)) → IsVisit held visit
    → Asks c d (visit_fetches visit) → Makes f g (visit_writes visit) → v ≡ fold put_next u (visit_statuses held visit) → IsVisited c d f g held (visit.item ∷ []) u v
visited_one c d f g held visit u v is asks makes made = record {
  visits = visit ∷ [];
  items_are = refl;
  each = (is, tt);
  fetched = subst (Asks c d) (sym (append-nil (visit_fetches visit))) asks;
  written = subst (Makes f g) (sym (append-nil (visit_writes visit))) makes;
  statuses = made ∙ ap (fold put_next u) (sym (append-nil (visit_statuses held visit)));
}

pub visited_held : (c : DialerState) (f : FolderState) (held : List (Pair PackageStatus)) (item : Pair PackageAvailable) (u v : List (Pair PackageStatus))
    → is_same held item ≡ true → v ≡ fold put_next u (under item.key (value_at held item.key)) → IsVisited c c f f held (item ∷ []) u v
visited_held c f held item u v same made =
    visited_one c c f f held (record { item = item; ended = None; content = [] }) u v same (asks_none c) (makes_none f) made

pub visited_kept : (c : DialerState) (f : FolderState) (held : List (Pair PackageStatus)) (item : Pair PackageAvailable) (u v : List (Pair PackageStatus)) (key : List ℕ) (had status : PackageStatus)
    → is_same held item ≡ true → value_at held item.key ≡ Some had → key ≡ item.key → status ≡ had → v ≡ put_pair u key status → IsVisited c c f f held (item ∷ []) u v
visited_kept c f held item u v key had status same has named so put =
    visited_held c f held item u v same
    (put ∙ ap (λ key. put_pair u key status) named ∙ ap (put_pair u item.key) so ∙ ap (λ o. fold put_next u (under item.key o)) (sym has))

pub visited_lost : (c : DialerState) (f : FolderState) (held : List (Pair PackageStatus)) (item : Pair PackageAvailable) (u : List (Pair PackageStatus))
    → is_same held item ≡ true → value_at held item.key ≡ None → IsVisited c c f f held (item ∷ []) u u
visited_lost c f held item u same has = visited_held c f held item u u same (ap (λ o. fold put_next u (under item.key o)) (sym has))

pub visited_new : (c d : DialerState) (f g : FolderState) (held : List (Pair PackageStatus)) (item : Pair PackageAvailable) (u v : List (Pair PackageStatus)) (ended : Ended) (key : List ℕ) (status : PackageStatus)
    → is_same held item ≡ false → Installs c d f g item.key item.value ended → key ≡ item.key → status ≡ status_after item.key item.value (value_at held item.key) ended
    → v ≡ put_pair u key status → IsVisited c d f g held (item ∷ []) u v
visited_new c d f g held item u v ended key status other i named so put =
    visited_one c d f g held (record { item = item; ended = Some ended; content = i.content }) u v (other, i.ends) i.fetched i.written
    (put ∙ ap (λ key. put_pair u key status) named ∙ ap (put_pair u item.key) so)

-- the loop over the packages that are offered
pub visited_more : (c d e : DialerState) (f g h : FolderState) (held : List (Pair PackageStatus)) (items : List (Pair PackageAvailable)) (i : ℕ) (x : Pair PackageAvailable) (u v w : List (Pair PackageStatus))
    → IsVisited c d f g held (take i items) u v → i < length items → x ≡ get_or items i x → IsVisited d e g h held (x ∷ []) v w → IsVisited c e f h held (take (i + 1) items) u w
visited_more c d e f g h held items i x u v w p within is q =
    subst (λ items. IsVisited c e f h held items u w)
    (ap (λ y. take i items ++ y ∷ []) is ∙ sym (take_at_read items i x within).1)
    (visited_append c d e f g h held (take i items) (x ∷ []) u v w p q)
