-- That what is kept of the agents stays so where room is made, and where an agent joins, fails or leaves.
use Rattle.std.proofs.Common.{◌≡◌, ℕ, ◌≤◌, List, [], ◌∷◌, ◌++◌, ◌+◌, Bool, true, false, not, cond, ◌||◌, ◌&&◌, take, drop, length, length-append, refl, sym, ◌∙◌, ap, subst, vec_len, vec_capacity, arith}
use Rattle.std.specs.Str.{bytes_eq}
use Rattle.std.proofs.Math.Seq.{drop-append_seam, take-append_seam}
use Rattle.std.proofs.lemmas.List.{drop-append-le, take-append-drop, take-append-le}
use Rattle.std.proofs.lemmas.List.Elements.{filter-append}
use Rattle.server_core.specs.History.{is_among}
use Rattle.server_waves.specs.Kept.{IsKept}
use Rattle.server_waves.specs.Waves.{Waves, without}
use Rattle.server_waves.specs.declared.members.Members.TheInside.{Inside}
use Rattle.server_waves.proofs.Among.{among_append, left_out}
use Rattle.server_waves.proofs.Indexing.{swapped}

pub at_least : (n : ℕ) → n ≤ n
at_least n = omega arith

-- The lists are the same, with as much room or more for those that were offered.
pub record HasRoom (a b : Inside) : Type 0 where
  pub failed : b.failed.items ≡ a.failed.items
  pub excused : b.excused ≡ a.excused
  pub spare : b.spare.items ≡ a.spare.items
  pub offered_len : vec_len b.offered ≡ vec_len a.offered
  pub applied_len : vec_len b.applied ≡ vec_len a.applied
  pub failed_len : vec_len b.failed ≡ vec_len a.failed
  pub applied_room : vec_capacity a.applied ≤ vec_capacity b.applied
  pub failed_room : vec_capacity a.failed ≤ vec_capacity b.failed
  pub spare_room : vec_capacity a.spare ≤ vec_capacity b.spare

-- no more are excused than failed
pub excused_as : (n m : ℕ) (xs ys : List (List ℕ)) → m ≡ n → ys ≡ xs → n ≤ length xs → m ≤ length ys
excused_as n m xs ys same list few = subst (λ (k : ℕ). k ≤ length ys) (sym same) (subst (λ (us : List (List ℕ)). n ≤ length us) (sym list) few)

pub excused_more : (n : ℕ) (xs ys zs : List (List ℕ)) → ys ≡ xs ++ zs → n ≤ length xs → n ≤ length ys
excused_more n xs ys zs is few =
    let longer : length ys ≡ length xs + length zs = ap length is ∙ length-append xs zs in
    omega (arith, few, longer)

module _ (a b : Inside) (kept : IsKept a) where
  stays : HasRoom a b → ((u : List ℕ) → is_among b.known u ≡ is_among b.joined.items u) → IsKept b
  stays room known = record {
    known = known;
    excused = excused_as a.excused b.excused a.failed.items b.failed.items room.excused room.failed kept.excused;
    spare = room.spare ∙ kept.spare;
    room_to_stay = omega (arith, kept.room_to_stay, room.offered_len, room.spare_room);
    room_to_apply = omega (arith, kept.room_to_apply, room.offered_len, room.applied_len, room.applied_room);
    room_to_fail = omega (arith, kept.room_to_fail, room.offered_len, room.failed_len, room.failed_room);
  }

  -- room was made
  pub reserved : HasRoom a b → ((u : List ℕ) → is_among b.known u ≡ is_among a.known u) → b.joined.items ≡ a.joined.items → IsKept b
  reserved room known joined = stays room (λ u. known u ∙ kept.known u ∙ ap (λ (us : List (List ℕ)). is_among us u) (sym joined))

  last : (own others : Bool) → (own || others) ≡ (others || (own || false))
  last true true = refl
  last true false = refl
  last false true = refl
  last false false = refl

  -- an agent joined
  pub joins_last : (uid : List ℕ) → HasRoom a b → ((u : List ℕ) → is_among b.known u ≡ (bytes_eq uid u || is_among a.known u)) → b.joined.items ≡ a.joined.items ++ uid ∷ [] → IsKept b
  joins_last uid room known joined = stays room (λ u.
      known u ∙ ap (λ (k : Bool). bytes_eq uid u || k) (kept.known u) ∙ last (bytes_eq uid u) (is_among a.joined.items u)
      ∙ sym (among_append a.joined.items (uid ∷ []) u)
      ∙ ap (λ (us : List (List ℕ)). is_among us u) (sym joined))

-- where more failed, as many are excused
pub failed_behind : (n : ℕ) (xs ys zs : List (List ℕ)) → ys ≡ xs ++ zs → n ≤ length xs → drop n ys ≡ drop n xs ++ zs
failed_behind n xs ys zs is few = ap (drop n) is ∙ drop-append-le n xs zs few

pub excused_same : (n : ℕ) (xs ys zs : List (List ℕ)) → ys ≡ xs ++ zs → n ≤ length xs → take n ys ≡ take n xs
excused_same n xs ys zs is few = ap (take n) is ∙ take-append-le n xs zs few

-- the same lists are the same place
abbrev place_of : List (List ℕ) → List (List ℕ) → List (List ℕ) → List (List ℕ) → List (List ℕ) → List (List ℕ) → Bool → Waves
place_of members waiting offered applied failed excused halted = record { members = members; waiting = waiting; offered = offered; applied = applied; failed = failed; excused = excused; halted = halted }

pub waves_same : (a b : Waves) → a.members ≡ b.members → a.waiting ≡ b.waiting → a.offered ≡ b.offered → a.applied ≡ b.applied → a.failed ≡ b.failed → a.excused ≡ b.excused → a.halted ≡ b.halted → a ≡ b
waves_same a b p q r s t u v =
    ap (λ x. place_of x a.waiting a.offered a.applied a.failed a.excused a.halted) p
    ∙ ap (λ x. place_of b.members x a.offered a.applied a.failed a.excused a.halted) q
    ∙ ap (λ x. place_of b.members b.waiting x a.applied a.failed a.excused a.halted) r
    ∙ ap (λ x. place_of b.members b.waiting b.offered x a.failed a.excused a.halted) s
    ∙ ap (λ x. place_of b.members b.waiting b.offered b.applied x a.excused a.halted) t
    ∙ ap (λ x. place_of b.members b.waiting b.offered b.applied b.failed x a.halted) u
    ∙ ap (λ x. place_of b.members b.waiting b.offered b.applied b.failed b.excused x) v

-- ---- an agent leaves

and_not : (a b : Bool) → (a && not b) ≡ cond b false a
and_not true true = refl
and_not false true = refl
and_not true false = refl
and_not false false = refl

-- who is known without one
pub known_left : (uid : List ℕ) (known known2 joined joined2 : List (List ℕ)) → ((u : List ℕ) → is_among known u ≡ is_among joined u) → ((u : List ℕ) → is_among known2 u ≡ cond (bytes_eq uid u) false (is_among known u))
    → joined2 ≡ without uid joined → (u : List ℕ) → is_among known2 u ≡ is_among joined2 u
known_left uid known known2 joined joined2 same removed left u =
    removed u ∙ ap (λ b. cond (bytes_eq uid u) false b) (same u)
    ∙ ap (λ b. cond b false (is_among joined u)) (swapped uid u)
    ∙ sym (and_not (is_among joined u) (bytes_eq u uid))
    ∙ sym (left_out uid joined u) ∙ ap (λ (us : List (List ℕ)). is_among us u) (sym left)

-- a list without one, in two parts
pub without_parts : (uid : List ℕ) (n : ℕ) (xs : List (List ℕ)) → without uid xs ≡ without uid (take n xs) ++ without uid (drop n xs)
without_parts uid n xs = ap (without uid) (sym (take-append-drop n xs)) ∙ filter-append (λ u. not (bytes_eq u uid)) (take n xs) (drop n xs)

module _ (uid : List ℕ) (n m : ℕ) (xs ys : List (List ℕ)) (left : ys ≡ without uid xs) (number : m ≡ length (without uid (take n xs))) where
  shown : ys ≡ without uid (take n xs) ++ without uid (drop n xs)
  shown = left ∙ without_parts uid n xs

  pub first_left : take m ys ≡ without uid (take n xs)
  first_left = ap (λ k. take k ys) number ∙ ap (take (length (without uid (take n xs)))) shown ∙ take-append_seam (without uid (take n xs)) (without uid (drop n xs))

  pub rest_left : drop m ys ≡ without uid (drop n xs)
  rest_left = ap (λ k. drop k ys) number ∙ ap (drop (length (without uid (take n xs)))) shown ∙ drop-append_seam (without uid (take n xs)) (without uid (drop n xs))

  pub few_left : m ≤ length ys
  few_left =
      let all : length ys ≡ length (without uid (take n xs)) + length (without uid (drop n xs)) = ap length shown ∙ length-append (without uid (take n xs)) (without uid (drop n xs)) in
      omega (arith, all, number)
