-- What a point of a rollout changes.
use Rattle.std.proofs.Common.{◌≡◌, ℕ, ◌+◌, ◌-◌, ◌≤◌, min, List, ◌++◌, length, take, Bool, true, false, cond, ◌||◌, Option, None, Some, refl, sym, ◌∙◌, ap, arith, length-append}
use Rattle.std.proofs.lemmas.List.{length-take}
use Rattle.server_core.specs.declared.rows.Record.{Record}
use Rattle.server_core.specs.History.{is_among}
use Rattle.server_core.specs.Table.{find_record}
use Rattle.server_waves.specs.Courses.{unsettled}
use Rattle.server_waves.specs.Waves.{Waves, has_applied, has_failed, has_place, is_decided, offering, others, passes, room, settled, those}
use Rattle.server_waves.proofs.Among.{among_joined, among_moved, among_parts, few_parts}

-- those that are excused come last
excused_last : (o a f e o2 a2 f2 : Bool) → (o || (a || f)) ≡ (o2 || (a2 || f2)) → (o || (a || (f || e))) ≡ (o2 || (a2 || (f2 || e)))
excused_last o a f e o2 a2 f2 same = behind o a f e ∙ ap (λ b. b || e) same ∙ sym (behind o2 a2 f2 e)
  where
    behind : (o a f e : Bool) → (o || (a || (f || e))) ≡ ((o || (a || f)) || e)
    behind true a f e = refl
    behind false true f e = refl
    behind false false f e = refl

module _ (fine : Record → Bool) (hash : List ℕ) (records : List Record) where
  -- it is known of an agent what became of the offer exactly where it applied it or failed
  pub known_by : (found : Option Record) → passes (is_decided fine hash) found ≡ (passes (has_applied fine hash) found || passes (has_failed fine hash) found)
  known_by None = refl
  known_by (Some agent) = refl

  parts_are : (uid : List ℕ) → passes (is_decided fine hash) (find_record records uid) ≡ (passes (has_applied fine hash) (find_record records uid) || passes (has_failed fine hash) (find_record records uid))
  parts_are uid = known_by (find_record records uid)

  -- looking up what became of the offers leaves who is in one of the lists
  pub places_stay : (waves : Waves) (uid : List ℕ) → has_place (settled fine hash records waves) uid ≡ has_place waves uid
  places_stay waves uid =
      ap (λ b. is_among waves.waiting uid || b)
      (excused_last (is_among (others (is_decided fine hash) records waves.offered) uid) (is_among (waves.applied ++ those (has_applied fine hash) records waves.offered) uid)
      (is_among (waves.failed ++ those (has_failed fine hash) records waves.offered) uid) (is_among waves.excused uid)
      (is_among waves.offered uid) (is_among waves.applied uid) (is_among waves.failed uid)
      (among_joined (others (is_decided fine hash) records waves.offered) (those (has_applied fine hash) records waves.offered) (those (has_failed fine hash) records waves.offered)
      waves.applied waves.failed uid (is_among waves.offered uid)
      (among_parts (λ u. passes (is_decided fine hash) (find_record records u)) (λ u. passes (has_applied fine hash) (find_record records u)) (λ u. passes (has_failed fine hash) (find_record records u)) parts_are waves.offered uid)))

  -- and no more agents have the offer without having applied it
  pub fewer : (waves : Waves) → unsettled (settled fine hash records waves) ≤ unsettled waves
  fewer waves =
      let few : length (others (is_decided fine hash) records waves.offered) + length (those (has_failed fine hash) records waves.offered) ≤ length waves.offered =
      few_parts (λ u. passes (is_decided fine hash) (find_record records u)) (λ u. passes (has_applied fine hash) (find_record records u)) (λ u. passes (has_failed fine hash) (find_record records u)) parts_are waves.offered in
      let longer : length (waves.failed ++ those (has_failed fine hash) records waves.offered) ≡ length waves.failed + length (those (has_failed fine hash) records waves.offered) = length-append waves.failed (those (has_failed fine hash) records waves.offered) in
      omega (arith, few, longer)

-- making offers leaves who is in one of the lists
pub places_move : (n : ℕ) (waves : Waves) (uid : List ℕ) → has_place (offering n waves) uid ≡ has_place waves uid
places_move n waves uid = among_moved n waves.waiting waves.offered uid (is_among waves.applied uid || (is_among waves.failed uid || is_among waves.excused uid))

-- as many offers as there is room for keep within the width
pub width_holds : (width n : ℕ) (waves : Waves) → unsettled waves ≤ width → n ≤ room width waves → unsettled (offering n waves) ≤ width
width_holds width n waves within few = by_halt waves.halted few
  where
    grown : length (waves.offered ++ take n waves.waiting) ≤ length waves.offered + n
    grown =
        let all : length (waves.offered ++ take n waves.waiting) ≡ length waves.offered + length (take n waves.waiting) = length-append waves.offered (take n waves.waiting) in
        let some : length (take n waves.waiting) ≡ min n (length waves.waiting) = length-take n waves.waiting in
        omega (arith, all, some)

    by_halt : (halted : Bool) → n ≤ cond halted 0 (width - length waves.offered - length waves.failed) → unsettled (offering n waves) ≤ width
    by_halt true none = omega (arith, grown, none, within)
    by_halt false some = omega (arith, grown, some, within)
