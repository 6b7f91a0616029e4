use Rattle.std.proofs.Common.{◌≡◌, ◌∙◌, ℕ, ◌+◌, ◌-◌, ◌^◌, ◌≤◌, ◌<◌, min, ap, refl, arith, vec_len, vec_capacity}
use Rattle.server_waves.proofs.KeptLemmas.{at_least, excused_as, reserved}
use Rattle.server_waves.proofs.members.Members.offer_first.Goals as goal
use Rattle.server_waves.proofs.members.Members.offer_first.Goals.{After-put_last}

many_are : (len now cap seen many : ℕ) → seen ≡ len → many ≡ min (seen + 1) (2 ^ 64 - 1) → now ≡ len → now + 1 ≤ cap → cap < 2 ^ 63 → many ≡ len + 1
many_are len now cap seen many is sum same room small = omega arith

stays : (len now many spare cap : ℕ) → now ≡ len + 1 → many ≡ len + 1 → spare + many ≤ cap → now ≤ cap
stays len now many spare cap more is room = omega arith

fits : (own len now many cap : ℕ) → now ≡ len + 1 → many ≡ len + 1 → own + many ≤ cap → own + now ≤ cap
fits own len now many cap more is room = omega arith

-- one more has the offer, and room was made for it in each list
one_more : (c : After-put_last) → vec_len c.put_last.new.uids ≡ vec_len c.self.inside.offered + 1
one_more c = c.put_last.ensures.len ∙ ap (λ (n : ℕ). n + 1) c.reserve.ensures.len

one_many : (c : After-put_last) → c.saturating_add-many.result ≡ vec_len c.self.inside.offered + 1
one_many c = many_are (vec_len c.self.inside.offered) (vec_len c.reserve.new.self) (vec_capacity c.reserve.new.self) c.len.result c.saturating_add-many.result c.len.ensures c.saturating_add-many.ensures c.reserve.ensures.len c.in_ok-reserve.ensures.ok c.reserve.new.self.small

pub invariant_of-self : goal.invariant_of-self
invariant_of-self c = reserved c.self.inside _ c.self.invariant
    (record { failed = refl; excused = refl; spare = refl; offered_len = c.reserve.ensures.len; applied_len = refl; failed_len = refl; applied_room = at_least _; failed_room = at_least _; spare_room = at_least _ })
    (λ u. refl) refl

pub invariant_of-self-in_err-reserve-2 : goal.invariant_of-self-in_err-reserve-2
invariant_of-self-in_err-reserve-2 c = reserved c.self.inside _ c.self.invariant
    (record { failed = refl; excused = refl; spare = refl; offered_len = c.reserve.ensures.len; applied_len = c.reserve-2.ensures.len; failed_len = refl; applied_room = c.reserve-2.ensures.capacity; failed_room = at_least _; spare_room = at_least _ })
    (λ u. refl) refl

pub invariant_of-self-in_err-reserve-3 : goal.invariant_of-self-in_err-reserve-3
invariant_of-self-in_err-reserve-3 c = reserved c.self.inside _ c.self.invariant
    (record { failed = c.reserve-3.ensures.items; excused = refl; spare = refl; offered_len = c.reserve.ensures.len; applied_len = c.reserve-2.ensures.len; failed_len = c.reserve-3.ensures.len; applied_room = c.reserve-2.ensures.capacity; failed_room = c.reserve-3.ensures.capacity; spare_room = at_least _ })
    (λ u. refl) refl

pub invariant_of-self-in_err-reserve-4 : goal.invariant_of-self-in_err-reserve-4
invariant_of-self-in_err-reserve-4 c = reserved c.self.inside _ c.self.invariant
    (record { failed = c.reserve-3.ensures.items; excused = refl; spare = c.reserve-4.ensures.items; offered_len = c.reserve.ensures.len; applied_len = c.reserve-2.ensures.len; failed_len = c.reserve-3.ensures.len; applied_room = c.reserve-2.ensures.capacity; failed_room = c.reserve-3.ensures.capacity; spare_room = c.reserve-4.ensures.capacity })
    (λ u. refl) refl

pub invariant_of-self-in_err-offer_where_held : goal.invariant_of-self-in_err-offer_where_held
invariant_of-self-in_err-offer_where_held c = reserved c.self.inside _ c.self.invariant
    (record { failed = c.reserve-3.ensures.items; excused = refl; spare = c.reserve-4.ensures.items; offered_len = c.reserve.ensures.len; applied_len = c.reserve-2.ensures.len; failed_len = c.reserve-3.ensures.len; applied_room = c.reserve-2.ensures.capacity; failed_room = c.reserve-3.ensures.capacity; spare_room = c.reserve-4.ensures.capacity })
    (λ u. refl) refl

pub invariant_of-self-2 : goal.invariant_of-self-2
invariant_of-self-2 c = record {
  known = c.self.invariant.known;
  excused = excused_as c.self.inside.excused c.self.inside.excused c.self.inside.failed.items _ refl c.reserve-3.ensures.items c.self.invariant.excused;
  spare = c.reserve-4.ensures.items ∙ c.self.invariant.spare;
  room_to_stay = stays (vec_len c.self.inside.offered) _ c.saturating_add-many.result _ _ (one_more c) (one_many c) c.in_ok-reserve-4.ensures.ok;
  room_to_apply = fits _ (vec_len c.self.inside.offered) _ c.saturating_add-many.result _ (one_more c) (one_many c) c.in_ok-reserve-2.ensures.ok;
  room_to_fail = fits _ (vec_len c.self.inside.offered) _ c.saturating_add-many.result _ (one_more c) (one_many c) c.in_ok-reserve-3.ensures.ok;
}
