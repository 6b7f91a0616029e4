use Rattle.std.proofs.Common.{◌∙◌, ◌∷◌, ◌++◌, [], ℕ, List, ap, refl}
use Rattle.server_core.specs.History.{is_among}
use Rattle.server_waves.proofs.KeptLemmas.{at_least, joins_last, reserved}
use Rattle.server_waves.proofs.members.Members.append.Goals as goal

pub invariant_of-self : goal.invariant_of-self
invariant_of-self c = reserved c.self.inside _ c.self.invariant
    (record { failed = refl; excused = refl; spare = refl; offered_len = refl; applied_len = refl; failed_len = refl; applied_room = at_least _; failed_room = at_least _; spare_room = at_least _ })
    (λ u. refl) refl

pub invariant_of-self-in_err-reserve-2 : goal.invariant_of-self-in_err-reserve-2
invariant_of-self-in_err-reserve-2 c = reserved c.self.inside _ c.self.invariant
    (record { failed = refl; excused = refl; spare = refl; offered_len = refl; applied_len = refl; failed_len = refl; applied_room = at_least _; failed_room = at_least _; spare_room = at_least _ })
    (λ u. refl) c.reserve-2.ensures.items

pub invariant_of-self-in_err-insert : goal.invariant_of-self-in_err-insert
invariant_of-self-in_err-insert c = reserved c.self.inside _ c.self.invariant
    (record { failed = refl; excused = refl; spare = refl; offered_len = refl; applied_len = refl; failed_len = refl; applied_room = at_least _; failed_room = at_least _; spare_room = at_least _ })
    (λ u. ap (λ (uids : List (List ℕ)). is_among uids u) c.in_err-insert.ensures.err) c.reserve-2.ensures.items

pub invariant_of-self-2 : goal.invariant_of-self-2
invariant_of-self-2 c = joins_last c.self.inside _ c.self.invariant c.args.uid.now
    (record { failed = refl; excused = refl; spare = refl; offered_len = refl; applied_len = refl; failed_len = refl; applied_room = at_least _; failed_room = at_least _; spare_room = at_least _ })
    c.in_ok-insert.ensures.added (c.put_last.ensures.items ∙ ap (λ (uids : List (List ℕ)). uids ++ c.args.uid.now ∷ []) c.reserve-2.ensures.items)
