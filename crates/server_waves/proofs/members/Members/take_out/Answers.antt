use Rattle.std.proofs.Common.{◌∙◌, ap, refl, arith}
use Rattle.server_waves.specs.Waves.{taken_out}
use Rattle.server_waves.proofs.KeptLemmas.{known_left, waves_same}
use Rattle.server_waves.proofs.members.Members.take_out.Goals as goal

pub invariant_of-self : goal.invariant_of-self
invariant_of-self c =
    let it = c.self.invariant in
    record {
      known = known_left c.args.uid.now c.self.inside.known c.remove.new.self c.self.inside.joined.items c.drop_all-3.new.uids.items it.known c.remove.ensures.removed c.drop_all-3.ensures.items;
      excused = omega (arith, c.drop_from-excused.ensures.within, c.drop_from-excused.new.uids.ok);
      spare = it.spare;
      room_to_stay = omega (arith, it.room_to_stay, c.drop_all.ensures.len);
      room_to_apply = omega (arith, it.room_to_apply, c.drop_all.ensures.len, c.drop_all-2.ensures.len, c.drop_all-2.ensures.capacity);
      room_to_fail = omega (arith, it.room_to_fail, c.drop_all.ensures.len, c.drop_from-excused.ensures.len, c.drop_from-excused.ensures.capacity);
    }

pub returns : goal.returns
returns c = record {
  taken_out = waves_same _ _ c.drop_all-3.ensures.items c.drop_waiting.ensures.items c.drop_all.ensures.items c.drop_all-2.ensures.items c.drop_from-excused.ensures.rest c.drop_from-excused.ensures.first refl
      ∙ ap (taken_out c.args.uid.now) c.self.view_is;
}
