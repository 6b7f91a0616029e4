use Rattle.world_model.proofs.Kept.{world_sound, capabilities_same}
use Rattle.world_model.proofs.Linked.{basis_is}
use Rattle.world_model.proofs.laws.entries_stand_on_the_last.Goals as goal

pub returns-clause-stands : goal.returns-clause-stands
returns-clause-stands c = λ start events place e before at is.
    let b = ((world_sound start events).good place e at).based before is in
    record {
      former_place = b.0;
      just_before = b.2;
      former = b.1;
      is_former = b.3;
      state = b.4.state;
      server = b.4.server;
      uid = b.4.uid;
      number = b.4.number;
      capabilities = capabilities_same before e.state _ b.4.told;
    }

pub returns-clause-rise : goal.returns-clause-rise
returns-clause-rise c = λ start events earlier later e f. (world_sound start events).rising earlier later e f

pub returns-clause-next : goal.returns-clause-next
returns-clause-next c = λ start events. (world_sound start events).fit.limit

pub returns-clause-exactly : goal.returns-clause-exactly
returns-clause-exactly c = basis_is c.half_follows_world.ensures.follows

pub returns-clause-valid : goal.returns-clause-valid
returns-clause-valid c = λ start events place e at. ((world_sound start events).good place e at).valid

pub returns-clause-named : goal.returns-clause-named
returns-clause-named c = λ start events place e at. ((world_sound start events).good place e at).named

pub returns-clause-told : goal.returns-clause-told
returns-clause-told c = λ start events place e told at is. let t = ((world_sound start events).good place e at).details told is in (t.hash, t.any)
