use Rattle.std.proofs.Common.{false}
use Rattle.agent_store.specs.declared.slots.Side.TheVariants.{First}
use Rattle.agent_store.proofs.store.Store.fresh.Goals as goal

pub returns : goal.returns
returns c = record {
  fresh = λ i. record {
    layout = c.args.layout;
    target = First;
    target_open = false;
    kept = false;
    generation = 0;
    tail = 0;
    part = c.in-Ok.ensures.empty i;
    broken = false;
  };
}
