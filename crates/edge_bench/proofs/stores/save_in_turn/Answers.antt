use Rattle.std.proofs.Common.{◌≡◌, Result, Ok, Err, sym, ◌∙◌}
use Rattle.agent_store.specs.declared.fail.StoreFail.{StoreFail}
use Rattle.agent_store.specs.declared.fail.StoreFail.TheVariants.{DiskFault}
use Rattle.edge_bench.proofs.stores.save_in_turn.Goals as goal

not-failed : (r : Result Unit StoreFail) (done : Unit) → r ≡ Ok done → r ≡ Err DiskFault → ⊥
not-failed r done is failed = let clash : Ok done ≡ Err DiskFault = sym is ∙ failed in cc

pub loop-number-preserved : goal.loop-number-preserved
loop-number-preserved g c = c.save.ensures.fits (not-failed c.save.result _ c.in-Ok.is)
