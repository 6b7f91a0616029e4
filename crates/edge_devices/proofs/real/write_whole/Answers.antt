use Rattle.std.proofs.Common.{ℕ, arith}
use Rattle.std.proofs.lemmas.List.{length-take, length-drop}
use Rattle.edge_devices.proofs.Lists.{Appends-more}
use Rattle.edge_devices.proofs.real.write_whole.Goals as goal

pub loop-at-preserved : goal.loop-at-preserved
loop-at-preserved g c = (omega (arith, c.in-Ok.ensures.bound, length-take {A = ℕ}, length-drop {A = ℕ}), Appends-more _ _ _ _ _ _ c.loop-at.invariant.1 c.in-Ok.ensures.bytes)
