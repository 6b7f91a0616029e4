use Rattle.agent_store.specs.Store.{Fits}
use Rattle.edge_bench.proofs.stores.save_in_turn.Given as goal

abbrev pub invariant-loop-number : goal.invariant-loop-number
invariant-loop-number g l = Fits g.P.Payload.codec (g.D.Disk.state l.disk) l.store
