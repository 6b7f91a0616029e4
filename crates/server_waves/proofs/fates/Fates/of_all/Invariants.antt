use Rattle.std.proofs.Common.{◌≡◌, ◌||◌, map, take}
use Rattle.server_core.specs.History.{is_among}
use Rattle.server_waves.specs.Fates.{fate_by}
use Rattle.server_waves.proofs.FateLemmas.{told}
use Rattle.server_waves.proofs.fates.Fates.of_all.Given as goal

-- those so far are told
abbrev pub invariant-loop-uid : goal.invariant-loop-uid
invariant-loop-uid l =
    l.members ≡ map (λ uid. told uid (fate_by (is_among l.self.offered uid) (is_among l.self.applied uid) (is_among l.self.failed uid || is_among l.self.excused uid))) (take l.uid-index l.uids)
