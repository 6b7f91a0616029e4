-- The endings of `serve --rollout` by their statuses.
use Rattle.std.proofs.Common.{◌≡◌, ap, arith, refl}
use Rattle.command_serve.specs.declared.status.RolloutStatus.{RolloutStatus}
use Rattle.command_serve.specs.declared.status.RolloutStatus.TheVariants.{Served, TooLarge}
use Rattle.command_serve.specs.declared.status.ServeStatus.TheVariants.{NoMemory, WireFault}
use Rattle.command_serve.specs.Statuses.{rollout_status_of}
use Rattle.command_serve.proofs.Statuses as serving

pub no_memory_at : (s : RolloutStatus) → rollout_status_of s ≡ 5 → s ≡ Served NoMemory
no_memory_at (Served t) is = ap Served (serving.no_memory_at t is)
no_memory_at TooLarge is = absurd (omega (arith, is))

pub wire_fault_at : (s : RolloutStatus) → rollout_status_of s ≡ 8 → s ≡ Served WireFault
wire_fault_at (Served t) is = ap Served (serving.wire_fault_at t is)
wire_fault_at TooLarge is = absurd (omega (arith, is))

pub too_large_at : (s : RolloutStatus) → rollout_status_of s ≡ 11 → s ≡ TooLarge
too_large_at (Served t) is = absurd (serving.never_11 t is)
too_large_at TooLarge is = refl
