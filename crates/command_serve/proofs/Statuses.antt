-- The endings of `serve` by their statuses.
use Rattle.std.proofs.Common.{◌≡◌, ◌⊎◌, inl, inr, refl, ap, arith}
use Rattle.command_serve.specs.declared.status.ServeStatus.{ServeStatus}
use Rattle.command_serve.specs.declared.status.ServeStatus.TheVariants.{NoMemory, Stopped, TurnsSpent, WireFault, WriteFault}
use Rattle.command_serve.specs.Statuses.{IsServeStatus, status_of}

pub stopped_at : (s : ServeStatus) → status_of s ≡ 0 → s ≡ Stopped
stopped_at Stopped is = refl
stopped_at WriteFault is = cc
stopped_at NoMemory is = cc
stopped_at WireFault is = cc
stopped_at TurnsSpent is = cc

pub write_fault_at : (s : ServeStatus) → status_of s ≡ 4 → s ≡ WriteFault
write_fault_at Stopped is = cc
write_fault_at WriteFault is = refl
write_fault_at NoMemory is = cc
write_fault_at WireFault is = cc
write_fault_at TurnsSpent is = cc

pub no_memory_at : (s : ServeStatus) → status_of s ≡ 5 → s ≡ NoMemory
no_memory_at Stopped is = cc
no_memory_at WriteFault is = cc
no_memory_at NoMemory is = refl
no_memory_at WireFault is = cc
no_memory_at TurnsSpent is = cc

pub wire_fault_at : (s : ServeStatus) → status_of s ≡ 8 → s ≡ WireFault
wire_fault_at Stopped is = cc
wire_fault_at WriteFault is = cc
wire_fault_at NoMemory is = cc
wire_fault_at WireFault is = refl
wire_fault_at TurnsSpent is = cc

pub spent_at : (s : ServeStatus) → status_of s ≡ 9 → s ≡ TurnsSpent
spent_at Stopped is = cc
spent_at WriteFault is = cc
spent_at NoMemory is = cc
spent_at WireFault is = cc
spent_at TurnsSpent is = refl

-- where neither failed and the turns weren't spent
pub others : (s : ServeStatus) → (s ≡ WireFault → ⊥) → (s ≡ WriteFault → ⊥) → (status_of s ≡ 9 → ⊥) → (status_of s ≡ 0) ⊎ (status_of s ≡ 5)
others Stopped no_wire no_write unspent = inl refl
others WriteFault no_wire no_write unspent = absurd (no_write refl)
others NoMemory no_wire no_write unspent = inr refl
others WireFault no_wire no_write unspent = absurd (no_wire refl)
others TurnsSpent no_wire no_write unspent = absurd (unspent refl)

-- the status of an ending that is one of these
pub spent_told_at : {X : Type 0} (s : ServeStatus) → (s ≡ TurnsSpent) ⊎ ((s ≡ WriteFault) ⊎ ((s ≡ NoMemory) ⊎ ((s ≡ Stopped) × X)))
    → (status_of s ≡ 9) ⊎ ((status_of s ≡ 4) ⊎ ((status_of s ≡ 5) ⊎ ((status_of s ≡ 0) × X)))
spent_told_at s (inl is) = inl (ap status_of is)
spent_told_at s (inr (inl is)) = inr (inl (ap status_of is))
spent_told_at s (inr (inr (inl is))) = inr (inr (inl (ap status_of is)))
spent_told_at s (inr (inr (inr more))) = inr (inr (inr (ap status_of more.0, more.1)))

pub never_11 : (s : ServeStatus) → status_of s ≡ 11 → ⊥
never_11 Stopped is = omega (arith, is)
never_11 WriteFault is = omega (arith, is)
never_11 NoMemory is = omega (arith, is)
never_11 WireFault is = omega (arith, is)
never_11 TurnsSpent is = omega (arith, is)

pub served_status : (s : ServeStatus) → IsServeStatus (status_of s)
served_status Stopped = inl refl
served_status WriteFault = inr (inl refl)
served_status NoMemory = inr (inr (inl refl))
served_status WireFault = inr (inr (inr (inl refl)))
served_status TurnsSpent = inr (inr (inr (inr refl)))
