-- What a write makes of bytes, whether it was synced or not.
use Rattle.std.proofs.Common.{◌≡◌, ℕ, ◌+◌, ◌-◌, ◌<◌, Bool, true, false, cond, List, Vec, length, get_or, sym, ◌∙◌, ap, refl, arith}
use Rattle.std.specs.declared.alloc.Global.{Global}
use Rattle.std.proofs.lemmas.Bool.{true≢false}
use Rattle.edge_devices.specs.declared.disk_calls.Mode.{Mode}
use Rattle.edge_devices.specs.declared.disk_calls.Mode.TheVariants.{Old, New, Torn}
use Rattle.edge_devices.specs.Disks.{HasBytes, IsTorn}
use Rattle.std.proofs.Common.{[], ◌∷◌, ◌++◌}
use Rattle.edge_devices.specs.declared.disk_calls.Cell.{Cell}
use Rattle.edge_devices.specs.declared.disk_calls.Call.{Call}
use Rattle.edge_devices.specs.declared.disk_calls.Call.TheVariants.{Wrote, Cut, Synced, Crashed}
use Rattle.edge_devices.specs.Disks.{Medium, DeviceCall, IsSettled, medium, disk_bytes}
use Rattle.edge_devices.specs.DiskReplays.{is_inside, after_call, after_from, after, blank, device_calls, left_byte, crashed_byte, mem_state, Crashes}
use Rattle.edge_devices.specs.DiskStops.{over, over_as, Bytes, settled, bytes_call, bytes_after, bytes_of}
use Rattle.edge_devices.proofs.DiskReplays.{inside-false, inside-true, medium-is}

pub torn-over : (image : ℕ → ℕ) (at : ℕ) (bytes : List ℕ) → IsTorn at (length bytes) image (over image at bytes)
torn-over image at bytes = λ p out i. cond (inside-false at (length bytes) p out i) (get_or bytes (p - at) 0) (image p)

pub torn-as : (mode : Mode) (image : ℕ → ℕ) (at : ℕ) (bytes : List ℕ) → IsTorn at (length bytes) image (over_as mode image at bytes)
torn-as Old image at bytes = λ p out. refl
torn-as New image at bytes = torn-over image at bytes
torn-as Torn image at bytes = λ p out i. cond (inside-false at (length bytes) p out i) 170 (image p)

pub has-over : (image : ℕ → ℕ) (at : ℕ) (bytes : List ℕ) → HasBytes (over image at bytes) at bytes
has-over image at bytes = λ k less.
    let place : at + k - at ≡ k = omega arith in
    (λ i. cond (inside-true at (length bytes) k less i) (get_or bytes (at + k - at) 0) (image (at + k))) ∙ ap (λ (j : ℕ). get_or bytes j 0) place

-- each byte of a write that a crash tore
pub aa-torn : (image : ℕ → ℕ) (at : ℕ) (bytes : List ℕ) (k : ℕ) → k < length bytes → over_as Torn image at bytes (at + k) ≡ 170
aa-torn image at bytes k less = λ i. cond (inside-true at (length bytes) k less i) 170 (image (at + k))

-- the row of cells and the bytes tell the same
record Agrees (row : ℕ → Cell) (bytes : Bytes) : Type 0 where
  pub seen : (p : ℕ) → (row p).seen ≡ bytes.seen p
  pub left : (mode : Mode) (p : ℕ) → left_byte mode (row p) ≡ bytes.left mode p
  pub kept : (p : ℕ) → (row p).pending ≡ false → (row p).kept ≡ (row p).seen

-- a byte that is not pending is left in each mode
left-settled : (mode : Mode) (cell : Cell) → cell.pending ≡ false → left_byte mode cell ≡ cell.seen
left-settled mode cell shut = λ i. cond (shut i) (crashed_byte mode cell) cell.seen

module _ (row : ℕ → Cell) (bytes : Bytes) (same : Agrees row bytes) where
  old-kept : (p : ℕ) → (row p).kept ≡ bytes.left Old p
  old-kept p = each (row p).pending refl
    where
      each : (b : Bool) → (row p).pending ≡ b → (row p).kept ≡ bytes.left Old p
      each true is = (λ i. cond (sym is i) (row p).kept (row p).seen) ∙ same.left Old p
      each false is = same.kept p is ∙ sym (left-settled Old (row p) is) ∙ same.left Old p

  agrees-wrote : (at : ℕ) (v : Vec ℕ Global) → Agrees (after_call row (Wrote at v)) (record { seen = over bytes.seen at v.items; left = λ mode. over_as mode (bytes.left mode) at v.items })
  agrees-wrote at v = record {
    seen = λ p. seen_by p (is_inside at (length v.items) p);
    left = λ mode p. left_by mode p;
    kept = λ p. kept_by p (is_inside at (length v.items) p);
  }
    where
      new : ℕ → Cell
      new p = record { kept = (row p).kept; seen = get_or v.items (p - at) 0; newest = get_or v.items (p - at) 0; pending = true }

      seen_by : (p : ℕ) (b : Bool) → (cond b (new p) (row p)).seen ≡ cond b (get_or v.items (p - at) 0) (bytes.seen p)
      seen_by p true = refl
      seen_by p false = same.seen p

      old_by : (p : ℕ) (b : Bool) → left_byte Old (cond b (new p) (row p)) ≡ bytes.left Old p
      old_by p true = old-kept p
      old_by p false = same.left Old p

      new_by : (p : ℕ) (b : Bool) → left_byte New (cond b (new p) (row p)) ≡ cond b (get_or v.items (p - at) 0) (bytes.left New p)
      new_by p true = refl
      new_by p false = same.left New p

      torn_by : (p : ℕ) (b : Bool) → left_byte Torn (cond b (new p) (row p)) ≡ cond b 170 (bytes.left Torn p)
      torn_by p true = refl
      torn_by p false = same.left Torn p

      left_by : (mode : Mode) (p : ℕ) → left_byte mode (cond (is_inside at (length v.items) p) (new p) (row p)) ≡ over_as mode (bytes.left mode) at v.items p
      left_by Old p = old_by p (is_inside at (length v.items) p)
      left_by New p = new_by p (is_inside at (length v.items) p)
      left_by Torn p = torn_by p (is_inside at (length v.items) p)

      kept_by : (p : ℕ) (b : Bool) → (cond b (new p) (row p)).pending ≡ false → (cond b (new p) (row p)).kept ≡ (cond b (new p) (row p)).seen
      kept_by p true shut = absurd (true≢false shut)
      kept_by p false shut = same.kept p shut

  agrees-cut : (at : ℕ) (v : Vec ℕ Global) → Agrees (after_call row (Cut at v)) (record { seen = bytes.seen; left = λ mode. over_as mode (bytes.left mode) at v.items })
  agrees-cut at v = record {
    seen = λ p. seen_by p (is_inside at (length v.items) p);
    left = λ mode p. left_by mode p;
    kept = λ p. kept_by p (is_inside at (length v.items) p);
  }
    where
      new : ℕ → Cell
      new p = record { kept = (row p).kept; seen = (row p).seen; newest = get_or v.items (p - at) 0; pending = true }

      seen_by : (p : ℕ) (b : Bool) → (cond b (new p) (row p)).seen ≡ bytes.seen p
      seen_by p true = same.seen p
      seen_by p false = same.seen p

      old_by : (p : ℕ) (b : Bool) → left_byte Old (cond b (new p) (row p)) ≡ bytes.left Old p
      old_by p true = old-kept p
      old_by p false = same.left Old p

      new_by : (p : ℕ) (b : Bool) → left_byte New (cond b (new p) (row p)) ≡ cond b (get_or v.items (p - at) 0) (bytes.left New p)
      new_by p true = refl
      new_by p false = same.left New p

      torn_by : (p : ℕ) (b : Bool) → left_byte Torn (cond b (new p) (row p)) ≡ cond b 170 (bytes.left Torn p)
      torn_by p true = refl
      torn_by p false = same.left Torn p

      left_by : (mode : Mode) (p : ℕ) → left_byte mode (cond (is_inside at (length v.items) p) (new p) (row p)) ≡ over_as mode (bytes.left mode) at v.items p
      left_by Old p = old_by p (is_inside at (length v.items) p)
      left_by New p = new_by p (is_inside at (length v.items) p)
      left_by Torn p = torn_by p (is_inside at (length v.items) p)

      kept_by : (p : ℕ) (b : Bool) → (cond b (new p) (row p)).pending ≡ false → (cond b (new p) (row p)).kept ≡ (cond b (new p) (row p)).seen
      kept_by p true shut = absurd (true≢false shut)
      kept_by p false shut = same.kept p shut

agrees-from : (calls : List Call) (row : ℕ → Cell) (bytes : Bytes) → Agrees row bytes → Agrees (after_from row calls) (bytes_after bytes (device_calls calls))
unfolding device_calls
agrees-from [] row bytes same = same
agrees-from (Wrote at v ∷ calls) row bytes same = agrees-from calls (after_call row (Wrote at v)) (record { seen = over bytes.seen at v.items; left = λ mode. over_as mode (bytes.left mode) at v.items }) (agrees-wrote row bytes same at v)
agrees-from (Cut at v ∷ calls) row bytes same = agrees-from calls (after_call row (Cut at v)) (record { seen = bytes.seen; left = λ mode. over_as mode (bytes.left mode) at v.items }) (agrees-cut row bytes same at v)
agrees-from (Synced ∷ calls) row bytes same = agrees-from calls (after_call row Synced) (settled bytes.seen) (record { seen = same.seen; left = λ mode p. same.seen p; kept = λ p shut. refl })
agrees-from (Crashed mode ∷ calls) row bytes same = agrees-from calls (after_call row (Crashed mode)) (settled (bytes.left mode)) (record { seen = λ p. same.left mode p; left = λ other_mode p. same.left mode p; kept = λ p shut. refl })

agrees : (calls : List Call) → Agrees (after calls) (bytes_of (device_calls calls))
agrees calls = agrees-from calls blank (settled (λ _. 0)) (record { seen = λ p. refl; left = λ mode p. refl; kept = λ p shut. refl })

-- the bytes of a disk in memory are those of its calls
pub seen-is : (calls : List Call) (f p : ℕ) → disk_bytes (mem_state calls f) p ≡ (bytes_of (device_calls calls)).seen p
seen-is calls f p = ap (λ (m : Medium). m.seen p) (medium-is calls f) ∙ (agrees calls).seen p

-- with nothing pending a crash leaves them
pub settled-is : (calls : List Call) (f : ℕ) → IsSettled (medium (mem_state calls f)) → (mode : Mode) (p : ℕ) → (bytes_of (device_calls calls)).left mode p ≡ disk_bytes (mem_state calls f) p
settled-is calls f still mode p =
    let shut : (after calls p).pending ≡ false = ap (λ (m : Medium). m.pending p) (sym (medium-is calls f)) ∙ still p in
    sym ((agrees calls).left mode p) ∙ left-settled mode (after calls p) shut ∙ ap (λ (m : Medium). m.seen p) (sym (medium-is calls f))

-- and so are those that a crash leaves
pub crash-is : (calls later : List Call) (mode : Mode) (f : ℕ) → Crashes mode calls later → (p : ℕ) → disk_bytes (mem_state later f) p ≡ (bytes_of (device_calls calls)).left mode p
crash-is calls later mode f row p = ap (λ (m : Medium). m.seen p) (medium-is later f) ∙ row p ∙ (agrees calls).left mode p

pub bytes-both : (bytes : Bytes) (before calls : List DeviceCall) → bytes_after bytes (before ++ calls) ≡ bytes_after (bytes_after bytes before) calls
bytes-both bytes [] calls = refl
bytes-both bytes (call ∷ before) calls = bytes-both (bytes_call bytes call) before calls

-- so the bytes after further calls start from what a read gives
pub settled-bytes : (calls : List Call) (f : ℕ) → IsSettled (medium (mem_state calls f)) → bytes_of (device_calls calls) ≡ settled (disk_bytes (mem_state calls f))
settled-bytes calls f still = λ i. record { seen = λ p. sym (seen-is calls f p) i; left = λ mode p. settled-is calls f still mode p i }

pub left-on : (calls : List Call) (f : ℕ) → IsSettled (medium (mem_state calls f)) → (later more : List DeviceCall) → later ≡ device_calls calls ++ more → (mode : Mode) → (bytes_of later).left mode ≡ (bytes_after (settled (disk_bytes (mem_state calls f))) more).left mode
left-on calls f still later more is mode =
    ap (λ (l : List DeviceCall). (bytes_of l).left mode) is ∙ ap (λ (b : Bytes). b.left mode) (bytes-both (settled (λ _. 0)) (device_calls calls) more)
    ∙ ap (λ (b : Bytes). (bytes_after b more).left mode) (settled-bytes calls f still)
