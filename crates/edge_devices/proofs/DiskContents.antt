-- The bytes that a read gives, beside the record of calls.
use Rattle.std.proofs.Common.{◌≡◌, ℕ, ◌+◌, ◌-◌, ◌<◌, ◌≤◌, Bool, true, false, cond, inl, inr, List, [], ◌∷◌, ◌++◌, Vec, length, get_or, sym, ◌∙◌, ap, subst, refl, arith}
use Rattle.std.specs.declared.alloc.Global.{Global}
use Rattle.std.proofs.lemmas.Bool.{cases_lt}
use Rattle.std.proofs.lemmas.List.{get_or_past}
use Rattle.edge_devices.specs.declared.disk_calls.Cell.{Cell}
use Rattle.edge_devices.specs.declared.disk_calls.Mode.{Mode}
use Rattle.edge_devices.specs.declared.disk_calls.Call.{Call}
use Rattle.edge_devices.specs.declared.disk_calls.Call.TheVariants.{Wrote, Cut, Synced, Crashed}
use Rattle.edge_devices.specs.Disks.{Medium, DeviceCall, Writes, Cuts, Syncs, Crash, HasBytes, IsSettled, medium, disk_bytes}
use Rattle.edge_devices.specs.DiskReplays.{device_calls, is_inside, cell_after, after, blank, mem_state, left_byte, crashed_byte, Crashes, IsContent, NonePending}
use Rattle.edge_devices.proofs.DiskReplays.{after_from-push, inside-false, medium-is}

-- one call more
pub after-last : (calls earlier : List Call) (last : Call) (p : ℕ) → calls ≡ earlier ++ last ∷ [] → after calls p ≡ cell_after (after earlier p) last p
after-last calls earlier last p is = ap (λ (l : List Call). after l p) is ∙ ap (λ (r : ℕ → Cell). r p) (after_from-push blank earlier last)

-- longer by zeros
pub content-longer : (content longer : List ℕ) (calls same : List Call) → same ≡ calls → ((place : ℕ) → get_or longer place 0 ≡ get_or content place 0) → length content ≤ length longer → IsContent content calls → IsContent longer same
content-longer content longer calls same is bytes low has = subst (λ (l : List Call). IsContent longer l) (sym is) (record {
  seen = λ p. has.seen p ∙ sym (bytes p);
  blank = λ p past. has.blank p (omega arith);
})

-- the bytes of a call that covers the place, or those before
wrote-cell : (cell : Cell) (at p : ℕ) (bytes : Vec ℕ Global) → (cell_after cell (Wrote at bytes) p).seen ≡ cond (is_inside at (length bytes.items) p) (get_or bytes.items (p - at) 0) cell.seen
wrote-cell cell at p bytes = by (is_inside at (length bytes.items) p)
  where
    by : (b : Bool) → (cond b (record { kept = cell.kept; seen = get_or bytes.items (p - at) 0; newest = get_or bytes.items (p - at) 0; pending = true }) cell).seen ≡ cond b (get_or bytes.items (p - at) 0) cell.seen
    by true = refl
    by false = refl

cut-cell : (cell : Cell) (at p : ℕ) (bytes : Vec ℕ Global) → (cell_after cell (Cut at bytes) p).seen ≡ cell.seen
cut-cell cell at p bytes = by (is_inside at (length bytes.items) p)
  where
    by : (b : Bool) → (cond b (record { kept = cell.kept; seen = cell.seen; newest = get_or bytes.items (p - at) 0; pending = true }) cell).seen ≡ cell.seen
    by true = refl
    by false = refl

pub content-wrote : (content over : List ℕ) (calls later : List Call) (at : ℕ) (bytes : Vec ℕ Global) (written : List ℕ) → later ≡ calls ++ Wrote at bytes ∷ [] → bytes.items ≡ written → at + length written ≤ length content → length over ≡ length content
    → ((place : ℕ) → get_or over place 0 ≡ cond (is_inside at (length written) place) (get_or written (place - at) 0) (get_or content place 0)) → IsContent content calls → IsContent over later
content-wrote content over calls later at bytes written is same fits long changed has = record {
  seen = λ p. ap (λ (c : Cell). c.seen) (after-last later calls (Wrote at bytes) p is) ∙ wrote-cell (after calls p) at p bytes
      ∙ (λ i. cond (is_inside at (length (same i)) p) (get_or (same i) (p - at) 0) (has.seen p i)) ∙ sym (changed p);
  blank = λ p past. ap (λ (c : Cell). c.pending) (after-last later calls (Wrote at bytes) p is
      ∙ (λ i. cond (inside-false at (length bytes.items) p (inr (omega (arith, ap length same))) i) (record { kept = (after calls p).kept; seen = get_or bytes.items (p - at) 0; newest = get_or bytes.items (p - at) 0; pending = true }) (after calls p)))
      ∙ has.blank p (omega arith);
}

pub content-cut : (content : List ℕ) (calls later : List Call) (at : ℕ) (bytes : Vec ℕ Global) (written : List ℕ) → later ≡ calls ++ Cut at bytes ∷ [] → bytes.items ≡ written → at + length written ≤ length content → IsContent content calls → IsContent content later
content-cut content calls later at bytes written is same fits has = record {
  seen = λ p. ap (λ (c : Cell). c.seen) (after-last later calls (Cut at bytes) p is) ∙ cut-cell (after calls p) at p bytes ∙ has.seen p;
  blank = λ p past. ap (λ (c : Cell). c.pending) (after-last later calls (Cut at bytes) p is
      ∙ (λ i. cond (inside-false at (length bytes.items) p (inr (omega (arith, ap length same))) i) (record { kept = (after calls p).kept; seen = (after calls p).seen; newest = get_or bytes.items (p - at) 0; pending = true }) (after calls p)))
      ∙ has.blank p past;
}

pub content-synced : (content : List ℕ) (calls later : List Call) → later ≡ calls ++ Synced ∷ [] → IsContent content calls → IsContent content later
content-synced content calls later is has = record {
  seen = λ p. ap (λ (c : Cell). c.seen) (after-last later calls Synced p is) ∙ has.seen p;
  blank = λ p past. ap (λ (c : Cell). c.pending) (after-last later calls Synced p is);
}

-- the bytes that a crash leaves
pub content-crashed : (content left : List ℕ) (calls later : List Call) (mode : Mode) → later ≡ calls ++ Crashed mode ∷ [] → length left ≡ length content → ((place : ℕ) → place < length left → get_or left place 0 ≡ left_byte mode (after calls place)) → IsContent content calls → IsContent left later
content-crashed content left calls later mode is long changed has = record {
  seen = λ p. ap (λ (c : Cell). c.seen) (after-last later calls (Crashed mode) p is) ∙ (elim (cases_lt p (length left)) [
    | inl low ↦ sym (changed p low)
    | inr high ↦ (λ i. cond (has.blank p (omega arith) i) (crashed_byte mode (after calls p)) (after calls p).seen) ∙ has.seen p ∙ get_or_past content p 0 (omega arith) ∙ sym (get_or_past left p 0 high)
  ]);
  blank = λ p past. ap (λ (c : Cell). c.pending) (after-last later calls (Crashed mode) p is);
}

pub none-crashed : (calls later : List Call) (mode : Mode) → later ≡ calls ++ Crashed mode ∷ [] → NonePending later
none-crashed calls later mode is = λ p. ap (λ (c : Cell). c.pending) (after-last later calls (Crashed mode) p is)

pub settled-none : (calls : List Call) (f : ℕ) → NonePending calls → IsSettled (medium (mem_state calls f))
settled-none calls f none = λ p. ap (λ (m : Medium). m.pending p) (medium-is calls f) ∙ none p

-- what a read gives
pub content-has : (content : List ℕ) (calls : List Call) (at f : ℕ) (bytes : List ℕ) → IsContent content calls → ((k : ℕ) → k < length bytes → get_or content (at + k) 0 ≡ get_or bytes k 0) → HasBytes (disk_bytes (mem_state calls f)) at bytes
content-has content calls at f bytes has same = λ k less. ap (λ (m : Medium). m.seen (at + k)) (medium-is calls f) ∙ has.seen (at + k) ∙ same k less

-- a crash of a disk with nothing pending
pub still-crashes : (mode : Mode) (calls : List Call) → NonePending calls → Crashes mode calls calls
still-crashes mode calls none = λ p. sym (λ i. cond (none p i) (crashed_byte mode (after calls p)) (after calls p).seen)

-- the calls that reached the disk
pub device-push : (calls : List Call) (call : Call) → device_calls (calls ++ call ∷ []) ≡ device_calls calls ++ device_calls (call ∷ [])
unfolding device_calls
device-push [] (Wrote at bytes) = refl
device-push [] (Cut at bytes) = refl
device-push [] Synced = refl
device-push [] (Crashed mode) = refl
device-push (Wrote at bytes ∷ calls) call = ap (λ (l : List DeviceCall). Writes at bytes.items ∷ l) (device-push calls call)
device-push (Cut at bytes ∷ calls) call = ap (λ (l : List DeviceCall). Cuts at bytes.items ∷ l) (device-push calls call)
device-push (Synced ∷ calls) call = ap (λ (l : List DeviceCall). Syncs ∷ l) (device-push calls call)
device-push (Crashed mode ∷ calls) call = ap (λ (l : List DeviceCall). Crash mode ∷ l) (device-push calls call)

pub device-wrote : (calls later : List Call) (at : ℕ) (bytes : Vec ℕ Global) (written : List ℕ) → later ≡ calls ++ Wrote at bytes ∷ [] → bytes.items ≡ written → device_calls later ≡ device_calls calls ++ Writes at written ∷ []
unfolding device_calls
device-wrote calls later at bytes written is same = ap device_calls is ∙ device-push calls (Wrote at bytes) ∙ ap (λ (l : List ℕ). device_calls calls ++ Writes at l ∷ []) same

pub device-cut : (calls later : List Call) (at : ℕ) (bytes : Vec ℕ Global) (written : List ℕ) → later ≡ calls ++ Cut at bytes ∷ [] → bytes.items ≡ written → device_calls later ≡ device_calls calls ++ Cuts at written ∷ []
unfolding device_calls
device-cut calls later at bytes written is same = ap device_calls is ∙ device-push calls (Cut at bytes) ∙ ap (λ (l : List ℕ). device_calls calls ++ Cuts at l ∷ []) same

pub device-synced : (calls later : List Call) → later ≡ calls ++ Synced ∷ [] → device_calls later ≡ device_calls calls ++ Syncs ∷ []
unfolding device_calls
device-synced calls later is = ap device_calls is ∙ device-push calls Synced

pub device-crashed : (calls later : List Call) (mode : Mode) → later ≡ calls ++ Crashed mode ∷ [] → device_calls later ≡ device_calls calls ++ Crash mode ∷ []
unfolding device_calls
device-crashed calls later mode is = ap device_calls is ∙ device-push calls (Crashed mode)
