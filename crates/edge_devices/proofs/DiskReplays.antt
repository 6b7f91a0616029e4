-- A record of calls that one call joins.
use Rattle.std.proofs.Common.{◌≡◌, ℕ, ◌+◌, ◌<◌, inl, inr, Bool, true, false, cond, ◌&&◌, List, [], ◌∷◌, ◌++◌, ◌-◌, Vec, length, take, get_or, sym, ◌∙◌, ap, subst, refl, arith, leb, ltb, length-append}
use Rattle.std.specs.declared.alloc.Global.{Global}
use Rattle.std.proofs.lemmas.Bool.{lt-ltb, le-ltb, lt-leb, le-leb, and_left, and_right}
use Rattle.std.proofs.lemmas.List.{take_all, take-append-le}
use Rattle.edge_devices.specs.declared.disk_calls.Cell.{Cell}
use Rattle.edge_devices.specs.declared.disk_calls.Mode.{Mode}
use Rattle.edge_devices.specs.declared.disk_calls.Call.{Call}
use Rattle.edge_devices.specs.declared.disk_calls.Call.TheVariants.{Wrote, Cut, Synced, Crashed}
use Rattle.edge_devices.specs.Disks.{IsCovered, Medium, medium, disk_bytes, MayLeave, IsOutside, SameOutside, Elapses, HasBytes, IsSettled, StaysSettled}
use Rattle.edge_devices.specs.DiskReplays.{is_inside, crashed_byte, cell_after, after_call, after_from, after, blank, medium_of, history_of, mem_state, Crashes}

pub after_from-push : (m : ℕ → Cell) (calls : List Call) (call : Call) → after_from m (calls ++ call ∷ []) ≡ after_call (after_from m calls) call
after_from-push m [] call = refl
after_from-push m (c ∷ calls) call = after_from-push (after_call m c) calls call

pub medium-is : (calls : List Call) (faults : ℕ) → medium (mem_state calls faults) ≡ medium_of (after calls)
unfolding history_of
medium-is calls faults = ap (λ (l : List Call). medium_of (after l)) (take_all (length calls) calls (omega arith))

pub elapses-same : (calls : List Call) (f g : ℕ) → Elapses (mem_state calls f) (mem_state calls g)
unfolding history_of
elapses-same calls f g = record { told = refl; later = omega arith; past = λ t le. refl; since = λ t from to. absurd (omega arith) }

elapses-push : (calls : List Call) (call : Call) (f g : ℕ) → Elapses (mem_state calls f) (mem_state (calls ++ call ∷ []) g)
unfolding history_of
elapses-push calls call f g = record {
  told = refl;
  later = omega (arith, length-append calls (call ∷ []));
  past = λ t le. ap (λ (l : List Call). medium_of (after l)) (take-append-le t calls (call ∷ []) le);
  since = λ t from to. let now : t ≡ length (calls ++ call ∷ []) = omega (arith, length-append calls (call ∷ [])) in ap (λ (n : ℕ). medium_of (after (take n (calls ++ call ∷ [])))) now;
}

-- the call may not have joined
pub elapses-maybe : (calls later : List Call) (call : Call) (joined : Bool) (f g : ℕ) → later ≡ cond joined (calls ++ call ∷ []) calls → Elapses (mem_state calls f) (mem_state later g)
elapses-maybe calls later call true f g is = subst (λ (l : List Call). Elapses (mem_state calls f) (mem_state l g)) (sym is) (elapses-push calls call f g)
elapses-maybe calls later call false f g is = subst (λ (l : List Call). Elapses (mem_state calls f) (mem_state l g)) (sym is) (elapses-same calls f g)

pub inside-false : (at n place : ℕ) → IsOutside at n place → is_inside at n place ≡ false
inside-false at n place (inl low) = and_left (leb at place) (ltb place (at + n)) (lt-leb at place low)
inside-false at n place (inr high) = and_right (leb at place) (ltb place (at + n)) (le-ltb place (at + n) high)

pub inside-true : (at n k : ℕ) → k < n → is_inside at n (at + k) ≡ true
inside-true at n k less = λ i. le-leb at (at + k) (omega arith) i && lt-ltb (at + k) (at + n) (omega arith) i

pub medium-push : (calls : List Call) (call : Call) (faults : ℕ) → medium (mem_state (calls ++ call ∷ []) faults) ≡ medium_of (after_call (after calls) call)
medium-push calls call faults = medium-is (calls ++ call ∷ []) faults ∙ ap medium_of (after_from-push blank calls call)

same_outside : (at n : ℕ) (m : Medium) → SameOutside at n m m
same_outside at n m = record { seen = λ p out. refl; pending = λ p out. refl }

pub outside_wrote : (r : ℕ → Cell) (at n : ℕ) (bytes : Vec ℕ Global) → length bytes.items ≡ n → SameOutside at n (medium_of r) (medium_of (after_call r (Wrote at bytes)))
outside_wrote r at n bytes is = record {
  seen = λ p out. ap (λ (c : Cell). c.seen) (same p out);
  pending = λ p out. ap (λ (c : Cell). c.pending) (same p out);
}
  where
    same : (p : ℕ) → IsOutside at n p → cell_after (r p) (Wrote at bytes) p ≡ r p
    same p out = λ i. cond (inside-false at (length bytes.items) p (subst (λ (k : ℕ). IsOutside at k p) (sym is) out) i) (record { kept = (r p).kept; seen = get_or bytes.items (p - at) 0; newest = get_or bytes.items (p - at) 0; pending = true }) (r p)

pub outside_cut : (r : ℕ → Cell) (at n : ℕ) (bytes : Vec ℕ Global) → length bytes.items ≡ n → SameOutside at n (medium_of r) (medium_of (after_call r (Cut at bytes)))
outside_cut r at n bytes is = record {
  seen = λ p out. ap (λ (c : Cell). c.seen) (same p out);
  pending = λ p out. ap (λ (c : Cell). c.pending) (same p out);
}
  where
    same : (p : ℕ) → IsOutside at n p → cell_after (r p) (Cut at bytes) p ≡ r p
    same p out = λ i. cond (inside-false at (length bytes.items) p (subst (λ (k : ℕ). IsOutside at k p) (sym is) out) i) (record { kept = (r p).kept; seen = (r p).seen; newest = get_or bytes.items (p - at) 0; pending = true }) (r p)

pub outside-maybe : (calls later : List Call) (call : Call) (joined : Bool) (at n f g : ℕ) → later ≡ cond joined (calls ++ call ∷ []) calls → SameOutside at n (medium_of (after calls)) (medium_of (after_call (after calls) call))
    → SameOutside at n (medium (mem_state calls f)) (medium (mem_state later g))
outside-maybe calls later call true at n f g is outside =
    let old : medium_of (after calls) ≡ medium (mem_state calls f) = sym (medium-is calls f) in
    let new : medium_of (after_call (after calls) call) ≡ medium (mem_state later g) = sym (medium-push calls call g) ∙ ap (λ (l : List Call). medium (mem_state l g)) (sym is) in
    subst (λ (m : Medium). SameOutside at n m (medium (mem_state later g))) old (subst (λ (m : Medium). SameOutside at n (medium_of (after calls)) m) new outside)
outside-maybe calls later call false at n f g is outside = subst (λ (l : List Call). SameOutside at n (medium (mem_state calls f)) (medium (mem_state l g))) (sym is) (same_outside at n (medium (mem_state calls f)))

pub has-wrote : (calls later : List Call) (at f : ℕ) (bytes : Vec ℕ Global) (written : List ℕ) → later ≡ calls ++ Wrote at bytes ∷ [] → bytes.items ≡ written → HasBytes (disk_bytes (mem_state later f)) at written
has-wrote calls later at f bytes written is same =
    let new : medium_of (after_call (after calls) (Wrote at bytes)) ≡ medium (mem_state later f) = sym (medium-push calls (Wrote at bytes) f) ∙ ap (λ (l : List Call). medium (mem_state l f)) (sym is) in
    let has : HasBytes (medium_of (after_call (after calls) (Wrote at bytes))).seen at bytes.items = λ k less.
    let place : at + k - at ≡ k = omega arith in
    ap (λ (c : Cell). c.seen) (λ i. cond (inside-true at (length bytes.items) k less i) (record { kept = (after calls (at + k)).kept; seen = get_or bytes.items (at + k - at) 0; newest = get_or bytes.items (at + k - at) 0; pending = true }) (after calls (at + k))) ∙ ap (λ (j : ℕ). get_or bytes.items j 0) place in
    subst (λ (l : List ℕ). HasBytes (disk_bytes (mem_state later f)) at l) same (subst (λ (m : Medium). HasBytes m.seen at bytes.items) new has)

pub seen-synced : (calls later : List Call) (joined : Bool) (f g : ℕ) → later ≡ cond joined (calls ++ Synced ∷ []) calls → disk_bytes (mem_state later g) ≡ disk_bytes (mem_state calls f)
seen-synced calls later true f g is = ap (λ (l : List Call). disk_bytes (mem_state l g)) is ∙ ap (λ (m : Medium). m.seen) (medium-push calls Synced g) ∙ ap (λ (m : Medium). m.seen) (sym (medium-is calls f))
seen-synced calls later false f g is = ap (λ (l : List Call). disk_bytes (mem_state l g)) is

pub settled-synced : (calls later : List Call) (f : ℕ) → later ≡ calls ++ Synced ∷ [] → IsSettled (medium (mem_state later f))
settled-synced calls later f is = subst IsSettled (sym (ap (λ (l : List Call). medium (mem_state l f)) is ∙ medium-push calls Synced f)) (λ p. refl)

pub stays-synced : (calls later : List Call) (joined : Bool) (f g : ℕ) → later ≡ cond joined (calls ++ Synced ∷ []) calls → StaysSettled (medium (mem_state calls f)) (medium (mem_state later g))
stays-synced calls later true f g is = λ p shut. settled-synced calls later g is p
stays-synced calls later false f g is = λ p shut. ap (λ (l : List Call). (medium (mem_state l g)).pending p) is ∙ shut

-- after a crash
pub crashes : (calls later : List Call) (mode : Mode) → later ≡ calls ++ Crashed mode ∷ [] → Crashes mode calls later
crashes calls later mode is = λ p. ap (λ (l : List Call). (after l p).seen) is ∙ ap (λ (r : ℕ → Cell). (r p).seen) (after_from-push blank calls (Crashed mode))

pub settled-crashed : (calls later : List Call) (mode : Mode) (f : ℕ) → later ≡ calls ++ Crashed mode ∷ [] → IsSettled (medium (mem_state later f))
settled-crashed calls later mode f is = subst IsSettled (sym (ap (λ (l : List Call). medium (mem_state l f)) is ∙ medium-push calls (Crashed mode) f)) (λ p. refl)

pub image-crashed : (calls later : List Call) (mode : Mode) (f g : ℕ) → later ≡ calls ++ Crashed mode ∷ [] → MayLeave (medium (mem_state calls f)) (disk_bytes (mem_state later g))
image-crashed calls later mode f g is = λ p settled.
    let still : (after calls p).pending ≡ false = ap (λ (m : Medium). m.pending p) (sym (medium-is calls f)) ∙ settled in
    ap (λ (l : List Call). disk_bytes (mem_state l g) p) is ∙ ap (λ (m : Medium). m.seen p) (medium-push calls (Crashed mode) g)
    ∙ (λ i. cond (still i) (crashed_byte mode (after calls p)) (after calls p).seen) ∙ ap (λ (m : Medium). m.seen p) (sym (medium-is calls f))

pub covered-wrote : (calls later : List Call) (at f n : ℕ) (bytes : Vec ℕ Global) → later ≡ calls ++ Wrote at bytes ∷ [] → length bytes.items ≡ n → IsCovered at n (medium (mem_state later f))
covered-wrote calls later at f n bytes is long = λ k less.
    ap (λ (l : List Call). (medium (mem_state l f)).pending (at + k)) is ∙ ap (λ (m : Medium). m.pending (at + k)) (medium-push calls (Wrote at bytes) f)
    ∙ ap (λ (c : Cell). c.pending) (λ i. cond (inside-true at (length bytes.items) k (omega arith) i) (record { kept = (after calls (at + k)).kept; seen = get_or bytes.items (at + k - at) 0; newest = get_or bytes.items (at + k - at) 0; pending = true }) (after calls (at + k)))
