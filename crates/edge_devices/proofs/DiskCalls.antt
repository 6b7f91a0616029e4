-- How plans of device calls follow one another.
use Rattle.std.proofs.Common.{◌≡◌, ◌≢◌, ◌-◌, ℕ, zero, suc, ◌+◌, ◌<◌, ◌≤◌, ◌⊎◌, inl, inr, List, [], ◌∷◌, ◌++◌, length, take, sym, ◌∙◌, ap, refl, arith}
use Rattle.std.proofs.Common.{Result, Ok, Err, false, true}
use Rattle.std.specs.Prelude.{is_err, IsErr}
use Rattle.std.proofs.lemmas.Bool.{true≢false, cases_lt, cases_eq}
use Rattle.std.proofs.lemmas.List.{append_assoc, append-nil, length-append, take-append-le}
use Rattle.edge_devices.specs.Faults.{HasRisen}
use Rattle.edge_devices.specs.Disks.{DiskState, DeviceCall, Writes, Cuts, Syncs, Countdown, Counts, JoinsWrite, JoinsSync}
use Rattle.edge_devices.specs.DiskCalls.{cut_at, EndsAmid, Makes, MadeAll}

cut-first : (n : ℕ) (plan more : List DeviceCall) → n < length plan → cut_at n (plan ++ more) ≡ cut_at n plan
cut-first n [] more less = absurd (omega (arith, less))
cut-first zero (call ∷ plan) more less = refl
cut-first (suc n) (call ∷ plan) more less = ap (λ (l : List DeviceCall). call ∷ l) (cut-first n plan more (omega (arith, less)))

cut-later : (before plan : List DeviceCall) (n : ℕ) → cut_at (length before + n) (before ++ plan) ≡ before ++ cut_at n plan
cut-later [] plan n = let is : 0 + n ≡ n = omega arith in ap (λ (k : ℕ). cut_at k plan) is
cut-later (call ∷ before) plan n =
    let is : length (call ∷ before) + n ≡ suc (length before + n) = omega arith in
    ap (λ (k : ℕ). cut_at k (call ∷ (before ++ plan))) is ∙ ap (λ (l : List DeviceCall). call ∷ l) (cut-later before plan n)

take-later : (before plan : List DeviceCall) (n : ℕ) → take (length before + n) (before ++ plan) ≡ before ++ take n plan
take-later [] plan n = let is : 0 + n ≡ n = omega arith in ap (λ (k : ℕ). take k plan) is
take-later (call ∷ before) plan n =
    let is : length (call ∷ before) + n ≡ suc (length before + n) = omega arith in
    ap (λ (k : ℕ). take k (call ∷ (before ++ plan))) is ∙ ap (λ (l : List DeviceCall). call ∷ l) (take-later before plan n)

length-both : (before plan : List DeviceCall) (n : ℕ) → n < length plan → length before + n < length (before ++ plan)
length-both before plan n less = omega (arith, less, length-append before plan)

length-first : (plan more : List DeviceCall) (n : ℕ) → n < length plan → n < length (plan ++ more)
length-first plan more n less = omega (arith, less, length-append plan more)

risen-on : (a m b : ℕ) → a ≤ m → HasRisen m b → HasRisen a b
risen-on a m b low (inl less) = inl (omega (arith, low, less))
risen-on a m b low (inr end) = inr end

-- a fault in a plan is one in a longer plan
pub amid-longer : (plan more : List DeviceCall) (old new : DiskState) (a b : Countdown) → EndsAmid plan old new a b → EndsAmid (plan ++ more) old new a b
amid-longer plan more old new a b amid = record { number = amid.number; within = length-first plan more amid.number amid.within; made = each amid.made; cause = amid.cause }
  where
    each : (new.calls ≡ old.calls ++ cut_at amid.number plan) ⊎ ((new.calls ≡ old.calls ++ take amid.number plan) × HasRisen a.others b.others)
        → (new.calls ≡ old.calls ++ cut_at amid.number (plan ++ more)) ⊎ ((new.calls ≡ old.calls ++ take amid.number (plan ++ more)) × HasRisen a.others b.others)
    each (inl is) = inl (is ∙ ap (λ (l : List DeviceCall). old.calls ++ l) (sym (cut-first amid.number plan more amid.within)))
    each (inr both) = inr (both.0 ∙ ap (λ (l : List DeviceCall). old.calls ++ l) (sym (take-append-le amid.number plan more (omega (arith, amid.within)))), both.1)

-- and so is one after other calls
pub amid-later : (before plan : List DeviceCall) (old mid new : DiskState) (a m b : Countdown) → MadeAll before old mid a m → EndsAmid plan mid new m b → EndsAmid (before ++ plan) old new a b
amid-later before plan old mid new a m b all amid = record {
  number = length before + amid.number;
  within = length-both before plan amid.number amid.within;
  made = each amid.made;
  cause = causes amid.cause;
}
  where
    joins : (l : List DeviceCall) → mid.calls ++ l ≡ old.calls ++ (before ++ l)
    joins l = ap (λ (k : List DeviceCall). k ++ l) all.calls ∙ append_assoc old.calls before l

    each : (new.calls ≡ mid.calls ++ cut_at amid.number plan) ⊎ ((new.calls ≡ mid.calls ++ take amid.number plan) × HasRisen m.others b.others)
        → (new.calls ≡ old.calls ++ cut_at (length before + amid.number) (before ++ plan)) ⊎ ((new.calls ≡ old.calls ++ take (length before + amid.number) (before ++ plan)) × HasRisen a.others b.others)
    each (inl now) = inl (now ∙ joins (cut_at amid.number plan) ∙ ap (λ (l : List DeviceCall). old.calls ++ l) (sym (cut-later before plan amid.number)))
    each (inr both) = inr (both.0 ∙ joins (take amid.number plan) ∙ ap (λ (l : List DeviceCall). old.calls ++ l) (sym (take-later before plan amid.number)), risen-on a.others m.others b.others all.others both.1)

    number : amid.number + 1 ≡ m.left → (a.left ≡ 0) ⊎ (length before < a.left) → length before + amid.number + 1 ≡ a.left
    number is (inl none) = absurd (omega (arith, is, none, all.left))
    number is (inr less) = omega (arith, is, less, all.left)

    causes : (amid.number + 1 ≡ m.left) ⊎ HasRisen m.others b.others → (length before + amid.number + 1 ≡ a.left) ⊎ HasRisen a.others b.others
    causes (inl is) = inl (number is all.before)
    causes (inr risen) = inr (risen-on a.others m.others b.others all.others risen)

-- one plan after another
pub then-all : (before plan : List DeviceCall) (old mid new : DiskState) (a m b : Countdown) → MadeAll before old mid a m → MadeAll plan mid new m b → MadeAll (before ++ plan) old new a b
then-all before plan old mid new a m b first second = record {
  calls = second.calls ∙ ap (λ (k : List DeviceCall). k ++ plan) first.calls ∙ append_assoc old.calls before plan;
  left = omega (arith, first.left, second.left, length-append before plan);
  before = each first.before second.before;
  others = omega (arith, first.others, second.others);
}
  where
    each : (a.left ≡ 0) ⊎ (length before < a.left) → (m.left ≡ 0) ⊎ (length plan < m.left) → (a.left ≡ 0) ⊎ (length (before ++ plan) < a.left)
    each (inl none) later = inl none
    each (inr less) (inl none) = absurd (omega (arith, less, none, first.left))
    each (inr less) (inr more) = inr (omega (arith, less, more, first.left, length-append before plan))

pub then-makes : {T E : Type 0} (before plan : List DeviceCall) (old mid new : DiskState) (a m b : Countdown) (r : Result T E) → MadeAll before old mid a m → Makes plan mid new m b r → Makes (before ++ plan) old new a b r
then-makes before plan old mid new a m b (Ok x) first second = then-all before plan old mid new a m b first second
then-makes before plan old mid new a m b (Err e) first amid = amid-later before plan old mid new a m b first amid

-- what each result says
pub all-made : {T E : Type 0} (plan : List DeviceCall) (old new : DiskState) (a b : Countdown) (r : Result T E) → is_err r ≡ false → Makes plan old new a b r → MadeAll plan old new a b
all-made plan old new a b (Ok x) fine made = made
all-made plan old new a b (Err e) fine made = absurd (true≢false fine)

pub amid-made : {T E : Type 0} (plan : List DeviceCall) (old new : DiskState) (a b : Countdown) (r : Result T E) → is_err r ≡ true → Makes plan old new a b r → EndsAmid plan old new a b
amid-made plan old new a b (Ok x) failed made = absurd (true≢false (sym failed))
amid-made plan old new a b (Err e) failed made = made

-- a failed call passed on
pub passed-on : {T E : Type 0} {P : Type 0} (plan : List DeviceCall) (old new : DiskState) (a b : Countdown) (r : Result T E) → IsErr r × P → EndsAmid plan old new a b → Makes plan old new a b r
passed-on plan old new a b (Ok x) both amid = absurd (true≢false (sym both.0))
passed-on plan old new a b (Err e) both amid = amid

-- no call at all
pub none-made : (old : DiskState) (a : Countdown) → MadeAll [] old old a a
none-made old a = record { calls = sym (append-nil old.calls); left = omega arith; before = each (cases_eq a.left 0); others = omega arith }
  where
    each : (a.left ≡ 0) ⊎ (a.left ≢ 0) → (a.left ≡ 0) ⊎ (0 < a.left)
    each (inl none) = inl none
    each (inr some) = inr (omega (arith, some))

-- one call
one-before : (a : Countdown) → (a.left ≡ 1 → ⊥) → (a.left ≡ 0) ⊎ (1 < a.left)
one-before a fine = elim (cases_lt a.left 2) [
  | inr more ↦ inr (omega (arith, more))
  | inl few ↦ elim (cases_eq a.left 1) [
    | inl one ↦ absurd (fine one)
    | inr other ↦ inl (omega (arith, few, other))
  ]
]

one-done : (call : DeviceCall) (old new : DiskState) (a b : Countdown) → new.calls ≡ old.calls ++ call ∷ [] → b.left ≡ a.left - 1 → a.others ≤ b.others → (a.left ≡ 1 → ⊥) → MadeAll (call ∷ []) old new a b
one-done call old new a b is left others fine = record { calls = is; left = left; before = one-before a fine; others = others }

one-cause : (a b : Countdown) → (a.left ≡ 1) ⊎ HasRisen a.others b.others → (0 + 1 ≡ a.left) ⊎ HasRisen a.others b.others
one-cause a b (inl is) = inl (omega (arith, is))
one-cause a b (inr risen) = inr risen

-- one write
pub write-makes : {T E : Type 0} (at : ℕ) (bytes : List ℕ) (old new : DiskState) (a b : Countdown) (r : Result T E) → JoinsWrite at bytes old new a b r → Counts a b r → Makes (Writes at bytes ∷ []) old new a b r
write-makes at bytes old new a b (Ok x) joins counts = one-done (Writes at bytes) old new a b joins counts.left counts.others (λ is. true≢false (sym (counts.hit is)))
write-makes at bytes old new a b (Err e) joins counts = record { number = 0; within = omega arith; made = each joins; cause = one-cause a b (counts.cause refl) }
  where
    each : (new.calls ≡ old.calls ++ Cuts at bytes ∷ []) ⊎ ((new.calls ≡ old.calls) × HasRisen a.others b.others) → (new.calls ≡ old.calls ++ Cuts at bytes ∷ []) ⊎ ((new.calls ≡ old.calls ++ []) × HasRisen a.others b.others)
    each (inl cut) = inl cut
    each (inr both) = inr (both.0 ∙ sym (append-nil old.calls), both.1)

-- one sync
pub sync-makes : {T E : Type 0} (old new : DiskState) (a b : Countdown) (r : Result T E) → JoinsSync old new r → Counts a b r → Makes (Syncs ∷ []) old new a b r
sync-makes old new a b (Ok x) joins counts = one-done Syncs old new a b joins counts.left counts.others (λ is. true≢false (sym (counts.hit is)))
sync-makes old new a b (Err e) same counts = record { number = 0; within = omega arith; made = inl (same ∙ sym (append-nil old.calls)); cause = one-cause a b (counts.cause refl) }

-- what one call's answer says
pub write-done : (T E : Type 0) (at : ℕ) (bytes : List ℕ) (old new : DiskState) (a b : Countdown) (x : T) → new.calls ≡ old.calls ++ Writes at bytes ∷ [] → Counts {T = T} {E = E} a b (Ok x) → MadeAll (Writes at bytes ∷ []) old new a b
write-done T E at bytes old new a b x joins counts = write-makes {T = T} {E = E} at bytes old new a b (Ok x) joins counts

pub write-failed : (T E : Type 0) (at : ℕ) (bytes : List ℕ) (old new : DiskState) (a b : Countdown) (e : E) → (new.calls ≡ old.calls ++ Cuts at bytes ∷ []) ⊎ ((new.calls ≡ old.calls) × HasRisen a.others b.others) → Counts {T = T} {E = E} a b (Err e) → EndsAmid (Writes at bytes ∷ []) old new a b
write-failed T E at bytes old new a b e joins counts = write-makes {T = T} {E = E} at bytes old new a b (Err e) joins counts

pub sync-done : (T E : Type 0) (old new : DiskState) (a b : Countdown) (x : T) → new.calls ≡ old.calls ++ Syncs ∷ [] → Counts {T = T} {E = E} a b (Ok x) → MadeAll (Syncs ∷ []) old new a b
sync-done T E old new a b x joins counts = sync-makes {T = T} {E = E} old new a b (Ok x) joins counts

pub sync-failed : (T E : Type 0) (old new : DiskState) (a b : Countdown) (e : E) → new.calls ≡ old.calls → Counts {T = T} {E = E} a b (Err e) → EndsAmid (Syncs ∷ []) old new a b
sync-failed T E old new a b e same counts = sync-makes {T = T} {E = E} old new a b (Err e) same counts

-- a read makes no device call
pub made-on : (plan : List DeviceCall) (old mid new : DiskState) (a m b : Countdown) → MadeAll plan old mid a m → new.calls ≡ mid.calls → b ≡ m → MadeAll plan old new a b
made-on plan old mid new a m b made same is = record {
  calls = same ∙ made.calls;
  left = ap (λ (k : Countdown). k.left) is ∙ made.left;
  before = made.before;
  others = omega (arith, made.others, ap (λ (k : Countdown). k.others) is);
}
