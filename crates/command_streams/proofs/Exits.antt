-- What the exits of functions leave, over plain values.
use Rattle.std.proofs.Common.{◌≡◌, ℕ, ◌+◌, ◌-◌, ◌<◌, ◌≤◌, ◌≢◌, min, List, [], ◌∷◌, ◌++◌, length, take, Option, None, Some, refl, sym, ap, subst, ◌∙◌, append-nil, arith, inl, inr}
use Rattle.std.specs.Prelude.{Result, Ok, Err, IfErr, IsErrOf}
use Rattle.std.specs.Io.KnownBytes.{Appends, Consumes, IsAtEnd, Keeps}
use Rattle.std.proofs.lemmas.List.{length-append}
use Rattle.edge_devices.specs.Faults.{HasRisen}
use Rattle.plain_values.specs.declared.memory.NoMemory.{NoMemory as WantOfMemory}
use Rattle.command_streams.specs.declared.answering.Halt.{Halt}
use Rattle.command_streams.specs.declared.held.Supply.TheVariants.{More, End}
use Rattle.command_streams.specs.declared.stop.RunFail.{RunFail}
use Rattle.command_streams.specs.declared.stop.RunFail.TheVariants.{ReadFault, WriteFault, NoMemory}
use Rattle.command_streams.specs.Made.{Gives}
use Rattle.command_streams.specs.Reading.{outputs_of}
use Rattle.command_streams.specs.Held.{HeldState, taken_of}
use Rattle.command_streams.specs.Supplies.{HoldsFew, TakesMore, SupplyIs}
use Rattle.command_streams.specs.Blocks.{AnswersHeld, AnswersBlock, OutputsPut}

-- ---- errors

-- A `?` returned this error.
abbrev pub Exit : {T : Type 0} → Result T RunFail → RunFail → Type 0
Exit r x = (y : RunFail) × (r ≡ Err y) × (y ≡ x)

pub not_err : {T E X : Type 0} (x : T) (e : E) → IsErrOf {T = T} {E = E} (Ok x) e → X
not_err x e is = absurd (cc)

pub error_of : {T : Type 0} (r : Result T RunFail) (x e : RunFail) → Exit r x → IsErrOf r e → x ≡ e
error_of r x e exit is =
    let gave = exit.1 in
    let same = exit.2 in
    cc

-- the same error, of another result
pub error_on : {T U : Type 0} (r : Result T RunFail) (x e : RunFail) → Exit r x → IsErrOf r e → IsErrOf {T = U} {E = RunFail} (Err x) e
error_on r x e exit is = ap Err (error_of r x e exit is)

pub no_read : {T X : Type 0} (r : Result T RunFail) → Exit r NoMemory → IsErrOf r ReadFault → X
no_read r exit is =
    let same : NoMemory ≡ ReadFault = error_of r NoMemory ReadFault exit is in
    absurd (cc)

pub no_write : {T X : Type 0} (r : Result T RunFail) → Exit r NoMemory → IsErrOf r WriteFault → X
no_write r exit is =
    let same : NoMemory ≡ WriteFault = error_of r NoMemory WriteFault exit is in
    absurd (cc)

pub other_than_write : {T : Type 0} (r : Result T RunFail) (x : RunFail) → Exit r x → (x ≡ WriteFault → ⊥) → IfErr r (λ fail. fail ≢ WriteFault)
other_than_write (Ok v) x exit other = tt
other_than_write (Err y) x exit other = λ is.
    let gave : x ≡ y = error_of (Err y) x y exit refl in
    other (gave ∙ is)

-- no memory is no fault of the sink, nor is a fault of the source
pub memory_other : NoMemory ≡ WriteFault → ⊥
memory_other is = cc

pub read_other : ReadFault ≡ WriteFault → ⊥
read_other is = cc

-- writing outputs gives no fault of the source
pub put_no_read : {T X : Type 0} (old new : Option (List ℕ)) (outputs : List ℕ) (r : Result T RunFail) (x : RunFail) → Exit r x → OutputsPut old new outputs (Err x) → IsErrOf r ReadFault → X
put_no_read old new outputs r ReadFault exit put is = absurd put
put_no_read old new outputs r WriteFault exit put is =
    let same : WriteFault ≡ ReadFault = error_of r WriteFault ReadFault exit is in
    absurd (cc)
put_no_read old new outputs r NoMemory exit put is = no_read r exit is

-- ---- counts of faults

pub on_count : (a b c : ℕ) → a ≤ b → b ≤ c → a ≤ c
on_count a b c first then = omega arith

pub same_count : (a : ℕ) → a ≤ a
same_count a = omega arith

pub risen_on : (a b c : ℕ) → a ≤ b → HasRisen b c → HasRisen a c
risen_on a b c first (inl risen) = inl (omega arith)
risen_on a b c first (inr full) = inr full

-- ---- budgets

pub fits_budget : (held : HeldState) (budget counted : ℕ) → taken_of held ≤ budget → counted + budget < 4611686018427387904 → taken_of held < 4611686018427387904
fits_budget held budget counted within fits = omega arith

pub small_budget : (budget counted : ℕ) → counted + budget < 4611686018427387904 → budget < 4611686018427387904
small_budget budget counted fits = omega arith

pub need_of_block : (need : ℕ) → need ≤ 4194308 → need ≤ 16777232
need_of_block need fits = omega arith

pub smaller : (budget n : ℕ) (held mid new : HeldState) (left left' : Option (List ℕ)) → taken_of mid ≡ taken_of held → TakesMore mid new left left' n → 0 < n → taken_of new ≤ budget → budget - taken_of new < budget - taken_of held
smaller budget n held mid new left left' kept takes some within =
    let len : length new.bytes ≡ length mid.bytes + n = ap length takes.3 ∙ length-append mid.bytes takes.0 ∙ ap (λ (k : ℕ). length mid.bytes + k) takes.1 in
    omega (arith, takes.2, len, kept, some, within)

-- ---- what a call of the source brings

pub at_within : (held : HeldState) (at budget : ℕ) → at ≡ held.at → taken_of held ≤ budget → at ≤ budget
at_within held at budget same within = omega arith

pub bytes_within : (held : HeldState) (at budget : ℕ) (bytes : List ℕ) → at ≡ held.at → bytes ≡ held.bytes → taken_of held ≤ budget → length bytes ≤ budget - at
bytes_within held at budget bytes same is within = omega (arith, ap length is)

pub bytes_below : (held : HeldState) (bytes : List ℕ) (need : ℕ) → bytes ≡ held.bytes → length held.bytes < need → length bytes ≤ need
bytes_below held bytes need is less = omega (arith, ap length is)

pub room_fits : (need len : ℕ) → need ≤ 16777232 → need - len + 65536 < 18446744073709551616
room_fits need len small = omega arith

pub held_and_room : (held : HeldState) (bytes : List ℕ) (need : ℕ) → bytes ≡ held.bytes → length held.bytes < need → need ≤ 16777232 → length held.bytes + (need - length bytes + 65536) < 9223372036854775808
held_and_room held bytes need is less small = omega (arith, ap length is)

pub spent : (held : HeldState) (at budget : ℕ) (bytes : List ℕ) → at ≡ held.at → bytes ≡ held.bytes → taken_of held ≤ budget → budget - at - length bytes ≡ 0 → taken_of held ≡ budget
spent held at budget bytes same is within none = omega (arith, ap length is)

pub least_within : (most room allowed had : ℕ) → most ≡ min room allowed → room ≤ had → most ≤ had
least_within most room allowed had least within = omega arith

some_asked : (most need len allowed : ℕ) → most ≡ min (need - len + 65536) allowed → allowed ≢ 0 → 0 < most
some_asked most need len allowed least some = omega arith

no_bytes : (bytes : List ℕ) → length bytes ≡ 0 → bytes ≡ []
no_bytes [] none = refl
no_bytes (byte ∷ bytes) none = absurd (omega arith)

nothing_given : (left left' : Option (List ℕ)) (more : List ℕ) → more ≡ [] → Consumes left left' more → Keeps left left'
nothing_given None left' more none took = tt
nothing_given (Some xs) None more none took = absurd took
nothing_given (Some xs) (Some ys) more none took = sym (took ∙ ap (λ (m : List ℕ). m ++ ys) none)

end_before : (left left' : Option (List ℕ)) (more : List ℕ) → more ≡ [] → Consumes left left' more → IsAtEnd left' → IsAtEnd left
end_before None left' more none took end = tt
end_before (Some xs) None more none took end = absurd took
end_before (Some xs) (Some ys) more none took end = took ∙ ap (λ (m : List ℕ). m ++ ys) none ∙ end

pub supply_ended : (budget at need n most : ℕ) (old mid new : HeldState) (left left' : Option (List ℕ)) (bytes : List ℕ) → at ≡ old.at → bytes ≡ old.bytes → taken_of old ≤ budget
    → budget - at - length bytes ≢ 0 → (mid.at ≡ old.at) × (mid.bytes ≡ old.bytes) → most ≡ min (need - length bytes + 65536) (budget - at - length bytes)
    → TakesMore mid new left left' n → (n ≡ 0 → 0 < most → IsAtEnd left') → n ≡ 0 → SupplyIs budget old new left left' End
supply_ended budget at need n most old mid new left left' bytes same is within some kept least takes end none =
    let nothing : takes.0 ≡ [] = no_bytes takes.0 (takes.1 ∙ none) in
    let asked : 0 < most = some_asked most need (length bytes) (budget - at - length bytes) least some in (
      (takes.2 ∙ kept.0, takes.3 ∙ ap (λ (m : List ℕ). mid.bytes ++ m) nothing ∙ append-nil mid.bytes ∙ kept.1),
      end_before left left' takes.0 nothing takes.4 (end none asked),
      omega (arith, ap length is, same, within, some),
      nothing_given left left' takes.0 nothing takes.4,
    )

-- no more is held than was needed and a block
pub holds_few : (budget at need n most : ℕ) (old mid new : HeldState) (left left' : Option (List ℕ)) (bytes : List ℕ) → bytes ≡ old.bytes → length old.bytes < need
    → (mid.at ≡ old.at) × (mid.bytes ≡ old.bytes) → most ≡ min (need - length bytes + 65536) (budget - at - length bytes) → TakesMore mid new left left' n → n ≤ most → HoldsFew need new
holds_few budget at need n most old mid new left left' bytes is less kept least takes few =
    let behind : new.bytes ≡ old.bytes ++ takes.0 = takes.3 ∙ ap (λ (b : List ℕ). b ++ takes.0) kept.1 in
    let len : length new.bytes ≡ length old.bytes + n = ap length behind ∙ length-append old.bytes takes.0 ∙ ap (λ (k : ℕ). length old.bytes + k) takes.1 in
    omega (arith, len, least, few, ap length is, less)

pub held_few : (old : HeldState) (need : ℕ) → length old.bytes < need → HoldsFew need old
held_few old need less = omega (arith, less)

pub supply_more : (budget at need n most : ℕ) (old mid new : HeldState) (left left' : Option (List ℕ)) (bytes : List ℕ) → at ≡ old.at → bytes ≡ old.bytes → taken_of old ≤ budget
    → (mid.at ≡ old.at) × (mid.bytes ≡ old.bytes) → most ≡ min (need - length bytes + 65536) (budget - at - length bytes)
    → TakesMore mid new left left' n → n ≤ most → n ≢ 0 → SupplyIs budget old new left left' More
supply_more budget at need n most old mid new left left' bytes same is within kept least takes few some =
    let behind : new.bytes ≡ old.bytes ++ takes.0 = takes.3 ∙ ap (λ (b : List ℕ). b ++ takes.0) kept.1 in
    let len : length new.bytes ≡ length old.bytes + n = ap length behind ∙ length-append old.bytes takes.0 ∙ ap (λ (k : ℕ). length old.bytes + k) takes.1 in
    let place : new.at ≡ old.at = takes.2 ∙ kept.0 in (
      n,
      omega (arith, some),
      (takes.0, takes.1, place, behind, takes.4),
      omega (arith, len, place, least, few, ap length is, same, within),
    )

-- ---- what a fault of the sink leaves

pub answers_cut : {State : Type 0} (gives : Gives State) (start now : State) (old new : HeldState) (taken taken' : Option (List ℕ)) (pending pending' output : List ℕ) (answered : Result Halt WantOfMemory) (r : Result Halt RunFail)
    → AnswersHeld gives start now old new pending pending' answered → pending ≡ [] → output ≡ pending' → (n : ℕ) × Appends taken taken' (take n output) → Exit r WriteFault → AnswersBlock gives start now old new taken taken' r
answers_cut gives start now old new taken taken' pending pending' output answered r held none same put exit =
    let all : output ≡ outputs_of held.0 = same ∙ held.2 ∙ ap (λ (p : List ℕ). p ++ outputs_of held.0) none in
    rw (exit.1, exit.2) (held.0, held.1, (put.0, subst (λ (b : List ℕ). Appends taken taken' (take put.0 b)) all put.1), tt)
