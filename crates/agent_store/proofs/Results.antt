-- What an answer says of one kind of result.
use Rattle.std.proofs.Common.{◌≡◌, ◌≤◌, ℕ, inl, inr, Result, Ok, Err, ap, sym, ◌∙◌, arith}
use Rattle.std.specs.Prelude.{IfErr, OnOk, OnErr, IsErrAnd, IsErrOf}
use Rattle.edge_devices.specs.Faults.{HasRisen}
use Rattle.edge_devices.specs.Disks.{DiskState, HasCause}
use Rattle.edge_devices.specs.declared.disks.DiskFault.{DiskFault}
use Rattle.agent_store.specs.declared.fail.StoreFail.{StoreFail}
use Rattle.agent_store.specs.declared.fail.StoreFail.TheVariants.{NoMemory, DiskFault as DiskFailed}

-- a fact that holds anyway
pub on-err : {T E : Type 0} (r : Result T E) (P : Type 0) → P → OnErr r P
on-err (Ok x) P here = tt
on-err (Err e) P here = here

pub on-ok : {T E : Type 0} (r : Result T E) (P : Type 0) → P → OnOk r P
on-ok (Ok x) P here = here
on-ok (Err e) P here = tt

pub on-ok-map : {T E : Type 0} (r : Result T E) (P Q : Type 0) → (P → Q) → OnOk r P → OnOk r Q
on-ok-map (Ok x) P Q f here = f here
on-ok-map (Err e) P Q f here = here

not-both : {T E : Type 0} (x : T) (e : E) → (let r : Result T E = Ok x in r ≡ Err e) → ⊥
not-both x e clash = cc

-- with what holds unless this error was answered
pub on-ok-with : {T E : Type 0} (r : Result T E) (e : E) (A P Q : Type 0) → ((r ≡ Err e → ⊥) → A) → (A → P → Q) → OnOk r P → OnOk r Q
on-ok-with (Ok x) e A P Q whole both here = both (whole (λ is. not-both x e is)) here
on-ok-with (Err f) e A P Q whole both here = here

pub on-err-map : {T E : Type 0} (r : Result T E) (P Q : Type 0) → (P → Q) → OnErr r P → OnErr r Q
on-err-map (Ok x) P Q f here = here
on-err-map (Err e) P Q f here = f here

-- one error of calls that give other values
pub err-as : {S T E : Type 0} (a b : E) → (let r : Result S E = Err a in r ≡ Err b) → (let r : Result T E = Err a in r ≡ Err b)
err-as a b is = let same : a ≡ b = cc in ap Err same

-- a fault is one since an earlier count too
pub risen-since : (a m b : ℕ) → a ≤ m → HasRisen m b → HasRisen a b
risen-since a m b low (inl less) = inl (omega (arith, low, less))
risen-since a m b low (inr end) = inr end

pub failed-cause : {T : Type 0} (old mid new : DiskState) (r : Result T DiskFault) → old.faults ≤ mid.faults → mid.faults ≤ new.faults → HasRisen mid.faults new.faults → HasCause old new r
failed-cause old mid new (Ok x) first second risen = record { later = omega (arith, first, second); fault = tt }
failed-cause old mid new (Err e) first second risen = record { later = omega (arith, first, second); fault = risen-since old.faults mid.faults new.faults first risen }

-- a cause after other calls
pub later-cause : {T : Type 0} (old mid new : DiskState) (r : Result T DiskFault) → old.faults ≤ mid.faults → HasCause mid new r → HasCause old new r
later-cause old mid new r first cause = record { later = omega (arith, first, cause.later); fault = on-err-map r (HasRisen mid.faults new.faults) (HasRisen old.faults new.faults) (λ risen. risen-since old.faults mid.faults new.faults first risen) cause.fault }

-- what an error that was turned into another says
pub if-err-as : {T E : Type 0} (r : Result T E) (P Q : E → Type 0) → ((e : E) → P e → Q e) → IsErrAnd r P → IfErr r Q
if-err-as (Ok x) P Q f here = tt
if-err-as (Err e) P Q f here = f e here

pub only-memory : {T : Type 0} (r : Result T StoreFail) → IsErrAnd r (λ e. e ≡ NoMemory) → IsErrOf r DiskFailed → ⊥
only-memory (Ok x) here is = cc
only-memory (Err e) here is = let same : e ≡ DiskFailed = cc in let clash : NoMemory ≡ DiskFailed = sym here ∙ same in cc

pub same-fail : {T U : Type 0} (r : Result T StoreFail) (fail : StoreFail) → IsErrAnd r (λ e. e ≡ fail) → IsErrOf r DiskFailed → IsErrOf {T = U} (Err fail) DiskFailed
same-fail (Ok x) fail here is = cc
same-fail (Err e) fail here is = let same : fail ≡ DiskFailed = cc in ap Err same
