-- What holds whether a call succeeds or not, said of its result.
use Rattle.std.proofs.Common.{Result, Ok, Err, OnOk, OnErr, IfOk}

module _ {V E : Type 0} {A : Type 0} where
  pub on_ok : (r : Result V E) → A → OnOk r A
  on_ok (Ok v) a = a
  on_ok (Err e) a = tt

  pub on_err : (r : Result V E) → A → OnErr r A
  on_err (Ok v) a = tt
  on_err (Err e) a = a

  pub map_ok : {B : Type 0} (r : Result V E) → (A → B) → OnOk r A → OnOk r B
  map_ok (Ok v) f a = f a
  map_ok (Err e) f a = tt

  pub map_err : {B : Type 0} (r : Result V E) → (A → B) → OnErr r A → OnErr r B
  map_err (Ok v) f a = tt
  map_err (Err e) f a = f a

module _ {V E : Type 0} where
  pub map_if : {P Q : V → Type 0} (r : Result V E) → ((v : V) → P v → Q v) → IfOk r P → IfOk r Q
  map_if (Ok v) f p = f v p
  map_if (Err e) f p = tt
