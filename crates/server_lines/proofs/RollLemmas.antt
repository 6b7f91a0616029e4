-- What became of a rollout's begin, and of what is done with those that are there, as what orders do.
use Rattle.std.proofs.Common.{◌≡◌, ◌<◌, ◌≤◌, ap, sym, ℕ, List, ◌∷◌, length, Bool, true, false, cond, Result, Ok, Err, inl, inr, refl, arith, get_or, drop, suc, ◌+◌, add-one, drop-cons}
use Rattle.std.specs.Prelude.{IfOk, IfErr, OnOk, OnErr, IsErr, nat_le, fold, filter, map, Option}
use Rattle.std.proofs.lemmas.Bool.Decides.{nat_tests}
use Rattle.plain_values.specs.declared.files.AgentConfigMap.{AgentConfigMap}
use Rattle.server_core.specs.declared.rows.Record.{Record}
use Rattle.server_core.specs.Table.{Table}
use Rattle.server_waves.specs.declared.finders.Finder.{Finder}
use Rattle.server_waves.specs.declared.register.BeginFail.{BeginFail}
use Rattle.server_waves.specs.declared.register.BeginFail.TheVariants.{There, TooMany, TooLarge, NoMemory}
use Rattle.server_waves.specs.declared.register.TheConstants.{ROLLOUT_LIMIT}
use Rattle.server_waves.specs.Register.{Rolling, BeginsNot, CanBegin, all_without, with_rolling}
use Rattle.server_lines.specs.declared.orders.Order.TheVariants as order
use Rattle.server_lines.specs.declared.orders.Steering.TheVariants as steering
use Rattle.server_lines.specs.Answers.{RunsOrder, answer_to_begin, fleet_of, without_left, words_of_begin}
use Rattle.server_lines.specs.Sights.{Sight}

not_full : (n limit : ℕ) → n < limit → nat_le limit n ≡ false
not_full n limit few = grind (arith, nat_tests)

is_full : (n limit : ℕ) → limit ≤ n → nat_le limit n ≡ true
is_full n limit many = grind (arith, nat_tests)

runs_begin : (sight : Sight) (table : Table) (old new : List Rolling) (id : List ℕ) (width allowed : ℕ) (finder : Option Finder) (files : AgentConfigMap) (done : Result (Unit {0}) BeginFail) (text : List ℕ)
    → OnOk done (CanBegin old id files)
    → OnOk done (new ≡ with_rolling table.records id finder (record { files = files; width = width; allowed = allowed }) old)
    → IfErr done (BeginsNot old id files) → OnErr done (new ≡ old) → text ≡ words_of_begin done
    → RunsOrder sight (fleet_of table old) (order.Steer id (steering.Begin width allowed finder files)) text (fleet_of table new)
unfolding RunsOrder answer_to_begin words_of_begin
runs_begin sight table old new id width allowed finder files (Ok done) text can begun failed same is =
    let few = not_full (length old) ROLLOUT_LIMIT can.few in
    inl (rw (can.new, few, can.fits) is, refl, rw (can.new, few, can.fits) begun)
runs_begin sight table old new id width allowed finder files (Err There) text can begun failed same is =
    inl (rw failed is, refl, rw failed same)
runs_begin sight table old new id width allowed finder files (Err TooMany) text can begun failed same is =
    let full = is_full (length old) ROLLOUT_LIMIT failed.1 in
    inl (rw (failed.0, full) is, refl, rw (failed.0, full) same)
runs_begin sight table old new id width allowed finder files (Err TooLarge) text can begun failed same is =
    let few = not_full (length old) ROLLOUT_LIMIT failed.1 in
    inl (rw (failed.0, few, failed.2) is, refl, rw (failed.0, few, failed.2) same)
runs_begin sight table old new id width allowed finder files (Err NoMemory) text can begun failed same is =
    let few = not_full (length old) ROLLOUT_LIMIT failed.1 in
    inr (rw (failed.0, few) refl, is, ap (λ rs. fleet_of table rs) same)

-- the answer of a begin
pub begin_answered : {E : Type 0} (sight : Sight) (table : Table) (old new : List Rolling) (id : List ℕ) (width allowed : ℕ) (finder : Option Finder) (files : AgentConfigMap)
    (done : Result (Unit {0}) BeginFail) (answer : Result (List ℕ) E)
    → OnOk done (CanBegin old id files)
    → OnOk done (new ≡ with_rolling table.records id finder (record { files = files; width = width; allowed = allowed }) old)
    → IfErr done (BeginsNot old id files) → OnErr done (new ≡ old) → IfOk answer (λ text. text ≡ words_of_begin done)
    → IfOk answer (λ text. RunsOrder sight (fleet_of table old) (order.Steer id (steering.Begin width allowed finder files)) text (fleet_of table new))
begin_answered sight table old new id width allowed finder files done (Ok text) can begun failed same is =
    runs_begin sight table old new id width allowed finder files done text can begun failed same is
begin_answered sight table old new id width allowed finder files done (Err e) can begun failed same is = tt

-- where there is no answer none began
pub none_begun : {E : Type 0} (table : Table) (old new : List Rolling) (done : Result (Unit {0}) BeginFail) (answer : Result (List ℕ) E)
    → OnErr answer (IsErr done) → OnErr done (new ≡ old) → OnErr answer (fleet_of table new ≡ fleet_of table old)
none_begun table old new done (Ok text) failed same = tt
none_begun table old new (Ok done) (Err e) failed same = absurd (let no = failed in cc)
none_begun table old new (Err fail) (Err e) failed same = ap (λ rs. fleet_of table rs) same

-- ---- agents that have left leave rollouts

-- those of the agents from this place on that have left leave them
abbrev pub left_from : List Rolling → ℕ → List Record → List Rolling
left_from rollouts i agents = fold (λ seen uid. all_without uid seen) rollouts (map (λ (r : Record). r.uid) (filter (λ (r : Record). r.left) (drop i agents)))

pub left_more : (rollouts next : List Rolling) (i : ℕ) (r : Record) (agents : List Record) → i < length agents → r ≡ get_or agents i r → next ≡ without_left r rollouts
    → left_from next (i + 1) agents ≡ left_from rollouts i agents
left_more rollouts next i r agents within is made =
    let cut : drop i agents ≡ r ∷ drop (i + 1) agents = rw (add-one, drop-cons agents i r within) (ap (λ (x : Record). x ∷ drop (suc i) agents) (sym is)) in
    rw (made, cut) (by_left r.left)
  where
    by_left : (b : Bool) → fold (λ seen uid. all_without uid seen) (cond b (all_without r.uid rollouts) rollouts) (map (λ (x : Record). x.uid) (filter (λ (x : Record). x.left) (drop (i + 1) agents)))
        ≡ fold (λ seen uid. all_without uid seen) rollouts (map (λ (x : Record). x.uid) (cond b (r ∷ filter (λ (x : Record). x.left) (drop (i + 1) agents)) (filter (λ (x : Record). x.left) (drop (i + 1) agents))))
    by_left true = refl
    by_left false = refl
