-- The counts of a transcript with one line more.
use Rattle.std.proofs.Common.{◌≡◌, ◌∙◌, ℕ, ◌+◌, ◌<◌, ◌^◌, List, [], ◌∷◌, ◌++◌, length, length-append, Bool, cond, ap, sym, arith}
use Rattle.std.proofs.lemmas.List.Sums.{count_by-le-length, sum_by-append, sum_by-cons}
use Rattle.std.specs.Prelude.{count_by}
use Rattle.world_lab.specs.declared.storming.Summary.{Summary}
use Rattle.world_lab.specs.declared.written.Written.{Written}
use Rattle.world_lab.specs.Storming.{counts_of, is_asked, is_delta, is_full, is_plain, is_sent, is_taken}

none_more : (n : ℕ) → n + 0 ≡ n
none_more n = omega arith

count_last : (P : Written → Bool) (xs : List Written) (x : Written) → count_by P (xs ++ x ∷ []) ≡ count_by P xs + cond (P x) 1 0
count_last P xs x =
    sum_by-append (λ y. cond (P y) 1 0) xs (x ∷ [])
    ∙ ap (λ (n : ℕ). count_by P xs + n) (sum_by-cons (λ y. cond (P y) 1 0) x [] ∙ none_more (cond (P x) 1 0))

-- a count is one more where the line is of its kind
counted : (P : Written → Bool) (xs : List Written) (x : Written) (old new : ℕ) → old ≡ count_by P xs → new ≡ old + cond (P x) 1 0 → new ≡ count_by P (xs ++ x ∷ [])
counted P xs x old new was step = step ∙ ap (λ (n : ℕ). n + cond (P x) 1 0) was ∙ sym (count_last P xs x)

-- the counts, one by one
pub record IsMore (old new : Summary) (x : Written) : Type 0 where
  pub events : new.events ≡ old.events + 1
  pub sent : new.sent ≡ old.sent + cond (is_sent x) 1 0
  pub deltas : new.deltas ≡ old.deltas + cond (is_delta x) 1 0
  pub takes : new.takes ≡ old.takes + cond (is_taken x) 1 0
  pub asks : new.asks ≡ old.asks + cond (is_asked x) 1 0
  pub plain : new.plain ≡ old.plain + cond (is_plain x) 1 0
  pub full : new.full ≡ old.full + cond (is_full x) 1 0
  pub number : new.number ≡ 0

pub counts_more : (xs : List Written) (x : Written) (old new : Summary) → old ≡ counts_of xs 0 → IsMore old new x → new ≡ counts_of (xs ++ x ∷ []) 0
counts_more xs x old new was is =
    let events : new.events ≡ length (xs ++ x ∷ []) = is.events ∙ ap (λ s. s.events + 1) was ∙ sym (length-append xs (x ∷ [])) in
    let sent = counted is_sent xs x old.sent new.sent (ap (λ s. s.sent) was) is.sent in
    let deltas = counted is_delta xs x old.deltas new.deltas (ap (λ s. s.deltas) was) is.deltas in
    let takes = counted is_taken xs x old.takes new.takes (ap (λ s. s.takes) was) is.takes in
    let asks = counted is_asked xs x old.asks new.asks (ap (λ s. s.asks) was) is.asks in
    let plain = counted is_plain xs x old.plain new.plain (ap (λ s. s.plain) was) is.plain in
    let full = counted is_full xs x old.full new.full (ap (λ s. s.full) was) is.full in
    λ i. record { events = events i; sent = sent i; deltas = deltas i; takes = takes i; asks = asks i; plain = plain i; full = full i; number = is.number i }

-- few lines have few of each kind
pub few_of : (P : Written → Bool) (xs : List Written) (n : ℕ) → length xs < 2 ^ 60 → n ≡ count_by P xs → n < 2 ^ 60
few_of P xs n few is = let most = count_by-le-length P xs in omega (arith, few, is, most)

-- one more, by the test of the line
pub more_of : (old new : ℕ) (test is : Bool) → new ≡ old + cond test 1 0 → test ≡ is → new ≡ old + cond is 1 0
more_of old new test is step same = step ∙ ap (λ (b : Bool). old + cond b 1 0) same

pub few_events : (xs : List Written) (s : Summary) → length xs < 2 ^ 60 → s ≡ counts_of xs 0 → s.events < 2 ^ 60
few_events xs s few is = let same : s.events ≡ length xs = ap (λ x. x.events) is in omega (arith, few, same)
