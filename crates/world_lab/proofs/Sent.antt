-- The reports of a play and the entries of its world.
use Rattle.std.proofs.Common.{◌≡◌, ◌∙◌, ℕ, zero, suc, ◌<◌, ◌≤◌, List, [], ◌∷◌, ◌++◌, length, get_or, set, Bool, true, false, cond, nat_eq, Option, Some, None, slice_get, ap, sym, subst, refl, arith}
use Rattle.std.proofs.lemmas.Bool.Decides.{nat_tests}
use Rattle.std.specs.Prelude.{IfSome}
use Rattle.message_values.specs.declared.reply.ServerToAgent.{ServerToAgent}
use Rattle.agent_rules.specs.Reports.{Entry}
use Rattle.world_lab.specs.declared.plays.SentReport.{SentReport}
use Rattle.world_lab.specs.Mirrors.{IsReply, IsSentAs, AreSent, kept_at}

pub sent_length : (sent : List SentReport) (entries : List Entry) → AreSent sent entries → length sent ≡ length entries
sent_length [] [] are = refl
sent_length [] (e ∷ es) are = absurd are
sent_length (r ∷ rs) [] are = absurd are
sent_length (r ∷ rs) (e ∷ es) are = ap (λ n. suc n) (sent_length rs es are.1)

pub sent_push : (sent : List SentReport) (entries : List Entry) (r : SentReport) (e : Entry) → AreSent sent entries → IsSentAs r e → AreSent (sent ++ r ∷ []) (entries ++ e ∷ [])
sent_push [] [] r e are is = (is, tt)
sent_push [] (f ∷ es) r e are is = absurd are
sent_push (s ∷ rs) [] r e are is = absurd are
sent_push (s ∷ rs) (f ∷ es) r e are is = (are.0, sent_push rs es r e are.1 is)

-- the entry of the report at this place
pub record IsAt (entries : List Entry) (place : ℕ) (r : SentReport) : Type 0 where
  pub entry : Entry
  pub stands : slice_get entries place ≡ Some entry
  pub is : IsSentAs r entry

pub none≢some : {X : Type 0} {x : X} → None ≡ Some x → ⊥
none≢some e = cc

pub some_same : {X : Type 0} {x y : X} → Some x ≡ Some y → x ≡ y
some_same e = cc

pub sent_at : (sent : List SentReport) (entries : List Entry) (place : ℕ) (r : SentReport) → AreSent sent entries → slice_get sent place ≡ Some r → IsAt entries place r
sent_at [] entries place r are at = absurd (none≢some at)
sent_at (s ∷ rs) [] place r are at = absurd are
sent_at (s ∷ rs) (e ∷ es) zero r are at = record { entry = e; stands = refl; is = subst (λ x. IsSentAs x e) (some_same at) are.0 }
sent_at (s ∷ rs) (e ∷ es) (suc place) r are at =
    let rest = sent_at rs es place r are.1 at in
    record { entry = rest.entry; stands = rest.stands; is = rest.is }

pub sent_past : (sent : List SentReport) (entries : List Entry) (place : ℕ) → AreSent sent entries → length sent ≤ place → slice_get entries place ≡ None
sent_past [] [] place are past = refl
sent_past [] (e ∷ es) place are past = absurd are
sent_past (s ∷ rs) [] place are past = absurd are
sent_past (s ∷ rs) (e ∷ es) zero are past = absurd (omega (arith, past))
sent_past (s ∷ rs) (e ∷ es) (suc place) are past = sent_past rs es place are.1 (omega (arith, past))

pub sent_set : (sent : List SentReport) (entries : List Entry) (place : ℕ) (r : SentReport) (e : Entry) → AreSent sent entries → slice_get entries place ≡ Some e → IsSentAs r e → AreSent (set sent place r) entries
sent_set [] entries place r e are at is = are
sent_set (s ∷ rs) [] place r e are at is = absurd are
sent_set (s ∷ rs) (f ∷ es) zero r e are at is = (subst (λ x. IsSentAs r x) (sym (some_same at)) is, are.1)
sent_set (s ∷ rs) (f ∷ es) (suc place) r e are at is = (are.0, sent_set rs es place r e are.1 at is)

pub within_get : {X : Type 0} (xs : List X) (i : ℕ) (x : X) → slice_get xs i ≡ Some x → i < length xs
within_get [] i x at = absurd (none≢some at)
within_get (y ∷ xs) zero x at = omega arith
within_get (y ∷ xs) (suc i) x at = let h = within_get xs i x at in omega arith

pub get_there : {X : Type 0} (xs : List X) (i : ℕ) (x : X) → i < length xs → x ≡ get_or xs i x → slice_get xs i ≡ Some x
get_there [] i x within is = absurd (omega (arith, within))
get_there (y ∷ xs) zero x within is = ap (λ v. Some v) (sym is)
get_there (y ∷ xs) (suc i) x within is = get_there xs i x (omega (arith, within)) is

-- a report without a reply adds none
pub kept_push : (sent : List SentReport) (r : SentReport) (place : ℕ) → r.reply ≡ None → kept_at (sent ++ r ∷ []) place ≡ kept_at sent place
kept_push [] r zero none = none
kept_push [] r (suc place) none = refl
kept_push (s ∷ rs) r zero none = refl
kept_push (s ∷ rs) r (suc place) none = kept_push rs r place none

kept_here : (sent : List SentReport) (r : SentReport) (at : ℕ) → at < length sent → kept_at (set sent at r) at ≡ r.reply
kept_here [] r at within = absurd (omega (arith, within))
kept_here (s ∷ rs) r zero within = refl
kept_here (s ∷ rs) r (suc at) within = kept_here rs r at (omega (arith, within))

kept_there : (sent : List SentReport) (r : SentReport) (at place : ℕ) → (place ≡ at → ⊥) → kept_at (set sent at r) place ≡ kept_at sent place
kept_there [] r at place apart = refl
kept_there (s ∷ rs) r zero zero apart = absurd (apart refl)
kept_there (s ∷ rs) r zero (suc place) apart = refl
kept_there (s ∷ rs) r (suc at) zero apart = refl
kept_there (s ∷ rs) r (suc at) (suc place) apart = kept_there rs r at place (λ e. apart (ap (λ n. suc n) e))

eqb_true : (x y : ℕ) → nat_eq x y ≡ true → x ≡ y
eqb_true x y e = grind (arith, nat_tests)

eqb_false : (x y : ℕ) → nat_eq x y ≡ false → ¬ (x ≡ y)
eqb_false x y e p = grind (arith, nat_tests)

-- a reply that is kept is found there, and the others stay
pub kept_set : (sent : List SentReport) (r : SentReport) (at place : ℕ) → at < length sent → kept_at (set sent at r) place ≡ cond (nat_eq place at) r.reply (kept_at sent place)
kept_set sent r at place within = by_test (nat_eq place at) refl
  where
    by_test : (b : Bool) → nat_eq place at ≡ b → kept_at (set sent at r) place ≡ cond b r.reply (kept_at sent place)
    by_test true e = ap (λ (n : ℕ). kept_at (set sent at r) n) (eqb_true place at e) ∙ kept_here sent r at within
    by_test false e = kept_there sent r at place (eqb_false place at e)

-- a reply that is kept is a lab server's
pub kept_is_reply : (sent : List SentReport) (entries : List Entry) (place : ℕ) (reply : ServerToAgent) → AreSent sent entries → kept_at sent place ≡ Some reply → IsReply reply
kept_is_reply [] entries place reply are at = absurd (none≢some at)
kept_is_reply (s ∷ rs) [] place reply are at = absurd are
kept_is_reply (s ∷ rs) (e ∷ es) zero reply are at = of_reply s.reply are.0.reply at
  where
    of_reply : (o : Option ServerToAgent) → IfSome o IsReply → o ≡ Some reply → IsReply reply
    of_reply None is at = absurd (none≢some at)
    of_reply (Some kept) is at = subst IsReply (some_same at) is
kept_is_reply (s ∷ rs) (e ∷ es) (suc place) reply are at = kept_is_reply rs es place reply are.1 at
