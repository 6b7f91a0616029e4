-- What a reply keeps, and what it asks.
use Rattle.std.proofs.Common.{◌≡◌, ◌≤◌, ◌↔◌, ℕ, List, [], ◌∷◌, length, Bool, true, false, not, ◌&&◌, ◌||◌, Option, Some, None, IsTrue, refl, sym, ◌∙◌, ap, subst, arith}
use Rattle.std.specs.Prelude.{if◌then◌else◌, is_none, is_some, bytes_eq, ◌==◌, IsSome, IfSome, unwrap_or}
use Rattle.std.proofs.lemmas.Bool.{false≢true, eq-eqb, ne_eqb}
use Rattle.std.proofs.lemmas.Slice.Eq.{bytes_eq-Decides}
use Rattle.message_values.specs.declared.reply.ServerToAgent.{ServerToAgent}
use Rattle.agent_rules.specs.declared.saved.Saved.{Saved}
use Rattle.agent_rules.specs.Right.{is_right}
use Rattle.agent_rules.specs.declared.rules.parts.Next.{Next}
use Rattle.agent_rules.specs.declared.rules.replies.Heard.{Heard}
use Rattle.agent_rules.specs.declared.rules.replies.Heard.TheVariants.{Commanded, Failed, Asked, Plain}
use Rattle.agent_rules.specs.Reports.{where_true}
use Rattle.agent_rules.specs.Half.{AgentHalf}
use Rattle.agent_rules.specs.Keeping.{TakeReply, CommitTry, AbandonTry, heard_in, new_uid, taught, teaches_nothing, kept_by, kept_of_reply, keeping, fits}
use Rattle.agent_rules.specs.Calls.{call_after, calls_after, told_by}
use Rattle.agent_rules.specs.Offers.{asked_by, asked_after, next_of, next_in}

-- what a reply that was heard so teaches is what it keeps
pub lesson_is : (a : AgentHalf) (reply : ServerToAgent) (answered : Bool) → heard_in reply ≡ (if answered then Plain else Asked)
    → where_true (not (teaches_nothing a.saved (taught a reply answered))) (taught a reply answered) ≡ kept_by a (TakeReply reply)
lesson_is a reply true heard = ap (λ h. kept_of_reply a h reply) (sym heard)
lesson_is a reply false heard = ap (λ h. kept_of_reply a h reply) (sym heard)

-- the identifier that bytes are, where they are sixteen
pub sixteen : (found : Option (List ℕ)) (bytes : List ℕ) → (IsSome found ↔ (length bytes ≡ 16)) → IfSome found (λ uid. uid ≡ bytes)
    → found ≡ where_true (length bytes == 16) bytes
sixteen (Some uid) bytes exact same = ap (λ b. Some b) same ∙ ap (λ is. where_true is bytes) (sym (eq-eqb _ _ (exact.0 refl)))
sixteen None bytes exact same = ap (λ is. where_true is bytes) (sym (ne_eqb _ _ (λ is. false≢true (exact.1 is))))

none≢some : {T : Type 0} {value : T} → None ≡ Some value → ⊥
none≢some is = cc

same_bytes : (xs ys : List ℕ) → bytes_eq xs ys ≡ true → xs ≡ ys
same_bytes xs ys is = (bytes_eq-Decides xs ys).0 is

same_given : (old new : Bool) → (old || not (old || new)) ≡ true → (old || new) ≡ old
same_given true new is = refl
same_given false true is = absurd (false≢true is)
same_given false false is = refl

both_left : (x y : Bool) → (x && y) ≡ true → x ≡ true
both_left true y is = refl
both_left false y is = is

both_right : (x y : Bool) → (x && y) ≡ true → y ≡ true
both_right true y is = is
both_right false y is = absurd (false≢true is)

-- two that differ in no lesson are the same, where they differ in nothing else
same_lesson : (old : Saved) (uid hash : List ℕ) (given : Bool) → teaches_nothing old (record old { uid = uid; uid_given = old.uid_given || given; components_hash = hash }) ≡ true
    → record old { uid = uid; uid_given = old.uid_given || given; components_hash = hash } ≡ old
same_lesson old uid hash given is =
    let rest : ((old.uid_given || not (old.uid_given || given)) && bytes_eq old.components_hash hash) ≡ true = both_right (bytes_eq old.uid uid) ((old.uid_given || not (old.uid_given || given)) && bytes_eq old.components_hash hash) is in
    let same_uid : uid ≡ old.uid = sym (same_bytes old.uid uid (both_left (bytes_eq old.uid uid) ((old.uid_given || not (old.uid_given || given)) && bytes_eq old.components_hash hash) is)) in
    let as_given : (old.uid_given || given) ≡ old.uid_given = same_given old.uid_given given (both_left (old.uid_given || not (old.uid_given || given)) (bytes_eq old.components_hash hash) rest) in
    let same_hash : hash ≡ old.components_hash = sym (same_bytes old.components_hash hash (both_right (old.uid_given || not (old.uid_given || given)) (bytes_eq old.components_hash hash) rest)) in
    λ i. record old { uid = same_uid i; uid_given = as_given i; components_hash = same_hash i }

-- where a reply teaches nothing, what is in use stays
teaches_same : (a : AgentHalf) (reply : ServerToAgent) (answered : Bool) → teaches_nothing a.saved (taught a reply answered) ≡ true → taught a reply answered ≡ a.saved
teaches_same a reply answered = same_lesson a.saved (taught a reply answered).uid (taught a reply answered).components_hash (is_some (new_uid reply))

-- what is in use with the lesson of a reply
pub in_use_is : (a : AgentHalf) (reply : ServerToAgent) (answered : Bool) (lesson : Option Saved) (saved : Saved)
    → lesson ≡ where_true (not (teaches_nothing a.saved (taught a reply answered))) (taught a reply answered) → saved ≡ unwrap_or lesson a.saved
    → saved ≡ taught a reply answered
in_use_is a reply answered lesson saved is in_use =
    in_use ∙ ap (λ l. unwrap_or l a.saved) is ∙ by_test (teaches_nothing a.saved (taught a reply answered)) (teaches_same a reply answered)
  where
    by_test : (nothing : Bool) → (nothing ≡ true → taught a reply answered ≡ a.saved) → unwrap_or (where_true (not nothing) (taught a reply answered)) a.saved ≡ taught a reply answered
    by_test true same = sym (same refl)
    by_test false same = refl

-- what a reply teaches may be kept where what is in use may, and its limit is the same
pub lesson_right : (a : AgentHalf) (reply : ServerToAgent) (next : Saved) → kept_by a (TakeReply reply) ≡ Some next
    → (IsTrue (is_right a.saved) → IsTrue (is_right next)) × (a.saved.limit ≤ next.limit)
lesson_right a reply next = by_heard (heard_in reply)
  where
    by_test : (answered : Bool) (t : Bool) → where_true t (taught a reply answered) ≡ Some next → (IsTrue (is_right a.saved) → IsTrue (is_right next)) × (a.saved.limit ≤ next.limit)
    by_test answered true is =
        let same : taught a reply answered ≡ next = cc in
        (λ right. subst (λ (s : Saved). IsTrue (is_right s)) same right, subst (λ (s : Saved). a.saved.limit ≤ s.limit) same (omega arith))
    by_test answered false is = absurd (none≢some is)

    by_heard : (h : Heard) → kept_of_reply a h reply ≡ Some next → (IsTrue (is_right a.saved) → IsTrue (is_right next)) × (a.saved.limit ≤ next.limit)
    by_heard Commanded is = absurd (none≢some is)
    by_heard Failed is = absurd (none≢some is)
    by_heard Asked is = by_test false (not (teaches_nothing a.saved (taught a reply false))) is
    by_heard Plain is = by_test true (not (teaches_nothing a.saved (taught a reply true))) is

-- two halves are the same in all that an answer's wishes depend on
record IsAlike (a b : AgentHalf) : Type 0 where
  local : a.local ≡ b.local
  saved : a.saved ≡ b.saved
  room : a.room ≡ b.room
  trial : a.trial ≡ b.trial
  proved : a.proved ≡ b.proved
  abandoned : a.abandoned ≡ b.abandoned

abbrev alike_of : AgentHalf → AgentHalf → AgentHalf
alike_of a b = record a { local = b.local; saved = b.saved; room = b.room; trial = b.trial; proved = b.proved; abandoned = b.abandoned }

module _ (reply : ServerToAgent) (full : Bool) (a b : AgentHalf) where
  abbrev asked_with : AgentHalf → Next
  asked_with c = asked_by reply full b c.saved.settings c.abandoned

  committed : (has_room : Bool)
      → asked_with (if has_room then call_after (alike_of a b) CommitTry else alike_of a b) ≡ asked_with (if has_room then call_after b CommitTry else b)
  committed true = refl
  committed false = refl

  ended : (none wins : Bool)
      → asked_with (calls_after (alike_of a b) (if none then [] else if wins then CommitTry ∷ [] else AbandonTry ∷ []))
      ≡ asked_with (calls_after b (if none then [] else if wins then CommitTry ∷ [] else AbandonTry ∷ []))
  ended true wins = refl
  ended false true = committed (fits b CommitTry)
  ended false false = refl

  asked_alike : IsAlike a b → asked_after reply full a ≡ asked_after reply full b
  asked_alike alike =
      (λ i. asked_after reply full (record a {
        local = alike.local i;
        saved = alike.saved i;
        room = alike.room i;
        trial = alike.trial i;
        proved = alike.proved i;
        abandoned = alike.abandoned i;
      }))
      ∙ ended (is_none b.trial) (b.proved && fits b CommitTry)

-- what is in use once a lesson was kept, or was none
keeping_alike : (a : AgentHalf) (next : Saved) (nothing : Bool) → (nothing ≡ true → next ≡ a.saved)
    → IsAlike (keeping (where_true (not nothing) next) a) (record a { saved = next })
keeping_alike a next true same = record { local = refl; saved = sym (same refl); room = refl; trial = refl; proved = refl; abandoned = refl }
keeping_alike a next false same = record { local = refl; saved = refl; room = refl; trial = refl; proved = refl; abandoned = refl }

-- the lesson of a reply, kept or none
abbrev lesson_kept : AgentHalf → ServerToAgent → Bool → AgentHalf
lesson_kept a reply answered = keeping (where_true (not (teaches_nothing a.saved (taught a reply answered))) (taught a reply answered)) a

lesson_alike : (a : AgentHalf) (reply : ServerToAgent) (answered : Bool) → IsAlike (lesson_kept a reply answered) (record a { saved = taught a reply answered })
lesson_alike a reply answered = keeping_alike a (taught a reply answered) (teaches_nothing a.saved (taught a reply answered)) (teaches_same a reply answered)

-- what a reply that was heard so asks
pub asks_next : (a : AgentHalf) (reply : ServerToAgent) (answered : Bool) (saved : Saved) (proved : Bool) → heard_in reply ≡ (if answered then Plain else Asked)
    → saved ≡ taught a reply answered → proved ≡ (answered && is_some a.trial)
    → asked_after reply (not answered) (record a { saved = saved; proved = proved }) ≡ next_of reply a
asks_next a reply true saved proved heard lesson is =
    let alike = lesson_alike a reply true in
    (λ i. asked_after reply false (record a { saved = lesson i; proved = is i }))
    ∙ sym (asked_alike reply false
    (told_by Plain reply a)
    (record a { saved = taught a reply true; proved = is_some a.trial })
    (record {
      local = ap (λ h. (keeping (kept_of_reply a h reply) a).local) heard ∙ alike.local;
      saved = ap (λ h. (keeping (kept_of_reply a h reply) a).saved) heard ∙ alike.saved;
      room = ap (λ h. (keeping (kept_of_reply a h reply) a).room) heard ∙ alike.room;
      trial = ap (λ h. (keeping (kept_of_reply a h reply) a).trial) heard ∙ alike.trial;
      proved = refl;
      abandoned = ap (λ h. (keeping (kept_of_reply a h reply) a).abandoned) heard ∙ alike.abandoned;
    }))
    ∙ sym (ap (λ h. asked_after reply false (told_by h reply a)) heard)
    ∙ sym (ap (λ h. next_in h reply a) heard)
asks_next a reply false saved proved heard lesson is =
    let alike = lesson_alike a reply false in
    (λ i. asked_after reply true (record a { saved = lesson i; proved = is i }))
    ∙ sym (asked_alike reply true
    (told_by Asked reply a)
    (record a { saved = taught a reply false; proved = false })
    (record {
      local = ap (λ h. (keeping (kept_of_reply a h reply) a).local) heard ∙ alike.local;
      saved = ap (λ h. (keeping (kept_of_reply a h reply) a).saved) heard ∙ alike.saved;
      room = ap (λ h. (keeping (kept_of_reply a h reply) a).room) heard ∙ alike.room;
      trial = ap (λ h. (keeping (kept_of_reply a h reply) a).trial) heard ∙ alike.trial;
      proved = refl;
      abandoned = ap (λ h. (keeping (kept_of_reply a h reply) a).abandoned) heard ∙ alike.abandoned;
    }))
    ∙ sym (ap (λ h. asked_after reply true (told_by h reply a)) heard)
    ∙ sym (ap (λ h. next_in h reply a) heard)
