-- A property of what is kept that each call hands on holds of all that calls keep.
use Rattle.std.proofs.Common.{◌≡◌, ℕ, ◌+◌, ◌<◌, ◌≤◌, List, [], ◌∷◌, ◌++◌, Bool, true, false, cond, not, eqb, Option, None, Some, refl, sym, ◌∙◌, ap, subst, arith}
use Rattle.std.specs.Prelude.{All, is_some}
use Rattle.std.specs.Option.{option_to_list}
use Rattle.std.proofs.lemmas.Bool.{false≢true, eqb-false}
use Rattle.std.proofs.lemmas.List.Elements.{All-cons, All-head, All-tail}
use Rattle.message_values.specs.declared.reply.ServerToAgent.{ServerToAgent}
use Rattle.agent_rules.specs.declared.saved.Saved.{Saved}
use Rattle.agent_rules.specs.declared.rules.replies.Heard.{Heard}
use Rattle.agent_rules.specs.declared.rules.replies.Heard.TheVariants.{Commanded, Failed, Asked, Plain}
use Rattle.agent_rules.specs.declared.rules.parts.TheConstants.{RESERVED_BLOCK}
use Rattle.agent_rules.specs.Half.{AgentHalf}
use Rattle.agent_rules.specs.Keeping.{Call, Change, Report, TakeReply, GiveUp, CommitTry, AbandonTry, ConfigDone, PackagesDone, Say, BeginTry, heard_in, taught, teaches_nothing, kept_of_reply, kept_by, keeping, kept, fits}
use Rattle.agent_rules.specs.Calls.{told_by, call_after, calls_after, saves_of}
use Rattle.agent_rules.specs.Kinds.{IsReserved, applies_files, is_reply, keeps_trial}

-- what is kept, if anything, is so
abbrev pub ForKept : (Saved → Type 0) → Option Saved → Type 0
ForKept Q None = Unit {0}
ForKept Q (Some s) = Q s

-- the call hands the property on
abbrev pub Keeps : (Saved → Type 0) → AgentHalf → Call → Type 0
Keeps Q a c = Q a.saved → ForKept Q (kept_by a c)

abbrev pub AllKeep : (Saved → Type 0) → AgentHalf → List Call → Type 0
AllKeep Q a [] = Unit {0}
AllKeep Q a (c ∷ cs) = Keeps Q a c × AllKeep Q (call_after a c) cs

-- what a call leaves as kept is what it keeps
call_saved : (a : AgentHalf) (c : Call) → (call_after a c).saved ≡ (kept a c).saved
call_saved a (Change now) = refl
call_saved a Report = refl
call_saved a (TakeReply reply) = by_heard (heard_in reply) refl
  where
    by_heard : (h : Heard) → heard_in reply ≡ h → (told_by h reply a).saved ≡ (kept a (TakeReply reply)).saved
    by_heard Commanded is = ap (λ x. (keeping (kept_of_reply a x reply) a).saved) (sym is)
    by_heard Failed is = ap (λ x. (keeping (kept_of_reply a x reply) a).saved) (sym is)
    by_heard Asked is = refl
    by_heard Plain is = refl
call_saved a GiveUp = refl
call_saved a CommitTry = refl
call_saved a AbandonTry = refl
call_saved a (ConfigDone None status) = refl
call_saved a (ConfigDone (Some applied) status) = refl
call_saved a (PackagesDone statuses) = refl
call_saved a (Say message) = refl
call_saved a (BeginTry next) = refl

keeping_has : (Q : Saved → Type 0) (o : Option Saved) (a : AgentHalf) → Q a.saved → ForKept Q o → Q (keeping o a).saved
keeping_has Q None a q k = q
keeping_has Q (Some s) a q k = k

call_has : (Q : Saved → Type 0) (a : AgentHalf) (c : Call) → Q a.saved → Keeps Q a c → Q (call_after a c).saved
call_has Q a c q k = subst Q (sym (call_saved a c)) (keeping_has Q (kept_by a c) a q (k q))

-- what calls leave
pub calls_have : (Q : Saved → Type 0) (cs : List Call) (a : AgentHalf) → AllKeep Q a cs → Q a.saved → Q (calls_after a cs).saved
calls_have Q [] a k q = q
calls_have Q (c ∷ cs) a k q = by_test (calls_have Q cs (call_after a c) k.1 (call_has Q a c q k.0)) (fits a c)
  where
    by_test : Q (calls_after (call_after a c) cs).saved → (t : Bool) → Q (cond t (calls_after (call_after a c) cs) a).saved
    by_test rest true = rest
    by_test rest false = q

all_of_none : {T : Type 0} (P : T → Type 0) → All P []
all_of_none P = λ k d within. absurd (omega (arith, within))

more_have : (Q : Saved → Type 0) (o : Option Saved) (ss : List Saved) → ForKept Q o → All Q ss → All Q (option_to_list o ++ ss)
more_have Q None ss k all = all
more_have Q (Some s) ss k all = All-cons Q s ss k all

-- and all that they keep
pub saves_have : (Q : Saved → Type 0) (cs : List Call) (a : AgentHalf) → AllKeep Q a cs → Q a.saved → All Q (saves_of a cs)
saves_have Q [] a k q = all_of_none Q
saves_have Q (c ∷ cs) a k q = by_test (saves_have Q cs (call_after a c) k.1 (call_has Q a c q k.0)) (fits a c)
  where
    by_test : All Q (saves_of (call_after a c) cs) → (t : Bool) → All Q (cond t (option_to_list (kept_by a c) ++ saves_of (call_after a c) cs) [])
    by_test rest true = more_have Q (kept_by a c) _ (k.0 q) rest
    by_test rest false = all_of_none Q

-- where every call of a kind hands it on, calls of this kind do
pub all_keep : (Q : Saved → Type 0) (K : Call → Type 0) → ((a : AgentHalf) (c : Call) → K c → Keeps Q a c) → (cs : List Call) (a : AgentHalf) → All K cs → AllKeep Q a cs
all_keep Q K each [] a kinds = tt
all_keep Q K each (c ∷ cs) a kinds = (each a c (All-head K c cs kinds), all_keep Q K each cs (call_after a c) (All-tail K c cs kinds))

of_reply : (Q : Saved → Type 0) (a : AgentHalf) (reply : ServerToAgent) → ((answered : Bool) → Q (taught a reply answered)) → (h : Heard) → ForKept Q (kept_of_reply a h reply)
of_reply Q a reply each Commanded = tt
of_reply Q a reply each Failed = tt
of_reply Q a reply each Asked = by_test (not (teaches_nothing a.saved (taught a reply false)))
  where
    by_test : (t : Bool) → ForKept Q (cond t (Some (taught a reply false)) None)
    by_test true = each false
    by_test false = tt
of_reply Q a reply each Plain = by_test (not (teaches_nothing a.saved (taught a reply true)))
  where
    by_test : (t : Bool) → ForKept Q (cond t (Some (taught a reply true)) None)
    by_test true = each true
    by_test false = tt

limit_keeps : (n : ℕ) (a : AgentHalf) (c : Call) → Keeps (λ s. n ≤ s.limit) a c
limit_keeps n a (Change now) q = tt
limit_keeps n a Report q = by_test (eqb a.next a.saved.limit)
  where
    by_test : (t : Bool) → ForKept (λ s. n ≤ s.limit) (cond t (Some (record (a.saved) { limit = a.saved.limit + RESERVED_BLOCK })) None)
    by_test true = omega (arith, q)
    by_test false = tt
limit_keeps n a (TakeReply reply) q = of_reply (λ s. n ≤ s.limit) a reply (λ answered. q) (heard_in reply)
limit_keeps n a GiveUp q = tt
limit_keeps n a CommitTry q = q
limit_keeps n a AbandonTry q = tt
limit_keeps n a (ConfigDone None status) q = q
limit_keeps n a (ConfigDone (Some applied) status) q = q
limit_keeps n a (PackagesDone statuses) q = q
limit_keeps n a (Say message) q = tt
limit_keeps n a (BeginTry next) q = tt

all_of_any : (cs : List Call) → All (λ c. Unit {0}) cs
all_of_any cs = λ k d within. tt

limits_keep : (n : ℕ) (cs : List Call) (a : AgentHalf) → AllKeep (λ s. n ≤ s.limit) a cs
limits_keep n cs a = all_keep (λ s. n ≤ s.limit) (λ c. Unit {0}) (λ b c kind. limit_keeps n b c) cs a (all_of_any cs)

pub limits_kept : (a : AgentHalf) (cs : List Call) → All (λ part. a.saved.limit ≤ part.limit) (saves_of a cs)
limits_kept a cs = saves_have (λ part. a.saved.limit ≤ part.limit) cs a (limits_keep a.saved.limit cs a) (omega arith)

pub limit_left : (a : AgentHalf) (cs : List Call) → a.saved.limit ≤ (calls_after a cs).saved.limit
limit_left a cs = calls_have (λ part. a.saved.limit ≤ part.limit) cs a (limits_keep a.saved.limit cs a) (omega arith)

settings_keep : (n : Saved) (a : AgentHalf) (c : Call) → keeps_trial c ≡ false → Keeps (λ s. s.settings ≡ n.settings) a c
settings_keep n a (Change now) kind q = tt
settings_keep n a Report kind q = by_test (eqb a.next a.saved.limit)
  where
    by_test : (t : Bool) → ForKept (λ s. s.settings ≡ n.settings) (cond t (Some (record (a.saved) { limit = a.saved.limit + RESERVED_BLOCK })) None)
    by_test true = q
    by_test false = tt
settings_keep n a (TakeReply reply) kind q = of_reply (λ s. s.settings ≡ n.settings) a reply (λ answered. q) (heard_in reply)
settings_keep n a GiveUp kind q = tt
settings_keep n a CommitTry kind q = absurd (false≢true (sym kind))
settings_keep n a AbandonTry kind q = tt
settings_keep n a (ConfigDone None status) kind q = q
settings_keep n a (ConfigDone (Some applied) status) kind q = q
settings_keep n a (PackagesDone statuses) kind q = q
settings_keep n a (Say message) kind q = tt
settings_keep n a (BeginTry next) kind q = tt

pub settings_kept : (a : AgentHalf) (cs : List Call) → All (λ c. keeps_trial c ≡ false) cs → All (λ part. part.settings ≡ a.saved.settings) (saves_of a cs)
settings_kept a cs kinds =
    saves_have (λ part. part.settings ≡ a.saved.settings) cs a
    (all_keep (λ part. part.settings ≡ a.saved.settings) (λ c. keeps_trial c ≡ false) (settings_keep a.saved) cs a kinds) refl

pub settings_left : (a : AgentHalf) (cs : List Call) → All (λ c. keeps_trial c ≡ false) cs → (calls_after a cs).saved.settings ≡ a.saved.settings
settings_left a cs kinds =
    calls_have (λ part. part.settings ≡ a.saved.settings) cs a
    (all_keep (λ part. part.settings ≡ a.saved.settings) (λ c. keeps_trial c ≡ false) (settings_keep a.saved) cs a kinds) refl

files_keep : (n : Saved) (a : AgentHalf) (c : Call) → applies_files c ≡ false → Keeps (λ s. s.config ≡ n.config) a c
files_keep n a (Change now) kind q = tt
files_keep n a Report kind q = by_test (eqb a.next a.saved.limit)
  where
    by_test : (t : Bool) → ForKept (λ s. s.config ≡ n.config) (cond t (Some (record (a.saved) { limit = a.saved.limit + RESERVED_BLOCK })) None)
    by_test true = q
    by_test false = tt
files_keep n a (TakeReply reply) kind q = of_reply (λ s. s.config ≡ n.config) a reply (λ answered. q) (heard_in reply)
files_keep n a GiveUp kind q = tt
files_keep n a CommitTry kind q = q
files_keep n a AbandonTry kind q = tt
files_keep n a (ConfigDone None status) kind q = q
files_keep n a (ConfigDone (Some applied) status) kind q = absurd (false≢true (sym kind))
files_keep n a (PackagesDone statuses) kind q = q
files_keep n a (Say message) kind q = tt
files_keep n a (BeginTry next) kind q = tt

pub files_kept : (a : AgentHalf) (cs : List Call) → All (λ c. applies_files c ≡ false) cs → All (λ part. part.config ≡ a.saved.config) (saves_of a cs)
files_kept a cs kinds =
    saves_have (λ part. part.config ≡ a.saved.config) cs a
    (all_keep (λ part. part.config ≡ a.saved.config) (λ c. applies_files c ≡ false) (files_keep a.saved) cs a kinds) refl

pub files_left : (a : AgentHalf) (cs : List Call) → All (λ c. applies_files c ≡ false) cs → (calls_after a cs).saved.config ≡ a.saved.config
files_left a cs kinds =
    calls_have (λ part. part.config ≡ a.saved.config) cs a
    (all_keep (λ part. part.config ≡ a.saved.config) (λ c. applies_files c ≡ false) (files_keep a.saved) cs a kinds) refl

-- numbers stay reserved over one call
keeping_reserved : (o : Option Saved) (a : AgentHalf) → ForKept (λ s. a.saved.limit ≤ s.limit) o → IsReserved a → IsReserved (keeping o a)
keeping_reserved None a k r = r
keeping_reserved (Some s) a k r = record { below = omega (arith, r.below, k); fresh = λ is. absurd (false≢true (sym is)) }

report_reserved : (a : AgentHalf) → IsReserved a → (t : Bool) → eqb a.next a.saved.limit ≡ t
    → let part = cond t (Some (record (a.saved) { limit = a.saved.limit + RESERVED_BLOCK })) None in
    ((keeping part a).is_kept ≡ true) × (a.next < (keeping part a).saved.limit)
report_reserved a r true is = (refl, omega (arith, r.below))
report_reserved a r false is = (by_kept a.is_kept refl, omega (arith, r.below, eqb-false a.next a.saved.limit is))
  where
    by_kept : (t : Bool) → a.is_kept ≡ t → a.is_kept ≡ true
    by_kept true kept = kept
    by_kept false kept = absurd (eqb-false a.next a.saved.limit is (r.fresh kept))

pub handed_out : (a : AgentHalf) → IsReserved a → ((call_after a Report).is_kept ≡ true) × (a.next < (call_after a Report).saved.limit)
handed_out a r = report_reserved a r (eqb a.next a.saved.limit) refl

pub stays_reserved : (a : AgentHalf) (c : Call) → IsReserved a → IsReserved (call_after a c)
stays_reserved a (Change now) r = record { below = r.below; fresh = r.fresh }
stays_reserved a Report r =
    let out = handed_out a r in
    record { below = omega (arith, out.1); fresh = λ is. absurd (false≢true (sym is ∙ out.0)) }
stays_reserved a (TakeReply reply) r = by_heard (heard_in reply) refl
  where
    taken : IsReserved (keeping (kept_by a (TakeReply reply)) a)
    taken = keeping_reserved (kept_by a (TakeReply reply)) a (limit_keeps a.saved.limit a (TakeReply reply) (omega arith)) r

    by_heard : (h : Heard) → heard_in reply ≡ h → IsReserved (told_by h reply a)
    by_heard Commanded is = record { below = r.below; fresh = r.fresh }
    by_heard Failed is = record { below = r.below; fresh = r.fresh }
    by_heard Asked is = record { below = taken.below; fresh = taken.fresh }
    by_heard Plain is = record { below = taken.below; fresh = taken.fresh }
stays_reserved a GiveUp r = record { below = r.below; fresh = r.fresh }
stays_reserved a CommitTry r = record { below = r.below; fresh = λ is. absurd (false≢true (sym is)) }
stays_reserved a AbandonTry r = record { below = r.below; fresh = r.fresh }
stays_reserved a (ConfigDone None status) r = record { below = r.below; fresh = λ is. absurd (false≢true (sym is)) }
stays_reserved a (ConfigDone (Some applied) status) r = record { below = r.below; fresh = λ is. absurd (false≢true (sym is)) }
stays_reserved a (PackagesDone statuses) r = record { below = r.below; fresh = λ is. absurd (false≢true (sym is)) }
stays_reserved a (Say message) r = record { below = r.below; fresh = r.fresh }
stays_reserved a (BeginTry next) r = record { below = r.below; fresh = r.fresh }

keeping_proved : (o : Option Saved) (a : AgentHalf) → (keeping o a).proved ≡ a.proved
keeping_proved None a = refl
keeping_proved (Some s) a = refl

keeping_trial : (o : Option Saved) (a : AgentHalf) → (keeping o a).trial ≡ a.trial
keeping_trial None a = refl
keeping_trial (Some s) a = refl

pub proved_before : (a : AgentHalf) (c : Call) → is_reply c ≡ false → (call_after a c).proved ≡ true → a.proved ≡ true
proved_before a (Change now) kind is = is
proved_before a Report kind is = sym (keeping_proved (kept_by a Report) a) ∙ is
proved_before a (TakeReply reply) kind is = absurd (false≢true (sym kind))
proved_before a GiveUp kind is = is
proved_before a CommitTry kind is = absurd (false≢true is)
proved_before a AbandonTry kind is = absurd (false≢true is)
proved_before a (ConfigDone None status) kind is = is
proved_before a (ConfigDone (Some applied) status) kind is = is
proved_before a (PackagesDone statuses) kind is = is
proved_before a (Say message) kind is = is
proved_before a (BeginTry next) kind is = absurd (false≢true is)

pub proved_by : (a : AgentHalf) (reply : ServerToAgent) → (call_after a (TakeReply reply)).proved ≡ true → (heard_in reply ≡ Plain) × (is_some a.trial ≡ true)
proved_by a reply = by_heard (heard_in reply) refl
  where
    by_heard : (h : Heard) → heard_in reply ≡ h → (told_by h reply a).proved ≡ true → (heard_in reply ≡ Plain) × (is_some a.trial ≡ true)
    by_heard Commanded is proved = absurd (false≢true proved)
    by_heard Failed is proved = absurd (false≢true proved)
    by_heard Asked is proved = absurd (false≢true proved)
    by_heard Plain is proved = (is, proved)
