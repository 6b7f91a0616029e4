-- What calls keep: a property of what is kept that each call hands on holds after an event, and after a stop within it.
use Rattle.std.proofs.Common.{◌≡◌, ℕ, ◌+◌, ◌≤◌, zero, suc, List, [], ◌∷◌, ◌++◌, length, Bool, true, false, cond, not, eqb, Option, None, Some, refl, sym, ap, subst, arith}
use Rattle.std.specs.Prelude.{unwrap_or}
use Rattle.std.specs.Option.{option_and_then, option_to_list}
use Rattle.std.proofs.lemmas.Bool.{eqb-true}
use Rattle.message_values.specs.declared.reply.AgentIdentification.{AgentIdentification}
use Rattle.message_values.specs.declared.reply.ServerToAgent.{ServerToAgent}
use Rattle.agent_rules.specs.declared.saved.Saved.{Saved}
use Rattle.agent_rules.specs.declared.rules.replies.Heard.{Heard}
use Rattle.agent_rules.specs.declared.rules.replies.Heard.TheVariants.{Commanded, Failed, Asked, Plain}
use Rattle.agent_rules.specs.declared.rules.parts.TheConstants.{RESERVED_BLOCK}
use Rattle.agent_rules.specs.Reports.{where_true}
use Rattle.agent_rules.specs.Half.{AgentHalf}
use Rattle.agent_rules.specs.Keeping.{Call, Change, Report, TakeReply, GiveUp, CommitTry, AbandonTry, ConfigDone, PackagesDone, Say, BeginTry, heard_in, new_uid, taught, teaches_nothing, kept_of_reply, kept_by, keeping, kept, fits}
use Rattle.agent_rules.specs.Calls.{told_by, call_after, calls_after, saves_of}
use Rattle.agent_rules.specs.Events.{AgentEvent, Changes, Reports, Hears, GivesUp, Restarts, Crashes, calls_in, keeping_first, agent_after}

-- what is kept, if anything, has this property
abbrev pub ForKept : (Saved → Type 0) → Option Saved → Type 0
ForKept Q None = Unit {0}
ForKept Q (Some s) = Q s

abbrev pub AllHave : (Saved → Type 0) → List Saved → Type 0
AllHave Q [] = Unit {0}
AllHave Q (s ∷ ss) = Q s × AllHave Q ss

-- the call hands the property on
abbrev pub Keeps : (Saved → Type 0) → AgentHalf → Call → Type 0
Keeps Q a c = Q a.saved → ForKept Q (kept_by a c)

abbrev pub AllKeep : (Saved → Type 0) → AgentHalf → List Call → Type 0
AllKeep Q a [] = Unit {0}
AllKeep Q a (c ∷ cs) = Keeps Q a c × AllKeep Q (call_after a c) cs

-- what a call leaves as kept is what it keeps
pub call_saved : (a : AgentHalf) (c : Call) → (call_after a c).saved ≡ (kept a c).saved
call_saved a (TakeReply reply) = by_heard (heard_in reply) refl
  where
    by_heard : (h : Heard) → heard_in reply ≡ h → (told_by h reply a).saved ≡ (kept a (TakeReply reply)).saved
    by_heard Asked is = refl
    by_heard Plain is = refl
    by_heard h is = ap (λ x. (keeping (kept_of_reply a x reply) a).saved) (sym is)
call_saved a _ = refl

keeping_has : (Q : Saved → Type 0) (o : Option Saved) (a : AgentHalf) → Q a.saved → ForKept Q o → Q (keeping o a).saved
keeping_has Q None a q k = q
keeping_has Q (Some s) a q k = k

-- after the call
pub call_has : (Q : Saved → Type 0) (a : AgentHalf) (c : Call) → Q a.saved → Keeps Q a c → Q (call_after a c).saved
call_has Q a c q k = subst Q (sym (call_saved a c)) (keeping_has Q (kept_by a c) a q (k q))

-- after calls
pub calls_have : (Q : Saved → Type 0) (cs : List Call) (a : AgentHalf) → AllKeep Q a cs → Q a.saved → Q (calls_after a cs).saved
calls_have Q [] a k q = q
calls_have Q (c ∷ cs) a k q = by_test (calls_have Q cs (call_after a c) k.1 (call_has Q a c q k.0)) (fits a c)
  where
    by_test : Q (calls_after (call_after a c) cs).saved → (t : Bool) → Q (cond t (calls_after (call_after a c) cs) a).saved
    by_test rest true = rest
    by_test rest false = q

more_have : (Q : Saved → Type 0) (o : Option Saved) (ss : List Saved) → ForKept Q o → AllHave Q ss → AllHave Q (option_to_list o ++ ss)
more_have Q None ss k all = all
more_have Q (Some s) ss k all = (k, all)

-- all that calls keep
pub saves_have : (Q : Saved → Type 0) (cs : List Call) (a : AgentHalf) → AllKeep Q a cs → Q a.saved → AllHave Q (saves_of a cs)
saves_have Q [] a k q = tt
saves_have Q (c ∷ cs) a k q = by_test (saves_have Q cs (call_after a c) k.1 (call_has Q a c q k.0)) (fits a c)
  where
    by_test : AllHave Q (saves_of (call_after a c) cs) → (t : Bool) → AllHave Q (cond t (option_to_list (kept_by a c) ++ saves_of (call_after a c) cs) [])
    by_test rest true = more_have Q (kept_by a c) _ (k.0 q) rest
    by_test rest false = tt

-- after a stop
pub first_have : (Q : Saved → Type 0) (n : ℕ) (ss : List Saved) (a : AgentHalf) → AllHave Q ss → Q a.saved → Q (keeping_first n ss a).saved
first_have Q n [] a all q = q
first_have Q zero (s ∷ ss) a all q = q
first_have Q (suc n) (s ∷ ss) a all q = first_have Q n ss (keeping (Some s) a) all.1 all.0

-- each call of the event, or of the one in which the agent stops, hands the property on
abbrev pub EventKeeps : (Saved → Type 0) → AgentHalf → AgentEvent → Type 0
EventKeeps Q a (Changes now) = AllKeep Q a (calls_in a (Changes now))
EventKeeps Q a Reports = AllKeep Q a (calls_in a Reports)
EventKeeps Q a (Hears reply r) = AllKeep Q a (calls_in a (Hears reply r))
EventKeeps Q a GivesUp = AllKeep Q a (calls_in a GivesUp)
EventKeeps Q a (Restarts local asks_uid) = Unit {0}
EventKeeps Q a (Crashes during n) = AllKeep Q a (calls_in a during)

pub event_has : (Q : Saved → Type 0) (a : AgentHalf) (event : AgentEvent) → EventKeeps Q a event → Q a.saved → Q (agent_after a event).saved
event_has Q a (Changes now) k q = calls_have Q (calls_in a (Changes now)) a k q
event_has Q a Reports k q = calls_have Q (calls_in a Reports) a k q
event_has Q a (Hears reply r) k q = calls_have Q (calls_in a (Hears reply r)) a k q
event_has Q a GivesUp k q = calls_have Q (calls_in a GivesUp) a k q
event_has Q a (Restarts local asks_uid) k q = q
event_has Q a (Crashes during n) k q = first_have Q n (saves_of a (calls_in a during)) a (saves_have Q (calls_in a during) a k q) q

-- where every call hands it on, every event does
pub all_keep : (Q : Saved → Type 0) → ((a : AgentHalf) (c : Call) → Keeps Q a c) → (cs : List Call) (a : AgentHalf) → AllKeep Q a cs
all_keep Q each [] a = tt
all_keep Q each (c ∷ cs) a = (each a c, all_keep Q each cs (call_after a c))

pub event_keeps : (Q : Saved → Type 0) → ((a : AgentHalf) (c : Call) → Keeps Q a c) → (a : AgentHalf) (event : AgentEvent) → EventKeeps Q a event
event_keeps Q each a (Changes now) = all_keep Q each (calls_in a (Changes now)) a
event_keeps Q each a Reports = all_keep Q each (calls_in a Reports) a
event_keeps Q each a (Hears reply r) = all_keep Q each (calls_in a (Hears reply r)) a
event_keeps Q each a GivesUp = all_keep Q each (calls_in a GivesUp) a
event_keeps Q each a (Restarts local asks_uid) = tt
event_keeps Q each a (Crashes during n) = all_keep Q each (calls_in a during) a

-- a new identifier has 16 bytes
uid_given : (o : Option AgentIdentification) (former : List ℕ) → length former ≡ 16
    → length (unwrap_or (option_and_then (λ (given : AgentIdentification). where_true (eqb (length given.new_instance_uid) 16) given.new_instance_uid) o) former) ≡ 16
uid_given None former named = named
uid_given (Some given) former named = by_test (eqb (length given.new_instance_uid) 16) refl
  where
    by_test : (t : Bool) → eqb (length given.new_instance_uid) 16 ≡ t → length (unwrap_or (cond t (Some given.new_instance_uid) None) former) ≡ 16
    by_test true is = eqb-true (length given.new_instance_uid) 16 is
    by_test false is = named

pub uid_named : (a : AgentHalf) (reply : ServerToAgent) → length a.saved.uid ≡ 16 → length (unwrap_or (new_uid reply) a.saved.uid) ≡ 16
uid_named a reply named = uid_given reply.agent_identification a.saved.uid named

-- what a reply makes kept, of whichever kind it is
pub of_reply : (Q : Saved → Type 0) (a : AgentHalf) (reply : ServerToAgent) → ((answered : Bool) → Q (taught a reply answered)) → (h : Heard) → ForKept Q (kept_of_reply a h reply)
of_reply Q a reply each Commanded = tt
of_reply Q a reply each Failed = tt
of_reply Q a reply each Asked = by_test (not (teaches_nothing a.saved (taught a reply false)))
  where
    by_test : (t : Bool) → ForKept Q (cond t (Some (taught a reply false)) None)
    by_test true = each false
    by_test false = tt
of_reply Q a reply each Plain = by_test (not (teaches_nothing a.saved (taught a reply true)))
  where
    by_test : (t : Bool) → ForKept Q (cond t (Some (taught a reply true)) None)
    by_test true = each true
    by_test false = tt

-- an identifier has 16 bytes, and numbers up to this one are reserved
pub record IsReserved (next : ℕ) (s : Saved) : Type 0 where
  pub named : length s.uid ≡ 16
  pub limit : next ≤ s.limit

pub reserved_keeps : (next : ℕ) (a : AgentHalf) (c : Call) → Keeps (IsReserved next) a c
reserved_keeps next a (Change now) q = tt
reserved_keeps next a Report q = by_test (eqb a.next a.saved.limit)
  where
    by_test : (t : Bool) → ForKept (IsReserved next) (cond t (Some (record (a.saved) { limit = a.saved.limit + RESERVED_BLOCK })) None)
    by_test true = record { named = q.named; limit = omega (arith, q.limit) }
    by_test false = tt
reserved_keeps next a (TakeReply reply) q =
    of_reply (IsReserved next) a reply (λ answered. record { named = uid_named a reply q.named; limit = q.limit }) (heard_in reply)
reserved_keeps next a GiveUp q = tt
reserved_keeps next a CommitTry q = record { named = q.named; limit = q.limit }
reserved_keeps next a AbandonTry q = tt
reserved_keeps next a (ConfigDone None status) q = record { named = q.named; limit = q.limit }
reserved_keeps next a (ConfigDone (Some applied) status) q = record { named = q.named; limit = q.limit }
reserved_keeps next a (PackagesDone statuses) q = record { named = q.named; limit = q.limit }
reserved_keeps next a (Say message) q = tt
reserved_keeps next a (BeginTry next_settings) q = tt
