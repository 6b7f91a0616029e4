-- An agent comes to use at most two identifiers: its first one, and one that a server gave it.
use Rattle.std.proofs.Common.{◌≡◌, ℕ, ◌+◌, ◌-◌, List, [], ◌∷◌, ◌++◌, length, ◌⊎◌, Bool, true, false, cond, not, ◌&&◌, ◌||◌, eqb, map, Option, None, Some, slice_get, refl, sym, ◌∙◌, ap, subst, inl, inr, zero, suc, arith}
use Rattle.std.specs.Prelude.{is_none, is_some, unwrap_or, filter}
use Rattle.std.specs.Option.{option_map, option_and_then}
use Rattle.std.specs.Str.{bytes_eq}
use Rattle.std.proofs.lemmas.Bool.{false≢true, eqb-true}
use Rattle.message_values.specs.declared.custom.CustomMessage.{CustomMessage}
use Rattle.message_values.specs.declared.reply.AgentIdentification.{AgentIdentification}
use Rattle.message_values.specs.declared.reply.ServerToAgent.{ServerToAgent}
use Rattle.agent_rules.specs.declared.saved.Saved.{Saved}
use Rattle.message_deltas.specs.Obligations.{has_bit}
use Rattle.server_core.specs.declared.replies.Profile.{Profile}
use Rattle.server_core.specs.History.{is_among}
use Rattle.server_core.specs.Offers.{fits_offer}
use Rattle.server_core.specs.Replies.{Dues, Passed, Taken, reply_to, accepting_reply, restarting_reply, offering_reply, custom_due, identification, error_alone}
use Rattle.message_values.specs.declared.report.AgentToServer.{AgentToServer}
use Rattle.message_values.specs.declared.profile.TheConstants.{REPORT_AVAILABLE_COMPONENTS, REPORT_FULL_STATE, REQUEST_INSTANCE_UID}
use Rattle.agent_rules.specs.declared.rules.parts.TheConstants.{RESERVED_BLOCK}
use Rattle.agent_rules.specs.declared.rules.replies.Heard.{Heard}
use Rattle.agent_rules.specs.declared.rules.replies.Heard.TheVariants.{Commanded, Failed, Asked, Plain}
use Rattle.agent_rules.specs.Reports.{Entry, message_of, where_true}
use Rattle.agent_rules.specs.Half.{AgentHalf, entry_of}
use Rattle.agent_rules.specs.Keeping.{Call, Change, Report, TakeReply, GiveUp, CommitTry, AbandonTry, ConfigDone, PackagesDone, Say, BeginTry, heard_in, new_uid, taught, keeping, fits}
use Rattle.agent_rules.specs.Calls.{may_report, reported, told_by, told, given_up, call_after, calls_after}
use Rattle.agent_rules.specs.Offers.{Reactions, next_of, trial_calls, without_trial}
use Rattle.agent_rules.specs.Events.{AgentEvent, Changes, Hears, GivesUp, Crashes, following, reply_calls, leaving_calls, calls_in, agent_after}
use Rattle.world_model.specs.World.{World, Holding, Event, Changed, Sent, Delivered, Answered, Took, Erred, GaveUp, Offered, Ordered, Withdrawn, Forgotten, ServerRestarted, Restarted, Crashed, Given, last_sent, server_to, stands, dues_with, verdict_in, carrying, reply_at, delivers, with_offer, with_restart, with_nothing, changes_held, reply_due, no_reactions, crash_of, seen_of, agent_follows, sends, after, run, Start, opening, world}
use Rattle.world_model.specs.Servers.{uids_sent, IsNeverFull, NamesNobody, NameNobody}
use Rattle.world_model.specs.Proofs.{reply_in}
use Rattle.world_model.proofs.Places.{none≢some, some_same, slice_get-push_old, slice_get-push_cases, last_push}
use Rattle.world_model.proofs.Calls.{ForKept, Keeps, AllKeep, of_reply, call_has, event_has}
use Rattle.world_model.proofs.Kept.{Settles, AllSettle, settle-append, over_settling, following_settles, entry_is}
use Rattle.world_model.proofs.Below.{KeepsOrder}
use Rattle.world_model.proofs.Rooms.{few_among, uids_of}

-- an identifier in use, and whether a server gave it
abbrev pub IsOneOf : List ℕ → List ℕ → Bool → List ℕ → Type 0
IsOneOf first second given uid = ((given ≡ false) × (uid ≡ first)) ⊎ ((given ≡ true) × (uid ≡ second))

-- what is kept has one of the two, and one that was given stays given
pub record IsGiven (first second : List ℕ) (before : Bool) (s : Saved) : Type 0 where
  pub one : IsOneOf first second s.uid_given s.uid
  pub stays : before ≡ true → s.uid_given ≡ true

-- a new identifier is given once, and is the second
abbrev IsNew : List ℕ → AgentHalf → ServerToAgent → Type 0
IsNew second a reply = (n : List ℕ) → new_uid reply ≡ Some n → (a.saved.uid_given ≡ false) × (n ≡ second)

settle_given : (first second : List ℕ) (before : Bool) (a : AgentHalf) (c : Call) → Settles c → Keeps (IsGiven first second before) a c
settle_given first second before a (Change now) s q = tt
settle_given first second before a GiveUp s q = tt
settle_given first second before a CommitTry s q = record { one = q.one; stays = q.stays }
settle_given first second before a AbandonTry s q = tt
settle_given first second before a (ConfigDone None status) s q = record { one = q.one; stays = q.stays }
settle_given first second before a (ConfigDone (Some applied) status) s q = record { one = q.one; stays = q.stays }
settle_given first second before a (PackagesDone statuses) s q = record { one = q.one; stays = q.stays }
settle_given first second before a (Say message) s q = tt
settle_given first second before a (BeginTry next) s q = tt
settle_given first second before a Report s q = absurd s
settle_given first second before a (TakeReply reply) s q = absurd s

all_given : (first second : List ℕ) (before : Bool) (cs : List Call) (a : AgentHalf) → AllSettle cs → AllKeep (IsGiven first second before) a cs
all_given first second before [] a s = tt
all_given first second before (c ∷ cs) a s = (settle_given first second before a c s.0, all_given first second before cs (call_after a c) s.1)

report_given : (first second : List ℕ) (before : Bool) (a : AgentHalf) → Keeps (IsGiven first second before) a Report
report_given first second before a q = by_test (eqb a.next a.saved.limit)
  where
    by_test : (t : Bool) → ForKept (IsGiven first second before) (cond t (Some (record (a.saved) { limit = a.saved.limit + RESERVED_BLOCK })) None)
    by_test true = record { one = q.one; stays = q.stays }
    by_test false = tt

taught_given : (first second : List ℕ) (before : Bool) (a : AgentHalf) (reply : ServerToAgent) (answered : Bool) → IsNew second a reply → IsGiven first second before a.saved
    → IsGiven first second before (taught a reply answered)
taught_given first second before a reply answered new q = record {
  one = by_new (new_uid reply) refl q.one;
  stays = λ so. ap (λ b. b || is_some (new_uid reply)) (q.stays so);
}
  where
    by_new : (o : Option (List ℕ)) → new_uid reply ≡ o → IsOneOf first second a.saved.uid_given a.saved.uid
        → IsOneOf first second (a.saved.uid_given || is_some o) (unwrap_or o a.saved.uid)
    by_new None is (inl own) = inl (ap (λ b. b || false) own.0, own.1)
    by_new None is (inr given) = inr (ap (λ b. b || false) given.0, given.1)
    by_new (Some n) is one = inr (ap (λ b. b || true) (new n is).0, (new n is).1)

trials_settle : (a : AgentHalf) → AllSettle (trial_calls a)
trials_settle a = by_trial (is_none a.trial)
  where
    by_proof : (t : Bool) → AllSettle (cond t (CommitTry ∷ []) (AbandonTry ∷ []))
    by_proof true = (tt, tt)
    by_proof false = (tt, tt)

    by_trial : (t : Bool) → AllSettle (cond t [] (cond (a.proved && fits a CommitTry) (CommitTry ∷ []) (AbandonTry ∷ [])))
    by_trial true = tt
    by_trial false = by_proof (a.proved && fits a CommitTry)

leaving_settle : (a : AgentHalf) → AllSettle (leaving_calls a)
leaving_settle a = by_trial (is_none a.trial)
  where
    by_trial : (t : Bool) → AllSettle (cond t [] (AbandonTry ∷ []))
    by_trial true = tt
    by_trial false = (tt, tt)

-- the calls that follow once a reply was taken
abbrev rest_of : AgentHalf → ServerToAgent → Reactions → List Call
rest_of a reply r = trial_calls (told reply a) ++ following (without_trial (told reply a)) (next_of reply a) r

rest_settles : (a : AgentHalf) (reply : ServerToAgent) (r : Reactions) → AllSettle (rest_of a reply r)
rest_settles a reply r = settle-append _ _ (trials_settle (told reply a)) (following_settles (without_trial (told reply a)) (next_of reply a) r)

hears_given : (first second : List ℕ) (before : Bool) (a : AgentHalf) (reply : ServerToAgent) (r : Reactions) → (a.awaits ≡ true → IsNew second a reply)
    → AllKeep (IsGiven first second before) a (calls_in a (Hears reply r))
hears_given first second before a reply r new = by_awaits a.awaits refl
  where
    by_awaits : (t : Bool) → a.awaits ≡ t → AllKeep (IsGiven first second before) a (cond t (reply_calls a reply r) [])
    by_awaits true so = (
      (λ q. of_reply (IsGiven first second before) a reply (λ answered. taught_given first second before a reply answered (new so) q) (heard_in reply)),
      all_given first second before (rest_of a reply r) (told reply a) (rest_settles a reply r),
    )
    by_awaits false so = tt

gives_up_given : (first second : List ℕ) (before : Bool) (a : AgentHalf) → AllKeep (IsGiven first second before) a (calls_in a GivesUp)
gives_up_given first second before a = by_awaits a.awaits
  where
    by_awaits : (t : Bool) → AllKeep (IsGiven first second before) a (cond t (GiveUp ∷ leaving_calls a) [])
    by_awaits true = ((λ q. tt), all_given first second before (leaving_calls a) (given_up a) (leaving_settle a))
    by_awaits false = tt

-- an agent that awaits nothing goes on awaiting nothing
settle_quiet : (a : AgentHalf) (c : Call) → Settles c → a.awaits ≡ false → (call_after a c).awaits ≡ false
settle_quiet a (Change now) s q = q
settle_quiet a GiveUp s q = refl
settle_quiet a CommitTry s q = q
settle_quiet a AbandonTry s q = q
settle_quiet a (ConfigDone None status) s q = q
settle_quiet a (ConfigDone (Some applied) status) s q = q
settle_quiet a (PackagesDone statuses) s q = q
settle_quiet a (Say message) s q = q
settle_quiet a (BeginTry next) s q = q
settle_quiet a Report s q = absurd s
settle_quiet a (TakeReply reply) s q = absurd s

told_quiet : (a : AgentHalf) (reply : ServerToAgent) → (told reply a).awaits ≡ false
told_quiet a reply = by_heard (heard_in reply)
  where
    by_heard : (h : Heard) → (told_by h reply a).awaits ≡ false
    by_heard Commanded = refl
    by_heard Failed = refl
    by_heard Asked = refl
    by_heard Plain = refl

-- where an agent awaits an answer, and has a given identifier, the last entry asks for none
abbrev pub AsksNone : List Entry → AgentHalf → Type 0
AsksNone sent a = a.awaits ≡ true → a.saved.uid_given ≡ true → (e : Entry) → last_sent sent ≡ Some e → e.asks_uid ≡ false

quiet_asks : (sent : List Entry) (a : AgentHalf) → a.awaits ≡ false → AsksNone sent a
quiet_asks sent a quiet = λ so. absurd (false≢true (sym quiet ∙ so))

hears_asks : (sent : List Entry) (a : AgentHalf) (reply : ServerToAgent) (r : Reactions) → AsksNone sent a → AsksNone sent (agent_after a (Hears reply r))
hears_asks sent a reply r p = by_awaits a.awaits
  where
    by_room : (t : Bool) → AsksNone sent (cond t (calls_after (told reply a) (rest_of a reply r)) a)
    by_room true =
        quiet_asks sent (calls_after (told reply a) (rest_of a reply r)) (over_settling (λ (b : AgentHalf). b.awaits ≡ false) settle_quiet (rest_of a reply r) (told reply a) (rest_settles a reply r) (told_quiet a reply))
    by_room false = p

    by_awaits : (t : Bool) → AsksNone sent (calls_after a (cond t (reply_calls a reply r) []))
    by_awaits true = by_room (fits a (TakeReply reply))
    by_awaits false = p

gives_up_asks : (sent : List Entry) (a : AgentHalf) → AsksNone sent a → AsksNone sent (agent_after a GivesUp)
gives_up_asks sent a p = by_awaits a.awaits
  where
    by_awaits : (t : Bool) → AsksNone sent (calls_after a (cond t (GiveUp ∷ leaving_calls a) []))
    by_awaits true =
        quiet_asks sent (calls_after (given_up a) (leaving_calls a)) (over_settling (λ (b : AgentHalf). b.awaits ≡ false) settle_quiet (leaving_calls a) (given_up a) (leaving_settle a) refl)
    by_awaits false = p

crash_asks : (sent : List Entry) (a : AgentHalf) (n : ℕ) (o : Option AgentEvent) → AsksNone sent (agent_after a (crash_of a o n))
crash_asks sent a n None = λ so. absurd (false≢true so)
crash_asks sent a n (Some it) = λ so. absurd (false≢true so)

-- a recorded reply gives no identifier to an entry that asks for none
abbrev pub IsUnasked : List Entry → ℕ → ServerToAgent → Type 0
IsUnasked sent k r = (e : Entry) × ((slice_get sent k ≡ Some e) × (e.asks_uid ≡ false → r.agent_identification ≡ None))

-- what an agent and what was sent keep
pub record IsNamed (first second : List ℕ) (w : World) : Type 0 where
  pub saved : IsOneOf first second w.agent.saved.uid_given w.agent.saved.uid
  pub entries : (place : ℕ) (e : Entry) → slice_get w.sent place ≡ Some e → (e.uid ≡ first) ⊎ (e.uid ≡ second)
  pub early : w.agent.saved.uid_given ≡ false → (place : ℕ) (e : Entry) → slice_get w.sent place ≡ Some e → e.uid ≡ first
  pub asked : AsksNone w.sent w.agent
  pub replies : (k : ℕ) (r : ServerToAgent) → w.replies k ≡ Some r → IsUnasked w.sent k r

-- the second identifier, which is chosen when it is given
abbrev pub pick : Bool → Option ServerToAgent → List ℕ → List ℕ
pick given None second = second
pick true (Some reply) second = second
pick false (Some reply) second = unwrap_or (new_uid reply) second

pick_same : (o : Option ServerToAgent) (second : List ℕ) (given : Bool) → given ≡ true → pick given o second ≡ second
pick_same None second given is = refl
pick_same (Some reply) second true is = refl
pick_same (Some reply) second false is = absurd (false≢true is)

picked : (first second : List ℕ) (o : Option ServerToAgent) (given : Bool) (uid : List ℕ) → IsOneOf first second given uid → IsOneOf first (pick given o second) given uid
picked first second o given uid (inl own) = inl own
picked first second o given uid (inr its) = inr (its.0, its.1 ∙ sym (pick_same o second given its.0))

-- where the agent alone goes on
with_agent : (first second now : List ℕ) (w : World) (a : AgentHalf) → IsNamed first second w → (w.agent.saved.uid_given ≡ true → now ≡ second)
    → IsGiven first now w.agent.saved.uid_given a.saved → AsksNone w.sent a → IsNamed first now (record w { agent = a })
with_agent first second now w a s same q asks = record {
  saved = q.one;
  entries = by_given w.agent.saved.uid_given refl;
  early = by_early w.agent.saved.uid_given refl;
  asked = asks;
  replies = s.replies;
}
  where
    by_given : (g : Bool) → w.agent.saved.uid_given ≡ g → (place : ℕ) (e : Entry) → slice_get w.sent place ≡ Some e → (e.uid ≡ first) ⊎ (e.uid ≡ now)
    by_given true is place e at = elim (s.entries place e at) [ inl own ↦ inl own | inr its ↦ inr (its ∙ sym (same is)) ]
    by_given false is place e at = inl (s.early is place e at)

    by_early : (g : Bool) → w.agent.saved.uid_given ≡ g → a.saved.uid_given ≡ false → (place : ℕ) (e : Entry) → slice_get w.sent place ≡ Some e → e.uid ≡ first
    by_early true is isnt place e at = absurd (false≢true (sym isnt ∙ q.stays is))
    by_early false is isnt place e at = s.early is place e at

-- the last entry's reply gives an identifier only where one was asked for
new_is : (first second : List ℕ) (w : World) (reply : ServerToAgent) → IsNamed first second w → reply_due w ≡ Some reply → w.agent.awaits ≡ true
    → IsNew (pick w.agent.saved.uid_given (Some reply) second) w.agent reply
new_is first second w reply s due so n is = by_given w.agent.saved.uid_given refl
  where
    unasked : IsUnasked w.sent (length w.sent - 1) reply
    unasked = s.replies (length w.sent - 1) reply due

    by_given : (g : Bool) → w.agent.saved.uid_given ≡ g → (w.agent.saved.uid_given ≡ false) × (n ≡ pick g (Some reply) second)
    by_given true given =
        absurd (none≢some (sym (ap (option_and_then (λ (it : AgentIdentification). cond (eqb (length it.new_instance_uid) 16) (Some it.new_instance_uid) None))
        (unasked.1.1 (s.asked so given unasked.0 unasked.1.0))) ∙ is))
    by_given false given = (given, sym (ap (λ o. unwrap_or o second) is))

-- a handler's answer gives no identifier
carried : (message : Option CustomMessage) (reply : ServerToAgent) → (carrying message reply).agent_identification ≡ reply.agent_identification
carried message reply = by_test (is_none reply.command && (is_none reply.error_response && not (has_bit reply.flags REPORT_FULL_STATE)))
  where
    by_test : (t : Bool) → (cond t (record reply { custom_message = message }) reply).agent_identification ≡ reply.agent_identification
    by_test true = refl
    by_test false = refl

abbrev named : List ℕ → AgentIdentification
named uid = record { new_instance_uid = uid }

-- where a report asks for none, none is given
abbrev given_by : Option (List ℕ) → Bool → Option AgentIdentification
given_by fresh asks = cond (has_bit (cond asks REQUEST_INSTANCE_UID 0) REQUEST_INSTANCE_UID) (option_map named fresh) None

accepted_unnamed : (server : Profile) (m : AgentToServer) (fresh : Option (List ℕ)) (due : Dues) → identification m fresh ≡ None → (accepting_reply server m fresh due).agent_identification ≡ None
accepted_unnamed server m fresh due none = by_restart due.restart
  where
    by_restart : (t : Bool) → (cond t (restarting_reply server m.instance_uid) (record (offering_reply server m.instance_uid due.offers) {
      flags = cond due.details REPORT_AVAILABLE_COMPONENTS 0;
      agent_identification = identification m fresh;
      custom_capabilities = custom_due server m;
    })).agent_identification ≡ None
    by_restart true = refl
    by_restart false = none

-- the reply to an entry that asks for no identifier gives none
unnamed : (w : World) (place : ℕ) (e : Entry) (given : Given) → e.asks_uid ≡ false → (reply_at w place e given).agent_identification ≡ None
unnamed w place e given isnt = carried given.message (reply_to (w.profiles (server_to w e)) (message_of e) given.fresh (verdict_in w place e)) ∙ by_stands (stands w place e)
  where
    none : identification (message_of e) given.fresh ≡ None
    none = ap (given_by given.fresh) isnt

    by_stands : (t : Bool)
        → (reply_to (w.profiles (server_to w e)) (message_of e) given.fresh (cond t (Taken (dues_with w.sent (w.held (server_to w e) e.uid) place e)) Passed)).agent_identification ≡ None
    by_stands true = accepted_unnamed (w.profiles (server_to w e)) (message_of e) given.fresh (dues_with w.sent (w.held (server_to w e) e.uid) place e) none
    by_stands false = none

-- a report reaches its server
delivered_named : (first second : List ℕ) (w : World) (place : ℕ) (given : Given) (o : Option Entry) → slice_get w.sent place ≡ o → IsNamed first second w
    → IsNamed first second (delivers w place given o)
delivered_named first second w place given None at s = s
delivered_named first second w place given (Some e) at s = record {
  saved = s.saved;
  entries = s.entries;
  early = s.early;
  asked = s.asked;
  replies = λ k r is. by_place k r (eqb k place) refl is;
}
  where
    by_place : (k : ℕ) (r : ServerToAgent) (t : Bool) → eqb k place ≡ t → cond t (Some (reply_at w place e given)) (w.replies k) ≡ Some r → IsUnasked w.sent k r
    by_place k r true here is =
        (e, (ap (slice_get w.sent) (eqb-true k place here) ∙ at, λ isnt. ap (λ (x : ServerToAgent). x.agent_identification) (sym (some_same is)) ∙ unnamed w place e given isnt))
    by_place k r false there is = s.replies k r is

-- what is held alone changes
changes_named : (first second : List ℕ) (change : Holding → Holding) (w : World) (server uid : List ℕ) (o : Option Holding) → IsNamed first second w
    → IsNamed first second (changes_held change w server uid o)
changes_named first second change w server uid None s = s
changes_named first second change w server uid (Some h) s = record { saved = s.saved; entries = s.entries; early = s.early; asked = s.asked; replies = s.replies }

module _ (first second : List ℕ) (w : World) (s : IsNamed first second w) where
  abbrev IsKept : List ℕ → Saved → Type 0
  IsKept now = IsGiven first now w.agent.saved.uid_given

  abbrev now_with : Option ServerToAgent → List ℕ
  now_with o = pick w.agent.saved.uid_given o second

  now_same : (o : Option ServerToAgent) → w.agent.saved.uid_given ≡ true → now_with o ≡ second
  now_same o is = pick_same o second w.agent.saved.uid_given is

  at_first : (o : Option ServerToAgent) → IsKept (now_with o) w.agent.saved
  at_first o = record { one = picked first second o w.agent.saved.uid_given w.agent.saved.uid s.saved; stays = λ so. so }

  again : {v : World} → IsNamed first second v → IsNamed first (now_with None) v
  again {v} n = n

  abbrev SeenKeeps : List ℕ → Option AgentEvent → Type 0
  SeenKeeps now None = Unit {0}
  SeenKeeps now (Some it) = AllKeep (IsKept now) w.agent (calls_in w.agent it)

  erred_new : (now : List ℕ) (error : _) → IsNew now w.agent (error_alone w.agent.saved.uid error)
  erred_new now error = λ n is. absurd (none≢some is)

  -- a message that gives no identifier
  took_new : (now : List ℕ) (message : ServerToAgent) → message.agent_identification ≡ None → IsNew now w.agent message
  took_new now message nobody = λ n is.
      absurd (none≢some (sym (ap (option_and_then (λ (it : AgentIdentification). cond (eqb (length it.new_instance_uid) 16) (Some it.new_instance_uid) None)) nobody) ∙ is))

  seen_keeps : (during : Event) → NamesNobody during → SeenKeeps (now_with (reply_in w during)) (seen_of w during)
  seen_keeps (Changed now) nobody = ((λ q. tt), tt)
  seen_keeps Sent nobody = by_test (may_report w.agent)
    where
      by_test : (t : Bool) → AllKeep (IsKept (now_with None)) w.agent (cond t (Report ∷ []) [])
      by_test true = (report_given first (now_with None) w.agent.saved.uid_given w.agent, tt)
      by_test false = tt
  seen_keeps (Delivered place given) nobody = tt
  seen_keeps (Answered r) nobody = by_reply (reply_due w) refl
    where
      by_reply : (o : Option ServerToAgent) → reply_due w ≡ o → SeenKeeps (now_with o) (option_map (λ reply. Hears reply r) o)
      by_reply None is = tt
      by_reply (Some reply) is = hears_given first (now_with (Some reply)) w.agent.saved.uid_given w.agent reply r (λ so. new_is first second w reply s is so)
  seen_keeps (Took message r) nobody = by_uid (bytes_eq message.instance_uid w.agent.saved.uid)
    where
      by_uid : (t : Bool) → SeenKeeps (now_with (Some message)) (where_true t (Hears message r))
      by_uid true =
          hears_given first (now_with (Some message)) w.agent.saved.uid_given w.agent message r
          (λ so. took_new (now_with (Some message)) message nobody)
      by_uid false = tt
  seen_keeps (Erred error) nobody =
      hears_given first (now_with None) w.agent.saved.uid_given w.agent (error_alone w.agent.saved.uid error) no_reactions (λ so. erred_new (now_with None) error)
  seen_keeps GaveUp nobody = gives_up_given first (now_with None) w.agent.saved.uid_given w.agent
  seen_keeps (Offered server uid offer) nobody = tt
  seen_keeps (Ordered server uid) nobody = tt
  seen_keeps (Withdrawn server uid) nobody = tt
  seen_keeps (Forgotten server uid) nobody = tt
  seen_keeps (ServerRestarted server) nobody = tt
  seen_keeps (Restarted local asks_uid) nobody = tt
  seen_keeps (Crashed during n) nobody = by_seen (seen_of w during)
    where
      by_seen : (o : Option AgentEvent) → SeenKeeps (now_with (reply_in w during)) (Some (crash_of w.agent o n))
      by_seen None = tt
      by_seen (Some it) = tt

  -- the agent stops in the event
  crash_given : (now : List ℕ) (n : ℕ) (o : Option AgentEvent) → SeenKeeps now o → IsKept now w.agent.saved → IsKept now (agent_after w.agent (crash_of w.agent o n)).saved
  crash_given now n None k q = record { one = q.one; stays = q.stays }
  crash_given now n (Some it) k q = event_has (IsKept now) w.agent (Crashes it n) k q

  -- the report
  sent_named : IsNamed first second (sends w)
  sent_named = record {
    saved = kept_given.one;
    entries = λ place e at. elim (slice_get-push_cases w.sent new place e at) [
      | inl old ↦ s.entries place e old
      | inr it ↦ subst (λ (x : Entry). (x.uid ≡ first) ⊎ (x.uid ≡ second)) it.1 new_one
    ];
    early = λ isnt place e at. elim (slice_get-push_cases w.sent new place e at) [
      | inl old ↦ s.early (given_same ∙ isnt) place e old
      | inr it ↦ ap (λ (x : Entry). x.uid) (sym it.1) ∙ new_uid_is ∙ own_first (given_same ∙ isnt)
    ];
    asked = λ so given e last. ap (λ (x : Entry). x.asks_uid) (some_same (sym last ∙ last_push w.sent new)) ∙ asks_not (given_same ∙ given);
    replies = λ k r is. let x = s.replies k r is in (x.0, (slice_get-push_old w.sent new k x.0 x.1.0, x.1.1));
  }
    where
      new : Entry
      new = entry_of w.agent

      new_uid_is : new.uid ≡ w.agent.saved.uid
      new_uid_is = ap (λ (x : Entry). x.uid) (entry_is w.agent).1

      new_one : (new.uid ≡ first) ⊎ (new.uid ≡ second)
      new_one = elim s.saved [ inl own ↦ inl (new_uid_is ∙ own.1) | inr its ↦ inr (new_uid_is ∙ its.1) ]

      own_first : w.agent.saved.uid_given ≡ false → w.agent.saved.uid ≡ first
      own_first isnt = elim s.saved [ inl own ↦ own.1 | inr its ↦ absurd (false≢true (sym isnt ∙ its.0)) ]

      asks_not : w.agent.saved.uid_given ≡ true → new.asks_uid ≡ false
      asks_not given = ap (λ (x : Entry). x.asks_uid) (entry_is w.agent).1 ∙ by_given w.agent.asks_uid w.agent.saved.uid_given given
        where
          by_given : (a g : Bool) → g ≡ true → (a && not g) ≡ false
          by_given true true so = refl
          by_given true false so = absurd (false≢true so)
          by_given false g so = refl

      kept_given : IsGiven first second w.agent.saved.uid_given (reported w.agent).saved
      kept_given =
          call_has (IsGiven first second w.agent.saved.uid_given) w.agent Report (record { one = s.saved; stays = λ so. so })
          (report_given first second w.agent.saved.uid_given w.agent)

      given_same : w.agent.saved.uid_given ≡ (reported w.agent).saved.uid_given
      given_same = by_test (eqb w.agent.next w.agent.saved.limit)
        where
          by_test : (t : Bool) → w.agent.saved.uid_given
              ≡ (keeping (cond t (Some (record (w.agent.saved) { limit = w.agent.saved.limit + RESERVED_BLOCK })) None) w.agent).saved.uid_given
          by_test true = refl
          by_test false = refl

  pub named_after : (e : Event) → NamesNobody e → IsNamed first (now_with (reply_in w e)) (after w e)
  named_after (Changed now) nobody =
      with_agent first second _ w _ s (now_same None) (event_has (IsKept (now_with None)) w.agent (Changes now) (seen_keeps (Changed now) tt) (at_first None)) s.asked
  named_after Sent nobody = by_test (may_report w.agent)
    where
      by_test : (t : Bool) → IsNamed first (now_with None) (cond t (sends w) w)
      by_test true = again sent_named
      by_test false = again s
  named_after (Delivered place given) nobody = again (delivered_named first second w place given (slice_get w.sent place) refl s)
  named_after (Answered r) nobody = by_reply (reply_due w) (seen_keeps (Answered r) tt)
    where
      by_reply : (o : Option ServerToAgent) → SeenKeeps (now_with o) (option_map (λ reply. Hears reply r) o)
          → IsNamed first (now_with o) (record w { agent = agent_follows w.agent (option_map (λ reply. Hears reply r) o) })
      by_reply None k = again s
      by_reply (Some reply) k =
          with_agent first second _ w _ s (now_same (Some reply)) (event_has (IsKept (now_with (Some reply))) w.agent (Hears reply r) k (at_first (Some reply)))
          (hears_asks w.sent w.agent reply r s.asked)
  named_after (Took message r) nobody = by_uid (bytes_eq message.instance_uid w.agent.saved.uid) (seen_keeps (Took message r) nobody)
    where
      by_uid : (t : Bool) → SeenKeeps (now_with (Some message)) (where_true t (Hears message r))
          → IsNamed first (now_with (Some message)) (record w { agent = agent_follows w.agent (where_true t (Hears message r)) })
      by_uid true k =
          with_agent first second _ w _ s (now_same (Some message)) (event_has (IsKept (now_with (Some message))) w.agent (Hears message r) k (at_first (Some message)))
          (hears_asks w.sent w.agent message r s.asked)
      by_uid false k = with_agent first second _ w w.agent s (now_same (Some message)) (at_first (Some message)) s.asked
  named_after (Erred error) nobody =
      with_agent first second _ w _ s (now_same None)
      (event_has (IsKept (now_with None)) w.agent (Hears (error_alone w.agent.saved.uid error) no_reactions) (seen_keeps (Erred error) tt) (at_first None))
      (hears_asks w.sent w.agent (error_alone w.agent.saved.uid error) no_reactions s.asked)
  named_after GaveUp nobody =
      with_agent first second _ w _ s (now_same None) (event_has (IsKept (now_with None)) w.agent GivesUp (seen_keeps GaveUp tt) (at_first None))
      (gives_up_asks w.sent w.agent s.asked)
  named_after (Offered server uid offer) nobody = by_test (fits_offer offer)
    where
      by_test : (t : Bool) → IsNamed first (now_with None) (cond t (changes_held (with_offer offer) w server uid (w.held server uid)) w)
      by_test true = again (changes_named first second (with_offer offer) w server uid (w.held server uid) s)
      by_test false = again s
  named_after (Ordered server uid) nobody = again (changes_named first second with_restart w server uid (w.held server uid) s)
  named_after (Withdrawn server uid) nobody = again (changes_named first second with_nothing w server uid (w.held server uid) s)
  named_after (Forgotten server uid) nobody = again (record { saved = s.saved; entries = s.entries; early = s.early; asked = s.asked; replies = s.replies })
  named_after (ServerRestarted server) nobody = again (record { saved = s.saved; entries = s.entries; early = s.early; asked = s.asked; replies = s.replies })
  named_after (Restarted local asks_uid) nobody = with_agent first second _ w _ s (now_same None) (record { one = (at_first None).one; stays = λ so. so }) (λ so. absurd (false≢true so))
  named_after (Crashed during n) nobody =
      with_agent first second _ w _ s (now_same (reply_in w during))
      (crash_given (now_with (reply_in w during)) n (seen_of w during) (seen_keeps during nobody) (at_first (reply_in w during)))
      (crash_asks w.sent w.agent n (seen_of w during))

run_named : (first : List ℕ) (events : List Event) (second : List ℕ) (w : World) → NameNobody events → IsNamed first second w → (last : List ℕ) × IsNamed first last (run events w)
run_named first [] second w nobody s = (second, s)
run_named first (e ∷ es) second w nobody s =
    run_named first es (pick w.agent.saved.uid_given (reply_in w e) second) (after w e) nobody.1 (named_after first second w s e nobody.0)

pub opening_named : (start : Start) → IsNamed start.uid start.uid (opening start)
opening_named start = record {
  saved = inl (refl, refl);
  entries = λ place e at. absurd (none≢some at);
  early = λ isnt place e at. absurd (none≢some at);
  asked = λ so. absurd (false≢true so);
  replies = λ k r is. absurd (none≢some is);
}

-- the identifiers sent are among the two
pub two_sent : (server_of : List ℕ → List ℕ) (first second server : List ℕ) (sent : List Entry) → ((place : ℕ) (e : Entry) → slice_get sent place ≡ Some e → (e.uid ≡ first) ⊎ (e.uid ≡ second))
    → (u : List ℕ) → is_among (uids_of server_of server sent) u ≡ true → is_among (first ∷ second ∷ []) u ≡ true
two_sent server_of first second server [] two u among = absurd (false≢true among)
two_sent server_of first second server (x ∷ sent) two u among =
    by_server (λ h. two_sent server_of first second server sent (λ place e at. two (suc place) e at) u h) (bytes_eq (server_of x.server) server) among
  where
    or_left : (a b : Bool) → a ≡ true → (a || b) ≡ true
    or_left true b h = refl
    or_left false b h = absurd (false≢true h)

    or_right : (a b : Bool) → b ≡ true → (a || b) ≡ true
    or_right true b h = refl
    or_right false b h = h

    own : bytes_eq x.uid u ≡ true → is_among (first ∷ second ∷ []) u ≡ true
    own is = elim (two zero x refl) [
      | inl it ↦ or_left (bytes_eq first u) (bytes_eq second u || false) (ap (λ v. bytes_eq v u) (sym it) ∙ is)
      | inr it ↦ or_right (bytes_eq first u) (bytes_eq second u || false) (or_left (bytes_eq second u) false (ap (λ v. bytes_eq v u) (sym it) ∙ is))
    ]

    by_uid : (is_among (uids_of server_of server sent) u ≡ true → is_among (first ∷ second ∷ []) u ≡ true) → (t : Bool) → bytes_eq x.uid u ≡ t
        → (t || is_among (uids_of server_of server sent) u) ≡ true → is_among (first ∷ second ∷ []) u ≡ true
    by_uid rest true is h = own is
    by_uid rest false is h = rest h

    by_server : (is_among (uids_of server_of server sent) u ≡ true → is_among (first ∷ second ∷ []) u ≡ true) → (t : Bool)
        → is_among (map (λ (e : Entry). e.uid) (cond t (x ∷ filter (λ (e : Entry). bytes_eq (server_of e.server) server) sent) (filter (λ (e : Entry). bytes_eq (server_of e.server) server) sent))) u ≡ true
        → is_among (first ∷ second ∷ []) u ≡ true
    by_server rest true h = by_uid rest (bytes_eq x.uid u) refl h
    by_server rest false h = rest h

-- so one agent fills no server
pub one_has_room : KeepsOrder → (start : Start) (events : List Event) (server : List ℕ) → NameNobody events → IsNeverFull start events server
one_has_room order start events server nobody =
    let named = run_named start.uid events start.uid (opening start) nobody (opening_named start) in
    omega (arith, few_among order (uids_sent server (world start events)) (start.uid ∷ named.0 ∷ []) (two_sent (world start events).server_of start.uid named.0 server (world start events).sent named.1.entries))
