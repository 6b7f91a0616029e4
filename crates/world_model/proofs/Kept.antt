-- What every step of a world keeps.
use Rattle.std.proofs.Common.{◌≡◌, ℕ, ◌+◌, ◌-◌, ◌<◌, ◌≤◌, List, [], ◌∷◌, ◌++◌, length, Bool, true, false, cond, not, ◌&&◌, ◌||◌, eqb, Option, None, Some, slice_get, refl, sym, ◌∙◌, ap, subst, inl, inr, arith, codes}
use Rattle.std.specs.Prelude.{is_some, is_none, unwrap_or}
use Rattle.std.specs.Option.{option_map, option_map_or, option_and_then, option_to_list}
use Rattle.std.specs.Str.{bytes_eq}
use Rattle.std.proofs.lemmas.Bool.{false≢true, eqb-false, eqb-true, and_parts, not-true}
use Rattle.std.proofs.lemmas.Option.{slice_get_within}
use Rattle.message_values.specs.declared.config.AgentRemoteConfig.{AgentRemoteConfig}
use Rattle.message_values.specs.declared.components.AvailableComponents.{AvailableComponents}
use Rattle.message_values.specs.declared.custom.CustomMessage.{CustomMessage}
use Rattle.message_values.specs.declared.packages.PackagesAvailable.{PackagesAvailable}
use Rattle.message_values.specs.declared.reply.ServerToAgent.{ServerToAgent}
use Rattle.message_values.specs.declared.state.Settings.{Settings}
use Rattle.message_values.specs.declared.state.State.{State}
use Rattle.agent_rules.specs.declared.saved.Saved.{Saved}
use Rattle.message_deltas.specs.Obligations.{obliged, IsValidState}
use Rattle.message_deltas.specs.Deltas.{must_be_whole, differs_in_all}
use Rattle.edge_devices.specs.Names.{are_good_names}
use Rattle.agent_rules.specs.declared.rules.parts.TheConstants.{RESERVED_BLOCK}
use Rattle.agent_rules.specs.declared.rules.parts.LocalState.{LocalState}
use Rattle.agent_rules.specs.declared.rules.parts.Next.{Next}
use Rattle.agent_rules.specs.declared.rules.replies.Heard.{Heard}
use Rattle.agent_rules.specs.declared.rules.replies.Heard.TheVariants.{Commanded, Failed, Asked, Plain}
use Rattle.agent_rules.specs.Reports.{Entry, message_of, fits_bytes, where_true, state_of_agent, basis_for}
use Rattle.agent_rules.specs.Half.{AgentHalf, target, state_now, due_details, entry_with, entry_of, started}
use Rattle.agent_rules.specs.Keeping.{Call, Change, Report, TakeReply, GiveUp, CommitTry, AbandonTry, ConfigDone, PackagesDone, Say, BeginTry, heard_in, new_uid, taught, kept_of_reply, keeping, fits}
use Rattle.agent_rules.specs.Calls.{may_report, reported, told_by, told, given_up, call_after, calls_after, saves_of}
use Rattle.agent_rules.specs.Offers.{Reactions, next_of, trial_calls, without_trial, config_call, offered_files, failed_call, applied_call}
use Rattle.agent_rules.specs.Events.{AgentEvent, Hears, GivesUp, Crashes, following, reply_calls, leaving_calls, calls_in, keeping_first, agent_after}
use Rattle.agent_rules.specs.Half.{is_empty}
use Rattle.agent_rules.specs.Calls.{trial_kept, trial_left, changed}
use Rattle.server_core.specs.Offers.{fits_offer}
use Rattle.server_core.specs.Replies.{error_alone}
use Rattle.world_model.specs.World.{World, Holding, Event, Changed, Sent, Delivered, Answered, Took, Erred, GaveUp, Offered, Ordered, Withdrawn, Forgotten, ServerRestarted, Restarted, Crashed, Given, last_sent, stands, told_at, holding_with, put_at, delivers, with_offer, with_restart, with_nothing, changes_held, server_to, reply_due, no_reactions, crash_of, seen_of, agent_follows, sends, after, run, Start, opening}
use Rattle.world_model.proofs.Places.{none≢some, some_same, slice_get-push_old, slice_get-push_cases, last_push, bytes_same}
use Rattle.world_model.proofs.Calls.{ForKept, of_reply, uid_named, IsReserved, reserved_keeps, first_have, saves_have, all_keep}

-- the last entry is what the agent would go on from
pub record IsOwnLast (sent : List Entry) (a : AgentHalf) : Type 0 where
  pub entry : Entry
  pub is_last : last_sent sent ≡ Some entry
  pub state : a.last ≡ Some entry.state
  pub server : entry.server ≡ (target a).endpoint
  pub uid : entry.uid ≡ a.saved.uid
  pub number : a.next ≡ entry.number + 1

-- a trial is never linked
abbrev pub IsUnlinkedTrial : AgentHalf → Type 0
IsUnlinkedTrial a = (tried : Settings) → a.trial ≡ Some tried → a.linked ≡ false

-- the agent fits what was sent
pub record IsFit (sent : List Entry) (a : AgentHalf) : Type 0 where
  pub named : length a.saved.uid ≡ 16
  pub below : (place : ℕ) (e : Entry) → slice_get sent place ≡ Some e → e.number < a.next
  pub limit : a.next ≤ a.saved.limit
  pub awaited : a.awaits ≡ true → IsOwnLast sent a
  pub linked : a.linked ≡ true → IsOwnLast sent a
  pub waiting : a.awaits ≡ true → a.linked ≡ false
  pub tried : IsUnlinkedTrial a
  -- what is sent in a trial is alone
  pub alone : a.awaits ≡ true → (tried : Settings) → a.trial ≡ Some tried → (e : Entry) → last_sent sent ≡ Some e → e.basis ≡ None

-- the agent between two calls of an event that awaits nothing any longer
pub record IsOpen (sent : List Entry) (a : AgentHalf) : Type 0 where
  pub named : length a.saved.uid ≡ 16
  pub below : (place : ℕ) (e : Entry) → slice_get sent place ≡ Some e → e.number < a.next
  pub limit : a.next ≤ a.saved.limit
  pub quiet : a.awaits ≡ false
  pub linked : a.linked ≡ true → IsOwnLast sent a

open_fit : (sent : List Entry) (a : AgentHalf) → IsOpen sent a → IsUnlinkedTrial a → IsFit sent a
open_fit sent a o tried = record {
  named = o.named;
  below = o.below;
  limit = o.limit;
  awaited = λ e. absurd (false≢true (sym o.quiet ∙ e));
  linked = o.linked;
  waiting = λ e. absurd (false≢true (sym o.quiet ∙ e));
  tried = tried;
  alone = λ e. absurd (false≢true (sym o.quiet ∙ e));
}

moved : (sent : List Entry) (a b : AgentHalf) → IsOwnLast sent a → b.last ≡ a.last → (target b).endpoint ≡ (target a).endpoint → b.saved.uid ≡ a.saved.uid → b.next ≡ a.next
    → IsOwnLast sent b
moved sent a b p last server uid next = record {
  entry = p.entry;
  is_last = p.is_last;
  state = last ∙ p.state;
  server = p.server ∙ sym server;
  uid = p.uid ∙ sym uid;
  number = next ∙ p.number;
}

-- the calls by which an answer is dealt with, once it was taken
abbrev pub Settles : Call → Type 0
Settles Report = ⊥
Settles (TakeReply reply) = ⊥
Settles _ = Unit {0}

abbrev pub AllSettle : List Call → Type 0
AllSettle [] = Unit {0}
AllSettle (c ∷ cs) = Settles c × AllSettle cs

pub settle-append : (cs ds : List Call) → AllSettle cs → AllSettle ds → AllSettle (cs ++ ds)
settle-append [] ds p q = q
settle-append (c ∷ cs) ds p q = (p.0, settle-append cs ds p.1 q)

-- over calls that settle
pub over_settling : (P : AgentHalf → Type 0) → ((a : AgentHalf) (c : Call) → Settles c → P a → P (call_after a c))
    → (cs : List Call) (a : AgentHalf) → AllSettle cs → P a → P (calls_after a cs)
over_settling P each [] a s p = p
over_settling P each (c ∷ cs) a s p = by_test (over_settling P each cs (call_after a c) s.1 (each a c s.0 p)) (fits a c)
  where
    by_test : P (calls_after (call_after a c) cs) → (t : Bool) → P (cond t (calls_after (call_after a c) cs) a)
    by_test rest true = rest
    by_test rest false = p

open_again : (sent : List Entry) (a b : AgentHalf) → IsOpen sent a → length b.saved.uid ≡ 16 → b.saved.limit ≡ a.saved.limit → b.awaits ≡ a.awaits → b.next ≡ a.next
    → (b.linked ≡ true → IsOwnLast sent b) → IsOpen sent b
open_again sent a b o named limit awaits next linked = record {
  named = named;
  below = λ place e at. omega (arith, o.below place e at, next);
  limit = omega (arith, o.limit, next, limit);
  quiet = awaits ∙ o.quiet;
  linked = linked;
}

-- a call that settles leaves the agent open
pub settle_open : (sent : List Entry) (a : AgentHalf) (c : Call) → Settles c → IsOpen sent a → IsOpen sent (call_after a c)
settle_open sent a (Change now) s o = open_again sent a _ o o.named refl refl refl (λ l. moved sent a _ (o.linked l) refl refl refl refl)
settle_open sent a GiveUp s o = open_again sent a _ o o.named refl (sym o.quiet) refl (λ l. moved sent a _ (o.linked l) refl refl refl refl)
settle_open sent a CommitTry s o = open_again sent a _ o o.named refl refl refl (λ l. moved sent a _ (o.linked l) refl refl refl refl)
settle_open sent a AbandonTry s o = open_again sent a _ o o.named refl refl refl (λ l. absurd (false≢true l))
settle_open sent a (ConfigDone None status) s o = open_again sent a _ o o.named refl refl refl (λ l. moved sent a _ (o.linked l) refl refl refl refl)
settle_open sent a (ConfigDone (Some applied) status) s o = open_again sent a _ o o.named refl refl refl (λ l. moved sent a _ (o.linked l) refl refl refl refl)
settle_open sent a (PackagesDone statuses) s o = open_again sent a _ o o.named refl refl refl (λ l. moved sent a _ (o.linked l) refl refl refl refl)
settle_open sent a (Say message) s o = open_again sent a _ o o.named refl refl refl (λ l. moved sent a _ (o.linked l) refl refl refl refl)
settle_open sent a (BeginTry next) s o = open_again sent a _ o o.named refl refl refl (λ l. absurd (false≢true l))
settle_open sent a Report s o = absurd s
settle_open sent a (TakeReply reply) s o = absurd s

pub settle_tried : (a : AgentHalf) (c : Call) → Settles c → IsUnlinkedTrial a → IsUnlinkedTrial (call_after a c)
settle_tried a (Change now) s t = t
settle_tried a GiveUp s t = t
settle_tried a CommitTry s t = λ tried is. absurd (none≢some is)
settle_tried a AbandonTry s t = λ tried is. refl
settle_tried a (ConfigDone None status) s t = t
settle_tried a (ConfigDone (Some applied) status) s t = t
settle_tried a (PackagesDone statuses) s t = t
settle_tried a (Say message) s t = t
settle_tried a (BeginTry next) s t = λ tried is. refl
settle_tried a Report s t = absurd s
settle_tried a (TakeReply reply) s t = absurd s

pub settle_unlinked : (a : AgentHalf) (c : Call) → Settles c → a.linked ≡ false → (call_after a c).linked ≡ false
settle_unlinked a (Change now) s t = t
settle_unlinked a GiveUp s t = t
settle_unlinked a CommitTry s t = t
settle_unlinked a AbandonTry s t = refl
settle_unlinked a (ConfigDone None status) s t = t
settle_unlinked a (ConfigDone (Some applied) status) s t = t
settle_unlinked a (PackagesDone statuses) s t = t
settle_unlinked a (Say message) s t = t
settle_unlinked a (BeginTry next) s t = refl
settle_unlinked a Report s t = absurd s
settle_unlinked a (TakeReply reply) s t = absurd s

-- what follows an answer settles
config_settles : (a : AgentHalf) (failure : Option (List ℕ)) (o : Option AgentRemoteConfig) → AllSettle (option_to_list (option_map (config_call a failure) o))
config_settles a failure None = tt
config_settles a failure (Some offer) = by_names (not (are_good_names (offered_files offer).config_map))
  where
    by_room : (t : Bool) → AllSettle (cond t (applied_call offer) (failed_call offer (codes "too large")) ∷ [])
    by_room true = (tt, tt)
    by_room false = (tt, tt)

    by_failure : (t : Option (List ℕ)) → AllSettle (option_map_or (failed_call offer) t (cond (fits a (applied_call offer)) (applied_call offer) (failed_call offer (codes "too large"))) ∷ [])
    by_failure (Some text) = (tt, tt)
    by_failure None = by_room (fits a (applied_call offer))

    by_names : (t : Bool) → AllSettle (cond t (failed_call offer (codes "bad name"))
        (option_map_or (failed_call offer) failure (cond (fits a (applied_call offer)) (applied_call offer) (failed_call offer (codes "too large")))) ∷ [])
    by_names true = (tt, tt)
    by_names false = by_failure failure

packages_settle : (r : Reactions) (o : Option PackagesAvailable) → AllSettle (option_to_list (option_map (λ offer. PackagesDone r.statuses) o))
packages_settle r None = tt
packages_settle r (Some offer) = (tt, tt)

message_settles : (answer o : Option CustomMessage) → AllSettle (option_to_list (option_and_then (λ message. option_map (λ said. Say said) answer) o))
message_settles answer None = tt
message_settles None (Some message) = tt
message_settles (Some said) (Some message) = (tt, tt)

begin_settles : (o : Option Settings) → AllSettle (option_to_list (option_map (λ settings. BeginTry settings) o))
begin_settles None = tt
begin_settles (Some settings) = (tt, tt)

pub following_settles : (a : AgentHalf) (next : Next) (r : Reactions) → AllSettle (following a next r)
following_settles a next r =
    settle-append _ _
    (settle-append _ _ (settle-append _ _ (config_settles a r.failure next.config) (packages_settle r next.packages)) (message_settles r.answer next.message))
    (begin_settles next.connection)

-- what a reply makes kept
record IsTaught (a : AgentHalf) (reply : ServerToAgent) (s : Saved) : Type 0 where
  named : length s.uid ≡ 16
  limit : s.limit ≡ a.saved.limit
  settings : s.settings ≡ a.saved.settings
  uid : s.uid ≡ unwrap_or (new_uid reply) a.saved.uid

-- the agent that took a reply awaits nothing
told_open : (sent : List Entry) (a : AgentHalf) (reply : ServerToAgent) → IsFit sent a → a.awaits ≡ true → IsOpen sent (told reply a)
told_open sent a reply f so = by_heard (heard_in reply)
  where
    own : IsOwnLast sent a
    own = f.awaited so

    taught_so : (answered : Bool) → IsTaught a reply (taught a reply answered)
    taught_so answered = record { named = uid_named a reply f.named; limit = refl; settings = refl; uid = refl }

    asked : (o : Option Saved) → ForKept (IsTaught a reply) o → IsOpen sent (record (keeping o a) { awaits = false; proved = false })
    asked None k = record { named = f.named; below = f.below; limit = f.limit; quiet = refl; linked = λ l. absurd (false≢true (sym (f.waiting so) ∙ l)) }
    asked (Some s) k = record {
      named = k.named;
      below = f.below;
      limit = omega (arith, f.limit, k.limit);
      quiet = refl;
      linked = λ l. absurd (false≢true (sym (f.waiting so) ∙ l));
    }

    plain : (wants proved : Bool) (o : Option Saved) → ForKept (IsTaught a reply) o
        → IsOpen sent (record (keeping o a) { awaits = false; linked = bytes_eq a.saved.uid (taught a reply true).uid; wants_details = wants; proved = proved })
    plain wants proved None k = record { named = f.named; below = f.below; limit = f.limit; quiet = refl; linked = λ l. moved sent a _ own refl refl refl refl }
    plain wants proved (Some s) k = record {
      named = k.named;
      below = f.below;
      limit = omega (arith, f.limit, k.limit);
      quiet = refl;
      linked = λ l. moved sent a _ own refl (ap (λ (x : Settings). (unwrap_or a.trial x).endpoint) k.settings) (k.uid ∙ sym (bytes_same a.saved.uid _ l)) refl;
    }

    by_heard : (h : Heard) → IsOpen sent (told_by h reply a)
    by_heard Commanded = record { named = f.named; below = f.below; limit = f.limit; quiet = refl; linked = λ l. moved sent a _ own refl refl refl refl }
    by_heard Failed = record { named = f.named; below = f.below; limit = f.limit; quiet = refl; linked = λ l. absurd (false≢true (sym (f.waiting so) ∙ l)) }
    by_heard Asked = asked (kept_of_reply a (heard_in reply) reply) (of_reply (IsTaught a reply) a reply taught_so (heard_in reply))
    by_heard Plain = plain _ _ (kept_of_reply a (heard_in reply) reply) (of_reply (IsTaught a reply) a reply taught_so (heard_in reply))

none_of : {T : Type 0} (o : Option T) (x : T) → is_none o ≡ true → o ≡ Some x → ⊥
none_of o x is at = false≢true (sym (ap is_none at) ∙ is)

settled_fit : (sent : List Entry) (cs : List Call) (a : AgentHalf) → AllSettle cs → IsOpen sent a → IsUnlinkedTrial a → IsFit sent (calls_after a cs)
settled_fit sent cs a all o t =
    let both = over_settling (λ x. IsOpen sent x × IsUnlinkedTrial x) (λ x c s p. (settle_open sent x c s p.0, settle_tried x c s p.1)) cs a all (o, t) in
    open_fit sent (calls_after a cs) both.0 both.1

-- a trial ends, and the rest is dealt with
trials_fit : (sent : List Entry) (b : AgentHalf) (rest : List Call) → AllSettle rest → IsOpen sent b → IsFit sent (calls_after b (trial_calls b ++ rest))
trials_fit sent b rest all o = by_trial (is_none b.trial) refl
  where
    by_proof : (u : Bool) → (b.proved && fits b CommitTry) ≡ u → IsFit sent (calls_after b (cond u (CommitTry ∷ []) (AbandonTry ∷ []) ++ rest))
    by_proof true is =
        subst (λ x. IsFit sent (cond x (calls_after (trial_kept b) rest) b)) (sym (and_parts b.proved _ is).1)
        (settled_fit sent rest (trial_kept b) all (settle_open sent b CommitTry tt o) (λ t at. absurd (none≢some at)))
    by_proof false is = settled_fit sent rest (trial_left b) all (settle_open sent b AbandonTry tt o) (λ t at. refl)

    by_trial : (t : Bool) → is_none b.trial ≡ t → IsFit sent (calls_after b (cond t [] (cond (b.proved && fits b CommitTry) (CommitTry ∷ []) (AbandonTry ∷ [])) ++ rest))
    by_trial true is = settled_fit sent rest b all o (λ t at. absurd (none_of b.trial t is at))
    by_trial false is = by_proof (b.proved && fits b CommitTry) refl

hears_fit : (sent : List Entry) (a : AgentHalf) (reply : ServerToAgent) (r : Reactions) → IsFit sent a → IsFit sent (agent_after a (Hears reply r))
hears_fit sent a reply r f = by_awaits a.awaits refl
  where
    rest : List Call
    rest = following (without_trial (told reply a)) (next_of reply a) r

    by_room : (t : Bool) → a.awaits ≡ true → IsFit sent (cond t (calls_after (told reply a) (trial_calls (told reply a) ++ rest)) a)
    by_room true so = trials_fit sent (told reply a) rest (following_settles (without_trial (told reply a)) (next_of reply a) r) (told_open sent a reply f so)
    by_room false so = f

    by_awaits : (t : Bool) → a.awaits ≡ t → IsFit sent (calls_after a (cond t (reply_calls a reply r) []))
    by_awaits true so = by_room (fits a (TakeReply reply)) so
    by_awaits false so = f

gives_up_fit : (sent : List Entry) (a : AgentHalf) → IsFit sent a → IsFit sent (agent_after a GivesUp)
gives_up_fit sent a f = by_awaits a.awaits refl
  where
    given_up_open : a.awaits ≡ true → IsOpen sent (given_up a)
    given_up_open so = record { named = f.named; below = f.below; limit = f.limit; quiet = refl; linked = λ l. absurd (false≢true (sym (f.waiting so) ∙ l)) }

    by_trial : (t : Bool) → a.awaits ≡ true → IsFit sent (calls_after (given_up a) (cond t [] (AbandonTry ∷ [])))
    by_trial true so = open_fit sent (given_up a) (given_up_open so) f.tried
    by_trial false so = open_fit sent (trial_left (given_up a)) (settle_open sent (given_up a) AbandonTry tt (given_up_open so)) (λ t at. refl)

    by_awaits : (t : Bool) → a.awaits ≡ t → IsFit sent (calls_after a (cond t (GiveUp ∷ leaving_calls a) []))
    by_awaits true so = by_trial (is_none a.trial) so
    by_awaits false so = f

changes_fit : (sent : List Entry) (a : AgentHalf) (now : LocalState) → IsFit sent a → IsFit sent (changed now a)
changes_fit sent a now f = record {
  named = f.named;
  below = f.below;
  limit = f.limit;
  awaited = λ e. moved sent a _ (f.awaited e) refl refl refl refl;
  linked = λ e. moved sent a _ (f.linked e) refl refl refl refl;
  waiting = f.waiting;
  tried = f.tried;
  alone = f.alone;
}

-- an agent that starts again with what is reserved, whatever it knows at the start and whether it is to ask for an identifier
started_fit : (sent : List Entry) (a b : AgentHalf) (local : LocalState) (asks_uid : Bool) → IsFit sent a → IsReserved a.next b.saved → IsFit sent (started local b.saved b.is_kept b.room asks_uid)
started_fit sent a b local asks_uid f q = record {
  named = q.named;
  below = λ place e at. omega (arith, f.below place e at, q.limit);
  limit = omega arith;
  awaited = λ e. absurd (false≢true e);
  linked = λ e. absurd (false≢true e);
  waiting = λ e. refl;
  tried = λ t at. refl;
  alone = λ e. absurd (false≢true e);
}

reserved_now : (sent : List Entry) (a : AgentHalf) → IsFit sent a → IsReserved a.next a.saved
reserved_now sent a f = record { named = f.named; limit = f.limit }

crashes_fit : (sent : List Entry) (a : AgentHalf) (during : AgentEvent) (n : ℕ) → IsFit sent a → IsFit sent (agent_after a (Crashes during n))
crashes_fit sent a during n f =
    started_fit sent a (keeping_first n (saves_of a (calls_in a during)) a) (keeping_first n (saves_of a (calls_in a during)) a).local (keeping_first n (saves_of a (calls_in a during)) a).asks_uid f
    (first_have (IsReserved a.next) n (saves_of a (calls_in a during)) a
    (saves_have (IsReserved a.next) (calls_in a during) a (all_keep (IsReserved a.next) (reserved_keeps a.next) (calls_in a during) a) (reserved_now sent a f))
    (reserved_now sent a f))

-- an entry may stand on this one
pub record Bears (e b : Entry) (before : State) : Type 0 where
  pub state : b.state ≡ before
  pub server : b.server ≡ e.server
  pub uid : b.uid ≡ e.uid
  pub number : e.number ≡ b.number + 1
  -- a report of the changes says the new state
  pub told : must_be_whole before e.state (is_some e.details) ≡ false

-- the details are of the components whose hash the state has, and there is at least one
pub record HasTold (e : Entry) (told : AvailableComponents) : Type 0 where
  pub hash : e.state.components ≡ Some told.hash
  pub any : is_empty told.components ≡ false

-- what an entry at a place keeps
pub record IsGood (sent : List Entry) (place : ℕ) (e : Entry) : Type 0 where
  pub valid : IsValidState e.state
  pub named : length e.uid ≡ 16
  pub details : (told : AvailableComponents) → e.details ≡ Some told → HasTold e told
  -- an entry on another stands on the one sent just before it
  pub based : (before : State) → e.basis ≡ Some before → (j : ℕ) × (b : Entry) × (j + 1 ≡ place) × (slice_get sent j ≡ Some b) × Bears e b before

-- the entry at the place was sent to this server under this identifier
abbrev pub IsHeldThere : (List ℕ → List ℕ) → List Entry → List ℕ → List ℕ → ℕ → Type 0
IsHeldThere server_of sent server uid place = (e : Entry) × (slice_get sent place ≡ Some e) × (server_of e.server ≡ server) × (e.uid ≡ uid)

-- and so were the entry held and the one that told the details
pub record IsHolding (server_of : List ℕ → List ℕ) (sent : List Entry) (server uid : List ℕ) (h : Holding) : Type 0 where
  pub held : IsHeldThere server_of sent server uid h.place
  pub told : (k : ℕ) → h.told ≡ Some k → IsHeldThere server_of sent server uid k

pub record IsSound (w : World) : Type 0 where
  pub good : (place : ℕ) (e : Entry) → slice_get w.sent place ≡ Some e → IsGood w.sent place e
  -- numbers rise over all that is sent, whatever the server
  pub rising : (j k : ℕ) (a b : Entry) → slice_get w.sent j ≡ Some a → slice_get w.sent k ≡ Some b → j < k → a.number < b.number
  pub held : (server uid : List ℕ) (h : Holding) → w.held server uid ≡ Some h → IsHolding w.server_of w.sent server uid h
  pub fit : IsFit w.sent w.agent

pub opening_sound : (start : Start) → IsSound (opening start)
opening_sound start = record {
  good = λ place e at. absurd (none≢some at);
  rising = λ j k a b at. absurd (none≢some at);
  held = λ s u h at. absurd (none≢some at);
  fit = record {
    named = start.named;
    below = λ place e at. absurd (none≢some at);
    limit = omega arith;
    awaited = λ e. absurd (false≢true e);
    linked = λ e. absurd (false≢true e);
    waiting = λ e. refl;
    tried = λ t at. refl;
    alone = λ e. absurd (false≢true e);
  };
}

-- the state of an agent is valid
agent_valid : (l : LocalState) (s : Saved) → IsValidState (state_of_agent l s)
agent_valid l s = record {
  health = by_test (obliged l.capabilities).health l.health;
  effective = by_test (obliged l.capabilities).effective l.effective;
  remote = by_test (obliged l.capabilities).remote s.remote;
  packages = by_test (obliged l.capabilities).packages s.packages;
  components = by_test (obliged l.capabilities).components l.components.hash;
}
  where
    by_test : {T : Type 0} (b : Bool) (value : T) → is_some (where_true b value) ≡ b
    by_test true value = refl
    by_test false value = refl

-- a report's entry but for its message
pub entry_is : (a : AgentHalf) → (m : Option CustomMessage) × (entry_of a ≡ entry_with a m)
entry_is a = by_test (fits_bytes (message_of (entry_with a a.message)))
  where
    by_test : (t : Bool) → (m : Option CustomMessage) × (cond t (entry_with a a.message) (entry_with a None) ≡ entry_with a m)
    by_test true = (a.message, refl)
    by_test false = (None, refl)

-- where a new entry has a basis, these tests passed
basis_tests : (linked : Bool) (last : Option State) (now : State) (detailed : Bool) (before : State) → basis_for linked last now detailed ≡ Some before
    → (linked ≡ true) × (last ≡ Some before) × (must_be_whole before now detailed ≡ false)
basis_tests linked None now detailed before is = absurd (none≢some is)
basis_tests linked (Some l) now detailed before is = by_test (linked && not (must_be_whole l now detailed)) refl is
  where
    by_test : (t : Bool) → (linked && not (must_be_whole l now detailed)) ≡ t → cond t (Some l) None ≡ Some before
        → (linked ≡ true) × (Some l ≡ Some before) × (must_be_whole before now detailed ≡ false)
    by_test true so it =
        let tests = and_parts linked _ so in
        (tests.0, it, ap (λ x. must_be_whole x now detailed) (sym (some_same it)) ∙ not-true _ tests.1)
    by_test false so it = absurd (none≢some it)

pub basis_none : (linked : Bool) (last : Option State) (now : State) (detailed : Bool) → linked ≡ false → basis_for linked last now detailed ≡ None
basis_none linked None now detailed so = refl
basis_none linked (Some l) now detailed so = λ i. cond (so i && not (must_be_whole l now detailed)) (Some l) None

detailed_is : (b : Bool) (c : AvailableComponents) → is_some (where_true b c) ≡ b
detailed_is true c = refl
detailed_is false c = refl

with_bears : (sent : List Entry) (a : AgentHalf) (m : Option CustomMessage) (before : State) (p : IsOwnLast sent a) → (entry_with a m).basis ≡ Some before
    → Bears (entry_with a m) p.entry before
with_bears sent a m before p is =
    let tests = basis_tests a.linked a.last (state_now a) (due_details a) before is in
    record {
      state = some_same (sym p.state ∙ tests.1);
      server = p.server;
      uid = p.uid;
      number = p.number;
      told = ap (λ d. must_be_whole before (state_now a) d) (detailed_is (due_details a) a.local.components) ∙ tests.2;
    }

with_told : (a : AgentHalf) (m : Option CustomMessage) (told : AvailableComponents) → (entry_with a m).details ≡ Some told → HasTold (entry_with a m) told
with_told a m told is = by_test (due_details a) refl is
  where
    by_test : (t : Bool) → due_details a ≡ t → where_true t a.local.components ≡ Some told → HasTold (entry_with a m) told
    by_test true so it =
        let tests = and_parts _ _ so in
        let more = and_parts (not (is_empty a.local.components.components)) _ tests.1 in
        record {
          hash = ap (λ b. where_true b a.local.components.hash) tests.0 ∙ ap (λ (c : AvailableComponents). Some c.hash) (some_same it);
          any = ap (λ (c : AvailableComponents). is_empty c.components) (sym (some_same it)) ∙ not-true _ more.0;
        }
    by_test false so it = absurd (none≢some it)

-- the agent that reported fits
reported_fit : (sent : List Entry) (a : AgentHalf) → IsFit sent a → IsFit (sent ++ entry_of a ∷ []) (reported a)
reported_fit sent a f = by_test (eqb a.next a.saved.limit) refl
  where
    new : Entry
    new = entry_of a

    it : (m : Option CustomMessage) × (entry_of a ≡ entry_with a m)
    it = entry_is a

    after_with : Option Saved → AgentHalf
    after_with o = record (keeping o a) {
      next = a.next + 1;
      awaits = true;
      last = Some (state_now a);
      detailed = due_details a;
      linked = false;
      wants_details = false;
      message = None;
    }

    below : (place : ℕ) (e : Entry) → slice_get (sent ++ new ∷ []) place ≡ Some e → e.number < a.next + 1
    below place e at = elim (slice_get-push_cases sent new place e at) [
      | inl old ↦ omega (arith, f.below place e old)
      | inr now ↦ subst (λ (x : Entry). x.number < a.next + 1) now.1 (subst (λ (x : Entry). x.number < a.next + 1) (sym it.1) (omega arith))
    ]

    alone : (t : Settings) → a.trial ≡ Some t → (e : Entry) → last_sent (sent ++ new ∷ []) ≡ Some e → e.basis ≡ None
    alone t is e at =
        ap (λ (x : Entry). x.basis) (some_same (sym at ∙ last_push sent new) ∙ it.1) ∙ basis_none a.linked a.last (state_now a) (due_details a) (f.tried t is)

    same : Option Saved
    same = None

    more : Option Saved
    more = Some (record (a.saved) { limit = a.saved.limit + RESERVED_BLOCK })

    by_test : (t : Bool) → eqb a.next a.saved.limit ≡ t → IsFit (sent ++ new ∷ []) (after_with (cond t more None))
    by_test true e = record {
      named = f.named;
      below = below;
      limit = omega (arith, f.limit);
      awaited = λ _. record {
        entry = new;
        is_last = last_push sent new;
        state = ap (λ (x : Entry). Some x.state) (sym it.1);
        server = ap (λ (x : Entry). x.server) it.1;
        uid = ap (λ (x : Entry). x.uid) it.1;
        number = ap (λ (x : Entry). x.number + 1) (sym it.1);
      };
      linked = λ l. absurd (false≢true l);
      waiting = λ _. refl;
      tried = λ t at. refl;
      alone = λ _. alone;
    }
    by_test false e = record {
      named = f.named;
      below = below;
      limit = omega (arith, f.limit, eqb-false a.next a.saved.limit e);
      awaited = λ _. record {
        entry = new;
        is_last = last_push sent new;
        state = ap (λ (x : Entry). Some x.state) (sym it.1);
        server = ap (λ (x : Entry). x.server) it.1;
        uid = ap (λ (x : Entry). x.uid) it.1;
        number = ap (λ (x : Entry). x.number + 1) (sym it.1);
      };
      linked = λ l. absurd (false≢true l);
      waiting = λ _. refl;
      tried = λ t at. refl;
      alone = λ _. alone;
    }

good_on : (sent : List Entry) (place : ℕ) (e new : Entry) → IsGood sent place e → IsGood (sent ++ new ∷ []) place e
good_on sent place e new g = record {
  valid = g.valid;
  named = g.named;
  details = g.details;
  based = λ before is. let b = g.based before is in (b.0, b.1, b.2, slice_get-push_old sent new b.0 b.1 b.3, b.4);
}

held_on : (server_of : List ℕ → List ℕ) (sent : List Entry) (new : Entry) (server uid : List ℕ) (place : ℕ) → IsHeldThere server_of sent server uid place
    → IsHeldThere server_of (sent ++ new ∷ []) server uid place
held_on server_of sent new server uid place h = (h.0, slice_get-push_old sent new place h.0 h.1, h.2, h.3)

sends_sound : (w : World) → IsSound w → IsSound (sends w)
sends_sound w s = record {
  good = good;
  rising = rising;
  held = λ server uid h is. let x = s.held server uid h is in record {
    held = held_on w.server_of w.sent new server uid h.place x.held;
    told = λ k at. held_on w.server_of w.sent new server uid k (x.told k at);
  };
  fit = reported_fit w.sent w.agent s.fit;
}
  where
    new : Entry
    new = entry_of w.agent

    it : (m : Option CustomMessage) × (entry_of w.agent ≡ entry_with w.agent m)
    it = entry_is w.agent

    with_good : (m : Option CustomMessage) → IsGood (w.sent ++ new ∷ []) (length w.sent) (entry_with w.agent m)
    with_good m = record {
      valid = agent_valid w.agent.local w.agent.saved;
      named = s.fit.named;
      details = with_told w.agent m;
      based = λ before is.
          let p = s.fit.linked (basis_tests w.agent.linked w.agent.last (state_now w.agent) (due_details w.agent) before is).0 in
          let within = slice_get_within w.sent (length w.sent - 1) p.entry p.is_last in
          (length w.sent - 1, p.entry, omega (arith, within), slice_get-push_old w.sent new (length w.sent - 1) p.entry p.is_last, with_bears w.sent w.agent m before p is);
    }

    new_good : IsGood (w.sent ++ new ∷ []) (length w.sent) new
    new_good = subst (IsGood (w.sent ++ new ∷ []) (length w.sent)) (sym it.1) (with_good it.0)

    new_number : new.number ≡ w.agent.next
    new_number = ap (λ (x : Entry). x.number) it.1

    good : (place : ℕ) (e : Entry) → slice_get (w.sent ++ new ∷ []) place ≡ Some e → IsGood (w.sent ++ new ∷ []) place e
    good place e at =
        elim (slice_get-push_cases w.sent new place e at) [
          | inl old ↦ good_on w.sent place e new (s.good place e old)
          | inr now ↦ subst (λ x. IsGood (w.sent ++ new ∷ []) place x) now.1 (subst (λ k. IsGood (w.sent ++ new ∷ []) k new) (sym now.0) new_good)
        ]

    rising : (j k : ℕ) (a b : Entry) → slice_get (w.sent ++ new ∷ []) j ≡ Some a → slice_get (w.sent ++ new ∷ []) k ≡ Some b → j < k → a.number < b.number
    rising j k a b at_j at_k lt =
        elim (slice_get-push_cases w.sent new j a at_j) [
          | inl old_j ↦ elim (slice_get-push_cases w.sent new k b at_k) [
            | inl old_k ↦ s.rising j k a b old_j old_k lt
            | inr new_k ↦ subst (λ (x : Entry). a.number < x.number) new_k.1 (omega (arith, s.fit.below j a old_j, new_number))
          ]
          | inr new_j ↦ elim (slice_get-push_cases w.sent new k b at_k) [
            | inl old_k ↦ absurd (omega (arith, slice_get_within w.sent k b old_k, new_j.0, lt))
            | inr new_k ↦ absurd (omega (arith, new_j.0, new_k.0, lt))
          ]
        ]

delivers_sound : (w : World) (place : ℕ) (given : Given) (o : Option Entry) → slice_get w.sent place ≡ o → IsSound w → IsSound (delivers w place given o)
delivers_sound w place given None at s = s
delivers_sound w place given (Some e) at s = record {
  good = s.good;
  rising = s.rising;
  held = λ server uid h. by_test (stands w place e) server uid h;
  fit = s.fit;
}
  where
    here : IsHeldThere w.server_of w.sent (server_to w e) e.uid place
    here = (e, at, refl, refl)

    told_before : (o : Option Holding) → w.held (server_to w e) e.uid ≡ o → (k : ℕ) → told_at o ≡ Some k → IsHeldThere w.server_of w.sent (server_to w e) e.uid k
    told_before None is k it = absurd (none≢some it)
    told_before (Some h) is k it = (s.held (server_to w e) e.uid h is).told k it

    told_now : (b : Bool) (k : ℕ) → cond b (Some place) (told_at (w.held (server_to w e) e.uid)) ≡ Some k → IsHeldThere w.server_of w.sent (server_to w e) e.uid k
    told_now true k it = subst (IsHeldThere w.server_of w.sent (server_to w e) e.uid) (some_same it) here
    told_now false k it = told_before (w.held (server_to w e) e.uid) refl k it

    now : IsHolding w.server_of w.sent (server_to w e) e.uid (holding_with (w.held (server_to w e) e.uid) place e)
    now = record { held = here; told = λ k. told_now (is_some e.details) k }

    by_place : (server uid : List ℕ) (h : Holding) (t : Bool) → (bytes_eq (server_to w e) server && bytes_eq e.uid uid) ≡ t
        → cond t (Some (holding_with (w.held (server_to w e) e.uid) place e)) (w.held server uid) ≡ Some h → IsHolding w.server_of w.sent server uid h
    by_place server uid h true so is =
        let both = and_parts (bytes_eq (server_to w e) server) _ so in
        subst (IsHolding w.server_of w.sent server uid) (some_same is)
        (subst (λ x. IsHolding w.server_of w.sent x uid (holding_with (w.held (server_to w e) e.uid) place e)) (bytes_same _ _ both.0)
        (subst (λ x. IsHolding w.server_of w.sent (server_to w e) x (holding_with (w.held (server_to w e) e.uid) place e)) (bytes_same _ _ both.1) now))
    by_place server uid h false so is = s.held server uid h is

    by_test : (t : Bool) (server uid : List ℕ) (h : Holding)
        → cond t (put_at w.held (server_to w e) e.uid (holding_with (w.held (server_to w e) e.uid) place e)) w.held server uid ≡ Some h → IsHolding w.server_of w.sent server uid h
    by_test true server uid h is = by_place server uid h (bytes_eq (server_to w e) server && bytes_eq e.uid uid) refl is
    by_test false server uid h is = s.held server uid h is

-- offers and orders leave the entries held
changes_sound : (change : Holding → Holding) → ((h : Holding) → (change h).place ≡ h.place) → ((h : Holding) → (change h).told ≡ h.told)
    → (w : World) (server uid : List ℕ) (o : Option Holding) → w.held server uid ≡ o → IsSound w → IsSound (changes_held change w server uid o)
changes_sound change place told w server uid None is s = s
changes_sound change place told w server uid (Some h) is s = record {
  good = s.good;
  rising = s.rising;
  held = λ server' uid' h'. by_place server' uid' h' (bytes_eq server server' && bytes_eq uid uid') refl;
  fit = s.fit;
}
  where
    former : IsHolding w.server_of w.sent server uid h
    former = s.held server uid h is

    now : IsHolding w.server_of w.sent server uid (change h)
    now = record { held = subst (IsHeldThere w.server_of w.sent server uid) (sym (place h)) former.held; told = λ k at. former.told k (sym (told h) ∙ at) }

    by_place : (server' uid' : List ℕ) (h' : Holding) (t : Bool) → (bytes_eq server server' && bytes_eq uid uid') ≡ t
        → cond t (Some (change h)) (w.held server' uid') ≡ Some h' → IsHolding w.server_of w.sent server' uid' h'
    by_place server' uid' h' true so it =
        let both = and_parts (bytes_eq server server') _ so in
        subst (IsHolding w.server_of w.sent server' uid') (some_same it)
        (subst (λ x. IsHolding w.server_of w.sent x uid' (change h)) (bytes_same _ _ both.0) (subst (λ x. IsHolding w.server_of w.sent server x (change h)) (bytes_same _ _ both.1) now))
    by_place server' uid' h' false so it = s.held server' uid' h' it

with_agent : (w : World) (a : AgentHalf) → IsSound w → IsFit w.sent a → IsSound (record w { agent = a })
with_agent w a s fit = record { good = s.good; rising = s.rising; held = s.held; fit = fit }

-- every step keeps it
pub after_sound : (w : World) (e : Event) → IsSound w → IsSound (after w e)
after_sound w (Changed now) s = with_agent w _ s (changes_fit w.sent w.agent now s.fit)
after_sound w Sent s = by_test (may_report w.agent)
  where
    by_test : (t : Bool) → IsSound (cond t (sends w) w)
    by_test true = sends_sound w s
    by_test false = s
after_sound w (Delivered place given) s = delivers_sound w place given (slice_get w.sent place) refl s
after_sound w (Answered r) s = by_reply (reply_due w)
  where
    by_reply : (o : Option ServerToAgent) → IsSound (record w { agent = agent_follows w.agent (option_map (λ reply. Hears reply r) o) })
    by_reply None = s
    by_reply (Some reply) = with_agent w _ s (hears_fit w.sent w.agent reply r s.fit)
after_sound w (Took message r) s = by_uid (bytes_eq message.instance_uid w.agent.saved.uid)
  where
    by_uid : (t : Bool) → IsSound (record w { agent = agent_follows w.agent (where_true t (Hears message r)) })
    by_uid true = with_agent w _ s (hears_fit w.sent w.agent message r s.fit)
    by_uid false = s
after_sound w (Erred error) s = with_agent w _ s (hears_fit w.sent w.agent (error_alone w.agent.saved.uid error) no_reactions s.fit)
after_sound w GaveUp s = with_agent w _ s (gives_up_fit w.sent w.agent s.fit)
after_sound w (Offered server uid offer) s = by_test (fits_offer offer)
  where
    by_test : (t : Bool) → IsSound (cond t (changes_held (with_offer offer) w server uid (w.held server uid)) w)
    by_test true = changes_sound (with_offer offer) (λ h. refl) (λ h. refl) w server uid (w.held server uid) refl s
    by_test false = s
after_sound w (Ordered server uid) s = changes_sound with_restart (λ h. refl) (λ h. refl) w server uid (w.held server uid) refl s
after_sound w (Withdrawn server uid) s = changes_sound with_nothing (λ h. refl) (λ h. refl) w server uid (w.held server uid) refl s
after_sound w (Forgotten server uid) s = record {
  good = s.good;
  rising = s.rising;
  held = λ server' uid' h. by_test server' uid' h (bytes_eq server server' && bytes_eq uid uid');
  fit = s.fit;
}
  where
    by_test : (server' uid' : List ℕ) (h : Holding) (t : Bool) → cond t None (w.held server' uid') ≡ Some h → IsHolding w.server_of w.sent server' uid' h
    by_test server' uid' h true is = absurd (none≢some is)
    by_test server' uid' h false is = s.held server' uid' h is
after_sound w (ServerRestarted server) s = record {
  good = s.good;
  rising = s.rising;
  held = λ server' uid h. by_test server' uid h (bytes_eq server server');
  fit = s.fit;
}
  where
    by_test : (server' uid : List ℕ) (h : Holding) (t : Bool) → cond t None (w.held server' uid) ≡ Some h → IsHolding w.server_of w.sent server' uid h
    by_test server' uid h true is = absurd (none≢some is)
    by_test server' uid h false is = s.held server' uid h is
after_sound w (Restarted local asks_uid) s = with_agent w _ s (started_fit w.sent w.agent w.agent local asks_uid s.fit (reserved_now w.sent w.agent s.fit))
after_sound w (Crashed during n) s = by_seen (seen_of w during)
  where
    by_seen : (o : Option AgentEvent) → IsSound (record w { agent = agent_after w.agent (crash_of w.agent o n) })
    by_seen None = with_agent w _ s (started_fit w.sent w.agent w.agent w.agent.local w.agent.asks_uid s.fit (reserved_now w.sent w.agent s.fit))
    by_seen (Some it) = with_agent w _ s (crashes_fit w.sent w.agent it n s.fit)

pub run_sound : (events : List Event) (w : World) → IsSound w → IsSound (run events w)
run_sound [] w s = s
run_sound (e ∷ es) w s = run_sound es (after w e) (after_sound w e s)

-- at each point of a run
pub world_sound : (start : Start) (events : List Event) → IsSound (run events (opening start))
world_sound start events = run_sound events (opening start) (opening_sound start)

-- a report of the changes is of an agent with the same capabilities
pub capabilities_same : (before now : State) (detailed : Bool) → must_be_whole before now detailed ≡ false → before.capabilities ≡ now.capabilities
capabilities_same before now detailed is = by_test (eqb before.capabilities now.capabilities) refl is
  where
    by_test : (t : Bool) → eqb before.capabilities now.capabilities ≡ t → (not t || differs_in_all before now detailed) ≡ false → before.capabilities ≡ now.capabilities
    by_test true so it = eqb-true before.capabilities now.capabilities so
    by_test false so it = absurd (false≢true (sym it))
