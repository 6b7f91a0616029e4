-- A server's part of what happens to several is a run of its own.
use Rattle.std.proofs.Common.{◌≡◌, ℕ, ◌-◌, List, [], ◌∷◌, length, Bool, true, false, cond, not, ◌&&◌, eqb, Option, None, Some, slice_get, refl, sym, ◌∙◌, ap, subst, ◌⊎◌, inl, inr}
use Rattle.std.specs.Prelude.{is_none, is_some}
use Rattle.std.specs.Option.{option_map, option_map_or, option_to_list}
use Rattle.std.specs.Str.{bytes_eq}
use Rattle.std.proofs.lemmas.Bool.{eqb-true}
use Rattle.message_values.specs.declared.custom.CustomMessage.{CustomMessage}
use Rattle.message_values.specs.declared.report.AgentToServer.{AgentToServer}
use Rattle.message_values.specs.declared.reply.ServerToAgent.{ServerToAgent}
use Rattle.message_values.specs.declared.profile.TheConstants.{REPORT_AVAILABLE_COMPONENTS, REPORT_FULL_STATE}
use Rattle.agent_rules.specs.declared.saved.Saved.{Saved}
use Rattle.message_deltas.specs.Obligations.{has_bit}
use Rattle.agent_rules.specs.Reports.{Entry, message_of, where_true}
use Rattle.agent_rules.specs.Half.{AgentHalf, entry_of, restarted}
use Rattle.agent_rules.specs.Calls.{may_report, calls_after, saves_of}
use Rattle.agent_rules.specs.Offers.{Reactions}
use Rattle.agent_rules.specs.Events.{AgentEvent, Hears, saves_in, reply_calls, keeping_first, agent_after}
use Rattle.server_core.specs.declared.replies.Profile.{Profile}
use Rattle.server_core.specs.Offers.{fits_offer}
use Rattle.server_core.specs.Replies.{Dues, Passed, Taken, reply_to, accepting_reply, restarting_reply, offering_reply, identification, custom_due, error_alone}
use Rattle.server_core.specs.History.{Event as ServerEvent}
use Rattle.world_model.specs.World.{World, Holding, Event, Changed, Sent, Delivered, Answered, Took, Erred, GaveUp, Offered, Ordered, Withdrawn, Forgotten, ServerRestarted, Restarted, Crashed, Given, server_to, stands, dues_with, verdict_in, carrying, reply_at, put_at, holding_with, delivers, with_offer, with_restart, with_nothing, changes_held, reply_due, no_reactions, crash_of, seen_of, agent_follows, sends, after, run, opening, world}
use Rattle.world_model.specs.Servers.{arrived, arrivals}
use Rattle.world_model.specs.Clusters.{Cluster, ClusterEvent, At, another, seen_by, is_behind, happens, with_world, after_at, run_at, ClusterStart, first_cluster, cluster, reached_after, reached_in, reaches, start_for, crashed_in, elsewhere, event_for, events_from, events_for}
use Rattle.world_model.proofs.Places.{none≢some, some_same, slice_get-push_old, bytes_same, bytes_self}
use Rattle.world_model.proofs.Judgements.{message_uid}
use Rattle.world_model.proofs.Kept.{IsOwnLast, IsSound, run_sound, opening_sound}
use Rattle.world_model.proofs.Earned.{run-append}
use Rattle.world_model.proofs.Runs.{IsAsBefore, run_servers, arrived-append}

-- each reply that is kept names its entry's identifier, and is no error
abbrev pub IsAddressed : World → Type 0
IsAddressed w = (k : ℕ) (reply : ServerToAgent) → w.replies k ≡ Some reply
    → (e : Entry) × ((slice_get w.sent k ≡ Some e) × ((reply.instance_uid ≡ e.uid) × (is_some reply.error_response ≡ false)))

-- whom a reply names, and whether it is an error
abbrev said_of : ServerToAgent → List ℕ × Bool
said_of reply = (reply.instance_uid, is_some reply.error_response)

carried_so : (message : Option CustomMessage) (reply : ServerToAgent) → said_of (carrying message reply) ≡ said_of reply
carried_so message reply = by_test (is_none reply.command && (is_none reply.error_response && not (has_bit reply.flags REPORT_FULL_STATE)))
  where
    by_test : (t : Bool) → said_of (cond t (record reply { custom_message = message }) reply) ≡ said_of reply
    by_test true = refl
    by_test false = refl

accepting_so : (server : Profile) (m : AgentToServer) (fresh : Option (List ℕ)) (due : Dues) → said_of (accepting_reply server m fresh due) ≡ (m.instance_uid, false)
accepting_so server m fresh due = by_restart due.restart
  where
    by_restart : (t : Bool) → said_of (cond t (restarting_reply server m.instance_uid) (record (offering_reply server m.instance_uid due.offers) {
      flags = cond due.details REPORT_AVAILABLE_COMPONENTS 0;
      agent_identification = identification m fresh;
      custom_capabilities = custom_due server m;
    })) ≡ (m.instance_uid, false)
    by_restart true = refl
    by_restart false = refl

reply_so : (w : World) (place : ℕ) (e : Entry) (given : Given) → said_of (reply_at w place e given) ≡ (e.uid, false)
reply_so w place e given =
    carried_so given.message (reply_to (w.profiles (server_to w e)) (message_of e) given.fresh (verdict_in w place e)) ∙ by_stands (stands w place e) ∙ ap (λ u. (u, false)) (message_uid e)
  where
    by_stands : (t : Bool)
        → said_of (reply_to (w.profiles (server_to w e)) (message_of e) given.fresh (cond t (Taken (dues_with w.sent (w.held (server_to w e) e.uid) place e)) Passed)) ≡ ((message_of e).instance_uid, false)
    by_stands true = accepting_so (w.profiles (server_to w e)) (message_of e) given.fresh (dues_with w.sent (w.held (server_to w e) e.uid) place e)
    by_stands false = refl

pub addressed_after : (w : World) (e : Event) → IsAddressed w → IsAddressed (after w e)
addressed_after w (Changed now) s = s
addressed_after w Sent s = by_test (may_report w.agent)
  where
    by_test : (t : Bool) → IsAddressed (cond t (sends w) w)
    by_test true = λ k r is. let x = s k r is in (x.0, (slice_get-push_old w.sent (entry_of w.agent) k x.0 x.1.0, x.1.1))
    by_test false = s
addressed_after w (Delivered place given) s = by_entry (slice_get w.sent place) refl
  where
    by_place : (e : Entry) → slice_get w.sent place ≡ Some e → (k : ℕ) (r : ServerToAgent) (t : Bool) → eqb k place ≡ t
        → cond t (Some (reply_at w place e given)) (w.replies k) ≡ Some r → (x : Entry) × ((slice_get w.sent k ≡ Some x) × ((r.instance_uid ≡ x.uid) × (is_some r.error_response ≡ false)))
    by_place e at k r true here is =
        let said : said_of r ≡ (e.uid, false) = ap said_of (sym (some_same is)) ∙ reply_so w place e given in
        (e, (ap (slice_get w.sent) (eqb-true k place here) ∙ at, (ap (λ x. x.0) said, ap (λ x. x.1) said)))
    by_place e at k r false there is = s k r is

    by_entry : (o : Option Entry) → slice_get w.sent place ≡ o → IsAddressed (delivers w place given o)
    by_entry None at = s
    by_entry (Some e) at = λ k r is. by_place e at k r (eqb k place) refl is
addressed_after w (Answered r) s = s
addressed_after w (Took message r) s = s
addressed_after w (Erred error) s = s
addressed_after w GaveUp s = s
addressed_after w (Offered server uid offer) s = by_fits (fits_offer offer) (w.held server uid)
  where
    by_fits : (t : Bool) (o : Option Holding) → IsAddressed (cond t (changes_held (with_offer offer) w server uid o) w)
    by_fits true None = s
    by_fits true (Some h) = s
    by_fits false o = s
addressed_after w (Ordered server uid) s = by_held (w.held server uid)
  where
    by_held : (o : Option Holding) → IsAddressed (changes_held with_restart w server uid o)
    by_held None = s
    by_held (Some h) = s
addressed_after w (Withdrawn server uid) s = by_held (w.held server uid)
  where
    by_held : (o : Option Holding) → IsAddressed (changes_held with_nothing w server uid o)
    by_held None = s
    by_held (Some h) = s
addressed_after w (Forgotten server uid) s = s
addressed_after w (ServerRestarted server) s = s
addressed_after w (Restarted local asks_uid) s = s
addressed_after w (Crashed during n) s = s

addressed_run : (es : List Event) (w : World) → IsAddressed w → IsAddressed (run es w)
addressed_run [] w s = s
addressed_run (e ∷ es) w s = addressed_run es (after w e) (addressed_after w e s)

abbrev saves_seen : AgentHalf → Option AgentEvent → List Saved
saves_seen a None = []
saves_seen a (Some event) = saves_in a event

-- what the agent saw is the same to it: what follows and what is kept of it
record IsSeenAs (a : AgentHalf) (o p : Option AgentEvent) : Type 0 where
  follows : agent_follows a o ≡ agent_follows a p
  keeps : saves_seen a o ≡ saves_seen a p

same_seen : (a : AgentHalf) (o : Option AgentEvent) → IsSeenAs a o o
same_seen a o = record { follows = refl; keeps = refl }

first_of_none : (n : ℕ) (a : AgentHalf) → keeping_first n [] a ≡ a
first_of_none n a = refl

crash_is : (a : AgentHalf) (n : ℕ) (o : Option AgentEvent) → agent_after a (crash_of a o n) ≡ restarted (keeping_first n (saves_seen a o) a)
crash_is a n None = refl
crash_is a n (Some it) = refl

crash_keeps : (a : AgentHalf) (n : ℕ) (o : Option AgentEvent) → saves_in a (crash_of a o n) ≡ []
crash_keeps a n None = refl
crash_keeps a n (Some it) = refl

crash_seen : (a : AgentHalf) (n : ℕ) (o p : Option AgentEvent) → IsSeenAs a o p → IsSeenAs a (Some (crash_of a o n)) (Some (crash_of a p n))
crash_seen a n o p s = record {
  follows = crash_is a n o ∙ ap (λ ss. restarted (keeping_first n ss a)) s.keeps ∙ sym (crash_is a n p);
  keeps = crash_keeps a n o ∙ sym (crash_keeps a n p);
}

-- a reply is heard as a message of the same text that comes unasked, where it has the identifier in use or nothing is awaited
heard_so : (a : AgentHalf) (reply : ServerToAgent) (r : Reactions) → (bytes_eq reply.instance_uid a.saved.uid ≡ true) ⊎ (a.awaits ≡ false)
    → IsSeenAs a (Some (Hears reply r)) (where_true (bytes_eq reply.instance_uid a.saved.uid) (Hears reply r))
heard_so a reply r (inl own) = subst (λ t. IsSeenAs a (Some (Hears reply r)) (where_true t (Hears reply r))) (sym own) (same_seen a (Some (Hears reply r)))
heard_so a reply r (inr quiet) = by_test (bytes_eq reply.instance_uid a.saved.uid)
  where
    nothing : IsSeenAs a (Some (Hears reply r)) None
    nothing = record {
      follows = ap (λ t. calls_after a (cond t (reply_calls a reply r) [])) quiet;
      keeps = ap (λ t. saves_of a (cond t (reply_calls a reply r) [])) quiet;
    }

    by_test : (t : Bool) → IsSeenAs a (Some (Hears reply r)) (where_true t (Hears reply r))
    by_test true = same_seen a (Some (Hears reply r))
    by_test false = nothing

-- the agent that awaits a reply awaits it under the identifier in use
reply_own : (w : World) (reply : ServerToAgent) → IsSound w → IsAddressed w → reply_due w ≡ Some reply → (bytes_eq reply.instance_uid w.agent.saved.uid ≡ true) ⊎ (w.agent.awaits ≡ false)
reply_own w reply s addressed due = by_awaits w.agent.awaits refl
  where
    by_awaits : (t : Bool) → w.agent.awaits ≡ t → (bytes_eq reply.instance_uid w.agent.saved.uid ≡ true) ⊎ (w.agent.awaits ≡ false)
    by_awaits false so = inr so
    by_awaits true so =
        let own : IsOwnLast w.sent w.agent = s.fit.awaited so in
        let x = addressed (length w.sent - 1) reply due in
        let same : x.0 ≡ own.entry = some_same (sym x.1.0 ∙ own.is_last) in
        inl (ap (λ u. bytes_eq u w.agent.saved.uid) (x.1.1.0 ∙ ap (λ (e : Entry). e.uid) same ∙ own.uid) ∙ bytes_self w.agent.saved.uid)

-- what the agent sees of an event elsewhere
abbrev seen_first : World → List Event → Option AgentEvent
seen_first v [] = None
seen_first v (e ∷ es) = seen_of v e

module _ (w v : World) (agent : v.agent ≡ w.agent) (s : IsSound w) (addressed : IsAddressed w) where
  took_so : (reply : ServerToAgent) (r : Reactions) → reply_due w ≡ Some reply → IsSeenAs w.agent (Some (Hears reply r)) (seen_of v (Took reply r))
  took_so reply r due =
      subst (λ (a : AgentHalf). IsSeenAs w.agent (Some (Hears reply r)) (where_true (bytes_eq reply.instance_uid a.saved.uid) (Hears reply r))) (sym agent)
      (heard_so w.agent reply r (reply_own w reply s addressed due))

  crashed_so : (n : ℕ) (o : Option AgentEvent) (es : List Event) → IsSeenAs w.agent o (seen_first v es) → IsSeenAs w.agent (Some (crash_of w.agent o n)) (seen_of v (crashed_in w.agent es n))
  crashed_so n o [] so = crash_seen w.agent n o None so
  crashed_so n o (e ∷ es) so =
      subst (λ (a : AgentHalf). IsSeenAs w.agent (Some (crash_of w.agent o n)) (Some (crash_of a (seen_of v e) n))) (sym agent) (crash_seen w.agent n o (seen_of v e) so)

  -- what the agent sees is the same to it
  elsewhere_seen : (e : Event) → IsSeenAs w.agent (seen_of w e) (seen_first v (elsewhere w e))
  elsewhere_seen (Changed now) = same_seen w.agent _
  elsewhere_seen Sent = same_seen w.agent _
  elsewhere_seen (Delivered place given) = same_seen w.agent _
  elsewhere_seen (Answered r) = by_reply (reply_due w) refl
    where
      by_reply : (o : Option ServerToAgent) → reply_due w ≡ o
          → IsSeenAs w.agent (option_map (λ reply. Hears reply r) o) (seen_first v (option_to_list (option_map (λ reply. Took reply r) o)))
      by_reply None is = same_seen w.agent None
      by_reply (Some reply) is = took_so reply r is
  elsewhere_seen (Took message r) =
      subst (λ (a : AgentHalf). IsSeenAs w.agent (seen_of w (Took message r)) (where_true (bytes_eq message.instance_uid a.saved.uid) (Hears message r))) (sym agent) (same_seen w.agent _)
  elsewhere_seen (Erred error) =
      subst (λ (a : AgentHalf). IsSeenAs w.agent (seen_of w (Erred error)) (Some (Hears (error_alone a.saved.uid error) no_reactions))) (sym agent) (same_seen w.agent _)
  elsewhere_seen GaveUp = same_seen w.agent _
  elsewhere_seen (Offered server uid offer) = same_seen w.agent _
  elsewhere_seen (Ordered server uid) = same_seen w.agent _
  elsewhere_seen (Withdrawn server uid) = same_seen w.agent _
  elsewhere_seen (Forgotten server uid) = same_seen w.agent _
  elsewhere_seen (ServerRestarted server) = same_seen w.agent _
  elsewhere_seen (Restarted local asks_uid) = same_seen w.agent _
  elsewhere_seen (Crashed during n) = crashed_so n (seen_of w during) (elsewhere w during) (elsewhere_seen during)

-- the world, with this agent and these entries
abbrev with_half : World → AgentHalf → List Entry → World
with_half v a sent = record v { agent = a; sent = sent }

abbrev half_after : World → World → World
half_after v w = with_half v w.agent w.sent

-- what an event elsewhere leaves of a world is the agent and the entries
module _ (w v : World) (agent : v.agent ≡ w.agent) (sent : v.sent ≡ w.sent) (s : IsSound w) (addressed : IsAddressed w) where
  sees : (e : Event) → record v { agent = agent_follows w.agent (seen_of w e) } ≡ record v { agent = agent_follows v.agent (seen_first v (elsewhere w e)) }
  sees e = ap (λ a. record v { agent = a }) ((elsewhere_seen w v agent s addressed e).follows ∙ ap (λ a. agent_follows a (seen_first v (elsewhere w e))) (sym agent))

  same_half : with_half v w.agent w.sent ≡ v
  same_half = λ i. with_half v (sym agent i) (sym sent i)

  goes_half : (e : Event) → half_after v (record w { agent = agent_follows w.agent (seen_of w e) }) ≡ record v { agent = agent_follows v.agent (seen_first v (elsewhere w e)) }
  goes_half e = (λ i. with_half v (agent_follows w.agent (seen_of w e)) (sym sent i)) ∙ sees e

  elsewhere_leaves : (e : Event) → half_after v (after w e) ≡ run (elsewhere w e) v
  elsewhere_leaves (Changed now) = goes_half (Changed now)
  elsewhere_leaves Sent =
      by_test (may_report w.agent) ∙ (λ i. cond (may_report (sym agent i)) (sends (same_half i)) (same_half i))
    where
      by_test : (t : Bool) → half_after v (cond t (sends w) w) ≡ cond t (sends (with_half v w.agent w.sent)) (with_half v w.agent w.sent)
      by_test true = refl
      by_test false = refl
  elsewhere_leaves (Delivered place given) = by_entry (slice_get w.sent place) ∙ same_half
    where
      by_entry : (o : Option Entry) → half_after v (delivers w place given o) ≡ with_half v w.agent w.sent
      by_entry None = refl
      by_entry (Some e) = refl
  elsewhere_leaves (Answered r) = goes_half (Answered r) ∙ by_reply (reply_due w)
    where
      by_reply : (o : Option ServerToAgent) → record v { agent = agent_follows v.agent (seen_first v (option_to_list (option_map (λ reply. Took reply r) o))) }
          ≡ run (option_to_list (option_map (λ reply. Took reply r) o)) v
      by_reply None = refl
      by_reply (Some reply) = refl
  elsewhere_leaves (Took message r) = goes_half (Took message r)
  elsewhere_leaves (Erred error) = goes_half (Erred error)
  elsewhere_leaves GaveUp = goes_half GaveUp
  elsewhere_leaves (Offered server uid offer) = by_fits (fits_offer offer) (w.held server uid) ∙ same_half
    where
      by_fits : (t : Bool) (o : Option Holding) → half_after v (cond t (changes_held (with_offer offer) w server uid o) w) ≡ with_half v w.agent w.sent
      by_fits true None = refl
      by_fits true (Some h) = refl
      by_fits false o = refl
  elsewhere_leaves (Ordered server uid) = by_held (w.held server uid) ∙ same_half
    where
      by_held : (o : Option Holding) → half_after v (changes_held with_restart w server uid o) ≡ with_half v w.agent w.sent
      by_held None = refl
      by_held (Some h) = refl
  elsewhere_leaves (Withdrawn server uid) = by_held (w.held server uid) ∙ same_half
    where
      by_held : (o : Option Holding) → half_after v (changes_held with_nothing w server uid o) ≡ with_half v w.agent w.sent
      by_held None = refl
      by_held (Some h) = refl
  elsewhere_leaves (Forgotten server uid) = same_half
  elsewhere_leaves (ServerRestarted server) = same_half
  elsewhere_leaves (Restarted local asks_uid) = goes_half (Restarted local asks_uid)
  elsewhere_leaves (Crashed during n) = goes_half (Crashed during n) ∙ by_during (elsewhere w during)
    where
      by_during : (es : List Event) → record v { agent = agent_follows v.agent (seen_of v (crashed_in w.agent es n)) } ≡ run (crashed_in w.agent es n ∷ []) v
      by_during [] = refl
      by_during (e ∷ es) = refl

  -- also where it doesn't happen there
  happens_elsewhere : (t : List ℕ) (c : Cluster) (e : Event) → half_after v (run (happens t c e) w) ≡ run (elsewhere w e) v
  happens_elsewhere t c (Changed now) = elsewhere_leaves (Changed now)
  happens_elsewhere t c Sent = elsewhere_leaves Sent
  happens_elsewhere t c (Delivered place given) = by_test (option_map_or (is_behind c t) (slice_get c.sent place) false)
    where
      by_test : (b : Bool) → half_after v (run (cond b (Delivered place given ∷ []) []) w) ≡ v
      by_test true = elsewhere_leaves (Delivered place given)
      by_test false = same_half
  happens_elsewhere t c (Answered r) = elsewhere_leaves (Answered r)
  happens_elsewhere t c (Took message r) = elsewhere_leaves (Took message r)
  happens_elsewhere t c (Erred error) = elsewhere_leaves (Erred error)
  happens_elsewhere t c GaveUp = elsewhere_leaves GaveUp
  happens_elsewhere t c (Offered server uid offer) = elsewhere_leaves (Offered server uid offer)
  happens_elsewhere t c (Ordered server uid) = elsewhere_leaves (Ordered server uid)
  happens_elsewhere t c (Withdrawn server uid) = elsewhere_leaves (Withdrawn server uid)
  happens_elsewhere t c (Forgotten server uid) = elsewhere_leaves (Forgotten server uid)
  happens_elsewhere t c (ServerRestarted server) = elsewhere_leaves (ServerRestarted server)
  happens_elsewhere t c (Restarted local asks_uid) = elsewhere_leaves (Restarted local asks_uid)
  happens_elsewhere t c (Crashed during n) = elsewhere_leaves (Crashed during n)

-- nothing is held but at this server
abbrev IsAlone : List ℕ → World → Type 0
IsAlone s w = (t uid : List ℕ) → bytes_eq s t ≡ false → w.held t uid ≡ None

put_alone : (s : List ℕ) (held : List ℕ → List ℕ → Option Holding) (server uid : List ℕ) (now : Holding) → ((t u : List ℕ) → bytes_eq s t ≡ false → held t u ≡ None) → bytes_eq s server ≡ true
    → (t u : List ℕ) → bytes_eq s t ≡ false → put_at held server uid now t u ≡ None
put_alone s held server uid now alone here t u apart =
    ap (λ b. cond (b && bytes_eq uid u) (Some now) (held t u)) (ap (λ x. bytes_eq x t) (sym (bytes_same s server here)) ∙ apart) ∙ alone t u apart

changed_alone : (s : List ℕ) (change : Holding → Holding) (w : World) (server uid : List ℕ) (o : Option Holding) → w.held server uid ≡ o → IsAlone s w → IsAlone s (changes_held change w server uid o)
changed_alone s change w server uid None is alone = alone
changed_alone s change w server uid (Some h) is alone = by_server (bytes_eq s server) refl
  where
    by_server : (t : Bool) → bytes_eq s server ≡ t → IsAlone s (record w { held = put_at w.held server uid (change h) })
    by_server true here = put_alone s w.held server uid (change h) alone here
    by_server false apart = absurd (none≢some (sym (alone server uid apart) ∙ is))

seen_alone : (s : List ℕ) (c : Cluster) → IsAlone s (seen_by s c)
seen_alone s c t uid apart = ap (λ b. cond b (c.held s uid) None) apart

delivered_alone : (s : List ℕ) (w : World) (place : ℕ) (given : Given) (x : Entry) → bytes_eq s (server_to w x) ≡ true → IsAlone s w → IsAlone s (delivers w place given (Some x))
delivered_alone s w place given x here alone t uid apart = by_stands (stands w place x)
  where
    by_stands : (b : Bool) → cond b (put_at w.held (server_to w x) x.uid (holding_with (w.held (server_to w x) x.uid) place x)) w.held t uid ≡ None
    by_stands true = put_alone s w.held (server_to w x) x.uid (holding_with (w.held (server_to w x) x.uid) place x) alone here t uid apart
    by_stands false = alone t uid apart

-- what happens at a server leaves it so
happens_alone : (s : List ℕ) (c : Cluster) (e : Event) → IsAlone s (run (happens s c e) (seen_by s c))
happens_alone s c (Changed now) = seen_alone s c
happens_alone s c Sent = by_test (may_report c.agent)
  where
    by_test : (t : Bool) → IsAlone s (cond t (sends (seen_by s c)) (seen_by s c))
    by_test true = seen_alone s c
    by_test false = seen_alone s c
happens_alone s c (Delivered place given) = by_entry (slice_get c.sent place) refl
  where
    w : World
    w = seen_by s c

    by_behind : (x : Entry) → slice_get c.sent place ≡ Some x → (b : Bool) → is_behind c s x ≡ b → IsAlone s (run (cond b (Delivered place given ∷ []) []) w)
    by_behind x at true so = subst (λ o. IsAlone s (delivers w place given o)) (sym at)
        (delivered_alone s w place given x (ap (λ b. bytes_eq s (cond b s (another s))) so ∙ bytes_self s) (seen_alone s c))
    by_behind x at false so = seen_alone s c

    by_entry : (o : Option Entry) → slice_get c.sent place ≡ o → IsAlone s (run (cond (option_map_or (is_behind c s) o false) (Delivered place given ∷ []) []) w)
    by_entry None at = seen_alone s c
    by_entry (Some x) at = by_behind x at (is_behind c s x) refl
happens_alone s c (Answered r) = seen_alone s c
happens_alone s c (Took message r) = seen_alone s c
happens_alone s c (Erred error) = seen_alone s c
happens_alone s c GaveUp = seen_alone s c
happens_alone s c (Offered server uid offer) = by_fits (fits_offer offer)
  where
    by_fits : (t : Bool) → IsAlone s (cond t (changes_held (with_offer offer) (seen_by s c) server uid ((seen_by s c).held server uid)) (seen_by s c))
    by_fits true = changed_alone s (with_offer offer) (seen_by s c) server uid ((seen_by s c).held server uid) refl (seen_alone s c)
    by_fits false = seen_alone s c
happens_alone s c (Ordered server uid) = changed_alone s with_restart (seen_by s c) server uid ((seen_by s c).held server uid) refl (seen_alone s c)
happens_alone s c (Withdrawn server uid) = changed_alone s with_nothing (seen_by s c) server uid ((seen_by s c).held server uid) refl (seen_alone s c)
happens_alone s c (Forgotten server uid) = λ t u apart. by_own t u apart (bytes_eq server t && bytes_eq uid u)
  where
    by_own : (t u : List ℕ) → bytes_eq s t ≡ false → (b : Bool) → cond b None ((seen_by s c).held t u) ≡ None
    by_own t u apart true = refl
    by_own t u apart false = seen_alone s c t u apart
happens_alone s c (ServerRestarted server) = λ t uid apart. by_server t uid apart (bytes_eq server t)
  where
    by_server : (t uid : List ℕ) → bytes_eq s t ≡ false → (b : Bool) → cond b None ((seen_by s c).held t uid) ≡ None
    by_server t uid apart true = refl
    by_server t uid apart false = seen_alone s c t uid apart
happens_alone s c (Restarted local asks_uid) = seen_alone s c
happens_alone s c (Crashed during n) = seen_alone s c

-- the server's world, once it is joined
own_world : (s : List ℕ) (c : Cluster) (w : World) → IsAlone s w → IsAsBefore (seen_by s c) w → seen_by s (with_world s c w) ≡ w
own_world s c w alone before = λ i. record {
  agent = w.agent;
  sent = w.sent;
  server_of = sym before.server_of i;
  profiles = sym before.profiles i;
  held = λ t uid. by_server t uid (bytes_eq s t) refl i;
  replies = cond (bytes_self s i) w.replies (c.replies s);
}
  where
    by_server : (t uid : List ℕ) (b : Bool) → bytes_eq s t ≡ b → cond b (cond (bytes_eq s s) (w.held s uid) (c.held s uid)) None ≡ w.held t uid
    by_server t uid true here = ap (λ b. cond b (w.held s uid) (c.held s uid)) (bytes_self s) ∙ ap (λ x. w.held x uid) (bytes_same s t here)
    by_server t uid false apart = sym (alone t uid apart)

-- and another's
other_world : (s t : List ℕ) (c : Cluster) (w : World) → bytes_eq t s ≡ false → seen_by s (with_world t c w) ≡ half_after (seen_by s c) w
other_world s t c w apart = λ i. record (half_after (seen_by s c) w) {
  held = λ x uid. cond (bytes_eq s x) (cond (apart i) (w.held t uid) (c.held s uid)) None;
  replies = cond (apart i) w.replies (c.replies s);
}

pub own_step : (s : List ℕ) (c : Cluster) (e : Event) → seen_by s (after_at c (At s e)) ≡ run (happens s c e) (seen_by s c)
own_step s c e = own_world s c (run (happens s c e) (seen_by s c)) (happens_alone s c e) (run_servers (happens s c e) (seen_by s c))

-- each server's world is one that its run leads to
abbrev pub AllSound : Cluster → Type 0
AllSound c = (s : List ℕ) → IsSound (seen_by s c) × IsAddressed (seen_by s c)

pub one_step : (s : List ℕ) (c : Cluster) (x : ClusterEvent) → AllSound c → seen_by s (after_at c x) ≡ run (event_for s c x) (seen_by s c)
one_step s c (At t e) sound = by_server (bytes_eq t s) refl
  where
    by_server : (b : Bool) → bytes_eq t s ≡ b → seen_by s (after_at c (At t e)) ≡ run (cond b (happens s c e) (elsewhere (seen_by t c) e)) (seen_by s c)
    by_server true here = ap (λ x. seen_by s (after_at c (At x e))) (bytes_same t s here) ∙ own_step s c e
    by_server false apart =
        other_world s t c (run (happens t c e) (seen_by t c)) apart
        ∙ happens_elsewhere (seen_by t c) (seen_by s c) refl refl (sound t).0 (sound t).1 t c e

pub sound_step : (c : Cluster) (x : ClusterEvent) → AllSound c → AllSound (after_at c x)
sound_step c x sound s = (
  subst IsSound (sym (one_step s c x sound)) (run_sound (event_for s c x) (seen_by s c) (sound s).0),
  subst IsAddressed (sym (one_step s c x sound)) (addressed_run (event_for s c x) (seen_by s c) (sound s).1),
)

pub sound_run : (es : List ClusterEvent) (c : Cluster) → AllSound c → AllSound (run_at es c)
sound_run [] c sound = sound
sound_run (x ∷ xs) c sound = sound_run xs (after_at c x) (sound_step c x sound)

seen_from : (s : List ℕ) (es : List ClusterEvent) (c : Cluster) → AllSound c → seen_by s (run_at es c) ≡ run (events_from s c es) (seen_by s c)
seen_from s [] c sound = refl
seen_from s (x ∷ xs) c sound =
    seen_from s xs (after_at c x) (sound_step c x sound)
    ∙ ap (run (events_from s (after_at c x) xs)) (one_step s c x sound)
    ∙ sym (run-append (event_for s c x) (events_from s (after_at c x) xs) (seen_by s c))

pub first_seen : (s : List ℕ) (start : ClusterStart) → seen_by s (first_cluster start) ≡ opening (start_for s start)
first_seen s start = λ i. record (opening (start_for s start)) { held = λ t uid. by_server (bytes_eq s t) i }
  where
    nothing : Option Holding
    nothing = None

    by_server : (b : Bool) → cond b nothing nothing ≡ nothing
    by_server true = refl
    by_server false = refl

pub first_sound : (start : ClusterStart) → AllSound (first_cluster start)
first_sound start s = (
  subst IsSound (sym (first_seen s start)) (opening_sound (start_for s start)),
  λ k reply is. absurd (none≢some is),
)

pub cluster_sound : (start : ClusterStart) (es : List ClusterEvent) → AllSound (cluster start es)
cluster_sound start es = sound_run es (first_cluster start) (first_sound start)

pub seen : (start : ClusterStart) (es : List ClusterEvent) (s : List ℕ) → seen_by s (cluster start es) ≡ world (start_for s start) (events_for s start es)
seen start es s = seen_from s es (first_cluster start) (first_sound start) ∙ ap (run (events_for s start es)) (first_seen s start)

-- nothing that happens elsewhere reaches the server
elsewhere_reaches : (s : List ℕ) (w v : World) (e : Event) (history : List ServerEvent) → arrived s (elsewhere w e) v history ≡ history
elsewhere_reaches s w v (Changed now) history = refl
elsewhere_reaches s w v Sent history = refl
elsewhere_reaches s w v (Delivered place given) history = refl
elsewhere_reaches s w v (Answered r) history = by_reply (reply_due w)
  where
    by_reply : (o : Option ServerToAgent) → arrived s (option_to_list (option_map (λ reply. Took reply r) o)) v history ≡ history
    by_reply None = refl
    by_reply (Some reply) = refl
elsewhere_reaches s w v (Took message r) history = refl
elsewhere_reaches s w v (Erred error) history = refl
elsewhere_reaches s w v GaveUp history = refl
elsewhere_reaches s w v (Offered server uid offer) history = refl
elsewhere_reaches s w v (Ordered server uid) history = refl
elsewhere_reaches s w v (Withdrawn server uid) history = refl
elsewhere_reaches s w v (Forgotten server uid) history = refl
elsewhere_reaches s w v (ServerRestarted server) history = refl
elsewhere_reaches s w v (Restarted local asks_uid) history = refl
elsewhere_reaches s w v (Crashed during n) history = by_during (elsewhere w during)
  where
    by_during : (es : List Event) → arrived s (crashed_in w.agent es n ∷ []) v history ≡ history
    by_during [] = refl
    by_during (e ∷ es) = refl

step_reaches : (s : List ℕ) (c : Cluster) (history : List ServerEvent) (x : ClusterEvent) → reached_after s c history x ≡ arrived s (event_for s c x) (seen_by s c) history
step_reaches s c history (At t e) = by_server (bytes_eq t s)
  where
    by_server : (b : Bool) → cond b (arrived s (happens s c e) (seen_by s c) history) history ≡ arrived s (cond b (happens s c e) (elsewhere (seen_by t c) e)) (seen_by s c) history
    by_server true = refl
    by_server false = sym (elsewhere_reaches s (seen_by t c) (seen_by s c) e history)

reaches_from : (s : List ℕ) (es : List ClusterEvent) (c : Cluster) (history : List ServerEvent) → AllSound c → reached_in s es c history ≡ arrived s (events_from s c es) (seen_by s c) history
reaches_from s [] c history sound = refl
reaches_from s (x ∷ xs) c history sound =
    reaches_from s xs (after_at c x) (reached_after s c history x) (sound_step c x sound)
    ∙ (λ i. arrived s (events_from s (after_at c x) xs) (one_step s c x sound i) (step_reaches s c history x i))
    ∙ sym (arrived-append s (event_for s c x) (events_from s (after_at c x) xs) (seen_by s c) history)

pub reached_so : (start : ClusterStart) (es : List ClusterEvent) (s : List ℕ) → reaches start es s ≡ arrivals (start_for s start) (events_for s start es) s
reached_so start es s = reaches_from s es (first_cluster start) [] (first_sound start) ∙ ap (λ w. arrived s (events_for s start es) w []) (first_seen s start)
