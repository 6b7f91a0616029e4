-- The laws of several servers, from those of one.
use Rattle.std.proofs.Common.{◌≡◌, ◌≢◌, ℕ, suc, ◌+◌, ◌≤◌, List, [], ◌∷◌, ◌++◌, length, map, Bool, true, false, cond, not, ◌||◌, Option, None, Some, slice_get, refl, sym, ◌∙◌, ap, subst, ◌⊎◌, inl, inr, arith, length-append, append_assoc}
use Rattle.std.specs.Prelude.{filter, is_none, is_some}
use Rattle.std.specs.Option.{option_map, option_map_or}
use Rattle.std.specs.Str.{bytes_eq}
use Rattle.std.proofs.lemmas.Bool.{false≢true, false_from_ne_true, not-false, ne_eqb}
use Rattle.std.proofs.lemmas.List.{append-nil}
use Rattle.std.proofs.lemmas.Option.{slice_get_within}
use Rattle.message_values.specs.declared.reply.ServerErrorResponse.{ServerErrorResponse}
use Rattle.message_values.specs.declared.reply.ServerToAgent.{ServerToAgent}
use Rattle.message_values.specs.declared.state.State.{State}
use Rattle.agent_rules.specs.declared.rules.parts.LocalState.{LocalState}
use Rattle.agent_rules.specs.Reports.{Entry, message_of}
use Rattle.agent_rules.specs.Half.{AgentHalf, entry_of, first_saved}
use Rattle.agent_rules.specs.Calls.{may_report}
use Rattle.server_core.specs.declared.rows.Record.{Record}
use Rattle.server_core.specs.History.{ascending_uids, due_reply}
use Rattle.world_model.specs.World.{World, Holding, Event, Changed, Sent, Delivered, Answered, Took, Erred, GaveUp, Offered, Ordered, Withdrawn, Forgotten, ServerRestarted, Restarted, Crashed, Given, Start, last_sent, server_to, is_just_before, stands, reply_at, delivers, sends, after, run, world, entry_in, entry_held, record_in_world, record_held, asks_full, carrying, opening}
use Rattle.world_model.specs.Servers.{arrivals, record_after_history, uids_sent, IsNeverFull}
use Rattle.world_model.specs.Exchanges.{Meanwhile, changes, exchange, middle_of, reply_or_error, exchange_or_error, middle_or_error}
use Rattle.world_model.specs.Proofs.{Part, IsFormerOrEarned}
use Rattle.world_model.specs.Clusters.{Cluster, ClusterEvent, At, another, seen_by, is_behind, happens, after_at, run_at, ClusterStart, first_cluster, cluster, reaches, uids_before, HasRoomAt, IsKnownAt, IsFormerOrEarnedAt, WasEarnedAt, IsFirstOrEarnedAt, all_at, exchange_with, and_exchange, and_error, IsAnswered, MayReach, Turn, first_of, both_of, in_turn, TellsChanges, AllTellChanges, start_for, events_for}
use Rattle.world_model.proofs.Places.{none≢some, some_same, slice_get-push_new, last_push, bytes_same, bytes_self}
use Rattle.world_model.proofs.Kept.{IsOwnLast, entry_is}
use Rattle.world_model.proofs.Earned.{run-append}
use Rattle.world_model.proofs.Replies.{recorded, reply_asks}
use Rattle.world_model.proofs.Headline.{one_of, held_after, state_known}
use Rattle.world_model.proofs.Exchanges.{only_changes, stands_unlinked, asked_next, next_alone, middle_stands, middle_sent, Settled, exchange_settles, exchange_refuses}
use Rattle.world_model.proofs.SeenBy.{own_step, cluster_sound, seen, reached_so}

another_apart : (s : List ℕ) → bytes_eq (another s) s ≡ false
another_apart s = false_from_ne_true (bytes_eq (another s) s) (λ same. let n : suc (length s) ≡ length s = ap length (bytes_same (another s) s same) in absurd (omega (arith, n)))

-- the server itself answers at an endpoint exactly where it stands behind it
answers_there : (s : List ℕ) (b : Bool) → cond b s (another s) ≡ s → b ≡ true
answers_there s true is = refl
answers_there s false is = absurd (false≢true (sym (another_apart s) ∙ ap (λ x. bytes_eq x s) is ∙ bytes_self s))

tests_there : (s : List ℕ) (b : Bool) → bytes_eq (cond b s (another s)) s ≡ b
tests_there s true = bytes_self s
tests_there s false = another_apart s

run_at-append : (xs ys : List ClusterEvent) (c : Cluster) → run_at (xs ++ ys) c ≡ run_at ys (run_at xs c)
run_at-append [] ys c = refl
run_at-append (x ∷ xs) ys c = run_at-append xs ys (after_at c x)

pub cluster-append : (start : ClusterStart) (xs ys : List ClusterEvent) → cluster start (xs ++ ys) ≡ run_at ys (cluster start xs)
cluster-append start xs ys = run_at-append xs ys (first_cluster start)

behind_step : (c : Cluster) (x : ClusterEvent) → (after_at c x).behind ≡ c.behind
behind_step c (At s e) = refl

behind_run : (es : List ClusterEvent) (c : Cluster) → (run_at es c).behind ≡ c.behind
behind_run [] c = refl
behind_run (x ∷ xs) c = behind_run xs (after_at c x) ∙ behind_step c x

pub behind_same : (start : ClusterStart) (es : List ClusterEvent) → (cluster start es).behind ≡ start.behind
behind_same start es = behind_run es (first_cluster start)

-- what was sent to the server's endpoints, as its world has it
pub uids_so : (s : List ℕ) (c : Cluster) → uids_sent s (seen_by s c) ≡ uids_before s c
uids_so s c = λ i. map (λ (e : Entry). e.uid) (filter (λ e. tests_there s (c.behind e.server s) i) c.sent)

-- room there is room in the server's world
pub room_there : (start : ClusterStart) (es : List ClusterEvent) (s : List ℕ) → HasRoomAt start es s → IsNeverFull (start_for s start) (events_for s start es) s
room_there start es s = subst (λ us. length (ascending_uids us) ≤ 16384) (sym (ap (uids_sent s) (sym (seen start es s)) ∙ uids_so s (cluster start es)))

-- what the server holds, as its world has it
pub held_so : (s uid : List ℕ) (c : Cluster) → (seen_by s c).held s uid ≡ c.held s uid
held_so s uid c = ap (λ b. cond b (c.held s uid) None) (bytes_self s)

server_is : (s : List ℕ) (c : Cluster) (e : Entry) → c.behind e.server s ≡ true → server_to (seen_by s c) e ≡ s
server_is s c e there = ap (λ b. cond b s (another s)) there

module _ (records : (start : Start) (events : List Event) (server uid : List ℕ) → IsNeverFull start events server
    → record_after_history (arrivals start events server) uid ≡ record_held (world start events) server uid) where
  pub held_at : (start : ClusterStart) (es : List ClusterEvent) (s uid : List ℕ) → HasRoomAt start es s
      → record_after_history (reaches start es s) uid ≡ record_in_world (cluster start es).sent ((cluster start es).held s uid)
  held_at start es s uid room =
      ap (λ h. record_after_history h uid) (reached_so start es s)
      ∙ records (start_for s start) (events_for s start es) s uid (room_there start es s room)
      ∙ ap (λ w. record_held w s uid) (sym (seen start es s))
      ∙ ap (record_in_world (cluster start es).sent) (held_so s uid (cluster start es))

  pub one_report_at : (start : ClusterStart) (es : List ClusterEvent) (s uid : List ℕ) (known : Record) → HasRoomAt start es s
      → record_after_history (reaches start es s) uid ≡ Some known
      → (place : ℕ) × ((e : Entry) × ((slice_get (cluster start es).sent place ≡ Some e)
      × ((start.behind e.server s ≡ true) × ((e.uid ≡ uid) × ((known.state ≡ e.state) × (known.number ≡ e.number))))))
  one_report_at start es s uid known room is =
      let c = cluster start es in
      let it = one_of (seen_by s c) s uid ((seen_by s c).held s uid) known (cluster_sound start es s).0 refl
      (ap (record_in_world c.sent) (held_so s uid c) ∙ sym (held_at start es s uid room) ∙ is) in
      (it.0, (it.1.0, (it.1.1.0, (ap (λ (f : List ℕ → List ℕ → Bool). f it.1.0.server s) (sym (behind_same start es)) ∙ answers_there s (c.behind it.1.0.server s) it.1.1.1.0, it.1.1.1.1))))

  pub known_at : (start : ClusterStart) (es : List ClusterEvent) (s : List ℕ) (e : Entry) → HasRoomAt start es s → entry_held (seen_by s (cluster start es)) s e.uid ≡ Some e
      → IsKnownAt start es s e
  known_at start es s e room is =
      let c = cluster start es in
      ap (option_map (λ (known : Record). known.state)) (held_at start es s e.uid room)
      ∙ state_known c.sent (c.held s e.uid) e (ap (entry_in c.sent) (sym (held_so s e.uid c)) ∙ is)

-- a delivery happens at a server behind the entry's endpoint
pub happens_there : (s : List ℕ) (c : Cluster) (place : ℕ) (given : Given) (e : Entry) → slice_get c.sent place ≡ Some e → c.behind e.server s ≡ true
    → happens s c (Delivered place given) ≡ Delivered place given ∷ []
happens_there s c place given e at there =
    ap (λ o. cond (option_map_or (is_behind c s) o false) (Delivered place given ∷ []) []) at ∙ ap (λ b. cond b (Delivered place given ∷ []) []) there

delivered_there : (s : List ℕ) (c : Cluster) (place : ℕ) (given : Given) (e : Entry) → slice_get c.sent place ≡ Some e → c.behind e.server s ≡ true
    → seen_by s (after_at c (At s (Delivered place given))) ≡ after (seen_by s c) (Delivered place given)
delivered_there s c place given e at there = own_step s c (Delivered place given) ∙ ap (λ es. run es (seen_by s c)) (happens_there s c place given e at there)

there_still : (start : ClusterStart) (es : List ClusterEvent) (s endpoint : List ℕ) → start.behind endpoint s ≡ true → (cluster start es).behind endpoint s ≡ true
there_still start es s endpoint there = ap (λ (f : List ℕ → List ℕ → Bool). f endpoint s) (behind_same start es) ∙ there

pub asks_at : (start : ClusterStart) (es : List ClusterEvent) (s : List ℕ) (place : ℕ) (given : Given) (e : Entry)
    → slice_get (cluster start es).sent place ≡ Some e → start.behind e.server s ≡ true
    → option_map asks_full ((after_at (cluster start es) (At s (Delivered place given))).replies s place) ≡ Some (not (stands (seen_by s (cluster start es)) place e))
asks_at start es s place given e at there =
    let c = cluster start es in
    ap (λ (v : World). option_map asks_full (v.replies place)) (delivered_there s c place given e at (there_still start es s e.server there))
    ∙ ap (option_map asks_full) (recorded (seen_by s c) place given e at)
    ∙ ap (λ b. Some b) (reply_asks (seen_by s c) place e given)

-- all of these happen at the server
abbrev AllHappen : List ℕ → Cluster → List Event → Type 0
AllHappen s c [] = Unit {0}
AllHappen s c (e ∷ es) = (happens s c e ≡ e ∷ []) × AllHappen s (after_at c (At s e)) es

own_run : (s : List ℕ) (es : List Event) (c : Cluster) → AllHappen s c es → seen_by s (run_at (all_at s es) c) ≡ run es (seen_by s c)
own_run s [] c all = refl
own_run s (e ∷ es) c all = own_run s es (after_at c (At s e)) all.1 ∙ ap (run es) (own_step s c e ∙ ap (λ xs. run xs (seen_by s c)) all.0)

changes_happen : (s : List ℕ) (ls : List LocalState) (es : List Event) (c : Cluster) → ((d : Cluster) → d.sent ≡ c.sent → d.behind ≡ c.behind → AllHappen s d es)
    → AllHappen s c (changes ls ++ es)
changes_happen s [] es c then = then c refl refl
changes_happen s (l ∷ ls) es c then = (refl, changes_happen s ls es (after_at c (At s (Changed l))) (λ d sent behind. then d sent behind))

only_changes_happen : (s : List ℕ) (ls : List LocalState) (c : Cluster) → AllHappen s c (changes ls)
only_changes_happen s [] c = tt
only_changes_happen s (l ∷ ls) c = (refl, only_changes_happen s ls (after_at c (At s (Changed l))))

end_happens : (s : List ℕ) (c : Cluster) (m : Meanwhile) (error : Option ServerErrorResponse) → happens s c (reply_or_error m error) ≡ reply_or_error m error ∷ []
end_happens s c m None = refl
end_happens s c m (Some error) = refl

exchange_happens : (s : List ℕ) (c : Cluster) (m : Meanwhile) (error : Option ServerErrorResponse) → may_report c.agent ≡ true → c.behind (entry_of c.agent).server s ≡ true
    → AllHappen s c (exchange_or_error (length c.sent) m error)
exchange_happens s c m error may there = (
  refl,
  changes_happen s m.before_delivery (Delivered (length c.sent) m.given ∷ changes m.before_reply ++ (reply_or_error m error ∷ [])) (after_at c (At s Sent)) (λ d sent behind. (
    happens_there s d (length c.sent) m.given (entry_of c.agent) (ap (λ es. slice_get es (length c.sent)) sent ∙ sent_there) (ap (λ (f : List ℕ → List ℕ → Bool). f (entry_of c.agent).server s) behind ∙ there),
    changes_happen s m.before_reply (reply_or_error m error ∷ []) (after_at d (At s (Delivered (length c.sent) m.given))) (λ d' sent' behind'. (end_happens s d' m error, tt)),
  )),
)
  where
    sent_there : slice_get (cond (may_report c.agent) (sends (seen_by s c)) (seen_by s c)).sent (length c.sent) ≡ Some (entry_of c.agent)
    sent_there = ap (λ b. slice_get (cond b (sends (seen_by s c)) (seen_by s c)).sent (length c.sent)) may ∙ slice_get-push_new c.sent (entry_of c.agent)

-- after an exchange with the server its world is the one after the exchange
once_seen : (start : ClusterStart) (es : List ClusterEvent) (s : List ℕ) (m : Meanwhile) → MayReach start es s
    → seen_by s (cluster start (and_exchange start es s m)) ≡ run (exchange (length (cluster start es).sent) m) (seen_by s (cluster start es))
once_seen start es s m reach =
    let c = cluster start es in
    ap (seen_by s) (cluster-append start es (exchange_with s c m))
    ∙ own_run s (exchange (length c.sent) m) c (exchange_happens s c m None reach.may (there_still start es s (entry_of c.agent).server reach.stands_there))

middle_seen : (start : ClusterStart) (es : List ClusterEvent) (s : List ℕ) (first : Meanwhile) (between : List LocalState) → MayReach start es s
    → seen_by s (cluster start (and_exchange start es s first ++ all_at s (changes between))) ≡ middle_of (seen_by s (cluster start es)) first between
middle_seen start es s first between reach =
    let c = cluster start es in
    let once = and_exchange start es s first in
    ap (seen_by s) (cluster-append start once (all_at s (changes between)))
    ∙ own_run s (changes between) (cluster start once) (only_changes_happen s between (cluster start once))
    ∙ ap (run (changes between)) (once_seen start es s first reach)
    ∙ sym (run-append (exchange (length c.sent) first) (changes between) (seen_by s c))

-- after an exchange that ended by an error the agent's next entry is alone
pub alone_after_error : (start : ClusterStart) (es : List ClusterEvent) (s : List ℕ) (first : Meanwhile) (error : ServerErrorResponse) (between : List LocalState) → MayReach start es s
    → (entry_of (cluster start (and_error start es s first error ++ all_at s (changes between))).agent).basis ≡ None
alone_after_error start es s first error between reach =
    ap (λ (v : World). (entry_of v.agent).basis) middle_is
    ∙ next_alone (seen_by s c) first (Some error) between reach.may (inr refl)
  where
    c : Cluster
    c = cluster start es

    events : List Event
    events = exchange_or_error (length c.sent) first (Some error)

    once : List ClusterEvent
    once = and_error start es s first error

    middle_is : seen_by s (cluster start (once ++ all_at s (changes between))) ≡ middle_or_error (seen_by s c) first (Some error) between
    middle_is =
        ap (seen_by s) (cluster-append start once (all_at s (changes between)))
        ∙ own_run s (changes between) (cluster start once) (only_changes_happen s between (cluster start once))
        ∙ ap (λ d. run (changes between) (seen_by s d)) (cluster-append start es (all_at s events))
        ∙ ap (run (changes between)) (own_run s events c (exchange_happens s c first (Some error) reach.may (there_still start es s (entry_of c.agent).server reach.stands_there)))
        ∙ sym (run-append events (changes between) (seen_by s c))

-- the agent's next entry stands at the server
abbrev StandsNext : ClusterStart → List ClusterEvent → List ℕ → Type 0
StandsNext start es s = let c = cluster start es in stands (seen_by s c) (length c.sent) (entry_of c.agent) ≡ true

-- an agent whose entry didn't stand sends one that is alone, and so stands at each server
asked_stands : (start : ClusterStart) (es : List ClusterEvent) (s t : List ℕ) (first : Meanwhile) (between : List LocalState) → MayReach start es s
    → (let c = cluster start es in stands (seen_by s c) (length c.sent) (entry_of c.agent) ≡ false)
    → StandsNext start (and_exchange start es s first ++ all_at s (changes between)) t
asked_stands start es s t first between reach so =
    let c = cluster start es in
    let w = seen_by s c in
    let last = only_changes between (run (exchange (length w.sent) first) w) in
    stands_unlinked (seen_by t (cluster start (and_exchange start es s first ++ all_at s (changes between))))
    (ap (λ (v : World). v.agent.linked) (middle_seen start es s first between reach ∙ run-append (exchange (length w.sent) first) (changes between) w ∙ last.1)
    ∙ asked_next w first reach.may so)

module _ (records : (start : Start) (events : List Event) (server uid : List ℕ) → IsNeverFull start events server
    → record_after_history (arrivals start events server) uid ≡ record_held (world start events) server uid) where
  pub just_reported_at : (start : ClusterStart) (es : List ClusterEvent) (s : List ℕ) (place : ℕ) (given : Given) (e : Entry) (reply : ServerToAgent)
      → slice_get (cluster start es).sent place ≡ Some e → start.behind e.server s ≡ true
      → HasRoomAt start (es ++ At s (Delivered place given) ∷ []) s
      → (cluster start (es ++ At s (Delivered place given) ∷ [])).replies s place ≡ Some reply → asks_full reply ≡ false
      → IsKnownAt start (es ++ At s (Delivered place given) ∷ []) s e
  just_reported_at start es s place given e reply at there room is plain =
      known_at records start (es ++ At s (Delivered place given) ∷ []) s e room
      (ap (λ v. entry_held v s e.uid) path
      ∙ subst (λ x. entry_held (after w (Delivered place given)) x e.uid ≡ Some e) (server_is s c e still) (held_after w place given e at stood))
    where
      c : Cluster
      c = cluster start es

      w : World
      w = seen_by s c

      still : c.behind e.server s ≡ true
      still = there_still start es s e.server there

      path : seen_by s (cluster start (es ++ At s (Delivered place given) ∷ [])) ≡ after w (Delivered place given)
      path = ap (seen_by s) (cluster-append start es (At s (Delivered place given) ∷ [])) ∙ delivered_there s c place given e at still

      same : reply_at w place e given ≡ reply
      same = some_same (sym (recorded w place given e at) ∙ ap (λ (v : World). v.replies place) (sym path) ∙ is)

      stood : stands w place e ≡ true
      stood = not-false (stands w place e) (sym (reply_asks w place e given) ∙ ap asks_full same ∙ plain)

  settles_at : (start : ClusterStart) (es : List ClusterEvent) (s : List ℕ) (m : Meanwhile) → MayReach start es s → HasRoomAt start (and_exchange start es s m) s
      → StandsNext start es s → IsAnswered start es s m
  settles_at start es s m reach room stood = by_reply ((cluster start once).replies s (length c.sent)) refl settled.0
    where
      c : Cluster
      c = cluster start es

      once : List ClusterEvent
      once = and_exchange start es s m

      e : Entry
      e = entry_of c.agent

      settled : Settled (seen_by s c) (seen_by s (cluster start once))
      settled = subst (Settled (seen_by s c)) (sym (once_seen start es s m reach)) (exchange_settles (seen_by s c) m reach.may stood)

      held : entry_held (seen_by s (cluster start once)) s e.uid ≡ Some e
      held = subst (λ x. entry_held (seen_by s (cluster start once)) x e.uid ≡ Some e) (server_is s c e (there_still start es s e.server reach.stands_there)) settled.1

      by_reply : (o : Option ServerToAgent) → (cluster start once).replies s (length c.sent) ≡ o → option_map asks_full o ≡ Some false → IsAnswered start es s m
      by_reply None is asks = absurd (none≢some asks)
      by_reply (Some reply) is asks = record {
        reply = reply;
        replied = is;
        plain = some_same asks;
        right = ((cluster_sound start once s).1 (length c.sent) reply is).1.1.1;
        known = known_at records start once s e room held;
      }

  pub one_server_at : (start : ClusterStart) (es : List ClusterEvent) (s : List ℕ) (first second : Meanwhile) (between : List LocalState)
      → MayReach start es s → MayReach start (and_exchange start es s first ++ all_at s (changes between)) s
      → HasRoomAt start (and_exchange start (and_exchange start es s first ++ all_at s (changes between)) s second) s
      → IsAnswered start (and_exchange start es s first ++ all_at s (changes between)) s second
  one_server_at start es s first second between reach again room =
      let c = cluster start es in
      settles_at start (and_exchange start es s first ++ all_at s (changes between)) s second again room
      (subst (λ (v : World). stands v (length v.sent) (entry_of v.agent) ≡ true) (sym (middle_seen start es s first between reach))
      (middle_stands (seen_by s c) first between (cluster_sound start es s).0 reach.may))

  pub one_of_two_at : (start : ClusterStart) (es : List ClusterEvent) (s t : List ℕ) (first second : Meanwhile) (between : List LocalState)
      → MayReach start es s → MayReach start (and_exchange start es s first ++ all_at s (changes between)) t
      → HasRoomAt start (and_exchange start es s first) s
      → HasRoomAt start (and_exchange start (and_exchange start es s first ++ all_at s (changes between)) t second) t
      → IsAnswered start es s first ⊎ IsAnswered start (and_exchange start es s first ++ all_at s (changes between)) t second
  one_of_two_at start es s t first second between reach again room room_again = by_stands (stands (seen_by s c) (length c.sent) (entry_of c.agent)) refl
    where
      c : Cluster
      c = cluster start es

      middle : List ClusterEvent
      middle = and_exchange start es s first ++ all_at s (changes between)

      by_stands : (b : Bool) → stands (seen_by s c) (length c.sent) (entry_of c.agent) ≡ b → IsAnswered start es s first ⊎ IsAnswered start middle t second
      by_stands true so = inl (settles_at start es s first reach room so)
      by_stands false so = inr (settles_at start middle t second again room_again (asked_stands start es s t first between reach so))

  pub after_asked_at : (start : ClusterStart) (es : List ClusterEvent) (s t : List ℕ) (first second : Meanwhile) (between : List LocalState) (reply : ServerToAgent)
      → MayReach start es s → MayReach start (and_exchange start es s first ++ all_at s (changes between)) t
      → HasRoomAt start (and_exchange start (and_exchange start es s first ++ all_at s (changes between)) t second) t
      → (cluster start (and_exchange start es s first)).replies s (length (cluster start es).sent) ≡ Some reply → asks_full reply ≡ true
      → IsAnswered start (and_exchange start es s first ++ all_at s (changes between)) t second
  after_asked_at start es s t first second between reply reach again room is asks = by_stands (stands (seen_by s c) (length c.sent) (entry_of c.agent)) refl
    where
      c : Cluster
      c = cluster start es

      middle : List ClusterEvent
      middle = and_exchange start es s first ++ all_at s (changes between)

      by_stands : (b : Bool) → stands (seen_by s c) (length c.sent) (entry_of c.agent) ≡ b → IsAnswered start middle t second
      by_stands true so =
          let plain = (exchange_settles (seen_by s c) first reach.may so).0 in
          absurd (false≢true (some_same (sym plain ∙ ap (λ (v : World). option_map asks_full (v.replies (length c.sent))) (sym (once_seen start es s first reach)) ∙ ap (option_map asks_full) is) ∙ asks))
      by_stands false so = settles_at start middle t second again room (asked_stands start es s t first between reach so)

  -- a report to another endpoint is whole
  pub other_endpoint_at : (start : ClusterStart) (es : List ClusterEvent) (s t : List ℕ) (first second : Meanwhile) (between : List LocalState)
      → MayReach start es s → MayReach start (and_exchange start es s first ++ all_at s (changes between)) t
      → HasRoomAt start (and_exchange start (and_exchange start es s first ++ all_at s (changes between)) t second) t
      → (entry_of (cluster start es).agent).server ≢ (entry_of (cluster start (and_exchange start es s first ++ all_at s (changes between))).agent).server
      → IsAnswered start (and_exchange start es s first ++ all_at s (changes between)) t second
  other_endpoint_at start es s t first second between reach again room apart = by_linked (cluster start middle).agent.linked refl
    where
      c : Cluster
      c = cluster start es

      middle : List ClusterEvent
      middle = and_exchange start es s first ++ all_at s (changes between)

      sent_so : (cluster start middle).sent ≡ c.sent ++ entry_of c.agent ∷ []
      sent_so = ap (λ (v : World). v.sent) (middle_seen start es s first between reach) ∙ middle_sent (seen_by s c) first between reach.may

      by_linked : (b : Bool) → (cluster start middle).agent.linked ≡ b → IsAnswered start middle t second
      by_linked true so =
          let own : IsOwnLast (cluster start middle).sent (cluster start middle).agent = (cluster_sound start middle t).0.fit.linked so in
          let same : own.entry ≡ entry_of c.agent = some_same (sym own.is_last ∙ ap last_sent sent_so ∙ last_push c.sent (entry_of c.agent)) in
          absurd (apart (ap (λ (e : Entry). e.server) (sym same) ∙ own.server ∙ sym (ap (λ (e : Entry). e.server) (entry_is (cluster start middle).agent).1)))
      by_linked false so = settles_at start middle t second again room (stands_unlinked (seen_by t (cluster start middle)) so)

  pub whole_at : (start : ClusterStart) (es : List ClusterEvent) (s : List ℕ) (m : Meanwhile) → MayReach start es s → HasRoomAt start (and_exchange start es s m) s
      → (entry_of (cluster start es).agent).basis ≡ None → IsAnswered start es s m
  whole_at start es s m reach room alone =
      let c = cluster start es in
      settles_at start es s m reach room (ap (λ b. is_none b || is_just_before ((seen_by s c).held (server_to (seen_by s c) (entry_of c.agent)) (entry_of c.agent).uid) (length c.sent)) alone)

-- what happens at a server leaves the agent as the event does
happens_agent : (s : List ℕ) (c : Cluster) (e : Event) → (run (happens s c e) (seen_by s c)).agent ≡ (after (seen_by s c) e).agent
happens_agent s c (Changed now) = refl
happens_agent s c Sent = refl
happens_agent s c (Delivered place given) = by_test (option_map_or (is_behind c s) (slice_get c.sent place) false)
  where
    by_entry : (o : Option Entry) → c.agent ≡ (delivers (seen_by s c) place given o).agent
    by_entry None = refl
    by_entry (Some e) = refl

    by_test : (b : Bool) → (run (cond b (Delivered place given ∷ []) []) (seen_by s c)).agent ≡ (after (seen_by s c) (Delivered place given)).agent
    by_test true = refl
    by_test false = by_entry (slice_get c.sent place)
happens_agent s c (Answered r) = refl
happens_agent s c (Took message r) = refl
happens_agent s c (Erred error) = refl
happens_agent s c GaveUp = refl
happens_agent s c (Offered server uid offer) = refl
happens_agent s c (Ordered server uid) = refl
happens_agent s c (Withdrawn server uid) = refl
happens_agent s c (Forgotten server uid) = refl
happens_agent s c (ServerRestarted server) = refl
happens_agent s c (Restarted local asks_uid) = refl
happens_agent s c (Crashed during n) = refl

pub earned_at : {T : Type 0} (part : Part T) → ((start : Start) (events : List Event) (e : Event) → IsFormerOrEarned part (world start events) e)
    → (start : ClusterStart) (es : List ClusterEvent) (s : List ℕ) (e : Event) → IsFormerOrEarnedAt part (cluster start es) s e
earned_at part each start es s e =
    let c = cluster start es in
    subst (λ (a : AgentHalf). (part.value a.saved ≡ part.value c.agent.saved) ⊎ part.IsEarned (seen_by s c) e (part.value a.saved)) (sym (happens_agent s c e))
    (subst (λ w. IsFormerOrEarned part w e) (sym (seen start es s)) (each (start_for s start) (events_for s start es) e))

module _ {T : Type 0} (part : Part T) (each : (start : Start) (events : List Event) (e : Event) → IsFormerOrEarned part (world start events) e) where
  abbrev first_value : ClusterStart → T
  first_value start = part.value (first_saved start.uid start.settings)

  abbrev value_at : ClusterStart → List ClusterEvent → T
  value_at start es = part.value (cluster start es).agent.saved

  kept_since : (start : ClusterStart) (past : List ClusterEvent) (x : ClusterEvent) (value : T) → (value ≡ first_value start) ⊎ WasEarnedAt part start past value
      → (value ≡ first_value start) ⊎ WasEarnedAt part start (past ++ x ∷ []) value
  kept_since start past x value (inl same) = inl same
  kept_since start past x value (inr it) =
      inr (record {
        before = it.before;
        server = it.server;
        event = it.event;
        later = it.later ++ x ∷ [];
        joined = ap (λ es. es ++ x ∷ []) it.joined ∙ append_assoc it.before (At it.server it.event ∷ it.later) (x ∷ []);
        earned = it.earned;
      })

  one_since : (start : ClusterStart) (past : List ClusterEvent) (s : List ℕ) (e : Event) → IsFirstOrEarnedAt part start past → IsFirstOrEarnedAt part start (past ++ At s e ∷ [])
  one_since start past s e so =
      subst (λ (d : Cluster). (part.value d.agent.saved ≡ first_value start) ⊎ WasEarnedAt part start (past ++ At s e ∷ []) (part.value d.agent.saved))
      (sym (cluster-append start past (At s e ∷ [])))
      (elim (earned_at part each start past s e) [
        | inl same ↦ subst (λ value. (value ≡ first_value start) ⊎ WasEarnedAt part start (past ++ At s e ∷ []) value) (sym same) (kept_since start past (At s e) (value_at start past) so)
        | inr proof ↦ inr (record { before = past; server = s; event = e; later = []; joined = refl; earned = proof })
      ])

  all_since : (start : ClusterStart) (es past : List ClusterEvent) → IsFirstOrEarnedAt part start past → IsFirstOrEarnedAt part start (past ++ es)
  all_since start [] past so = subst (IsFirstOrEarnedAt part start) (sym (append-nil past)) so
  all_since start (At s e ∷ es) past so =
      subst (IsFirstOrEarnedAt part start) (append_assoc past (At s e ∷ []) es) (all_since start es (past ++ At s e ∷ []) (one_since start past s e so))

  pub first_or_earned_at : (start : ClusterStart) (es : List ClusterEvent) → IsFirstOrEarnedAt part start es
  first_or_earned_at start es = all_since start es [] (inl refl)

-- what happens at a server leaves what another one holds
others_keep : (s t uid : List ℕ) (es : List Event) (c : Cluster) → bytes_eq s t ≡ false → (run_at (all_at s es) c).held t uid ≡ c.held t uid
others_keep s t uid [] c apart = refl
others_keep s t uid (e ∷ es) c apart =
    others_keep s t uid es (after_at c (At s e)) apart
    ∙ ap (λ b. cond b ((run (happens s c e) (seen_by s c)).held s uid) (c.held t uid)) apart

-- and local changes leave what each one holds
changes_keep : (s t uid : List ℕ) (ls : List LocalState) (c : Cluster) → (run_at (all_at s (changes ls)) c).held t uid ≡ c.held t uid
changes_keep s t uid [] c = refl
changes_keep s t uid (l ∷ ls) c = changes_keep s t uid ls (after_at c (At s (Changed l))) ∙ by_server (bytes_eq s t) refl
  where
    by_server : (b : Bool) → bytes_eq s t ≡ b → cond b ((seen_by s c).held s uid) (c.held t uid) ≡ c.held t uid
    by_server true here = held_so s uid c ∙ ap (λ x. c.held x uid) (bytes_same s t here)
    by_server false apart = refl

module _ (start : ClusterStart) (es : List ClusterEvent) (s t : List ℕ) (turn : Turn) (apart : bytes_eq s t ≡ false) (tells : TellsChanges start es s t turn) where
  abbrev c : Cluster
  c = cluster start es

  abbrev m : Cluster
  m = cluster start (first_of start es s turn)

  first_keeps : (uid : List ℕ) → m.held t uid ≡ c.held t uid
  first_keeps uid =
      ap (λ (d : Cluster). d.held t uid) (cluster-append start (and_exchange start es s turn.first) (all_at s (changes turn.between)))
      ∙ changes_keep s t uid turn.between (cluster start (and_exchange start es s turn.first))
      ∙ ap (λ (d : Cluster). d.held t uid) (cluster-append start es (exchange_with s c turn.first))
      ∙ others_keep s t uid (exchange (length c.sent) turn.first) c apart

  one_more : length m.sent ≡ length c.sent + 1
  one_more =
      ap (λ (v : World). length v.sent) (middle_seen start es s turn.first turn.between tells.reaches_first)
      ∙ ap length (middle_sent (seen_by s c) turn.first turn.between tells.reaches_first.may)
      ∙ omega (arith, length-append c.sent (entry_of c.agent ∷ []))

  not_before : (uid : List ℕ) (o : Option Holding) → (seen_by t c).held t uid ≡ o → is_just_before o (length m.sent) ≡ false
  not_before uid None is = refl
  not_before uid (Some h) is =
      let x = ((cluster_sound start es t).0.held t uid h is).held in
      ne_eqb (h.place + 1) (length m.sent) (λ same. omega (arith, same, one_more, slice_get_within c.sent h.place x.0 x.1))

  abbrev next : Entry
  next = entry_of m.agent

  doesnt_stand : stands (seen_by t m) (length m.sent) next ≡ false
  doesnt_stand =
      ap (λ x. is_none next.basis || is_just_before ((seen_by t m).held x next.uid) (length m.sent)) (server_is t m next (there_still start (first_of start es s turn) t next.server tells.reaches_second.stands_there))
      ∙ ap (λ o. is_none next.basis || is_just_before o (length m.sent)) (held_so t next.uid m ∙ first_keeps next.uid ∙ sym (held_so t next.uid c))
      ∙ ap (λ b. is_none next.basis || b) (not_before next.uid ((seen_by t c).held t next.uid) refl)
      ∙ by_basis next.basis tells.changes_alone
    where
      by_basis : (b : Option State) → is_some b ≡ true → (is_none b || false) ≡ false
      by_basis None is = absurd (false≢true is)
      by_basis (Some before) is = refl

  refused : let last = run (exchange (length m.sent) turn.second) (seen_by t m) in (option_map asks_full (last.replies (length m.sent)) ≡ Some true) × (last.held ≡ (seen_by t m).held)
  refused = exchange_refuses (seen_by t m) turn.second tells.reaches_second.may doesnt_stand

  both_seen : seen_by t (cluster start (both_of start es s t turn)) ≡ run (exchange (length m.sent) turn.second) (seen_by t m)
  both_seen = once_seen start (first_of start es s turn) t turn.second tells.reaches_second

  turn_asked : option_map asks_full ((cluster start (both_of start es s t turn)).replies t (length m.sent)) ≡ Some true
  turn_asked = ap (λ (v : World). option_map asks_full (v.replies (length m.sent))) both_seen ∙ refused.0

  turn_keeps : (uid : List ℕ) → (cluster start (both_of start es s t turn ++ all_at t (changes turn.behind))).held t uid ≡ c.held t uid
  turn_keeps uid =
      let both = both_of start es s t turn in
      ap (λ (d : Cluster). d.held t uid) (cluster-append start both (all_at t (changes turn.behind)))
      ∙ changes_keep t t uid turn.behind (cluster start both)
      ∙ sym (held_so t uid (cluster start both))
      ∙ ap (λ (v : World). v.held t uid) both_seen
      ∙ ap (λ (f : List ℕ → List ℕ → Option Holding). f t uid) refused.1
      ∙ held_so t uid m
      ∙ first_keeps uid

names_apart : (s t : List ℕ) → s ≢ t → bytes_eq s t ≡ false
names_apart s t apart = false_from_ne_true (bytes_eq s t) (λ same. apart (bytes_same s t same))

pub asked_in_turn : (start : ClusterStart) (es : List ClusterEvent) (s t : List ℕ) (turn : Turn) → s ≢ t → TellsChanges start es s t turn
    → option_map asks_full ((cluster start (both_of start es s t turn)).replies t (length (cluster start (first_of start es s turn)).sent)) ≡ Some true
asked_in_turn start es s t turn apart tells = turn_asked start es s t turn (names_apart s t apart) tells

pub left_behind : (start : ClusterStart) (es : List ClusterEvent) (s t uid : List ℕ) (turns : List Turn) → s ≢ t → AllTellChanges start es s t turns
    → (cluster start (in_turn start es s t turns)).held t uid ≡ (cluster start es).held t uid
left_behind start es s t uid [] apart tells = refl
left_behind start es s t uid (turn ∷ turns) apart tells =
    left_behind start (both_of start es s t turn ++ all_at t (changes turn.behind)) s t uid turns apart tells.1
    ∙ turn_keeps start es s t turn (names_apart s t apart) tells.0 uid

-- a delivery to the server leaves its room
delivered_room : (start : Start) (events : List Event) (place : ℕ) (given : Given) (server : List ℕ) → IsNeverFull start events server → IsNeverFull start (events ++ Delivered place given ∷ []) server
delivered_room start events place given server room =
    subst (λ (v : World). length (ascending_uids (uids_sent server v)) ≤ 16384) (sym (run-append events (Delivered place given ∷ []) (opening start))) (by_entry (slice_get w.sent place))
  where
    w : World
    w = world start events

    by_entry : (o : Option Entry) → length (ascending_uids (uids_sent server (delivers w place given o))) ≤ 16384
    by_entry None = room
    by_entry (Some e) = room

pub due_at : ((start : Start) (events : List Event) (place : ℕ) (given : Given) (e : Entry) → slice_get (world start events).sent place ≡ Some e
    → IsNeverFull start (events ++ Delivered place given ∷ []) (start.server_of e.server)
    → (after (world start events) (Delivered place given)).replies place
    ≡ Some (carrying given.message (due_reply (start.profiles (start.server_of e.server)) (arrivals start events (start.server_of e.server)) (message_of e) given.fresh)))
    → (start : ClusterStart) (es : List ClusterEvent) (s : List ℕ) (place : ℕ) (given : Given) (e : Entry)
    → slice_get (cluster start es).sent place ≡ Some e → start.behind e.server s ≡ true → HasRoomAt start es s
    → (after_at (cluster start es) (At s (Delivered place given))).replies s place
    ≡ Some (carrying given.message (due_reply (start.profiles s) (reaches start es s) (message_of e) given.fresh))
due_at due start es s place given e at there room =
    ap (λ (v : World). v.replies place) (delivered_there s c place given e at (there_still start es s e.server there))
    ∙ ap (λ (v : World). (after v (Delivered place given)).replies place) (seen start es s)
    ∙ due first events place given e (ap (λ (v : World). slice_get v.sent place) (sym (seen start es s)) ∙ at)
    (subst (IsNeverFull first (events ++ Delivered place given ∷ [])) (sym own) (delivered_room first events place given s (room_there start es s room)))
    ∙ ap (λ x. Some (carrying given.message (due_reply (start.profiles x) (arrivals first events x) (message_of e) given.fresh))) own
    ∙ ap (λ h. Some (carrying given.message (due_reply (start.profiles s) h (message_of e) given.fresh))) (sym (reached_so start es s))
  where
    c : Cluster
    c = cluster start es

    first : Start
    first = start_for s start

    events : List Event
    events = events_for s start es

    own : first.server_of e.server ≡ s
    own = ap (λ b. cond b s (another s)) there
