-- Also with several servers an agent comes to use at most two identifiers.
use Rattle.std.proofs.Common.{◌≡◌, ℕ, ◌≤◌, List, [], ◌∷◌, ◌++◌, length, Bool, true, false, cond, Option, None, Some, slice_get, sym, subst, arith}
use Rattle.std.specs.Option.{option_map_or}
use Rattle.std.specs.Str.{bytes_eq}
use Rattle.message_values.specs.declared.reply.ServerErrorResponse.{ServerErrorResponse}
use Rattle.message_values.specs.declared.reply.ServerToAgent.{ServerToAgent}
use Rattle.agent_rules.specs.declared.rules.parts.LocalState.{LocalState}
use Rattle.agent_rules.specs.Reports.{Entry}
use Rattle.agent_rules.specs.Half.{entry_of}
use Rattle.agent_rules.specs.Calls.{may_report}
use Rattle.server_core.specs.Offers.{fits_offer}
use Rattle.server_core.specs.History.{ascending_uids}
use Rattle.world_model.specs.World.{World, Holding, Event, Changed, Sent, Delivered, Answered, Took, Erred, GaveUp, Offered, Ordered, Withdrawn, Forgotten, ServerRestarted, Restarted, Crashed, delivers, with_offer, with_restart, with_nothing, changes_held, sends, after, run}
use Rattle.world_model.specs.Servers.{uids_sent, NamesNobody, NameNobody}
use Rattle.world_model.specs.Exchanges.{Meanwhile, changes, exchange, exchange_or_error}
use Rattle.world_model.specs.Proofs.{reply_in}
use Rattle.world_model.specs.Clusters.{Cluster, ClusterEvent, At, seen_by, is_behind, happens, after_at, run_at, ClusterStart, first_cluster, cluster, HasRoomAt, NameNobodyAt, all_at, exchange_with, and_error, start_for}
use Rattle.world_model.proofs.Places.{slice_get-push_old}
use Rattle.world_model.proofs.Below.{KeepsOrder}
use Rattle.world_model.proofs.Rooms.{few_among}
use Rattle.world_model.proofs.Named.{IsNamed, IsUnasked, pick, named_after, opening_named, two_sent}
use Rattle.world_model.proofs.Nobody.{nobody-changes, nobody-exchange}
use Rattle.world_model.proofs.SeenBy.{first_seen}
use Rattle.world_model.proofs.Several.{uids_so}

-- each server's world has the two identifiers alone
abbrev AllNamed : List ℕ → List ℕ → Cluster → Type 0
AllNamed first second c = (s : List ℕ) → IsNamed first second (seen_by s c)

abbrev second_after : Cluster → List ℕ → Event → List ℕ → List ℕ
second_after c t e second = pick c.agent.saved.uid_given (reply_in (seen_by t c) e) second

-- what happens at a server names as the event does
happens_named : (first second t : List ℕ) (c : Cluster) (e : Event) → NamesNobody e → IsNamed first second (seen_by t c) → IsNamed first (second_after c t e second) (run (happens t c e) (seen_by t c))
happens_named first second t c (Changed now) nobody s = named_after first second (seen_by t c) s (Changed now) nobody
happens_named first second t c Sent nobody s = named_after first second (seen_by t c) s Sent nobody
happens_named first second t c (Delivered place given) nobody s = by_test (option_map_or (is_behind c t) (slice_get c.sent place) false)
  where
    by_test : (b : Bool) → IsNamed first second (run (cond b (Delivered place given ∷ []) []) (seen_by t c))
    by_test true = named_after first second (seen_by t c) s (Delivered place given) nobody
    by_test false = s
happens_named first second t c (Answered r) nobody s = named_after first second (seen_by t c) s (Answered r) nobody
happens_named first second t c (Took message r) nobody s = named_after first second (seen_by t c) s (Took message r) nobody
happens_named first second t c (Erred error) nobody s = named_after first second (seen_by t c) s (Erred error) nobody
happens_named first second t c GaveUp nobody s = named_after first second (seen_by t c) s GaveUp nobody
happens_named first second t c (Offered server uid offer) nobody s = named_after first second (seen_by t c) s (Offered server uid offer) nobody
happens_named first second t c (Ordered server uid) nobody s = named_after first second (seen_by t c) s (Ordered server uid) nobody
happens_named first second t c (Withdrawn server uid) nobody s = named_after first second (seen_by t c) s (Withdrawn server uid) nobody
happens_named first second t c (Forgotten server uid) nobody s = named_after first second (seen_by t c) s (Forgotten server uid) nobody
happens_named first second t c (ServerRestarted server) nobody s = named_after first second (seen_by t c) s (ServerRestarted server) nobody
happens_named first second t c (Restarted local asks_uid) nobody s = named_after first second (seen_by t c) s (Restarted local asks_uid) nobody
happens_named first second t c (Crashed during n) nobody s = named_after first second (seen_by t c) s (Crashed during n) nobody

-- what was sent stays sent
after_sent : (w : World) (e : Event) (k : ℕ) (x : Entry) → slice_get w.sent k ≡ Some x → slice_get (after w e).sent k ≡ Some x
after_sent w (Changed now) k x at = at
after_sent w Sent k x at = by_test (may_report w.agent)
  where
    by_test : (t : Bool) → slice_get (cond t (sends w) w).sent k ≡ Some x
    by_test true = slice_get-push_old w.sent (entry_of w.agent) k x at
    by_test false = at
after_sent w (Delivered place given) k x at = by_entry (slice_get w.sent place)
  where
    by_entry : (o : Option Entry) → slice_get (delivers w place given o).sent k ≡ Some x
    by_entry None = at
    by_entry (Some e) = at
after_sent w (Answered r) k x at = at
after_sent w (Took message r) k x at = at
after_sent w (Erred error) k x at = at
after_sent w GaveUp k x at = at
after_sent w (Offered server uid offer) k x at = by_fits (fits_offer offer) (w.held server uid)
  where
    by_fits : (t : Bool) (o : Option Holding) → slice_get (cond t (changes_held (with_offer offer) w server uid o) w).sent k ≡ Some x
    by_fits true None = at
    by_fits true (Some h) = at
    by_fits false o = at
after_sent w (Ordered server uid) k x at = by_held (w.held server uid)
  where
    by_held : (o : Option Holding) → slice_get (changes_held with_restart w server uid o).sent k ≡ Some x
    by_held None = at
    by_held (Some h) = at
after_sent w (Withdrawn server uid) k x at = by_held (w.held server uid)
  where
    by_held : (o : Option Holding) → slice_get (changes_held with_nothing w server uid o).sent k ≡ Some x
    by_held None = at
    by_held (Some h) = at
after_sent w (Forgotten server uid) k x at = at
after_sent w (ServerRestarted server) k x at = at
after_sent w (Restarted local asks_uid) k x at = at
after_sent w (Crashed during n) k x at = at

run_sent : (es : List Event) (w : World) (k : ℕ) (x : Entry) → slice_get w.sent k ≡ Some x → slice_get (run es w).sent k ≡ Some x
run_sent [] w k x at = at
run_sent (e ∷ es) w k x at = run_sent es (after w e) k x (after_sent w e k x at)

step_named : (first second : List ℕ) (c : Cluster) (t : List ℕ) (e : Event) → NamesNobody e → AllNamed first second c → AllNamed first (second_after c t e second) (after_at c (At t e))
step_named first second c t e nobody all s = record { saved = there.saved; entries = there.entries; early = there.early; asked = there.asked; replies = λ k r. by_server k r (bytes_eq t s) }
  where
    w : World
    w = run (happens t c e) (seen_by t c)

    there : IsNamed first (second_after c t e second) w
    there = happens_named first second t c e nobody (all t)

    by_server : (k : ℕ) (r : ServerToAgent) (b : Bool) → cond b w.replies (c.replies s) k ≡ Some r → IsUnasked w.sent k r
    by_server k r true is = there.replies k r is
    by_server k r false is = let x = (all s).replies k r is in (x.0, (run_sent (happens t c e) (seen_by t c) k x.0 x.1.0, x.1.1))

run_named_at : (first : List ℕ) (es : List ClusterEvent) (second : List ℕ) (c : Cluster) → NameNobodyAt es → AllNamed first second c → (last : List ℕ) × AllNamed first last (run_at es c)
run_named_at first [] second c nobody all = (second, all)
run_named_at first (At t e ∷ es) second c nobody all =
    run_named_at first es (second_after c t e second) (after_at c (At t e)) nobody.1 (step_named first second c t e nobody.0 all)

-- so one agent fills no server
pub one_has_room_at : KeepsOrder → (start : ClusterStart) (es : List ClusterEvent) (s : List ℕ) → NameNobodyAt es → HasRoomAt start es s
one_has_room_at order start es s nobody =
    let c = cluster start es in
    let named = run_named_at start.uid es start.uid (first_cluster start) nobody (λ t. subst (IsNamed start.uid start.uid) (sym (first_seen t start)) (opening_named (start_for t start))) in
    subst (λ us. length (ascending_uids us) ≤ 16384) (uids_so s c)
    (omega (arith, few_among order (uids_sent s (seen_by s c)) (start.uid ∷ named.0 ∷ []) (two_sent (seen_by s c).server_of start.uid named.0 s c.sent (named.1 s).entries)))

pub nobody_at-append : (es fs : List ClusterEvent) → NameNobodyAt es → NameNobodyAt fs → NameNobodyAt (es ++ fs)
nobody_at-append [] fs p q = q
nobody_at-append (e ∷ es) fs p q = (p.0, nobody_at-append es fs p.1 q)

nobody_at : (s : List ℕ) (es : List Event) → NameNobody es → NameNobodyAt (all_at s es)
nobody_at s [] p = tt
nobody_at s (e ∷ es) p = (p.0, nobody_at s es p.1)

pub nobody_at-exchange : (es : List ClusterEvent) (s : List ℕ) (c : Cluster) (m : Meanwhile) → NameNobodyAt es → NameNobodyAt (es ++ exchange_with s c m)
nobody_at-exchange es s c m p = nobody_at-append es (exchange_with s c m) p (nobody_at s (exchange (length c.sent) m) (nobody-exchange (length c.sent) m None))

pub nobody_at-error : (start : ClusterStart) (es : List ClusterEvent) (s : List ℕ) (m : Meanwhile) (error : ServerErrorResponse) → NameNobodyAt es → NameNobodyAt (and_error start es s m error)
nobody_at-error start es s m error p =
    let place = length (cluster start es).sent in
    nobody_at-append es (all_at s (exchange_or_error place m (Some error))) p (nobody_at s (exchange_or_error place m (Some error)) (nobody-exchange place m (Some error)))

pub nobody_at-changes : (es : List ClusterEvent) (s : List ℕ) (ls : List LocalState) → NameNobodyAt es → NameNobodyAt (es ++ all_at s (changes ls))
nobody_at-changes es s ls p = nobody_at-append es (all_at s (changes ls)) p (nobody_at s (changes ls) (nobody-changes ls))
