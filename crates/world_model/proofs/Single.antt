-- A world is the case of several servers in which one stands behind each endpoint.
use Rattle.std.proofs.Common.{◌≡◌, ℕ, ◌-◌, List, [], ◌∷◌, length, Bool, true, false, cond, ◌&&◌, ◌||◌, eqb, Option, None, Some, slice_get, refl, sym, ◌∙◌, ap, subst}
use Rattle.std.specs.Prelude.{is_none}
use Rattle.std.specs.Option.{option_map, option_map_or}
use Rattle.std.specs.Str.{bytes_eq}
use Rattle.std.proofs.lemmas.Bool.{eqb-true}
use Rattle.message_values.specs.declared.reply.ServerToAgent.{ServerToAgent}
use Rattle.agent_rules.specs.Reports.{Entry, message_of}
use Rattle.agent_rules.specs.Half.{AgentHalf, entry_of}
use Rattle.agent_rules.specs.Calls.{may_report}
use Rattle.agent_rules.specs.Events.{Hears}
use Rattle.server_core.specs.Offers.{fits_offer}
use Rattle.server_core.specs.Replies.{Passed, Taken, reply_to}
use Rattle.world_model.specs.World.{World, Holding, Event, Changed, Sent, Delivered, Answered, Took, Erred, GaveUp, Offered, Ordered, Withdrawn, Forgotten, ServerRestarted, Restarted, Crashed, Given, Start, last_sent, server_to, is_just_before, stands, dues_with, holding_with, carrying, reply_at, put_at, put_reply, delivers, with_offer, with_restart, with_nothing, changes_held, emptied, crash_of, seen_of, agent_follows, sends, after, run, opening, world}
use Rattle.world_model.specs.Clusters.{Cluster, At, another, seen_by, with_world, after_at, run_at, cluster, first_cluster, with_one_each, server_for, server_in, placed, IsWorld}
use Rattle.world_model.proofs.Places.{none≢some, slice_get-push_old, bytes_same, bytes_self}
use Rattle.world_model.proofs.SeenBy.{IsAddressed, AllSound, addressed_after, sound_step, first_sound}
use Rattle.world_model.proofs.Several.{held_so, happens_there}

abbrev Replies : Type 0
Replies = List ℕ → ℕ → Option ServerToAgent

-- the world, with the replies of each server
abbrev case_of : World → Replies → Cluster
case_of w r = record {
  agent = w.agent;
  sent = w.sent;
  behind = λ endpoint s. bytes_eq (w.server_of endpoint) s;
  profiles = w.profiles;
  held = w.held;
  replies = r;
}

-- an entry's reply is that of the server to which it was sent
abbrev Agrees : World → Replies → Type 0
Agrees w r = (k : ℕ) → r (server_for w (slice_get w.sent k)) k ≡ w.replies k

-- each reply is to an entry
abbrev AllThere : World → Replies → Type 0
AllThere w r = (s : List ℕ) (k : ℕ) (reply : ServerToAgent) → r s k ≡ Some reply → (e : Entry) × (slice_get w.sent k ≡ Some e)

record IsCase (d : Cluster) (u : World) : Type 0 where
  is : d ≡ case_of u d.replies
  agrees : Agrees u d.replies

module _ (w : World) (r : Replies) (agrees : Agrees w r) where
  abbrev c : Cluster
  c = case_of w r

  abbrev v : List ℕ → World
  v s = seen_by s c

  stays_at : (s t : List ℕ) (k : ℕ) → cond (bytes_eq s t) (r s) (r t) k ≡ r t k
  stays_at s t k = by_server (bytes_eq s t) refl
    where
      by_server : (b : Bool) → bytes_eq s t ≡ b → cond b (r s) (r t) k ≡ r t k
      by_server true here = ap (λ x. r x k) (bytes_same s t here)
      by_server false apart = refl

  -- the agent goes on, and what the server holds changes
  next : (s : List ℕ) (a b : AgentHalf) → a ≡ b → (f g : List ℕ → List ℕ → Option Holding) → ((uid : List ℕ) → f s uid ≡ g s uid)
      → ((t uid : List ℕ) → bytes_eq s t ≡ false → w.held t uid ≡ g t uid)
      → IsCase (with_world s c (record (v s) { agent = a; held = f })) (record w { agent = b; held = g })
  next s a b same f g own other = record {
    is = λ i. record {
      agent = same i;
      sent = w.sent;
      behind = λ endpoint x. bytes_eq (w.server_of endpoint) x;
      profiles = w.profiles;
      held = λ t uid. by_server t uid (bytes_eq s t) refl i;
      replies = λ t. cond (bytes_eq s t) (r s) (r t);
    };
    agrees = λ k. stays_at s (server_for w (slice_get w.sent k)) k ∙ agrees k;
  }
    where
      by_server : (t uid : List ℕ) (b : Bool) → bytes_eq s t ≡ b → cond b (f s uid) (w.held t uid) ≡ g t uid
      by_server t uid true here = own uid ∙ ap (λ x. g x uid) (bytes_same s t here)
      by_server t uid false apart = other t uid apart

  goes : (s : List ℕ) (a b : AgentHalf) → a ≡ b → IsCase (with_world s c (record (v s) { agent = a })) (record w { agent = b })
  goes s a b same = next s a b same (v s).held w.held (λ uid. held_so s uid c) (λ t uid apart. refl)

  seen_same : (s : List ℕ) → r s (length w.sent - 1) ≡ w.replies (length w.sent - 1) → (e : Event) → seen_of (v s) e ≡ seen_of w e
  seen_same s due (Changed now) = refl
  seen_same s due Sent = refl
  seen_same s due (Delivered place given) = refl
  seen_same s due (Answered x) = ap (option_map (λ reply. Hears reply x)) due
  seen_same s due (Took message x) = refl
  seen_same s due (Erred error) = refl
  seen_same s due GaveUp = refl
  seen_same s due (Offered server uid offer) = refl
  seen_same s due (Ordered server uid) = refl
  seen_same s due (Withdrawn server uid) = refl
  seen_same s due (Forgotten server uid) = refl
  seen_same s due (ServerRestarted server) = refl
  seen_same s due (Restarted local asks_uid) = refl
  seen_same s due (Crashed during n) = ap (λ o. Some (crash_of w.agent o n)) (seen_same s due during)

  -- where the agent alone goes on
  goes_by : (e : Event) → let s = server_for w (last_sent w.sent) in
      IsCase (with_world s c (record (v s) { agent = agent_follows w.agent (seen_of (v s) e) })) (record w { agent = agent_follows w.agent (seen_of w e) })
  goes_by e = let s = server_for w (last_sent w.sent) in goes s _ _ (ap (agent_follows w.agent) (seen_same s (agrees (length w.sent - 1)) e))

  changed_next : (change : Holding → Holding) (s uid : List ℕ) (o : Option Holding) → IsCase (with_world s c (changes_held change (v s) s uid o)) (changes_held change w s uid o)
  changed_next change s uid None = goes s w.agent w.agent refl
  changed_next change s uid (Some h) =
      next s w.agent w.agent refl (put_at (v s).held s uid (change h)) (put_at w.held s uid (change h))
      (λ u. ap (cond (bytes_eq s s && bytes_eq uid u) (Some (change h))) (held_so s u c))
      (λ t u apart. sym (ap (λ b. cond (b && bytes_eq uid u) (Some (change h)) (w.held t u)) apart))

  module _ (place : ℕ) (given : Given) (x : Entry) (at : slice_get w.sent place ≡ Some x) where
    abbrev s : List ℕ
    s = server_to w x

    there : server_to (v s) x ≡ s
    there = ap (λ b. cond b s (another s)) (bytes_self s)

    found : (v s).held (server_to (v s) x) x.uid ≡ w.held s x.uid
    found = ap (λ y. (v s).held y x.uid) there ∙ held_so s x.uid c

    stood : stands (v s) place x ≡ stands w place x
    stood = ap (λ h. is_none x.basis || is_just_before h place) found

    reply_same : reply_at (v s) place x given ≡ reply_at w place x given
    reply_same = λ i. carrying given.message (reply_to (w.profiles (there i)) (message_of x) given.fresh (cond (stood i) (Taken (dues_with w.sent (found i) place x)) Passed))

    abbrev held_there : List ℕ → List ℕ → Option Holding
    held_there = cond (stands (v s) place x) (put_at (v s).held (server_to (v s) x) x.uid (holding_with ((v s).held (server_to (v s) x) x.uid) place x)) (v s).held

    abbrev held_now : List ℕ → List ℕ → Option Holding
    held_now = cond (stands w place x) (put_at w.held s x.uid (holding_with (w.held s x.uid) place x)) w.held

    own : (uid : List ℕ) → held_there s uid ≡ held_now s uid
    own uid =
        (λ i. cond (stood i) (put_at (v s).held (there i) x.uid (holding_with (found i) place x)) (v s).held s uid)
        ∙ by_stands (stands w place x)
      where
        by_stands : (b : Bool) → cond b (put_at (v s).held s x.uid (holding_with (w.held s x.uid) place x)) (v s).held s uid
            ≡ cond b (put_at w.held s x.uid (holding_with (w.held s x.uid) place x)) w.held s uid
        by_stands true = ap (cond (bytes_eq s s && bytes_eq x.uid uid) (Some (holding_with (w.held s x.uid) place x))) (held_so s uid c)
        by_stands false = held_so s uid c

    other : (t uid : List ℕ) → bytes_eq s t ≡ false → w.held t uid ≡ held_now t uid
    other t uid apart = by_stands (stands w place x)
      where
        by_stands : (b : Bool) → w.held t uid ≡ cond b (put_at w.held s x.uid (holding_with (w.held s x.uid) place x)) w.held t uid
        by_stands true = sym (ap (λ b. cond (b && bytes_eq x.uid uid) (Some (holding_with (w.held s x.uid) place x)) (w.held t uid)) apart)
        by_stands false = refl

    abbrev replied : Replies
    replied t = cond (bytes_eq s t) (put_reply (r s) place (reply_at (v s) place x given)) (r t)

    replied_so : (k : ℕ) → replied (server_for w (slice_get w.sent k)) k ≡ put_reply w.replies place (reply_at w place x given) k
    replied_so k = by_place (eqb k place) refl
      where
        t : List ℕ
        t = server_for w (slice_get w.sent k)

        by_place : (b : Bool) → eqb k place ≡ b
            → cond (bytes_eq s (server_for w (slice_get w.sent k))) (λ j. cond (eqb j place) (Some (reply_at (v s) place x given)) (r s j)) (r (server_for w (slice_get w.sent k))) k
            ≡ cond b (Some (reply_at w place x given)) (w.replies k)
        by_place true here =
            ap (λ y. cond (bytes_eq s y) (put_reply (r s) place (reply_at (v s) place x given)) (r y) k) (ap (server_for w) (ap (slice_get w.sent) (eqb-true k place here) ∙ at))
            ∙ ap (λ b. cond b (put_reply (r s) place (reply_at (v s) place x given)) (r s) k) (bytes_self s)
            ∙ ap (λ b. cond b (Some (reply_at (v s) place x given)) (r s k)) here
            ∙ ap (λ y. Some y) reply_same
        by_place false other =
            by_server (server_for w (slice_get w.sent k)) (bytes_eq s (server_for w (slice_get w.sent k))) refl ∙ agrees k
          where
            by_server : (y : List ℕ) (b : Bool) → bytes_eq s y ≡ b → cond b (put_reply (r s) place (reply_at (v s) place x given)) (r y) k ≡ r y k
            by_server y true here = ap (λ b. cond b (Some (reply_at (v s) place x given)) (r s k)) other ∙ ap (λ z. r z k) (bytes_same s y here)
            by_server y false apart = refl

    delivered_next : IsCase (with_world s c (delivers (v s) place given (Some x))) (delivers w place given (Some x))
    delivered_next = record {
      is = λ i. record {
        agent = w.agent;
        sent = w.sent;
        behind = λ endpoint y. bytes_eq (w.server_of endpoint) y;
        profiles = w.profiles;
        held = λ t uid. by_server t uid (bytes_eq s t) refl i;
        replies = replied;
      };
      agrees = replied_so;
    }
      where
        by_server : (t uid : List ℕ) (b : Bool) → bytes_eq s t ≡ b → cond b (held_there s uid) (w.held t uid) ≡ held_now t uid
        by_server t uid true here = own uid ∙ ap (λ y. held_now y uid) (bytes_same s t here)
        by_server t uid false apart = other t uid apart

    delivered_case : IsCase (after_at c (At s (Delivered place given))) (after w (Delivered place given))
    delivered_case =
        subst (λ o. IsCase (after_at c (At s (Delivered place given))) (delivers w place given o)) (sym at)
        (subst (λ es. IsCase (with_world s c (run es (v s))) (delivers w place given (Some x))) (sym (happens_there s c place given x at (bytes_self s)))
        (subst (λ o. IsCase (with_world s c (delivers (v s) place given o)) (delivers w place given (Some x))) (sym at) delivered_next))

  module _ (all : AllThere w r) (addressed : IsAddressed w) where
    none_there : (k : ℕ) → slice_get w.sent k ≡ None → (t : List ℕ) → r t k ≡ w.replies k
    none_there k at t = by_reply (r t k) refl ∙ sym (by_own (w.replies k) refl)
      where
        by_reply : (o : Option ServerToAgent) → r t k ≡ o → o ≡ None
        by_reply None is = refl
        by_reply (Some reply) is = absurd (none≢some (sym at ∙ (all t k reply is).1))

        by_own : (o : Option ServerToAgent) → w.replies k ≡ o → o ≡ None
        by_own None is = refl
        by_own (Some reply) is = absurd (none≢some (sym at ∙ (addressed k reply is).1.0))

    sent_case : (s : List ℕ) → IsCase (with_world s c (sends (v s))) (sends w)
    sent_case s = record {
      is = λ i. record {
        agent = (sends w).agent;
        sent = (sends w).sent;
        behind = λ endpoint y. bytes_eq (w.server_of endpoint) y;
        profiles = w.profiles;
        held = λ t uid. by_server t uid (bytes_eq s t) refl i;
        replies = λ t. cond (bytes_eq s t) (r s) (r t);
      };
      agrees = λ k. stays_at s (server_for w (slice_get (sends w).sent k)) k ∙ by_entry k (slice_get w.sent k) refl;
    }
      where
        by_server : (t uid : List ℕ) (b : Bool) → bytes_eq s t ≡ b → cond b ((v s).held s uid) (w.held t uid) ≡ w.held t uid
        by_server t uid true here = held_so s uid c ∙ ap (λ x. w.held x uid) (bytes_same s t here)
        by_server t uid false apart = refl

        by_entry : (k : ℕ) (o : Option Entry) → slice_get w.sent k ≡ o → r (server_for w (slice_get (sends w).sent k)) k ≡ w.replies k
        by_entry k None at = none_there k at (server_for w (slice_get (sends w).sent k))
        by_entry k (Some x) at = ap (λ o. r (server_for w o) k) (slice_get-push_old w.sent (entry_of w.agent) k x at ∙ sym at) ∙ agrees k

    case_step : (e : Event) → IsCase (after_at c (At (server_in w e) e)) (after w e)
    case_step (Changed now) = goes_by (Changed now)
    case_step Sent = by_test (may_report w.agent)
      where
        by_test : (t : Bool) → let s = server_for w (last_sent w.sent) in IsCase (with_world s c (cond t (sends (v s)) (v s))) (cond t (sends w) w)
        by_test true = sent_case (server_for w (last_sent w.sent))
        by_test false = goes (server_for w (last_sent w.sent)) w.agent w.agent refl
    case_step (Delivered place given) = by_entry (slice_get w.sent place) refl
      where
        nowhere : slice_get w.sent place ≡ None → IsCase (after_at c (At [] (Delivered place given))) (after w (Delivered place given))
        nowhere at =
            subst (λ o. IsCase (with_world [] c (run (cond (option_map_or (λ (e : Entry). bytes_eq (w.server_of e.server) []) o false) (Delivered place given ∷ []) []) (v []))) (delivers w place given o)) (sym at)
            (goes [] w.agent w.agent refl)

        by_entry : (o : Option Entry) → slice_get w.sent place ≡ o → IsCase (after_at c (At (server_for w o) (Delivered place given))) (after w (Delivered place given))
        by_entry None at = nowhere at
        by_entry (Some x) at = delivered_case place given x at
    case_step (Answered x) = goes_by (Answered x)
    case_step (Took message x) = goes_by (Took message x)
    case_step (Erred error) = goes_by (Erred error)
    case_step GaveUp = goes_by GaveUp
    case_step (Offered s uid offer) = by_fits (fits_offer offer)
      where
        by_fits : (t : Bool) → IsCase (with_world s c (cond t (changes_held (with_offer offer) (v s) s uid ((v s).held s uid)) (v s))) (cond t (changes_held (with_offer offer) w s uid (w.held s uid)) w)
        by_fits true = subst (λ o. IsCase (with_world s c (changes_held (with_offer offer) (v s) s uid o)) (changes_held (with_offer offer) w s uid (w.held s uid))) (sym (held_so s uid c)) (changed_next (with_offer offer) s uid (w.held s uid))
        by_fits false = goes s w.agent w.agent refl
    case_step (Ordered s uid) =
        subst (λ o. IsCase (with_world s c (changes_held with_restart (v s) s uid o)) (changes_held with_restart w s uid (w.held s uid))) (sym (held_so s uid c)) (changed_next with_restart s uid (w.held s uid))
    case_step (Withdrawn s uid) =
        subst (λ o. IsCase (with_world s c (changes_held with_nothing (v s) s uid o)) (changes_held with_nothing w s uid (w.held s uid))) (sym (held_so s uid c)) (changed_next with_nothing s uid (w.held s uid))
    case_step (Forgotten s uid) =
        next s w.agent w.agent refl (emptied (v s).held s uid) (emptied w.held s uid)
        (λ u. ap (cond (bytes_eq s s && bytes_eq uid u) None) (held_so s u c))
        (λ t u apart. sym (ap (λ b. cond (b && bytes_eq uid u) None (w.held t u)) apart))
    case_step (ServerRestarted s) =
        next s w.agent w.agent refl (λ t u. cond (bytes_eq s t) None ((v s).held t u)) (λ t u. cond (bytes_eq s t) None (w.held t u))
        (λ uid. ap (cond (bytes_eq s s) None) (held_so s uid c))
        (λ t uid apart. sym (ap (λ b. cond b None (w.held t uid)) apart))
    case_step (Restarted local asks_uid) = goes_by (Restarted local asks_uid)
    case_step (Crashed during n) = goes_by (Crashed during n)

run_case : (es : List Event) (d : Cluster) (w : World) → IsCase d w → AllSound d → IsAddressed w → IsCase (run_at (placed w es) d) (run es w)
run_case [] d w case sound addressed = case
run_case (e ∷ es) d w case sound addressed =
    run_case es (after_at d (At (server_in w e) e)) (after w e)
    (subst (λ x. IsCase (after_at x (At (server_in w e) e)) (after w e)) (sym case.is) (case_step w d.replies case.agrees all addressed e))
    (sound_step d (At (server_in w e) e) sound)
    (addressed_after w e addressed)
  where
    all : AllThere w d.replies
    all s k reply is = let x = (sound s).1 k reply is in (x.0, ap (λ (y : Cluster). slice_get y.sent k) (sym case.is) ∙ x.1.0)

pub one_each : (start : Start) (events : List Event) → IsWorld (cluster (with_one_each start) (placed (opening start) events)) (world start events)
one_each start events = record {
  agent = ap (λ (d : Cluster). d.agent) case.is;
  sent = ap (λ (d : Cluster). d.sent) case.is;
  held = ap (λ (d : Cluster). d.held) case.is;
  replies = case.agrees;
}
  where
    case : IsCase (cluster (with_one_each start) (placed (opening start) events)) (world start events)
    case = run_case events (first_cluster (with_one_each start)) (opening start) (record { is = refl; agrees = λ k. refl }) (first_sound (with_one_each start))
        (λ k reply is. absurd (none≢some is))
