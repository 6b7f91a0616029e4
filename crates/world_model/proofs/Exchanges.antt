-- What an undisturbed exchange leaves.
use Rattle.std.proofs.Common.{◌≡◌, ◌+◌, ◌-◌, List, [], ◌∷◌, ◌++◌, length, Bool, true, false, cond, not, ◌&&◌, ◌||◌, Option, None, Some, refl, sym, ◌∙◌, ap, subst, ◌⊎◌, inl, inr, arith, length-append}
use Rattle.std.specs.Prelude.{IsSome, is_none}
use Rattle.std.specs.Option.{option_map}
use Rattle.std.proofs.lemmas.Bool.{false≢true, eq-eqb, or_right}
use Rattle.message_values.specs.declared.reply.ServerErrorResponse.{ServerErrorResponse}
use Rattle.message_values.specs.declared.reply.ServerToAgent.{ServerToAgent}
use Rattle.agent_rules.specs.declared.saved.Saved.{Saved}
use Rattle.agent_rules.specs.declared.rules.parts.LocalState.{LocalState}
use Rattle.agent_rules.specs.declared.rules.replies.Heard.TheVariants.{Asked}
use Rattle.agent_rules.specs.Reports.{Entry}
use Rattle.agent_rules.specs.Half.{AgentHalf, state_now, due_details, entry_with, entry_of}
use Rattle.agent_rules.specs.Keeping.{Call, TakeReply, CommitTry, AbandonTry, heard_in, kept_of_reply, keeping, fits}
use Rattle.agent_rules.specs.Calls.{may_report, reported, told_by, told, calls_after}
use Rattle.agent_rules.specs.Offers.{Reactions, next_of, trial_calls, without_trial}
use Rattle.agent_rules.specs.Events.{Hears, following, reply_calls, agent_after}
use Rattle.server_core.specs.Replies.{error_alone}
use Rattle.world_model.specs.World.{World, Holding, Event, Sent, Delivered, Answered, Erred, Given, no_reactions, is_just_before, server_to, stands, holding_with, reply_at, put_at, put_reply, delivers, agent_follows, sends, run, entry_in, entry_held, asks_full}
use Rattle.world_model.specs.Exchanges.{Meanwhile, changes, exchange, middle_of, exchange_or_error, middle_or_error, two_or_error}
use Rattle.world_model.proofs.Places.{some_same, slice_get-push_new, length_push, last_push, put_at_here}
use Rattle.world_model.proofs.Kept.{IsOwnLast, IsSound, run_sound, entry_is, basis_none, AllSettle, settle-append, over_settling, settle_unlinked, following_settles}
use Rattle.world_model.proofs.Earned.{run-append}
use Rattle.world_model.proofs.Replies.{put_reply_here, reply_asks, asked_reply}

abbrev pub with_local : World → LocalState → World
with_local w l = record w { agent = record (w.agent) { local = l } }

-- local changes change the local state alone
run_changes : (ls : List LocalState) (es : List Event) (w : World) → (l : LocalState) × (run (changes ls ++ es) w ≡ run es (with_local w l))
run_changes [] es w = (w.agent.local, refl)
run_changes (x ∷ ls) es w = run_changes ls es (with_local w x)

pub only_changes : (ls : List LocalState) (w : World) → (l : LocalState) × (run (changes ls) w ≡ with_local w l)
only_changes [] w = (w.agent.local, refl)
only_changes (x ∷ ls) w = only_changes ls (with_local w x)

-- after the send and local changes, the delivery, more local changes, and the reply
abbrev delivered_on : World → Given → LocalState → World
delivered_on w given l = delivers (with_local (sends w) l) (length w.sent) given (Some (entry_of w.agent))

abbrev reply_on : World → Given → LocalState → ServerToAgent
reply_on w given l = reply_at (with_local (sends w) l) (length w.sent) (entry_of w.agent) given

abbrev answered_on : World → Reactions → Option ServerToAgent → World
answered_on w r o = record w { agent = agent_follows w.agent (option_map (λ reply. Hears reply r) o) }

abbrev exchanged : World → Meanwhile → LocalState → LocalState → World
exchanged w x l m = answered_on (with_local (delivered_on w x.given l) m) x.reactions (Some (reply_on w x.given l))

-- an exchange up to its end
reaches_end : (w : World) (x : Meanwhile) (end : List Event) → may_report w.agent ≡ true
    → (l m : LocalState) × (run (Sent ∷ changes x.before_delivery ++ (Delivered (length w.sent) x.given ∷ changes x.before_reply ++ end)) w ≡ run end (with_local (delivered_on w x.given l) m))
reaches_end w x end may = (
  first.0,
  second.0,
  ap (λ b. run (changes x.before_delivery ++ rest) (cond b (sends w) w)) may
      ∙ first.1
      ∙ ap (λ o. run (changes x.before_reply ++ end) (delivers (with_local (sends w) first.0) (length w.sent) x.given o)) (slice_get-push_new w.sent (entry_of w.agent))
      ∙ second.1,
)
  where
    rest : List Event
    rest = Delivered (length w.sent) x.given ∷ changes x.before_reply ++ end

    first : (l : LocalState) × (run (changes x.before_delivery ++ rest) (sends w) ≡ run rest (with_local (sends w) l))
    first = run_changes x.before_delivery rest (sends w)

    second : (m : LocalState) × (run (changes x.before_reply ++ end) (delivered_on w x.given first.0) ≡ run end (with_local (delivered_on w x.given first.0) m))
    second = run_changes x.before_reply end (delivered_on w x.given first.0)

exchange_gives : (w : World) (x : Meanwhile) → may_report w.agent ≡ true
    → (l m : LocalState) × (run (exchange (length w.sent) x) w ≡ exchanged w x l m)
exchange_gives w x may =
    let near = reaches_end w x (Answered x.reactions ∷ []) may in
    (near.0, near.1, near.2 ∙ ap (answered_on (with_local (delivered_on w x.given near.0) near.1) x.reactions) (due near.0))
  where
    due : (l : LocalState) → put_reply w.replies (length w.sent) (reply_on w x.given l) (length (w.sent ++ entry_of w.agent ∷ []) - 1) ≡ Some (reply_on w x.given l)
    due l =
        ap (put_reply w.replies (length w.sent) (reply_on w x.given l)) (length_push w.sent (entry_of w.agent))
        ∙ put_reply_here w.replies (length w.sent) (reply_on w x.given l)

trials_settle : (b : AgentHalf) → AllSettle (trial_calls b)
trials_settle b = by_test (is_none b.trial) (b.proved && fits b CommitTry)
  where
    by_test : (t u : Bool) → AllSettle (cond t [] (cond u (CommitTry ∷ []) (AbandonTry ∷ [])))
    by_test true u = tt
    by_test false true = (tt, tt)
    by_test false false = (tt, tt)

-- an agent that isn't linked, and isn't by what it hears, isn't afterwards
heard_unlinked : (a : AgentHalf) (reply : ServerToAgent) (r : Reactions) → a.linked ≡ false → (told reply a).linked ≡ false → (agent_after a (Hears reply r)).linked ≡ false
heard_unlinked a reply r unlinked taken = by_awaits a.awaits
  where
    rest : List Call
    rest = trial_calls (told reply a) ++ following (without_trial (told reply a)) (next_of reply a) r

    settled : (calls_after (told reply a) rest).linked ≡ false
    settled = over_settling (λ x. x.linked ≡ false) settle_unlinked rest (told reply a)
        (settle-append (trial_calls (told reply a)) _ (trials_settle (told reply a)) (following_settles (without_trial (told reply a)) (next_of reply a) r)) taken

    by_room : (t : Bool) → (cond t (calls_after (told reply a) rest) a).linked ≡ false
    by_room true = settled
    by_room false = unlinked

    by_awaits : (t : Bool) → (calls_after a (cond t (reply_calls a reply r) [])).linked ≡ false
    by_awaits true = by_room (fits a (TakeReply reply))
    by_awaits false = unlinked

-- so one that is asked for its full state
asked_unlinked : (a : AgentHalf) (reply : ServerToAgent) (r : Reactions) → a.linked ≡ false → heard_in reply ≡ Asked → (agent_after a (Hears reply r)).linked ≡ false
asked_unlinked a reply r unlinked asked = heard_unlinked a reply r unlinked (ap (λ h. (told_by h reply a).linked) asked ∙ by_kept (kept_of_reply a (heard_in reply) reply))
  where
    by_kept : (o : Option Saved) → (keeping o a).linked ≡ false
    by_kept None = unlinked
    by_kept (Some s) = unlinked

-- and one that hears an error
error_unlinked : (a : AgentHalf) (error : ServerErrorResponse) → a.linked ≡ false → (agent_after a (Hears (error_alone a.saved.uid error) no_reactions)).linked ≡ false
error_unlinked a error unlinked = heard_unlinked a (error_alone a.saved.uid error) no_reactions unlinked unlinked

-- an entry that isn't linked is alone
alone_unlinked : (a : AgentHalf) → a.linked ≡ false → (entry_of a).basis ≡ None
alone_unlinked a unlinked = ap (λ (e : Entry). e.basis) (entry_is a).1 ∙ basis_none a.linked a.last (state_now a) (due_details a) unlinked

-- and stands
pub stands_unlinked : (w : World) → w.agent.linked ≡ false → stands w (length w.sent) (entry_of w.agent) ≡ true
stands_unlinked w unlinked =
    ap (λ b. is_none b || is_just_before (w.held (server_to w (entry_of w.agent)) (entry_of w.agent).uid) (length w.sent)) (alone_unlinked w.agent unlinked)

-- an agent whose entry doesn't stand is asked, and so its next entry is alone
pub asked_next : (w : World) (x : Meanwhile) → may_report w.agent ≡ true → stands w (length w.sent) (entry_of w.agent) ≡ false → (run (exchange (length w.sent) x) w).agent.linked ≡ false
asked_next w x may so =
    let given = exchange_gives w x may in
    ap (λ v. v.agent.linked) given.2
    ∙ asked_unlinked (record (reported w.agent) { local = given.1 }) (reply_on w x.given given.0) x.reactions refl (asked_reply (with_local (sends w) given.0) (length w.sent) (entry_of w.agent) x.given so)

-- after an exchange the next entry stands
stands_next : (w : World) (x : Meanwhile) (l m n : LocalState) → IsSound (with_local (exchanged w x l m) n)
    → let middle = with_local (exchanged w x l m) n in stands middle (length middle.sent) (entry_of middle.agent) ≡ true
stands_next w x l m n sound = by_linked middle.agent.linked refl
  where
    middle : World
    middle = with_local (exchanged w x l m) n

    e : Entry
    e = entry_of w.agent

    next : Entry
    next = entry_of middle.agent

    stood : Bool
    stood = stands w (length w.sent) e

    now : Holding
    now = holding_with (w.held (server_to w e) e.uid) (length w.sent) e

    waiting : AgentHalf
    waiting = record (reported w.agent) { local = m }

    by_linked : (t : Bool) → middle.agent.linked ≡ t → stands middle (length middle.sent) next ≡ true
    by_linked false is = stands_unlinked middle is
    by_linked true is = by_stood stood refl
      where
        own : IsOwnLast middle.sent middle.agent
        own = sound.fit.linked is

        it : (message : _) × (entry_of middle.agent ≡ entry_with middle.agent message)
        it = entry_is middle.agent

        same : own.entry ≡ e
        same = some_same (sym own.is_last ∙ last_push w.sent e)

        server : server_to w next ≡ server_to w e
        server = ap w.server_of (ap (λ (y : Entry). y.server) it.1 ∙ sym own.server ∙ ap (λ (y : Entry). y.server) same)

        uid : next.uid ≡ e.uid
        uid = ap (λ (y : Entry). y.uid) it.1 ∙ sym own.uid ∙ ap (λ (y : Entry). y.uid) same

        by_stood : (t : Bool) → stood ≡ t → stands middle (length middle.sent) next ≡ true
        by_stood true so = or_right (is_none next.basis) _
            ((λ i. is_just_before ((cond (so i) (put_at w.held (server_to w e) e.uid now) w.held) (server i) (uid i)) (length middle.sent))
            ∙ ap (λ o. is_just_before o (length middle.sent)) (put_at_here w.held (server_to w e) e.uid now)
            ∙ eq-eqb (length w.sent + 1) (length middle.sent) (omega (arith, length-append w.sent (e ∷ []))))
        by_stood false so = absurd (false≢true (sym (asked_unlinked waiting (reply_on w x.given l) x.reactions refl
            (asked_reply (with_local (sends w) l) (length w.sent) e x.given so)) ∙ is))

pub middle_stands : (w : World) (first : Meanwhile) (between : List LocalState) → IsSound w → may_report w.agent ≡ true
    → let middle = middle_of w first between in stands middle (length middle.sent) (entry_of middle.agent) ≡ true
middle_stands w first between s may =
    let x = exchange_gives w first may in
    let n = only_changes between (exchanged w first x.0 x.1) in
    let path : middle_of w first between ≡ with_local (exchanged w first x.0 x.1) n.0 =
    run-append (exchange (length w.sent) first) (changes between) w ∙ ap (run (changes between)) x.2 ∙ n.1 in
    subst (λ v. stands v (length v.sent) (entry_of v.agent) ≡ true) (sym path)
    (stands_next w first x.0 x.1 n.0 (subst IsSound path (run_sound (exchange (length w.sent) first ++ changes between) w s)))

-- an exchange of an entry that stands isn't asked, and leaves it held
abbrev pub Settled : World → World → Type 0
Settled w last = (option_map asks_full (last.replies (length w.sent)) ≡ Some false) × (entry_held last (server_to w (entry_of w.agent)) (entry_of w.agent).uid ≡ Some (entry_of w.agent))

pub exchange_settles : (w : World) (x : Meanwhile) → may_report w.agent ≡ true → stands w (length w.sent) (entry_of w.agent) ≡ true → Settled w (run (exchange (length w.sent) x) w)
exchange_settles w x may stood =
    let given = exchange_gives w x may in
    subst (Settled w) (sym given.2) (replies given.0, holds)
  where
    e : Entry
    e = entry_of w.agent

    now : Holding
    now = holding_with (w.held (server_to w e) e.uid) (length w.sent) e

    replies : (l : LocalState) → option_map asks_full (put_reply w.replies (length w.sent) (reply_on w x.given l) (length w.sent)) ≡ Some false
    replies l =
        ap (option_map asks_full) (put_reply_here w.replies (length w.sent) (reply_on w x.given l))
        ∙ ap (λ b. Some b) (reply_asks (with_local (sends w) l) (length w.sent) e x.given ∙ ap not stood)

    holds : entry_in (w.sent ++ e ∷ []) ((cond (stands w (length w.sent) e) (put_at w.held (server_to w e) e.uid now) w.held) (server_to w e) e.uid) ≡ Some e
    holds =
        ap (λ b. entry_in (w.sent ++ e ∷ []) ((cond b (put_at w.held (server_to w e) e.uid now) w.held) (server_to w e) e.uid)) stood
        ∙ ap (entry_in (w.sent ++ e ∷ [])) (put_at_here w.held (server_to w e) e.uid now)
        ∙ slice_get-push_new w.sent e

-- an exchange of an entry that doesn't stand is asked, and leaves what is held
pub exchange_refuses : (w : World) (x : Meanwhile) → may_report w.agent ≡ true → stands w (length w.sent) (entry_of w.agent) ≡ false
    → let last = run (exchange (length w.sent) x) w in (option_map asks_full (last.replies (length w.sent)) ≡ Some true) × (last.held ≡ w.held)
exchange_refuses w x may so =
    let given = exchange_gives w x may in
    subst (λ (last : World). (option_map asks_full (last.replies (length w.sent)) ≡ Some true) × (last.held ≡ w.held)) (sym given.2) (replies given.0, ap (λ b. cond b (put_at w.held (server_to w e) e.uid now) w.held) so)
  where
    e : Entry
    e = entry_of w.agent

    now : Holding
    now = holding_with (w.held (server_to w e) e.uid) (length w.sent) e

    replies : (l : LocalState) → option_map asks_full (put_reply w.replies (length w.sent) (reply_on w x.given l) (length w.sent)) ≡ Some true
    replies l =
        ap (option_map asks_full) (put_reply_here w.replies (length w.sent) (reply_on w x.given l))
        ∙ ap (λ b. Some b) (reply_asks (with_local (sends w) l) (length w.sent) e x.given ∙ ap not so)

-- an exchange sends one entry
pub middle_sent : (w : World) (first : Meanwhile) (between : List LocalState) → may_report w.agent ≡ true → (middle_of w first between).sent ≡ w.sent ++ entry_of w.agent ∷ []
middle_sent w first between may =
    let x = exchange_gives w first may in
    let n = only_changes between (exchanged w first x.0 x.1) in
    ap (λ v. v.sent) (run-append (exchange (length w.sent) first) (changes between) w ∙ ap (run (changes between)) x.2 ∙ n.1)

-- an agent that got an error in place of the reply isn't linked
erred_next : (w : World) (x : Meanwhile) (error : ServerErrorResponse) → may_report w.agent ≡ true → (run (exchange_or_error (length w.sent) x (Some error)) w).agent.linked ≡ false
erred_next w x error may =
    let given = reaches_end w x (Erred error ∷ []) may in
    ap (λ v. v.agent.linked) given.2 ∙ error_unlinked (record (reported w.agent) { local = given.1 }) error refl

pub erred_unlinked : (w : World) (first : Meanwhile) (error : ServerErrorResponse) (between : List LocalState) → may_report w.agent ≡ true
    → (middle_or_error w first (Some error) between).agent.linked ≡ false
erred_unlinked w first error between may =
    let events = exchange_or_error (length w.sent) first (Some error) in
    ap (λ v. v.agent.linked) (run-append events (changes between) w ∙ (only_changes between (run events w)).1) ∙ erred_next w first error may

-- where the first reply asked, or an error came in its place, the next entry is alone
pub next_alone : (w : World) (first : Meanwhile) (error : Option ServerErrorResponse) (between : List LocalState) → may_report w.agent ≡ true
    → (option_map asks_full ((middle_or_error w first error between).replies (length w.sent)) ≡ Some true) ⊎ IsSome error
    → (entry_of (middle_or_error w first error between).agent).basis ≡ None
next_alone w first (Some error) between may so = alone_unlinked (middle_or_error w first (Some error) between).agent (erred_unlinked w first error between may)
next_alone w first None between may (inr some) = absurd (false≢true some)
next_alone w first None between may (inl asks) = alone_unlinked (middle_of w first between).agent (by_stands (stands w (length w.sent) (entry_of w.agent)) refl)
  where
    once : World
    once = run (exchange (length w.sent) first) w

    then : (l : LocalState) × (middle_of w first between ≡ with_local once l)
    then = let last = only_changes between once in (last.0, run-append (exchange (length w.sent) first) (changes between) w ∙ last.1)

    by_stands : (t : Bool) → stands w (length w.sent) (entry_of w.agent) ≡ t → (middle_of w first between).agent.linked ≡ false
    by_stands true so =
        absurd (false≢true (some_same (sym (exchange_settles w first may so).0 ∙ ap (λ (v : World). option_map asks_full (v.replies (length w.sent))) (sym then.1) ∙ asks)))
    by_stands false so = ap (λ (v : World). v.agent.linked) then.1 ∙ asked_next w first may so

-- after an exchange, however it ended, the next entry stands
end_stands : (w : World) (first : Meanwhile) (error : Option ServerErrorResponse) (between : List LocalState) → IsSound w → may_report w.agent ≡ true
    → let middle = middle_or_error w first error between in stands middle (length middle.sent) (entry_of middle.agent) ≡ true
end_stands w first None between s may = middle_stands w first between s may
end_stands w first (Some error) between s may = stands_unlinked (middle_or_error w first (Some error) between) (erred_unlinked w first error between may)

pub two_settle : (w : World) (first second : Meanwhile) (error : Option ServerErrorResponse) (between : List LocalState) → IsSound w → may_report w.agent ≡ true
    → may_report (middle_or_error w first error between).agent ≡ true
    → Settled (middle_or_error w first error between) (run (two_or_error w first error between second) w)
two_settle w first second error between s may may_again =
    subst (Settled (middle_or_error w first error between))
    (sym (run-append (exchange_or_error (length w.sent) first error ++ changes between) (exchange (length (middle_or_error w first error between).sent) second) w))
    (exchange_settles (middle_or_error w first error between) second may_again (end_stands w first error between s may))
