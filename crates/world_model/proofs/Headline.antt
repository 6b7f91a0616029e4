-- The laws together.
use Rattle.std.proofs.Common.{◌≡◌, ℕ, ◌+◌, ◌||◌, arith, List, [], ◌∷◌, ◌++◌, length, true, false, cond, Option, None, Some, slice_get, refl, sym, ◌∙◌, ap, subst}
use Rattle.std.specs.Prelude.{IsSome, is_none}
use Rattle.std.specs.Option.{option_map}
use Rattle.std.proofs.lemmas.Bool.{false≢true, ne_eqb, not-false}
use Rattle.message_values.specs.declared.state.State.{State}
use Rattle.message_values.specs.declared.reply.ServerErrorResponse.{ServerErrorResponse}
use Rattle.message_values.specs.declared.reply.ServerToAgent.{ServerToAgent}
use Rattle.agent_rules.specs.declared.rules.parts.LocalState.{LocalState}
use Rattle.agent_rules.specs.Reports.{Entry}
use Rattle.agent_rules.specs.Half.{entry_of}
use Rattle.agent_rules.specs.Calls.{may_report}
use Rattle.server_core.specs.declared.rows.Record.{Record}
use Rattle.world_model.specs.World.{World, Holding, Event, Delivered, Given, server_to, stands, told_at, holding_with, record_at, reply_at, put_at, delivers, entry_in, entry_held, is_just_before, record_in_world, record_held, asks_full, after, run, Start, opening, world}
use Rattle.world_model.specs.Exchanges.{Meanwhile, changes, exchange_or_error, middle_or_error, two_or_error}
use Rattle.world_model.proofs.Places.{none≢some, some_same, put_at_here}
use Rattle.world_model.proofs.Kept.{IsSound, world_sound}
use Rattle.world_model.proofs.Earned.{run-append}
use Rattle.world_model.proofs.Runs.{world-push, world_servers}
use Rattle.world_model.proofs.Replies.{recorded, reply_asks}
use Rattle.world_model.proofs.Exchanges.{two_settle}

-- what is known is the state and number of one entry
abbrev pub IsOneReport : (List ℕ → List ℕ) → World → List ℕ → List ℕ → Record → Type 0
IsOneReport server_of w server uid known =
    (place : ℕ) × ((e : Entry) × ((slice_get w.sent place ≡ Some e) × ((server_of e.server ≡ server) × ((e.uid ≡ uid) × ((known.state ≡ e.state) × (known.number ≡ e.number))))))

pub one_of : (w : World) (server uid : List ℕ) (found : Option Holding) (known : Record) → IsSound w → w.held server uid ≡ found → record_in_world w.sent found ≡ Some known
    → IsOneReport w.server_of w server uid known
one_of w server uid None known s is it = absurd (none≢some it)
one_of w server uid (Some h) known s is it =
    let x = (s.held server uid h is).held in
    let same : record_at w.sent h.told x.0 ≡ known = some_same (sym (ap (option_map (record_at w.sent h.told)) x.1) ∙ it) in
    (h.place, (x.0, (x.1, (x.2, (x.3, (ap (λ (r : Record). r.state) (sym same), ap (λ (r : Record). r.number) (sym same)))))))

-- In these lemmas `found` is what the server knows: the record of what the world says that it holds.
pub one_report : (start : Start) (events : List Event) (server uid : List ℕ) (found : Option Record) (known : Record) → found ≡ record_held (world start events) server uid
    → found ≡ Some known → IsOneReport start.server_of (world start events) server uid known
one_report start events server uid found known agrees is =
    subst (λ f. IsOneReport f (world start events) server uid known) (world_servers start events)
    (one_of (world start events) server uid ((world start events).held server uid) known (world_sound start events) refl (sym agrees ∙ is))

-- the state known of an entry that is held
pub state_known : (sent : List Entry) (found : Option Holding) (e : Entry) → entry_in sent found ≡ Some e → option_map (λ (known : Record). known.state) (record_in_world sent found) ≡ Some e.state
state_known sent found e is = ap (λ o. option_map (λ (known : Record). known.state) (option_map (record_at sent (told_at found)) o)) is

known_of : (start : Start) (events : List Event) (server uid : List ℕ) (found : Option Record) (e : Entry) → found ≡ record_held (world start events) server uid → entry_held (world start events) server uid ≡ Some e
    → option_map (λ (known : Record). known.state) found ≡ Some e.state
known_of start events server uid found e agrees is =
    ap (option_map (λ (known : Record). known.state)) agrees
    ∙ state_known (world start events).sent ((world start events).held server uid) e is

pub held_after : (w : World) (place : ℕ) (given : Given) (e : Entry) → slice_get w.sent place ≡ Some e → stands w place e ≡ true
    → entry_held (after w (Delivered place given)) (server_to w e) e.uid ≡ Some e
held_after w place given e at stood =
    ap (λ o. entry_held (delivers w place given o) (server_to w e) e.uid) at
    ∙ ap (λ b. entry_in w.sent ((cond b (put_at w.held (server_to w e) e.uid (holding_with (w.held (server_to w e) e.uid) place e)) w.held) (server_to w e) e.uid)) stood
    ∙ ap (entry_in w.sent) (put_at_here w.held (server_to w e) e.uid (holding_with (w.held (server_to w e) e.uid) place e))
    ∙ at

-- a report of changes that comes again while it is held doesn't stand, and stays held
stands_again : (w : World) (place : ℕ) (e : Entry) → IsSome e.basis → option_map (λ h. h.place) (w.held (server_to w e) e.uid) ≡ Some place → stands w place e ≡ false
stands_again w place e some held = by_basis e.basis some ∙ by_found (w.held (server_to w e) e.uid) held
  where
    by_basis : (b : Option State) → IsSome b → (is_none b || is_just_before (w.held (server_to w e) e.uid) place) ≡ is_just_before (w.held (server_to w e) e.uid) place
    by_basis None no_basis = absurd (false≢true no_basis)
    by_basis (Some before) is = refl

    by_found : (o : Option Holding) → option_map (λ (h : Holding). h.place) o ≡ Some place → is_just_before o place ≡ false
    by_found None is = refl
    by_found (Some h) is = ne_eqb (h.place + 1) place (λ above. let here = some_same is in absurd (omega (arith, above, here)))

pub delivered_again : (server_of : List ℕ → List ℕ) (w : World) (place : ℕ) (given : Given) (e : Entry) → w.server_of ≡ server_of → slice_get w.sent place ≡ Some e → IsSome e.basis
    → option_map (λ (h : Holding). h.place) (w.held (server_of e.server) e.uid) ≡ Some place
    → (stands w place e ≡ false) × ((after w (Delivered place given)).held (server_of e.server) e.uid ≡ w.held (server_of e.server) e.uid)
delivered_again server_of w place given e of at some held =
    let apart = stands_again w place e some (ap (λ (f : List ℕ → List ℕ). option_map (λ (h : Holding). h.place) (w.held (f e.server) e.uid)) of ∙ held) in (
      apart,
      ap (λ o. (delivers w place given o).held (server_of e.server) e.uid) at
          ∙ ap (λ b. (cond b (put_at w.held (server_to w e) e.uid (holding_with (w.held (server_to w e) e.uid) place e)) w.held) (server_of e.server) e.uid) apart,
    )

pub just_reported : (start : Start) (events : List Event) (place : ℕ) (given : Given) (e : Entry) (reply : ServerToAgent) (found : Option Record) → slice_get (world start events).sent place ≡ Some e
    → found ≡ record_held (world start (events ++ Delivered place given ∷ [])) (start.server_of e.server) e.uid
    → (world start (events ++ Delivered place given ∷ [])).replies place ≡ Some reply → asks_full reply ≡ false
    → option_map (λ (known : Record). known.state) found ≡ Some e.state
just_reported start events place given e reply found at agrees is plain =
    known_of start (events ++ Delivered place given ∷ []) (start.server_of e.server) e.uid found e agrees
    (ap (λ v. entry_held v (start.server_of e.server) e.uid) (world-push start events (Delivered place given))
    ∙ subst (λ (f : List ℕ → List ℕ). entry_held (after w (Delivered place given)) (f e.server) e.uid ≡ Some e) (world_servers start events) (held_after w place given e at stood))
  where
    w : World
    w = world start events

    same : reply_at w place e given ≡ reply
    same = some_same (sym (recorded w place given e at) ∙ ap (λ (v : World). v.replies place) (sym (world-push start events (Delivered place given))) ∙ is)

    stood : stands w place e ≡ true
    stood = not-false (stands w place e) (sym (reply_asks w place e given) ∙ ap asks_full same ∙ plain)

middle_servers : (start : Start) (events : List Event) (first : Meanwhile) (error : Option ServerErrorResponse) (between : List LocalState)
    → (middle_or_error (world start events) first error between).server_of ≡ start.server_of
middle_servers start events first error between =
    ap (λ (w : World). w.server_of) (sym (run-append events (exchange_or_error (length (world start events).sent) first error ++ changes between) (opening start)))
    ∙ world_servers start (events ++ (exchange_or_error (length (world start events).sent) first error ++ changes between))

-- after two exchanges, of which the first may have ended by an error, the entry is held at its server
pub two_held : (start : Start) (events : List Event) (first second : Meanwhile) (error : Option ServerErrorResponse) (between : List LocalState)
    → let before = world start events in
    let middle = middle_or_error before first error between in
    let reported = entry_of middle.agent in
    may_report before.agent ≡ true → may_report middle.agent ≡ true
    → entry_held (run (two_or_error before first error between second) before) (start.server_of reported.server) reported.uid ≡ Some reported
two_held start events first second error between may may_again =
    let before = world start events in
    let middle = middle_or_error before first error between in
    let reported = entry_of middle.agent in
    subst (λ (f : List ℕ → List ℕ). entry_held (run (two_or_error before first error between second) before) (f reported.server) reported.uid ≡ Some reported)
    (middle_servers start events first error between)
    (two_settle before first second error between (world_sound start events) may may_again).1

pub reached : (start : Start) (events : List Event) (first second : Meanwhile) (error : Option ServerErrorResponse) (between : List LocalState) (found : Option Record)
    → let before = world start events in
    let middle = middle_or_error before first error between in
    let reported = entry_of middle.agent in
    let all = events ++ two_or_error before first error between second in
    may_report before.agent ≡ true → may_report middle.agent ≡ true
    → found ≡ record_held (world start all) (start.server_of reported.server) reported.uid
    → option_map (λ (known : Record). known.state) found ≡ Some reported.state
reached start events first second error between found may may_again agrees =
    known_of start (events ++ two_or_error (world start events) first error between second) (start.server_of reported.server) reported.uid found reported agrees
    (ap (λ v. entry_held v (start.server_of reported.server) reported.uid) (run-append events (two_or_error (world start events) first error between second) (opening start))
    ∙ two_held start events first second error between may may_again)
  where
    reported : Entry
    reported = entry_of (middle_or_error (world start events) first error between).agent
