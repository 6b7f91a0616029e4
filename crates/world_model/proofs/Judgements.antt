-- How the report of an entry meets the record of the entry that a server holds, and what waits there.
use Rattle.std.proofs.Common.{◌≡◌, ℕ, ◌+◌, List, [], ◌∷◌, Bool, true, false, cond, not, ◌&&◌, ◌||◌, eqb, Option, None, Some, slice_get, refl, sym, ◌∙◌, ap, subst, inl, inr, arith}
use Rattle.std.specs.Prelude.{is_none, is_some, IfSome, IsSome}
use Rattle.std.specs.Option.{option_and_then, option_map, option_or}
use Rattle.std.specs.Str.{bytes_eq}
use Rattle.std.proofs.lemmas.Bool.{eqb-true, eqb-false, eq-eqb, ne_eqb, cases_order, false≢true, true≢false}
use Rattle.message_values.specs.declared.components.AvailableComponents.{AvailableComponents}
use Rattle.message_values.specs.declared.report.AgentToServer.{AgentToServer}
use Rattle.message_values.specs.declared.state.State.{State}
use Rattle.message_deltas.specs.Obligations.{is_full, IsValidState}
use Rattle.message_deltas.specs.Merging.{merged_state, empty_state, state_of}
use Rattle.message_deltas.specs.Deltas.{told_under, hash_carried, delta_report, must_be_whole}
use Rattle.server_core.specs.declared.rows.Pending.{Pending}
use Rattle.server_core.specs.declared.rows.Record.{Record}
use Rattle.server_core.specs.Components.{where_any, told_in, details_under, stale_under, told_last}
use Rattle.server_core.specs.Replies.{accepts_restart}
use Rattle.server_core.specs.Table.{is_next, state_kept, state_after, told_before, told_after, record_after, pending_after}
use Rattle.agent_rules.specs.Reports.{Entry, components_in, report_on, message_of}
use Rattle.agent_rules.specs.Half.{is_empty}
use Rattle.world_model.specs.World.{World, Holding, server_to, is_just_before, told_at, offers_at, waits_at, told_with, holding_with, components_at, record_at, hash_at, waiting_at, record_in_world}
use Rattle.world_model.proofs.Below.{TellsStates}
use Rattle.world_model.proofs.Places.{some_same, bytes_same}
use Rattle.world_model.proofs.Kept.{Bears, IsGood, IsSound, capabilities_same}

-- what is kept in a record and beside it says which components were told last
told_back : (kept : Option (List ℕ)) (told : Option AvailableComponents) → told_last (details_under kept told) kept (stale_under kept told) ≡ told
told_back kept None = refl
told_back None (Some told) = refl
told_back (Some hash) (Some told) = by_test (bytes_eq hash told.hash) refl
  where
    by_test : (t : Bool) → bytes_eq hash told.hash ≡ t
        → told_last (cond t (Some told.components) None) (Some hash) (cond t None (Some told)) ≡ Some told
    by_test true same = λ i. Some (record { components = told.components; hash = bytes_same hash told.hash same i })
    by_test false other = refl

-- flags and a custom message say nothing of the state
pub message_full : (e : Entry) → is_full (message_of e) ≡ is_full (report_on e.basis e)
message_full e = refl

pub message_merged : (s : State) (e : Entry) → merged_state s (message_of e) ≡ merged_state s (report_on e.basis e)
message_merged s e = refl

pub message_left : (e : Entry) → is_some (message_of e).agent_disconnect ≡ false
message_left e = by_basis e.basis
  where
    by_basis : (b : Option State) → is_some (report_on b e).agent_disconnect ≡ false
    by_basis None = refl
    by_basis (Some before) = refl

pub message_uid : (e : Entry) → (message_of e).instance_uid ≡ e.uid
message_uid e = by_basis e.basis
  where
    by_basis : (b : Option State) → (report_on b e).instance_uid ≡ e.uid
    by_basis None = refl
    by_basis (Some before) = refl

pub message_number : (e : Entry) → (message_of e).sequence_num ≡ e.number
message_number e = by_basis e.basis
  where
    by_basis : (b : Option State) → (report_on b e).sequence_num ≡ e.number
    by_basis None = refl
    by_basis (Some before) = refl

pub message_capabilities : (e : Entry) → (message_of e).capabilities ≡ e.state.capabilities
message_capabilities e = by_basis e.basis
  where
    by_basis : (b : Option State) → (report_on b e).capabilities ≡ e.state.capabilities
    by_basis None = refl
    by_basis (Some before) = refl

told_of_hash : (x : Option (List ℕ)) → told_in (option_map (told_under None) x) ≡ None
told_of_hash None = refl
told_of_hash (Some h) = refl

any_told : (told : AvailableComponents) → is_empty told.components ≡ false → where_any told told.components ≡ Some told
any_told told some = by_list told.components some
  where
    by_list : (cs : _) → is_empty cs ≡ false → where_any told cs ≡ Some told
    by_list [] e = absurd (true≢false e)
    by_list (c ∷ cs) e = refl

-- components that come with details are told under their hash
told_now : (details : Option AvailableComponents) (now x : Option (List ℕ)) → ((told : AvailableComponents) → details ≡ Some told → (now ≡ Some told.hash) × (is_empty told.components ≡ false))
    → (is_some details ≡ true → x ≡ now)
    → told_in (option_map (told_under (components_in details)) x) ≡ details
told_now None now x good carried = told_of_hash x
told_now (Some told) now x good carried =
    ap (λ h. told_in (option_map (told_under (Some told.components)) h)) (carried refl ∙ (good told refl).0) ∙ any_told told (good told refl).1

detailed_hash : (detailed : Bool) (before now : Option (List ℕ)) → detailed ≡ true → hash_carried detailed before now ≡ now
unfolding hash_carried
detailed_hash true before now so = refl
detailed_hash false before now so = absurd (false≢true so)

components_some : (details : Option AvailableComponents) → is_some (components_in details) ≡ is_some details
components_some None = refl
components_some (Some told) = refl

pub message_told : (sent : List Entry) (place : ℕ) (e : Entry) → IsGood sent place e → told_in (message_of e).available_components ≡ e.details
message_told sent place e g = by_basis e.basis
  where
    good : (told : AvailableComponents) → e.details ≡ Some told → (e.state.components ≡ Some told.hash) × (is_empty told.components ≡ false)
    good told is = ((g.details told is).hash, (g.details told is).any)

    by_basis : (b : Option State) → told_in (report_on b e).available_components ≡ e.details
    by_basis None = told_now e.details e.state.components e.state.components good (λ _. refl)
    by_basis (Some before) =
        told_now e.details e.state.components (hash_carried (is_some (components_in e.details)) before.components e.state.components) good
        (λ some. detailed_hash (is_some (components_in e.details)) before.components e.state.components (components_some e.details ∙ some))

-- details come with a hash
fits_hash : (sent : List Entry) (place : ℕ) (e : Entry) → IsGood sent place e → IfSome (components_in e.details) (λ _. IsSome e.state.components)
fits_hash sent place e g = by_details e.details refl
  where
    by_details : (d : Option AvailableComponents) → e.details ≡ d → IfSome (components_in d) (λ _. IsSome e.state.components)
    by_details None is = tt
    by_details (Some told) is = subst (λ h. IsSome h) (sym (g.details told is).hash) refl

-- what is held is in the record
pub record_held_is : (sent : List Entry) (h : Holding) (x : Entry) → slice_get sent h.place ≡ Some x → record_in_world sent (Some h) ≡ Some (record_at sent h.told x)
record_held_is sent h x at = ap (option_map (record_at sent h.told)) at

-- the record and what waits say which components were told last
pub found_told : (w : World) (server uid : List ℕ) (found : Option Holding) → IsSound w → w.held server uid ≡ found
    → told_before (record_in_world w.sent found) (waiting_at w.sent found uid).stale ≡ components_at w.sent (told_at found)
found_told w server uid None s is = refl
found_told w server uid (Some h) s is =
    let x = (s.held server uid h is).held in
    (λ i. told_before (record_held_is w.sent h x.0 x.1 i) (stale_under (ap (option_and_then (λ (e : Entry). e.state.components)) x.1 i) (components_at w.sent h.told)))
    ∙ told_back x.0.state.components (components_at w.sent h.told)

-- what becomes of the record and of what waits with an accepted report
pub record IsTaken (w : World) (place : ℕ) (e : Entry) (found : Option Holding) (known : Option Record) (waiting : Pending) : Type 0 where
  pub record_is : record_after known waiting.stale (message_of e) ≡ record_at w.sent (told_with found place e) e
  pub waiting_is : pending_after known waiting (message_of e) ≡ waiting_at w.sent (Some (holding_with found place e)) e.uid

taken : (w : World) (place : ℕ) (e : Entry) (found : Option Holding) → IsSound w → slice_get w.sent place ≡ Some e → w.held (server_to w e) e.uid ≡ found
    → state_after (record_in_world w.sent found) (message_of e) ≡ e.state
    → IsTaken w place e found (record_in_world w.sent found) (waiting_at w.sent found e.uid)
taken w place e found s at holds state = record {
  record_is = λ i. record {
    uid = message_uid e i;
    number = message_number e i;
    left = message_left e i;
    state = state i;
    details = details_under (state i).components (told i);
  };
  waiting_is = λ i. record {
    uid = message_uid e i;
    offers = offers_at found;
    restart = waits_at found && not (accepts_restart (message_capabilities e i));
    stale = stale_under (hash i) (told i);
  };
}
  where
    known : Option Record
    known = record_in_world w.sent found

    stale : Option AvailableComponents
    stale = (waiting_at w.sent found e.uid).stale

    by_details : (d : Option AvailableComponents) → e.details ≡ d
        → option_or d (components_at w.sent (told_at found)) ≡ components_at w.sent (cond (is_some d) (Some place) (told_at found))
    by_details None is = refl
    by_details (Some told) is = sym (ap (option_and_then (λ (x : Entry). x.details)) at ∙ is)

    told : told_after known stale (message_of e) ≡ components_at w.sent (told_with found place e)
    told =
        ap (λ x. option_or x (told_before known stale)) (message_told w.sent place e (s.good place e at))
        ∙ ap (option_or e.details) (found_told w (server_to w e) e.uid found s holds)
        ∙ by_details e.details refl

    hash : (state_after known (message_of e)).components ≡ hash_at w.sent (Some (holding_with found place e))
    hash = ap (λ (x : State). x.components) state ∙ sym (ap (option_and_then (λ (x : Entry). x.state.components)) at)

-- The report is accepted exactly where the entry stands there, and then the record is its own.
pub record IsJudged (w : World) (place : ℕ) (e : Entry) (basis : Option State) (found : Option Holding) : Type 0 where
  pub takes : (is_full (message_of e) || is_next (record_in_world w.sent found) (message_of e).sequence_num) ≡ (is_none basis || is_just_before found place)
  pub becomes : (is_none basis || is_just_before found place) ≡ true → IsTaken w place e found (record_in_world w.sent found) (waiting_at w.sent found e.uid)

takes_by : (known : Option Record) (m : AgentToServer) (a b : Bool) → is_full m ≡ a → is_next known m.sequence_num ≡ b → (is_full m || is_next known m.sequence_num) ≡ (a || b)
takes_by known m a b full next = λ i. full i || next i

module _ (tells : TellsStates) where
  delta_is : (sent : List Entry) (place : ℕ) (e : Entry) (before : State) → e.basis ≡ Some before → must_be_whole before e.state (is_some e.details) ≡ false → is_full (message_of e) ≡ false
  delta_is sent place e before is told =
      message_full e ∙ ap (λ b. is_full (report_on b e)) is
      ∙ tells.delta_not_full e.uid e.number before e.state (components_in e.details) (ap (must_be_whole before e.state) (components_some e.details) ∙ told)

  -- a report of changes at an entry that is held
  judged_delta : (w : World) (place : ℕ) (e : Entry) (before : State) (h : Holding) (x : Entry) → IsSound w → slice_get w.sent place ≡ Some e
      → e.basis ≡ Some before → w.held (server_to w e) e.uid ≡ Some h → slice_get w.sent h.place ≡ Some x → IsJudged w place e (Some before) (Some h)
  judged_delta w place e before h x s at is holds at_h = by_test (eqb (h.place + 1) place) refl
    where
      good : IsGood w.sent place e
      good = s.good place e at

      based : (j : ℕ) × (b : Entry) × (j + 1 ≡ place) × (slice_get w.sent j ≡ Some b) × Bears e b before
      based = good.based before is

      m : AgentToServer
      m = message_of e

      delta : is_full m ≡ false
      delta = delta_is w.sent place e before is based.4.told

      known : Option Record
      known = record_in_world w.sent (Some h)

      found : known ≡ Some (record_at w.sent h.told x)
      found = record_held_is w.sent h x at_h

      next_is : (t : Bool) → eqb e.number (x.number + 1) ≡ t → is_next known m.sequence_num ≡ t
      next_is t it = (λ i. is_next (found i) (message_number e i)) ∙ it

      same_entry : h.place ≡ based.0 → x ≡ based.1
      same_entry same = some_same (sym at_h ∙ ap (slice_get w.sent) same ∙ based.3)

      valid_before : IsValidState before
      valid_before = subst IsValidState based.4.state (s.good based.0 based.1 based.3).valid

      merges : x ≡ based.1 → merged_state (state_kept known) m ≡ e.state
      merges same =
          message_merged (state_kept known) e
          ∙ (λ i. merged_state (state_kept (found i)) (report_on (is i) e))
          ∙ ap (λ v. merged_state v (delta_report e.uid e.number before e.state (components_in e.details))) (ap (λ (y : Entry). y.state) same ∙ based.4.state)
          ∙ tells.delta_says e.uid e.number before e.state (components_in e.details) valid_before good.valid
          (capabilities_same before e.state (is_some e.details) based.4.told) (fits_hash w.sent place e good)

      becomes : x ≡ based.1 → IsTaken w place e (Some h) (record_in_world w.sent (Some h)) (waiting_at w.sent (Some h) e.uid)
      becomes same = taken w place e (Some h) s at holds (ap (λ b. cond b (state_of m) (merged_state (state_kept known) m)) delta ∙ merges same)

      apart : eqb (h.place + 1) place ≡ false → e.number ≡ x.number + 1 → ⊥
      apart other same =
          elim (cases_order h.place based.0) [
            | inl it ↦ eqb-false (h.place + 1) place other (ap (λ n. n + 1) it ∙ based.2)
            | inr order ↦ elim order [
              | inl below ↦ omega (arith, s.rising h.place based.0 x based.1 at_h based.3 below, based.4.number, same)
              | inr above ↦ omega (arith, s.rising based.0 h.place based.1 x based.3 at_h above, based.4.number, same)
            ]
          ]

      by_test : (t : Bool) → eqb (h.place + 1) place ≡ t → IsJudged w place e (Some before) (Some h)
      by_test true so =
          let same = same_entry (omega (arith, eqb-true (h.place + 1) place so, based.2)) in
          record {
            takes = takes_by known m false true delta (next_is true (eq-eqb e.number (x.number + 1) (based.4.number ∙ ap (λ (y : Entry). y.number + 1) (sym same)))) ∙ sym so;
            becomes = λ _. becomes same;
          }
      by_test false so = record {
        takes = takes_by known m false false delta (next_is false (ne_eqb e.number (x.number + 1) (apart so))) ∙ sym so;
        becomes = λ stood. absurd (false≢true (sym so ∙ stood));
      }

  judged_at : (w : World) (place : ℕ) (e : Entry) (basis : Option State) (found : Option Holding) → IsSound w → slice_get w.sent place ≡ Some e
      → e.basis ≡ basis → w.held (server_to w e) e.uid ≡ found → IsJudged w place e basis found
  judged_at w place e None found s at is holds = record {
    takes = takes_by (record_in_world w.sent found) (message_of e) true (is_next (record_in_world w.sent found) (message_of e).sequence_num) full refl;
    becomes = λ _. taken w place e found s at holds
        (ap (λ b. cond b (state_of (message_of e)) (merged_state (state_kept (record_in_world w.sent found)) (message_of e))) full ∙ says);
  }
    where
      full : is_full (message_of e) ≡ true
      full = message_full e ∙ ap (λ b. is_full (report_on b e)) is ∙ tells.whole_is_full e.uid e.number e.state (components_in e.details) (s.good place e at).valid

      says : state_of (message_of e) ≡ e.state
      says =
          message_merged empty_state e ∙ ap (λ b. merged_state empty_state (report_on b e)) is
          ∙ tells.whole_says e.uid e.number e.state (components_in e.details)
  judged_at w place e (Some before) None s at is holds = record {
    takes = takes_by None (message_of e) false false (delta_is w.sent place e before is ((s.good place e at).based before is).4.told) refl;
    becomes = λ stood. absurd (false≢true stood);
  }
  judged_at w place e (Some before) (Some h) s at is holds =
      let x = (s.held (server_to w e) e.uid h holds).held in
      judged_delta w place e before h x.0 s at is holds x.1

  pub judged : (w : World) (place : ℕ) (e : Entry) → IsSound w → slice_get w.sent place ≡ Some e → IsJudged w place e e.basis (w.held (server_to w e) e.uid)
  judged w place e s at = judged_at w place e e.basis (w.held (server_to w e) e.uid) s at refl refl
