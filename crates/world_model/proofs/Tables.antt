-- What a server keeps of one agent, and what an event makes of it.
use Rattle.std.proofs.Common.{◌≡◌, ℕ, List, Bool, true, false, cond, ◌&&◌, Option, None, Some, refl, ◌∙◌, ap}
use Rattle.std.specs.Prelude.{unwrap_or}
use Rattle.std.specs.Str.{bytes_eq}
use Rattle.message_values.specs.declared.report.AgentToServer.{AgentToServer}
use Rattle.server_core.specs.declared.rows.Pending.{Pending}
use Rattle.server_core.specs.declared.rows.Record.{Record}
use Rattle.server_core.specs.History.{Event as ServerEvent, agent_of, Reported, Offered as OfferMade, Ordered as RestartOrdered, Withdrawn as AllWithdrawn, Forgotten as AgentForgotten}
use Rattle.server_core.specs.Offers.{fits_offer}
use Rattle.server_core.specs.Replies.{Dues, dues}
use Rattle.server_core.specs.Table.{Table, find_record, find_pending, pending_at, no_pending, is_held, is_accepted_at, record_after, pending_after, table_after, table_with_report, table_with_pending, table_without, with_offer as offer_waits, with_restart as restart_waits, with_nothing as nothing_waits}
use Rattle.world_model.proofs.Rows.{find-put, find-drop, found_own}

pub record Kept : Type 0 where
  pub known : Option Record
  pub waiting : Pending

abbrev pub kept_of : Table → List ℕ → Kept
kept_of table uid = record { known = find_record table.records uid; waiting = pending_at table.pendings uid }

-- once a report was accepted
abbrev pub kept_after : Kept → AgentToServer → Kept
kept_after k m = record { known = Some (record_after k.known k.waiting.stale m); waiting = pending_after k.known k.waiting m }

-- and what is due then
abbrev pub dues_kept : Kept → AgentToServer → Dues
dues_kept k m = dues (record_after k.known k.waiting.stale m) k.waiting

pub kept_with_report : (table : Table) (m : AgentToServer) (uid : List ℕ)
    → kept_of (table_with_report table m) uid ≡ cond (bytes_eq m.instance_uid uid) (kept_after (kept_of table m.instance_uid) m) (kept_of table uid)
kept_with_report table m uid =
    (λ i. record {
      known = find-put (λ (r : Record). r.uid) table.records now uid i;
      waiting = unwrap_or (find-put (λ (p : Pending). p.uid) table.pendings then uid i) (no_pending uid);
    })
    ∙ by_test (bytes_eq m.instance_uid uid)
  where
    own : Kept
    own = kept_of table m.instance_uid

    now : Record
    now = record_after own.known own.waiting.stale m

    then : Pending
    then = pending_after own.known own.waiting m

    there : Bool → Kept
    there t = record { known = cond t (Some now) (find_record table.records uid); waiting = unwrap_or (cond t (Some then) (find_pending table.pendings uid)) (no_pending uid) }

    by_test : (t : Bool) → there t ≡ cond t (kept_after own m) (kept_of table uid)
    by_test true = refl
    by_test false = refl

pub kept_with_pending : (table : Table) (p : Pending) (uid : List ℕ)
    → kept_of (table_with_pending table p) uid ≡ cond (bytes_eq p.uid uid) (record { known = find_record table.records uid; waiting = p }) (kept_of table uid)
kept_with_pending table p uid =
    (λ i. record { known = find_record table.records uid; waiting = unwrap_or (find-put (λ (q : Pending). q.uid) table.pendings p uid i) (no_pending uid) })
    ∙ by_test (bytes_eq p.uid uid)
  where
    there : Bool → Kept
    there t = record { known = find_record table.records uid; waiting = unwrap_or (cond t (Some p) (find_pending table.pendings uid)) (no_pending uid) }

    by_test : (t : Bool) → there t ≡ cond t (record { known = find_record table.records uid; waiting = p }) (kept_of table uid)
    by_test true = refl
    by_test false = refl

-- of an agent that isn't held nothing is kept
abbrev pub nothing_kept : List ℕ → Kept
nothing_kept uid = record { known = None; waiting = no_pending uid }

-- once an agent was forgotten
pub kept_without : (table : Table) (own uid : List ℕ) → kept_of (table_without table own) uid ≡ cond (bytes_eq own uid) (nothing_kept uid) (kept_of table uid)
kept_without table own uid =
    (λ i. record {
      known = find-drop (λ (r : Record). r.uid) table.records own uid i;
      waiting = unwrap_or (find-drop (λ (p : Pending). p.uid) table.pendings own uid i) (no_pending uid);
    })
    ∙ by_test (bytes_eq own uid)
  where
    there : Bool → Kept
    there t = record { known = cond t None (find_record table.records uid); waiting = unwrap_or (cond t None (find_pending table.pendings uid)) (no_pending uid) }

    by_test : (t : Bool) → there t ≡ cond t (nothing_kept uid) (kept_of table uid)
    by_test true = refl
    by_test false = refl

-- what waits for an agent is its own
pub waiting_own : (pendings : List Pending) (uid : List ℕ) → (pending_at pendings uid).uid ≡ uid
waiting_own pendings uid = by_found (find_pending pendings uid) refl
  where
    by_found : (o : Option Pending) → find_pending pendings uid ≡ o → (unwrap_or o (no_pending uid)).uid ≡ uid
    by_found None is = refl
    by_found (Some p) is = found_own (λ (q : Pending). q.uid) pendings uid p is

-- what waits for another agent leaves what is kept of this one
pub pending_apart : (table : Table) (p : Pending) (own uid : List ℕ) → p.uid ≡ own → bytes_eq own uid ≡ false → kept_of (table_with_pending table p) uid ≡ kept_of table uid
pending_apart table p own uid is apart =
    kept_with_pending table p uid
    ∙ ap (λ b. cond b (record { known = find_record table.records uid; waiting = p }) (kept_of table uid)) (ap (λ u. bytes_eq u uid) is ∙ apart)

-- an event of another agent leaves it
pub kept_apart : (table : Table) (e : ServerEvent) (uid : List ℕ) → bytes_eq (agent_of e) uid ≡ false → kept_of (table_after table e) uid ≡ kept_of table uid
kept_apart table (Reported m) uid apart = by_accepted (is_accepted_at table m)
  where
    by_accepted : (t : Bool) → kept_of (cond t (table_with_report table m) table) uid ≡ kept_of table uid
    by_accepted true = kept_with_report table m uid ∙ ap (λ b. cond b (kept_after (kept_of table m.instance_uid) m) (kept_of table uid)) apart
    by_accepted false = refl
kept_apart table (OfferMade own offer) uid apart = by_held (is_held table own && fits_offer offer)
  where
    by_held : (t : Bool) → kept_of (cond t (table_with_pending table (offer_waits (pending_at table.pendings own) offer)) table) uid ≡ kept_of table uid
    by_held true = pending_apart table (offer_waits (pending_at table.pendings own) offer) own uid (waiting_own table.pendings own) apart
    by_held false = refl
kept_apart table (RestartOrdered own) uid apart = by_held (is_held table own)
  where
    by_held : (t : Bool) → kept_of (cond t (table_with_pending table (restart_waits (pending_at table.pendings own))) table) uid ≡ kept_of table uid
    by_held true = pending_apart table (restart_waits (pending_at table.pendings own)) own uid (waiting_own table.pendings own) apart
    by_held false = refl
kept_apart table (AllWithdrawn own) uid apart = by_held (is_held table own)
  where
    by_held : (t : Bool) → kept_of (cond t (table_with_pending table (nothing_waits (pending_at table.pendings own))) table) uid ≡ kept_of table uid
    by_held true = pending_apart table (nothing_waits (pending_at table.pendings own)) own uid (waiting_own table.pendings own) apart
    by_held false = refl
kept_apart table (AgentForgotten own) uid apart = kept_without table own uid ∙ ap (λ b. cond b (nothing_kept uid) (kept_of table uid)) apart
