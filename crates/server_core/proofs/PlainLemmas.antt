-- A report that changes its agent's record alone: what comes of the table, and that its reply is the plain one.
use Rattle.std.proofs.Common.{◌≡◌, ℕ, ◌<◌, List, length, get_or, Bool, true, false, cond, not, nat_le, ◌&&◌, ◌||◌, ◌==◌, Option, Some, None, refl, sym, ◌∙◌, ap, subst}
use Rattle.std.specs.Prelude.{slice_set, is_some}
use Rattle.std.specs.Option.{option_map, option_or}
use Rattle.message_values.specs.declared.report.AgentToServer.{AgentToServer}
use Rattle.message_values.specs.declared.profile.TheConstants.{REPORTS_AVAILABLE_COMPONENTS}
use Rattle.message_deltas.specs.Merging.{hash_in, merged_state, state_of}
use Rattle.message_deltas.specs.Obligations.{has_bit}
use Rattle.server_core.specs.declared.replies.Profile.{Profile}
use Rattle.server_core.specs.declared.rows.Record.{Record}
use Rattle.server_core.specs.declared.rows.Row.{Row}
use Rattle.server_core.specs.declared.server.Judgement.TheVariants.{Crowded, Unaccepted, Accepted}
use Rattle.server_core.specs.Beside.{IsBare, IsPlainNext, pending_in, pendings_of}
use Rattle.server_core.specs.Components.{stale_under, told_in, told_last}
use Rattle.server_core.specs.Offers.{no_offers, offers_for}
use Rattle.server_core.specs.Replies.{accepting_reply, accepts_restart, dues, is_hash, lacks_details, no_dues, offering_reply, plain_reply}
use Rattle.server_core.specs.Rows.{IsHeldAt}
use Rattle.server_core.specs.Served.{Served}
use Rattle.server_core.specs.Table.{find_record, is_next, judgement_of, pending_after, pending_at, record_after, state_after, table_after_report, table_reply, told_after}
use Rattle.server_core.proofs.AcceptLemmas.{AreKept, again_kept, again_table, found_there, table_by, waiting_there}
use Rattle.server_core.proofs.BesideLemmas.{set_again}
use Rattle.server_core.proofs.JudgementLemmas.{accepted_reply, accepted_table}

and_false : (b : Bool) → (b && false) ≡ false
and_false true = refl
and_false false = refl

module _ (r : Record) (old : Row) (m : AgentToServer) (plain : IsPlainNext r m) (bare : IsBare old) where
  abbrev after : Record
  after = record_after (Some r) None m

  components_after : (state_after (Some r) m).components ≡ None
  components_after = λ i. (cond (plain.delta i) (state_of m) (record (merged_state r.state m) { components = option_or (hash_in (plain.untold i)) (plain.no_hash i) })).components

  told_nothing : told_after (Some r) (pending_in m.instance_uid old).stale m ≡ None
  told_nothing = λ i. option_or (told_in (plain.untold i)) (told_last (plain.no_details i) r.state.components (bare.no_stale i))

  -- what waits stays as it is: nothing
  pub waits_on : (u : List ℕ) → u ≡ m.instance_uid → pending_in u old ≡ pending_after (Some r) (pending_in u old) m
  waits_on u named = λ i. record {
    uid = named i;
    offers = (pending_in u old).offers;
    restart = (bare.stays ∙ ap (λ b. b && not (accepts_restart m.capabilities)) (sym bare.stays)) i;
    stale = (bare.no_stale ∙ ap (stale_under (state_after (Some r) m).components) (sym told_nothing)) i;
  }

  lacks_nothing : lacks_details after ≡ false
  lacks_nothing = ap (λ hash. has_bit after.state.capabilities REPORTS_AVAILABLE_COMPONENTS && (is_hash hash && not (is_some after.details))) components_after ∙ and_false (has_bit after.state.capabilities REPORTS_AVAILABLE_COMPONENTS)

  nothing_due : (u : List ℕ) → dues after (pending_in u old) ≡ no_dues
  nothing_due u = λ i. record {
    restart = bare.stays i && accepts_restart after.state.capabilities;
    offers = offers_for after.state.capabilities after.state.remote after.state.packages (bare.no_offers i);
    details = lacks_nothing i;
  }

  -- the reply has the capabilities alone
  pub plainly_accepted : (server : Profile) (fresh : Option (List ℕ)) (u : List ℕ) → accepting_reply server m fresh (dues after (pending_in u old)) ≡ plain_reply server m.instance_uid
  plainly_accepted server fresh u =
      ap (accepting_reply server m fresh) (nothing_due u)
      ∙ (λ i. record (offering_reply server m.instance_uid no_offers) {
        flags = 0;
        agent_identification = cond (plain.unasked i) (option_map (λ uid. record { new_instance_uid = uid }) fresh) None;
        custom_capabilities = cond (plain.delta i && not (length server.custom.capabilities == 0)) (Some server.custom) None;
      })

-- a later report of the agent at this place
module _ (records : List Record) (rows : List Row) (at : ℕ) (u : List ℕ) (held : IsHeldAt (λ r. r.uid) records u at) (beside : IsHeldAt (λ p. p.uid) (pendings_of records rows) u at)
    (old : Row) (old_is : old ≡ get_or rows at old) (kept : AreKept records rows) (r : Record) (r_is : r ≡ get_or records at r)
    (m : AgentToServer) (named : u ≡ m.instance_uid) (long : length m.instance_uid ≡ 16) (plain : IsPlainNext r m) (bare : IsBare old) where
  found : find_record records m.instance_uid ≡ Some r
  found = ap (find_record records) (sym named) ∙ found_there records rows at u held beside old old_is kept r r_is

  waits : pending_at (pendings_of records rows) m.instance_uid ≡ pending_in u old
  waits = ap (pending_at (pendings_of records rows)) (sym named) ∙ waiting_there records rows at u held beside old old_is kept

  next : is_next (find_record records m.instance_uid) m.sequence_num ≡ true
  next = ap (λ f. is_next f m.sequence_num) found ∙ plain.next

  abbrev now : Profile → ℕ → Served
  now profile limit = record { profile = profile; table = table_by limit records rows }

  pub plainly_judged : (limit : ℕ) → judgement_of limit records m ≡ Accepted
  plainly_judged limit = λ i. cond (not (is_some (found i)) && nat_le limit (length records)) Crowded
      (cond ((long i == 16) && (not (not (is_some (found i)) && nat_le limit (length records)) && (plain.delta i || next i))) Accepted Unaccepted)

  pub plainly_replied : (server : Profile) (limit : ℕ) (fresh : Option (List ℕ)) → table_reply server (table_by limit records rows) m fresh ≡ plain_reply server u
  plainly_replied server limit fresh =
      sym (accepted_reply (now server limit) m fresh long (plainly_judged limit))
      ∙ (λ i. accepting_reply server m fresh (dues (record_after (found i) (waits i).stale m) (waits i)))
      ∙ ap (λ stale. accepting_reply server m fresh (dues (record_after (Some r) stale m) (pending_in u old))) bare.no_stale
      ∙ plainly_accepted r old m plain bare server fresh u
      ∙ ap (plain_reply server) (sym named)

  module _ (new : Record) (new_is : new ≡ record_after (Some r) None m) where
    rows_same : slice_set rows at old ≡ rows
    rows_same = set_again rows at old (subst (λ n. at < n) (sym kept.even) held.within) old_is

    new_there : new ≡ record_after (Some r) (pending_in u old).stale m
    new_there = new_is ∙ ap (λ stale. record_after (Some r) stale m) (sym bare.no_stale)

    pub plain_table : (server : Profile) (limit : ℕ) → table_by limit (slice_set records at new) rows ≡ table_after_report (table_by limit records rows) m
    plain_table server limit =
        ap (table_by limit (slice_set records at new)) (sym rows_same)
        ∙ again_table records rows at u held beside old old_is kept r r_is m named new old new_there (waits_on r old m plain bare u named) limit
        ∙ accepted_table (now server limit) m None long (plainly_judged limit)

    pub plain_kept : AreKept (slice_set records at new) rows
    plain_kept = subst (λ ws. AreKept (slice_set records at new) ws) rows_same (again_kept records rows at u held beside old old_is kept r r_is m named new old new_there (waits_on r old m plain bare u named))
