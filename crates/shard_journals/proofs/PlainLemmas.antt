-- After reports alone nothing is offered or ordered.
use Rattle.std.proofs.Common.{◌≡◌, ℕ, List, [], ◌∷◌, ◌++◌, length, Bool, true, false, cond, not, ◌&&◌, ◌==◌, Option, None, Some, inl, inr, refl, sym, ◌∙◌, ap, subst}
use Rattle.std.specs.Prelude.{fold, unwrap_or, codes}
use Rattle.std.specs.Option.{option_map, option_or}
use Rattle.message_values.specs.declared.reply.AgentIdentification.{AgentIdentification}
use Rattle.message_values.specs.declared.reply.ServerErrorResponse.{ServerErrorResponse}
use Rattle.message_values.specs.declared.report.AgentToServer.{AgentToServer}
use Rattle.message_deltas.specs.Obligations.{is_full}
use Rattle.server_core.specs.declared.rows.TheConstants.{AGENT_LIMIT}
use Rattle.server_core.specs.declared.offers.Offers.{Offers}
use Rattle.server_core.specs.History.{Event, Reported, last_value, offer_word, restart_word, restart_waits, standing_offers, record_of, is_uid, is_lasting, events_with, is_accepted, is_crowded_out, dues_of, verdict_of}
use Rattle.server_core.specs.declared.offers.Offer.{Offer}
use Rattle.server_core.specs.Offers.{config_in, connection_in, no_offers, offers_for, packages_in}
use Rattle.server_core.specs.Replies.{Dues, accepts_restart, Unidentified, CrowdedOut, Passed, Taken, accepting_reply, asking_reply, bad_identifier, custom_due, error_alone, error_reply, identification, offering_reply, reply_to, restarting_reply, too_many_agents}
use Rattle.server_core.specs.Lengths.{fits_reply}
use Rattle.shard_journals.specs.declared.rows.Row.{Row}
use Rattle.shard_journals.specs.Histories.{due_after, fleet_profile, reported}
use Rattle.shard_journals.specs.PlainReplies.{IsPlainTo, error_text}
use Rattle.shard_journals.proofs.HistoryLemmas.{reported-push}

-- ---- the events that count are reports

abbrev step : List Event → Event → List Event
step events e = cond (is_lasting AGENT_LIMIT events e) (events_with events e) events

reports_count : (before rows : List Row) → (kept : List Row) × (fold step (reported before) (reported rows) ≡ reported kept)
reports_count before [] = (before, refl)
reports_count before (r ∷ rows) = by_case (is_lasting AGENT_LIMIT (reported before) (Reported r.report)) (reports_count (before ++ r ∷ []) rows) (reports_count before rows)
  where
    by_case : (b : Bool) → ((kept : List Row) × (fold step (reported (before ++ r ∷ [])) (reported rows) ≡ reported kept)) → ((kept : List Row) × (fold step (reported before) (reported rows) ≡ reported kept))
        → (kept : List Row) × (fold step (cond b (reported before ++ Reported r.report ∷ []) (reported before)) (reported rows) ≡ reported kept)
    by_case true rest same =
        (rest.0, ap (λ events. fold step events (reported rows)) (sym (reported-push before r)) ∙ rest.1)
    by_case false rest same = same

nothing_offered : {T : Type 0} (kind : Offer → Option T) (uid : List ℕ) (rows : List Row) → last_value (offer_word kind uid) (reported rows) ≡ None
nothing_offered kind uid [] = refl
nothing_offered kind uid (r ∷ rows) = ap (λ o. option_or o None) (nothing_offered kind uid rows)

none_stand : (uid : List ℕ) (rows : List Row) → standing_offers uid (reported rows) ≡ no_offers
none_stand uid rows = λ i. record {
  config = unwrap_or (nothing_offered config_in uid rows i) None;
  packages = unwrap_or (nothing_offered packages_in uid rows i) None;
  connection = unwrap_or (nothing_offered connection_in uid rows i) None;
}

nothing_ordered : (uid : List ℕ) (rows : List Row) → restart_waits uid (reported rows) ≡ false
nothing_ordered uid [] = refl
nothing_ordered uid (r ∷ rows) = by_word (last_value (restart_word uid) (reported rows)) (nothing_ordered uid rows) _
  where
    by_word : (o : Option Bool) → unwrap_or o false ≡ false → (b : Bool) → unwrap_or (option_or o (cond b (Some false) None)) false ≡ false
    by_word None e true = refl
    by_word None e false = refl
    by_word (Some w) e b = e

-- ---- the replies

unidentified : (m : AgentToServer) → identification m None ≡ None
unidentified m = by_bit _
  where
    by_bit : (b : Bool) → cond b (option_map {U = AgentIdentification} (λ (uid : List ℕ). record { new_instance_uid = uid }) None) None ≡ None
    by_bit true = refl
    by_bit false = refl

no_list : (m : AgentToServer) → custom_due fleet_profile m ≡ None
no_list m = by_case (is_full m)
  where
    by_case : (b : Bool) → cond (b && not (length fleet_profile.custom.capabilities == 0)) (Some fleet_profile.custom) None ≡ None
    by_case true = refl
    by_case false = refl

accepting_plain : (m : AgentToServer) (due : Dues) → due.restart ≡ false → due.offers ≡ no_offers → IsPlainTo m (accepting_reply fleet_profile m None due)
accepting_plain m due calm none =
    subst (λ b. IsPlainTo m (cond b (restarting_reply fleet_profile m.instance_uid) (record (offering_reply fleet_profile m.instance_uid due.offers) {
      flags = cond due.details 2 0;
      agent_identification = identification m None;
      custom_capabilities = custom_due fleet_profile m;
    }))) (sym calm) (record {
      identifier = inl refl;
      error = tt;
      config = ap (λ (o : Offers). o.config) none;
      connection = ap (λ (o : Offers). o.connection) none;
      packages = ap (λ (o : Offers). o.packages) none;
      identification = unidentified m;
      command = refl;
      capabilities = no_list m;
      message = refl;
    })

asking_plain : (m : AgentToServer) → IsPlainTo m (asking_reply fleet_profile m None)
asking_plain m = record {
  identifier = inl refl;
  error = tt;
  config = refl;
  connection = refl;
  packages = refl;
  identification = unidentified m;
  command = refl;
  capabilities = refl;
  message = refl;
}

error_plain : (m : AgentToServer) (e : ServerErrorResponse) → e.error_message ≡ error_text m → IsPlainTo m (error_reply m e)
error_plain m e text = by_case (fits_reply (error_alone m.instance_uid e))
  where
    by_case : (b : Bool) → IsPlainTo m (cond b (error_alone m.instance_uid e) (error_alone [] e))
    by_case true = record { identifier = inl refl; error = text; config = refl; connection = refl; packages = refl; identification = refl; command = refl; capabilities = refl; message = refl }
    by_case false = record { identifier = inr refl; error = text; config = refl; connection = refl; packages = refl; identification = refl; command = refl; capabilities = refl; message = refl }

module _ (rows : List Row) (m : AgentToServer) where
  -- nothing is due but what the report itself asks for
  taken_plain : IsPlainTo m (accepting_reply fleet_profile m None (dues_of (reported rows) m))
  taken_plain =
      let r = record_of (reported rows ++ Reported m ∷ []) m.instance_uid in
      accepting_plain m (dues_of (reported rows) m)
      (ap (λ b. b && accepts_restart r.state.capabilities) (nothing_ordered m.instance_uid rows))
      (ap (offers_for r.state.capabilities r.state.remote r.state.packages) (none_stand m.instance_uid rows))

  verdict_plain : IsPlainTo m (reply_to fleet_profile m None (verdict_of AGENT_LIMIT (reported rows) m))
  verdict_plain = by_uid (is_uid m.instance_uid) refl
    where
      by_accepted : (b : Bool) → IsPlainTo m (reply_to fleet_profile m None (cond b (Taken (dues_of (reported rows) m)) Passed))
      by_accepted true = taken_plain
      by_accepted false = asking_plain m

      by_crowd : is_uid m.instance_uid ≡ true → (b : Bool) → IsPlainTo m (reply_to fleet_profile m None (cond b CrowdedOut (cond (is_accepted AGENT_LIMIT (reported rows) m) (Taken (dues_of (reported rows) m)) Passed)))
      by_crowd e true = error_plain m too_many_agents (ap (λ b. cond b (codes "too many agents") (codes "bad instance_uid")) (sym e))
      by_crowd e false = by_accepted (is_accepted AGENT_LIMIT (reported rows) m)

      by_uid : (b : Bool) → is_uid m.instance_uid ≡ b → IsPlainTo m (reply_to fleet_profile m None (cond (not b) Unidentified (cond (is_crowded_out AGENT_LIMIT (reported rows) m.instance_uid) CrowdedOut (cond (is_accepted AGENT_LIMIT (reported rows) m) (Taken (dues_of (reported rows) m)) Passed))))
      by_uid true e = by_crowd e (is_crowded_out AGENT_LIMIT (reported rows) m.instance_uid)
      by_uid false e = error_plain m bad_identifier (ap (λ b. cond b (codes "too many agents") (codes "bad instance_uid")) (sym e))

pub due_plain : (rows : List Row) (m : AgentToServer) → IsPlainTo m (due_after rows m)
due_plain rows m =
    let kept = reports_count [] rows in
    subst (λ events. IsPlainTo m (reply_to fleet_profile m None (verdict_of AGENT_LIMIT events m))) (sym kept.1) (verdict_plain kept.0 m)
