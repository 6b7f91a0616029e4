-- What the events of others say: nothing of the agent, and of each other agent what all events say.
use Rattle.std.proofs.Common.{◌≡◌, ℕ, List, [], ◌∷◌, map, filter, Bool, true, false, cond, not, ◌&&◌, Some, None, Option, refl, sym, ◌∙◌, ap}
use Rattle.std.specs.Prelude.{unwrap_or}
use Rattle.std.specs.List.{cons_option}
use Rattle.std.specs.Option.{option_map, option_or}
use Rattle.std.specs.Str.{bytes_eq}
use Rattle.std.specs.Cmp.Lexicographic.{bytes_decides}
use Rattle.std.proofs.lemmas.Bool.{false≢true}
use Rattle.server_core.specs.Offers.{Offer, config_in, packages_in, connection_in, no_offers}
use Rattle.server_core.specs.Replies.{accepts_restart}
use Rattle.server_core.specs.History.{Event, Reported, Offered, Ordered, Withdrawn, Forgotten, agent_of, report_in, reports_in, reports_of, last_value, from_last_full, record_of, offer_word, standing_offers, restart_word, restart_waits, pending_of, ascending_uids, reporters, events_of_others}
use Rattle.server_core.proofs.DropLemmas.{drop_uid, drop-ascending_uids}
use Rattle.server_core.proofs.HistoryLemmas.{said, told_by, waits}

-- ---- the last values among some

or_none : {T : Type 0} (o : Option T) → option_or o None ≡ o
or_none None = refl
or_none (Some x) = refl

module _ {X T : Type 0} (value : X → Option T) (p : X → Bool) where
  -- of those that are left out none has a value
  last_value-filter : ((x : X) → p x ≡ false → value x ≡ None) → (xs : List X) → last_value value (filter p xs) ≡ last_value value xs
  last_value-filter silent [] = refl
  last_value-filter silent (x ∷ xs) = by_test (p x) refl (last_value-filter silent xs)
    where
      by_test : (b : Bool) → p x ≡ b → last_value value (filter p xs) ≡ last_value value xs → last_value value (cond b (x ∷ filter p xs) (filter p xs)) ≡ option_or (last_value value xs) (value x)
      by_test true e rest = ap (λ o. option_or o (value x)) rest
      by_test false e rest = rest ∙ sym (ap (option_or (last_value value xs)) (silent x e) ∙ or_none (last_value value xs))

  -- of those that stay none has a value
  last_value-silent : ((x : X) → p x ≡ true → value x ≡ None) → (xs : List X) → last_value value (filter p xs) ≡ None
  last_value-silent silent [] = refl
  last_value-silent silent (x ∷ xs) = by_test (p x) refl (last_value-silent silent xs)
    where
      by_test : (b : Bool) → p x ≡ b → last_value value (filter p xs) ≡ None → last_value value (cond b (x ∷ filter p xs) (filter p xs)) ≡ None
      by_test true e rest = ap (λ o. option_or o (value x)) rest ∙ silent x e
      by_test false e rest = rest

-- ---- the words of an event of another agent

offer_word-other : {T : Type 0} (kind : Offer → Option T) (u : List ℕ) (e : Event) → bytes_eq (agent_of e) u ≡ false → offer_word kind u e ≡ None
offer_word-other kind u (Reported m) apart = refl
offer_word-other kind u (Offered v offer) apart = ap (λ b. cond b (option_map Some (kind offer)) None) apart
offer_word-other kind u (Ordered v) apart = refl
offer_word-other kind u (Withdrawn v) apart = ap (λ b. cond b (Some None) None) apart
offer_word-other kind u (Forgotten v) apart = refl

restart_word-other : (u : List ℕ) (e : Event) → bytes_eq (agent_of e) u ≡ false → restart_word u e ≡ None
restart_word-other u (Reported m) apart = ap (λ b. cond (b && accepts_restart m.capabilities) (Some false) None) apart
restart_word-other u (Offered v offer) apart = refl
restart_word-other u (Ordered v) apart = ap (λ b. cond b (Some true) None) apart
restart_word-other u (Withdrawn v) apart = ap (λ b. cond b (Some false) None) apart
restart_word-other u (Forgotten v) apart = refl

-- ---- the events of others than v

module _ (v : List ℕ) where
  abbrev is_other : Event → Bool
  is_other e = not (bytes_eq (agent_of e) v)

  is_apart : (b : Bool) → not b ≡ true → b ≡ false
  is_apart true e = absurd (false≢true e)
  is_apart false e = refl

  is_own : (b : Bool) → not b ≡ false → b ≡ true
  is_own true e = refl
  is_own false e = absurd (false≢true (sym e))

  of_another : (u : List ℕ) → bytes_eq v u ≡ false → (e : Event) → not (bytes_eq (agent_of e) v) ≡ false → bytes_eq (agent_of e) u ≡ false
  of_another u apart e own = ap (λ w. bytes_eq w u) ((bytes_decides (agent_of e) v).0 (is_own (bytes_eq (agent_of e) v) own)) ∙ apart

  no_report : (e : Event) → report_in e ≡ None → (b : Bool) (es : List Event) → reports_in (cond (not b) (e ∷ es) es) ≡ reports_in es
  no_report e silent true es = refl
  no_report e silent false es = ap (λ o. cons_option o (reports_in es)) silent

  reporting-others : (es : List Event) → map (λ m. m.instance_uid) (reports_in (events_of_others v es)) ≡ drop_uid (map (λ m. m.instance_uid) (reports_in es)) v
  reporting-others [] = refl
  reporting-others (Reported m ∷ es) = by_test (bytes_eq m.instance_uid v) (reporting-others es)
    where
      by_test : (b : Bool) → map (λ m. m.instance_uid) (reports_in (events_of_others v es)) ≡ drop_uid (map (λ m. m.instance_uid) (reports_in es)) v
          → map (λ m. m.instance_uid) (reports_in (cond (not b) (Reported m ∷ events_of_others v es) (events_of_others v es)))
          ≡ cond (not b) (m.instance_uid ∷ drop_uid (map (λ m. m.instance_uid) (reports_in es)) v) (drop_uid (map (λ m. m.instance_uid) (reports_in es)) v)
      by_test true rest = rest
      by_test false rest = ap (λ us. m.instance_uid ∷ us) rest
  reporting-others (Offered u offer ∷ es) = ap (map (λ m. m.instance_uid)) (no_report (Offered u offer) refl (bytes_eq u v) (events_of_others v es)) ∙ reporting-others es
  reporting-others (Ordered u ∷ es) = ap (map (λ m. m.instance_uid)) (no_report (Ordered u) refl (bytes_eq u v) (events_of_others v es)) ∙ reporting-others es
  reporting-others (Withdrawn u ∷ es) = ap (map (λ m. m.instance_uid)) (no_report (Withdrawn u) refl (bytes_eq u v) (events_of_others v es)) ∙ reporting-others es
  reporting-others (Forgotten u ∷ es) = ap (map (λ m. m.instance_uid)) (no_report (Forgotten u) refl (bytes_eq u v) (events_of_others v es)) ∙ reporting-others es

  -- all who reported but the agent
  pub reporters-others : (es : List Event) → reporters (events_of_others v es) ≡ drop_uid (reporters es) v
  reporters-others es = ap ascending_uids (reporting-others es) ∙ sym (drop-ascending_uids (map (λ m. m.instance_uid) (reports_in es)) v)

  -- nothing waits for the agent
  pub offers-forgotten : (es : List Event) → standing_offers v (events_of_others v es) ≡ no_offers
  offers-forgotten es = λ i. record {
    config = unwrap_or (last_value-silent (offer_word config_in v) is_other (λ e apart. offer_word-other config_in v e (is_apart (bytes_eq (agent_of e) v) apart)) es i) None;
    packages = unwrap_or (last_value-silent (offer_word packages_in v) is_other (λ e apart. offer_word-other packages_in v e (is_apart (bytes_eq (agent_of e) v) apart)) es i) None;
    connection = unwrap_or (last_value-silent (offer_word connection_in v) is_other (λ e apart. offer_word-other connection_in v e (is_apart (bytes_eq (agent_of e) v) apart)) es i) None;
  }

  pub restart-forgotten : (es : List Event) → restart_waits v (events_of_others v es) ≡ false
  restart-forgotten es = ap (λ o. unwrap_or o false) (last_value-silent (restart_word v) is_other (λ e apart. restart_word-other v e (is_apart (bytes_eq (agent_of e) v) apart)) es)

  -- another agent
  module _ (u : List ℕ) (apart : bytes_eq v u ≡ false) where
    reports-others : (es : List Event) → reports_of u (events_of_others v es) ≡ reports_of u es
    reports-others [] = refl
    reports-others (Reported m ∷ es) = by_test (bytes_eq m.instance_uid v) refl (reports-others es)
      where
        by_test : (b : Bool) → bytes_eq m.instance_uid v ≡ b → reports_of u (events_of_others v es) ≡ reports_of u es
            → reports_of u (cond (not b) (Reported m ∷ events_of_others v es) (events_of_others v es)) ≡ cond (bytes_eq m.instance_uid u) (m ∷ reports_of u es) (reports_of u es)
        by_test true own rest = rest ∙ sym (ap (λ b. cond b (m ∷ reports_of u es) (reports_of u es)) (ap (λ w. bytes_eq w u) ((bytes_decides m.instance_uid v).0 own) ∙ apart))
        by_test false own rest = ap (λ ms. cond (bytes_eq m.instance_uid u) (m ∷ ms) ms) rest
    reports-others (Offered w offer ∷ es) = ap (filter (λ m. bytes_eq m.instance_uid u)) (no_report (Offered w offer) refl (bytes_eq w v) (events_of_others v es)) ∙ reports-others es
    reports-others (Ordered w ∷ es) = ap (filter (λ m. bytes_eq m.instance_uid u)) (no_report (Ordered w) refl (bytes_eq w v) (events_of_others v es)) ∙ reports-others es
    reports-others (Withdrawn w ∷ es) = ap (filter (λ m. bytes_eq m.instance_uid u)) (no_report (Withdrawn w) refl (bytes_eq w v) (events_of_others v es)) ∙ reports-others es
    reports-others (Forgotten w ∷ es) = ap (filter (λ m. bytes_eq m.instance_uid u)) (no_report (Forgotten w) refl (bytes_eq w v) (events_of_others v es)) ∙ reports-others es

    pub record_of-others : (es : List Event) → record_of (events_of_others v es) u ≡ record_of es u
    record_of-others es = ap (λ ms. said u (from_last_full ms) (last_value told_by ms)) (reports-others es)

    pub offers-others : (es : List Event) → standing_offers u (events_of_others v es) ≡ standing_offers u es
    offers-others es = λ i. record {
      config = unwrap_or (last_value-filter (offer_word config_in u) is_other (λ e own. offer_word-other config_in u e (of_another u apart e own)) es i) None;
      packages = unwrap_or (last_value-filter (offer_word packages_in u) is_other (λ e own. offer_word-other packages_in u e (of_another u apart e own)) es i) None;
      connection = unwrap_or (last_value-filter (offer_word connection_in u) is_other (λ e own. offer_word-other connection_in u e (of_another u apart e own)) es i) None;
    }

    pub restart-others : (es : List Event) → restart_waits u (events_of_others v es) ≡ restart_waits u es
    restart-others es = ap (λ o. unwrap_or o false) (last_value-filter (restart_word u) is_other (λ e own. restart_word-other u e (of_another u apart e own)) es)

    pub pending_of-others : (es : List Event) → pending_of (events_of_others v es) u ≡ pending_of es u
    pending_of-others es = λ i. waits u (reports-others es i) (offers-others es i) (restart-others es i)
