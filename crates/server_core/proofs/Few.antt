-- No more agents are held than the limit says.
use Rattle.std.proofs.Common.{◌≡◌, ℕ, suc, ◌≤◌, ◌<◌, List, [], ◌∷◌, ◌++◌, length, map, fold, Bool, true, false, cond, not, ◌&&◌, leb, refl, sym, ◌∙◌, ap, subst, arith}
use Rattle.std.specs.declared.cmp.Ordering.TheVariants.{Less, Equal, Greater}
use Rattle.std.specs.Ordering.{match_ordering}
use Rattle.std.specs.Str.{bytes_eq}
use Rattle.std.proofs.lemmas.Bool.{false≢true, leb-false}
use Rattle.std.proofs.lemmas.List.{length-map}
use Rattle.message_values.specs.declared.report.AgentToServer.{AgentToServer}
use Rattle.server_core.specs.History.{Event, Reported, Offered, Ordered, Withdrawn, Forgotten, accepted_events, events_with, is_accepted, is_among, is_crowded_out, is_lasting, is_uid, record_of, reporters, reports_in}
use Rattle.server_core.specs.Rows.{byte_cmp, put_uid}
use Rattle.server_core.specs.Table.{table_within}
use Rattle.server_core.proofs.RowLemmas.{IsAscending-ascending_uids, put_uid-among}
use Rattle.server_core.proofs.DropLemmas.{drop_uid}
use Rattle.server_core.proofs.OthersLemmas.{reporters-others}
use Rattle.server_core.proofs.HistoryLemmas.{reporters-push, reporters-offer, reporters-order, reporters-withdraw}

length-put : (us : List (List ℕ)) (u : List ℕ) → length (put_uid us u) ≤ suc (length us)
length-put [] u = omega arith
length-put (v ∷ us) u =
    let rest = length-put us u in
    elim (byte_cmp u v) as (λ o. length (match_ordering o (u ∷ v ∷ us) (u ∷ us) (v ∷ put_uid us u)) ≤ suc (suc (length us)))
    [ Less ↦ omega arith | Equal ↦ omega arith | Greater ↦ omega (arith, rest) ]

length-drop : (us : List (List ℕ)) (v : List ℕ) → length (drop_uid us v) ≤ length us
length-drop [] v = omega arith
length-drop (u ∷ us) v = by_test (bytes_eq u v) (length-drop us v)
  where
    by_test : (b : Bool) → length (drop_uid us v) ≤ length us → length (cond (not b) (u ∷ drop_uid us v) (drop_uid us v)) ≤ suc (length us)
    by_test true rest = omega (arith, rest)
    by_test false rest = omega (arith, rest)

not_crowded : (named crowded rest : Bool) → (named && (not crowded && rest)) ≡ true → crowded ≡ false
not_crowded true false rest e = refl
not_crowded true true rest e = absurd (false≢true e)
not_crowded false crowded rest e = absurd (false≢true e)

module _ (limit : ℕ) where
  abbrev HasFew : List Event → Type 0
  HasFew es = length (reporters es) ≤ limit

  few_report : (es : List Event) (m : AgentToServer) → HasFew es → is_accepted limit es m ≡ true → HasFew (es ++ Reported m ∷ [])
  few_report es m few accepted = subst (λ us. length us ≤ limit) (sym (reporters-push es m)) (by_among (is_among (reporters es) m.instance_uid) refl)
    where
      room : is_crowded_out limit es m.instance_uid ≡ false
      room = not_crowded (is_uid m.instance_uid) (is_crowded_out limit es m.instance_uid) _ accepted

      by_among : (b : Bool) → is_among (reporters es) m.instance_uid ≡ b → length (put_uid (reporters es) m.instance_uid) ≤ limit
      by_among true there = subst (λ us. length us ≤ limit) (sym (put_uid-among (reporters es) m.instance_uid (IsAscending-ascending_uids (map (λ m. m.instance_uid) (reports_in es))) there)) few
      by_among false absent =
          let more = length-put (reporters es) m.instance_uid in
          let below : length (reporters es) < limit = leb-false limit (length (reporters es)) (sym (ap (λ b. not b && leb limit (length (reporters es))) absent) ∙ room) in
          omega (arith, more, below)

  few_event : (es : List Event) (e : Event) → HasFew es → is_lasting limit es e ≡ true → HasFew (events_with es e)
  few_event es (Reported m) few lasts = few_report es m few lasts
  few_event es (Offered v offer) few lasts = subst (λ us. length us ≤ limit) (sym (reporters-offer es v offer)) few
  few_event es (Ordered v) few lasts = subst (λ us. length us ≤ limit) (sym (reporters-order es v)) few
  few_event es (Withdrawn v) few lasts = subst (λ us. length us ≤ limit) (sym (reporters-withdraw es v)) few
  few_event es (Forgotten v) few lasts =
      let less = length-drop (reporters es) v in
      subst (λ us. length us ≤ limit) (sym (reporters-others v es)) (omega (arith, less, few))

  few_from : (history es : List Event) → HasFew es → HasFew (fold (λ es e. cond (is_lasting limit es e) (events_with es e) es) es history)
  few_from [] es few = few
  few_from (e ∷ history) es few = few_from history (cond (is_lasting limit es e) (events_with es e) es) (by_case (is_lasting limit es e) refl)
    where
      by_case : (b : Bool) → is_lasting limit es e ≡ b → HasFew (cond b (events_with es e) es)
      by_case true lasts = few_event es e few lasts
      by_case false lasts = few

-- the table of a history has no more records than its limit says
pub few : (limit : ℕ) (history : List Event) → length (table_within limit history).records ≤ limit
few limit history =
    let events = accepted_events limit history in
    subst (λ n. n ≤ limit) (sym (length-map (reporters events) (record_of events))) (few_from limit history [] (omega arith))
