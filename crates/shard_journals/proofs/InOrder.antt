-- Reports handled one after the other.
use Rattle.std.proofs.Common.{◌≡◌, ◌≢◌, ℕ, ◌+◌, ◌%◌, ◌<◌, List, [], ◌∷◌, ◌++◌, length, get_or, take, Some, ◌⊎◌, inl, inr, sym, ◌∙◌, ap, subst, arith}
use Rattle.std.specs.Prelude.{slice_get}
use Rattle.std.proofs.lemmas.List.{length-append, length-take-le, take_more}
use Rattle.message_values.specs.declared.report.AgentToServer.{AgentToServer}
use Rattle.shard_journals.specs.declared.rows.Row.{Row}
use Rattle.shard_journals.specs.Fleets.{IsJournalOf}
use Rattle.shard_journals.specs.Histories.{due_after}
use Rattle.shard_journals.specs.Sharding.{shard_of}
use Rattle.shard_journals.proofs.FleetLemmas.{journal_push, journal_stays}
use Rattle.shard_journals.proofs.Places.{one_of}

next_item : (items : List AgentToServer) (at : ℕ) (m : AgentToServer) → at < length items → m ≡ get_or items at m → take (at + 1) items ≡ take at items ++ m ∷ []
next_item items at m within is = take_more items at m within ∙ ap (λ (x : AgentToServer). take at items ++ x ∷ []) (sym is)

module _ (items : List AgentToServer) (at : ℕ) (m : AgentToServer) (desks shard : ℕ) (rows : List Row) (within : at < length items) (here : m ≡ get_or items at m)
    (is : IsJournalOf (take at items) desks shard rows) where
  pub of_shard : (row : Row) → shard_of m.instance_uid ≡ shard → row ≡ record { desk = at % desks; item = at; report = m; reply = due_after rows m }
      → IsJournalOf (take (at + 1) items) desks shard (rows ++ row ∷ [])
  of_shard row own row_is =
      let len : at ≡ length (take at items) = sym (length-take-le at items (omega (arith, within))) in
      let row_is_last : row ≡ record { desk = length (take at items) % desks; item = length (take at items); report = m; reply = due_after rows m } =
      row_is ∙ ap (λ (n : ℕ). record { desk = n % desks; item = n; report = m; reply = due_after rows m }) len in
      subst (λ (xs : List AgentToServer). IsJournalOf xs desks shard (rows ++ row ∷ [])) (sym (next_item items at m within here))
      (journal_push (take at items) m desks shard rows row own row_is_last is)

  pub of_another : shard_of m.instance_uid ≢ shard → IsJournalOf (take (at + 1) items) desks shard rows
  of_another other =
      subst (λ (xs : List AgentToServer). IsJournalOf xs desks shard rows) (sym (next_item items at m within here)) (journal_stays (take at items) m desks shard rows other is)

-- one journal more
pub one_more : (items : List AgentToServer) (desks : ℕ) (journals : List (List Row)) (new : List Row) (n : ℕ) → length journals ≡ n
    → ((shard : ℕ) (rows : List Row) → slice_get journals shard ≡ Some rows → IsJournalOf items desks shard rows) → IsJournalOf items desks n new
    → (shard : ℕ) (rows : List Row) → slice_get (journals ++ new ∷ []) shard ≡ Some rows → IsJournalOf items desks shard rows
one_more items desks journals new n len each last shard rows at = by_place (one_of journals new shard rows at)
  where
    by_place : ((slice_get journals shard ≡ Some rows) ⊎ ((shard ≡ length journals) × (new ≡ rows))) → IsJournalOf items desks shard rows
    by_place (inl before) = each shard rows before
    by_place (inr here) = subst (λ (s : ℕ). IsJournalOf items desks s rows) (sym (here.0 ∙ len)) (subst (λ (rs : List Row). IsJournalOf items desks n rs) here.1 last)

pub one_longer : (journals : List (List Row)) (new : List Row) → length (journals ++ new ∷ []) ≡ length journals + 1
one_longer journals new = length-append journals (new ∷ [])
