-- Of which agents a point looks up what became of the offer.
use Rattle.std.specs.Prelude.{◌≡◌, ℕ, List, [], Bool, true, false, ◌||◌}
use Rattle.server_core.specs.declared.rows.Record.{Record}
use Rattle.server_core.specs.History.{is_among}
use Rattle.server_core.specs.Table.{find_record}
use Rattle.server_waves.specs.declared.candidates.Candidates.{Candidates}
use Rattle.server_waves.specs.Waves.{has_applied, has_failed, is_decided, others, passes, those}

-- The agent is one of them.
abbrev pub is_candidate : Candidates → List ℕ → Bool
is_candidate candidates uid = candidates.all || is_among candidates.uids.items uid

-- The agent is one of the candidates, or one of those that were heard.
abbrev pub is_candidate_or_heard : Candidates → List (List ℕ) → List ℕ → Bool
is_candidate_or_heard candidates heard uid = is_candidate candidates uid || is_among heard uid

-- Of each of these agents, but for those that pass the test, it isn't known what became of the offer.
abbrev pub AreUndecidedBut : (List ℕ → Bool) → (Record → Bool) → List ℕ → List Record → List (List ℕ) → Type 0
AreUndecidedBut but fine hash records uids =
    (uid : List ℕ) → is_among uids uid ≡ true → but uid ≡ false → passes (is_decided fine hash) (find_record records uid) ≡ false

-- It isn't known of any of these agents what became of the offer: each that is among them is open,
abbrev pub IsUnknownOf : (Record → Bool) → List ℕ → List Record → List (List ℕ) → Type 0
IsUnknownOf fine hash records uids = (uid : List ℕ) → is_among uids uid ≡ true → passes (is_decided fine hash) (find_record records uid) ≡ false

-- and to sort them is to leave them.
pub record AreUndecided (fine : Record → Bool) (hash : List ℕ) (records : List Record) (uids : List (List ℕ)) : Type 0 where
  pub stay : others (is_decided fine hash) records uids ≡ uids
  pub none_applied : those (has_applied fine hash) records uids ≡ []
  pub none_failed : those (has_failed fine hash) records uids ≡ []
