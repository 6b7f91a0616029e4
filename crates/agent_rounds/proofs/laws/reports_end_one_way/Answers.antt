use Rattle.std.proofs.Common.{◌≡◌, ◌⊎◌, Bool, true, false, inl, inr, refl, sym, ◌∙◌}
use Rattle.std.specs.Prelude.{◌&&◌, not}
use Rattle.std.proofs.lemmas.Bool.{false≢true}
use Rattle.agent_rules.specs.Reports.{fits_message, message_of}
use Rattle.agent_rules.specs.Half.{entry_of}
use Rattle.agent_rules.specs.Keeping.{Report, fits}
use Rattle.agent_rules.specs.Calls.{has_number}
use Rattle.agent_rounds.specs.Stages.{IsSpent, Stage}
use Rattle.agent_rounds.proofs.laws.reports_end_one_way.Goals as goal

record Due (small number room : Bool) : Type 0 where
  small_is : small ≡ true
  number_is : number ≡ true
  room_is : room ≡ true

due : (awaits small number room : Bool) → (not awaits && (small && (number && room))) ≡ true → Due small number room
due false true true true all = record { small_is = refl; number_is = refl; room_is = refl }
due false true true false all = absurd (false≢true all)
due false true false room all = absurd (false≢true all)
due false false number room all = absurd (false≢true all)
due true small number room all = absurd (false≢true all)

of_stage : (s : Stage) → (not s.half.awaits && (fits_message (message_of (entry_of s.half)) && (has_number s.half && fits s.half Report))) ≡ true
    → Due (fits_message (message_of (entry_of s.half))) (has_number s.half) (fits s.half Report)
of_stage s all = due s.half.awaits (fits_message (message_of (entry_of s.half))) (has_number s.half) (fits s.half Report) all

both : (b : Bool) → b ≡ true → b ≡ false → ⊥
both b is isnt = false≢true (sym isnt ∙ is)

not_large : (s : Stage) → Due (fits_message (message_of (entry_of s.half))) (has_number s.half) (fits s.half Report)
    → (fits_message (message_of (entry_of s.half)) ≡ false) ⊎ ((has_number s.half ≡ true) × (fits s.half Report ≡ false)) → ⊥
not_large s d (inl large) = both _ d.small_is large
not_large s d (inr full) = both _ d.room_is full.1

apart : (s : Stage) → ((has_number s.half ≡ false) ⊎ IsSpent s Report) → fits_message (message_of (entry_of s.half)) ≡ true
    → (fits_message (message_of (entry_of s.half)) ≡ false) ⊎ ((has_number s.half ≡ true) × (fits s.half Report ≡ false)) → ⊥
apart s none small (inl large) = both _ small large
apart s (inl none) small (inr full) = both _ full.0 none
apart s (inr spent) small (inr full) = both _ spent.2 full.1

pub returns-clause-small : goal.returns-clause-small
returns-clause-small c = λ s t bytes made. (of_stage s made.1).small_is

pub returns-clause-numbered : goal.returns-clause-numbered
returns-clause-numbered c = λ s t bytes made. (of_stage s made.1).number_is

pub returns-clause-roomy : goal.returns-clause-roomy
returns-clause-roomy c = λ s t bytes made. (of_stage s made.1).room_is

pub returns-clause-not_large : goal.returns-clause-not_large
returns-clause-not_large c = λ s t u bytes made large. not_large s (of_stage s made.1) large.0

pub returns-clause-apart : goal.returns-clause-apart
returns-clause-apart c = λ s t u spent large. apart s spent.0.1 spent.0.0 large.0

pub returns-clause-due : goal.returns-clause-due
returns-clause-due c = λ s t made. made.0
