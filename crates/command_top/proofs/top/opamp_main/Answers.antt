use Rattle.message_handlers.specs.Asking.{MayAnswer}
use Rattle.std.proofs.Common.{refl, subst, inl, inr}
use Rattle.command_words.specs.Meaning.{NameNone}
use Rattle.command_top.specs.Words.{CanBegin, asked_by}
use Rattle.command_top.proofs.NotedCommands.{fleet_noted, nothing_noted, task_noted}
use Rattle.command_top.proofs.Outcomes.{fleet_outcome, nothing_done, task_outcome}
use Rattle.command_top.proofs.top.opamp_main.Goals as goal

-- ---- `fleet`

pub returns-in-Ok-Fleet-clause-ran : goal.returns-in-Ok-Fleet-clause-ran
returns-in-Ok-Fleet-clause-ran g c = λ command said.
    let same = c.one_command.ensures.one c.args.words.now (asked_by c.in-Ok-Fleet.field-0) command c.in-Ok-Fleet.ensures.read said in
    fleet_outcome _ c.in-Ok-Fleet.field-0 command _ _ _ c.noted_fleet.result same c.in-Ok-Fleet.desks c.in-Ok-Fleet.field-0-is (record {
      outcome = c.noted_fleet.ensures.outcome;
      silent = c.noted_fleet.ensures.silent;
      agents_kept = record { disk = refl; folder = refl; dialer = refl; clock = refl };
      wire_kept = refl;
      entropy_kept = refl;
      lab_kept = refl;
    })

pub noted_fleet-requires-clause-desks : goal.noted_fleet-requires-clause-desks
noted_fleet-requires-clause-desks g c = λ κs lives. subst CanBegin c.in-Ok-Fleet.field-0-is c.in-Ok-Fleet.ensures.can_begin

pub returns-in-Ok-Fleet-clause-words : goal.returns-in-Ok-Fleet-clause-words
returns-in-Ok-Fleet-clause-words g c = λ two. absurd (c.noted_fleet.ensures.no_wrong_words two)

pub returns-in-Ok-Fleet-clause-other_words : goal.returns-in-Ok-Fleet-clause-other_words
returns-in-Ok-Fleet-clause-other_words g c = λ none. absurd (none (asked_by c.in-Ok-Fleet.field-0) c.in-Ok-Fleet.ensures.read)

pub returns-in-Ok-Fleet-clause-untouched : goal.returns-in-Ok-Fleet-clause-untouched
returns-in-Ok-Fleet-clause-untouched g c = λ either. elim either [
  | inl two ↦ absurd (c.noted_fleet.ensures.no_wrong_words two)
  | inr none ↦ absurd (none (asked_by c.in-Ok-Fleet.field-0) c.in-Ok-Fleet.ensures.read)
]

pub returns-in-Ok-Fleet-clause-store_fault : goal.returns-in-Ok-Fleet-clause-store_fault
returns-in-Ok-Fleet-clause-store_fault g c = λ is. absurd (c.noted_fleet.ensures.no_store_fault is)

pub returns-in-Ok-Fleet-clause-outside_fault : goal.returns-in-Ok-Fleet-clause-outside_fault
returns-in-Ok-Fleet-clause-outside_fault g c = λ is. absurd (c.noted_fleet.ensures.no_outside_fault is)

-- ---- every other command

pub returns-in-Ok-Task-clause-ran : goal.returns-in-Ok-Task-clause-ran
returns-in-Ok-Task-clause-ran g c = λ command said.
    let same = c.one_command.ensures.one c.args.words.now (asked_by c.in-Ok-Task.field-0) command c.in-Ok-Task.ensures.read said in
    task_outcome _ c.in-Ok-Task.field-0 command _ _ _ c.opamp_run.result same c.in-Ok-Task.task c.in-Ok-Task.field-0-is c.opamp_run.ensures.ran

pub opamp_run-requires-clause-unplayed : goal.opamp_run-requires-clause-unplayed
opamp_run-requires-clause-unplayed g c = c.requires.unplayed

pub opamp_run-requires-clause-can_run : goal.opamp_run-requires-clause-can_run
opamp_run-requires-clause-can_run g c = subst CanBegin c.in-Ok-Task.field-0-is c.in-Ok-Task.ensures.can_begin

pub returns-in-Ok-Task-clause-words : goal.returns-in-Ok-Task-clause-words
returns-in-Ok-Task-clause-words g c = λ two. absurd (c.opamp_run.ensures.no_wrong_words two)

pub returns-in-Ok-Task-clause-other_words : goal.returns-in-Ok-Task-clause-other_words
returns-in-Ok-Task-clause-other_words g c = λ none. absurd (none (asked_by c.in-Ok-Task.field-0) c.in-Ok-Task.ensures.read)

pub returns-in-Ok-Task-clause-untouched : goal.returns-in-Ok-Task-clause-untouched
returns-in-Ok-Task-clause-untouched g c = λ either. elim either [
  | inl two ↦ absurd (c.opamp_run.ensures.no_wrong_words two)
  | inr none ↦ absurd (none (asked_by c.in-Ok-Task.field-0) c.in-Ok-Task.ensures.read)
]

-- ---- words that name nothing

pub returns-in-Err-Refused-clause-ran : goal.returns-in-Err-Refused-clause-ran
returns-in-Err-Refused-clause-ran g c = λ command said.
    let none : NameNone c.args.words.now = (rw c.in-Err-Refused.field-0-is at c.in-Err-Refused.ensures.refused) refl in
    absurd (none command said)

pub returns-in-Err-Refused-clause-words : goal.returns-in-Err-Refused-clause-words
returns-in-Err-Refused-clause-words g c = λ two. (rw c.in-Err-Refused.field-0-is at c.in-Err-Refused.ensures.refused) refl

-- ---- no memory for the words

pub returns-clause-ran : goal.returns-clause-ran
returns-clause-ran g c = λ command said. nothing_done (record { stream = c.nothing_is_read.ensures.outcome; simulate = c.nothing_is_played.ensures.simulate; storm = c.nothing_is_played.ensures.storm; fleet = c.nothing_is_handled.ensures.outcome }) _ command _ _ c.requires.unplayed (record { source = refl; sink = refl; disk = refl; folder = refl; wire = refl; dialer = refl; clock = refl; entropy = refl; lab = refl })

-- ---- what is noted

pub returns-in-Ok-Fleet-clause-noted : goal.returns-in-Ok-Fleet-clause-noted
returns-in-Ok-Fleet-clause-noted g c = λ command said.
    let same = c.one_command.ensures.one c.args.words.now (asked_by c.in-Ok-Fleet.field-0) command c.in-Ok-Fleet.ensures.read said in
    fleet_noted (MayAnswer (λ b. (goal.Handler-dyn g b).answers b.1) c.args.handlers.now) _ _ c.noted_fleet.result _ _ c.in-Ok-Fleet.field-0 command c.in-Ok-Fleet.desks same c.in-Ok-Fleet.field-0-is c.noted_fleet.ensures.noted

pub returns-in-Ok-Fleet-clause-usage_noted : goal.returns-in-Ok-Fleet-clause-usage_noted
returns-in-Ok-Fleet-clause-usage_noted g c = λ two. absurd (c.noted_fleet.ensures.no_wrong_words two)

pub returns-in-Ok-Fleet-clause-memory_noted : goal.returns-in-Ok-Fleet-clause-memory_noted
returns-in-Ok-Fleet-clause-memory_noted g c = λ none five. absurd (none (asked_by c.in-Ok-Fleet.field-0) c.in-Ok-Fleet.ensures.read)

pub returns-in-Ok-Task-clause-noted : goal.returns-in-Ok-Task-clause-noted
returns-in-Ok-Task-clause-noted g c = λ command said.
    let same = c.one_command.ensures.one c.args.words.now (asked_by c.in-Ok-Task.field-0) command c.in-Ok-Task.ensures.read said in
    task_noted (MayAnswer (λ b. (goal.Handler-dyn g b).answers b.1) c.args.handlers.now) _ _ c.opamp_run.result _ _ c.in-Ok-Task.field-0 command c.in-Ok-Task.task same c.in-Ok-Task.field-0-is c.opamp_run.ensures.noted

pub returns-in-Ok-Task-clause-usage_noted : goal.returns-in-Ok-Task-clause-usage_noted
returns-in-Ok-Task-clause-usage_noted g c = λ two. absurd (c.opamp_run.ensures.no_wrong_words two)

pub returns-in-Ok-Task-clause-memory_noted : goal.returns-in-Ok-Task-clause-memory_noted
returns-in-Ok-Task-clause-memory_noted g c = λ none five. absurd (none (asked_by c.in-Ok-Task.field-0) c.in-Ok-Task.ensures.read)

pub returns-in-Err-Refused-clause-noted : goal.returns-in-Err-Refused-clause-noted
returns-in-Err-Refused-clause-noted g c = λ command said.
    let none : NameNone c.args.words.now = (rw c.in-Err-Refused.field-0-is at c.in-Err-Refused.ensures.refused) refl in
    absurd (none command said)

pub returns-in-Err-Refused-clause-usage_noted : goal.returns-in-Err-Refused-clause-usage_noted
returns-in-Err-Refused-clause-usage_noted g c = λ two. c.put_usage.ensures.noted

pub returns-clause-noted : goal.returns-clause-noted
returns-clause-noted g c = λ command said. nothing_noted (MayAnswer (λ b. (goal.Handler-dyn g b).answers b.1) c.args.handlers.now) command _ _ _ c.put_note.ensures.noted

pub returns-clause-memory_noted : goal.returns-clause-memory_noted
returns-clause-memory_noted g c = λ none five. c.put_note.ensures.noted
