-- What the disk and the sink tell of the ending of a run.
use Rattle.std.proofs.Common.{◌≡◌, ◌⊎◌, ℕ, zero, suc, ◌+◌, ◌<◌, ◌≤◌, ◌-◌, ◌^◌, List, [], ◌∷◌, length, Bool, true, false, not, ◌&&◌, ◌||◌, eqb, eq-eqb, leb, Option, None, Some, Result, Ok, Err, IsSome, inl, inr, refl, sym, ◌∙◌, ap, subst, arith, length-append}
use Rattle.std.proofs.lemmas.Bool.{cases_lt, false≢true, lt-leb}
use Rattle.std.proofs.lemmas.List.{append_cancel_left}
use Rattle.std.specs.Prelude.{IfOk, IsTrue, codes}
use Rattle.std.specs.Io.KnownBytes.{Appends}
use Rattle.message_values.specs.declared.custom.CustomCapabilities.{CustomCapabilities}
use Rattle.message_values.specs.declared.custom.CustomMessage.{CustomMessage}
use Rattle.message_values.specs.declared.report.AgentToServer.{AgentToServer}
use Rattle.edge_devices.specs.declared.folders.Area.TheVariants as areas
use Rattle.edge_devices.specs.Faults.{HasRisen}
use Rattle.edge_devices.specs.declared.folders.FolderFail.{FolderFail}
use Rattle.edge_devices.specs.declared.folders.FolderFail.TheVariants as folder
use Rattle.edge_devices.specs.Clocks.{EntropyState}
use Rattle.edge_devices.specs.Disks.{DiskState}
use Rattle.agent_store.specs.declared.opened.Opened.{Opened}
use Rattle.agent_store.specs.declared.opened.Opened.TheVariants.{Fresh, Kept}
use Rattle.agent_store.specs.Found.{reading_of}
use Rattle.agent_store.specs.Slots as slots
use Rattle.agent_rules.specs.declared.saved.Saved.{Saved}
use Rattle.agent_rules.specs.Payloads.{canonical_saved}
use Rattle.agent_rules.specs.declared.rules.parts.LocalState.{LocalState}
use Rattle.agent_rules.specs.declared.rules.parts.TheConstants.{LAST_LIMIT}
use Rattle.agent_rules.specs.Reports.{fits_message, message_of}
use Rattle.agent_rules.specs.Half.{AgentHalf, entry_of, started}
use Rattle.agent_rules.specs.Keeping.{Report, fits}
use Rattle.agent_rules.specs.Calls.{changed, has_number, may_report}
use Rattle.message_handlers.specs.Names.{IsOrdered}
use Rattle.agent_state.specs.View.{AgentView}
use Rattle.agent_rounds.specs.declared.ends.AgentEnd.{AgentEnd}
use Rattle.agent_rounds.specs.declared.ends.AgentEnd.TheVariants.{StoreFault, FolderFault, ClockFault, RoundsSpent, NumbersSpent, TooLarge, NoMemory}
use Rattle.agent_rounds.specs.declared.ends.Pause.{Pause}
use Rattle.agent_rounds.specs.declared.held.Settling.{Settling}
use Rattle.agent_rounds.specs.declared.held.Settling.TheVariants.{First, Again, Settled}
use Rattle.agent_rounds.specs.Moments.{stage_at, with_saves}
use Rattle.agent_rounds.specs.Parts.{EndsReading, MakesReport, ReadsStatus, SettlesBy, TellsLocal, TellsStatus, settled_end}
use Rattle.agent_rounds.specs.Rounds.{Asking, Informs, Prepares, RoundBy, RoundsBy, Waiting}
use Rattle.agent_rounds.specs.Stages.{Stage}
use Rattle.agent_rounds.specs.Status.{local_by}
use Rattle.command_words.specs.declared.commands.AgentOptions.{AgentOptions}
use Rattle.command_agent.specs.declared.endings.Ending.{Ending}
use Rattle.command_agent.specs.declared.endings.Ending.TheVariants as endings
use Rattle.command_agent.specs.declared.lines.Line.{Line}
use Rattle.command_agent.specs.declared.lines.Line.TheVariants as lines
use Rattle.command_agent.specs.declared.status.AgentStatus.{AgentStatus}
use Rattle.command_agent.specs.declared.status.AgentStatus.TheVariants as statuses
use Rattle.command_agent.specs.Endings.{Tells, TellsBy}
use Rattle.command_agent.specs.Lines.{text_of}
use Rattle.command_agent.specs.Running.{AgentRuns, EndsSo, Surroundings, asking_of, first_moment, last_moment, waiting_of}
use Rattle.command_agent.specs.Starting.{Starts, active_at_first, first_half, store_layout}
use Rattle.command_agent.specs.Told.{IsTooLargeToTell, KeepsPart, LeavesNoNumber}
use Rattle.command_agent.proofs.CountLemmas.{Grows, answers_grow, goes_grow, listen_grows, local_grows, prepares_grow, quiet_grows, report_grows, round_grows, rounds_grow, server_grows, settles_grow, wait_grows}

-- ---- rounds whose first report isn't made

-- no value, and an end of these
abbrev pub EndsAs : {T : Type 0} → (AgentEnd → Type 0) → Result T AgentEnd → Type 0
EndsAs ends (Ok value) = ⊥
EndsAs ends (Err end) = ends end

-- the ends of a round whose report is refused for want of numbers, or because it is too large
abbrev pub LacksNumbers : AgentEnd → Type 0
LacksNumbers StoreFault = ⊥
LacksNumbers FolderFault = Unit {0}
LacksNumbers ClockFault = ⊥
LacksNumbers RoundsSpent = ⊥
LacksNumbers NumbersSpent = Unit {0}
LacksNumbers TooLarge = Unit {0}
LacksNumbers NoMemory = Unit {0}

abbrev pub LacksRoom : AgentEnd → Type 0
LacksRoom StoreFault = ⊥
LacksRoom FolderFault = Unit {0}
LacksRoom ClockFault = ⊥
LacksRoom RoundsSpent = ⊥
LacksRoom NumbersSpent = ⊥
LacksRoom TooLarge = Unit {0}
LacksRoom NoMemory = Unit {0}

settled_half : (how : Settling) (s t : Stage) (r : Result Unit AgentEnd) → SettlesBy how s t r → t.half ≡ s.half
settled_half Settled s t r done = ap (λ (x : Stage). x.half) done.0
settled_half First s t r done = ap (λ (x : Stage). x.half) done.rest
settled_half Again s t r done = ap (λ (x : Stage). x.half) done.rest

module _ (ends : AgentEnd → Type 0) (by_folder : ends FolderFault) (by_memory : ends NoMemory) where
  settled_ends : (settling : Settling) (answer : Result Unit FolderFail) (end : AgentEnd) → Err end ≡ settled_end settling answer → ends end
  settled_ends settling (Ok done) end is = absurd (let e : Err end ≡ Ok tt = is in cc)
  settled_ends settling (Err folder.NoMemory) end is = let e : Err end ≡ Err NoMemory = is in let same : end ≡ NoMemory = cc in subst ends (sym same) by_memory
  settled_ends First (Err folder.Fault) end is = let e : Err end ≡ Err FolderFault = is in let same : end ≡ FolderFault = cc in subst ends (sym same) by_folder
  settled_ends Again (Err folder.Fault) end is = absurd (let e : Err end ≡ Ok tt = is in cc)
  settled_ends Settled (Err folder.Fault) end is = absurd (let e : Err end ≡ Ok tt = is in cc)

  settling_ends : (how : Settling) (s t : Stage) (end : AgentEnd) → SettlesBy how s t (Err end) → ends end
  settling_ends Settled s t end done = absurd (let e : Err end ≡ Ok tt = done.1 in cc)
  settling_ends First s t end done = settled_ends s.held.settling done.answer end done.end
  settling_ends Again s t end done = settled_ends s.held.settling done.answer end done.end

  reading_ends : (answer : Result (Option (List ℕ)) FolderFail) (end : AgentEnd) → EndsReading answer (Err end) → ends end
  reading_ends answer NoMemory is = by_memory
  reading_ends answer StoreFault is = absurd is
  reading_ends answer FolderFault is = absurd is
  reading_ends answer ClockFault is = absurd is
  reading_ends answer RoundsSpent is = absurd is
  reading_ends answer NumbersSpent is = absurd is
  reading_ends answer TooLarge is = absurd is

  module _ (are : CustomCapabilities → Type 0) (a : AgentHalf) (refused : (now : LocalState) (s t : Stage) (r : Result (List ℕ) AgentEnd) → s.half ≡ changed now a → MakesReport s t r → EndsAs ends r) where
    informing_ends : (s t : Stage) (end : AgentEnd) → Informs are s t (Err end) → ends end
    informing_ends s t end (inl settles) = settling_ends s.held.settling s t end settles
    informing_ends s t end (inr (m, (v, (settles, inl reads)))) = reading_ends reads.answer end reads.end
    informing_ends s t end (inr (m, (v, (settles, inr (n, (w, (reads, tells))))))) = subst ends (sym tells.0) by_memory

    informed : (s t : Stage) (v : Unit) → s.half ≡ a → Informs are s t (Ok v) → (now : LocalState) × (t.half ≡ changed now a)
    informed s t v is (m, (u, (settles, (n, (w, (reads, (names, (known, makes)))))))) = (
      local_by n.held.status n.half.saved.config names,
      ap (λ (x : Stage). x.half) makes.1
          ∙ ap (changed (local_by n.held.status n.half.saved.config names)) (ap (λ (x : Stage). x.half) reads.rest ∙ settled_half s.held.settling s m (Ok u) settles ∙ is),
    )

    prepared : (s t : Stage) (r : Result (List ℕ) AgentEnd) → s.half ≡ a → Prepares are s t r → EndsAs ends r
    prepared s t (Ok bytes) is (m, (v, (informs, makes))) = let told = informed s m v is informs in refused told.0 m t (Ok bytes) told.1 makes
    prepared s t (Err end) is (inl informs) = informing_ends s t end informs
    prepared s t (Err end) is (inr (m, (v, (informs, makes)))) = let told = informed s m v is informs in refused told.0 m t (Err end) told.1 makes

    module _ (asks : Asking) (waits : Waiting) (may : CustomMessage → Option CustomMessage → Type 0) where
      first_round : (s t : Stage) (r : Result Bool AgentEnd) → s.half ≡ a → RoundBy asks waits may are s t r → EndsAs ends r
      first_round s t (Ok restart) is (m, (bytes, (prepares, rest))) = prepared s m (Ok bytes) is prepares
      first_round s t (Err end) is (inl prepares) = prepared s t (Err end) is prepares
      first_round s t (Err end) is (inr (m, (bytes, (prepares, rest)))) = absurd (prepared s m (Ok bytes) is prepares)

      first_of : (rounds done : ℕ) (s t : Stage) (r : Result ℕ AgentEnd) → 0 < rounds → s.half ≡ a → RoundsBy asks waits may are rounds done s t r → EndsAs ends r
      first_of zero done s t r some is run = absurd (omega (arith, some))
      first_of (suc rounds) done s t (Ok round) some is (m, (restart, (once, rest))) = first_round s m (Ok restart) is once
      first_of (suc rounds) done s t (Err end) some is (inl once) = first_round s t (Err end) is once
      first_of (suc rounds) done s t (Err end) some is (inr (m, (restart, (once, rest)))) = absurd (first_round s m (Ok restart) is once)

-- ---- why it isn't made

not_both : (b : Bool) → b ≡ true → b ≡ false → ⊥
not_both b is isnt = false≢true (sym isnt ∙ is)

small_of : (awaits small number room : Bool) → (not awaits && (small && (number && room))) ≡ true → small ≡ true
small_of false true number room all = refl
small_of false false number room all = absurd (false≢true all)
small_of true small number room all = absurd (false≢true all)

number_of : (awaits small number room : Bool) → (not awaits && (small && (number && room))) ≡ true → number ≡ true
number_of false true true room all = refl
number_of false true false room all = absurd (false≢true all)
number_of false false number room all = absurd (false≢true all)
number_of true small number room all = absurd (false≢true all)

module _ (s t : Stage) where
  small_if_due : may_report s.half ≡ true → fits_message (message_of (entry_of s.half)) ≡ true
  small_if_due due = small_of s.half.awaits (fits_message (message_of (entry_of s.half))) (has_number s.half) (fits s.half Report) due

  number_if_due : may_report s.half ≡ true → has_number s.half ≡ true
  number_if_due due = number_of s.half.awaits (fits_message (message_of (entry_of s.half))) (has_number s.half) (fits s.half Report) due

  without_number : has_number s.half ≡ false → (r : Result (List ℕ) AgentEnd) → MakesReport s t r → EndsAs LacksNumbers r
  without_number none (Ok bytes) makes = absurd (not_both (has_number s.half) (number_if_due makes.1) none)
  without_number none (Err StoreFault) makes = absurd (not_both (has_number s.half) (number_if_due makes.0) none)
  without_number none (Err NumbersSpent) makes = tt
  without_number none (Err TooLarge) makes = tt
  without_number none (Err NoMemory) makes = tt
  without_number none (Err FolderFault) makes = absurd makes.0
  without_number none (Err ClockFault) makes = absurd makes.0
  without_number none (Err RoundsSpent) makes = absurd makes.0

  without_room : fits_message (message_of (entry_of s.half)) ≡ false → (r : Result (List ℕ) AgentEnd) → MakesReport s t r → EndsAs LacksRoom r
  without_room large (Ok bytes) makes = absurd (not_both (fits_message (message_of (entry_of s.half))) (small_if_due makes.1) large)
  without_room large (Err StoreFault) makes = absurd (not_both (fits_message (message_of (entry_of s.half))) (small_if_due makes.0) large)
  without_room large (Err NumbersSpent) makes = absurd (not_both (fits_message (message_of (entry_of s.half))) makes.0.0 large)
  without_room large (Err TooLarge) makes = tt
  without_room large (Err NoMemory) makes = tt
  without_room large (Err FolderFault) makes = absurd makes.0
  without_room large (Err ClockFault) makes = absurd makes.0
  without_room large (Err RoundsSpent) makes = absurd makes.0

-- ---- rounds whose first report is too large by what the folder tells

risen_from : (a b c : ℕ) → a ≤ b → HasRisen b c → HasRisen a c
risen_from a b c first (inl rose) = inl (omega (arith, first, rose))
risen_from a b c first (inr full) = inr full

risen_on : (a b c : ℕ) → a ≤ b → b ≤ c → HasRisen a b → HasRisen a c
risen_on a b c first then (inl rose) = inl (omega (arith, rose, then))
risen_on a b c first then (inr full) = elim (cases_lt a c) [ inl less ↦ inl less | inr more ↦ inr (omega (arith, full, more, first, then)) ]

-- a report that has no room ended it, or the folder failed
abbrev pub EndsLarge : {T : Type 0} → Stage → Stage → Result T AgentEnd → Type 0
EndsLarge s t r = EndsAs LacksRoom r ⊎ HasRisen s.folder.faults t.folder.faults

-- what the settling leaves of the folder's status file, and of what is held
record SettlesBeside (s t : Stage) : Type 0 where
  told : t.folder.told ≡ s.folder.told
  file : t.folder.files areas.Status (codes "status.pb") ≡ s.folder.files areas.Status (codes "status.pb")
  held : t.held.status ≡ s.held.status
  half : t.half ≡ s.half

settled_beside : (how : Settling) (s t : Stage) (r : Result Unit AgentEnd) → SettlesBy how s t r → SettlesBeside s t
settled_beside Settled s t r done = record {
  told = ap (λ (x : Stage). x.folder.told) done.0;
  file = ap (λ (x : Stage). x.folder.files areas.Status (codes "status.pb")) done.0;
  held = ap (λ (x : Stage). x.held.status) done.0;
  half = ap (λ (x : Stage). x.half) done.0;
}
settled_beside First s t r done = record {
  told = done.settles.runs.makes.told;
  file = done.settles.others areas.Status (codes "status.pb") refl;
  held = ap (λ (x : Stage). x.held.status) done.rest;
  half = ap (λ (x : Stage). x.half) done.rest;
}
settled_beside Again s t r done = record {
  told = done.settles.runs.makes.told;
  file = done.settles.others areas.Status (codes "status.pb") refl;
  held = ap (λ (x : Stage). x.held.status) done.rest;
  half = ap (λ (x : Stage). x.half) done.rest;
}

module _ (handlers : List (List ℕ)) (part : Saved) (asks_uid : Bool) (local : LocalState) (s : Stage) (half : s.half ≡ started local part true store_layout.room asks_uid)
    (none : s.held.status ≡ None) (told : IsTrue s.folder.told) (large : IsTooLargeToTell handlers s.folder asks_uid part) where
  abbrev are : CustomCapabilities → Type 0
  are names = IsOrdered handlers names.capabilities

  -- what the status file means now, or the folder failed
  status_read : (m n : Stage) (done : Unit) → SettlesBeside s m → s.folder.faults ≤ m.folder.faults → ReadsStatus m n (Ok done)
      → TellsStatus None (Ok (s.folder.files areas.Status (codes "status.pb"))) n.held.status ⊎ HasRisen s.folder.faults n.folder.faults
  status_read m n done beside count reads = by_answer reads.answer refl
    where
      now : n.held.status ≡ reads.status
      now = ap (λ (x : Stage). x.held.status) reads.rest

      tells : TellsStatus None reads.answer n.held.status
      tells =
          subst (λ (last : Option AgentToServer). TellsStatus last reads.answer n.held.status) (beside.held ∙ none)
          (subst (λ (status : Option AgentToServer). TellsStatus m.held.status reads.answer status) (sym now) (reads.told refl))

      still_told : IsTrue n.folder.told
      still_told = subst IsTrue (sym (reads.call.told ∙ beside.told)) told

      by_answer : (answer : Result (Option (List ℕ)) FolderFail) → reads.answer ≡ answer
          → TellsStatus None (Ok (s.folder.files areas.Status (codes "status.pb"))) n.held.status ⊎ HasRisen s.folder.faults n.folder.faults
      by_answer (Ok body) is =
          let file : body ≡ s.folder.files areas.Status (codes "status.pb") =
          (subst (λ (a : Result (Option (List ℕ)) FolderFail). IfOk a (λ body. IsTrue n.folder.told → body ≡ m.folder.files areas.Status (codes "status.pb"))) is reads.body) still_told ∙ beside.file in
          inl (subst (λ (a : Result (Option (List ℕ)) FolderFail). TellsStatus None a n.held.status) (is ∙ ap (λ (b : Option (List ℕ)). Ok b) file) tells)
      by_answer (Err folder.Fault) is = inr (risen_from s.folder.faults m.folder.faults n.folder.faults count (reads.call.fault is))
      by_answer (Err folder.NoMemory) is = absurd (reads.end is)

  -- the report that the agent makes then
  large_report : (n i t : Stage) (r : Result (List ℕ) AgentEnd) (done : Unit) → n.half ≡ s.half → TellsStatus None (Ok (s.folder.files areas.Status (codes "status.pb"))) n.held.status
      → TellsLocal are n i (Ok done) → MakesReport i t r → EndsAs LacksRoom r
  large_report n i t r done same status (names, (ordered, made)) makes =
      let first : n.half ≡ started local part true store_layout.room asks_uid = same ∙ half in
      let now : i.half ≡ changed (local_by n.held.status part.config names) (started local part true store_layout.room asks_uid) =
      ap (λ (x : Stage). x.half) made.1 ∙ ap (λ (a : AgentHalf). changed (local_by n.held.status a.saved.config names) a) first in
      without_room i t (ap (λ (a : AgentHalf). fits_message (message_of (entry_of a))) now ∙ large n.held.status status names ordered) r makes

  large_prepared : (t : Stage) (r : Result (List ℕ) AgentEnd) → Prepares are s t r → EndsLarge s t r
  large_prepared t (Ok bytes) (i, (v, ((m, (u, (settles, (n, (w, (reads, tells)))))), makes))) =
      let beside = settled_beside s.held.settling s m (Ok u) settles in
      let counted : s.folder.faults ≤ m.folder.faults = settles_grow s m (Ok u) settles in
      elim (status_read m n w beside counted reads) [
        | inl status ↦ inl (large_report n i t (Ok bytes) v (ap (λ (x : Stage). x.half) reads.rest ∙ beside.half) status tells makes)
        | inr risen ↦ inr (risen_on s.folder.faults n.folder.faults t.folder.faults (omega (arith, counted, reads.call.count))
            (omega (arith, local_grows are n i (Ok v) tells, report_grows are i t (Ok bytes) makes)) risen)
      ]
  large_prepared t (Err end) (inl informs) = inl (informing_large t end informs)
    where
      informing_large : (t : Stage) (end : AgentEnd) → Informs are s t (Err end) → LacksRoom end
      informing_large t end (inl settles) = settling_ends LacksRoom tt tt s.held.settling s t end settles
      informing_large t end (inr (m, (v, (settles, inl reads)))) = reading_ends LacksRoom tt tt reads.answer end reads.end
      informing_large t end (inr (m, (v, (settles, inr (n, (w, (reads, tells))))))) = subst LacksRoom (sym tells.0) tt
  large_prepared t (Err end) (inr (i, (v, ((m, (u, (settles, (n, (w, (reads, tells)))))), makes)))) =
      let beside = settled_beside s.held.settling s m (Ok u) settles in
      let counted : s.folder.faults ≤ m.folder.faults = settles_grow s m (Ok u) settles in
      elim (status_read m n w beside counted reads) [
        | inl status ↦ inl (large_report n i t (Err end) v (ap (λ (x : Stage). x.half) reads.rest ∙ beside.half) status tells makes)
        | inr risen ↦ inr (risen_on s.folder.faults n.folder.faults t.folder.faults (omega (arith, counted, reads.call.count))
            (omega (arith, local_grows are n i (Ok v) tells, report_grows are i t (Err end) makes)) risen)
      ]

  module _ (asks : Asking) (waits : Waiting) (asking : (bytes : List ℕ) → Grows (asks bytes)) (waiting : (pause : Pause) → Grows (waits pause)) (may : CustomMessage → Option CustomMessage → Type 0) where
    -- behind a report that was made only since the folder failed
    made_large : {T : Type 0} (m t : Stage) (bytes : List ℕ) (r : Result T AgentEnd) → EndsLarge s m (Ok bytes) → s.folder.faults ≤ m.folder.faults → m.folder.faults ≤ t.folder.faults → EndsLarge s t r
    made_large m t bytes r (inl none) before after = absurd none
    made_large m t bytes r (inr risen) before after = inr (risen_on s.folder.faults m.folder.faults t.folder.faults before after risen)

    large_round : (t : Stage) (r : Result Bool AgentEnd) → RoundBy asks waits may are s t r → EndsLarge s t r
    large_round t (Ok restart) (m, (bytes, (prepares, rest))) =
        made_large {T = Bool} m t bytes (Ok restart) (large_prepared m (Ok bytes) prepares) (prepares_grow are s m (Ok bytes) prepares)
        (answers_grow may asks waits asking waiting bytes m t (Ok restart) rest)
    large_round t (Err end) (inl prepares) = large_prepared t (Err end) prepares
    large_round t (Err end) (inr (m, (bytes, (prepares, rest)))) =
        made_large {T = Bool} m t bytes (Err end) (large_prepared m (Ok bytes) prepares) (prepares_grow are s m (Ok bytes) prepares)
        (answers_grow may asks waits asking waiting bytes m t (Err end) rest)

    -- behind a round that goes on
    gone_large : (m t : Stage) (restart : Bool) (r : Result ℕ AgentEnd) → EndsLarge s m (Ok restart) → s.folder.faults ≤ m.folder.faults → m.folder.faults ≤ t.folder.faults → EndsLarge s t r
    gone_large m t restart r (inl none) before after = absurd none
    gone_large m t restart r (inr risen) before after = inr (risen_on s.folder.faults m.folder.faults t.folder.faults before after risen)

    large_rounds : (rounds done : ℕ) (t : Stage) (r : Result ℕ AgentEnd) → 0 < rounds → RoundsBy asks waits may are rounds done s t r → EndsLarge s t r
    large_rounds zero done t r some run = absurd (omega (arith, some))
    large_rounds (suc rounds) done t (Ok round) some (m, (restart, (once, rest))) =
        gone_large m t restart (Ok round) (large_round m (Ok restart) once) (round_grows may asks waits asking waiting are s m (Ok restart) once)
        (goes_grow may asks waits asking waiting are done (RoundsBy asks waits may are rounds (done + 1)) (rounds_grow may asks waits asking waiting are rounds (done + 1)) restart m t (Ok round) rest)
    large_rounds (suc rounds) done t (Err end) some (inl once) = large_round t (Err end) once
    large_rounds (suc rounds) done t (Err end) some (inr (m, (restart, (once, rest)))) =
        gone_large m t restart (Err end) (large_round m (Ok restart) once) (round_grows may asks waits asking waiting are s m (Ok restart) once)
        (goes_grow may asks waits asking waiting are done (RoundsBy asks waits may are rounds (done + 1)) (rounds_grow may asks waits asking waiting are rounds (done + 1)) restart m t (Err end) rest)

-- however the rounds of an agent ask and wait
asking_grows : (push : Bool) (bytes : List ℕ) → Grows (asking_of push bytes)
asking_grows true = quiet_grows
asking_grows false = server_grows

waiting_grows : (push : Bool) (pause : Pause) → Grows (waiting_of push pause)
waiting_grows true = listen_grows
waiting_grows false = wait_grows

numberless : (next limit : ℕ) → next ≡ limit → 2 ^ 64 - 1025 < limit → (not (eqb next limit) || leb limit LAST_LIMIT) ≡ false
numberless next limit same past =
    subst (λ (b : Bool). (not b || leb limit LAST_LIMIT) ≡ false) (sym (eq-eqb next limit same)) (lt-leb limit LAST_LIMIT past)

-- ---- of a run

module _ (handlers : List (List ℕ)) (may : CustomMessage → Option CustomMessage → Type 0) (options : AgentOptions) (old new : Surroundings) where
  -- an agent goes on with what its store keeps
  goes_on_with : (IsSo : Saved → Type 0) (loaded : DiskState) (entropy : EntropyState) (first : AgentView) → Starts handlers options old.disk loaded old.entropy entropy first → KeepsPart old.disk IsSo
      → (part : Saved) × (IsSo part × ((local : LocalState) × (first.half ≡ started local part true store_layout.room options.request_uid)))
  goes_on_with IsSo loaded entropy first starts keeps = by_found starts.opened (starts.loads.found keeps.told ∙ keeps.kept) starts.half
    where
      by_found : (opened : Opened Saved) → reading_of canonical_saved opened ≡ slots.Holds keeps.bytes → first.half ≡ first_half options starts.names opened starts.uid
          → (part : Saved) × (IsSo part × ((local : LocalState) × (first.half ≡ started local part true store_layout.room options.request_uid)))
      by_found Fresh found half = absurd (let e : slots.Nothing ≡ slots.Holds keeps.bytes = found in cc)
      by_found (Kept part) found half =
          let e : slots.Holds (canonical_saved part) ≡ slots.Holds keeps.bytes = found in
          let same : canonical_saved part ≡ keeps.bytes = cc in
          (part, (keeps.each part same, (local_by None (active_at_first (Kept part)) starts.names, half)))

  only_risen : {A B C D : Type 0} → ⊥ ⊎ HasRisen old.folder.faults new.folder.faults → A ⊎ (B ⊎ (C ⊎ (D ⊎ HasRisen old.folder.faults new.folder.faults)))
  only_risen (inl none) = absurd none
  only_risen (inr risen) = inr (inr (inr (inr risen)))

  module _ (some : 0 < options.rounds) where
    no_numbers : KeepsPart old.disk LeavesNoNumber → (result : Result ℕ AgentEnd) → AgentRuns handlers may options old new result → EndsAs LacksNumbers result
    no_numbers keeps result run =
        let begun = goes_on_with LeavesNoNumber run.loaded new.entropy run.first run.starts keeps in
        let part = begun.0 in
        first_of LacksNumbers tt tt (λ (names : CustomCapabilities). IsOrdered handlers names.capabilities) (started begun.1.1.0 part true store_layout.room options.request_uid)
        (λ now s t r is makes.
        without_number s t (ap has_number is ∙ numberless part.limit part.limit refl begun.1.0) r makes)
        (asking_of options.push) (waiting_of options.push) may options.rounds 0 (stage_at (first_moment options old run.loaded run.first) [])
        (with_saves (run.rounds []).saves (stage_at (last_moment new run.last run.held) [])) result some begun.1.1.1 (run.rounds []).does

    no_room : IsTrue old.folder.told → KeepsPart old.disk (IsTooLargeToTell handlers old.folder options.request_uid) → (result : Result ℕ AgentEnd) → AgentRuns handlers may options old new result
        → EndsAs LacksRoom result ⊎ HasRisen old.folder.faults new.folder.faults
    no_room tells keeps result run =
        let begun = goes_on_with (IsTooLargeToTell handlers old.folder options.request_uid) run.loaded new.entropy run.first run.starts keeps in
        large_rounds handlers begun.0 options.request_uid begun.1.1.0 (stage_at (first_moment options old run.loaded run.first) []) begun.1.1.1 refl tells begun.1.0
        (asking_of options.push) (waiting_of options.push) (asking_grows options.push) (waiting_grows options.push) may options.rounds 0
        (with_saves (run.rounds []).saves (stage_at (last_moment new run.last run.held) [])) result some (run.rounds []).does

    pub numbers_ending : KeepsPart old.disk LeavesNoNumber → (ending : Ending) → EndsSo handlers may options old new ending → (rounds : ℕ) (taken taken' : Option (List ℕ)) (status : AgentStatus)
        → Tells rounds ending taken taken' status
        → (status ≡ statuses.NumbersSpent) ⊎ ((status ≡ statuses.TooLarge) ⊎ ((status ≡ statuses.OutsideFault) ⊎ ((status ≡ statuses.StoreFault) ⊎ (status ≡ statuses.NoMemory))))
    numbers_ending keeps (endings.Restarted round) run rounds taken taken' status told = absurd (no_numbers keeps (Ok round) run)
    numbers_ending keeps endings.RoundsSpent run rounds taken taken' status told = absurd (no_numbers keeps (Err RoundsSpent) run.0)
    numbers_ending keeps (endings.Damaged slot) run rounds taken taken' status told =
        absurd (let e : slots.Damaged slot ≡ slots.Holds keeps.bytes = sym (run.0.found keeps.told) ∙ keeps.kept in cc)
    numbers_ending keeps endings.StoreFault run rounds taken taken' status told = inr (inr (inr (inl told.0)))
    numbers_ending keeps endings.OutsideFault run rounds taken taken' status told = inr (inr (inl told.0))
    numbers_ending keeps endings.NumbersSpent run rounds taken taken' status told = inl told.0
    numbers_ending keeps endings.TooLarge run rounds taken taken' status told = inr (inl told.0)
    numbers_ending keeps endings.NoMemory run rounds taken taken' status told = inr (inr (inr (inr told.0)))

    pub size_ending : IsTrue old.folder.told → KeepsPart old.disk (IsTooLargeToTell handlers old.folder options.request_uid) → (ending : Ending) → EndsSo handlers may options old new ending
        → (rounds : ℕ) (taken taken' : Option (List ℕ)) (status : AgentStatus) → Tells rounds ending taken taken' status
        → (status ≡ statuses.TooLarge) ⊎ ((status ≡ statuses.OutsideFault) ⊎ ((status ≡ statuses.StoreFault) ⊎ ((status ≡ statuses.NoMemory) ⊎ HasRisen old.folder.faults new.folder.faults)))
    size_ending tells keeps (endings.Restarted round) run rounds taken taken' status told = only_risen (no_room tells keeps (Ok round) run)
    size_ending tells keeps endings.RoundsSpent run rounds taken taken' status told = only_risen (no_room tells keeps (Err RoundsSpent) run.0)
    size_ending tells keeps (endings.Damaged slot) run rounds taken taken' status told =
        absurd (let e : slots.Damaged slot ≡ slots.Holds keeps.bytes = sym (run.0.found keeps.told) ∙ keeps.kept in cc)
    size_ending tells keeps endings.StoreFault run rounds taken taken' status told = inr (inr (inl told.0))
    size_ending tells keeps endings.OutsideFault run rounds taken taken' status told = inr (inl told.0)
    size_ending tells keeps endings.NumbersSpent run rounds taken taken' status told = only_risen (no_room tells keeps (Err NumbersSpent) run.0)
    size_ending tells keeps endings.TooLarge run rounds taken taken' status told = inl told.0
    size_ending tells keeps endings.NoMemory run rounds taken taken' status told = inr (inr (inr (inl told.0)))

-- ---- what the sink took

not_empty : (line : Line) → 0 < length (text_of line)
unfolding text_of
not_empty (lines.Restart round) = omega arith
not_empty (lines.Rounds rounds) = omega arith
not_empty (lines.Damaged slot) = omega arith

nothing_taken : (old new : Option (List ℕ)) (line : Line) → IsSome old → new ≡ old → Appends old new (text_of line) → ⊥
nothing_taken old new line some same took = by_row old some (subst (λ (o : Option (List ℕ)). Appends old o (text_of line)) same took)
  where
    by_row : (o : Option (List ℕ)) → IsSome o → Appends o o (text_of line) → ⊥
    by_row None some took = false≢true some
    by_row (Some row) some took = omega (arith, ap length took, length-append row (text_of line), not_empty line)

one_text : (old new : Option (List ℕ)) (xs ys : List ℕ) → IsSome old → Appends old new xs → Appends old new ys → xs ≡ ys
one_text None new xs ys some a b = absurd (false≢true some)
one_text (Some row) None xs ys some a b = absurd a
one_text (Some row) (Some grown) xs ys some a b = append_cancel_left row xs ys (sym a ∙ b)

-- its first and its second byte
abbrev first_byte : List ℕ → ℕ
first_byte [] = 0
first_byte (byte ∷ bytes) = byte

abbrev second_byte : List ℕ → ℕ
second_byte [] = 0
second_byte (byte ∷ bytes) = first_byte bytes

restart_apart : (round rounds : ℕ) → text_of (lines.Restart round) ≡ text_of (lines.Rounds rounds) → ⊥
unfolding text_of
restart_apart round rounds same = let e : ◌≡◌ {A = ℕ} 101 111 = ap second_byte same in omega (arith, e)

damage_apart : (slot rounds : ℕ) → text_of (lines.Damaged slot) ≡ text_of (lines.Rounds rounds) → ⊥
unfolding text_of
damage_apart slot rounds same = let e : ◌≡◌ {A = ℕ} 115 114 = ap first_byte same in omega (arith, e)

module _ (old new : Option (List ℕ)) (rounds : ℕ) (some : IsSome old) (took : Appends old new (text_of (lines.Rounds rounds))) where
  -- a line was taken
  by_line : (line : Line) (done status : AgentStatus) → TellsBy (Some line) done old new status
      → ((status ≡ done) × (text_of line ≡ text_of (lines.Rounds rounds))) ⊎ (status ≡ statuses.WriteFault)
  by_line line done status (inl whole) = inl (whole.0, one_text old new (text_of line) (text_of (lines.Rounds rounds)) some whole.1 took)
  by_line line done status (inr (inl cut)) = inr cut.0
  by_line line done status (inr (inr none)) = absurd (nothing_taken old new (lines.Rounds rounds) some none.1 took)

  silently : (done status : AgentStatus) → TellsBy None done old new status → ⊥
  silently done status told = nothing_taken old new (lines.Rounds rounds) some told.1 took

  pub spent_ending : (most : ℕ) (ending : Ending) (status : AgentStatus) → Tells most ending old new status → (status ≡ statuses.RoundsSpent) ⊎ (status ≡ statuses.WriteFault)
  spent_ending most (endings.Restarted round) status told = elim (by_line (lines.Restart round) statuses.Restarted status told) [
    | inl other ↦ absurd (restart_apart round rounds other.1)
    | inr cut ↦ inr cut
  ]
  spent_ending most endings.RoundsSpent status told = elim (by_line (lines.Rounds most) statuses.RoundsSpent status told) [
    | inl whole ↦ inl whole.0
    | inr cut ↦ inr cut
  ]
  spent_ending most (endings.Damaged slot) status told = elim (by_line (lines.Damaged slot) statuses.Damaged status told) [
    | inl other ↦ absurd (damage_apart slot rounds other.1)
    | inr cut ↦ inr cut
  ]
  spent_ending most endings.StoreFault status told = absurd (silently statuses.StoreFault status told)
  spent_ending most endings.OutsideFault status told = absurd (silently statuses.OutsideFault status told)
  spent_ending most endings.NumbersSpent status told = absurd (silently statuses.NumbersSpent status told)
  spent_ending most endings.TooLarge status told = absurd (silently statuses.TooLarge status told)
  spent_ending most endings.NoMemory status told = absurd (silently statuses.NoMemory status told)
