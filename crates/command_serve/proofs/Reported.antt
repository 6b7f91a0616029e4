-- What comes of serving, by how it ended.
use Rattle.std.proofs.Common.{◌≡◌, ℕ, ◌≤◌, ◌⊎◌, List, Bool, Option, None, Some, IsSome, true, false, subst, ap, inl, inr, refl, sym, take, true≢false, ◌∙◌}
use Rattle.std.specs.Io.KnownBytes.{Appends}
use Rattle.message_values.specs.declared.custom.CustomMessage.{CustomMessage}
use Rattle.edge_devices.specs.Faults.{HasRisen}
use Rattle.command_words.specs.declared.commands.RolloutOptions.{RolloutOptions}
use Rattle.command_words.specs.declared.commands.ServeOptions.{ServeOptions}
use Rattle.server_core.specs.declared.rows.Record.{Record}
use Rattle.server_deliveries.specs.Deliveries.{Delivered, anew, pushing}
use Rattle.server_waves.specs.Register.{Rolling}
use Rattle.command_serve.specs.declared.status.ServeStatus.{ServeStatus}
use Rattle.command_serve.specs.declared.status.ServeStatus.TheVariants.{NoMemory, Stopped, TurnsSpent, WireFault, WriteFault}
use Rattle.command_serve.specs.Outcomes.{Outcome, ServeEnds, Served}
use Rattle.command_serve.specs.Rolling.{Fits, IsTooLarge, asked_for, lines_of, progress_in, rollouts_of, told_of}
use Rattle.command_serve.specs.Serving.{Dispatch, FailsOnWire, Serves, StopsLast, WantsToServe}
use Rattle.command_serve.specs.Statuses.{status_of}
use Rattle.command_serve.proofs.Endings.{begun_apart, fails_apart}
use Rattle.command_serve.proofs.Served.{fails_risen}
use Rattle.command_serve.proofs.Statuses.{never_11, no_memory_at, others, served_status, spent_at, spent_told_at, stopped_at, wire_fault_at, write_fault_at}

-- how a run that was served to its end ended
ends_told : {X : Type 0} (s : ServeStatus) → (s ≡ Stopped → X) → (s ≡ WireFault → ⊥) → (s ≡ TurnsSpent) ⊎ ((s ≡ WriteFault) ⊎ ((s ≡ NoMemory) ⊎ ((s ≡ Stopped) × X)))
ends_told Stopped last no_wire = inr (inr (inr (refl, last refl)))
ends_told WriteFault last no_wire = inr (inl refl)
ends_told NoMemory last no_wire = inr (inr (inl refl))
ends_told WireFault last no_wire = absurd (no_wire refl)
ends_told TurnsSpent last no_wire = inl refl

-- what was reported: these bytes
pub record Reports (before after : ServeEnds) (s : ServeStatus) (stop : Bool) (bytes : List ℕ) : Type 0 where
  pub stopped : s ≡ Stopped → (stop ≡ true) × Appends before.sink.taken after.sink.taken bytes
  pub spent : s ≡ TurnsSpent → (stop ≡ false) × Appends before.sink.taken after.sink.taken bytes
  pub no_wire_fault : s ≡ WireFault → ⊥
  pub cut : s ≡ WriteFault → (k : ℕ) × Appends before.sink.taken after.sink.taken (take k bytes)
  pub write_fault : s ≡ WriteFault → HasRisen before.sink.faults after.sink.faults

anew_pushing : (fine : Record → Bool) (push : Bool) → anew (record { fine = fine; routes = pushing push }) ≡ record { fine = fine; routes = pushing push }
anew_pushing fine true = refl
anew_pushing fine false = refl

module _ (names : List (List ℕ)) (answers : CustomMessage → Option CustomMessage → Type 0) (options : ServeOptions) (first : Dispatch) (told : Option (List ℕ)) (before after : ServeEnds) where
  pub reported : (n : ℕ) (last : Dispatch) (stop : Bool) (s : ServeStatus) → n ≤ options.turns → (stop ≡ false → n ≡ options.turns)
      → Serves names answers options first n before.wire after.wire before.entropy after.entropy last stop
      → (stop ≡ true → (other : Dispatch) → Serves names answers options first options.turns before.wire after.wire before.entropy after.entropy other false → IsSome before.wire.calls
      → StopsLast names answers options first before.wire after.wire before.entropy after.entropy)
      → Reports before after s stop (lines_of n (progress_in told last.rollouts)) → Served names answers options first told before after s
  reported n last stop s within all serves stops r = record {
    stopped = λ is. let wrote = r.stopped is in (n, within, last, subst (λ (b : Bool). Serves names answers options first n before.wire after.wire before.entropy after.entropy last b) wrote.0 serves, wrote.1);
    spent = λ is.
        let wrote = r.spent is in (
          last,
          subst (λ (k : ℕ). Serves names answers options first k before.wire after.wire before.entropy after.entropy last false) (all wrote.0)
              (subst (λ (b : Bool). Serves names answers options first n before.wire after.wire before.entropy after.entropy last b) wrote.0 serves),
          subst (λ (k : ℕ). Appends before.sink.taken after.sink.taken (lines_of k (progress_in told last.rollouts))) (all wrote.0) wrote.1,
        );
    spent_told = λ other q calls. ends_told s (λ is. stops (r.stopped is).0 other q calls) r.no_wire_fault;
    wire_fails = λ is. absurd (r.no_wire_fault is);
    wire_fault = λ is. absurd (r.no_wire_fault is);
    cut = λ is. let wrote = r.cut is in (n, within, stop, last, serves, wrote.0, wrote.1);
    write_fault = r.write_fault;
    wanting = λ is. inr (n, within, stop, last, serves);
  }

  pub wire_failed : FailsOnWire names answers options first before.wire after.wire before.entropy after.entropy → Served names answers options first told before after WireFault
  wire_failed fails = record {
    stopped = λ is. absurd (cc is);
    spent = λ is. absurd (cc is);
    spent_told = λ last q calls. absurd (fails_apart names answers options first before.wire after.wire before.entropy after.entropy last fails q calls);
    wire_fails = λ is. fails;
    wire_fault = λ is. fails_risen names answers options first before.wire after.wire before.entropy after.entropy fails;
    cut = λ is. absurd (cc is);
    write_fault = λ is. absurd (cc is);
    wanting = λ is. absurd (cc is);
  }

  pub memory_wanted : WantsToServe names answers options first before.wire after.wire before.entropy after.entropy → Served names answers options first told before after NoMemory
  memory_wanted wants = record {
    stopped = λ is. absurd (cc is);
    spent = λ is. absurd (cc is);
    spent_told = λ last q calls. inr (inr (inl refl));
    wire_fails = λ is. absurd (cc is);
    wire_fault = λ is. absurd (cc is);
    cut = λ is. absurd (cc is);
    write_fault = λ is. absurd (cc is);
    wanting = λ is. inl wants;
  }

-- the rollouts and what delivers offers, where a run begins
begins : (fine : Record → Bool) (rollout : Option RolloutOptions) (push : Bool) (rollouts : List Rolling) (delivered : Delivered) → rollouts ≡ rollouts_of rollout → delivered ≡ record { fine = fine; routes = pushing push }
    → record { rollouts = rollouts; delivered = anew delivered } ≡ asked_for fine rollout push
begins fine rollout push rollouts delivered here is =
    let pushes : anew delivered ≡ record { fine = fine; routes = pushing push } = ap anew is ∙ anew_pushing fine push in
    λ i. record { rollouts = here i; delivered = pushes i }

pub served_anew : (names : List (List ℕ)) (answers : CustomMessage → Option CustomMessage → Type 0) (fine : Record → Bool) (options : ServeOptions) (rollout : Option RolloutOptions) (rollouts : List Rolling) (delivered : Delivered) (told : Option (List ℕ)) (before after : ServeEnds) (s : ServeStatus)
    → rollouts ≡ rollouts_of rollout → delivered ≡ record { fine = fine; routes = pushing options.push } → told ≡ told_of rollout → Served names answers options (record { rollouts = rollouts; delivered = anew delivered }) told before after s
    → Served names answers options (asked_for fine rollout options.push) (told_of rollout) before after s
served_anew names answers fine options rollout rollouts delivered told before after s here is named p =
    subst (λ (t : Option (List ℕ)). Served names answers options (asked_for fine rollout options.push) t before after s) named
    (subst (λ (d : Dispatch). Served names answers options d told before after s) (begins fine rollout options.push rollouts delivered here is) p)

-- ---- the outcome

fits_apart : (rollout : Option RolloutOptions) → Fits rollout → IsTooLarge rollout → ⊥
fits_apart None fits too = too
fits_apart (Some rollout) fits too = true≢false (sym fits ∙ too)

module _ (names : List (List ℕ)) (answers : CustomMessage → Option CustomMessage → Type 0) (fine : Record → Bool) (options : ServeOptions) (rollout : Option RolloutOptions) where
  pub outcome_of : (before after : ServeEnds) (s : ServeStatus) → Fits rollout → Served names answers options (asked_for fine rollout options.push) (told_of rollout) before after s → Outcome names answers fine options rollout before after (status_of s)
  outcome_of before after s fits p = record {
    too_large = λ is. absurd (never_11 s is);
    large = λ too. absurd (fits_apart rollout fits too);
    stopped = λ is. p.stopped (stopped_at s is);
    spent = λ is. p.spent (spent_at s is);
    spent_told = λ last q calls. spent_told_at s (p.spent_told last q calls);
    wire_fails = λ is. p.wire_fails (wire_fault_at s is);
    wire_fault = λ is. p.wire_fault (wire_fault_at s is);
    cut = λ is. p.cut (write_fault_at s is);
    write_fault = λ is. p.write_fault (write_fault_at s is);
    wanting = λ is. p.wanting (no_memory_at s is);
    complete = λ fits no_wire no_write unspent. others s (λ is. no_wire (p.wire_fault is)) (λ is. no_write (p.write_fault is)) unspent;
    statuses = inr (served_status s);
  }

  -- nothing was done, since the offer is too large
  pub too_large_outcome : (ends : ServeEnds) → IsTooLarge rollout → Outcome names answers fine options rollout ends ends 11
  too_large_outcome ends too = record {
    too_large = λ is. too;
    large = λ also. inl refl;
    stopped = λ is. absurd (cc is);
    spent = λ is. absurd (cc is);
    spent_told = λ last q calls. absurd (begun_apart names answers options (asked_for fine rollout options.push) ends.wire ends.wire ends.entropy ends.entropy last refl q calls);
    wire_fails = λ is. absurd (cc is);
    wire_fault = λ is. absurd (cc is);
    cut = λ is. absurd (cc is);
    write_fault = λ is. absurd (cc is);
    wanting = λ is. absurd (cc is);
    complete = λ fits no_wire no_write unspent. absurd (fits_apart rollout fits too);
    statuses = inl refl;
  }

  -- nothing was done, since memory was wanting
  pub memory_outcome : (ends : ServeEnds) → Outcome names answers fine options rollout ends ends 5
  memory_outcome ends = record {
    too_large = λ is. absurd (cc is);
    large = λ also. inr refl;
    stopped = λ is. absurd (cc is);
    spent = λ is. absurd (cc is);
    spent_told = λ last q calls. inr (inr (inl refl));
    wire_fails = λ is. absurd (cc is);
    wire_fault = λ is. absurd (cc is);
    cut = λ is. absurd (cc is);
    write_fault = λ is. absurd (cc is);
    wanting = λ is. inl (inl (refl, refl));
    complete = λ fits no_wire no_write unspent. inr refl;
    statuses = inr (inr (inr (inl refl)));
  }
