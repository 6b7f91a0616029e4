-- What comes of `serve`: its output, its status, and what it does on the wire. The handlers have these names and may answer so.
use Rattle.std.specs.Prelude.{◌≡◌, ℕ, ◌≤◌, ◌⊎◌, List, Bool, Option, None, Some, IsSome, true, false, take}
use Rattle.std.specs.Io.KnownBytes.{Appends}
use Rattle.message_values.specs.declared.custom.CustomMessage.{CustomMessage}
use Rattle.edge_devices.specs.Clocks.{EntropyState}
use Rattle.edge_devices.specs.Faults.{HasRisen}
use Rattle.edge_devices.specs.Streams.{SinkView}
use Rattle.command_words.specs.declared.commands.RolloutOptions.{RolloutOptions}
use Rattle.command_words.specs.declared.commands.ServeOptions.{ServeOptions}
use Rattle.server_core.specs.declared.rows.Record.{Record}
use Rattle.server_sessions.specs.Wiring.{WireView}
use Rattle.command_serve.specs.declared.status.ServeStatus.{ServeStatus}
use Rattle.command_serve.specs.declared.status.ServeStatus.TheVariants as served
use Rattle.command_serve.specs.Rolling.{Fits, IsTooLarge, asked_for, lines_of, progress_in, told_of}
use Rattle.command_serve.specs.Serving.{Dispatch, FailsOnWire, Serves, StopsLast, WantsOnWire}
use Rattle.command_serve.specs.Statuses.{IsServeStatus}

-- the sink, the wire and the random bytes of a run
pub record ServeEnds : Type 0 where
  pub sink : SinkView
  pub wire : WireView
  pub entropy : EntropyState

-- What comes of serving from there; at the end the rollout of that name is told, if one is.
pub record Served (names : List (List ℕ)) (answers : CustomMessage → Option CustomMessage → Type 0) (options : ServeOptions) (first : Dispatch) (told : Option (List ℕ)) (before after : ServeEnds) (status : ServeStatus) : Type 0 where
  pub stopped : status ≡ served.Stopped → (n : ℕ) × (n ≤ options.turns) × (last : Dispatch)
      × Serves names answers options first n before.wire after.wire before.entropy after.entropy last true
      × Appends before.sink.taken after.sink.taken (lines_of n (progress_in told last.rollouts))
  pub spent : status ≡ served.TurnsSpent → (last : Dispatch)
      × Serves names answers options first options.turns before.wire after.wire before.entropy after.entropy last false
      × Appends before.sink.taken after.sink.taken (lines_of options.turns (progress_in told last.rollouts))
  pub spent_told : (last : Dispatch) → Serves names answers options first options.turns before.wire after.wire before.entropy after.entropy last false → IsSome before.wire.calls
      → (status ≡ served.TurnsSpent) ⊎ ((status ≡ served.WriteFault) ⊎ ((status ≡ served.NoMemory)
      ⊎ ((status ≡ served.Stopped) × StopsLast names answers options first before.wire after.wire before.entropy after.entropy)))
  pub wire_fails : status ≡ served.WireFault → FailsOnWire names answers options first before.wire after.wire before.entropy after.entropy
  pub wire_fault : status ≡ served.WireFault → HasRisen before.wire.faults after.wire.faults
  pub cut : status ≡ served.WriteFault → (n : ℕ) × (n ≤ options.turns) × (stop : Bool) × (last : Dispatch)
      × Serves names answers options first n before.wire after.wire before.entropy after.entropy last stop
      × (k : ℕ) × Appends before.sink.taken after.sink.taken (take k (lines_of n (progress_in told last.rollouts)))
  pub write_fault : status ≡ served.WriteFault → HasRisen before.sink.faults after.sink.faults
  pub wanting : status ≡ served.NoMemory → WantsOnWire names answers options first before.wire after.wire before.entropy after.entropy

-- What comes of `serve`, whose judge finds these agents fine: with the rollout that is asked for, if one is, and with pushes, where they are asked for.
pub record Outcome (names : List (List ℕ)) (answers : CustomMessage → Option CustomMessage → Type 0) (fine : Record → Bool) (options : ServeOptions) (rollout : Option RolloutOptions) (before after : ServeEnds) (status : ℕ) : Type 0 where
  -- The offer is too large; it comes where the offer is too large, unless memory was wanting.
  pub too_large : status ≡ 11 → IsTooLarge rollout
  pub large : IsTooLarge rollout → (status ≡ 11) ⊎ (status ≡ 5)
  -- The addresses were listened to, and then events were served as far as `stop`, whose number was written, and how far the rollout that was asked for is, if it is there still.
  pub stopped : status ≡ 0 → (n : ℕ) × (n ≤ options.turns) × (last : Dispatch)
      × Serves names answers options (asked_for fine rollout options.push) n before.wire after.wire before.entropy after.entropy last true
      × Appends before.sink.taken after.sink.taken (lines_of n (progress_in (told_of rollout) last.rollouts))
  -- All turns were taken, none of them `stop`, and the same was written.
  pub spent : status ≡ 9 → (last : Dispatch)
      × Serves names answers options (asked_for fine rollout options.push) options.turns before.wire after.wire before.entropy after.entropy last false
      × Appends before.sink.taken after.sink.taken (lines_of options.turns (progress_in (told_of rollout) last.rollouts))
  -- The other way round, where the wire tells its calls: a run of all turns without `stop` has this status, unless the sink failed or memory was wanting, and
  -- unless its last turn may have been `stop`.
  pub spent_told : (last : Dispatch) → Serves names answers options (asked_for fine rollout options.push) options.turns before.wire after.wire before.entropy after.entropy last false → IsSome before.wire.calls
      → (status ≡ 9) ⊎ ((status ≡ 4) ⊎ ((status ≡ 5) ⊎ ((status ≡ 0) × StopsLast names answers options (asked_for fine rollout options.push) before.wire after.wire before.entropy after.entropy)))
  -- An address was not listened to, or the wire gave no next event; in that call the wire's count rose.
  pub wire_fails : status ≡ 8 → FailsOnWire names answers options (asked_for fine rollout options.push) before.wire after.wire before.entropy after.entropy
  pub wire_fault : status ≡ 8 → HasRisen before.wire.faults after.wire.faults
  -- Events were served to `stop` or to the last turn, and the sink took a front of the lines only; in this call the sink's count rose.
  pub cut : status ≡ 4 → (n : ℕ) × (n ≤ options.turns) × (stop : Bool) × (last : Dispatch)
      × Serves names answers options (asked_for fine rollout options.push) n before.wire after.wire before.entropy after.entropy last stop
      × (k : ℕ) × Appends before.sink.taken after.sink.taken (take k (lines_of n (progress_in (told_of rollout) last.rollouts)))
  pub write_fault : status ≡ 4 → HasRisen before.sink.faults after.sink.faults
  -- Memory was wanting before an address was listened to, while events were served, or for the lines behind them.
  pub wanting : status ≡ 5 → WantsOnWire names answers options (asked_for fine rollout options.push) before.wire after.wire before.entropy after.entropy
  -- Where the offer isn't too large, neither the wire nor the sink failed and the turns weren't spent, `stop` came, or memory was wanting.
  pub complete : Fits rollout
      → (HasRisen before.wire.faults after.wire.faults → ⊥)
      → (HasRisen before.sink.faults after.sink.faults → ⊥)
      → (status ≡ 9 → ⊥)
      → (status ≡ 0) ⊎ (status ≡ 5)
  -- No other status comes.
  pub statuses : (status ≡ 11) ⊎ IsServeStatus status

-- without a rollout
abbrev pub ServeOutcome : List (List ℕ) → (CustomMessage → Option CustomMessage → Type 0) → (Record → Bool) → ServeOptions → ServeEnds → ServeEnds → ℕ → Type 0
ServeOutcome names answers fine options before after status = Outcome names answers fine options None before after status

-- with one
abbrev pub RolloutOutcome : List (List ℕ) → (CustomMessage → Option CustomMessage → Type 0) → (Record → Bool) → ServeOptions → RolloutOptions → ServeEnds → ServeEnds → ℕ → Type 0
RolloutOutcome names answers fine options rollout before after status = Outcome names answers fine options (Some rollout) before after status
