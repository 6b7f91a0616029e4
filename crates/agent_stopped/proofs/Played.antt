-- What a call of an agent does to it and to its disk, by what its one save did.
use Rattle.std.proofs.Common.{◌≡◌, ◌⊎◌, ℕ, ◌+◌, ◌<◌, ◌≤◌, inl, inr, List, [], ◌∷◌, ◌++◌, length, Bool, true, false, cond, Option, None, Some, Result, Ok, Err, IsErrOf, refl, sym, ◌∙◌, ap, subst, arith}
use Rattle.std.specs.Prelude.{IfSome, ◌&&◌, nat_le}
use Rattle.std.proofs.lemmas.Bool.{le-leb, lt-leb, and_from, and_left, and_right, true≢false}
use Rattle.edge_devices.specs.Faults.{HasRisen}
use Rattle.edge_devices.specs.Disks.{DeviceCall, disk_bytes}
use Rattle.edge_devices.specs.DiskCalls.{MadeAll, EndsAmid}
use Rattle.edge_devices.specs.DiskStops.{stopped_image, counts_on}
use Rattle.edge_devices.specs.MemoryDisks.{memory_disk, disk_countdown}
use Rattle.edge_devices.specs.declared.disk_calls.Mode.{Mode}
use Rattle.edge_devices.specs.declared.memory_disk.MemDisk.{MemDisk}
use Rattle.agent_store.specs.declared.slots.Layout.{Layout}
use Rattle.agent_store.specs.Loads.{store_of, save_calls, image_after}
use Rattle.agent_store.specs.Plans.{planned}
use Rattle.agent_store.specs.Slots.{reading, Holds, StandsFor}
use Rattle.agent_store.specs.Store.{StoreState}
use Rattle.agent_store.specs.Stops.{IsStop, leaves_next}
use Rattle.agent_rules.specs.declared.saved.Saved.{Saved}
use Rattle.agent_rules.specs.Codec.{codec}
use Rattle.agent_rules.specs.Payloads.{canonical_saved}
use Rattle.std.specs.Option.{option_map}
use Rattle.agent_rules.specs.declared.rules.parts.AgentFail.{AgentFail}
use Rattle.agent_rules.specs.declared.rules.parts.AgentFail.TheVariants.{StoreFault, NumbersSpent, WrongUid, TooLarge, NoMemory}
use Rattle.agent_rules.specs.Half.{AgentHalf, kept_part, started, restarted}
use Rattle.agent_rules.specs.Keeping.{Call, kept, kept_by, keeping, fits, fits_room}
use Rattle.agent_rules.specs.Calls.{call_after}
use Rattle.agent_state.specs.View.{AgentView, FitsDisk, HasPart, MeansItself, IsSavable, IsOneSave, save_plan}
use Rattle.agent_stopped.specs.declared.opening.Opening.{Opening}
use Rattle.agent_stopped.specs.Endings.{stops_in, calls_of}
use Rattle.agent_stopped.specs.Stages.{Stage, stage_of, Crashed, outcome, Leads, left_on}
use Rattle.agent_stopped.specs.Starts.{CanReturn, IsAtRest, IsStopped}
use Rattle.agent_stopped.specs.Plays.{IsPlayed}
use Rattle.agent_stopped.proofs.StoreLaws.{StoreLaws}
use Rattle.agent_stopped.proofs.Alike.{StaysLocal, call-alike, can-alike}
use Rattle.agent_stopped.proofs.Leading.{nothing-leads, save-leads, save-stops}

passes-test : (j n : ℕ) → (j ≡ 0) ⊎ (n < j) → (nat_le 1 j && nat_le j n) ≡ false
passes-test j n (inl none) = and_left (nat_le 1 j) (nat_le j n) (lt-leb 1 j (omega arith))
passes-test j n (inr later) = and_right (nat_le 1 j) (nat_le j n) (lt-leb j n later)

stops-test : (j : ℕ) (plan : List DeviceCall) → IsStop j plan → stops_in j plan ≡ true
stops-test j plan stop = and_from (nat_le 1 j) (nat_le j (length plan)) (le-leb 1 j stop.from) (le-leb j (length plan) stop.to)

-- an image that reads as another stands for the same
stands_as : (layout : Layout) (part : Option (List ℕ)) (image former : ℕ → ℕ) → reading codec layout image ≡ reading codec layout former
    → StandsFor codec layout former part → StandsFor codec layout image part
stands_as layout None image former same stands = same ∙ stands
stands_as layout (Some part) image former same stands = same ∙ stands

-- the failure that is told for one that came, by the counts of faults before and after: one that no stop made is want of memory
pub record IsTold (before after : ℕ) (came told : AgentFail) : Type 0 where
  pub stop : told ≡ StoreFault → (came ≡ StoreFault) × (HasRisen before after → ⊥)
  pub memory : came ≡ StoreFault → (told ≡ StoreFault) ⊎ (told ≡ NoMemory)
  pub same : (came ≡ StoreFault → ⊥) → told ≡ came

pub told-by : (before after others : ℕ) (came told : AgentFail) → others ≡ before → (told ≡ StoreFault → (came ≡ StoreFault) × (HasRisen others after → ⊥))
    → (came ≡ StoreFault → (told ≡ StoreFault) ⊎ (told ≡ NoMemory)) → ((came ≡ StoreFault → ⊥) → told ≡ came) → IsTold before after came told
told-by before after others came told is stop memory same = record {
  stop = λ fault. ((stop fault).0, λ risen. (stop fault).1 (subst (λ (n : ℕ). HasRisen n after) (sym is) risen));
  memory = memory;
  same = same;
}

-- a reason that holds of the failure that came, and of want of memory
pub told-for : (R : AgentFail → Type 0) (before after : ℕ) (came told : AgentFail) → IsTold before after came told → R NoMemory → R came → R told
told-for R before after StoreFault told is want why = elim (is.memory refl) [
  | inl stop ↦ subst R (sym stop) why
  | inr memory ↦ subst R (sym memory) want
]
told-for R before after NumbersSpent told is want why = subst R (sym (is.same (λ fault. cc))) why
told-for R before after WrongUid told is want why = subst R (sym (is.same (λ fault. cc))) why
told-for R before after TooLarge told is want why = subst R (sym (is.same (λ fault. cc))) why
told-for R before after NoMemory told is want why = subst R (sym (is.same (λ fault. cc))) why

-- a stop is told only where one was due in the call's save
pub stop-due : (T : Type 0) (before after : AgentView) (old new : MemDisk) (call : Call) (came told : AgentFail) → IsTold (disk_countdown old).others (disk_countdown new).others came told
    → IsOneSave {T = T} (memory_disk old) (memory_disk new) (disk_countdown old) (disk_countdown new) before after call (Err came)
    → IsErrOf {T = T} (Err told) StoreFault → stops_in (disk_countdown old).left (save_plan before.store (kept_by before.half call)) ≡ true
stop-due T before after old new call came told is one fault =
    let both = is.stop (told_is fault) in
    let amid = one.made_part (ap (λ (f : AgentFail). Err f) both.0) refl in
    by_cause amid.number amid.within (elim amid.cause [
      | inl hit ↦ hit
      | inr risen ↦ absurd (both.1 risen)
    ])
  where
    plan : List DeviceCall
    plan = save_plan before.store (kept_by before.half call)

    told_is : IsErrOf {T = T} (Err told) StoreFault → told ≡ StoreFault
    told_is fault = cc

    by_cause : (number : ℕ) → number < length plan → number + 1 ≡ (disk_countdown old).left → stops_in (disk_countdown old).left plan ≡ true
    by_cause number within hit = stops-test (disk_countdown old).left plan (record { from = omega (arith, hit); to = omega (arith, within, hit) })

-- an agent that fits its disk
module _ (laws : StoreLaws) (before : AgentView) (old : MemDisk) (fit_disk : FitsDisk (memory_disk old) before.store (kept_part before.half)) where
  abbrev layout : Layout
  layout = before.store.layout

  abbrev from : Stage
  from = stage_of before old

  -- the device calls of a save are those of the agent's store
  calls-are : (part : Saved) → calls_of layout (disk_bytes (memory_disk old)) part ≡ planned codec before.store (canonical_saved part)
  unfolding save_calls
  calls-are part = ap (λ (s : StoreState). planned codec s (canonical_saved part)) (laws.store (memory_disk old) before.store fit_disk.store_fits refl)

  -- a call that was made
  module _ (after : AgentView) (new : MemDisk) (call : Call) (stays : StaysLocal call) (fit : fits before.half call ≡ true) (is : after.half ≡ call_after before.half call) where
    abbrev to : Stage
    to = stage_of after new

    local_is : after.half.local ≡ before.half.local
    local_is = ap (λ (a : AgentHalf). a.local) is ∙ sym ((call-alike before.half call stays).local) ∙ kept_local (kept_by before.half call)
      where
        kept_local : (p : Option Saved) → (keeping p before.half).local ≡ before.half.local
        kept_local None = refl
        kept_local (Some part) = refl

    none-leads : kept_by before.half call ≡ None → disk_bytes (memory_disk new) ≡ disk_bytes (memory_disk old) → (disk_countdown new).left ≡ (disk_countdown old).left → Leads layout from (call ∷ []) to
    none-leads keeps same left = record {
      on = λ mode rest. nothing-leads layout mode from call rest fit stays keeps
          ∙ (λ i. outcome layout mode (record { half = sym is i; image = sym same i; left = sym left i }) rest);
      local = local_is;
    }

    some-leads : (part : Saved) → kept_by before.half call ≡ Some part → stops_in (disk_countdown old).left (calls_of layout (disk_bytes (memory_disk old)) part) ≡ false
        → disk_bytes (memory_disk new) ≡ image_after (disk_bytes (memory_disk old)) (calls_of layout (disk_bytes (memory_disk old)) part)
        → (disk_countdown new).left ≡ counts_on (disk_countdown old).left (calls_of layout (disk_bytes (memory_disk old)) part)
        → Leads layout from (call ∷ []) to
    some-leads part keeps beyond same left = record {
      on = λ mode rest. save-leads layout mode from call rest fit stays part keeps beyond
          ∙ (λ i. outcome layout mode (record { half = sym is i; image = sym same i; left = sym left i }) rest);
      local = local_is;
    }

    made-leads : (p : Option Saved) → kept_by before.half call ≡ p → MadeAll (save_plan before.store p) (memory_disk old) (memory_disk new) (disk_countdown old) (disk_countdown new) → Leads layout from (call ∷ []) to
    unfolding image_after
    made-leads None keeps made = none-leads keeps (laws.bytes old new [] fit_disk.store_fits.settled made.calls) (omega (arith, made.left))
    made-leads (Some part) keeps made =
        let plan : List DeviceCall = planned codec before.store (canonical_saved part) in
        let same : calls_of layout (disk_bytes (memory_disk old)) part ≡ plan = calls-are part in
        some-leads part keeps
        (subst (λ (p : List DeviceCall). stops_in (disk_countdown old).left p ≡ false) (sym same) (passes-test (disk_countdown old).left (length plan) made.before))
        (subst (λ (p : List DeviceCall). disk_bytes (memory_disk new) ≡ image_after (disk_bytes (memory_disk old)) p) (sym same) (laws.bytes old new plan fit_disk.store_fits.settled made.calls))
        (subst (λ (p : List DeviceCall). (disk_countdown new).left ≡ counts_on (disk_countdown old).left p) (sym same) made.left)

    kept-returns : (opening : Opening) (p : Option Saved) → IfSome p MeansItself → CanReturn opening before.half → CanReturn opening (keeping p before.half)
    kept-returns opening None itself can = can
    kept-returns opening (Some part) itself can = record { itself = λ _. itself; first = λ none. absurd (true≢false none); room = can.room; asks = can.asks }

    returns-after : (opening : Opening) → IfSome (kept_by before.half call) MeansItself → CanReturn opening before.half → CanReturn opening after.half
    returns-after opening itself can =
        subst (λ (a : AgentHalf). CanReturn opening a) (sym is)
        (can-alike opening (kept before.half call) (call_after before.half call) (call-alike before.half call stays) (kept-returns opening (kept_by before.half call) itself can))

    pub ok-plays : {T : Type 0} (value : T) → IsOneSave (memory_disk old) (memory_disk new) (disk_countdown old) (disk_countdown new) before after call (Ok value) → IsPlayed before after old new call (Ok value)
    ok-plays value one = record {
      leads = λ opening rest. subst (λ (l : Layout). Leads l from (call ∷ []) to) rest.layout (made-leads (kept_by before.half call) refl (one.made refl));
      at_rest = λ opening rest. record {
        fits = one.fits (λ no_way. cc);
        layout = one.layout ∙ rest.layout;
        returns = returns-after opening one.itself rest.returns;
      };
      stopped = λ no_way. cc;
      unchanged = tt;
      same_disk = tt;
      same_count = tt;
      once = one.once;
      once_stopped = λ no_way. cc;
    }

  -- a call that was stopped in its save
  module _ (opening : Opening) (rest_is : IsAtRest opening before old) (new : MemDisk) (call : Call) (stays : StaysLocal call) (part : Saved) (keeps : kept_by before.half call ≡ Some part)
      (savable : IsSavable before.store part)
      (amid : EndsAmid (planned codec before.store (canonical_saved part)) (memory_disk old) (memory_disk new) (disk_countdown old) (disk_countdown new))
      (none : HasRisen (disk_countdown old).others (disk_countdown new).others → ⊥) where
    abbrev plan : List DeviceCall
    plan = planned codec before.store (canonical_saved part)

    abbrev stop : ℕ
    stop = (disk_countdown old).left

    is_stop : IsStop stop plan
    is_stop = laws.stop old new before.store (canonical_saved part) fit_disk.store_fits amid none

    has_room : fits before.half call ≡ true
    has_room =
        let short : length (canonical_saved part) ≤ before.half.room = subst (λ (n : ℕ). length (canonical_saved part) ≤ n) (ap (λ (l : Layout). l.room) rest_is.layout ∙ sym rest_is.returns.room) savable.can.short in
        ap (λ (p : Option Saved). fits_room before.half.room p) keeps ∙ le-leb (length (canonical_saved part)) before.half.room short

    -- what is in use when it starts again
    abbrev in_use : Bool → AgentHalf
    in_use next = cond next (keeping (Some part) before.half) before.half

    abbrev half_of : Mode → AgentHalf
    half_of mode = restarted (in_use (leaves_next mode plan stop))

    ends : (mode : Mode) (rest : List Call) → outcome opening.layout mode from ((call ∷ []) ++ rest) ≡ Crashed (half_of mode) (left_on new mode)
    ends mode rest =
        ap (λ (l : Layout). outcome l mode from (call ∷ rest)) (sym rest_is.layout)
        ∙ save-stops layout mode from call rest has_room stays part keeps (subst (λ (p : List DeviceCall). stops_in stop p ≡ true) (sym (calls-are part)) (stops-test stop plan is_stop))
        ∙ ap (λ (p : List DeviceCall). Crashed (restarted (in_use (leaves_next mode p stop))) (stopped_image mode (disk_bytes (memory_disk old)) p stop)) (calls-are part)
        ∙ ap (Crashed (half_of mode)) (sym (laws.image old new before.store (canonical_saved part) fit_disk.store_fits amid none mode))

    starts-from : (next : Bool) → restarted (in_use next) ≡ started before.half.local (in_use next).saved (in_use next).is_kept opening.layout.room opening.asks_uid
    starts-from true = λ i. started before.half.local part true (rest_is.returns.room i) (rest_is.returns.asks i)
    starts-from false = λ i. started before.half.local before.half.saved before.half.is_kept (rest_is.returns.room i) (rest_is.returns.asks i)

    returns-from : (next : Bool) → CanReturn opening (restarted (in_use next))
    returns-from true = record { itself = λ _. savable.itself; first = λ no_way. absurd (true≢false no_way); room = rest_is.returns.room; asks = rest_is.returns.asks }
    returns-from false = record { itself = rest_is.returns.itself; first = rest_is.returns.first; room = rest_is.returns.room; asks = rest_is.returns.asks }

    stands-from : (next : Bool) (image : ℕ → ℕ) → reading codec layout image ≡ cond next (Holds (canonical_saved part)) (reading codec layout (disk_bytes (memory_disk old)))
        → HasPart layout (kept_part (restarted (in_use next))) image
    stands-from true image reads = reads
    stands-from false image reads = stands_as layout (option_map canonical_saved (kept_part before.half)) image (disk_bytes (memory_disk old)) reads (fit_disk.stands refl)

    pub stopped-is : IsStopped opening from (call ∷ []) new
    stopped-is = record {
      half = half_of;
      ends = ends;
      starts = λ mode. let next : Bool = leaves_next mode plan stop in record {
        start = starts-is next;
        returns = returns-from next;
        stands = subst (λ (l : Layout). HasPart l (kept_part (restarted (in_use next))) (left_on new mode)) rest_is.layout
            (stands-from next (left_on new mode) (laws.reads old new before.store (canonical_saved part) fit_disk.store_fits amid none mode savable.can));
      };
    }
      where
        starts-is : (next : Bool) → restarted (in_use next) ≡ started before.half.local (restarted (in_use next)).saved (restarted (in_use next)).is_kept opening.layout.room opening.asks_uid
        starts-is true = starts-from true
        starts-is false = starts-from false

  -- a call that failed
  module _ (new : MemDisk) (call : Call) (stays : StaysLocal call) where
    abbrev Amid : Option Saved → Type 0
    Amid p = EndsAmid (save_plan before.store p) (memory_disk old) (memory_disk new) (disk_countdown old) (disk_countdown new)

    fault-stops : (opening : Opening) → IsAtRest opening before old → (HasRisen (disk_countdown old).others (disk_countdown new).others → ⊥)
        → (p : Option Saved) → kept_by before.half call ≡ p → IfSome p (IsSavable before.store) → Amid p → IsStopped opening from (call ∷ []) new
    fault-stops opening rest_is none None keeps savable amid = absurd (omega (arith, amid.within))
    fault-stops opening rest_is none (Some part) keeps savable amid = stopped-is opening rest_is new call stays part keeps savable amid none

    fault-once : (HasRisen (disk_countdown old).others (disk_countdown new).others → ⊥) → (p : Option Saved) → IfSome p (IsSavable before.store) → Amid p
        → (mode : Mode) → (store_of codec layout (left_on new mode)).generation ≤ before.store.generation + 1
    fault-once none None savable amid mode = absurd (omega (arith, amid.within))
    fault-once none (Some part) savable amid mode = laws.generation old new before.store (canonical_saved part) fit_disk.store_fits amid none mode savable.can

    other-failure : (T : Type 0) (came told : AgentFail) → IsTold (disk_countdown old).others (disk_countdown new).others came told → (let r : Result T AgentFail = Err told in (r ≡ Err StoreFault → ⊥)) → (let r : Result T AgentFail = Err told in (r ≡ Err NoMemory → ⊥)) → came ≡ StoreFault → ⊥
    other-failure T came told is no_stop no_want fault = elim (is.memory fault) [
      | inl stop ↦ no_stop (ap (λ (f : AgentFail). Err f) stop)
      | inr want ↦ no_want (ap (λ (f : AgentFail). Err f) want)
    ]

    pub fail-plays : {T : Type 0} (after : AgentView) (came told : AgentFail) → IsTold (disk_countdown old).others (disk_countdown new).others came told
        → IsOneSave {T = T} (memory_disk old) (memory_disk new) (disk_countdown old) (disk_countdown new) before after call (Err came) → IsPlayed {T = T} before after old new call (Err told)
    fail-plays {T} after came told is one = record {
      leads = tt;
      at_rest = tt;
      stopped = λ fault opening rest_is.
          let both = is.stop (told_is fault) in
          fault-stops opening rest_is both.1 (kept_by before.half call) refl (one.savable (ap (λ (f : AgentFail). Err f) both.0)) (one.made_part (ap (λ (f : AgentFail). Err f) both.0) refl);
      unchanged = λ no_stop no_want. one.unchanged (λ fault. other-failure T came told is no_stop no_want (came_is fault));
      same_disk = λ no_stop no_want. one.untouched (λ fault. other-failure T came told is no_stop no_want (came_is fault));
      same_count = λ no_stop no_want. one.uncounted (λ fault. other-failure T came told is no_stop no_want (came_is fault));
      once = tt;
      once_stopped = λ fault opening rest_is mode.
          let both = is.stop (told_is fault) in
          subst (λ (l : Layout). (store_of codec l (left_on new mode)).generation ≤ before.store.generation + 1) rest_is.layout
          (fault-once both.1 (kept_by before.half call) (one.savable (ap (λ (f : AgentFail). Err f) both.0)) (one.made_part (ap (λ (f : AgentFail). Err f) both.0) refl) mode);
    }
      where
        told_is : IsErrOf {T = T} (Err told) StoreFault → told ≡ StoreFault
        told_is fault = cc

        came_is : (let r : Result T AgentFail = Err came in r ≡ Err StoreFault) → came ≡ StoreFault
        came_is fault = cc
