-- How the reading of a disk ends, by what was read of it.
use Rattle.std.proofs.Common.{◌≡◌, ◌⊎◌, ℕ, ◌≤◌, inl, inr, List, [], Result, Ok, Err, IsTrue, sym, ◌∙◌, ap, subst, refl, arith}
use Rattle.std.proofs.lemmas.Bool.{true≢false}
use Rattle.edge_devices.specs.Faults.{HasRisen}
use Rattle.edge_devices.specs.Disks.{DiskState, Countdown, Medium, medium, disk_bytes, IsSettled, MayLeave, LeftSince, Reads}
use Rattle.edge_devices.specs.DiskCalls.{MadeAll, EndsAmidOrAfter}
use Rattle.edge_devices.proofs.DiskCalls.{made-on}
use Rattle.agent_store.specs.Codecs.{Codec, IsRight}
use Rattle.agent_store.specs.declared.fail.StoreFail.{StoreFail}
use Rattle.agent_store.specs.declared.fail.StoreFail.TheVariants as fails
use Rattle.agent_store.specs.declared.header.Header.{Header}
use Rattle.agent_store.specs.declared.opened.Opened.{Opened}
use Rattle.agent_store.specs.declared.opened.Opened.TheVariants.{Fresh, Kept}
use Rattle.agent_store.specs.declared.slots.Choice.TheVariants.{Neither, Twins, Slot}
use Rattle.agent_store.specs.declared.slots.Layout.{Layout}
use Rattle.agent_store.specs.declared.slots.Side.{Side}
use Rattle.agent_store.specs.Headers.{header_choice, header_of}
use Rattle.agent_store.specs.Log.{Standing, Ends, Broken}
use Rattle.agent_store.specs.Openings.{Opens, ReadsHeaders, holding}
use Rattle.agent_store.specs.Plans.{load_plan}
use Rattle.agent_store.specs.Slots.{other, slot_number, reading, standing, told as told_as, Nothing, Holds, Damaged}
use Rattle.agent_store.specs.Store.{StoreState, Matches, fresh_store}
use Rattle.agent_store.proofs.Loading.{load-run, headers-reading, matches-neither, matches-slot}
use Rattle.agent_store.proofs.Remaining.{only-read}

risen_on : (a m b : ℕ) → a ≤ m → HasRisen m b → HasRisen a b
risen_on a m b low (inl less) = inl (omega (arith, low, less))
risen_on a m b low (inr end) = inr end

module _ {T : Type 0} (codec : Codec) (canonical : T → List ℕ) (right typed : T → Type 0) (layout : Layout) (old : DiskState) (a : Countdown) where
  abbrev opened_so : Opened T → Result (Opened T) StoreFail
  opened_so opened = Ok opened

  abbrev failed_so : StoreFail → Result (Opened T) StoreFail
  failed_so fail = Err fail

  not_failed : (opened : Opened T) (fail : StoreFail) → opened_so opened ≡ failed_so fail → ⊥
  not_failed opened fail is = cc

  only_so : (fail another : StoreFail) → (fail ≡ another → ⊥) → failed_so fail ≡ failed_so another → ⊥
  only_so fail another not is = not cc

  which : (slot another : ℕ) → failed_so (fails.Damaged slot) ≡ failed_so (fails.Damaged another) → slot ≡ another
  which slot another is = cc

  not_fresh : (part : T) → Kept part ≡ Fresh → ⊥
  not_fresh part is = cc

  -- the disk failed, or there was no memory
  pub open-stops : (after : StoreState) (new : DiskState) (b : Countdown) → LeftSince old new (MayLeave (medium old)) → disk_bytes new ≡ disk_bytes old → old.faults ≤ new.faults
      → HasRisen old.faults new.faults → (IsTrue old.told → EndsAmidOrAfter load_plan old new a b) → Opens codec canonical right typed layout after old new a b (Err fails.DiskFault)
  open-stops after new b run same counts risen amid = record {
    opened = tt;
    left = tt;
    is_right = tt;
    is_typed = tt;
    fits = tt;
    same_layout = tt;
    fresh = tt;
    damaged = λ slot is. absurd (only_so fails.DiskFault (fails.Damaged slot) (λ same. cc) is);
    any_moment = run;
    same = same;
    made = tt;
    made_part = λ is. amid;
    fault = λ is. risen;
    counts = counts;
    fitting = λ is. only_so fails.DiskFault fails.TooBig (λ same. cc) is;
    unspent = λ is. only_so fails.DiskFault fails.Spent (λ same. cc) is;
  }

  pub open-wants : (after : StoreState) (new : DiskState) (b : Countdown) → LeftSince old new (MayLeave (medium old)) → disk_bytes new ≡ disk_bytes old → old.faults ≤ new.faults
      → Opens codec canonical right typed layout after old new a b (Err fails.NoMemory)
  open-wants after new b run same counts = record {
    opened = tt;
    left = tt;
    is_right = tt;
    is_typed = tt;
    fits = tt;
    same_layout = tt;
    fresh = tt;
    damaged = λ slot is. absurd (only_so fails.NoMemory (fails.Damaged slot) (λ same. cc) is);
    any_moment = run;
    same = same;
    made = tt;
    made_part = λ is. absurd (only_so fails.NoMemory fails.DiskFault (λ same. cc) is);
    fault = λ is. absurd (only_so fails.NoMemory fails.DiskFault (λ same. cc) is);
    counts = counts;
    fitting = λ is. only_so fails.NoMemory fails.TooBig (λ same. cc) is;
    unspent = λ is. only_so fails.NoMemory fails.Spent (λ same. cc) is;
  }

  -- this slot is damaged
  pub open-damaged : (after : StoreState) (new : DiskState) (b : Countdown) → LeftSince old new (MayLeave (medium old)) → disk_bytes new ≡ disk_bytes old → old.faults ≤ new.faults
      → (slot : ℕ) → (IsTrue old.told → reading codec layout (disk_bytes old) ≡ Damaged slot) → Opens codec canonical right typed layout after old new a b (Err (fails.Damaged slot))
  open-damaged after new b run same counts slot wrong = record {
    opened = tt;
    left = tt;
    is_right = tt;
    is_typed = tt;
    fits = tt;
    same_layout = tt;
    fresh = tt;
    damaged = λ another is told. wrong told ∙ ap Damaged (which slot another is);
    any_moment = run;
    same = same;
    made = tt;
    made_part = λ is. absurd (only_so (fails.Damaged slot) fails.DiskFault (λ same. cc) is);
    fault = λ is. absurd (only_so (fails.Damaged slot) fails.DiskFault (λ same. cc) is);
    counts = counts;
    fitting = λ is. only_so (fails.Damaged slot) fails.TooBig (λ same. cc) is;
    unspent = λ is. only_so (fails.Damaged slot) fails.Spent (λ same. cc) is;
  }

  module _ (first second : Header) (mid : DiskState) (b : Countdown) (read : ReadsHeaders layout first second old mid a b) where
    -- nothing was saved yet
    pub open-fresh : header_choice first second ≡ Neither → (after : StoreState) → fresh_store layout ≡ after → Opens codec canonical right typed layout after old mid a b (Ok Fresh)
    open-fresh is after is_after =
        let nothing : IsTrue old.told → Nothing ≡ reading codec layout (disk_bytes old) =
        λ told. sym (headers-reading codec layout (disk_bytes old) first second (read.tells_first told) (read.tells_second told) Neither is) in
        subst (λ (s : StoreState). Opens codec canonical right typed layout s old mid a b (Ok Fresh)) is_after (record {
          opened = nothing;
          left = λ told. only-read codec layout mid Nothing read.settled (ap (reading codec layout) read.same ∙ sym (nothing told));
          is_right = tt;
          is_typed = tt;
          fits = record {
            intact = refl;
            fresh = λ none. refl;
            right = λ kept. absurd (true≢false (sym kept));
            settled = read.settled;
            contents = λ told_now. let told : IsTrue old.told = sym read.any_moment.told ∙ told_now in
                subst (λ (image : ℕ → ℕ). Matches codec image (fresh_store layout)) (sym read.same)
                (matches-neither codec layout (disk_bytes old) first second (read.tells_first told) (read.tells_second told) 0 [] is);
          };
          same_layout = refl;
          fresh = λ same. refl;
          damaged = λ slot same. absurd (not_failed Fresh (fails.Damaged slot) same);
          any_moment = read.any_moment;
          same = read.same;
          made = read.made;
          made_part = λ same. absurd (not_failed Fresh fails.DiskFault same);
          fault = λ same. absurd (not_failed Fresh fails.DiskFault same);
          counts = read.counts;
          fitting = λ same. not_failed Fresh fails.TooBig same;
          unspent = λ same. not_failed Fresh fails.Spent same;
        })

    pub open-twins : header_choice first second ≡ Twins → (after : StoreState) → Opens codec canonical right typed layout after old mid a b (Err (fails.Damaged 0))
    open-twins is after = open-damaged after mid b read.any_moment read.same read.counts 0
        (λ told. headers-reading codec layout (disk_bytes old) first second (read.tells_first told) (read.tells_second told) Twins is)

    -- one slot counts, and it was read
    module _ (side : Side) (is : header_choice first second ≡ Slot side) (new : DiskState) (e : Countdown) (reads : Reads mid new) (counts : IsTrue mid.told → e ≡ b) (later : mid.faults ≤ new.faults) where
      run : LeftSince old new (MayLeave (medium old))
      run = load-run old mid new read.any_moment reads

      same_bytes : disk_bytes new ≡ disk_bytes old
      same_bytes = ap (λ (m : Medium). m.seen) reads.same ∙ read.same

      all_counts : old.faults ≤ new.faults
      all_counts = omega (arith, read.counts, later)

      told_mid : IsTrue old.told → IsTrue mid.told
      told_mid told = read.any_moment.told ∙ told

      made : IsTrue old.told → MadeAll load_plan old new a e
      made told = made-on load_plan old mid new a b e (read.made told) reads.calls (counts (told_mid told))

      stands_so : (found : Standing) → (IsTrue mid.told → found ≡ standing codec layout (disk_bytes mid) side) → IsTrue old.told → standing codec layout (disk_bytes old) side ≡ found
      stands_so found stands told = ap (λ (image : ℕ → ℕ). standing codec layout image side) (sym read.same) ∙ sym (stands (told_mid told))

      slot-stops : (after : StoreState) → HasRisen mid.faults new.faults → Opens codec canonical right typed layout after old new a e (Err fails.DiskFault)
      slot-stops after risen = open-stops after new e run same_bytes all_counts (risen_on old.faults mid.faults new.faults read.counts risen) (λ told. inr (made told))

      pub slot-wants : (after : StoreState) → Opens codec canonical right typed layout after old new a e (Err fails.NoMemory)
      slot-wants after = open-wants after new e run same_bytes all_counts

      pub slot-fails : (after : StoreState) (fail : StoreFail) → (fail ≡ fails.DiskFault) ⊎ (fail ≡ fails.NoMemory) → (fail ≡ fails.DiskFault → HasRisen mid.faults new.faults)
          → Opens codec canonical right typed layout after old new a e (Err fail)
      slot-fails after fail (inl fault) risen = subst (λ (f : StoreFail). Opens codec canonical right typed layout after old new a e (Err f)) (sym fault) (slot-stops after (risen fault))
      slot-fails after fail (inr wants) risen = subst (λ (f : StoreFail). Opens codec canonical right typed layout after old new a e (Err f)) (sym wants) (slot-wants after)

      pub slot-damaged : (after : StoreState) (slot : ℕ) → slot ≡ slot_number side → (IsTrue mid.told → Broken ≡ standing codec layout (disk_bytes mid) side)
          → Opens codec canonical right typed layout after old new a e (Err (fails.Damaged slot))
      slot-damaged after slot number stands = open-damaged after new e run same_bytes all_counts slot
          (λ told. headers-reading codec layout (disk_bytes old) first second (read.tells_first told) (read.tells_second told) (Slot side) is ∙ ap (told_as side) (stands_so Broken stands told) ∙ ap Damaged (sym number))

      pub slot-kept : (part : T) (tail : ℕ) → (IsTrue mid.told → Ends (canonical part) tail ≡ standing codec layout (disk_bytes mid) side) → right part → typed part → IsRight codec (canonical part)
          → (target : Header) → target ≡ header_of first second (other side) → (header : Header) → header ≡ header_of first second side
          → Opens codec canonical right typed layout (holding layout side target.is_open header.generation tail (canonical part)) old new a e (Ok (Kept part))
      slot-kept part tail stands is_right is_typed itself target is_target header is_header =
          let holds : IsTrue old.told → Holds (canonical part) ≡ reading codec layout (disk_bytes old) =
          λ told. sym (headers-reading codec layout (disk_bytes old) first second (read.tells_first told) (read.tells_second told) (Slot side) is ∙ ap (told_as side) (stands_so (Ends (canonical part) tail) stands told)) in
          let still : IsSettled (medium new) = subst IsSettled (sym reads.same) read.settled in record {
            opened = holds;
            left = λ told. only-read codec layout new (Holds (canonical part)) still (ap (reading codec layout) same_bytes ∙ sym (holds told));
            is_right = is_right;
            is_typed = is_typed;
            fits = record {
              intact = refl;
              fresh = λ none. absurd (true≢false none);
              right = λ kept. itself;
              settled = still;
              contents = λ told_now. let told : IsTrue old.told = sym run.told ∙ told_now in
                  subst (λ (image : ℕ → ℕ). Matches codec image (holding layout side target.is_open header.generation tail (canonical part))) (sym same_bytes)
                  (matches-slot codec layout (disk_bytes old) first second (read.tells_first told) (read.tells_second told) side tail (canonical part) is (stands_so (Ends (canonical part) tail) stands told)
                  (other side) refl target header is_target is_header);
            };
            same_layout = refl;
            fresh = λ same. absurd (not_fresh part same);
            damaged = λ slot same. absurd (not_failed (Kept part) (fails.Damaged slot) same);
            any_moment = run;
            same = same_bytes;
            made = made;
            made_part = λ same. absurd (not_failed (Kept part) fails.DiskFault same);
            fault = λ same. absurd (not_failed (Kept part) fails.DiskFault same);
            counts = all_counts;
            fitting = λ same. not_failed (Kept part) fails.TooBig same;
            unspent = λ same. not_failed (Kept part) fails.Spent same;
          }
