-- An agent's life over several starts is a run of its half of the world.
use Rattle.std.proofs.Common.{◌≡◌, ℕ, List, [], ◌∷◌, ◌++◌, Bool, true, false, Option, None, Some, Result, Ok, IfSome, IsTrue, refl, sym, ◌∙◌, ap, subst, inl, inr}
use Rattle.std.specs.List.{AllByRecursion}
use Rattle.message_values.specs.declared.custom.CustomCapabilities.{CustomCapabilities}
use Rattle.message_values.specs.declared.custom.CustomMessage.{CustomMessage}
use Rattle.message_handlers.specs.Names.{IsOrdered}
use Rattle.edge_devices.specs.Disks.{disk_bytes}
use Rattle.agent_store.specs.declared.opened.Opened.{Opened}
use Rattle.agent_store.specs.declared.opened.Opened.TheVariants.{Fresh, Kept}
use Rattle.agent_store.specs.declared.slots.Layout.{Layout}
use Rattle.agent_store.specs.Found.{AllKept, reading_of}
use Rattle.agent_store.specs.Slots.{Nothing, Holds, reading}
use Rattle.agent_rules.specs.declared.saved.Saved.{Saved}
use Rattle.agent_rules.specs.Codec.{codec}
use Rattle.agent_rules.specs.Laws.{one_value}
use Rattle.agent_rules.specs.Payloads.{canonical_saved, FitsTypes}
use Rattle.agent_rules.specs.Right.{is_right}
use Rattle.agent_rules.specs.declared.rules.parts.LocalState.{LocalState}
use Rattle.agent_rules.specs.Reports.{where_true}
use Rattle.agent_rules.specs.Half.{AgentHalf, kept_part, started}
use Rattle.agent_rules.specs.Events.{AgentEvent, AllHearOwn, Restarts, agent_after, agent_run}
use Rattle.agent_state.specs.View.{HasPart, MeansItself}
use Rattle.agent_rounds.specs.declared.ends.AgentEnd.{AgentEnd}
use Rattle.agent_rounds.specs.Lives.{EachIsLeft, IsOneOf}
use Rattle.agent_rounds.specs.Listening.{AsksQuietServer, ListensWith}
use Rattle.agent_rounds.specs.Moments.{HasOneOf, stage_at, with_saves}
use Rattle.agent_rounds.specs.Replies.{EndsWith}
use Rattle.agent_rounds.specs.RoundEvents.{Happens}
use Rattle.agent_rounds.specs.Rounds.{AsksServer, RoundsBy}
use Rattle.agent_rounds.specs.Stages.{Stage}
use Rattle.agent_rounds.specs.Status.{local_by}
use Rattle.command_words.specs.declared.commands.AgentOptions.{AgentOptions}
use Rattle.command_agent.specs.Lives.{Follows, IsLeftBy, IsLife, LeadsToKept, LeavesImage, Run, RunsTo, last_run}
use Rattle.command_agent.specs.Running.{asking_of, first_moment, last_moment, waiting_of}
use Rattle.command_agent.specs.Starting.{active_at_first, first_half, store_layout}

-- ---- events joined

run_append : (xs ys : List AgentEvent) (a : AgentHalf) → agent_run (xs ++ ys) a ≡ agent_run ys (agent_run xs a)
run_append [] ys a = refl
run_append (x ∷ xs) ys a = run_append xs ys (agent_after a x)

own_append : (xs ys : List AgentEvent) (a : AgentHalf) → AllHearOwn xs a → AllHearOwn ys (agent_run xs a) → AllHearOwn (xs ++ ys) a
own_append [] ys a first second = second
own_append (x ∷ xs) ys a first second = (first.0, own_append xs ys (agent_after a x) first.1 second)

runs_none : (a : AgentHalf) → RunsTo a a
runs_none a = record { events = []; own = tt; leads = refl }

runs_both : (a b c : AgentHalf) → RunsTo a b → RunsTo b c → RunsTo a c
runs_both a b c first second = record {
  events = first.events ++ second.events;
  own = own_append first.events second.events a first.own (subst (AllHearOwn second.events) (sym first.leads) second.own);
  leads = run_append first.events second.events a ∙ (ap (agent_run second.events) first.leads ∙ second.leads);
}

-- ---- what an image stands for

one_left : (layout : Layout) (first : Option Saved) (saves : List Saved) (image : ℕ → ℕ) → HasOneOf layout first saves image
    → (part : Option Saved) × (IsOneOf first saves part × HasPart layout part image)
one_left layout first [] image has = (first, (refl, has))
one_left layout first (next ∷ rest) image (inl has) = (first, (inl refl, has))
one_left layout first (next ∷ rest) image (inr has) = let more = one_left layout (Some next) rest image has in (more.0, (inr more.1.0, more.1.1))

means_one : (first : Option Saved) (saves : List Saved) (part : Option Saved) → IfSome first MeansItself → AllByRecursion MeansItself saves → IsOneOf first saves part → IfSome part MeansItself
means_one first [] part means all is = subst (λ (k : Option Saved). IfSome k MeansItself) (sym is) means
means_one first (next ∷ rest) part means all (inl is) = subst (λ (k : Option Saved). IfSome k MeansItself) (sym is) means
means_one first (next ∷ rest) part means all (inr later) = means_one (Some next) rest part all.0 all.1 later

-- what was found on an image is the part that it stands for
same_found : (image : ℕ → ℕ) (part : Option Saved) (found : Saved) → IfSome part MeansItself → HasPart store_layout part image → IsTrue (is_right found) → FitsTypes found
    → Holds (canonical_saved found) ≡ reading codec store_layout image → part ≡ Some found
same_found image None found means has right typed reads = absurd (let clash : Holds (canonical_saved found) ≡ Nothing = reads ∙ has in cc)
same_found image (Some part) found means has right typed reads =
    let same : Holds (canonical_saved found) ≡ Holds (canonical_saved part) = reads ∙ has in
    let bytes : canonical_saved part ≡ canonical_saved found = cc in
    ap (λ (s : Saved). Some s) (one_value part found means.right means.typed right typed means.short means.bytes bytes)

-- ---- starts

pub kept_is : (kept : Bool) (saved found : Saved) → where_true kept saved ≡ Some found → (kept ≡ true) × (saved ≡ found)
kept_is true saved found is = (refl, (let same : saved ≡ found = cc in same))
kept_is false saved found is = absurd (cc is)

start_room : (options : AgentOptions) (names : CustomCapabilities) (opened : Opened Saved) (uid : List ℕ) → (first_half options names opened uid).room ≡ store_layout.room
start_room options names Fresh uid = refl
start_room options names (Kept saved) uid = refl

module _ (handlers : List (List ℕ)) (may : CustomMessage → Option CustomMessage → Type 0) where
  abbrev are : CustomCapabilities → Type 0
  are names = IsOrdered handlers names.capabilities

  run_room : (run : Run handlers may) → run.runs.first.half.room ≡ store_layout.room
  run_room run = ap (λ (a : AgentHalf). a.room) run.runs.starts.half ∙ start_room run.options run.runs.starts.names run.runs.starts.opened run.runs.starts.uid

  -- each image that a crash may leave stands for what may be left
  pub image_left : (run : Run handlers may) (image : ℕ → ℕ) → IsTrue run.old.disk.told → LeavesImage run image → (part : Option Saved) × (IsLeftBy run part × HasPart store_layout part image)
  image_left run image told is =
      let rounds = run.runs.rounds [] in
      let tells : IsTrue run.runs.loaded.told = run.runs.starts.loads.unwritten.moments.told ∙ told in
      one_left store_layout (kept_part run.runs.first.half) rounds.saves image
      (subst (λ (layout : Layout). HasOneOf layout (kept_part run.runs.first.half) rounds.saves image) run.runs.starts.loads.layout
      ((rounds.images.crash tells).each is.moment image is.since is.until is.left))

  -- a run that begins on such an image, and finds something kept, follows
  pub run_follows : (run next : Run handlers may) (found : Saved) → IsTrue run.old.disk.told → IsTrue next.old.disk.told → IfSome (kept_part run.runs.first.half) MeansItself
      → LeavesImage run (disk_bytes next.old.disk) → next.runs.starts.opened ≡ Kept found → Follows run next × MeansItself found
  run_follows run next found told next_told well image kept =
      let starts = next.runs.starts in
      let left = image_left run (disk_bytes next.old.disk) told image in
      let means : IfSome left.0 MeansItself = means_one (kept_part run.runs.first.half) (run.runs.rounds []).saves left.0 well (run.runs.rounds []).images.itself left.1.0 in
      let reads : Holds (canonical_saved found) ≡ reading codec store_layout (disk_bytes next.old.disk) =
      ap (reading_of canonical_saved) (sym kept) ∙ starts.loads.found next_told in
      let same : left.0 ≡ Some found =
      same_found (disk_bytes next.old.disk) left.0 found means left.1.1 (subst (AllKept (λ s. IsTrue (is_right s))) kept starts.loads.right) (subst (AllKept FitsTypes) kept starts.loads.typed) reads in (
        record { found = found; left = subst (IsLeftBy run) same left.1.0; kept = kept },
        subst (λ (k : Option Saved). IfSome k MeansItself) same means,
      )

  module _ (plain : (left done : ℕ) (s t : Stage) (result : Result ℕ AgentEnd) → s.keeps ≡ [] → RoundsBy AsksServer EndsWith may are left done s t result → EachIsLeft s.half t.keeps)
      (pushed : (left done : ℕ) (s t : Stage) (result : Result ℕ AgentEnd) → s.keeps ≡ [] → RoundsBy AsksQuietServer ListensWith may are left done s t result → EachIsLeft s.half t.keeps) where
    rounds_leave : (push : Bool) (left done : ℕ) (s t : Stage) (result : Result ℕ AgentEnd) → s.keeps ≡ [] → RoundsBy (asking_of push) (waiting_of push) may are left done s t result → EachIsLeft s.half t.keeps
    rounds_leave true = pushed
    rounds_leave false = plain

    -- what is left of a run is what an agent keeps to which events lead
    left_by : (run : Run handlers may) (part : Option Saved) → IsLeftBy run part → (b : AgentHalf) × (RunsTo run.runs.first.half b × ((kept_part b ≡ part) × (b.room ≡ store_layout.room)))
    left_by run part is =
        let begin : Stage = stage_at (first_moment run.options run.old run.runs.loaded run.runs.first) [] in
        let rounds = run.runs.rounds [] in
        let leave =
        rounds_leave run.options.push run.options.rounds 0 begin (with_saves rounds.saves (stage_at (last_moment run.new run.runs.last run.runs.held) [])) run.result refl rounds.does part is in (
          agent_run leave.0 run.runs.first.half,
          (record { events = leave.0; own = leave.1.own; leads = refl }, (leave.1.kept, leave.1.room ∙ run_room run)),
        )

    -- the start of the next run
    next_start : (run next : Run handlers may) → Follows run next → RunsTo run.runs.first.half next.runs.first.half
    next_start run next follows =
        let found : Saved = follows.found in
        let left = left_by run (Some found) follows.left in
        let starts = next.runs.starts in
        let kept = kept_is left.0.is_kept left.0.saved found left.1.1.0 in
        let local : LocalState = local_by None (active_at_first (Kept found)) starts.names in
        let half : next.runs.first.half ≡ started local found true store_layout.room next.options.request_uid =
        starts.half ∙ ap (λ (o : Opened Saved). first_half next.options starts.names o starts.uid) follows.kept in
        let again : agent_after left.0 (Restarts local next.options.request_uid) ≡ started local found true store_layout.room next.options.request_uid =
        λ i. started local (kept.1 i) (kept.0 i) (left.1.1.1 i) next.options.request_uid in
        runs_both run.runs.first.half left.0 next.runs.first.half left.1.0 (record { events = Restarts local next.options.request_uid ∷ []; own = (tt, tt); leads = again ∙ sym half })

    pub life_starts : (run : Run handlers may) (rest : List (Run handlers may)) → IsLife run rest → RunsTo run.runs.first.half (last_run run rest).runs.first.half
    life_starts run [] life = runs_none run.runs.first.half
    life_starts run (next ∷ rest) life =
        runs_both run.runs.first.half next.runs.first.half (last_run next rest).runs.first.half (next_start run next life.0) (life_starts next rest life.1)

    pub life_left : (run : Run handlers may) (rest : List (Run handlers may)) (part : Option Saved) → IsLife run rest → IsLeftBy (last_run run rest) part → LeadsToKept run.runs.first.half part
    life_left run rest part life is =
        let left = left_by (last_run run rest) part is in
        (left.0, (runs_both run.runs.first.half (last_run run rest).runs.first.half left.0 (life_starts run rest life) left.1.0, left.1.1.0))

    module _ (whole : (left done n : ℕ) (s t : Stage) → RoundsBy AsksServer EndsWith may are left done s t (Ok n) → (events : List AgentEvent) × (AllHearOwn events s.half × Happens events s t))
        (pushed_whole : (left done n : ℕ) (s t : Stage) → RoundsBy AsksQuietServer ListensWith may are left done s t (Ok n) → (events : List AgentEvent) × (AllHearOwn events s.half × Happens events s t)) where
      rounds_happen : (push : Bool) (left done n : ℕ) (s t : Stage) → RoundsBy (asking_of push) (waiting_of push) may are left done s t (Ok n) → (events : List AgentEvent) × (AllHearOwn events s.half × Happens events s t)
      rounds_happen true = pushed_whole
      rounds_happen false = whole

      -- the end of a run that a restart command ended
      run_ends : (run : Run handlers may) (n : ℕ) → run.result ≡ Ok n → RunsTo run.runs.first.half run.runs.last.half
      run_ends run n is =
          let begin : Stage = stage_at (first_moment run.options run.old run.runs.loaded run.runs.first) [] in
          let part = run.runs.rounds [] in
          let end : Stage = with_saves part.saves (stage_at (last_moment run.new run.runs.last run.runs.held) []) in
          let happen = rounds_happen run.options.push run.options.rounds 0 n begin end
          (subst (λ (r : Result ℕ AgentEnd). RoundsBy (asking_of run.options.push) (waiting_of run.options.push) may are run.options.rounds 0 begin end r) is part.does) in
          record { events = happen.0; own = happen.1.0; leads = sym happen.1.1.half }

      pub life_ends : (run : Run handlers may) (rest : List (Run handlers may)) (n : ℕ) → IsLife run rest → (last_run run rest).result ≡ Ok n
          → RunsTo run.runs.first.half (last_run run rest).runs.last.half
      life_ends run rest n life is =
          runs_both run.runs.first.half (last_run run rest).runs.first.half (last_run run rest).runs.last.half (life_starts run rest life) (run_ends (last_run run rest) n is)
