-- The agent on its host, after calls.
use Rattle.std.proofs.Common.{◌≡◌, ◌∙◌, ℕ, ◌+◌, ◌^◌, ◌<◌, ◌≤◌, List, [], ◌∷◌, ◌++◌, Bool, true, false, not, ◌&&◌, cond, Option, Some, None, Result, Ok, Err, ap, sym, subst, refl, inl, inr, arith, append_assoc}
use Rattle.std.specs.Prelude.{IfSome, IsSome, IsErrOf, IsTrue, nat_eq}
use Rattle.std.specs.Result.{IsErrAnd}
use Rattle.std.proofs.lemmas.Result.{err_from_is_err_and}
use Rattle.plain_values.specs.declared.files.AgentConfigMap.{AgentConfigMap}
use Rattle.edge_devices.specs.Disks.{DiskState, disk_bytes}
use Rattle.edge_devices.specs.MemoryDisks.{memory_disk, disk_countdown}
use Rattle.edge_devices.specs.declared.disk_calls.Mode.{Mode}
use Rattle.edge_devices.specs.declared.memory_disk.MemDisk.{MemDisk}
use Rattle.edge_devices.specs.declared.memory_folder.MemoryFolder.{MemoryFolder}
use Rattle.edge_devices.specs.Names.{are_good_names}
use Rattle.edge_devices.specs.Endpoints.{is_endpoint}
use Rattle.agent_store.specs.Store.{StoreState}
use Rattle.agent_rules.specs.declared.saved.Saved.{Saved}
use Rattle.agent_rules.specs.declared.rules.parts.AgentFail.{AgentFail}
use Rattle.agent_rules.specs.declared.rules.parts.AgentFail.TheVariants.{StoreFault, NumbersSpent, NoMemory, TooLarge}
use Rattle.agent_rules.specs.Reports.{where_true}
use Rattle.agent_rules.specs.Half.{AgentHalf, kept_part}
use Rattle.agent_rules.specs.Keeping.{Call, kept_by, fits, fits_room, keeping}
use Rattle.agent_rules.specs.Calls.{call_after, calls_after}
use Rattle.agent_state.specs.View.{AgentView, CallRefusal, FitsDisk, KeepRefusal, MeansItself}
use Rattle.agent_stopped.specs.Plays.{IsPlayed}
use Rattle.agent_stopped.specs.Stages.{Done, Leads, Stage, left_on, outcome, stage_of}
use Rattle.agent_stopped.specs.Starts.{IsAtRest, IsStopped, StartsAs}
use Rattle.world_lab.specs.declared.fails.HostFail.{HostFail}
use Rattle.world_lab.specs.declared.fails.HostFail.TheVariants.{Stopped}
use Rattle.world_lab.specs.declared.plays.Host.{Host}
use Rattle.world_lab.specs.declared.plays.TheConstants.{LAYOUT}
use Rattle.world_lab.specs.Hearing.{all_fit}
use Rattle.world_lab.specs.Hosts.{EndsAt, GoesOn, HasFiles, HasGenerations, HasNoOthers, IsAgent, IsHosted, IsSeated, StaysSo, StopsIn, lab_opening, stage_at}
use Rattle.world_lab.proofs.Calls.{one_call, no_call}
use Rattle.world_lab.proofs.Hearing.{all_join, calls_join, calls_stop}
use Rattle.world_lab.proofs.ScriptAgents.{IsKeepable, agent_keeping, agent_restarted}
use Rattle.world_lab.proofs.Stages.{IsBeforeOrAfter, ends_done, leads_both, leads_done, leads_nowhere, no_room_ends, nothing_done, stop_leaves, stopped_after, stopped_before}

-- the host with this agent on this disk
abbrev pub with_agent : Host → AgentView → MemDisk → Host
with_agent host agent disk = record { agent = agent; disk = disk; folder = host.folder }

-- another folder
abbrev pub with_folder : Host → MemoryFolder → Host
with_folder host folder = record { agent = host.agent; disk = host.disk; folder = folder }

-- the folder has a configuration's files at most
pub no_others : (host : Host) (active : AgentConfigMap) → HasFiles host active → HasNoOthers host
no_others host active f = record { packages = f.packages; status = f.status }

-- its configuration is as before
pub files_same : (host : Host) (agent : AgentView) (disk : MemDisk) → HasFiles host host.agent.half.saved.config → agent.half.saved.config ≡ host.agent.half.saved.config → HasFiles (with_agent host agent disk) agent.half.saved.config
files_same host agent disk f same = subst (λ config. HasFiles (with_agent host agent disk) config) (sym same) (record { config = f.config; packages = f.packages; status = f.status })

-- ---- what is in use

true≢false : true ≡ false → ⊥
true≢false e = cc

last_of : (a b c : Bool) → IsTrue (a && b && c) → IsTrue c
last_of true true c all = all
last_of true false c all = absurd (cc all)
last_of false b c all = absurd (cc all)

-- the names of the configuration in use are good
pub good_active : (host : Host) → IsSeated host → IsTrue (are_good_names host.agent.half.saved.config.config_map)
good_active host s = by_kept host.agent.half.is_kept refl
  where
    by_kept : (b : Bool) → host.agent.half.is_kept ≡ b → IsTrue (are_good_names host.agent.half.saved.config.config_map)
    by_kept true is =
        last_of (not (nat_eq host.agent.half.saved.limit 0)) (is_endpoint host.agent.half.saved.settings.endpoint) (are_good_names host.agent.half.saved.config.config_map) (s.rest.returns.itself is).right
    by_kept false is = subst (λ (p : Saved). IsTrue (are_good_names p.config.config_map)) (sym (s.rest.returns.first is)) refl

-- ---- why a call is refused

-- there is no room for what it keeps
pub no_room : (a : AgentView) (call : Call) → a.store.layout.room ≡ a.half.room → CallRefusal a call TooLarge → fits a.half call ≡ false
no_room a call room refusal = of_part (kept_by a.half call) refusal.0 refusal.1
  where
    of_part : (part : Option Saved) → IfSome part (λ p. KeepRefusal a.store p TooLarge) → IsSome part → fits_room a.half.room part ≡ false
    of_part None why some = absurd (cc some)
    of_part (Some p) why some = ap (λ (n : ℕ). fits_room n (Some p)) (sym room) ∙ why

-- a generation is left
pub not_spent : (a : AgentView) (call : Call) → a.store.generation + 1 < 2 ^ 64 → CallRefusal a call NumbersSpent → ⊥
not_spent a call left refusal = of_part (kept_by a.half call) refusal.0 refusal.1
  where
    of_part : (part : Option Saved) → IfSome part (λ p. KeepRefusal a.store p NumbersSpent) → IsSome part → ⊥
    of_part None why some = cc some
    of_part (Some p) why some = omega (arith, left, why.1)

-- the room of a script's agent is that of its store
pub room_is : (host : Host) → IsSeated host → host.agent.store.layout.room ≡ host.agent.half.room
room_is host s = ap (λ x. x.room) s.rest.layout ∙ sym s.rest.returns.room

-- ---- the host stays

-- the same agent, at the same stage
stage_same : (a b : AgentView) (d e : MemDisk) → b ≡ a → memory_disk e ≡ memory_disk d → disk_countdown e ≡ disk_countdown d → stage_of b e ≡ stage_of a d
stage_same a b d e agent disk count = λ i. record { half = (agent i).half; image = disk_bytes (disk i); left = (count i).left }

rest_same : (a b : AgentView) (d e : MemDisk) → b ≡ a → memory_disk e ≡ memory_disk d → IsAtRest lab_opening a d → IsAtRest lab_opening b e
rest_same a b d e agent disk rest = subst (λ (x : AgentView). IsAtRest lab_opening x e) (sym agent) (record {
  fits = subst (λ (s : DiskState). FitsDisk s a.store (kept_part a.half)) (sym disk) rest.fits;
  layout = rest.layout;
  returns = rest.returns;
})

pub seated_same : (host : Host) (agent : AgentView) (disk : MemDisk) → IsSeated host → agent ≡ host.agent → memory_disk disk ≡ memory_disk host.disk → IsSeated (with_agent host agent disk)
seated_same host agent disk s same disk_is = record {
  agent = subst (λ (a : AgentView). IsAgent a.half) (sym same) s.agent;
  rest = rest_same host.agent agent host.disk disk same disk_is s.rest;
}

pub hosted_same : (host : Host) (agent : AgentView) (disk : MemDisk) → IsHosted host → agent ≡ host.agent → memory_disk disk ≡ memory_disk host.disk → IsHosted (with_agent host agent disk)
hosted_same host agent disk h same disk_is = record {
  seated = seated_same host agent disk h.seated same disk_is;
  files = files_same host agent disk h.files (ap (λ a. a.half.saved.config) same);
}

-- the agent was changed beside what it keeps
pub hosted_beside : (host : Host) (agent : AgentView) → IsHosted host → IsAgent agent.half → agent.store ≡ host.agent.store → agent.half.saved ≡ host.agent.half.saved
    → agent.half.is_kept ≡ host.agent.half.is_kept → IsHosted (with_agent host agent host.disk)
hosted_beside host agent h is store saved kept = record {
  seated = record {
    agent = is;
    rest = record {
      fits = subst (λ (x : StoreState). FitsDisk (memory_disk host.disk) x (kept_part agent.half)) (sym store)
          (subst (λ (p : Option Saved). FitsDisk (memory_disk host.disk) host.agent.store p) (sym (λ i. where_true (kept i) (saved i))) h.seated.rest.fits);
      layout = ap (λ x. x.layout) store ∙ h.seated.rest.layout;
      returns = record {
        itself = λ yes. subst MeansItself (sym saved) (h.seated.rest.returns.itself (sym kept ∙ yes));
        first = λ no. saved ∙ h.seated.rest.returns.first (sym kept ∙ no);
        room = is.room;
        asks = is.asks;
      };
    };
  };
  files = files_same host agent host.disk h.files (ap (λ s. s.config) saved);
}

-- a refused call left all as it was
abbrev pub IsOther : Type 0 → AgentFail → Type 0
IsOther T fail = let refused : Result T AgentFail = Err fail in (refused ≡ Err StoreFault → ⊥) × (refused ≡ Err NoMemory → ⊥)

pub large_other : (T : Type 0) → IsOther T TooLarge
large_other T = (λ e. cc e, λ e. cc e)

pub refused_agent : {T : Type 0} (host : Host) (agent : AgentView) (disk : MemDisk) (call : Call) (fail : AgentFail) → IsOther T fail
    → IsPlayed {T = T} host.agent agent host.disk disk call (Err fail) → agent ≡ host.agent
refused_agent host agent disk call fail other p = p.unchanged other.0 other.1

pub refused_stage : {T : Type 0} (host : Host) (agent : AgentView) (disk : MemDisk) (call : Call) (fail : AgentFail) → IsOther T fail
    → IsPlayed {T = T} host.agent agent host.disk disk call (Err fail) → stage_of agent disk ≡ stage_at host
refused_stage host agent disk call fail other p =
    stage_same host.agent agent host.disk disk (p.unchanged other.0 other.1) (p.same_disk other.0 other.1) (p.same_count other.0 other.1)

pub seated_refused : {T : Type 0} (host : Host) (agent : AgentView) (disk : MemDisk) (call : Call) (fail : AgentFail) → IsOther T fail
    → IsSeated host → IsPlayed {T = T} host.agent agent host.disk disk call (Err fail) → IsSeated (with_agent host agent disk)
seated_refused host agent disk call fail other s p = seated_same host agent disk s (p.unchanged other.0 other.1) (p.same_disk other.0 other.1)

pub stays_refused : {T : Type 0} (host : Host) (agent : AgentView) (disk : MemDisk) (call : Call) (fail : AgentFail) → IsOther T fail
    → IsHosted host → IsPlayed {T = T} host.agent agent host.disk disk call (Err fail) → StaysSo host (with_agent host agent disk)
stays_refused host agent disk call fail other h p =
    let same : agent ≡ host.agent = p.unchanged other.0 other.1 in
    let disk_is : memory_disk disk ≡ memory_disk host.disk = p.same_disk other.0 other.1 in
    record {
      agent = same;
      stage = stage_same host.agent agent host.disk disk same disk_is (p.same_count other.0 other.1);
      hosted = hosted_same host agent disk h same disk_is;
    }

-- ---- the host goes on

pub fit_of : (a : AgentHalf) (call : Call) (b : Bool) → fits a call ≡ b → all_fit a (call ∷ []) ≡ b
fit_of a call true fit = ap (λ (b : Bool). cond b true false) fit
fit_of a call false fit = ap (λ (b : Bool). cond b true false) fit

-- a call was made that may save, and it leaves the configuration
pub goes_played : {T : Type 0} (host : Host) (agent : AgentView) (disk : MemDisk) (call : Call) (value : T)
    → IsSeated host → HasFiles host (call_after host.agent.half call).saved.config → IsAgent (call_after host.agent.half call) → fits host.agent.half call ≡ true → agent.half ≡ call_after host.agent.half call
    → (call_after host.agent.half call).local ≡ host.agent.half.local
    → IsPlayed host.agent agent host.disk disk call (Ok value)
    → GoesOn host (with_agent host agent disk) (call ∷ []) 1
goes_played host agent disk call value s f is room step local p =
    let leads : Leads LAYOUT (stage_at host) (call ∷ []) (stage_of agent disk) = p.leads lab_opening s.rest in
    record {
      half = one_call host.agent.half agent.half call room step;
      local = ap (λ a. a.local) step ∙ local;
      hosted = record {
        seated = record { agent = subst IsAgent (sym step) is; rest = p.at_rest lab_opening s.rest };
        files = subst (λ (a : AgentHalf). HasFiles (with_agent host agent disk) a.saved.config) (sym step) (record { config = f.config; packages = f.packages; status = f.status });
      };
      saves = p.once;
      leads = λ all. leads;
      ends = λ none. absurd (true≢false (sym (fit_of host.agent.half call true room) ∙ none));
    }

-- there was no room
pub goes_refused : (old new : Host) (call : Call) → fits old.agent.half call ≡ false → StaysSo old new → GoesOn old new (call ∷ []) 1
goes_refused old new call room stays = record {
  half = no_call old.agent.half new.agent.half call room (ap (λ a. a.half) stays.agent);
  local = ap (λ a. a.half.local) stays.agent;
  hosted = stays.hosted;
  saves = let gen : new.agent.store.generation ≡ old.agent.store.generation = ap (λ a. a.store.generation) stays.agent in omega arith;
  leads = λ all. absurd (true≢false (sym all ∙ fit_of old.agent.half call false room));
  ends = λ none mode rest. no_room_ends LAYOUT mode (stage_at old) call rest room ∙ ap (λ (s : Stage). Done s.half s.image) (sym stays.stage);
}

-- what follows on a call that left all as it was
pub goes_from : (old mid new : Host) (calls : List Call) (saves : ℕ) → mid.agent ≡ old.agent → stage_at mid ≡ stage_at old → GoesOn mid new calls saves → GoesOn old new calls saves
goes_from old mid new calls saves agent stage goes = record {
  half = goes.half ∙ ap (λ (a : AgentView). calls_after a.half calls) agent;
  local = goes.local ∙ ap (λ a. a.half.local) agent;
  hosted = goes.hosted;
  saves = let gen : mid.agent.store.generation ≡ old.agent.store.generation = ap (λ a. a.store.generation) agent in omega (arith, gen, goes.saves);
  leads = λ all. subst (λ (s : Stage). Leads LAYOUT s calls (stage_at new)) stage (goes.leads (ap (λ (a : AgentView). all_fit a.half calls) agent ∙ all));
  ends = λ none. subst (λ (s : Stage). EndsAt s calls (stage_at new)) stage (goes.ends (ap (λ (a : AgentView). all_fit a.half calls) agent ∙ none));
}

pub stops_from : (old mid new : Host) (calls : List Call) (saves : ℕ) → mid.agent ≡ old.agent → stage_at mid ≡ stage_at old → StopsIn mid new calls saves → StopsIn old new calls saves
stops_from old mid new calls saves agent stage stops =
    record {
      stopped = record {
        half = stops.stopped.half;
        ends = λ mode rest. ap (λ (s : Stage). outcome LAYOUT mode s (calls ++ rest)) (sym stage) ∙ stops.stopped.ends mode rest;
        starts = λ mode. subst (λ (s : Stage). StartsAs lab_opening s.half.local (left_on new.disk mode) (stops.stopped.half mode)) stage (stops.stopped.starts mode);
      };
      agents = stops.agents;
      others = stops.others;
      saves = λ mode. let gen : mid.agent.store.generation ≡ old.agent.store.generation = ap (λ a. a.store.generation) agent in let few = stops.saves mode in omega (arith, gen, few);
    }

-- the same agent on the same disk
pub stage_kept : (old mid : Host) → mid.agent ≡ old.agent → mid.disk ≡ old.disk → stage_at mid ≡ stage_at old
stage_kept old mid agent disk = λ i. stage_of (agent i) (disk i)

pub generations_kept : (old mid : Host) (n : ℕ) → mid.agent ≡ old.agent → HasGenerations n old → HasGenerations n mid
generations_kept old mid n agent left = subst (λ (a : AgentView). a.store.generation + n < 2 ^ 64) (sym agent) left

-- a call was made that keeps nothing
pub goes_beside : (host : Host) (agent : AgentView) (call : Call) (saves : ℕ)
    → IsHosted host → IsAgent (call_after host.agent.half call) → fits host.agent.half call ≡ true → agent.half ≡ call_after host.agent.half call → agent.store ≡ host.agent.store
    → (call_after host.agent.half call).saved.config ≡ host.agent.half.saved.config → (call_after host.agent.half call).local ≡ host.agent.half.local
    → Leads LAYOUT (stage_at host) (call ∷ []) (stage_of agent host.disk) → IsAtRest lab_opening agent host.disk
    → GoesOn host (with_agent host agent host.disk) (call ∷ []) saves
goes_beside host agent call saves h is room step store config local leads rest = record {
  half = one_call host.agent.half agent.half call room step;
  local = ap (λ a. a.local) step ∙ local;
  hosted = record { seated = record { agent = subst IsAgent (sym step) is; rest = rest }; files = files_same host agent host.disk h.files (ap (λ a. a.saved.config) step ∙ config) };
  saves = let gen : agent.store.generation ≡ host.agent.store.generation = ap (λ s. s.generation) store in omega arith;
  leads = λ all. leads;
  ends = λ none. absurd (true≢false (sym (fit_of host.agent.half call true room) ∙ none));
}

-- nothing was called
pub goes_nowhere : (host : Host) (saves : ℕ) → IsHosted host → GoesOn host host [] saves
goes_nowhere host saves h = record {
  half = refl;
  local = refl;
  hosted = h;
  saves = omega arith;
  leads = λ all. leads_nowhere LAYOUT (stage_at host);
  ends = λ none. absurd (true≢false none);
}

-- the calls are as there
pub goes_by : (a b : Host) (calls all : List Call) (saves : ℕ) → calls ≡ all → GoesOn a b calls saves → GoesOn a b all saves
goes_by a b calls all saves same goes = subst (λ (cs : List Call). GoesOn a b cs saves) same goes

pub more_saves : (old new : Host) (calls : List Call) (few saves : ℕ) → few ≤ saves → GoesOn old new calls few → GoesOn old new calls saves
more_saves old new calls few saves more goes = record { half = goes.half; local = goes.local; hosted = goes.hosted; saves = omega (arith, goes.saves, more); leads = goes.leads; ends = goes.ends }

and_is : (x y : Bool) → x ≡ true → (x && y) ≡ y
and_is true y is = refl
and_is false y is = absurd (true≢false (sym is))

-- one part after the other, where there was room for the first
pub goes_both : (a b c : Host) (first second : List Call) (n m : ℕ) → all_fit a.agent.half first ≡ true → GoesOn a b first n → GoesOn b c second m → GoesOn a c (first ++ second) (n + m)
goes_both a b c first second n m room one two =
    let fit : all_fit a.agent.half (first ++ second) ≡ all_fit b.agent.half second =
    all_join a.agent.half first second ∙ and_is (all_fit a.agent.half first) _ room ∙ ap (λ (h : AgentHalf). all_fit h second) (sym one.half) in
    record {
      half = two.half ∙ ap (λ (h : AgentHalf). calls_after h second) one.half ∙ sym (calls_join a.agent.half first second room);
      local = two.local ∙ one.local;
      hosted = two.hosted;
      saves = omega (arith, one.saves, two.saves);
      leads = λ all. leads_both LAYOUT (stage_at a) (stage_at b) (stage_at c) first second (one.leads room) (two.leads (sym fit ∙ all));
      ends = λ none mode rest. ap (outcome LAYOUT mode (stage_at a)) (append_assoc first second rest) ∙ (one.leads room).on mode (second ++ rest) ∙ two.ends (sym fit ∙ none) mode rest;
    }

-- where there was no room nothing follows
pub goes_no_further : (a b : Host) (first more : List Call) (n : ℕ) → all_fit a.agent.half first ≡ false → GoesOn a b first n → GoesOn a b (first ++ more) n
goes_no_further a b first more n room goes = record {
  half = goes.half ∙ sym (calls_stop a.agent.half first more room);
  local = goes.local;
  hosted = goes.hosted;
  saves = goes.saves;
  leads = λ all. absurd (true≢false (sym all ∙ all_join a.agent.half first more ∙ ap (λ (b : Bool). b && all_fit (calls_after a.agent.half first) more) room));
  ends = λ none mode rest. ap (outcome LAYOUT mode (stage_at a)) (append_assoc first more rest) ∙ goes.ends room mode (more ++ rest);
}

-- no call more
pub goes_and_stays : (a b c : Host) (calls : List Call) (n m : ℕ) → GoesOn a b calls n → GoesOn b c [] m → GoesOn a c calls (n + m)
goes_and_stays a b c calls n m one two =
    let same : Done b.agent.half (stage_at b).image ≡ Done c.agent.half (stage_at c).image = nothing_done LAYOUT (stage_at b) (stage_at c) (two.leads refl) in
    record {
      half = two.half ∙ one.half;
      local = two.local ∙ one.local;
      hosted = two.hosted;
      saves = omega (arith, one.saves, two.saves);
      leads = λ all. record { on = λ mode rest. (one.leads all).on mode rest ∙ (two.leads refl).on mode rest; local = two.local ∙ one.local };
      ends = λ none mode rest. one.ends none mode rest ∙ same;
    }

-- what they come to
pub goes_done : (old new : Host) (calls : List Call) (n : ℕ) (mode : Mode) → GoesOn old new calls n → outcome LAYOUT mode (stage_at old) calls ≡ Done new.agent.half (stage_at new).image
goes_done old new calls n mode goes = by_room (all_fit old.agent.half calls) refl
  where
    by_room : (b : Bool) → all_fit old.agent.half calls ≡ b → outcome LAYOUT mode (stage_at old) calls ≡ Done new.agent.half (stage_at new).image
    by_room true room = leads_done LAYOUT mode (stage_at old) (stage_at new) calls (goes.leads room)
    by_room false room = ends_done LAYOUT mode (stage_at old) (stage_at new) calls (goes.ends room)

-- ---- a stop

-- a stop is one whatever was wanted
pub same_stop : (T U : Type 0) (fail : HostFail) → IsErrOf {T = T} (Err fail) Stopped → IsErrOf {T = U} (Err fail) Stopped
same_stop T U fail is = let same : fail ≡ Stopped = cc in ap (λ f. Err f) same

pub stop_passed : {T : Type 0} (U : Type 0) (r : Result T HostFail) (fail : HostFail) → IsErrAnd r (λ e. e ≡ fail) → IsErrOf r Stopped → IsErrOf {T = U} (Err fail) Stopped
stop_passed U r fail same is =
    let found = err_from_is_err_and r same in
    let both : Err found.0 ≡ Err Stopped = sym found.1 ∙ is in
    let stopped : found.0 ≡ Stopped = cc in
    ap (λ f. Err f) (sym found.2 ∙ stopped)

before_or_after : (a : AgentHalf) (part : Option Saved) (h : AgentHalf) → IsAgent a → IfSome part IsKeepable → IsBeforeOrAfter a part h → IsAgent h
before_or_after a part h i keeps (inl before) = subst IsAgent (sym before) (agent_restarted a i)
before_or_after a part h i keeps (inr after) = subst IsAgent (sym after) (agent_restarted (keeping part a) (agent_keeping a part i keeps))

-- a device call of a call was stopped
pub stops_played : {T : Type 0} (host : Host) (agent : AgentView) (disk : MemDisk) (call : Call)
    → IsSeated host → IfSome (kept_by host.agent.half call) IsKeepable → HasNoOthers host → IsPlayed {T = T} host.agent agent host.disk disk call (Err StoreFault)
    → StopsIn host (with_agent host agent disk) (call ∷ []) 1
stops_played host agent disk call s keeps others p =
    let stopped : IsStopped lab_opening (stage_at host) (call ∷ []) disk = p.stopped refl lab_opening s.rest in
    record {
      stopped = stopped;
      agents = λ mode. before_or_after host.agent.half (kept_by host.agent.half call) (stopped.half mode) s.agent keeps (stop_leaves lab_opening (stage_at host) call disk stopped mode);
      others = record { packages = others.packages; status = others.status };
      saves = p.once_stopped refl lab_opening s.rest;
    }

pub stops_by : (a b : Host) (calls all : List Call) (saves : ℕ) → calls ≡ all → StopsIn a b calls saves → StopsIn a b all saves
stops_by a b calls all saves same stops = subst (λ (cs : List Call). StopsIn a b cs saves) same stops

-- in later calls
pub stops_after : (a b c : Host) (first second : List Call) (n m : ℕ) → all_fit a.agent.half first ≡ true → GoesOn a b first n → StopsIn b c second m → StopsIn a c (first ++ second) (n + m)
stops_after a b c first second n m room goes stops = record {
  stopped = stopped_after lab_opening (stage_at a) (stage_at b) first second c.disk (goes.leads room) stops.stopped;
  agents = stops.agents;
  others = stops.others;
  saves = λ mode. let few = stops.saves mode in omega (arith, goes.saves, few);
}

-- or in earlier ones
pub stops_before : (a b : Host) (first second : List Call) (n m : ℕ) → n ≤ m → StopsIn a b first n → StopsIn a b (first ++ second) m
stops_before a b first second n m few stops = record {
  stopped = stopped_before lab_opening (stage_at a) first second b.disk stops.stopped;
  agents = stops.agents;
  others = stops.others;
  saves = λ mode. let bound = stops.saves mode in omega (arith, few, bound);
}

abbrev pub stops_more : (a b : Host) (calls : List Call) (n m : ℕ) → n ≤ m → StopsIn a b calls n → StopsIn a b calls m
stops_more a b calls n m few stops = record {
  stopped = stops.stopped;
  agents = stops.agents;
  others = stops.others;
  saves = λ mode. let bound = stops.saves mode in omega (arith, few, bound);
}
