-- Lines in which a device call may be stopped, from what their parts leave.
use Rattle.std.proofs.Common.{◌≡◌, ◌∙◌, ◌⊎◌, inl, inr, ℕ, ◌+◌, ◌-◌, ◌≤◌, List, [], ◌∷◌, ◌++◌, length, Bool, true, false, not, ◌&&◌, ◌||◌, cond, Option, Some, None, ap, sym, subst, refl, arith}
use Rattle.std.specs.Prelude.{IfSome, is_some}
use Rattle.std.specs.Option.{option_map}
use Rattle.edge_devices.specs.declared.disk_calls.Mode.{Mode}
use Rattle.edge_devices.specs.Disks.{disk_bytes}
use Rattle.edge_devices.specs.MemoryDisks.{memory_disk}
use Rattle.edge_devices.specs.declared.memory_disk.MemDisk.{MemDisk}
use Rattle.agent_store.specs.Plans.{load_plan}
use Rattle.message_values.specs.declared.reply.ServerToAgent.{ServerToAgent}
use Rattle.server_core.specs.Served.{Served}
use Rattle.server_core.specs.History.{Event as ServerEvent}
use Rattle.agent_rules.specs.declared.rules.parts.Prepared.{Prepared}
use Rattle.agent_rules.specs.Half.{AgentHalf, entry_of, restarted}
use Rattle.agent_rules.specs.Keeping.{Call, Report, fits}
use Rattle.agent_rules.specs.Reports.{fits_message, message_of}
use Rattle.agent_rules.specs.Calls.{calls_after, has_number, may_report, reported}
use Rattle.agent_rules.specs.Events.{AgentEvent, Reports, Hears, Restarts, Crashes, agent_after, calls_in, reply_calls}
use Rattle.agent_stopped.specs.Endings.{Ending, Passed, Stopped, event_ends, image_in, stops_in}
use Rattle.agent_stopped.specs.Stages.{Stage, Done, Crashed as Crash, outcome, event_by, Leads, left_on}
use Rattle.agent_stopped.specs.Starts.{IsStopped}
use Rattle.world_model.specs.World.{World, Event, Sent, Answered, Crashed, after, agent_follows, crash_of, no_reactions, reply_due, seen_of}
use Rattle.world_model.specs.Servers.{NamesNobody, arrivals}
use Rattle.world_scripts.specs.declared.lines.Line.{Line}
use Rattle.world_scripts.specs.declared.lines.Line.TheVariants as lines
use Rattle.world_lab.specs.declared.plays.Host.{Host}
use Rattle.world_lab.specs.declared.plays.Play.{Play}
use Rattle.world_lab.specs.declared.plays.SentReport.{SentReport}
use Rattle.world_lab.specs.declared.plays.TheConstants.{LAYOUT}
use Rattle.world_lab.specs.declared.written.Written.{Written}
use Rattle.world_lab.specs.declared.written.Written.TheVariants.{Nothing}
use Rattle.world_lab.specs.Playing.{Progress, after_line, device_event, drops_pushes, ended, ending_of, ends, moves_trial, pushes_after, restart_of, script_start, stop_call, stop_mode, with_event, world_of}
use Rattle.world_lab.specs.Transcripts.{answered_line, crash_line, heard_line, line_written, plain_line, sent_line, start_line, unless_stopped}
use Rattle.world_lab.specs.Hearing.{all_fit}
use Rattle.world_lab.specs.Hosts.{GoesOn, IsHosted, StopsIn, lab_opening, stage_at}
use Rattle.world_lab.specs.Reports.{IsKept, IsReported}
use Rattle.world_lab.specs.Mirrors.{IsPlayed, IsReply, IsSentAs, Mirrors, MirrorsWorld, Plays, kept_at}
use Rattle.world_lab.proofs.Sent.{none≢some, sent_length}
use Rattle.world_lab.proofs.Mirroring.{GoOn, ArriveOn, mirrors_next, pushed_after, reached_after, world_sent, world_unsent, world_heard, world_restarted, world_crashed, due_is_kept}
use Rattle.world_lab.proofs.Entries.{entry_server, entry_uid}

-- what is seen comes to what its calls come to
abbrev pub Comes : AgentEvent → Type 0
Comes seen = (mode : Mode) (stage : Stage)
    → event_by stage.half seen (event_ends LAYOUT mode stage.left stage.image stage.half seen) ≡ outcome LAYOUT mode stage (calls_in stage.half seen)

-- the laws of stopped agents that are called here
pub record StopLaws : Type 0 where
  pub reports : Comes Reports
  pub hears : (reply : ServerToAgent) → Comes (Hears reply no_reactions)
  pub none : (stage : Stage) → Leads LAYOUT stage [] stage
  pub done : (mode : Mode) (from to : Stage) (calls : List Call) → Leads LAYOUT from calls to → outcome LAYOUT mode from calls ≡ Done to.half to.image
  pub crashed : (mode : Mode) (from : Stage) (calls : List Call) (disk : MemDisk) (s : IsStopped lab_opening from calls disk)
      → outcome LAYOUT mode from calls ≡ Crash (s.half mode) (left_on disk mode)
  pub tells_done : (a half : AgentHalf) (event : AgentEvent) (ending : Ending) (image : ℕ → ℕ) → event_by a event ending ≡ Done half image
      → (ending ≡ Passed image) × (agent_after a event ≡ half)
  pub tells_crashed : (a half : AgentHalf) (event : AgentEvent) (ending : Ending) (image : ℕ → ℕ) → event_by a event ending ≡ Crash half image
      → (saves : ℕ) × ((ending ≡ Stopped saves image) × (agent_after a (Crashes event saves) ≡ half))

-- ---- the stop

-- the armed stop was taken, and its device call is stopped
pub record IsTaken (play mid : Play) : Type 0 where
  pub agent : mid.host.agent ≡ play.host.agent
  pub stage : stage_at mid.host ≡ record (stage_at play.host) { left = stop_call play.stop }
  pub taken : mid.stop ≡ None
  pub opening : mid.opening ≡ play.opening
  pub local : mid.local ≡ play.local
  pub sent : mid.sent.items ≡ play.sent.items
  pub pushes : mid.pushes.items ≡ play.pushes.items

-- what is beside the host and the reports is as before
pub record IsBeside (mid end : Play) : Type 0 where
  pub stop : end.stop ≡ mid.stop
  pub opening : end.opening ≡ mid.opening
  pub local : end.local ≡ mid.local

-- where the agent is, as far as the script is
abbrev pub stage_in : Progress → Stage
stage_in p = record { half = (world_of p).agent; image = p.image; left = stop_call p.stop }

stage_is : (p : Progress) (play mid : Play) (servers : List Served) → Mirrors p play servers → IsTaken play mid → stage_at mid.host ≡ stage_in p
stage_is p play mid servers m t = t.stage ∙ (λ i. record { half = m.world.agent_is i; image = m.image i; left = stop_call (m.stop i) })

mid_world : (w : World) (history : List ℕ → List ServerEvent) (play mid : Play) (servers : List Served) → IsTaken play mid
    → MirrorsWorld w history play.host.agent.half play.sent.items servers → MirrorsWorld w history mid.host.agent.half mid.sent.items servers
mid_world w history play mid servers t m =
    subst (λ a. MirrorsWorld w history a.half mid.sent.items servers) (sym t.agent)
    (subst (λ (rs : List SentReport). MirrorsWorld w history play.host.agent.half rs servers) (sym t.sent) m)

-- ---- how a line ends

-- as far as the script is once an event ended so
abbrev pub by_ending : Progress → Event → Ending → Progress
by_ending p e ending = with_event p (ended e ending) (image_in ending) None

-- the line is such an event here
pub record IsDeviceLineAt (p : Progress) (line : Line) (e : Event) : Type 0 where
  pub does : after_line p line ≡ device_event p e
  pub writes : line_written p line ≡ unless_stopped (world_of p) e (ends p e) (plain_line (world_of p) line)

-- and everywhere
abbrev pub IsDeviceLine : Line → Event → Type 0
IsDeviceLine line e = (p : Progress) → IsDeviceLineAt p line e

pub send_is : IsDeviceLine lines.Send Sent
send_is p = record { does = refl; writes = refl }

pub reply_is : IsDeviceLine lines.Reply (Answered no_reactions)
reply_is p = record { does = refl; writes = refl }

pub restart_is : (p : Progress) → IsDeviceLineAt p lines.Restart (restart_of (world_of p).agent)
restart_is p = record { does = refl; writes = refl }

passed_line : (line : Line) (e : Event) (p : Progress) → IsDeviceLineAt p line e → (image : ℕ → ℕ) (end : Play) (servers : List Served) (shown : Written)
    → ends p e ≡ Passed image → Mirrors (by_ending p e (Passed image)) end servers → shown ≡ plain_line (world_of p) line → IsPlayed p line end servers shown
passed_line line e p is image end servers shown passes m text = record {
  mirrors = subst (λ (q : Progress). Mirrors q end servers) (sym (is.does ∙ ap (by_ending p e) passes)) m;
  written = text ∙ sym (is.writes ∙ ap (λ x. unless_stopped (world_of p) e x (plain_line (world_of p) line)) passes);
}

stopped_line : (line : Line) (e : Event) (p : Progress) → IsDeviceLineAt p line e → (saves : ℕ) (image : ℕ → ℕ) (end : Play) (servers : List Served) (shown : Written)
    → ends p e ≡ Stopped saves image → Mirrors (by_ending p e (Stopped saves image)) end servers → shown ≡ crash_line (after (world_of p) (Crashed e saves)).agent
    → IsPlayed p line end servers shown
stopped_line line e p is saves image end servers shown stops m text = record {
  mirrors = subst (λ (q : Progress). Mirrors q end servers) (sym (is.does ∙ ap (by_ending p e) stops)) m;
  written = text ∙ sym (is.writes ∙ ap (λ x. unless_stopped (world_of p) e x (plain_line (world_of p) line)) stops);
}

-- what the play is then
pub record IsEnd (p : Progress) (e : Event) (ending : Ending) (play end : Play) (servers : List Served) : Type 0 where
  pub world : MirrorsWorld (after (world_of p) (ended e ending)) (reached_after (world_of p) (arrivals script_start p.events) (ended e ending)) end.host.agent.half end.sent.items servers
  pub image : disk_bytes (memory_disk end.host.disk) ≡ image_in ending
  pub stop : end.stop ≡ None
  pub opening : end.opening ≡ play.opening
  pub local : end.local ≡ end.host.agent.half.local
  pub hosted : IsHosted end.host
  pub saves : end.host.agent.store.generation ≤ play.host.agent.store.generation + 4
  pub pushes : end.pushes.items ≡ pushes_after (world_of p) (ended e ending) p.pushes
  pub nobody : NamesNobody e

-- no message gives an identifier in the event, nor in a crash in it
nobody_ended : (e : Event) (ending : Ending) → NamesNobody e → NamesNobody (ended e ending)
nobody_ended e (Passed image) is = is
nobody_ended e (Stopped saves image) is = is

ends_so : GoOn → ArriveOn → (p : Progress) (e : Event) (ending : Ending) (play end : Play) (servers : List Served) → Mirrors p play servers → IsEnd p e ending play end servers
    → Mirrors (by_ending p e ending) end servers
ends_so worlds reach p e ending play end servers m n = mirrors_next worlds reach p (by_ending p e ending) (ended e ending) play end servers servers m (record {
  events = refl;
  world = n.world;
  image = n.image;
  stop = n.stop;
  local = n.local;
  opening = n.opening;
  hosted = n.hosted;
  saves = n.saves;
  pushes = n.pushes;
  pushed = pushed_after (drops_pushes (world_of p).agent (ended e ending) (after (world_of p) (ended e ending)).agent) p.pushes m.pushed;
  nobody = nobody_ended e ending n.nobody;
})

-- the device calls of what the agent saw were all made
pub passes_by : StopLaws → (p : Progress) (e : Event) (seen : AgentEvent) (half : AgentHalf) (image : ℕ → ℕ) → seen_of (world_of p) e ≡ Some seen → Comes seen
    → outcome LAYOUT (stop_mode p.stop) (stage_in p) (calls_in (world_of p).agent seen) ≡ Done half image → ends p e ≡ Passed image
passes_by laws p e seen half image sees comes done =
    ap (λ (o : Option AgentEvent). ending_of p o) sees
    ∙ (laws.tells_done (world_of p).agent half seen _ image (comes (stop_mode p.stop) (stage_in p) ∙ done)).0

append_nothing : (xs : List Call) → xs ++ [] ≡ xs
append_nothing [] = refl
append_nothing (x ∷ xs) = ap (λ ys. x ∷ ys) (append_nothing xs)

-- calls that lead on come to where they lead
pub goes_done : StopLaws → (old new : Host) (calls : List Call) (most : ℕ) → GoesOn old new calls most → (mode : Mode)
    → outcome LAYOUT mode (stage_at old) calls ≡ Done new.agent.half (disk_bytes (memory_disk new.disk))
goes_done laws old new calls most goes mode = by_room (all_fit old.agent.half calls) refl
  where
    by_room : (b : Bool) → all_fit old.agent.half calls ≡ b → outcome LAYOUT mode (stage_at old) calls ≡ Done new.agent.half (disk_bytes (memory_disk new.disk))
    by_room true room = laws.done mode (stage_at old) (stage_at new) calls (goes.leads room)
    by_room false room = ap (λ (cs : List Call). outcome LAYOUT mode (stage_at old) cs) (sym (append_nothing calls)) ∙ goes.ends room mode []

-- no calls come to where they began
none_done : StopLaws → (mode : Mode) (stage : Stage) → outcome LAYOUT mode stage [] ≡ Done stage.half stage.image
none_done laws mode stage = laws.done mode stage stage [] (laws.none stage)

-- ---- reports

may_calls : (a : AgentHalf) → may_report a ≡ true → calls_in a Reports ≡ Report ∷ []
may_calls a may = ap (λ (b : Bool). cond b (Report ∷ []) []) may

no_calls : (a : AgentHalf) → may_report a ≡ false → calls_in a Reports ≡ []
no_calls a may = ap (λ (b : Bool). cond b (Report ∷ []) []) may

-- the agent reported
pub sent_plays : StopLaws → GoOn → ArriveOn → (play mid end : Play) (prepared : Prepared) (written : Written) → IsTaken play mid
    → IsReported mid.host end.host prepared → IsBeside mid end → IsKept mid.host.agent.half mid.sent.items end.sent.items written → end.pushes.items ≡ mid.pushes.items
    → (servers : List Served) → Plays lines.Send play servers end servers written
sent_plays laws worlds reach play mid end prepared written t reports beside kept pushes servers p m =
    passed_line lines.Send Sent p (send_is p) (disk_bytes (memory_disk end.host.disk)) end servers written passes
    (ends_so worlds reach p Sent (Passed (disk_bytes (memory_disk end.host.disk))) play end servers m (record {
      world = world_sent w (arrivals script_start p.events) half end.host.agent.half mid.sent.items end.sent.items servers kept.report now reports.may step is kept.unanswered kept.sent_are;
      image = refl;
      stop = beside.stop ∙ t.taken;
      opening = beside.opening ∙ t.opening;
      local = beside.local ∙ t.local ∙ m.local ∙ ap (λ a. a.half.local) (sym t.agent) ∙ sym reports.goes.local;
      hosted = reports.goes.hosted;
      saves = let same : mid.host.agent.store.generation ≡ play.host.agent.store.generation = ap (λ a. a.store.generation) t.agent in omega (arith, reports.goes.saves, same);
      pushes = pushes ∙ t.pushes ∙ m.pushes;
      nobody = tt;
    }))
    (kept.written
    ∙ ap (λ (n : ℕ). sent_line n (entry_of half)) (sent_length mid.sent.items w.sent now.sent_are)
    ∙ ap (λ a. sent_line (length w.sent) (entry_of a)) now.agent_is
    ∙ ap (λ (b : Bool). cond b (sent_line (length w.sent) (entry_of w.agent)) Nothing) (sym may))
  where
    w : World
    w = world_of p

    half : AgentHalf
    half = mid.host.agent.half

    now : MirrorsWorld w (arrivals script_start p.events) mid.host.agent.half mid.sent.items servers
    now = mid_world w (arrivals script_start p.events) play mid servers t m.world

    may : may_report w.agent ≡ true
    may = ap may_report (sym now.agent_is) ∙ reports.may

    and_right : (x y : Bool) → (x && y) ≡ true → y ≡ true
    and_right true y e = e
    and_right false y e = absurd (cc e)

    room : fits half Report ≡ true
    room = and_right (has_number half) (fits half Report) (and_right (fits_message (message_of (entry_of half))) (has_number half && fits half Report) (and_right (not half.awaits) (fits_message (message_of (entry_of half)) && (has_number half && fits half Report)) reports.may))

    step : end.host.agent.half ≡ reported half
    step = reports.goes.half ∙ ap (λ (b : Bool). cond b (reported half) half) room

    is : IsSentAs kept.report (entry_of half)
    is = record {
      message = kept.message;
      uid = entry_uid half ∙ ap (λ a. a.half.saved.uid) t.agent ∙ m.hosted.seated.agent.uid;
      server = kept.server ∙ entry_server half;
      digit = kept.digit;
      reply = subst (λ (o : Option ServerToAgent). IfSome o IsReply) (sym kept.unanswered) tt;
    }

    passes : ends p Sent ≡ Passed (disk_bytes (memory_disk end.host.disk))
    passes = passes_by laws p Sent Reports end.host.agent.half (disk_bytes (memory_disk end.host.disk)) refl laws.reports
        (sym (λ i. outcome LAYOUT (stop_mode p.stop) (stage_is p play mid servers m t i) (sym (may_calls w.agent may) i))
        ∙ goes_done laws mid.host end.host (Report ∷ []) 1 reports.goes (stop_mode p.stop))

-- it may not report
pub unsent_plays : StopLaws → GoOn → ArriveOn → (play mid end : Play) → IsTaken play mid → may_report mid.host.agent.half ≡ false
    → end.host.agent ≡ mid.host.agent → disk_bytes (memory_disk end.host.disk) ≡ disk_bytes (memory_disk mid.host.disk) → IsHosted end.host → IsBeside mid end → end.sent.items ≡ mid.sent.items
    → end.pushes.items ≡ mid.pushes.items
    → (servers : List Served) → Plays lines.Send play servers end servers Nothing
unsent_plays laws worlds reach play mid end t may agent image hosted beside sent pushes servers p m =
    passed_line lines.Send Sent p (send_is p) p.image end servers Nothing passes
    (ends_so worlds reach p Sent (Passed p.image) play end servers m (record {
      world = subst (λ (rs : List SentReport). MirrorsWorld (after w Sent) (reached_after w (arrivals script_start p.events) Sent) end.host.agent.half rs servers) (sym sent)
          (world_unsent w (arrivals script_start p.events) mid.host.agent.half end.host.agent.half mid.sent.items servers now may (ap (λ a. a.half) agent));
      image = image ∙ ap (λ s. s.image) (stage_is p play mid servers m t);
      stop = beside.stop ∙ t.taken;
      opening = beside.opening ∙ t.opening;
      local = beside.local ∙ t.local ∙ m.local ∙ ap (λ a. a.half.local) (sym (agent ∙ t.agent));
      hosted = hosted;
      saves = let same : end.host.agent.store.generation ≡ play.host.agent.store.generation = ap (λ a. a.store.generation) (agent ∙ t.agent) in omega (arith, same);
      pushes = pushes ∙ t.pushes ∙ m.pushes;
      nobody = tt;
    }))
    (ap (λ (b : Bool). cond b (sent_line (length w.sent) (entry_of w.agent)) Nothing) (sym may_not))
  where
    w : World
    w = world_of p

    now : MirrorsWorld w (arrivals script_start p.events) mid.host.agent.half mid.sent.items servers
    now = mid_world w (arrivals script_start p.events) play mid servers t m.world

    may_not : may_report w.agent ≡ false
    may_not = ap may_report (sym now.agent_is) ∙ may

    passes : ends p Sent ≡ Passed p.image
    passes = passes_by laws p Sent Reports w.agent p.image refl laws.reports
        (ap (λ (cs : List Call). outcome LAYOUT (stop_mode p.stop) (stage_in p) cs) (no_calls w.agent may_not) ∙ none_done laws (stop_mode p.stop) (stage_in p))

-- ---- replies

-- whether a trial began or ended by an answer
pub moved : (a b : AgentHalf) → a.awaits ≡ true → (not b.awaits && (is_some a.trial || is_some b.trial)) ≡ moves_trial a b
moved a b awaits = sym (ap (λ t. t && (not b.awaits && (is_some a.trial || is_some b.trial))) awaits)

-- none did where nothing was answered
unmoved : (a : AgentHalf) → moves_trial a a ≡ false
unmoved a = by_awaits a.awaits
  where
    by_awaits : (t : Bool) → (t && (not t && (is_some a.trial || is_some a.trial))) ≡ false
    by_awaits true = refl
    by_awaits false = refl

-- the agent went on by the kept reply
pub heard_plays : StopLaws → GoOn → ArriveOn → (play mid end : Play) (reply : ServerToAgent) (written : Written) → IsTaken play mid
    → mid.host.agent.half.awaits ≡ true → kept_at mid.sent.items (length mid.sent.items - 1) ≡ Some reply
    → GoesOn mid.host end.host (calls_in mid.host.agent.half (Hears reply no_reactions)) 4 → IsBeside mid end → end.sent.items ≡ mid.sent.items
    → written ≡ heard_line mid.host.agent.half reply
    → end.pushes.items ≡ cond (not end.host.agent.half.awaits && (is_some mid.host.agent.half.trial || is_some end.host.agent.half.trial)) [] mid.pushes.items
    → (servers : List Served) → Plays lines.Reply play servers end servers written
heard_plays laws worlds reach play mid end reply written t awaits kept goes beside sent text pushes servers p m =
    passed_line lines.Reply (Answered no_reactions) p (reply_is p) (disk_bytes (memory_disk end.host.disk)) end servers written passes
    (ends_so worlds reach p (Answered no_reactions) (Passed (disk_bytes (memory_disk end.host.disk))) play end servers m (record {
      world = subst (λ (rs : List SentReport). MirrorsWorld (after w (Answered no_reactions)) (reached_after w history (Answered no_reactions)) end.host.agent.half rs servers) (sym sent) heard;
      image = refl;
      stop = beside.stop ∙ t.taken;
      opening = beside.opening ∙ t.opening;
      local = beside.local ∙ t.local ∙ m.local ∙ ap (λ a. a.half.local) (sym t.agent) ∙ sym goes.local;
      hosted = goes.hosted;
      saves = let same : mid.host.agent.store.generation ≡ play.host.agent.store.generation = ap (λ a. a.store.generation) t.agent in omega (arith, goes.saves, same);
      pushes = pushes ∙ (λ i. cond ((moved half end.host.agent.half awaits ∙ (λ j. moves_trial (now.agent_is j) (heard.agent_is j))) i) [] ((t.pushes ∙ m.pushes) i));
      nobody = tt;
    }))
    (text
    ∙ ap (λ (b : Bool). cond b (heard_line half reply) Nothing) (sym awaits)
    ∙ ap (λ a. answered_line a (Some reply)) now.agent_is
    ∙ ap (λ (o : Option ServerToAgent). answered_line w.agent o) (sym due))
  where
    w : World
    w = world_of p

    history : List ℕ → List ServerEvent
    history = arrivals script_start p.events

    half : AgentHalf
    half = mid.host.agent.half

    now : MirrorsWorld w history mid.host.agent.half mid.sent.items servers
    now = mid_world w history play mid servers t m.world

    due : reply_due w ≡ Some reply
    due = due_is_kept w history half mid.sent.items servers now ∙ kept

    step : end.host.agent.half ≡ agent_follows half (option_map (λ r. Hears r no_reactions) (kept_at mid.sent.items (length mid.sent.items - 1)))
    step = goes.half ∙ ap (λ (o : Option ServerToAgent). agent_follows half (option_map (λ r. Hears r no_reactions) o)) (sym kept)

    heard : MirrorsWorld (after w (Answered no_reactions)) (reached_after w history (Answered no_reactions)) end.host.agent.half mid.sent.items servers
    heard = world_heard w history half end.host.agent.half mid.sent.items servers now step

    passes : ends p (Answered no_reactions) ≡ Passed (disk_bytes (memory_disk end.host.disk))
    passes = passes_by laws p (Answered no_reactions) (Hears reply no_reactions) end.host.agent.half (disk_bytes (memory_disk end.host.disk))
        (ap (λ (o : Option ServerToAgent). option_map (λ r. Hears r no_reactions) o) due) (laws.hears reply)
        (sym (λ i. outcome LAYOUT (stop_mode p.stop) (stage_is p play mid servers m t i) (calls_in (now.agent_is i) (Hears reply no_reactions)))
        ∙ goes_done laws mid.host end.host (calls_in half (Hears reply no_reactions)) 4 goes (stop_mode p.stop))

-- none was kept, or none is awaited
idle_calls : (a : AgentHalf) (reply : ServerToAgent) → a.awaits ≡ false → calls_in a (Hears reply no_reactions) ≡ []
idle_calls a reply idle = ap (λ (b : Bool). cond b (reply_calls a reply no_reactions) []) idle

unheard : (a : AgentHalf) (o : Option ServerToAgent) → (o ≡ None) ⊎ (a.awaits ≡ false) → a ≡ agent_follows a (option_map (λ r. Hears r no_reactions) o)
unheard a None why = refl
unheard a (Some reply) (inl none) = absurd (none≢some (sym none))
unheard a (Some reply) (inr idle) = ap (λ (cs : List Call). calls_after a cs) (sym (idle_calls a reply idle))

pub nothing_heard : (a : AgentHalf) (o : Option ServerToAgent) → (o ≡ None) ⊎ (a.awaits ≡ false) → answered_line a o ≡ Nothing
nothing_heard a None why = refl
nothing_heard a (Some reply) (inl none) = absurd (none≢some (sym none))
nothing_heard a (Some reply) (inr idle) = ap (λ (b : Bool). cond b (heard_line a reply) Nothing) idle

passes_idle : StopLaws → (p : Progress) (o : Option ServerToAgent) → reply_due (world_of p) ≡ o → (o ≡ None) ⊎ ((world_of p).agent.awaits ≡ false) → ends p (Answered no_reactions) ≡ Passed p.image
passes_idle laws p None due why = ap (λ (o : Option ServerToAgent). ending_of p (option_map (λ r. Hears r no_reactions) o)) due
passes_idle laws p (Some reply) due (inl none) = absurd (none≢some (sym none))
passes_idle laws p (Some reply) due (inr idle) =
    passes_by laws p (Answered no_reactions) (Hears reply no_reactions) (world_of p).agent p.image (ap (λ (o : Option ServerToAgent). option_map (λ r. Hears r no_reactions) o) due) (laws.hears reply)
    (ap (λ (cs : List Call). outcome LAYOUT (stop_mode p.stop) (stage_in p) cs) (idle_calls (world_of p).agent reply idle) ∙ none_done laws (stop_mode p.stop) (stage_in p))

pub unheard_plays : StopLaws → GoOn → ArriveOn → (play mid : Play) → IsTaken play mid → IsHosted mid.host
    → (kept_at mid.sent.items (length mid.sent.items - 1) ≡ None) ⊎ (mid.host.agent.half.awaits ≡ false)
    → (servers : List Served) → Plays lines.Reply play servers mid servers Nothing
unheard_plays laws worlds reach play mid t hosted why servers p m =
    passed_line lines.Reply (Answered no_reactions) p (reply_is p) p.image mid servers Nothing
    (passes_idle laws p (kept_at mid.sent.items (length mid.sent.items - 1)) due (of_world why))
    (ends_so worlds reach p (Answered no_reactions) (Passed p.image) play mid servers m (record {
      world = heard;
      image = ap (λ s. s.image) (stage_is p play mid servers m t);
      stop = t.taken;
      opening = t.opening;
      local = t.local ∙ m.local ∙ ap (λ a. a.half.local) (sym t.agent);
      hosted = hosted;
      saves = let same : mid.host.agent.store.generation ≡ play.host.agent.store.generation = ap (λ a. a.store.generation) t.agent in omega (arith, same);
      pushes = t.pushes ∙ m.pushes ∙ ap (λ (b : Bool). cond b [] p.pushes) (sym (unmoved half) ∙ (λ i. moves_trial (now.agent_is i) (heard.agent_is i)));
      nobody = tt;
    }))
    (sym (nothing_heard half (kept_at mid.sent.items (length mid.sent.items - 1)) why)
    ∙ ap (λ (o : Option ServerToAgent). answered_line half o) (sym due)
    ∙ ap (λ a. answered_line a (reply_due w)) now.agent_is)
  where
    w : World
    w = world_of p

    history : List ℕ → List ServerEvent
    history = arrivals script_start p.events

    half : AgentHalf
    half = mid.host.agent.half

    now : MirrorsWorld w history mid.host.agent.half mid.sent.items servers
    now = mid_world w history play mid servers t m.world

    due : reply_due w ≡ kept_at mid.sent.items (length mid.sent.items - 1)
    due = due_is_kept w history half mid.sent.items servers now

    heard : MirrorsWorld (after w (Answered no_reactions)) (reached_after w history (Answered no_reactions)) half mid.sent.items servers
    heard = world_heard w history half half mid.sent.items servers now (unheard half (kept_at mid.sent.items (length mid.sent.items - 1)) why)

    of_world : (kept_at mid.sent.items (length mid.sent.items - 1) ≡ None) ⊎ (half.awaits ≡ false) → (kept_at mid.sent.items (length mid.sent.items - 1) ≡ None) ⊎ (w.agent.awaits ≡ false)
    of_world (inl none) = inl none
    of_world (inr idle) = inr (ap (λ a. a.awaits) (sym now.agent_is) ∙ idle)

-- ---- stops

-- what the play is once a device call was stopped and the agent started again
pub record IsRecovered (mid halt end : Play) (calls : List Call) (mode : Mode) (written : Written) : Type 0 where
  pub stops : StopsIn mid.host halt.host calls 4
  pub half : end.host.agent.half ≡ stops.stopped.half mode
  pub hosted : IsHosted end.host
  pub image : disk_bytes (memory_disk end.host.disk) ≡ left_on halt.host.disk mode
  pub saves : end.host.agent.store.generation ≤ mid.host.agent.store.generation + 4
  pub beside : IsBeside mid end
  pub sent : end.sent.items ≡ mid.sent.items
  pub pushes : end.pushes.items ≡ []
  pub written_is : written ≡ crash_line end.host.agent.half

-- a device call of what the agent saw was stopped
pub stopped_plays : StopLaws → GoOn → ArriveOn → (line : Line) (e : Event) → IsDeviceLine line e → NamesNobody e → (play mid halt end : Play) (calls : List Call) (mode : Mode) (written : Written)
    → IsTaken play mid → mode ≡ stop_mode play.stop → IsRecovered mid halt end calls mode written
    → (servers : List Served)
    → ((p : Progress) → Mirrors p play servers → (seen : AgentEvent) × ((seen_of (world_of p) e ≡ Some seen) × (Comes seen × (calls ≡ calls_in mid.host.agent.half seen))))
    → Plays line play servers end servers written
stopped_plays laws worlds reach line e is nobody play mid halt end calls mode written t mode_is r servers sees p m =
    stopped_line line e p (is p) saves (left_on halt.host.disk mode) end servers written
    (ap (λ (o : Option AgentEvent). ending_of p o) seen_is ∙ tells.1.0)
    (ends_so worlds reach p e (Stopped saves (left_on halt.host.disk mode)) play end servers m (record {
      world = subst (λ (rs : List SentReport). MirrorsWorld (after w (Crashed e saves)) (reached_after w history (Crashed e saves)) end.host.agent.half rs servers) (sym r.sent)
          (world_crashed w history mid.host.agent.half end.host.agent.half e seen saves mid.sent.items servers now seen_is (tells.1.1 ∙ sym r.half));
      image = r.image;
      stop = r.beside.stop ∙ t.taken;
      opening = r.beside.opening ∙ t.opening;
      local = r.beside.local ∙ t.local ∙ m.local ∙ ap (λ a. a.half.local) (sym t.agent) ∙ sym (ap (λ a. a.local) (r.half ∙ (r.stops.stopped.starts mode).start));
      hosted = r.hosted;
      saves = let same : mid.host.agent.store.generation ≡ play.host.agent.store.generation = ap (λ a. a.store.generation) t.agent in omega (arith, r.saves, same);
      pushes = r.pushes;
      nobody = nobody;
    }))
    (r.written_is ∙ ap crash_line (r.half ∙ sym tells.1.1 ∙ sym (ap (λ (o : Option AgentEvent). agent_after w.agent (crash_of w.agent o saves)) seen_is)))
  where
    w : World
    w = world_of p

    history : List ℕ → List ServerEvent
    history = arrivals script_start p.events

    now : MirrorsWorld w history mid.host.agent.half mid.sent.items servers
    now = mid_world w history play mid servers t m.world

    seen : AgentEvent
    seen = (sees p m).0

    seen_is : seen_of w e ≡ Some seen
    seen_is = (sees p m).1.0

    comes_to : outcome LAYOUT mode (stage_in p) (calls_in w.agent seen) ≡ Crash (r.stops.stopped.half mode) (left_on halt.host.disk mode)
    comes_to =
        sym (λ i. outcome LAYOUT mode (stage_is p play mid servers m t i) (calls_in (now.agent_is i) seen))
        ∙ ap (λ (cs : List Call). outcome LAYOUT mode (stage_at mid.host) cs) (sym (sees p m).1.1.1)
        ∙ laws.crashed mode (stage_at mid.host) calls halt.host.disk r.stops.stopped

    mode_of_p : mode ≡ stop_mode p.stop
    mode_of_p = mode_is ∙ ap stop_mode m.stop

    tells : (n : ℕ) × ((event_ends LAYOUT (stop_mode p.stop) (stop_call p.stop) p.image w.agent seen ≡ Stopped n (left_on halt.host.disk mode)) × (agent_after w.agent (Crashes seen n) ≡ r.stops.stopped.half mode))
    tells =
        laws.tells_crashed w.agent (r.stops.stopped.half mode) seen _ (left_on halt.host.disk mode)
        (ap (λ (x : Mode). event_by w.agent seen (event_ends LAYOUT x (stop_call p.stop) p.image w.agent seen)) (sym mode_of_p)
        ∙ (sees p m).1.1.0 mode (stage_in p) ∙ comes_to)

    saves : ℕ
    saves = tells.0

-- in a report
pub stopped_send : StopLaws → GoOn → ArriveOn → (play mid halt end : Play) (mode : Mode) (written : Written)
    → IsTaken play mid → mode ≡ stop_mode play.stop → may_report mid.host.agent.half ≡ true → IsRecovered mid halt end (Report ∷ []) mode written
    → (servers : List Served) → Plays lines.Send play servers end servers written
stopped_send laws worlds reach play mid halt end mode written t mode_is may r servers =
    stopped_plays laws worlds reach lines.Send Sent send_is tt play mid halt end (Report ∷ []) mode written t mode_is r servers
    (λ p m. (Reports, (refl, (laws.reports, sym (may_calls mid.host.agent.half may)))))

-- in what a reply brings
pub stopped_reply : StopLaws → GoOn → ArriveOn → (play mid halt end : Play) (reply : ServerToAgent) (mode : Mode) (written : Written)
    → IsTaken play mid → mode ≡ stop_mode play.stop → kept_at mid.sent.items (length mid.sent.items - 1) ≡ Some reply
    → IsRecovered mid halt end (calls_in mid.host.agent.half (Hears reply no_reactions)) mode written
    → (servers : List Served) → Plays lines.Reply play servers end servers written
stopped_reply laws worlds reach play mid halt end reply mode written t mode_is kept r servers =
    stopped_plays laws worlds reach lines.Reply (Answered no_reactions) reply_is tt play mid halt end (calls_in mid.host.agent.half (Hears reply no_reactions)) mode written t mode_is r servers
    (λ p m. (Hears reply no_reactions, (due_seen p m, (laws.hears reply, refl))))
  where
    due_seen : (p : Progress) → Mirrors p play servers → seen_of (world_of p) (Answered no_reactions) ≡ Some (Hears reply no_reactions)
    due_seen p m =
        ap (λ (o : Option ServerToAgent). option_map (λ r. Hears r no_reactions) o)
        (due_is_kept (world_of p) (arrivals script_start p.events) mid.host.agent.half mid.sent.items servers (mid_world (world_of p) (arrivals script_start p.events) play mid servers t m.world) ∙ kept)

-- ---- starts

-- an agent sees its start as it was started
abbrev start_in : AgentHalf → AgentEvent
start_in a = Restarts a.local a.asks_uid

-- what a start comes to
abbrev pub StartComes : Type 0
StartComes = (mode : Mode) (stage : Stage)
    → event_by stage.half (start_in stage.half) (event_ends LAYOUT mode stage.left stage.image stage.half (start_in stage.half))
    ≡ cond (stops_in stage.left load_plan) (Crash (restarted stage.half) stage.image) (Done (restarted stage.half) stage.image)

-- the agent started again
pub record IsRestarted (play end : Play) : Type 0 where
  pub half : end.host.agent.half ≡ restarted play.host.agent.half
  pub image : disk_bytes (memory_disk end.host.disk) ≡ disk_bytes (memory_disk play.host.disk)
  pub hosted : IsHosted end.host
  pub saves : end.host.agent.store.generation ≤ play.host.agent.store.generation
  pub stop : end.stop ≡ None
  pub opening : end.opening ≡ play.opening
  pub local : end.local ≡ play.local
  pub sent : end.sent.items ≡ play.sent.items
  pub pushes : end.pushes.items ≡ []

restart_ends : (p : Progress) (ending : Ending) (play end : Play) (servers : List Served) → Mirrors p play servers → IsRestarted play end → image_in ending ≡ p.image
    → MirrorsWorld (after (world_of p) (ended (restart_of (world_of p).agent) ending)) (reached_after (world_of p) (arrivals script_start p.events) (ended (restart_of (world_of p).agent) ending)) end.host.agent.half play.sent.items servers
    → IsEnd p (restart_of (world_of p).agent) ending play end servers
restart_ends p ending play end servers m r same now = record {
  world = subst (λ (rs : List SentReport). MirrorsWorld (after (world_of p) (ended (restart_of (world_of p).agent) ending)) (reached_after (world_of p) (arrivals script_start p.events) (ended (restart_of (world_of p).agent) ending)) end.host.agent.half rs servers) (sym r.sent) now;
  image = r.image ∙ m.image ∙ sym same;
  stop = r.stop;
  opening = r.opening;
  local = r.local ∙ m.local ∙ ap (λ a. a.local) (sym r.half);
  hosted = r.hosted;
  saves = omega (arith, r.saves);
  pushes = r.pushes ∙ sym (none_wait ending);
  nobody = tt;
}
  where
    none_wait : (ending : Ending) → pushes_after (world_of p) (ended (restart_of (world_of p).agent) ending) p.pushes ≡ []
    none_wait (Passed image) = refl
    none_wait (Stopped saves image) = refl

-- and its start wasn't stopped
pub restarted_plays : StopLaws → StartComes → GoOn → ArriveOn → (play end : Play) (written : Written) → IsRestarted play end
    → stops_in (stop_call play.stop) load_plan ≡ false → written ≡ start_line end.host.agent.half
    → (servers : List Served) → Plays lines.Restart play servers end servers written
restarted_plays laws comes worlds reach play end written r passes text servers p m =
    passed_line lines.Restart (restart_of (world_of p).agent) p (restart_is p) p.image end servers written
    (laws.tells_done (world_of p).agent (restarted (world_of p).agent) (start_in (world_of p).agent) _ p.image (comes (stop_mode p.stop) (stage_in p) ∙ ap (λ (b : Bool). cond b (Crash (restarted (world_of p).agent) p.image) (Done (restarted (world_of p).agent) p.image)) beyond)).0
    (ends_so worlds reach p (restart_of (world_of p).agent) (Passed p.image) play end servers m (restart_ends p (Passed p.image) play end servers m r refl
    (world_restarted (world_of p) (arrivals script_start p.events) play.host.agent.half end.host.agent.half play.sent.items servers m.world r.half)))
    (text ∙ ap start_line (r.half ∙ ap restarted m.world.agent_is))
  where
    beyond : stops_in (stop_call p.stop) load_plan ≡ false
    beyond = ap (λ s. stops_in (stop_call s) load_plan) (sym m.stop) ∙ passes

-- its first start was
pub stopped_start : StopLaws → StartComes → GoOn → ArriveOn → (play end : Play) (written : Written) → IsRestarted play end
    → stops_in (stop_call play.stop) load_plan ≡ true → written ≡ crash_line end.host.agent.half
    → (servers : List Served) → Plays lines.Restart play servers end servers written
stopped_start laws comes worlds reach play end written r stops text servers p m =
    stopped_line lines.Restart (restart_of (world_of p).agent) p (restart_is p) tells.0 p.image end servers written tells.1.0
    (ends_so worlds reach p (restart_of (world_of p).agent) (Stopped tells.0 p.image) play end servers m (restart_ends p (Stopped tells.0 p.image) play end servers m r refl
    (world_crashed (world_of p) (arrivals script_start p.events) play.host.agent.half end.host.agent.half (restart_of (world_of p).agent) (start_in (world_of p).agent) tells.0 play.sent.items servers m.world refl (tells.1.1 ∙ ap restarted (sym m.world.agent_is) ∙ sym r.half))))
    (text ∙ ap crash_line (r.half ∙ ap restarted m.world.agent_is ∙ sym tells.1.1))
  where
    within : stops_in (stop_call p.stop) load_plan ≡ true
    within = ap (λ s. stops_in (stop_call s) load_plan) (sym m.stop) ∙ stops

    tells : (n : ℕ) × ((event_ends LAYOUT (stop_mode p.stop) (stop_call p.stop) p.image (world_of p).agent (start_in (world_of p).agent) ≡ Stopped n p.image) × (agent_after (world_of p).agent (Crashes (start_in (world_of p).agent) n) ≡ restarted (world_of p).agent))
    tells = laws.tells_crashed (world_of p).agent (restarted (world_of p).agent) (start_in (world_of p).agent) _ p.image
        (comes (stop_mode p.stop) (stage_in p) ∙ ap (λ (b : Bool). cond b (Crash (restarted (world_of p).agent) p.image) (Done (restarted (world_of p).agent) p.image)) within)

-- either way
pub start_plays : StopLaws → StartComes → GoOn → ArriveOn → (play end : Play) (stopped : Bool) (written : Written) → IsRestarted play end
    → stopped ≡ stops_in (stop_call play.stop) load_plan → written ≡ cond stopped (crash_line end.host.agent.half) (start_line end.host.agent.half)
    → (servers : List Served) → Plays lines.Restart play servers end servers written
start_plays laws comes worlds reach play end true written r is text = stopped_start laws comes worlds reach play end written r (sym is) text
start_plays laws comes worlds reach play end false written r is text = restarted_plays laws comes worlds reach play end written r (sym is) text
