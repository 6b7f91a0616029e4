-- A reply that reaches the agent on its host.
use Rattle.std.proofs.Common.{◌≡◌, ◌∙◌, ◌⊎◌, inl, inr, ℕ, ◌+◌, ◌^◌, ◌<◌, ◌≤◌, List, [], ◌∷◌, ◌++◌, Bool, true, false, ◌&&◌, cond, Option, Some, None, Ok, ap, sym, subst, refl, arith}
use Rattle.std.specs.Prelude.{IfSome, is_some, unwrap_or}
use Rattle.std.specs.Option.{option_map}
use Rattle.edge_devices.specs.declared.memory_disk.MemDisk.{MemDisk}
use Rattle.agent_store.specs.declared.slots.Layout.{Layout}
use Rattle.message_values.specs.declared.reply.ServerToAgent.{ServerToAgent}
use Rattle.message_values.specs.declared.state.Settings.{Settings}
use Rattle.agent_rules.specs.declared.rules.parts.AgentFail.TheVariants.{TooLarge}
use Rattle.agent_rules.specs.declared.rules.parts.Next.{Next}
use Rattle.agent_rules.specs.Half.{AgentHalf, target}
use Rattle.agent_rules.specs.Keeping.{Call, TakeReply, CommitTry, AbandonTry, BeginTry, fits}
use Rattle.agent_rules.specs.Calls.{call_after, calls_after, told, trial_left}
use Rattle.agent_rules.specs.Offers.{next_of, trial_calls, without_trial}
use Rattle.agent_rules.specs.Events.{Hears, agent_after, calls_in, following, reply_calls}
use Rattle.agent_state.specs.View.{AgentView}
use Rattle.agent_stopped.specs.declared.opening.Opening.{Opening}
use Rattle.agent_stopped.specs.Plays.{IsPlayed, KeepsNothing}
use Rattle.agent_stopped.specs.Stages.{Leads, stage_of}
use Rattle.agent_stopped.specs.Starts.{IsAtRest}
use Rattle.agent_state.specs.Refusals.{ReplyRefusal}
use Rattle.world_model.specs.World.{no_reactions}
use Rattle.world_lab.specs.declared.plays.Host.{Host}
use Rattle.world_lab.specs.declared.written.Attempt.{Attempt}
use Rattle.world_lab.specs.declared.written.TrialEnd.{TrialEnd}
use Rattle.world_lab.specs.declared.written.TrialEnd.TheVariants.{Kept, Abandoned}
use Rattle.world_lab.specs.declared.written.Written.TheVariants.{Nothing, Heard}
use Rattle.world_lab.specs.Transcripts.{attempt, heard_line, is_applied, trial_end}
use Rattle.world_lab.specs.Hearing.{all_fit, config_calls, trying_calls}
use Rattle.world_lab.specs.declared.plays.TheConstants.{LAYOUT}
use Rattle.world_lab.specs.Hosts.{GoesOn, HasFiles, IsHosted, IsReply, IsServer, StaysSo, StopsIn, lab_opening, stage_at}
use Rattle.world_lab.proofs.ScriptAgents.{agent_told, agent_left_trial, agent_begun}
use Rattle.world_lab.proofs.Calls.{told_config, told_local, told_idle, none_ends, some_ends, ended_trial, ended_idle, config_trial, config_idle}
use Rattle.world_lab.proofs.Hosts.{fit_of, with_agent, goes_and_stays, goes_beside, goes_both, goes_by, goes_from, goes_no_further, goes_nowhere, goes_played, more_saves, no_room, room_is, stops_after, stops_before, stops_by}
use Rattle.world_lab.proofs.Stages.{stopped_room}
use Rattle.world_lab.proofs.Hearing.{asks_no_packages, asks_proved, asks_server, following_is, trial_fits}

-- ---- it is taken

pub is_taken : (host : Host) (agent : AgentView) (disk : MemDisk) (reply : ServerToAgent) (next : Next) → IsHosted host → IsReply reply
    → fits host.agent.half (TakeReply reply) ≡ true → agent.half ≡ told reply host.agent.half → IsPlayed host.agent agent host.disk disk (TakeReply reply) (Ok next)
    → GoesOn host (with_agent host agent disk) (TakeReply reply ∷ []) 1
is_taken host agent disk reply next h r room step p =
    goes_played host agent disk (TakeReply reply) next h.seated (subst (HasFiles host) (sym (told_config host.agent.half reply)) h.files) (agent_told host.agent.half reply h.seated.agent r) room step
    (told_local host.agent.half reply) p

pub not_taken : (host : Host) (reply : ServerToAgent) → IsHosted host → ReplyRefusal host.agent reply TooLarge → fits host.agent.half (TakeReply reply) ≡ false
not_taken host reply h refusal = no_room host.agent (TakeReply reply) (room_is host h.seated) refusal.1

-- ---- a trial ends

pub no_trial : (host : Host) → IsHosted host → is_some host.agent.half.trial ≡ false → GoesOn host host (trial_calls host.agent.half) 1
no_trial host h none = goes_by host host [] (trial_calls host.agent.half) 1 (sym (none_ends host.agent.half none)) (goes_nowhere host 1 h)

pub no_end : (a : AgentHalf) → is_some a.trial ≡ false → None ≡ trial_end a
no_end a none = of_trial a.trial none
  where
    of_trial : (t : Option Settings) → is_some t ≡ false → None ≡ option_map (λ tried. cond (a.proved && fits a CommitTry) (Kept tried.endpoint) (Abandoned tried.endpoint)) t
    of_trial None none = refl
    of_trial (Some s) none = absurd (cc none)

both_true : (x y : Bool) → x ≡ true → y ≡ true → (x && y) ≡ true
both_true true y e f = f
both_true false y e f = absurd (cc e)

not_both : (x y : Bool) → (x ≡ false) ⊎ (y ≡ false) → (x && y) ≡ false
not_both true y (inl e) = absurd (cc e)
not_both true y (inr f) = f
not_both false y why = refl

wins : (a : AgentHalf) → is_some a.trial ≡ true → a.proved ≡ true → fits a CommitTry ≡ true → CommitTry ∷ [] ≡ trial_calls a
wins a some proved room = sym (some_ends a some ∙ ap (λ (b : Bool). cond b (CommitTry ∷ []) (AbandonTry ∷ [])) (both_true a.proved (fits a CommitTry) proved room))

loses : (a : AgentHalf) → is_some a.trial ≡ true → (a.proved ≡ false) ⊎ (fits a CommitTry ≡ false) → AbandonTry ∷ [] ≡ trial_calls a
loses a some why = sym (some_ends a some ∙ ap (λ (b : Bool). cond b (CommitTry ∷ []) (AbandonTry ∷ [])) (not_both a.proved (fits a CommitTry) why))

-- the settings under trial were kept
pub trial_won : (old new : Host) → GoesOn old new (CommitTry ∷ []) 1 → is_some old.agent.half.trial ≡ true → old.agent.half.proved ≡ true → fits old.agent.half CommitTry ≡ true
    → GoesOn old new (trial_calls old.agent.half) 1
trial_won old new goes some proved room = goes_by old new (CommitTry ∷ []) (trial_calls old.agent.half) 1 (wins old.agent.half some proved room) goes

pub won_end : (a : AgentHalf) (endpoint : List ℕ) → is_some a.trial ≡ true → a.proved ≡ true → fits a CommitTry ≡ true → endpoint ≡ (target a).endpoint → Some (Kept endpoint) ≡ trial_end a
won_end a endpoint some proved room is = of_trial a.trial some is
  where
    of_trial : (t : Option Settings) → is_some t ≡ true → endpoint ≡ (unwrap_or t a.saved.settings).endpoint
        → Some (Kept endpoint) ≡ option_map (λ tried. cond (a.proved && fits a CommitTry) (Kept tried.endpoint) (Abandoned tried.endpoint)) t
    of_trial None some is = absurd (cc some)
    of_trial (Some tried) some is =
        ap (λ (e : List ℕ). Some (Kept e)) is
        ∙ ap (λ (b : Bool). Some (cond b (Kept tried.endpoint) (Abandoned tried.endpoint))) (sym (both_true a.proved (fits a CommitTry) proved room))

-- a device call was stopped while they were kept
pub trial_stops : (old new : Host) → StopsIn old new (CommitTry ∷ []) 1 → is_some old.agent.half.trial ≡ true → old.agent.half.proved ≡ true → StopsIn old new (trial_calls old.agent.half) 1
trial_stops old new stops some proved =
    stops_by old new (CommitTry ∷ []) (trial_calls old.agent.half) 1
    (wins old.agent.half some proved (stopped_room lab_opening (stage_at old) CommitTry new.disk stops.stopped)) stops

-- a call that keeps nothing leads on, and leaves the agent at rest
abbrev pub Beside : Type 0
Beside = (layout : Layout) (disk : MemDisk) (before after : AgentView) (call : Call) → KeepsNothing call → after.half ≡ call_after before.half call
    → Leads layout (stage_of before disk) (call ∷ []) (stage_of after disk)

abbrev pub RestsBeside : Type 0
RestsBeside = (opening : Opening) (disk : MemDisk) (before after : AgentView) (call : Call) → KeepsNothing call → after.half ≡ call_after before.half call → after.store ≡ before.store
    → IsAtRest opening before disk → IsAtRest opening after disk

-- they were abandoned
pub trial_lost : Beside → RestsBeside → (host : Host) (agent : AgentView) → IsHosted host → is_some host.agent.half.trial ≡ true → (host.agent.half.proved ≡ false) ⊎ (fits host.agent.half CommitTry ≡ false)
    → agent.half ≡ trial_left host.agent.half → agent.store ≡ host.agent.store
    → GoesOn host (with_agent host agent host.disk) (trial_calls host.agent.half) 0
trial_lost leads rests host agent h some why step store =
    goes_by host (with_agent host agent host.disk) (AbandonTry ∷ []) (trial_calls host.agent.half) 0 (loses host.agent.half some why)
    (goes_beside host agent AbandonTry 0 h (agent_left_trial host.agent.half h.seated.agent) refl step store refl refl
    (leads LAYOUT host.disk host.agent agent AbandonTry tt step) (rests lab_opening host.disk host.agent agent AbandonTry tt step store h.seated.rest))

-- they were abandoned once they weren't kept for want of room
pub lost_after : (old mid new : Host) → StaysSo old mid → GoesOn mid new (trial_calls mid.agent.half) 0 → GoesOn old new (trial_calls old.agent.half) 1
lost_after old mid new stays second =
    more_saves old new (trial_calls old.agent.half) 0 1 (omega arith)
    (goes_from old mid new (trial_calls old.agent.half) 0 stays.agent stays.stage
    (goes_by mid new (trial_calls mid.agent.half) (trial_calls old.agent.half) 0 (ap (λ a. trial_calls a.half) stays.agent) second))

pub lost_end : (a : AgentHalf) (endpoint : List ℕ) → is_some a.trial ≡ true → (a.proved ≡ false) ⊎ (fits a CommitTry ≡ false) → endpoint ≡ (target a).endpoint
    → Some (Abandoned endpoint) ≡ trial_end a
lost_end a endpoint some why is = of_trial a.trial some is
  where
    of_trial : (t : Option Settings) → is_some t ≡ true → endpoint ≡ (unwrap_or t a.saved.settings).endpoint
        → Some (Abandoned endpoint) ≡ option_map (λ tried. cond (a.proved && fits a CommitTry) (Kept tried.endpoint) (Abandoned tried.endpoint)) t
    of_trial None some is = absurd (cc some)
    of_trial (Some tried) some is =
        ap (λ (e : List ℕ). Some (Abandoned e)) is
        ∙ ap (λ (b : Bool). Some (cond b (Kept tried.endpoint) (Abandoned tried.endpoint))) (sym (not_both a.proved (fits a CommitTry) why))

-- ---- settings are tried

pub is_begun : Beside → RestsBeside → (host : Host) (agent : AgentView) (next : Settings) → IsHosted host → IsServer next.endpoint → agent.half ≡ call_after host.agent.half (BeginTry next)
    → agent.store ≡ host.agent.store → GoesOn host (with_agent host agent host.disk) (trying_calls (Some next)) 0
is_begun leads rests host agent next h server step store =
    goes_beside host agent (BeginTry next) 0 h (agent_begun host.agent.half next h.seated.agent server) refl step store refl refl
    (leads LAYOUT host.disk host.agent agent (BeginTry next) tt step) (rests lab_opening host.disk host.agent agent (BeginTry next) tt step store h.seated.rest)

-- ---- all of it

-- the parts that the host went through
pub record HeardBy (a b c d e : Host) (reply : ServerToAgent) (next : Next) (connection : Option Settings) : Type 0 where
  pub taken : GoesOn a b (TakeReply reply ∷ []) 1
  pub ended : GoesOn b c (trial_calls b.agent.half) 1
  pub configured : GoesOn c d (config_calls c.agent.half next.config) 1
  pub begun : GoesOn d e (trying_calls connection) 0
  pub next_is : next ≡ next_of reply a.agent.half
  pub room : fits a.agent.half (TakeReply reply) ≡ true
  pub reply_is : IsReply reply
  pub connection_is : connection ≡ cond (all_fit c.agent.half (config_calls c.agent.half next.config)) next.connection None

pub told_is : (a b : Host) (reply : ServerToAgent) → GoesOn a b (TakeReply reply ∷ []) 1 → fits a.agent.half (TakeReply reply) ≡ true → b.agent.half ≡ told reply a.agent.half
told_is a b reply goes room = goes.half ∙ ap (λ (t : Bool). cond t (told reply a.agent.half) a.agent.half) room

-- the calls of a reply, part by part
pub calls_are : (a b c : AgentHalf) (reply : ServerToAgent) (next : Next) → IsReply reply → next ≡ next_of reply a → b ≡ told reply a → c ≡ without_trial b → a.awaits ≡ true
    → (TakeReply reply ∷ []) ++ (trial_calls b ++ (config_calls c next.config ++ trying_calls next.connection)) ≡ calls_in a (Hears reply no_reactions)
calls_are a b c reply next r next_is told_so ended awaits =
    let first : List Call → List Call = λ calls. TakeReply reply ∷ calls in
    let none : next.packages ≡ None = ap (λ n. n.packages) next_is ∙ asks_no_packages a reply r.packages in
    ap (λ (calls : List Call). first (trial_calls b ++ calls)) (sym (following_is c next none))
    ∙ ap (λ x. first (trial_calls b ++ following x next no_reactions)) ended
    ∙ ap (λ x. first (trial_calls x ++ following (without_trial x) next no_reactions)) told_so
    ∙ ap (λ n. first (trial_calls (told reply a) ++ following (without_trial (told reply a)) n no_reactions)) next_is
    ∙ ap (λ (t : Bool). cond t (reply_calls a reply no_reactions) []) (sym awaits)

take_fits : (a : AgentHalf) (reply : ServerToAgent) → fits a (TakeReply reply) ≡ true → all_fit a (TakeReply reply ∷ []) ≡ true
take_fits a reply room = fit_of a (TakeReply reply) true room

-- what is offered beside the configuration is seen to where that was kept
pub offers_heard : (c d e : Host) (next : Next) (connection : Option Settings) → GoesOn c d (config_calls c.agent.half next.config) 1 → GoesOn d e (trying_calls connection) 0
    → connection ≡ cond (all_fit c.agent.half (config_calls c.agent.half next.config)) next.connection None
    → GoesOn c e (config_calls c.agent.half next.config ++ trying_calls next.connection) 1
offers_heard c d e next connection configured begun is = by_room (all_fit c.agent.half (config_calls c.agent.half next.config)) refl
  where
    began : (b : Bool) → all_fit c.agent.half (config_calls c.agent.half next.config) ≡ b → GoesOn d e (trying_calls (cond b next.connection None)) 0
    began b room = subst (λ (o : Option Settings). GoesOn d e (trying_calls o) 0) (is ∙ ap (λ (x : Bool). cond x next.connection None) room) begun

    by_room : (b : Bool) → all_fit c.agent.half (config_calls c.agent.half next.config) ≡ b → GoesOn c e (config_calls c.agent.half next.config ++ trying_calls next.connection) 1
    by_room true room = goes_both c d e (config_calls c.agent.half next.config) (trying_calls next.connection) 1 0 room configured (began true room)
    by_room false room =
        goes_no_further c e (config_calls c.agent.half next.config) (trying_calls next.connection) 1 room
        (goes_and_stays c d e (config_calls c.agent.half next.config) 1 0 configured (began false room))

pub all_heard : (a b c d e : Host) (reply : ServerToAgent) (next : Next) (connection : Option Settings) → HeardBy a b c d e reply next connection → a.agent.half.awaits ≡ true
    → GoesOn a e (calls_in a.agent.half (Hears reply no_reactions)) 4
all_heard a b c d e reply next connection h awaits =
    let rest = config_calls c.agent.half next.config ++ trying_calls next.connection in
    let parts = calls_are a.agent.half b.agent.half c.agent.half reply next h.reply_is h.next_is (told_is a b reply h.taken h.room) h.ended.half awaits in
    more_saves a e (calls_in a.agent.half (Hears reply no_reactions)) 3 4 (omega arith)
    (goes_by a e _ (calls_in a.agent.half (Hears reply no_reactions)) 3 parts
    (goes_both a b e (TakeReply reply ∷ []) (trial_calls b.agent.half ++ rest) 1 2 (take_fits a.agent.half reply h.room) h.taken
    (goes_both b c e (trial_calls b.agent.half) rest 1 1 (trial_fits b.agent.half) h.ended (offers_heard c d e next connection h.configured h.begun h.connection_is))))

-- none was taken
pub none_heard : (a b : Host) (reply : ServerToAgent) → GoesOn a b (TakeReply reply ∷ []) 1 → fits a.agent.half (TakeReply reply) ≡ false → a.agent.half.awaits ≡ true
    → GoesOn a b (calls_in a.agent.half (Hears reply no_reactions)) 4
none_heard a b reply goes room awaits =
    let rest = trial_calls (told reply a.agent.half) ++ following (without_trial (told reply a.agent.half)) (next_of reply a.agent.half) no_reactions in
    more_saves a b (calls_in a.agent.half (Hears reply no_reactions)) 1 4 (omega arith)
    (goes_by a b ((TakeReply reply ∷ []) ++ rest) (calls_in a.agent.half (Hears reply no_reactions)) 1
    (ap (λ (t : Bool). cond t (reply_calls a.agent.half reply no_reactions) []) (sym awaits))
    (goes_no_further a b (TakeReply reply ∷ []) rest 1 (fit_of a.agent.half (TakeReply reply) false room) goes))

-- ---- a stop

-- while it was taken
pub take_stops : (a b : Host) (reply : ServerToAgent) → StopsIn a b (TakeReply reply ∷ []) 1 → a.agent.half.awaits ≡ true → StopsIn a b (calls_in a.agent.half (Hears reply no_reactions)) 4
take_stops a b reply stops awaits =
    let rest = trial_calls (told reply a.agent.half) ++ following (without_trial (told reply a.agent.half)) (next_of reply a.agent.half) no_reactions in
    stops_by a b ((TakeReply reply ∷ []) ++ rest) (calls_in a.agent.half (Hears reply no_reactions)) 4
    (ap (λ (t : Bool). cond t (reply_calls a.agent.half reply no_reactions) []) (sym awaits))
    (stops_before a b (TakeReply reply ∷ []) rest 1 4 (omega arith) stops)

-- while a trial ended
pub end_stops : (a b c : Host) (reply : ServerToAgent) (next : Next) → GoesOn a b (TakeReply reply ∷ []) 1 → fits a.agent.half (TakeReply reply) ≡ true → IsReply reply
    → next ≡ next_of reply a.agent.half → a.agent.half.awaits ≡ true → StopsIn b c (trial_calls b.agent.half) 1 → StopsIn a c (calls_in a.agent.half (Hears reply no_reactions)) 4
end_stops a b c reply next taken room r next_is awaits stops =
    let ended = without_trial b.agent.half in
    let rest = config_calls ended next.config ++ trying_calls next.connection in
    stops_by a c _ (calls_in a.agent.half (Hears reply no_reactions)) 4
    (calls_are a.agent.half b.agent.half ended reply next r next_is (told_is a b reply taken room) refl awaits)
    (stops_after a b c (TakeReply reply ∷ []) (trial_calls b.agent.half ++ rest) 1 3 (take_fits a.agent.half reply room) taken
    (stops_before b c (trial_calls b.agent.half) rest 1 3 (omega arith) stops))

-- while a configuration was seen to
pub config_stops : (a b c d : Host) (reply : ServerToAgent) (next : Next) → GoesOn a b (TakeReply reply ∷ []) 1 → fits a.agent.half (TakeReply reply) ≡ true → IsReply reply
    → next ≡ next_of reply a.agent.half → a.agent.half.awaits ≡ true → GoesOn b c (trial_calls b.agent.half) 1 → StopsIn c d (config_calls c.agent.half next.config) 1
    → StopsIn a d (calls_in a.agent.half (Hears reply no_reactions)) 4
config_stops a b c d reply next taken room r next_is awaits ended stops =
    let rest = config_calls c.agent.half next.config ++ trying_calls next.connection in
    stops_by a d _ (calls_in a.agent.half (Hears reply no_reactions)) 4
    (calls_are a.agent.half b.agent.half c.agent.half reply next r next_is (told_is a b reply taken room) ended.half awaits)
    (stops_after a b d (TakeReply reply ∷ []) (trial_calls b.agent.half ++ rest) 1 3 (take_fits a.agent.half reply room) taken
    (stops_after b c d (trial_calls b.agent.half) rest 1 2 (trial_fits b.agent.half) ended
    (stops_before c d (config_calls c.agent.half next.config) (trying_calls next.connection) 1 2 (omega arith) stops)))

-- before settings are tried no trial goes on, and no answer is awaited
pub begins_settled : (a b c d e : Host) (reply : ServerToAgent) (next : Next) → GoesOn a b (TakeReply reply ∷ []) 1 → fits a.agent.half (TakeReply reply) ≡ true
    → GoesOn b c (trial_calls b.agent.half) 1 → GoesOn c d (config_calls c.agent.half next.config) 1 → d.agent.half.trial ≡ None
begins_settled a b c d e reply next taken room ended configured =
    ap (λ x. x.trial) configured.half ∙ config_trial c.agent.half next.config ∙ ap (λ x. x.trial) ended.half ∙ ended_trial b.agent.half

pub begins_idle : (a b c d : Host) (reply : ServerToAgent) (next : Next) → GoesOn a b (TakeReply reply ∷ []) 1 → fits a.agent.half (TakeReply reply) ≡ true
    → GoesOn b c (trial_calls b.agent.half) 1 → GoesOn c d (config_calls c.agent.half next.config) 1 → d.agent.half.awaits ≡ false
begins_idle a b c d reply next taken room ended configured =
    ap (λ x. x.awaits) configured.half ∙ config_idle c.agent.half next.config ∙ ap (λ x. x.awaits) ended.half ∙ ended_idle b.agent.half
    ∙ ap (λ x. x.awaits) (told_is a b reply taken room) ∙ told_idle a.agent.half reply

pub taken_idle : (a b : Host) (reply : ServerToAgent) → GoesOn a b (TakeReply reply ∷ []) 1 → fits a.agent.half (TakeReply reply) ≡ true → b.agent.half.awaits ≡ false
taken_idle a b reply taken room = ap (λ x. x.awaits) (told_is a b reply taken room) ∙ told_idle a.agent.half reply

-- whether the trial has its proof is told
pub tells_proved : (a b : Host) (reply : ServerToAgent) (next : Next) → GoesOn a b (TakeReply reply ∷ []) 1 → fits a.agent.half (TakeReply reply) ≡ true → next ≡ next_of reply a.agent.half
    → next.proved ≡ b.agent.half.proved
tells_proved a b reply next taken room is = ap (λ n. n.proved) is ∙ asks_proved a.agent.half reply ∙ ap (λ x. x.proved) (sym (told_is a b reply taken room))

-- settings to be tried are of a lab's server
pub tries_server : (a : AgentHalf) (reply : ServerToAgent) (next : Next) (kept : Bool) (connection : Option Settings) → IsReply reply → next ≡ next_of reply a
    → connection ≡ cond kept next.connection None → IfSome connection (λ settings. IsServer settings.endpoint)
tries_server a reply next kept connection r next_is is =
    subst (λ (o : Option Settings). IfSome o (λ settings. IsServer settings.endpoint)) (sym is)
    (where_is kept next.connection (subst (λ n. IfSome n.connection (λ settings. IsServer settings.endpoint)) (sym next_is) (asks_server a reply r.connection)))
  where
    where_is : (b : Bool) (o : Option Settings) → IfSome o (λ settings. IsServer settings.endpoint) → IfSome (cond b o None) (λ settings. IsServer settings.endpoint)
    where_is true o server = server
    where_is false o server = tt

-- so many generations are left
pub still_left : (a b : Host) (calls : List Call) (few n m : ℕ) → GoesOn a b calls few → few + m ≤ n → a.agent.store.generation + n < 2 ^ 64 → b.agent.store.generation + m < 2 ^ 64
still_left a b calls few n m goes enough left = omega (arith, goes.saves, enough, left)

-- what is written
begun_trial : (a : AgentHalf) (connection : Option Settings) → a.trial ≡ None → (calls_after a (trying_calls connection)).trial ≡ connection
begun_trial a None none = none
begun_trial a (Some settings) none = refl

pub heard_text : (a b c d e : Host) (reply : ServerToAgent) (next : Next) (connection : Option Settings) (trial : Option TrialEnd) (applied : Option Bool) (made : Option Attempt)
    → HeardBy a b c d e reply next connection → a.agent.half.awaits ≡ true
    → trial ≡ trial_end b.agent.half → applied ≡ option_map (is_applied c.agent.half) next.config → made ≡ attempt connection next.refused
    → Heard next.full trial applied made ≡ heard_line a.agent.half reply
heard_text a b c d e reply next connection trial applied made h awaits trial_is applied_is made_is =
    let half = a.agent.half in
    let b_is : b.agent.half ≡ told reply half = told_is a b reply h.taken h.room in
    let c_is : c.agent.half ≡ without_trial (told reply half) = h.ended.half ∙ ap without_trial b_is in
    let settled = begins_settled a b c d e reply next h.taken h.room h.ended h.configured in
    let last : connection ≡ (agent_after half (Hears reply no_reactions)).trial =
    sym (begun_trial d.agent.half connection settled) ∙ ap (λ x. x.trial) (sym h.begun.half ∙ (all_heard a b c d e reply next connection h awaits).half) in
    ap (λ (t : Option TrialEnd). Heard next.full t applied made) (trial_is ∙ ap trial_end b_is)
    ∙ ap (λ (x : Option Bool). Heard next.full (trial_end (told reply half)) x made) (applied_is ∙ ap (λ x. option_map (is_applied x) next.config) c_is)
    ∙ ap (λ (m : Option Attempt). Heard next.full (trial_end (told reply half)) (option_map (is_applied (without_trial (told reply half))) next.config) m) (made_is ∙ ap (λ (o : Option Settings). attempt o next.refused) last)
    ∙ ap (λ n. Heard n.full (trial_end (told reply half)) (option_map (is_applied (without_trial (told reply half))) n.config) (attempt (agent_after half (Hears reply no_reactions)).trial n.refused)) h.next_is
    ∙ ap (λ (t : Bool). cond t (Heard (next_of reply half).full (trial_end (told reply half)) (option_map (is_applied (without_trial (told reply half))) (next_of reply half).config) (attempt (agent_after half (Hears reply no_reactions)).trial (next_of reply half).refused)) Nothing) (sym h.room)

pub none_text : (a : AgentHalf) (reply : ServerToAgent) → fits a (TakeReply reply) ≡ false → Nothing ≡ heard_line a reply
none_text a reply room =
    ap (λ (t : Bool). cond t (Heard (next_of reply a).full (trial_end (told reply a)) (option_map (is_applied (without_trial (told reply a))) (next_of reply a).config) (attempt (agent_after a (Hears reply no_reactions)).trial (next_of reply a).refused)) Nothing) (sym room)
