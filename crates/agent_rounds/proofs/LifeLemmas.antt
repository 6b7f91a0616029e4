-- What is left of a run is what events of the agent leave.
use Rattle.std.proofs.Common.{◌≡◌, ℕ, zero, suc, List, [], ◌∷◌, ◌++◌, ◌⊎◌, Bool, true, false, Option, None, Some, Result, Ok, Err, IfSome, refl, sym, ◌∙◌, ap, subst, inl, inr}
use Rattle.std.specs.Prelude.{◌+◌, ◌-◌, ◌*◌, if◌then◌else◌}
use Rattle.std.specs.Option.{option_to_list}
use Rattle.std.proofs.lemmas.List.{append_assoc, append-nil}
use Rattle.message_values.specs.declared.custom.CustomCapabilities.{CustomCapabilities}
use Rattle.message_values.specs.declared.custom.CustomMessage.{CustomMessage}
use Rattle.message_values.specs.declared.reply.ServerToAgent.{ServerToAgent}
use Rattle.agent_rules.specs.declared.saved.Saved.{Saved}
use Rattle.agent_rules.specs.declared.rules.parts.LocalState.{LocalState}
use Rattle.agent_rules.specs.declared.rules.replies.Heard.{Heard}
use Rattle.agent_rules.specs.declared.rules.replies.Heard.TheVariants.{Commanded, Failed, Asked, Plain}
use Rattle.agent_rules.specs.Half.{AgentHalf, kept_part}
use Rattle.agent_rules.specs.Keeping.{Call, Change, Report, TakeReply, GiveUp, CommitTry, AbandonTry, ConfigDone, PackagesDone, Say, BeginTry, fits, heard_in, kept, kept_by, kept_of_reply, keeping}
use Rattle.agent_rules.specs.Calls.{call_after, calls_after, may_report, saves_of, told_by}
use Rattle.agent_rules.specs.Events.{AgentEvent, Changes, Reports, Hears, GivesUp, Restarts, Crashes, AllHearOwn, HearsOwn, agent_after, agent_run, calls_in, keeping_first, leaving_calls, reply_calls, saves_in}
use Rattle.agent_rounds.specs.declared.ends.AgentEnd.{AgentEnd}
use Rattle.agent_rounds.specs.declared.ends.AgentEnd.TheVariants.{StoreFault, FolderFault, ClockFault, RoundsSpent, NumbersSpent, TooLarge, NoMemory}
use Rattle.agent_rounds.specs.declared.ends.Pause.{Pause}
use Rattle.agent_rounds.specs.declared.held.Settling.{Settling}
use Rattle.agent_rounds.specs.declared.held.Settling.TheVariants as settling
use Rattle.agent_rounds.specs.declared.listening.Arrival.{Arrival}
use Rattle.agent_rounds.specs.declared.listening.Arrival.TheVariants.{Quiet as NoneCame, Came, Gone}
use Rattle.agent_rounds.specs.Stages.{Gives, Stage, Then}
use Rattle.agent_rounds.specs.Parts.{AsksReport, HasLink, LinksBy, MakesReport, SettlesBy, idle_link}
use Rattle.agent_rounds.specs.Replies.{DealsWith, EndsBy, EndsWith, WaitsFor}
use Rattle.agent_rounds.specs.Rounds.{Asking, AsksServer, Informs, RoundBy, RoundsBy, Waiting}
use Rattle.agent_rounds.specs.Listening.{AsksQuietServer, Drains, DrainsLink, DrainsOn, Listens, ListensBy, ListensWith, LooksOn, WaitsInParts, WaitsOn, longest_part, most_looks, parts_before}
use Rattle.agent_rounds.specs.Lives.{EachIsLeft, IsOneOf, Leave}
use Rattle.agent_rounds.specs.Moments.{last_part, number_held}
use Rattle.agent_rounds.specs.RoundEvents.{Happens, HappensAsRound, HeardReply, came_of_report, round_events, saves_of_events}
use Rattle.agent_rounds.specs.RunEvents.{HappensInRounds}
use Rattle.agent_rounds.proofs.EventLemmas.{AsksOf, Made, StaysStill, Still, dealt_round, drained_still, drains_still, informed, link_still, listens_still, made_one, reported_uid, settles_still, waits_still}
use Rattle.agent_rounds.proofs.FrontLemmas.{KeepsFront, front_call, give_up_front, reply_front}
use Rattle.agent_rounds.proofs.RunEventLemmas.{happens_append, rounds_ended, rounds_restarted, saves_append}

-- ---- parts that make no call keep nothing where they end the round

abbrev pub KeepsNothing : {A : Type 0} → (Stage → Stage → Result A AgentEnd → Type 0) → Type 0
KeepsNothing {A} P = (s t : Stage) (end : AgentEnd) → P s t (Err end) → t.keeps ≡ s.keeps

then_nothing : {A B : Type 0} (P : Stage → Stage → Result A AgentEnd → Type 0) (Q : A → Stage → Stage → Result B AgentEnd → Type 0)
    → StaysStill P → KeepsNothing P → ((a : A) → KeepsNothing (Q a)) → KeepsNothing (Then P Q)
then_nothing P Q still first second s t end (inl ended) = first s t end ended
then_nothing P Q still first second s t end (inr (m, (a, (does, ended)))) = second a m t end ended ∙ (still s m a does).1

gives_nothing : {A : Type 0} (value : A) → KeepsNothing (Gives value)
gives_nothing value s t end gives = absurd (cc gives.1)

settles_nothing : (due : Settling) → KeepsNothing (SettlesBy due)
settles_nothing settling.Settled s t end settled = absurd (cc settled.1)
settles_nothing settling.First s t end settled = ap (λ (u : Stage). u.keeps) settled.rest
settles_nothing settling.Again s t end settled = ap (λ (u : Stage). u.keeps) settled.rest

informs_nothing : (are : CustomCapabilities → Type 0) → KeepsNothing (Informs are)
informs_nothing are s t end (inl settled) = settles_nothing s.held.settling s t end settled
informs_nothing are s t end (inr (m, (done, (settled, inl reads)))) = ap (λ (u : Stage). u.keeps) reads.rest ∙ (settles_still s.held.settling s m done settled).1
informs_nothing are s t end (inr (m, (done, (settled, inr (n, (read, (reads, told))))))) =
    ap (λ (u : Stage). u.keeps) told.1 ∙ (ap (λ (u : Stage). u.keeps) reads.rest ∙ (settles_still s.held.settling s m done settled).1)

links_nothing : (idle : Option ℕ) → KeepsNothing (LinksBy idle)
links_nothing (Some number) s t end linked = absurd (cc linked.1)
links_nothing None s t end linked = ap (λ (u : Stage). u.keeps) linked.1

link_nothing : KeepsNothing HasLink
link_nothing s t end linked = links_nothing (idle_link s) s t end linked

asked_nothing : (bytes : List ℕ) (link : Option ℕ) → KeepsNothing (AsksReport bytes link)
asked_nothing bytes None s t end asked = absurd (cc asked.1)
asked_nothing bytes (Some number) s t end (inl wanting) = ap (λ (u : Stage). u.keeps) wanting.1
asked_nothing bytes (Some number) s t end (inr asked) = ap (λ (u : Stage). u.keeps) asked.rest

looks_nothing : (link : Option ℕ) → KeepsNothing (LooksOn link)
looks_nothing None s t end looked = absurd (cc looked.1)
looks_nothing (Some number) s t end looked = ap (λ (u : Stage). u.keeps) looked.rest

listens_nothing : KeepsNothing Listens
listens_nothing s t end listened = looks_nothing (number_held s.held) s t end listened

drains_on_nothing : (more : Stage → Stage → Result Bool AgentEnd → Type 0) → KeepsNothing more → (arrival : Arrival) → KeepsNothing (DrainsOn more arrival)
drains_on_nothing more nothing NoneCame s t end drained = absurd (cc drained.1)
drains_on_nothing more nothing Came s t end drained = nothing s t end drained
drains_on_nothing more nothing Gone s t end drained = absurd (cc drained.1)

drains_nothing : (looks : ℕ) → KeepsNothing (Drains looks)
drains_nothing zero = gives_nothing false
drains_nothing (suc looks) = then_nothing Listens (DrainsOn (Drains looks)) listens_still listens_nothing (drains_on_nothing (Drains looks) (drains_nothing looks))

drained_nothing : (link : Option ℕ) → KeepsNothing (DrainsLink link)
drained_nothing None = gives_nothing None
drained_nothing (Some number) =
    then_nothing (Drains most_looks) (λ quiet. Gives (if quiet then Some number else None)) (drains_still most_looks) (drains_nothing most_looks)
    (λ quiet. gives_nothing (if quiet then Some number else None))

pub server_nothing : (bytes : List ℕ) → KeepsNothing (AsksServer bytes)
server_nothing bytes = then_nothing HasLink (AsksReport bytes) link_still link_nothing (asked_nothing bytes)

pub quiet_nothing : (bytes : List ℕ) → KeepsNothing (AsksQuietServer bytes)
quiet_nothing bytes =
    then_nothing HasLink (λ link. Then (DrainsLink link) (AsksReport bytes)) link_still link_nothing
    (λ link. then_nothing (DrainsLink link) (AsksReport bytes) (drained_still link) (drained_nothing link) (asked_nothing bytes))

waits_nothing : (nanos : ℕ) (restart : Bool) → KeepsNothing (WaitsFor nanos restart)
waits_nothing nanos restart s t end waited = ap (λ (u : Stage). u.keeps) waited.rest

ends_nothing : (nanos : Option ℕ) (restart : Bool) → KeepsNothing (EndsBy nanos restart)
ends_nothing None restart = gives_nothing restart
ends_nothing (Some nanos) restart = waits_nothing nanos restart

pub wait_nothing : (pause : Pause) → KeepsNothing (EndsWith pause)
wait_nothing pause = ends_nothing pause.nanos pause.restart

waits_on_nothing : (restart : Bool) (more : Stage → Stage → Result Bool AgentEnd → Type 0) → KeepsNothing more → (arrival : Arrival) → KeepsNothing (WaitsOn restart more arrival)
waits_on_nothing restart more nothing NoneCame s t end waited = nothing s t end waited
waits_on_nothing restart more nothing Came s t end waited = absurd (cc waited.1)
waits_on_nothing restart more nothing Gone s t end waited = nothing s t end waited

parts_nothing : (parts last : ℕ) (restart : Bool) → KeepsNothing (WaitsInParts parts last restart)
parts_nothing zero last restart =
    then_nothing (WaitsFor last restart) (λ _. Then Listens (λ _. Gives restart)) (waits_still last restart) (waits_nothing last restart)
    (λ _. then_nothing Listens (λ _. Gives restart) listens_still listens_nothing (λ _. gives_nothing restart))
parts_nothing (suc parts) last restart =
    then_nothing (WaitsFor longest_part restart) (λ _. Then Listens (WaitsOn restart (WaitsInParts parts last restart))) (waits_still longest_part restart) (waits_nothing longest_part restart)
    (λ _. then_nothing Listens (WaitsOn restart (WaitsInParts parts last restart)) listens_still listens_nothing
    (waits_on_nothing restart (WaitsInParts parts last restart) (parts_nothing parts last restart)))

listening_nothing : (nanos : Option ℕ) (restart : Bool) → KeepsNothing (ListensBy nanos restart)
listening_nothing None restart = gives_nothing restart
listening_nothing (Some nanos) restart = parts_nothing (parts_before nanos) (nanos - parts_before nanos * longest_part) restart

pub listen_nothing : (pause : Pause) → KeepsNothing (ListensWith pause)
listen_nothing pause = listening_nothing pause.nanos pause.restart

-- ---- what events leave

-- the events of a round
abbrev IsOfRound : AgentEvent → Type 0
IsOfRound (Changes now) = Unit {0}
IsOfRound Reports = Unit {0}
IsOfRound (Hears reply reactions) = Unit {0}
IsOfRound GivesUp = Unit {0}
IsOfRound (Restarts local asks_uid) = ⊥
IsOfRound (Crashes during saves) = ⊥

abbrev pub AreOfRounds : List AgentEvent → Type 0
AreOfRounds [] = Unit {0}
AreOfRounds (event ∷ events) = IsOfRound event × AreOfRounds events

last_kept : (a : AgentHalf) (k : Option Saved) → kept_part (keeping k a) ≡ last_part (kept_part a) (option_to_list k)
last_kept a None = refl
last_kept a (Some part) = refl

left_told : (a : AgentHalf) (reply : ServerToAgent) (heard : Heard) → heard_in reply ≡ heard → kept_part (told_by heard reply a) ≡ kept_part (kept a (TakeReply reply))
left_told a reply Commanded is = ap (λ h. kept_part (keeping (kept_of_reply a h reply) a)) (sym is)
left_told a reply Failed is = ap (λ h. kept_part (keeping (kept_of_reply a h reply) a)) (sym is)
left_told a reply Asked is = refl
left_told a reply Plain is = refl

left_by : (a : AgentHalf) (call : Call) → kept_part (call_after a call) ≡ kept_part (kept a call)
left_by a (Change now) = refl
left_by a Report = refl
left_by a (TakeReply reply) = left_told a reply (heard_in reply) refl
left_by a GiveUp = refl
left_by a CommitTry = refl
left_by a AbandonTry = refl
left_by a (ConfigDone applied status) = refl
left_by a (PackagesDone statuses) = refl
left_by a (Say message) = refl
left_by a (BeginTry next) = refl

last_append : (first : Option Saved) (a b : List Saved) → last_part first (a ++ b) ≡ last_part (last_part first a) b
last_append first [] b = refl
last_append first (part ∷ parts) b = last_append (Some part) parts b

calls_leave : (calls : List Call) (a : AgentHalf) → kept_part (calls_after a calls) ≡ last_part (kept_part a) (saves_of a calls)
calls_leave [] a = refl
calls_leave (call ∷ calls) a = by_fits (calls_leave calls (call_after a call)) (fits a call)
  where
    by_fits : kept_part (calls_after (call_after a call) calls) ≡ last_part (kept_part (call_after a call)) (saves_of (call_after a call) calls) → (b : Bool)
        → kept_part (if b then calls_after (call_after a call) calls else a)
        ≡ last_part (kept_part a) (if b then option_to_list (kept_by a call) ++ saves_of (call_after a call) calls else [])
    by_fits rest true =
        rest
        ∙ (ap (λ (k : Option Saved). last_part k (saves_of (call_after a call) calls)) (left_by a call ∙ last_kept a (kept_by a call))
        ∙ sym (last_append (kept_part a) (option_to_list (kept_by a call)) (saves_of (call_after a call) calls)))
    by_fits rest false = refl

event_leaves : (event : AgentEvent) (a : AgentHalf) → IsOfRound event → kept_part (agent_after a event) ≡ last_part (kept_part a) (saves_in a event)
event_leaves (Changes now) a is = calls_leave (calls_in a (Changes now)) a
event_leaves Reports a is = calls_leave (calls_in a Reports) a
event_leaves (Hears reply reactions) a is = calls_leave (calls_in a (Hears reply reactions)) a
event_leaves GivesUp a is = calls_leave (calls_in a GivesUp) a
event_leaves (Restarts local asks_uid) a is = absurd is
event_leaves (Crashes during saves) a is = absurd is

-- ---- the room stays as it is

keeping_room : (k : Option Saved) (a : AgentHalf) → (keeping k a).room ≡ a.room
keeping_room None a = refl
keeping_room (Some part) a = refl

told_room : (a : AgentHalf) (reply : ServerToAgent) (heard : Heard) → (told_by heard reply a).room ≡ a.room
told_room a reply Commanded = refl
told_room a reply Failed = refl
told_room a reply Asked = keeping_room (kept_by a (TakeReply reply)) a
told_room a reply Plain = keeping_room (kept_by a (TakeReply reply)) a

call_room : (a : AgentHalf) (call : Call) → (call_after a call).room ≡ a.room
call_room a (Change now) = refl
call_room a Report = keeping_room (kept_by a Report) a
call_room a (TakeReply reply) = told_room a reply (heard_in reply)
call_room a GiveUp = refl
call_room a CommitTry = keeping_room (kept_by a CommitTry) a
call_room a AbandonTry = refl
call_room a (ConfigDone applied status) = keeping_room (kept_by a (ConfigDone applied status)) a
call_room a (PackagesDone statuses) = keeping_room (kept_by a (PackagesDone statuses)) a
call_room a (Say message) = refl
call_room a (BeginTry next) = refl

calls_room : (calls : List Call) (a : AgentHalf) → (calls_after a calls).room ≡ a.room
calls_room [] a = refl
calls_room (call ∷ calls) a = by_fits (calls_room calls (call_after a call) ∙ call_room a call) (fits a call)
  where
    by_fits : (calls_after (call_after a call) calls).room ≡ a.room → (b : Bool) → (if b then calls_after (call_after a call) calls else a).room ≡ a.room
    by_fits rest true = rest
    by_fits rest false = refl

first_room : (n : ℕ) (saves : List Saved) (a : AgentHalf) → (keeping_first n saves a).room ≡ a.room
first_room n [] a = refl
first_room zero (part ∷ parts) a = refl
first_room (suc n) (part ∷ parts) a = first_room n parts (keeping (Some part) a)

event_room : (event : AgentEvent) (a : AgentHalf) → (agent_after a event).room ≡ a.room
event_room (Changes now) a = calls_room (calls_in a (Changes now)) a
event_room Reports a = calls_room (calls_in a Reports) a
event_room (Hears reply reactions) a = calls_room (calls_in a (Hears reply reactions)) a
event_room GivesUp a = calls_room (calls_in a GivesUp) a
event_room (Restarts local asks_uid) a = refl
event_room (Crashes during saves) a = first_room saves (saves_in a during) a

-- ---- what is left of events is what a crash in one of them leaves

-- one of these is left by a crash
crash_leaves : (saves : List Saved) (a : AgentHalf) (part : Option Saved) → IsOneOf (kept_part a) saves part → (n : ℕ) × (kept_part (keeping_first n saves a) ≡ part)
crash_leaves [] a part is = (zero, sym is)
crash_leaves (next ∷ rest) a part (inl is) = (zero, sym is)
crash_leaves (next ∷ rest) a part (inr later) = let more = crash_leaves rest (keeping (Some next) a) part later in (suc more.0, more.1)

-- one of them all is one of the first, or one of the others
one_of_both : (xs ys : List Saved) (first part : Option Saved) → IsOneOf first (xs ++ ys) part → IsOneOf first xs part ⊎ IsOneOf (last_part first xs) ys part
one_of_both [] ys first part is = inr is
one_of_both (x ∷ xs) ys first part (inl is) = inl (inl is)
one_of_both (x ∷ xs) ys first part (inr later) = elim (one_of_both xs ys (Some x) part later) [ inl among ↦ inl (inr among) | inr beyond ↦ inr beyond ]

one_of_more : (xs ys : List Saved) (first part : Option Saved) → IsOneOf first xs part → IsOneOf first (xs ++ ys) part
one_of_more [] [] first part is = is
one_of_more [] (y ∷ ys) first part is = inl is
one_of_more (x ∷ xs) ys first part (inl is) = inl is
one_of_more (x ∷ xs) ys first part (inr later) = inr (one_of_more xs ys (Some x) part later)

events_leave : (events : List AgentEvent) (a : AgentHalf) → AreOfRounds events → AllHearOwn events a → EachIsLeft a (saves_of_events events a)
events_leave [] a of own part is = ([], record { own = tt; kept = sym is; room = refl })
events_leave (event ∷ events) a of own part is =
    by_side (λ later. events_leave events (agent_after a event) of.1 own.1 part later) (one_of_both (saves_in a event) (saves_of_events events (agent_after a event)) (kept_part a) part is)
  where
    behind : ((more : List AgentEvent) × Leave more (agent_after a event) part) → (all : List AgentEvent) × Leave all a part
    behind rest = (event ∷ rest.0, record { own = (own.0, rest.1.own); kept = rest.1.kept; room = rest.1.room ∙ event_room event a })

    by_side : (IsOneOf (kept_part (agent_after a event)) (saves_of_events events (agent_after a event)) part → (more : List AgentEvent) × Leave more (agent_after a event) part)
        → IsOneOf (kept_part a) (saves_in a event) part ⊎ IsOneOf (last_part (kept_part a) (saves_in a event)) (saves_of_events events (agent_after a event)) part
        → (all : List AgentEvent) × Leave all a part
    by_side further (inl among) =
        let crash = crash_leaves (saves_in a event) a part among in (
          Crashes event crash.0 ∷ [],
          record { own = (own.0, tt); kept = crash.1; room = first_room crash.0 (saves_in a event) a },
        )
    by_side further (inr later) =
        behind (further (subst (λ (k : Option Saved). IsOneOf k (saves_of_events events (agent_after a event)) part) (sym (event_leaves event a of.0)) later))

-- ---- the events of rounds

-- These events are of rounds and to the agent, and what was kept from the one stage to the other is the first of what they keep.
pub record IsFront (events : List AgentEvent) (s t : Stage) : Type 0 where
  pub of : AreOfRounds events
  pub own : AllHearOwn events s.half
  pub front : List Saved
  pub rest : List Saved
  pub joined : saves_of_events events s.half ≡ front ++ rest
  pub keeps : t.keeps ≡ s.keeps ++ front

nothing_front : (s t : Stage) → t.keeps ≡ s.keeps → IsFront [] s t
nothing_front s t same = record { of = tt; own = tt; front = []; rest = []; joined = refl; keeps = same ∙ sym (append-nil s.keeps) }

-- one event of these calls
calls_front : (event : AgentEvent) (calls : List Call) (s t : Stage) → IsOfRound event → HearsOwn s.half event → saves_in s.half event ≡ saves_of s.half calls → KeepsFront calls s t → IsFront (event ∷ []) s t
calls_front event calls s t of own saves f = record {
  of = (of, tt);
  own = (own, tt);
  front = f.front;
  rest = f.rest;
  joined = append-nil (saves_in s.half event) ∙ (saves ∙ f.joined);
  keeps = f.keeps;
}

-- behind an event
first_front : (event : AgentEvent) (events : List AgentEvent) (s m t : Stage) → IsOfRound event → HearsOwn s.half event
    → m.half ≡ agent_after s.half event → m.keeps ≡ s.keeps ++ saves_in s.half event → IsFront events m t → IsFront (event ∷ events) s t
first_front event events s m t of own half keeps f = record {
  of = (of, f.of);
  own = (own, subst (AllHearOwn events) half f.own);
  front = saves_in s.half event ++ f.front;
  rest = f.rest;
  joined = ap (λ (k : List Saved). saves_in s.half event ++ k) (ap (saves_of_events events) (sym half) ∙ f.joined) ∙ sym (append_assoc (saves_in s.half event) f.front f.rest);
  keeps = f.keeps ∙ (ap (λ (k : List Saved). k ++ f.front) keeps ∙ append_assoc s.keeps (saves_in s.half event) f.front);
}

-- from a stage at which nothing happened
front_from : (events : List AgentEvent) (s m t : Stage) → Still s m → IsFront events m t → IsFront events s t
front_from events s m t still f = record {
  of = f.of;
  own = subst (AllHearOwn events) still.0 f.own;
  front = f.front;
  rest = f.rest;
  joined = ap (saves_of_events events) (sym still.0) ∙ f.joined;
  keeps = f.keeps ∙ ap (λ (k : List Saved). k ++ f.front) still.1;
}

change_front : (now : LocalState) (events : List AgentEvent) (s m t : Stage) → Made (Change now ∷ []) s m → IsFront events m t → IsFront (Changes now ∷ events) s t
change_front now events s m t made f = first_front (Changes now) events s m t tt tt made.1.0 made.1.1 f

report_made : (s m : Stage) → may_report s.half ≡ true → Made (Report ∷ []) s m → Made (calls_in s.half Reports) s m
report_made s m due made = subst (λ (b : Bool). Made (if b then Report ∷ [] else []) s m) (sym due) made

reports_front : (events : List AgentEvent) (s m t : Stage) → may_report s.half ≡ true → Made (Report ∷ []) s m → IsFront events m t → IsFront (Reports ∷ events) s t
reports_front events s m t due made f =
    let calls = report_made s m due made in first_front Reports events s m t tt tt calls.1.0 calls.1.1 f

-- a report that ended the round
report_ended : (s t : Stage) (end : AgentEnd) → MakesReport s t (Err end) → (events : List AgentEvent) × IsFront events s t
report_ended s t StoreFault ended = (
  Reports ∷ [],
  calls_front Reports (Report ∷ []) s t tt tt (ap (λ (b : Bool). saves_of s.half (if b then Report ∷ [] else [])) ended.0) (front_call Report [] s t StoreFault ended.1),
)
report_ended s t FolderFault ended = ([], nothing_front s t (ap (λ (u : Stage). u.keeps) ended.1))
report_ended s t ClockFault ended = ([], nothing_front s t (ap (λ (u : Stage). u.keeps) ended.1))
report_ended s t RoundsSpent ended = ([], nothing_front s t (ap (λ (u : Stage). u.keeps) ended.1))
report_ended s t NumbersSpent ended = ([], nothing_front s t (ap (λ (u : Stage). u.keeps) ended.1))
report_ended s t TooLarge ended = ([], nothing_front s t (ap (λ (u : Stage). u.keeps) ended.1))
report_ended s t NoMemory ended = ([], nothing_front s t (ap (λ (u : Stage). u.keeps) ended.1))

-- an answer in which the round ended
reply_ended : (may : CustomMessage → Option CustomMessage → Type 0) (reply : Option ServerToAgent) (s t : Stage) (end : AgentEnd) → s.half.awaits ≡ true
    → IfSome reply (λ r. r.instance_uid ≡ s.half.saved.uid) → DealsWith may reply s t (Err end) → (events : List AgentEvent) × IsFront events s t
reply_ended may None s t end awaits own dealt = (
  GivesUp ∷ [],
  calls_front GivesUp (GiveUp ∷ leaving_calls s.half) s t tt tt (ap (λ (b : Bool). saves_of s.half (if b then GiveUp ∷ leaving_calls s.half else [])) awaits) (give_up_front s t end dealt),
)
reply_ended may (Some reply) s t end awaits own dealt =
    let f = reply_front may reply s t end dealt in (
      Hears reply f.0 ∷ [],
      calls_front (Hears reply f.0) (reply_calls s.half reply f.0) s t tt own (ap (λ (b : Bool). saves_of s.half (if b then reply_calls s.half reply f.0 else [])) awaits) f.1,
    )

-- ---- rounds

-- a report and what comes of it are of the agent that learned what it knows
reports_uid : (a : AgentHalf) → (agent_after a Reports).saved.uid ≡ a.saved.uid
reports_uid a = by_may (may_report a)
  where
    by_fits : (b : Bool) → (if b then call_after a Report else a).saved.uid ≡ a.saved.uid
    by_fits true = reported_uid a
    by_fits false = refl

    by_may : (b : Bool) → (calls_after a (if b then Report ∷ [] else [])).saved.uid ≡ a.saved.uid
    by_may true = by_fits (fits a Report)
    by_may false = refl

round_own : (a : AgentHalf) (now : LocalState) (heard : Option HeardReply) → IfSome heard (λ h. h.reply.instance_uid ≡ a.saved.uid) → AllHearOwn (round_events now heard) a
round_own a now None own = (tt, (tt, (tt, tt)))
round_own a now (Some heard) own = (tt, (tt, (own ∙ sym (reports_uid (agent_after a (Changes now))), tt)))

came_of_round : (heard : Option HeardReply) → IsOfRound (came_of_report heard)
came_of_round None = tt
came_of_round (Some heard) = tt

own_append : (xs ys : List AgentEvent) (a : AgentHalf) → AllHearOwn xs a → AllHearOwn ys (agent_run xs a) → AllHearOwn (xs ++ ys) a
own_append [] ys a first second = second
own_append (x ∷ xs) ys a first second = (first.0, own_append xs ys (agent_after a x) first.1 second)

of_append : (xs ys : List AgentEvent) → AreOfRounds xs → AreOfRounds ys → AreOfRounds (xs ++ ys)
of_append [] ys first second = second
of_append (x ∷ xs) ys first second = (first.0, of_append xs ys first.1 second)

-- These events happen, and they are of rounds and to the agent.
abbrev pub HappenToIt : List AgentEvent → Stage → Stage → Type 0
HappenToIt events s t = AreOfRounds events × (AllHearOwn events s.half × Happens events s t)

whole_front : (events : List AgentEvent) (s t : Stage) → HappenToIt events s t → IsFront events s t
whole_front events s t happen = record {
  of = happen.0;
  own = happen.1.0;
  front = saves_of_events events s.half;
  rest = [];
  joined = sym (append-nil (saves_of_events events s.half));
  keeps = happen.1.1.keeps;
}

-- behind events that happened
front_append : (xs ys : List AgentEvent) (s m t : Stage) → HappenToIt xs s m → IsFront ys m t → IsFront (xs ++ ys) s t
front_append xs ys s m t happen f = record {
  of = of_append xs ys happen.0 f.of;
  own = own_append xs ys s.half happen.1.0 (subst (AllHearOwn ys) happen.1.1.half f.own);
  front = saves_of_events xs s.half ++ f.front;
  rest = f.rest;
  joined = saves_append xs ys s.half
      ∙ (ap (λ (k : List Saved). saves_of_events xs s.half ++ k) (ap (saves_of_events ys) (sym happen.1.1.half) ∙ f.joined)
      ∙ sym (append_assoc (saves_of_events xs s.half) f.front f.rest));
  keeps = f.keeps ∙ (ap (λ (k : List Saved). k ++ f.front) happen.1.1.keeps ∙ append_assoc s.keeps (saves_of_events xs s.half) f.front);
}

module _ (asks : Asking) (waits : Waiting) (asking : AsksOf asks) (waiting : (pause : Pause) → StaysStill (waits pause))
    (asking_nothing : (bytes : List ℕ) → KeepsNothing (asks bytes)) (waiting_nothing : (pause : Pause) → KeepsNothing (waits pause))
    (may : CustomMessage → Option CustomMessage → Type 0) (are : CustomCapabilities → Type 0) where
  -- one round
  round_own_events : (s t : Stage) → HappensAsRound asks waits may are s t → (events : List AgentEvent) × HappenToIt events s t
  round_own_events s t round = (
    round_events round.round.now round.round.heard,
    ((tt, (tt, (came_of_round round.round.heard, tt))), (round_own s.half round.round.now round.round.heard round.round.to_it, round.round.happens)),
  )

  pub rounds_own : (n : ℕ) (s t : Stage) → HappensInRounds asks waits may are n s t → (events : List AgentEvent) × HappenToIt events s t
  rounds_own zero s t happens = ([], (tt, (tt, happens)))
  rounds_own (suc n) s t rounds =
      let first = round_own_events s rounds.0 rounds.1 in
      let rest = rounds_own n rounds.0 t rounds.2 in (
        first.0 ++ rest.0,
        (
          of_append first.0 rest.0 first.1.0 rest.1.0,
          (
            own_append first.0 rest.0 s.half first.1.1.0 (subst (AllHearOwn rest.0) first.1.1.1.half rest.1.1.0),
            happens_append first.0 rest.0 s rounds.0 t first.1.1.1 rest.1.1.1,
          ),
        ),
      )

  -- the round that ends a run, from where its report was made
  asked_front : (i p t : Stage) (end : AgentEnd) (bytes : List ℕ) → may_report i.half ≡ true → Made (Report ∷ []) i p → p.half.awaits ≡ true
      → asks bytes p t (Err end) ⊎ ((q : Stage) × ((reply : Option ServerToAgent) × (asks bytes p q (Ok reply) × Then (DealsWith may reply) waits q t (Err end))))
      → (s : Stage) (now : LocalState) → Made (Change now ∷ []) s i → ((d : Stage) (pause : Pause) (q : Stage) (reply : Option ServerToAgent) → asks bytes p q (Ok reply) → DealsWith may reply q d (Ok pause) → (events : List AgentEvent) × HappenToIt events s d)
      → (events : List AgentEvent) × IsFront events s t
  asked_front i p t end bytes due made awaits (inl asked) s now learned round = (
    Changes now ∷ Reports ∷ [],
    change_front now (Reports ∷ []) s i t learned (reports_front [] i p t due made (nothing_front p t (asking_nothing bytes p t end asked))),
  )
  asked_front i p t end bytes due made awaits (inr (q, (reply, (asked, inl dealt)))) s now learned round =
      let still : Still p q = asking.still bytes p q reply asked in
      let ended = reply_ended may reply q t end (ap (λ (a : AgentHalf). a.awaits) still.0 ∙ awaits)
      (subst (λ (u : List ℕ). IfSome reply (λ r. r.instance_uid ≡ u)) (ap (λ (a : AgentHalf). a.saved.uid) (sym still.0)) (asking.to_it bytes p q reply asked)) dealt in (
        Changes now ∷ Reports ∷ ended.0,
        change_front now (Reports ∷ ended.0) s i t learned (reports_front ended.0 i p t due made (front_from ended.0 p q t still ended.1)),
      )
  asked_front i p t end bytes due made awaits (inr (q, (reply, (asked, inr (d, (pause, (dealt, waited))))))) s now learned round =
      let whole = round d pause q reply asked dealt in (
        whole.0 ++ [],
        front_append whole.0 [] s d t whole.1 (nothing_front d t (waiting_nothing pause d t end waited)),
      )

  round_front : (s t : Stage) (end : AgentEnd) → RoundBy asks waits may are s t (Err end) → (events : List AgentEvent) × IsFront events s t
  round_front s t end (inl (inl informs)) = ([], nothing_front s t (informs_nothing are s t end informs))
  round_front s t end (inl (inr (i, (done, (informs, reports))))) =
      let learned = informed asks waits asking waiting may are s i done informs in
      let ended = report_ended i t end reports in (Changes learned.0 ∷ ended.0, change_front learned.0 ended.0 s i t learned.1.0 ended.1)
  round_front s t end (inr (p, (bytes, ((i, (done, (informs, reports))), rest)))) =
      let learned = informed asks waits asking waiting may are s i done informs in
      asked_front i p t end bytes reports.1 (made_one Report i p reports.2) (ap (λ (u : Stage). u.half.awaits) reports.2.1) rest s learned.0 learned.1.0
      (λ d pause q reply asked dealt.
      let before = dealt_round asks waits asking waiting may are s d bytes p (i, (done, (informs, reports))) q reply asked d pause dealt (refl, refl) in (
        round_events before.now before.heard,
        ((tt, (tt, (came_of_round before.heard, tt))), (round_own s.half before.now before.heard before.to_it, before.happens)),
      ))

  runs_front : (left done : ℕ) (s t : Stage) (result : Result ℕ AgentEnd) → RoundsBy asks waits may are left done s t result → (events : List AgentEvent) × IsFront events s t
  runs_front left done s t (Ok n) rounds =
      let all = rounds_restarted asks waits asking waiting may are left done n s t rounds in
      let whole = rounds_own all.0 s t all.3 in (whole.0, whole_front whole.0 s t whole.1)
  runs_front left done s t (Err end) rounds = elim (rounds_ended asks waits asking waiting may are left done s t end rounds) [
    | inl all ↦ (let whole = rounds_own left s t all.0 in (whole.0, whole_front whole.0 s t whole.1))
    | inr more ↦ (
        let whole = rounds_own more.0 s more.2 more.3 in
        let ended = round_front more.2 t end more.4 in
        (whole.0 ++ ended.0, front_append whole.0 ended.0 s more.2 t whole.1 ended.1))
  ]

  -- whatever is left of a run
  pub runs_leave : (left done : ℕ) (s t : Stage) (result : Result ℕ AgentEnd) → s.keeps ≡ [] → RoundsBy asks waits may are left done s t result → EachIsLeft s.half t.keeps
  runs_leave left done s t result none rounds part is =
      let f = runs_front left done s t result rounds in
      let kept : t.keeps ≡ f.1.front = f.1.keeps ∙ ap (λ (k : List Saved). k ++ f.1.front) none in
      events_leave f.0 s.half f.1.of f.1.own part
      (subst (λ (k : List Saved). IsOneOf (kept_part s.half) k part) (sym f.1.joined)
      (one_of_more f.1.front f.1.rest (kept_part s.half) part (subst (λ (k : List Saved). IsOneOf (kept_part s.half) k part) kept is)))

  -- a run that a restart command ended
  pub runs_happen : (left done n : ℕ) (s t : Stage) → RoundsBy asks waits may are left done s t (Ok n) → (events : List AgentEvent) × (AllHearOwn events s.half × Happens events s t)
  runs_happen left done n s t rounds =
      let all = rounds_restarted asks waits asking waiting may are left done n s t rounds in
      let whole = rounds_own all.0 s t all.3 in (whole.0, whole.1.1)
