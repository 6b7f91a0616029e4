-- Lines in which a server pushes, or a push is taken, from what their parts leave.
use Rattle.std.proofs.Common.{◌≡◌, ◌∙◌, ℕ, suc, ◌+◌, ◌<◌, ◌≤◌, ◌==◌, List, [], ◌∷◌, ◌++◌, length, get_or, remove, Bool, true, false, not, ◌&&◌, ◌||◌, cond, Option, Some, None, slice_get, ap, sym, subst, refl, arith}
use Rattle.std.specs.Prelude.{is_some}
use Rattle.std.specs.List.{position, position_or_len}
use Rattle.std.proofs.lemmas.Grind.{common_steps}
use Rattle.std.specs.Option.{option_map, option_to_list}
use Rattle.std.specs.Str.{bytes_eq}
use Rattle.std.specs.Cmp.Lexicographic.{bytes_decides}
use Rattle.edge_devices.specs.declared.disk_calls.Mode.TheVariants.{Old}
use Rattle.edge_devices.specs.Disks.{disk_bytes}
use Rattle.edge_devices.specs.MemoryDisks.{memory_disk}
use Rattle.message_values.specs.declared.reply.ServerToAgent.{ServerToAgent}
use Rattle.server_core.specs.Served.{Served}
use Rattle.server_core.specs.declared.rows.Pending.{Pending}
use Rattle.server_core.specs.Table.{pushed_from, pushed_if, table_of}
use Rattle.agent_rules.specs.Half.{AgentHalf, target}
use Rattle.agent_rules.specs.Reports.{Entry, where_true}
use Rattle.agent_rules.specs.Events.{Hears, calls_in}
use Rattle.agent_stopped.specs.Endings.{Passed, image_in}
use Rattle.agent_stopped.specs.Stages.{outcome}
use Rattle.world_model.specs.World.{World, Took, Start, Event, after, entry_held, entry_in, no_reactions, offers_at, push_due, record_at, seen_of, told_at, waiting_at, world}
use Rattle.world_model.specs.Servers.{IsNeverFull, arrivals}
use Rattle.world_scripts.specs.declared.lines.Line.TheVariants as lines
use Rattle.world_lab.specs.declared.plays.Play.{Play}
use Rattle.world_lab.specs.declared.plays.SentReport.{SentReport}
use Rattle.world_lab.specs.declared.plays.TheConstants.{LAYOUT}
use Rattle.world_lab.specs.declared.plays.WaitingPush.{WaitingPush}
use Rattle.world_lab.specs.declared.written.Written.{Written}
use Rattle.world_lab.specs.declared.written.Written.TheVariants.{Nothing, Pushed}
use Rattle.world_lab.specs.Playing.{Progress, endpoint_of, ends, lab_profile, moves_trial, oldest, push_taken, script_start, server_at, target_server, takes_push, whole_event, without_oldest, world_of}
use Rattle.world_lab.specs.Transcripts.{answered_line, heard_line}
use Rattle.world_lab.specs.Hosts.{GoesOn, IsHosted, stage_at}
use Rattle.world_lab.specs.Mirrors.{AreOffers, ArePushed, IsPlayed, IsReply, Mirrors, MirrorsWorld}
use Rattle.world_lab.proofs.Sent.{none≢some, some_same}
use Rattle.world_lab.proofs.Numbers.{server_is}
use Rattle.world_lab.proofs.Mirroring.{GoOn, ArriveOn, mirrors_next, mirrors_same, pushed_after, reached_after, world_took}
use Rattle.world_lab.proofs.Deliveries.{none_due, connection_due}
use Rattle.world_lab.proofs.Lines.{HaveRoom, server_was}
use Rattle.world_lab.proofs.Stopping.{IsBeside, StopLaws, goes_done, moved, passes_by}

-- ---- what waits

append_nothing : {X : Type 0} (xs : List X) → xs ++ [] ≡ xs
append_nothing [] = refl
append_nothing (x ∷ xs) = ap (λ ys. x ∷ ys) (append_nothing xs)

pushed_push : (pushes more : List WaitingPush) → ArePushed pushes → ArePushed more → ArePushed (pushes ++ more)
pushed_push [] more are those = those
pushed_push (p ∷ ps) more are those = (are.0, pushed_push ps more are.1 those)

-- the oldest push of a server is a reply of a lab's server
pub oldest_is_reply : (server : ℕ) (pushes : List WaitingPush) (message : ServerToAgent) → ArePushed pushes → oldest server pushes ≡ Some message → IsReply message
oldest_is_reply server [] message are is = absurd (none≢some is)
oldest_is_reply server (p ∷ ps) message are is = by_test (oldest_is_reply server ps message are.1) (p.server == server) is
  where
    by_test : (oldest server ps ≡ Some message → IsReply message) → (t : Bool) → cond t (Some p.message) (oldest server ps) ≡ Some message → IsReply message
    by_test rest true it = subst IsReply (some_same it) are.0
    by_test rest false it = rest it

others_pushed : (server : ℕ) (pushes : List WaitingPush) → ArePushed pushes → ArePushed (without_oldest server pushes)
others_pushed server [] are = tt
others_pushed server (p ∷ ps) are = by_test (others_pushed server ps are.1) (p.server == server)
  where
    by_test : ArePushed (without_oldest server ps) → (t : Bool) → ArePushed (cond t ps (p ∷ without_oldest server ps))
    by_test rest true = are.1
    by_test rest false = (are.0, rest)

-- without one all wait still
none_oldest : (server : ℕ) (pushes : List WaitingPush) → oldest server pushes ≡ None → without_oldest server pushes ≡ pushes
none_oldest server [] none = refl
none_oldest server (p ∷ ps) none = by_test (none_oldest server ps) (p.server == server) none
  where
    by_test : (oldest server ps ≡ None → without_oldest server ps ≡ ps) → (t : Bool) → cond t (Some p.message) (oldest server ps) ≡ None
        → cond t ps (p ∷ without_oldest server ps) ≡ p ∷ ps
    by_test rest true it = absurd (none≢some (sym it))
    by_test rest false it = ap (λ xs. p ∷ xs) (rest it)

abbrev place : ℕ → List WaitingPush → ℕ
place server pushes = position_or_len (λ p. p.server == server) pushes

-- the oldest push is at the place that is found
found_there : (server : ℕ) (pushes : List WaitingPush) → place server pushes < length pushes → (push : WaitingPush) → push ≡ get_or pushes (place server pushes) push
    → (oldest server pushes ≡ Some push.message) × (without_oldest server pushes ≡ remove pushes (place server pushes))
found_there server [] h push is = absurd (omega (arith, h))
found_there server (p ∷ ps) h push is = at_test (found_there server ps) (p.server == server) h push is
  where
    at_test : (place server ps < length ps → (push : WaitingPush) → push ≡ get_or ps (place server ps) push
        → (oldest server ps ≡ Some push.message) × (without_oldest server ps ≡ remove ps (place server ps)))
        → (b : Bool) → cond (not b) (1 + place server ps) 0 < suc (length ps) → (push : WaitingPush) → push ≡ get_or (p ∷ ps) (cond (not b) (1 + place server ps) 0) push
        → (cond b (Some p.message) (oldest server ps) ≡ Some push.message) × (cond b ps (p ∷ without_oldest server ps) ≡ remove (p ∷ ps) (cond (not b) (1 + place server ps) 0))
    at_test rest true e push is = (ap (λ (w : WaitingPush). Some w.message) (sym is), refl)
    at_test rest false e push is =
        let behind : 1 + place server ps ≡ suc (place server ps) = omega arith in
        let more = rest (omega (arith, e)) push (is ∙ ap (λ (n : ℕ). get_or (p ∷ ps) n push) behind) in
        (more.0, ap (λ (xs : List WaitingPush). p ∷ xs) more.1 ∙ sym (ap (λ (n : ℕ). remove (p ∷ ps) n) behind))

-- there is none, and all wait still
absent_there : (server : ℕ) (pushes : List WaitingPush) → length pushes ≤ place server pushes → oldest server pushes ≡ None
absent_there server [] h = refl
absent_there server (p ∷ ps) h = at_test (absent_there server ps) (p.server == server) h
  where
    at_test : (length ps ≤ place server ps → oldest server ps ≡ None) → (b : Bool) → suc (length ps) ≤ cond (not b) (1 + place server ps) 0
        → cond b (Some p.message) (oldest server ps) ≡ None
    at_test rest true e = absurd (omega (arith, e))
    at_test rest false e = rest (omega (arith, e))

pub within_at : (server : ℕ) (pushes : List WaitingPush) (at : ℕ) → position (λ p. p.server == server) pushes ≡ Some at → at < length pushes
within_at server pushes at e = grind (arith, common_steps)

-- the oldest push was taken out
pub taken_out : (server : ℕ) (pushes : List WaitingPush) (at : ℕ) (push : WaitingPush) → position (λ p. p.server == server) pushes ≡ Some at → push ≡ get_or pushes at push
    → (Some push.message ≡ oldest server pushes) × (remove pushes at ≡ without_oldest server pushes)
taken_out server pushes at push e is =
    let found : place server pushes ≡ at = grind (arith, common_steps) in
    let within : at < length pushes = within_at server pushes at e in
    let there = found_there server pushes (omega (arith, found, within)) push (is ∙ ap (λ (n : ℕ). get_or pushes n push) (sym found)) in
    (sym there.0, ap (λ (n : ℕ). remove pushes n) (sym found) ∙ sym there.1)

-- there was none
pub none_out : (server : ℕ) (pushes : List WaitingPush) → position (λ p. p.server == server) pushes ≡ None
    → (None ≡ oldest server pushes) × (pushes ≡ without_oldest server pushes)
none_out server pushes e =
    let past : length pushes ≤ place server pushes = grind (arith, common_steps) in
    let none = absent_there server pushes past in
    (sym none, sym (none_oldest server pushes none))

-- ---- a play of which nothing changed but what waits

pub record IsSamePlay (play play' : Play) : Type 0 where
  pub host : play'.host ≡ play.host
  pub stop : play'.stop ≡ play.stop
  pub opening : play'.opening ≡ play.opening
  pub local : play'.local ≡ play.local
  pub sent : play'.sent.items ≡ play.sent.items

same_play : (p : Progress) (play play' : Play) (servers : List Served) (pushes : List WaitingPush) → Mirrors p play servers → IsSamePlay play play' → play'.pushes.items ≡ pushes → ArePushed pushes
    → Mirrors (record p { pushes = pushes }) play' servers
same_play p play play' servers pushes m s items are = record {
  world = subst (λ h. MirrorsWorld (world_of p) (arrivals script_start p.events) h.agent.half play'.sent.items servers) (sym s.host)
      (subst (λ (rs : List SentReport). MirrorsWorld (world_of p) (arrivals script_start p.events) play.host.agent.half rs servers) (sym s.sent) m.world);
  image = ap (λ h. disk_bytes (memory_disk h.disk)) s.host ∙ m.image;
  stop = s.stop ∙ m.stop;
  local = s.local ∙ m.local ∙ ap (λ h. h.agent.half.local) (sym s.host);
  opening = s.opening ∙ m.opening;
  hosted = subst IsHosted (sym s.host) m.hosted;
  saves = let same : play'.host.agent.store.generation ≡ play.host.agent.store.generation = ap (λ h. h.agent.store.generation) s.host in omega (arith, m.saves, same);
  pushes = items;
  pushed = are;
  nobody = m.nobody;
}

-- ---- a server pushes

-- what a server pushes is what the world says
abbrev pub PushesDue : Type 0
PushesDue = (start : Start) (events : List Event) (server uid : List ℕ) → IsNeverFull start events server
    → pushed_from (start.profiles server) (table_of (arrivals start events server)) uid ≡ push_due (world start events) server uid

-- the entry held was sent there
abbrev pub HeldThere : Type 0
HeldThere = (start : Start) (events : List Event) (server uid : List ℕ) (e : Entry) → entry_held (world start events) server uid ≡ Some e
    → (start.server_of e.server ≡ server) × (e.uid ≡ uid)

due_is : PushesDue → HaveRoom → (number : ℕ) (play : Play) (servers : List Served) (server : Served) (p : Progress) → number < 10 → slice_get servers number ≡ Some server → Mirrors p play servers
    → pushed_from server.profile server.table play.host.agent.half.saved.uid ≡ push_due (world_of p) (endpoint_of number) (world_of p).agent.saved.uid
due_is due room number play servers server p digit at m =
    ap (λ s. pushed_from s.profile s.table play.host.agent.half.saved.uid) (server_was p play servers number server m digit at)
    ∙ ap (λ a. pushed_from lab_profile (table_of (arrivals script_start p.events (endpoint_of number))) a.saved.uid) m.world.agent_is
    ∙ due script_start p.events (endpoint_of number) (world_of p).agent.saved.uid (room script_start p.events (endpoint_of number) m.nobody)

own_uid : (p : Progress) (play : Play) (servers : List Served) → Mirrors p play servers → (world_of p).agent.saved.uid ≡ script_start.uid
own_uid p play servers m = ap (λ a. a.saved.uid) (sym m.world.agent_is) ∙ m.hosted.seated.agent.uid

push_is_reply : HeldThere → (p : Progress) (play : Play) (servers : List Served) (number : ℕ) (message : ServerToAgent) → Mirrors p play servers
    → push_due (world_of p) (endpoint_of number) (world_of p).agent.saved.uid ≡ Some message → IsReply message
push_is_reply there p play servers number message m is = by_entry (entry_in w.sent (w.held server uid)) refl is
  where
    w : World
    w = world_of p

    server : List ℕ
    server = endpoint_of number

    uid : List ℕ
    uid = w.agent.saved.uid

    waiting : Pending
    waiting = waiting_at w.sent (w.held server uid) uid

    offers : AreOffers (offers_at (w.held server uid))
    offers = m.world.offers_are server uid

    by_entry : (o : Option Entry) → entry_in w.sent (w.held server uid) ≡ o
        → pushed_if (w.profiles server) (option_map (record_at w.sent (told_at (w.held server uid))) o) waiting ≡ Some message → IsReply message
    by_entry None held it = absurd (none≢some it)
    by_entry (Some e) held it = subst IsReply (some_same it) (record {
      uid = (there script_start p.events server uid e held).1 ∙ own_uid p play servers m;
      given = refl;
      packages = none_due _ _ offers.packages;
      connection = connection_due _ _ offers.connection;
    })

abbrev push_of : ℕ → ServerToAgent → WaitingPush
push_of server message = record { server = server; message = message }

-- it waits for the agent
pub pushed_plays : PushesDue → HeldThere → HaveRoom → (number : ℕ) (play play' : Play) (servers : List Served) (server : Served) (message : ServerToAgent) → number < 10
    → slice_get servers number ≡ Some server → Some message ≡ pushed_from server.profile server.table play.host.agent.half.saved.uid
    → IsSamePlay play play' → play'.pushes.items ≡ play.pushes.items ++ push_of number message ∷ []
    → (p : Progress) → Mirrors p play servers → IsPlayed p (lines.Push number) play' servers (Pushed number)
pushed_plays due there room number play play' servers server message digit at found same items p m =
    let is = sym (found ∙ due_is due room number play servers server p digit at m) in
    let all = p.pushes ++ push_of number message ∷ [] in
    record {
      mirrors = subst (λ (o : Option ServerToAgent). Mirrors (record p { pushes = p.pushes ++ option_to_list (option_map (push_of number) o) }) play' servers) (sym is)
          (same_play p play play' servers all m same (items ∙ ap (λ ps. ps ++ push_of number message ∷ []) m.pushes)
          (pushed_push p.pushes (push_of number message ∷ []) m.pushed (push_is_reply there p play servers number message m is, tt)));
      written = ap (λ (o : Option ServerToAgent). cond (is_some o) (Pushed number) Nothing) (sym is);
    }

-- there is nothing to push
pub unpushed_plays : PushesDue → HaveRoom → (number : ℕ) (play : Play) (servers : List Served) (server : Served) → number < 10
    → slice_get servers number ≡ Some server → None ≡ pushed_from server.profile server.table play.host.agent.half.saved.uid
    → (p : Progress) → Mirrors p play servers → IsPlayed p (lines.Push number) play servers Nothing
unpushed_plays due room number play servers server digit at found p m =
    let is = sym (found ∙ due_is due room number play servers server p digit at m) in
    record {
      mirrors = subst (λ (o : Option ServerToAgent). Mirrors (record p { pushes = p.pushes ++ option_to_list (option_map (push_of number) o) }) play servers) (sym is)
          (same_play p play play servers (p.pushes ++ []) m (record { host = refl; stop = refl; opening = refl; local = refl; sent = refl }) (m.pushes ∙ sym (append_nothing p.pushes))
          (pushed_push p.pushes [] m.pushed tt));
      written = ap (λ (o : Option ServerToAgent). cond (is_some o) (Pushed number) Nothing) (sym is);
    }

-- ---- a push is taken

-- the push that waits for the agent, by what the play has
taken_is : (p : Progress) (play : Play) (servers : List Served) (number : ℕ) → Mirrors p play servers → play.host.agent.half.awaits ≡ true
    → endpoint_of number ≡ (target play.host.agent.half).endpoint → push_taken p ≡ oldest number play.pushes.items
taken_is p play servers number m awaits endpoint =
    sym (λ i. cond (m.world.agent_is i).awaits (oldest (target_server (m.world.agent_is i)) (m.pushes i)) None)
    ∙ ap (λ (b : Bool). cond b (oldest (target_server play.host.agent.half) play.pushes.items) None) awaits
    ∙ ap (λ n. oldest n play.pushes.items) (ap server_at (sym endpoint) ∙ server_is number)

-- none is
pub untaken_plays : (play play' : Play) → IsSamePlay play play' → play'.pushes.items ≡ play.pushes.items
    → (servers : List Served) (p : Progress) → Mirrors p play servers → push_taken p ≡ None → IsPlayed p lines.TakePush play' servers Nothing
untaken_plays play play' same items servers p m none = record {
  mirrors = subst (λ (o : Option ServerToAgent). Mirrors (takes_push p o) play' servers) (sym none)
      (mirrors_same p play' servers (same_play p play play' servers p.pushes m same (items ∙ m.pushes) m.pushed));
  written = ap (answered_line (world_of p).agent) (sym none);
}

pub idle_untaken : (p : Progress) (play : Play) (servers : List Served) → Mirrors p play servers → play.host.agent.half.awaits ≡ false → push_taken p ≡ None
idle_untaken p play servers m idle =
    ap (λ (b : Bool). cond b (oldest (target_server (world_of p).agent) p.pushes) None) (ap (λ a. a.awaits) (sym m.world.agent_is) ∙ idle)

pub absent_plays : (number : ℕ) (play play' : Play) → play.host.agent.half.awaits ≡ true → endpoint_of number ≡ (target play.host.agent.half).endpoint
    → IsSamePlay play play' → None ≡ oldest number play.pushes.items → play'.pushes.items ≡ without_oldest number play.pushes.items
    → (servers : List Served) (p : Progress) → Mirrors p play servers → IsPlayed p lines.TakePush play' servers Nothing
absent_plays number play play' awaits endpoint same none items servers p m =
    untaken_plays play play' same (items ∙ none_oldest number play.pushes.items (sym none)) servers p m (taken_is p play servers number m awaits endpoint ∙ sym none)

-- a play whose disk stops no call
pub record IsDisarmed (play mid : Play) : Type 0 where
  pub agent : mid.host.agent ≡ play.host.agent
  pub stage : stage_at mid.host ≡ record (stage_at play.host) { left = 0 }

-- the agent goes on by the push
pub took_plays : StopLaws → GoOn → ArriveOn → (number : ℕ) (play mid end : Play) (message : ServerToAgent) (written : Written) → IsDisarmed play mid
    → play.host.agent.half.awaits ≡ true → endpoint_of number ≡ (target play.host.agent.half).endpoint → Some message ≡ oldest number play.pushes.items
    → GoesOn mid.host end.host (calls_in mid.host.agent.half (Hears message no_reactions)) 4 → IsBeside play end → end.sent.items ≡ play.sent.items
    → written ≡ heard_line mid.host.agent.half message
    → end.pushes.items ≡ cond (not end.host.agent.half.awaits && (is_some mid.host.agent.half.trial || is_some end.host.agent.half.trial)) [] (without_oldest number play.pushes.items)
    → (servers : List Served) (p : Progress) → Mirrors p play servers → IsPlayed p lines.TakePush end servers written
took_plays laws worlds reach number play mid end message written d awaits endpoint found goes beside sent text pushes servers p m = record {
  mirrors = subst (λ (o : Option ServerToAgent). Mirrors (takes_push p o) end servers) (sym taken)
      (mirrors_next worlds reach p (whole_event rest (Took message no_reactions)) (Took message no_reactions) play end servers servers m (record {
        events = refl;
        world = subst (λ (rs : List SentReport). MirrorsWorld (after w (Took message no_reactions)) (reached_after w (arrivals script_start p.events) (Took message no_reactions)) end.host.agent.half rs servers)
            (sym sent) heard;
        image = sym (ap image_in passes);
        stop = beside.stop ∙ m.stop;
        local = beside.local ∙ m.local ∙ ap (λ a. a.half.local) (sym d.agent) ∙ sym goes.local;
        opening = beside.opening;
        hosted = goes.hosted;
        saves = let same : mid.host.agent.store.generation ≡ play.host.agent.store.generation = ap (λ a. a.store.generation) d.agent in omega (arith, goes.saves, same);
        pushes = pushes ∙ (λ i. cond ((moved half end.host.agent.half waits ∙ (λ j. moves_trial (now j) (heard.agent_is j))) i) [] ((ap (without_oldest number) m.pushes ∙ others) i));
        pushed = pushed_after (moves_trial w.agent (after w (Took message no_reactions)).agent) rest.pushes (others_pushed (target_server w.agent) p.pushes m.pushed);
        nobody = is.given;
      }));
  written = text ∙ ap (λ a. heard_line a message) now ∙ ap (λ (b : Bool). cond b (heard_line w.agent message) Nothing) (sym world_waits) ∙ ap (answered_line w.agent) (sym taken);
}
  where
    w : World
    w = world_of p

    half : AgentHalf
    half = mid.host.agent.half

    now : half ≡ w.agent
    now = ap (λ a. a.half) d.agent ∙ m.world.agent_is

    waits : half.awaits ≡ true
    waits = ap (λ a. a.half.awaits) d.agent ∙ awaits

    world_waits : w.agent.awaits ≡ true
    world_waits = ap (λ a. a.awaits) (sym now) ∙ waits

    taken : push_taken p ≡ Some message
    taken = taken_is p play servers number m awaits endpoint ∙ sym found

    others : without_oldest number p.pushes ≡ without_oldest (target_server w.agent) p.pushes
    others = ap (λ n. without_oldest n p.pushes) (sym (server_is number) ∙ ap server_at endpoint ∙ ap target_server m.world.agent_is)

    rest : Progress
    rest = record p { pushes = without_oldest (target_server w.agent) p.pushes }

    is : IsReply message
    is = oldest_is_reply number p.pushes message m.pushed (ap (oldest number) (sym m.pushes) ∙ sym found)

    to_it : bytes_eq message.instance_uid w.agent.saved.uid ≡ true
    to_it = (bytes_decides message.instance_uid w.agent.saved.uid).1 (is.uid ∙ sym (own_uid p play servers m))

    sees : seen_of w (Took message no_reactions) ≡ Some (Hears message no_reactions)
    sees = ap (λ (b : Bool). where_true b (Hears message no_reactions)) to_it

    before : MirrorsWorld w (arrivals script_start p.events) half play.sent.items servers
    before = subst (λ a. MirrorsWorld w (arrivals script_start p.events) a.half play.sent.items servers) (sym d.agent) m.world

    heard : MirrorsWorld (after w (Took message no_reactions)) (reached_after w (arrivals script_start p.events) (Took message no_reactions)) end.host.agent.half play.sent.items servers
    heard = world_took w (arrivals script_start p.events) half end.host.agent.half message play.sent.items servers before sees goes.half

    unarmed : Progress
    unarmed = record rest { stop = None }

    stage_is : stage_at mid.host ≡ record { half = w.agent; image = p.image; left = 0 }
    stage_is = d.stage ∙ (λ i. record { half = m.world.agent_is i; image = m.image i; left = 0 })

    passes : ends unarmed (Took message no_reactions) ≡ Passed (disk_bytes (memory_disk end.host.disk))
    passes = passes_by laws unarmed (Took message no_reactions) (Hears message no_reactions) end.host.agent.half (disk_bytes (memory_disk end.host.disk)) sees (laws.hears message)
        (sym (λ i. outcome LAYOUT Old (stage_is i) (calls_in (now i) (Hears message no_reactions)))
        ∙ goes_done laws mid.host end.host (calls_in half (Hears message no_reactions)) 4 goes Old)
