-- What each event makes of a play that mirrors a world.
use Rattle.std.proofs.Common.{◌≡◌, ◌∙◌, ℕ, ◌+◌, ◌-◌, ◌≤◌, List, [], ◌∷◌, ◌++◌, length, length-append, Bool, true, false, cond, Option, Some, None, ap, sym, subst, refl, arith}
use Rattle.std.proofs.Math.Path.{fun_ext}
use Rattle.std.specs.Option.{option_map}
use Rattle.edge_devices.specs.Disks.{disk_bytes}
use Rattle.edge_devices.specs.MemoryDisks.{memory_disk}
use Rattle.message_values.specs.declared.reply.ServerToAgent.{ServerToAgent}
use Rattle.server_core.specs.Served.{Served}
use Rattle.server_core.specs.History.{Event as ServerEvent}
use Rattle.agent_rules.specs.declared.rules.parts.LocalState.{LocalState}
use Rattle.agent_rules.specs.Half.{AgentHalf, entry_of, restarted}
use Rattle.agent_rules.specs.Calls.{may_report, reported, changed}
use Rattle.agent_rules.specs.Events.{AgentEvent, Hears, GivesUp, Crashes, agent_after}
use Rattle.world_model.specs.World.{World, Event, Changed, Sent, Answered, Took, GaveUp, Crashed, Start, after, agent_follows, crash_of, no_reactions, reply_due, seen_of, sends, world}
use Rattle.world_model.specs.Servers.{arrived_after, arrivals, NamesNobody, NameNobody}
use Rattle.world_lab.specs.declared.plays.Play.{Play}
use Rattle.world_lab.specs.declared.plays.SentReport.{SentReport}
use Rattle.world_lab.specs.declared.plays.WaitingPush.{WaitingPush}
use Rattle.world_lab.specs.Playing.{Progress, happens, restart_of, script_start, world_of}
use Rattle.world_lab.specs.Mirrors.{IsHosted, IsSentAs, ArePushed, AreSent, Mirrors, MirrorsWorld, kept_at}
use Rattle.world_lab.proofs.Sent.{sent_push, sent_length, kept_push}

-- a run goes on event by event
abbrev pub GoOn : Type 0
GoOn = (start : Start) (events : List Event) (e : Event) → world start (events ++ e ∷ []) ≡ after (world start events) e

-- and so does what reaches a server
abbrev pub ArriveOn : Type 0
ArriveOn = (start : Start) (events : List Event) (e : Event) (server : List ℕ) → arrivals start (events ++ e ∷ []) server ≡ arrived_after server (world start events) (arrivals start events server) e

-- what has reached the servers after one more event
abbrev pub reached_after : World → (List ℕ → List ServerEvent) → Event → List ℕ → List ServerEvent
reached_after w history e server = arrived_after server w (history server) e

-- the mirror of the world after one more event is that of the run with that event
next_world : GoOn → ArriveOn → (events : List Event) (e : Event) (half : AgentHalf) (sent : List SentReport) (servers : List Served)
    → MirrorsWorld (after (world script_start events) e) (reached_after (world script_start events) (arrivals script_start events) e) half sent servers
    → MirrorsWorld (world script_start (events ++ e ∷ [])) (arrivals script_start (events ++ e ∷ [])) half sent servers
next_world worlds reach events e half sent servers m =
    subst (λ w. MirrorsWorld w (arrivals script_start (events ++ e ∷ [])) half sent servers) (sym (worlds script_start events e))
    (subst (λ history. MirrorsWorld (after (world script_start events) e) history half sent servers) (sym (fun_ext (λ server. reach script_start events e server))) m)

-- what a play is after one event more
pub record IsNext (p q : Progress) (e : Event) (old new : Play) (servers : List Served) : Type 0 where
  pub events : q.events ≡ p.events ++ e ∷ []
  pub world : MirrorsWorld (after (world_of p) e) (reached_after (world_of p) (arrivals script_start p.events) e) new.host.agent.half new.sent.items servers
  pub image : disk_bytes (memory_disk new.host.disk) ≡ q.image
  pub stop : new.stop ≡ q.stop
  pub local : new.local ≡ new.host.agent.half.local
  pub opening : new.opening ≡ old.opening
  pub hosted : IsHosted new.host
  pub saves : new.host.agent.store.generation ≤ old.host.agent.store.generation + 4
  pub pushes : new.pushes.items ≡ q.pushes
  pub pushed : ArePushed q.pushes
  pub nobody : NamesNobody e

-- what waits is pushed still
pub pushed_after : (drops : Bool) (pushes : List WaitingPush) → ArePushed pushes → ArePushed (cond drops [] pushes)
pushed_after true pushes are = tt
pushed_after false pushes are = are

-- no message of one more event gives an identifier
pub nobody_push : (events : List Event) (e : Event) → NameNobody events → NamesNobody e → NameNobody (events ++ e ∷ [])
nobody_push [] e all is = (is, tt)
nobody_push (x ∷ xs) e all is = (all.0, nobody_push xs e all.1 is)

pub mirrors_next : GoOn → ArriveOn → (p q : Progress) (e : Event) (old new : Play) (before servers : List Served)
    → Mirrors p old before → IsNext p q e old new servers → Mirrors q new servers
mirrors_next worlds reach p q e old new before servers m n = record {
  world = subst (λ (es : List Event). MirrorsWorld (world script_start es) (arrivals script_start es) new.host.agent.half new.sent.items servers) (sym n.events)
      (next_world worlds reach p.events e new.host.agent.half new.sent.items servers n.world);
  image = n.image;
  stop = n.stop;
  local = n.local;
  opening = n.opening ∙ m.opening;
  hosted = n.hosted;
  saves = let one_more : length q.events ≡ length p.events + 1 = ap length n.events ∙ length-append p.events (e ∷ []) in omega (arith, one_more, m.saves, n.saves);
  pushes = n.pushes;
  pushed = n.pushed;
  nobody = subst NameNobody (sym n.events) (nobody_push p.events e m.nobody n.nobody);
}

append_nothing : (xs : List Event) → xs ++ [] ≡ xs
append_nothing [] = refl
append_nothing (x ∷ xs) = ap (λ ys. x ∷ ys) (append_nothing xs)

-- no event
pub mirrors_same : (p : Progress) (play : Play) (servers : List Served) → Mirrors p play servers → Mirrors (happens p []) play servers
mirrors_same p play servers m = subst (λ (es : List Event). Mirrors (record p { events = es }) play servers) (sym (append_nothing p.events)) m

-- the agent is told of itself
pub world_changed : (w : World) (history : List ℕ → List ServerEvent) (a a' : AgentHalf) (l : LocalState) (sent : List SentReport) (servers : List Served)
    → MirrorsWorld w history a sent servers → a' ≡ changed l a
    → MirrorsWorld (after w (Changed l)) (reached_after w history (Changed l)) a' sent servers
world_changed w history a a' l sent servers m step = record {
  agent_is = step ∙ ap (λ x. changed l x) m.agent_is;
  sent_are = m.sent_are;
  replies_are = m.replies_are;
  offers_are = m.offers_are;
  servers_are = m.servers_are;
}

-- a report is sent
pub world_sent : (w : World) (history : List ℕ → List ServerEvent) (a a' : AgentHalf) (sent sent' : List SentReport) (servers : List Served) (r : SentReport)
    → MirrorsWorld w history a sent servers → may_report a ≡ true → a' ≡ reported a → IsSentAs r (entry_of a) → r.reply ≡ None → sent' ≡ sent ++ r ∷ []
    → MirrorsWorld (after w Sent) (reached_after w history Sent) a' sent' servers
world_sent w history a a' sent sent' servers r m may step is none kept =
    subst (λ (b : Bool). MirrorsWorld (cond b (sends w) w) history a' sent' servers) (sym (ap may_report (sym m.agent_is) ∙ may)) (record {
      agent_is = step ∙ ap reported m.agent_is;
      sent_are = subst (λ (rs : List SentReport). AreSent rs (w.sent ++ entry_of w.agent ∷ [])) (sym kept) (sent_push sent w.sent r (entry_of w.agent) m.sent_are (subst (λ x. IsSentAs r (entry_of x)) m.agent_is is));
      replies_are = λ place. ap (λ (rs : List SentReport). kept_at rs place) kept ∙ kept_push sent r place none ∙ m.replies_are place;
      offers_are = m.offers_are;
      servers_are = m.servers_are;
    })

-- no report is sent
pub world_unsent : (w : World) (history : List ℕ → List ServerEvent) (a a' : AgentHalf) (sent : List SentReport) (servers : List Served)
    → MirrorsWorld w history a sent servers → may_report a ≡ false → a' ≡ a
    → MirrorsWorld (after w Sent) (reached_after w history Sent) a' sent servers
world_unsent w history a a' sent servers m may same =
    subst (λ (b : Bool). MirrorsWorld (cond b (sends w) w) history a' sent servers) (sym (ap may_report (sym m.agent_is) ∙ may))
    (subst (λ x. MirrorsWorld w history x sent servers) (sym same) m)

-- the reply that is due is that which was kept of the last report
pub due_is_kept : (w : World) (history : List ℕ → List ServerEvent) (a : AgentHalf) (sent : List SentReport) (servers : List Served)
    → MirrorsWorld w history a sent servers → reply_due w ≡ kept_at sent (length sent - 1)
due_is_kept w history a sent servers m =
    sym (m.replies_are (length w.sent - 1)) ∙ ap (λ (n : ℕ). kept_at sent (n - 1)) (sym (sent_length sent w.sent m.sent_are))

-- the agent goes on by a reply that was kept, or by none
pub world_heard : (w : World) (history : List ℕ → List ServerEvent) (a a' : AgentHalf) (sent : List SentReport) (servers : List Served)
    → MirrorsWorld w history a sent servers
    → a' ≡ agent_follows a (option_map (λ reply. Hears reply no_reactions) (kept_at sent (length sent - 1)))
    → MirrorsWorld (after w (Answered no_reactions)) (reached_after w history (Answered no_reactions)) a' sent servers
world_heard w history a a' sent servers m step = record {
  agent_is =
      step
      ∙ ap (λ x. agent_follows x (option_map (λ reply. Hears reply no_reactions) (kept_at sent (length sent - 1)))) m.agent_is
      ∙ ap (λ (o : Option ServerToAgent). agent_follows w.agent (option_map (λ reply. Hears reply no_reactions) o)) (sym (due_is_kept w history a sent servers m));
  sent_are = m.sent_are;
  replies_are = m.replies_are;
  offers_are = m.offers_are;
  servers_are = m.servers_are;
}

-- the awaited reply is given up, where one is awaited
pub world_given_up : (w : World) (history : List ℕ → List ServerEvent) (a a' : AgentHalf) (sent : List SentReport) (servers : List Served)
    → MirrorsWorld w history a sent servers → a' ≡ agent_after a GivesUp
    → MirrorsWorld (after w GaveUp) (reached_after w history GaveUp) a' sent servers
world_given_up w history a a' sent servers m step = record {
  agent_is = step ∙ ap (λ x. agent_after x GivesUp) m.agent_is;
  sent_are = m.sent_are;
  replies_are = m.replies_are;
  offers_are = m.offers_are;
  servers_are = m.servers_are;
}

-- the agent starts again
pub world_restarted : (w : World) (history : List ℕ → List ServerEvent) (a a' : AgentHalf) (sent : List SentReport) (servers : List Served)
    → MirrorsWorld w history a sent servers → a' ≡ restarted a
    → MirrorsWorld (after w (restart_of w.agent)) (reached_after w history (restart_of w.agent)) a' sent servers
world_restarted w history a a' sent servers m step = record {
  agent_is = step ∙ ap restarted m.agent_is;
  sent_are = m.sent_are;
  replies_are = m.replies_are;
  offers_are = m.offers_are;
  servers_are = m.servers_are;
}

-- a message that came unasked is taken for the reply
pub world_took : (w : World) (history : List ℕ → List ServerEvent) (a a' : AgentHalf) (message : ServerToAgent) (sent : List SentReport) (servers : List Served)
    → MirrorsWorld w history a sent servers → seen_of w (Took message no_reactions) ≡ Some (Hears message no_reactions) → a' ≡ agent_after a (Hears message no_reactions)
    → MirrorsWorld (after w (Took message no_reactions)) (reached_after w history (Took message no_reactions)) a' sent servers
world_took w history a a' message sent servers m sees step = record {
  agent_is = step ∙ ap (λ x. agent_after x (Hears message no_reactions)) m.agent_is ∙ sym (ap (agent_follows w.agent) sees);
  sent_are = m.sent_are;
  replies_are = m.replies_are;
  offers_are = m.offers_are;
  servers_are = m.servers_are;
}

-- it stops in an event that it sees, and starts again
pub world_crashed : (w : World) (history : List ℕ → List ServerEvent) (a a' : AgentHalf) (e : Event) (seen : AgentEvent) (saves : ℕ) (sent : List SentReport) (servers : List Served)
    → MirrorsWorld w history a sent servers → seen_of w e ≡ Some seen → agent_after w.agent (Crashes seen saves) ≡ a'
    → MirrorsWorld (after w (Crashed e saves)) (reached_after w history (Crashed e saves)) a' sent servers
world_crashed w history a a' e seen saves sent servers m sees step = record {
  agent_is = sym (ap (λ (o : Option AgentEvent). agent_after w.agent (crash_of w.agent o saves)) sees ∙ step);
  sent_are = m.sent_are;
  replies_are = m.replies_are;
  offers_are = m.offers_are;
  servers_are = m.servers_are;
}
