-- Lines that were played, from what their parts leave.
use Rattle.std.proofs.Common.{◌≡◌, ◌∙◌, ℕ, ◌-◌, ◌<◌, ◌≤◌, Bool, not, ◌&&◌, cond, arith, List, [], ◌∷◌, ◌++◌, length, set, Option, Some, None, slice_get, Result, Ok, Err, OnOk, ap, sym, subst, refl}
use Rattle.std.specs.Prelude.{IfOk, is_some, unwrap_or}
use Rattle.std.specs.Option.{option_map}
use Rattle.edge_devices.specs.declared.disk_calls.Mode.{Mode}
use Rattle.edge_devices.specs.Disks.{disk_bytes}
use Rattle.edge_devices.specs.MemoryDisks.{memory_disk}
use Rattle.message_values.specs.declared.reply.ServerToAgent.{ServerToAgent}
use Rattle.message_reports.specs.Reports.{canonical_report}
use Rattle.message_deltas.specs.Deltas.{whole_report}
use Rattle.server_core.specs.declared.rows.Record.{Record}
use Rattle.server_core.specs.History.{Reported, Offered as OfferMade, due_reply}
use Rattle.server_core.specs.declared.offers.Offer.{Offer}
use Rattle.server_core.specs.Offers.{fits_offer}
use Rattle.server_core.specs.Served.{Served}
use Rattle.server_core.specs.Table.{Table, find_record, is_held, table_after, table_reply}
use Rattle.agent_rules.specs.declared.rules.parts.LocalState.{LocalState}
use Rattle.agent_rules.specs.Reports.{Entry, message_of}
use Rattle.agent_rules.specs.Events.{GivesUp, agent_after}
use Rattle.world_model.specs.World.{World, Event, Changed, Delivered, GaveUp, Offered, ServerRestarted, Given, Start, after as after_event, asks_full, carrying, delivers, entry_held, record_held, record_in_world, record_at, entry_in, Holding, reply_at, stands, told_at, world}
use Rattle.world_model.specs.Servers.{arrivals, record_after_history, IsNeverFull, NamesNobody, NameNobody}
use Rattle.world_scripts.specs.declared.lines.Line.{Line}
use Rattle.world_scripts.specs.declared.lines.Line.TheVariants as lines
use Rattle.world_lab.specs.declared.plays.Play.{Play}
use Rattle.world_lab.specs.declared.plays.SentReport.{SentReport}
use Rattle.world_lab.specs.declared.written.Written.{Written}
use Rattle.world_lab.specs.declared.written.Written.TheVariants.{Nothing, Changed as ChangedLine, Held, InUse, Offered as OfferedLine, Emptied, Armed}
use Rattle.world_lab.specs.Playing.{Progress, after_line, endpoint_of, happens, nothing_given, script_start, with_event, world_of}
use Rattle.world_lab.specs.Transcripts.{delivered_line, given_up_line, offered_line, record_line, line_written}
use Rattle.world_lab.specs.Histories.{server_after}
use Rattle.world_lab.specs.Serving.{delivery_line, offer_line}
use Rattle.world_lab.specs.Storming.{first_number}
use Rattle.world_lab.specs.Mirrors.{IsHosted, Mirrors, MirrorsWorld, Plays}
use Rattle.world_lab.proofs.Sent.{IsAt, some_same, sent_at, sent_past, within_get}
use Rattle.world_lab.proofs.Numbers.{server_there}
use Rattle.world_lab.proofs.Mirroring.{GoOn, ArriveOn, IsNext, nobody_push, pushed_after, reached_after, mirrors_next, mirrors_same, world_given_up}
use Rattle.world_lab.proofs.Deliveries.{Follow, Reply, IsScriptOffer, replied, same_place, delivery_text, world_delivered, world_undelivered, world_emptied, world_offered}

-- two facts that hold where a call succeeds give a third one
pub where_ok : {T E : Type 0} {P Q R : Type 0} (r : Result T E) → (P → Q → R) → OnOk r P → OnOk r Q → OnOk r R
where_ok (Ok x) f p q = f p q
where_ok (Err e) f p q = tt

pub on_ok : {T E : Type 0} {P Q : Type 0} (r : Result T E) → (P → Q) → OnOk r P → OnOk r Q
on_ok (Ok x) f p = f p
on_ok (Err e) f p = tt

-- the same of the value
pub if_ok : {T E : Type 0} {P Q : T → Type 0} (r : Result T E) → ((x : T) → P x → Q x) → IfOk r P → IfOk r Q
if_ok (Ok x) f p = f x p
if_ok (Err e) f p = tt

pub if_both : {T E : Type 0} {A : Type 0} {P Q : T → Type 0} (r : Result T E) → ((x : T) → A → P x → Q x) → OnOk r A → IfOk r P → IfOk r Q
if_both (Ok x) f a p = f x a p
if_both (Err e) f a p = tt

pub if_all : {T E : Type 0} {A B : Type 0} {P Q : T → Type 0} (r : Result T E) → ((x : T) → A → B → P x → Q x) → OnOk r A → OnOk r B → IfOk r P → IfOk r Q
if_all (Ok x) f a b p = f x a b p
if_all (Err e) f a b p = tt

-- ---- local changes

-- a line that tells the agent something of itself
pub change_plays : (line : Line) (told : LocalState → LocalState)
    → ((p : Progress) → after_line p line ≡ happens p (Changed (told (world_of p).agent.local) ∷ []))
    → ((p : Progress) → line_written p line ≡ ChangedLine)
    → (play play' : Play) (now : LocalState) (written : Written) → now ≡ told play.local
    → ((p : Progress) (servers : List Served) → Mirrors p play servers → Mirrors (happens p (Changed now ∷ [])) play' servers)
    → written ≡ ChangedLine
    → (servers : List Served) → Plays line play servers play' servers written
change_plays line told does writes play play' now written now_is goes text servers p m =
    let local : play.local ≡ (world_of p).agent.local = m.local ∙ ap (λ a. a.local) m.world.agent_is in
    record {
      mirrors =
          subst (λ (q : Progress). Mirrors q play' servers)
          (ap (λ x. happens p (Changed x ∷ [])) (now_is ∙ ap told local) ∙ sym (does p))
          (goes p servers m);
      written = text ∙ sym (writes p);
    }

-- ---- replies

-- the awaited reply was given up, or none is awaited
pub given_up_plays : GoOn → ArriveOn → (play play' : Play) (written : Written)
    → play'.host.agent.half ≡ agent_after play.host.agent.half GivesUp → play'.host.agent.half.local ≡ play.host.agent.half.local
    → IsHosted play'.host → play'.host.agent.store ≡ play.host.agent.store → play'.host.disk ≡ play.host.disk → play'.stop ≡ play.stop → play'.opening ≡ play.opening
    → play'.local ≡ play.local → play'.sent.items ≡ play.sent.items → play'.pushes.items ≡ cond play.host.agent.half.awaits [] play.pushes.items
    → written ≡ given_up_line play.host.agent.half
    → (servers : List Served) → Plays lines.GiveUp play servers play' servers written
given_up_plays worlds reach play play' written step half_local hosted store disk stop opening local sent pushes text servers p m =
    let w = world_of p in
    let history = arrivals script_start p.events in
    record {
      mirrors = mirrors_next worlds reach p (with_event p GaveUp p.image p.stop) GaveUp play play' servers servers m (record {
        world = subst (λ (rs : List SentReport). MirrorsWorld (after_event w GaveUp) (reached_after w history GaveUp) play'.host.agent.half rs servers) (sym sent)
            (world_given_up w history play.host.agent.half play'.host.agent.half play.sent.items servers m.world step);
        events = refl;
        image = ap (λ d. disk_bytes (memory_disk d)) disk ∙ m.image;
        stop = stop ∙ m.stop;
        opening = opening;
        local = local ∙ m.local ∙ sym half_local;
        hosted = hosted;
        saves = let same : play'.host.agent.store.generation ≡ play.host.agent.store.generation = ap (λ s. s.generation) store in omega arith;
        pushes = pushes ∙ (λ i. cond (m.world.agent_is i).awaits [] (m.pushes i));
        pushed = pushed_after w.agent.awaits p.pushes m.pushed;
        nobody = tt;
      });
      written = text ∙ ap given_up_line m.world.agent_is;
    }

-- ---- servers

-- the reply recorded is the due one
abbrev pub Due : Type 0
Due = (start : Start) (events : List Event) (place : ℕ) (given : Given) (e : Entry)
    → slice_get (world start events).sent place ≡ Some e
    → IsNeverFull start (events ++ Delivered place given ∷ []) (start.server_of e.server)
    → (after_event (world start events) (Delivered place given)).replies place
    ≡ Some (carrying given.message (due_reply (start.profiles (start.server_of e.server)) (arrivals start events (start.server_of e.server)) (message_of e) given.fresh))

-- and it asks for the full state exactly where the entry doesn't stand there
abbrev pub Ask : Type 0
Ask = (start : Start) (events : List Event) (place : ℕ) (given : Given) (e : Entry)
    → slice_get (world start events).sent place ≡ Some e
    → option_map asks_full ((after_event (world start events) (Delivered place given)).replies place) ≡ Some (not (stands (world start events) place e))

-- no server is full
abbrev pub HaveRoom : Type 0
HaveRoom = (start : Start) (events : List Event) (server : List ℕ) → NameNobody events → IsNeverFull start events server

-- servers answer where they did
abbrev pub AnswerThere : Type 0
AnswerThere = (start : Start) (events : List Event) → (world start events).server_of ≡ start.server_of

-- what a delivery leaves, by the report and the server before it
pub record IsHandedOver (play play' : Play) (servers servers' : List Served) (place : ℕ) (r r' : SentReport) (server server' : Served) (reply : ServerToAgent) : Type 0 where
  pub report : slice_get play.sent.items place ≡ Some r
  pub server_is : slice_get servers r.server ≡ Some server
  pub reply_is : reply ≡ table_reply server.profile server.table r.message None
  pub kept : r' ≡ record r { reply = Some reply }
  pub table : server' ≡ record server { table = table_after server.table (Reported r.message) }
  pub host : play'.host ≡ play.host
  pub stop : play'.stop ≡ play.stop
  pub opening : play'.opening ≡ play.opening
  pub local : play'.local ≡ play.local
  pub sent : play'.sent.items ≡ set play.sent.items place r'
  pub pushes : play'.pushes.items ≡ play.pushes.items
  pub servers_are : servers' ≡ set servers r.server server'

-- the server of a report is there
pub report_server : (p : Progress) (play : Play) (servers : List Served) (place : ℕ) (r : SentReport) → Mirrors p play servers → slice_get play.sent.items place ≡ Some r → r.server < length servers
report_server p play servers place r m there =
    let at = sent_at play.sent.items (world_of p).sent place r m.world.sent_are there in
    let count : length servers ≡ 10 = ap length m.world.servers_are in
    omega (arith, at.is.digit, count)

-- a server is as the histories say
pub server_was : (p : Progress) (play : Play) (servers : List Served) (number : ℕ) (server : Served) → Mirrors p play servers → number < 10 → slice_get servers number ≡ Some server
    → server ≡ server_after (arrivals script_start p.events (endpoint_of number))
server_was p play servers number server m digit at =
    some_same (sym at ∙ ap (λ (ss : List Served). slice_get ss number) m.world.servers_are ∙ server_there (arrivals script_start p.events) number digit)

-- the agent stays on its host
stays : (p : Progress) (e : Event) (play play' : Play) (servers servers' : List Served) → Mirrors p play servers
    → play'.host ≡ play.host → play'.stop ≡ play.stop → play'.opening ≡ play.opening → play'.local ≡ play.local → play'.pushes.items ≡ play.pushes.items → NamesNobody e
    → MirrorsWorld (after_event (world_of p) e) (reached_after (world_of p) (arrivals script_start p.events) e) play.host.agent.half play'.sent.items servers'
    → IsNext p (happens p (e ∷ [])) e play play' servers'
stays p e play play' servers servers' m host stop opening local pushes nobody now = record {
  events = refl;
  world = subst (λ h. MirrorsWorld (after_event (world_of p) e) (reached_after (world_of p) (arrivals script_start p.events) e) h.agent.half play'.sent.items servers') (sym host) now;
  image = ap (λ h. disk_bytes (memory_disk h.disk)) host ∙ m.image;
  stop = stop ∙ m.stop;
  opening = opening;
  local = local ∙ m.local ∙ ap (λ h. h.agent.half.local) (sym host);
  hosted = subst IsHosted (sym host) m.hosted;
  saves = let same : play'.host.agent.store.generation ≡ play.host.agent.store.generation = ap (λ h. h.agent.store.generation) host in omega arith;
  pushes = pushes ∙ m.pushes;
  pushed = m.pushed;
  nobody = nobody;
}

-- the reply is recorded at the place
recorded_is : (w : World) (place : ℕ) (e : Entry) (reply : ServerToAgent) → slice_get w.sent place ≡ Some e → reply ≡ reply_at w place e nothing_given
    → (after_event w (Delivered place nothing_given)).replies place ≡ Some reply
recorded_is w place e reply at is =
    ap (λ (o : Option Entry). (delivers w place nothing_given o).replies place) at
    ∙ ap (λ (b : Bool). cond b (Some (reply_at w place e nothing_given)) (w.replies place)) (same_place place)
    ∙ ap (λ x. Some x) (sym is)

pub delivered_plays : GoOn → ArriveOn → AnswerThere → Follow → Reply → Due → Ask → HaveRoom → (report : ℕ) (play play' : Play) (servers servers' : List Served) (r r' : SentReport) (server server' : Served) (reply : ServerToAgent) (written : Written)
    → IsHandedOver play play' servers servers' (report - 1) r r' server server' reply
    → written ≡ delivery_line r reply
    → Plays (lines.Deliver report) play servers play' servers' written
delivered_plays worlds reach there follows replies due asks room report play play' servers servers' r r' server server' reply written hands text p m =
    let w = world_of p in
    let history = arrivals script_start p.events in
    let place = report - 1 in
    let at : IsAt w.sent place r = sent_at play.sent.items w.sent place r m.world.sent_are hands.report in
    let e = at.entry in
    let was = server_was p play servers r.server server m at.is.digit hands.server_is in
    let recorded = due script_start p.events place nothing_given e at.stands (room script_start (p.events ++ Delivered place nothing_given ∷ []) e.server (nobody_push p.events (Delivered place nothing_given) m.nobody tt)) in
    let reply_is : reply ≡ reply_at w place e nothing_given = replied replies w history place r e server reply at.is was hands.reply_is at.stands recorded in
    let now : (after_event w (Delivered place nothing_given)).replies place ≡ Some reply = recorded_is w place e reply at.stands reply_is in
    let flag : asks_full reply ≡ not (stands w place e) = some_same (ap (option_map asks_full) (sym now) ∙ asks script_start p.events place nothing_given e at.stands) in
    record {
      mirrors = mirrors_next worlds reach p (happens p (Delivered place nothing_given ∷ [])) (Delivered place nothing_given) play play' servers servers' m
          (stays p (Delivered place nothing_given) play play' servers servers' m hands.host hands.stop hands.opening hands.local hands.pushes tt
          (world_delivered w (there script_start p.events) follows history play.host.agent.half play.sent.items play'.sent.items servers servers' place r r' e server server' reply m.world at.stands at.is (within_get play.sent.items place r hands.report) reply_is hands.kept hands.sent was hands.table hands.servers_are));
      written = text ∙ delivery_text w place r e reply at.is flag ∙ ap (λ (o : Option Entry). delivered_line w place o) (sym at.stands);
    }

-- there is no such report
pub undelivered_plays : GoOn → ArriveOn → (report : ℕ) (play : Play) (servers : List Served)
    → length play.sent.items ≤ report - 1
    → Plays (lines.Deliver report) play servers play servers Nothing
undelivered_plays worlds reach report play servers past p m =
    let w = world_of p in
    let none : slice_get w.sent (report - 1) ≡ None = sent_past play.sent.items w.sent (report - 1) m.world.sent_are past in
    record {
      mirrors = mirrors_next worlds reach p (happens p (Delivered (report - 1) nothing_given ∷ [])) (Delivered (report - 1) nothing_given) play play servers servers m
          (stays p (Delivered (report - 1) nothing_given) play play servers servers m refl refl refl refl refl tt
          (world_undelivered w (arrivals script_start p.events) play.host.agent.half play.sent.items servers (report - 1) m.world none));
      written = ap (λ (o : Option Entry). delivered_line w (report - 1) o) (sym none);
    }

-- a server restarted
pub emptied_plays : GoOn → ArriveOn → (number : ℕ) (servers servers' : List Served) (server' : Served) → number < 10
    → server' ≡ server_after [] → servers' ≡ set servers number server'
    → (play : Play) → Plays (lines.ServerRestart number) play servers play servers' (Emptied number)
emptied_plays worlds reach number servers servers' server' digit fresh step play p m = record {
  mirrors = mirrors_next worlds reach p (happens p (ServerRestarted (endpoint_of number) ∷ [])) (ServerRestarted (endpoint_of number)) play play servers servers' m
      (stays p (ServerRestarted (endpoint_of number)) play play servers servers' m refl refl refl refl refl tt
      (world_emptied (world_of p) (arrivals script_start p.events) play.host.agent.half play.sent.items servers servers' number server' m.world digit fresh step));
  written = refl;
}

-- what a server that isn't full knows is the entry that it holds
abbrev pub Hold : Type 0
Hold = (start : Start) (events : List Event) (server uid : List ℕ) → IsNeverFull start events server
    → record_after_history (arrivals start events server) uid ≡ record_held (world start events) server uid

-- what was found at a server is the record of the entry held
pub found_is : Hold → HaveRoom → (number : ℕ) (play : Play) (servers : List Served) (server : Served) (p : Progress) → number < 10
    → slice_get servers number ≡ Some server → Mirrors p play servers
    → find_record server.table.records play.host.agent.half.saved.uid ≡ record_held (world_of p) (endpoint_of number) (world_of p).agent.saved.uid
found_is holds room number play servers server p digit at m =
    ap (λ s. find_record s.table.records play.host.agent.half.saved.uid) (server_was p play servers number server m digit at)
    ∙ ap (λ a. record_after_history (arrivals script_start p.events (endpoint_of number)) a.saved.uid) m.world.agent_is
    ∙ holds script_start p.events (endpoint_of number) (world_of p).agent.saved.uid (room script_start p.events (endpoint_of number) m.nobody)

-- the line of a record
abbrev pub line_of_record : ℕ → Option Record → Written
line_of_record number None = Nothing
line_of_record number (Some r) = Held number r.number (canonical_report (whole_report r.uid r.number r.state None))

record_written : (number : ℕ) (sent : List Entry) (found : Option Holding) → line_of_record number (record_in_world sent found) ≡ record_line number (entry_in sent found)
record_written number sent found = of_entry (entry_in sent found)
  where
    of_entry : (o : Option Entry) → line_of_record number (option_map (record_at sent (told_at found)) o) ≡ record_line number o
    of_entry None = refl
    of_entry (Some e) = refl

pub record_plays : Hold → HaveRoom → (number : ℕ) (play : Play) (servers : List Served) (server : Served) (found : Option Record) (written : Written) → number < 10
    → slice_get servers number ≡ Some server → found ≡ find_record server.table.records play.host.agent.half.saved.uid → written ≡ line_of_record number found
    → Plays (lines.Record number) play servers play servers written
record_plays holds room number play servers server found written digit at found_at text p m = record {
  mirrors = mirrors_same p play servers m;
  written =
      text
      ∙ ap (line_of_record number) (found_at ∙ found_is holds room number play servers server p digit at m)
      ∙ record_written number (world_of p).sent ((world_of p).held (endpoint_of number) (world_of p).agent.saved.uid);
}

-- the number of what the first server holds
pub number_held : Hold → HaveRoom → (play : Play) (servers : List Served) (server : Served) (found : Option Record) → slice_get servers 0 ≡ Some server
    → found ≡ find_record server.table.records play.host.agent.half.saved.uid
    → (p : Progress) → Mirrors p play servers → unwrap_or (option_map (λ r. r.number) found) 0 ≡ first_number (world_of p)
number_held holds room play servers server found at found_at p m =
    ap (λ (o : Option Record). unwrap_or (option_map (λ r. r.number) o) 0) (found_at ∙ found_is holds room 0 play servers server p (omega arith) at m)
    ∙ of_entry (entry_in (world_of p).sent ((world_of p).held (endpoint_of 0) (world_of p).agent.saved.uid))
  where
    of_entry : (o : Option Entry) → unwrap_or (option_map (λ r. r.number) (option_map (record_at (world_of p).sent (told_at ((world_of p).held (endpoint_of 0) (world_of p).agent.saved.uid))) o)) 0
        ≡ unwrap_or (option_map (λ e. e.number) o) 0
    of_entry None = refl
    of_entry (Some e) = refl

held_entry : (sent : List Entry) (found : Option Holding) → is_some (record_in_world sent found) ≡ is_some (entry_in sent found)
held_entry sent found = of_entry (entry_in sent found)
  where
    of_entry : (o : Option Entry) → is_some (option_map (record_at sent (told_at found)) o) ≡ is_some o
    of_entry None = refl
    of_entry (Some e) = refl

-- an offer was made at a server
pub offered_plays : GoOn → ArriveOn → Follow → Hold → HaveRoom → (line : Line) (number : ℕ) (offer : Offer) → IsScriptOffer offer
    → ((p : Progress) → after_line p line ≡ happens p (Offered (endpoint_of number) (world_of p).agent.saved.uid offer ∷ []))
    → ((p : Progress) → line_written p line ≡ offered_line (entry_held (world_of p) (endpoint_of number) (world_of p).agent.saved.uid) offer)
    → (play : Play) (servers servers' : List Served) (server server' : Served) (uid : List ℕ) (written : Written) → number < 10 → uid ≡ play.host.agent.half.saved.uid
    → slice_get servers number ≡ Some server → server' ≡ record server { table = table_after server.table (OfferMade uid offer) } → servers' ≡ set servers number server'
    → written ≡ offer_line (is_held server.table uid) offer
    → Plays line play servers play servers' written
offered_plays worlds reach follows holds room line number offer is does writes play servers servers' server server' uid written digit uid_is at step servers_are text p m =
    let w = world_of p in
    let history = arrivals script_start p.events in
    let same : uid ≡ w.agent.saved.uid = uid_is ∙ ap (λ a. a.saved.uid) m.world.agent_is in
    let was = server_was p play servers number server m digit at in
    let event = Offered (endpoint_of number) w.agent.saved.uid offer in
    let held : is_held server.table uid ≡ is_some (entry_held w (endpoint_of number) w.agent.saved.uid) =
    ap (λ (u : List ℕ). is_held server.table u) uid_is
    ∙ ap is_some (found_is holds room number play servers server p digit at m)
    ∙ held_entry w.sent (w.held (endpoint_of number) w.agent.saved.uid) in
    record {
      mirrors = subst (λ (q : Progress). Mirrors q play servers') (sym (does p))
          (mirrors_next worlds reach p (happens p (event ∷ [])) event play play servers servers' m
          (stays p event play play servers servers' m refl refl refl refl refl tt
          (world_offered follows w history play.host.agent.half play.sent.items servers servers' number w.agent.saved.uid offer server server' m.world digit is was
          (step ∙ ap (λ (u : List ℕ). with_table server (table_after server.table (OfferMade u offer))) same) servers_are (fits_offer offer))));
      written = text ∙ ap (λ (b : Bool). cond (b && fits_offer offer) OfferedLine Nothing) held ∙ sym (writes p);
    }
  where
    with_table : Served → Table → Served
    with_table s t = record s { table = t }

-- a line that says nothing here
pub nothing_plays : (line : Line) → ((p : Progress) → after_line p line ≡ happens p []) → ((p : Progress) → line_written p line ≡ Nothing)
    → (play : Play) (servers : List Served) → Plays line play servers play servers Nothing
nothing_plays line does writes play servers p m = record {
  mirrors = subst (λ (q : Progress). Mirrors q play servers) (sym (does p)) (mirrors_same p play servers m);
  written = sym (writes p);
}

-- a stop is armed
pub armed_plays : (call : ℕ) (mode : Mode) (play play' : Play) → play'.host ≡ play.host → play'.opening ≡ play.opening → play'.local ≡ play.local → play'.sent.items ≡ play.sent.items
    → play'.pushes.items ≡ play.pushes.items → play'.stop ≡ Some (record { call = call; mode = mode }) → (servers : List Served) → Plays (lines.Stop call mode) play servers play' servers Armed
armed_plays call mode play play' host opening local sent pushes stop servers p m = record {
  mirrors = record {
    world = subst (λ h. MirrorsWorld (world_of p) (arrivals script_start p.events) h.agent.half play'.sent.items servers) (sym host)
        (subst (λ (rs : List SentReport). MirrorsWorld (world_of p) (arrivals script_start p.events) play.host.agent.half rs servers) (sym sent) m.world);
    image = ap (λ h. disk_bytes (memory_disk h.disk)) host ∙ m.image;
    stop = stop;
    local = local ∙ m.local ∙ ap (λ h. h.agent.half.local) (sym host);
    opening = opening ∙ m.opening;
    hosted = subst IsHosted (sym host) m.hosted;
    saves = let same : play'.host.agent.store.generation ≡ play.host.agent.store.generation = ap (λ h. h.agent.store.generation) host in omega (arith, m.saves);
    pushes = pushes ∙ m.pushes;
    pushed = m.pushed;
    nobody = m.nobody;
  };
  written = refl;
}

pub active_plays : (play : Play) (written : Written) → written ≡ InUse play.host.agent.half.saved.settings.endpoint play.host.agent.half.saved.config.config_map
    → (servers : List Served) → Plays lines.Active play servers play servers written
active_plays play written text servers p m = record {
  mirrors = mirrors_same p play servers m;
  written = text ∙ ap (λ a. InUse a.saved.settings.endpoint a.saved.config.config_map) m.world.agent_is;
}
