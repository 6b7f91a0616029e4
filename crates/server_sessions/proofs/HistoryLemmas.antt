-- A session keeps the table of its history.
use Rattle.std.proofs.Common.{◌≡◌, ℕ, List, [], ◌∷◌, ◌++◌, Bool, true, false, not, ◌&&◌, if◌then◌else◌, Option, None, Some, MatchBool, MatchOption, IsTrue, refl, sym, ap, ◌∙◌, append_assoc, append-nil, ◌⊎◌, inl, inr, fold}
use Rattle.std.specs.Str.{bytes_eq}
use Rattle.message_values.specs.declared.report.AgentToServer.{AgentToServer}
use Rattle.message_values.specs.declared.reply.ServerToAgent.{ServerToAgent}
use Rattle.edge_devices.specs.declared.wires.Kind.{Kind}
use Rattle.edge_devices.specs.declared.wires.Given.{Given}
use Rattle.edge_devices.specs.declared.wires.WireEvent.{WireEvent}
use Rattle.edge_devices.specs.declared.wires.WireEvent.TheVariants as event
use Rattle.edge_http.specs.declared.messages.HttpMessage.{HttpMessage}
use Rattle.edge_http.specs.Writing.{response_text}
use Rattle.message_replies.specs.Header.{payload_of}
use Rattle.server_core.specs.declared.replies.Profile.{Profile}
use Rattle.server_core.specs.History.{Event, Reported, Forgotten, Offered, Ordered, Withdrawn, reply_within}
use Rattle.server_core.specs.declared.offers.Offer.{Offer}
use Rattle.server_core.specs.Offers.{fits_offer}
use Rattle.server_core.specs.Table.{Table, is_held, table_after, table_within, table_reply}
use Rattle.server_lines.specs.declared.orders.Action.TheVariants as action
use Rattle.server_lines.specs.declared.orders.Order.{Order}
use Rattle.server_lines.specs.declared.orders.Order.TheVariants as order
use Rattle.server_lines.specs.Answers.{Fleet, RunsOrder, answer_to_offer, answer_to_order, answer_where_held, no_memory, ok_line, table_after_order, too_large, unknown_agent, wants_memory}
use Rattle.server_lines.specs.Orders.{events_of}
use Rattle.server_sessions.specs.declared.answers.stepped.Entry.{Entry}
use Rattle.server_sessions.specs.declared.answers.stepped.Handled.{Handled}
use Rattle.server_sessions.specs.Answers.{Sheet, Answer, fleet_in, AnswersPayload, AnswersLine, Answers, HalfRuns, HalfHandles, Gets}
use Rattle.server_sessions.specs.Reports.{Host, Intake, HalfReads, Replies, carrying, intake_in, reply_at, table_with}
use Rattle.server_sessions.specs.Requests.{AnswersBody, AnswersRequest, refusal_of}
use Rattle.server_lines.specs.Sights.{Seen, Sight, numbers_in, sight_of}
use Rattle.server_sessions.specs.Session.{Scene, Ending, ServesAll, Moment, SessionState, Standing, Does, Turn, ServerSession, after_piece, moment_of, seen_at, stream_at}
use Rattle.server_sessions.specs.Streams.{Stream, Item, Payload, Line, LongLine, Partial, Request, Broken, Unread, Brings}
use Rattle.server_sessions.specs.Histories.{ordered_in, taken_in, half_read_in, half_ran_in, half_in, payload_in, body_in, line_in, answered_in, item_in, items_in, event_in, turn_in, history_in, passed_in, goes_on_in, stream_in, stopped_in}
use Rattle.server_sessions.specs.Connections.{conn_of, ended_at}
use Rattle.server_sessions.specs.Sessions.{Following, Offering, OffersBy, Place, SessionBy, TurnBy, history_by}

-- The table before is that of this history, so that afterwards is that of the history with these events behind it, for as many agents
-- at most.
abbrev Keeps : Table → Table → List Event → Type 0
Keeps old new events = (limit : ℕ) (history : List Event) → old ≡ table_within limit history → new ≡ table_within limit (history ++ events)

keeps_none : (old new : Table) → new ≡ old → Keeps old new []
keeps_none old new same limit history is = same ∙ is ∙ ap (table_within limit) (sym (append-nil history))

keeps_more : (a b c : Table) (xs ys : List Event) → Keeps a b xs → Keeps b c ys → Keeps a c (xs ++ ys)
keeps_more a b c xs ys p q limit history is = q limit (history ++ xs) (p limit history is) ∙ ap (table_within limit) (append_assoc history xs ys)

module _ (follows : (limit : ℕ) (history : List Event) (e : Event) → table_after (table_within limit history) e ≡ table_within limit (history ++ e ∷ [])) where
  keeps_event : (old new : Table) (e : Event) → new ≡ table_after old e → Keeps old new (e ∷ [])
  keeps_event old new e after limit history is = after ∙ ap (λ (t : Table). table_after t e) is ∙ follows limit history e

  keeps_report : (old new : Table) (m : AgentToServer) → new ≡ table_with old m → Keeps old new (Reported m ∷ [])
  unfolding table_with
  keeps_report old new m after = keeps_event old new (Reported m) after

  -- what an order's text says of its event
  keeps_offer : (old new : Table) (uid : List ℕ) (offer : Offer) → new ≡ table_after old (Offered uid offer)
      → Keeps old new (if bytes_eq (answer_to_offer old uid offer) ok_line then Offered uid offer ∷ [] else [])
  unfolding answer_to_offer
  keeps_offer old new uid offer after = by_answer (is_held old uid) (fits_offer offer) refl refl
    where
      by_answer : (held fits : Bool) → is_held old uid ≡ held → fits_offer offer ≡ fits
          → Keeps old new (if bytes_eq (if held then (if fits then ok_line else too_large) else unknown_agent) ok_line then Offered uid offer ∷ [] else [])
      by_answer true true h f = keeps_event old new (Offered uid offer) after
      by_answer true false h f = keeps_none old new (rw (h, f) at after)
      by_answer false fits h f = keeps_none old new (rw h at after)

  keeps_restart : (old new : Table) (uid : List ℕ) → new ≡ table_after old (Ordered uid)
      → Keeps old new (if bytes_eq (answer_where_held old uid) ok_line then Ordered uid ∷ [] else [])
  unfolding answer_where_held
  keeps_restart old new uid after = by_answer (is_held old uid) refl
    where
      by_answer : (held : Bool) → is_held old uid ≡ held → Keeps old new (if bytes_eq (if held then ok_line else unknown_agent) ok_line then Ordered uid ∷ [] else [])
      by_answer true h = keeps_event old new (Ordered uid) after
      by_answer false h = keeps_none old new (rw h at after)

  keeps_withdrawn : (old new : Table) (uid : List ℕ) → new ≡ table_after old (Withdrawn uid)
      → Keeps old new (if bytes_eq (answer_where_held old uid) ok_line then Withdrawn uid ∷ [] else [])
  unfolding answer_where_held
  keeps_withdrawn old new uid after = by_answer (is_held old uid) refl
    where
      by_answer : (held : Bool) → is_held old uid ≡ held → Keeps old new (if bytes_eq (if held then ok_line else unknown_agent) ok_line then Withdrawn uid ∷ [] else [])
      by_answer true h = keeps_event old new (Withdrawn uid) after
      by_answer false h = keeps_none old new (rw h at after)

  -- events one after the other
  keeps_offers : (events : List Event) (old new : Table) → new ≡ fold table_after old events → Keeps old new events
  keeps_offers [] old new is = keeps_none old new is
  keeps_offers (e ∷ events) old new is =
      keeps_more old (table_after old e) new (e ∷ []) events (keeps_event old (table_after old e) e refl) (keeps_offers events (table_after old e) new is)

  keeps_told : (sight : Sight) (o : Order) (old new : Fleet) → new.table ≡ table_after_order old.table o → Keeps old.table new.table (ordered_in old.table o (answer_to_order sight old o))
  keeps_told sight (order.Ask asked) old new after = keeps_none old.table new.table after
  keeps_told sight (order.Act uid (action.Offer offer)) old new after = keeps_offer old.table new.table uid offer after
  keeps_told sight (order.Act uid action.Restart) old new after = keeps_restart old.table new.table uid after
  keeps_told sight (order.Act uid action.Withdraw) old new after = keeps_withdrawn old.table new.table uid after
  keeps_told sight (order.Act uid action.Forget) old new after = keeps_event old.table new.table (Forgotten uid) after
  keeps_told sight (order.Steer id done) old new after = keeps_none old.table new.table after
  keeps_told sight order.ForgetLeft old new after = keeps_offers (events_of old.table order.ForgetLeft) old.table new.table after
  keeps_told sight order.Stop old new after = keeps_none old.table new.table after

  -- an order for which memory is wanting
  keeps_refused : (o : Order) (old new : Fleet) (text : List ℕ) → IsTrue (wants_memory old o) → text ≡ no_memory → new ≡ old → Keeps old.table new.table (ordered_in old.table o text)
  keeps_refused (order.Ask asked) old new text wants is same = absurd (cc wants)
  keeps_refused (order.Act uid (action.Offer offer)) old new text wants is same = rw is (keeps_none old.table new.table (ap (λ (f : Fleet). f.table) same))
  keeps_refused (order.Act uid action.Restart) old new text wants is same = absurd (cc wants)
  keeps_refused (order.Act uid action.Withdraw) old new text wants is same = absurd (cc wants)
  keeps_refused (order.Act uid action.Forget) old new text wants is same = absurd (cc wants)
  keeps_refused (order.Steer id done) old new text wants is same = keeps_none old.table new.table (ap (λ (f : Fleet). f.table) same)
  keeps_refused order.ForgetLeft old new text wants is same = absurd (cc wants)
  keeps_refused order.Stop old new text wants is same = absurd (cc wants)

  keeps_order : (sight : Sight) (o : Order) (old new : Fleet) (text : List ℕ) → RunsOrder sight old o text new → Keeps old.table new.table (ordered_in old.table o text)
  unfolding RunsOrder
  keeps_order sight o old new text (inl p) = rw p.0 (keeps_told sight o old new p.1)
  keeps_order sight o old new text (inr p) = keeps_refused o old new text p.0 p.1 p.2

  keeps_half_ran : (line : List ℕ) (sight : Sight) (old new : Fleet) (p : HalfRuns line sight old new) → Keeps old.table new.table (half_ran_in line sight old new p)
  keeps_half_ran line sight old new (inl same) = keeps_none old.table new.table (ap (λ (f : Fleet). f.table) same)
  keeps_half_ran line sight old new (inr ran) = keeps_order sight ran.0 old new ran.1 ran.3

  keeps_taken : (m : AgentToServer) (old new : Intake) (p : (new.table ≡ old.table) ⊎ (new.table ≡ table_with old.table m)) → Keeps old.table new.table (taken_in m p)
  keeps_taken m old new (inl same) = keeps_none old.table new.table same
  keeps_taken m old new (inr taken) = keeps_report old.table new.table m taken

  keeps_half_read : (bytes : List ℕ) (old new : Intake) (p : HalfReads bytes old new) → Keeps old.table new.table (half_read_in bytes old new p)
  keeps_half_read bytes old new (inl same) = keeps_none old.table new.table (ap (λ (d : Intake). d.table) same)
  keeps_half_read bytes old new (inr read) = keeps_taken read.0 old new read.2.table

  keeps_half : (conn : ℕ) (item : Item) (old new : Sheet) (p : HalfHandles conn item old new) → Keeps old.desk.table new.desk.table (half_in conn item old new p)
  keeps_half conn (Payload bytes) old new p = keeps_half_read (payload_of bytes) (intake_in old.desk) (intake_in new.desk) p.0
  keeps_half conn (Line line sight) old new p = keeps_half_ran line sight (fleet_in old.desk) (fleet_in new.desk) p.0
  keeps_half conn LongLine old new p = keeps_none old.desk.table new.desk.table (ap (λ (s : Sheet). s.desk.table) p)
  keeps_half conn Partial old new p = keeps_none old.desk.table new.desk.table (ap (λ (s : Sheet). s.desk.table) p)
  keeps_half conn (Request m) old new p = by_refusal (refusal_of m) p.0
    where
      by_refusal : (o : Option ℕ) (q : MatchOption o (HalfReads m.body (intake_in old.desk) (intake_in new.desk)) (λ status. intake_in new.desk ≡ intake_in old.desk))
          → Keeps old.desk.table new.desk.table (passed_in _ _ (half_read_in m.body (intake_in old.desk) (intake_in new.desk)) o q)
      by_refusal None q = keeps_half_read m.body (intake_in old.desk) (intake_in new.desk) q
      by_refusal (Some status) q = keeps_none old.desk.table new.desk.table (ap (λ (d : Intake). d.table) q)
  keeps_half conn (Broken why) old new p = keeps_none old.desk.table new.desk.table (ap (λ (s : Sheet). s.desk.table) p)
  keeps_half conn Unread old new p = keeps_none old.desk.table new.desk.table (ap (λ (s : Sheet). s.desk.table) p)

  module _ (host : Host) (conn : ℕ) where
    keeps_payload : (bytes : List ℕ) (old new : Intake) (handled noted : List Handled) (answer : List ℕ) (p : AnswersPayload host conn bytes old new handled noted answer)
        → Keeps old.table new.table (payload_in host conn bytes old new handled noted answer p)
    keeps_payload bytes old new handled noted answer (inl none) = keeps_none old.table new.table (ap (λ (d : Intake). d.table) none.1)
    keeps_payload bytes old new handled noted answer (inr read) = keeps_report old.table new.table read.0 read.2.1.table

    keeps_body : (bytes : List ℕ) (closes : Bool) (old new : Intake) (handled noted : List Handled) (answer : List ℕ) (p : AnswersBody host conn bytes closes old new handled noted answer)
        → Keeps old.table new.table (body_in host conn bytes closes old new handled noted answer p)
    keeps_body bytes closes old new handled noted answer (inl none) = keeps_none old.table new.table (ap (λ (d : Intake). d.table) none.1)
    keeps_body bytes closes old new handled noted answer (inr read) = keeps_report old.table new.table read.0 read.2.1.table

    keeps_request : (m : HttpMessage) (old new : Intake) (handled noted : List Handled) (answer : List ℕ) (p : AnswersRequest host conn m old new handled noted answer)
        → Keeps old.table new.table (passed_in _ _ (body_in host conn m.body m.close old new handled noted answer) (refusal_of m) p)
    keeps_request m old new handled noted answer p = by_refusal (refusal_of m) p
      where
        by_refusal : (o : Option ℕ)
            (q : MatchOption o (AnswersBody host conn m.body m.close old new handled noted answer) (λ status. (new ≡ old) × (noted ≡ handled) × (answer ≡ response_text status [] m.close)))
            → Keeps old.table new.table (passed_in _ _ (body_in host conn m.body m.close old new handled noted answer) o q)
        by_refusal None q = keeps_body m.body m.close old new handled noted answer q
        by_refusal (Some status) q = keeps_none old.table new.table (ap (λ (d : Intake). d.table) q.0)

    keeps_line : (line : List ℕ) (sight : Sight) (old new : Fleet) (ordered noted : List (List ℕ)) (entries told : List Entry) (answer : List ℕ) (stop : Bool) (p : AnswersLine conn line sight old new ordered noted entries told answer stop)
        → Keeps old.table new.table (line_in host conn line sight old new ordered noted entries told answer stop p)
    keeps_line line sight old new ordered noted entries told answer stop (inl none) = keeps_none old.table new.table (ap (λ (f : Fleet). f.table) none.1)
    keeps_line line sight old new ordered noted entries told answer stop (inr ran) = keeps_order sight ran.0 old new answer ran.2

    keeps_answered : (item : Item) (old new : Sheet) (answer : Answer) (p : Answers host conn item old new answer) → Keeps old.desk.table new.desk.table (answered_in host conn item old new answer p)
    keeps_answered (Payload bytes) old new answer p = keeps_payload bytes (intake_in old.desk) (intake_in new.desk) old.handled new.handled p.0 p.1
    keeps_answered (Line line sight) old new answer p = keeps_line line sight (fleet_in old.desk) (fleet_in new.desk) old.ordered new.ordered old.entries new.entries p.0 p.1 p.2
    keeps_answered LongLine old new answer p = keeps_none old.desk.table new.desk.table (ap (λ (s : Sheet). s.desk.table) p.0)
    keeps_answered Partial old new answer p = keeps_none old.desk.table new.desk.table (ap (λ (s : Sheet). s.desk.table) p.0)
    keeps_answered (Request m) old new answer p = keeps_request m (intake_in old.desk) (intake_in new.desk) old.handled new.handled p.0 p.1
    keeps_answered (Broken why) old new answer p = keeps_none old.desk.table new.desk.table (ap (λ (s : Sheet). s.desk.table) p.0)
    keeps_answered Unread old new answer p = absurd p

    keeps_item : (kind : Kind) (item : Item) (old new : Sheet) (answer : Answer) (p : Gets host kind conn item old new answer) → Keeps old.desk.table new.desk.table (item_in host conn kind item old new answer p)
    keeps_item kind item old new answer (inl answered) = keeps_answered item old new answer answered
    keeps_item kind item old new answer (inr half) = keeps_half conn item old new half.0

    pub keeps_items : (kind : Kind) (items : List Item) (old new : Scene) (end : Ending) (p : ServesAll host kind conn items old new end)
        → Keeps old.sheet.desk.table new.sheet.desk.table (items_in host conn kind items old new end p)
    keeps_items kind [] old new end p = keeps_none old.sheet.desk.table new.sheet.desk.table (ap (λ (s : Scene). s.sheet.desk.table) p.0)
    keeps_items kind (item ∷ items) old new end p =
        keeps_more old.sheet.desk.table p.0.sheet.desk.table new.sheet.desk.table
        (item_in host conn kind item old.sheet p.0.sheet p.2.answer p.2.gets) (goes_on_in host conn _ _ (items_in host conn kind items p.0 new end) (p.1.stays && not p.1.stop) p.3)
        (keeps_item kind item old.sheet p.0.sheet p.2.answer p.2.gets)
        (by_end (p.1.stays && not p.1.stop) p.3 (keeps_items kind items p.0 new end))
      where
        by_end : (b : Bool) (q : MatchBool b (ServesAll host kind conn items p.0 new end) ((new ≡ p.0) × (end ≡ p.1)))
            → ((r : ServesAll host kind conn items p.0 new end) → Keeps p.0.sheet.desk.table new.sheet.desk.table (items_in host conn kind items p.0 new end r))
            → Keeps p.0.sheet.desk.table new.sheet.desk.table (goes_on_in host conn _ _ (items_in host conn kind items p.0 new end) b q)
        by_end true q more = more q
        by_end false q more = keeps_none p.0.sheet.desk.table new.sheet.desk.table (ap (λ (s : Scene). s.sheet.desk.table) q.0)

  module _ (host : Host) where
    keeps_does : (seen : Seen) (e : WireEvent) (old new : Moment) (stop : Bool) (p : Does host seen e old new stop) → Keeps old.scene.sheet.desk.table new.scene.sheet.desk.table (event_in host seen e old new stop p)
    keeps_does seen (event.Opened conn kind) old new stop p = keeps_none _ _ (ap (λ (s : Scene). s.sheet.desk.table) p.1)
    keeps_does seen (event.Closed conn) old new stop p = keeps_none _ _ (ap (λ (m : Moment). m.scene.sheet.desk.table) p.0)
    keeps_does seen (event.Piece conn bytes) old new stop p = by_stream (stream_at old.streams conn) p
      where
        by_stream : (o : Option Stream)
            (q : MatchOption o ((new ≡ old) × (stop ≡ false)) (λ stream. (items : List Item) × (end : Ending) × Brings (sight_of seen (numbers_in old.streams)) stream bytes items × ServesAll host stream.kind conn items old.scene new.scene end
            × (new.streams ≡ after_piece old.streams conn stream bytes end.stays) × (stop ≡ end.stop)))
            → Keeps old.scene.sheet.desk.table new.scene.sheet.desk.table (stream_in host _ _ (λ stream q. items_in host conn stream.kind q.0 old.scene new.scene q.1 q.3) o q)
        by_stream None q = keeps_none _ _ (ap (λ (m : Moment). m.scene.sheet.desk.table) q.0)
        by_stream (Some stream) q = keeps_items host conn stream.kind q.0 old.scene new.scene q.1 q.3

    keeps_turn : (e : Given) (old new : SessionState) (stop : Bool) (p : Turn host e old new stop) → Keeps old.standing.desk.table new.standing.desk.table (turn_in host e old new stop p)
    keeps_turn e old new stop p =
        rw p.4 (keeps_does (seen_at e.at old.seen) e.event (moment_of (record (old.standing) { wire = p.0 })) p.1 stop p.3)

    pub keeps_session : (events : List Given) (old new : SessionState) (stop : Bool) (p : ServerSession host events old new stop)
        → Keeps old.standing.desk.table new.standing.desk.table (history_in host events old new stop p)
    keeps_session [] old new stop p = keeps_none old.standing.desk.table new.standing.desk.table (ap (λ (s : SessionState). s.standing.desk.table) p.0)
    keeps_session (e ∷ events) old new stop p =
        keeps_more old.standing.desk.table p.0.standing.desk.table new.standing.desk.table (turn_in host e old p.0 p.1 p.2) (stopped_in host _ _ (history_in host events p.0 new stop) p.1 p.3)
        (keeps_turn e old p.0 p.1 p.2)
        (by_stop p.1 p.3 (keeps_session events p.0 new stop))
      where
        by_stop : (b : Bool) (q : MatchBool b ((events ≡ []) × (new ≡ p.0) × (stop ≡ true)) (ServerSession host events p.0 new stop))
            → ((r : ServerSession host events p.0 new stop) → Keeps p.0.standing.desk.table new.standing.desk.table (history_in host events p.0 new stop r))
            → Keeps p.0.standing.desk.table new.standing.desk.table (stopped_in host _ _ (history_in host events p.0 new stop) b q)
        by_stop true q more = keeps_none p.0.standing.desk.table new.standing.desk.table (ap (λ (s : SessionState). s.standing.desk.table) q.1)
        by_stop false q more = more q

    module _ {K : Type 0} (behind : Following K) (offers : Offering K) (changes : OffersBy behind offers) where
      keeps_turn_by : (e : Given) (old new : Place K) (stop : Bool) (p : TurnBy behind host e old new stop)
          → Keeps old.standing.desk.table new.standing.desk.table (event_in host (seen_at e.at old.seen) e.event (moment_of (record (old.standing) { wire = p.given })) p.end stop p.does ++ offers p.end old.kept)
      keeps_turn_by e old new stop p =
          keeps_more old.standing.desk.table p.end.scene.sheet.desk.table new.standing.desk.table (event_in host (seen_at e.at old.seen) e.event (moment_of (record (old.standing) { wire = p.given })) p.end stop p.does) (offers p.end old.kept)
          (keeps_does (seen_at e.at old.seen) e.event (moment_of (record (old.standing) { wire = p.given })) p.end stop p.does)
          (keeps_offers (offers p.end old.kept) p.end.scene.sheet.desk.table new.standing.desk.table
          (ap (λ (s : Standing). s.desk.table) p.stands ∙ changes host.profile (ended_at (conn_of e.event) old.standing.streams p.end.streams) p.end old.kept p.last new.kept p.behind))

      pub keeps_session_by : (events : List Given) (old new : Place K) (stop : Bool) (p : SessionBy behind host events old new stop)
          → Keeps old.standing.desk.table new.standing.desk.table (history_by behind offers host events old new stop p)
      keeps_session_by [] old new stop p = keeps_none old.standing.desk.table new.standing.desk.table (ap (λ (s : Place K). s.standing.desk.table) p.0)
      keeps_session_by (e ∷ events) old new stop p =
          keeps_more old.standing.desk.table p.0.standing.desk.table new.standing.desk.table
          (event_in host (seen_at e.at old.seen) e.event (moment_of (record (old.standing) { wire = p.2.given })) p.2.end p.1 p.2.does ++ offers p.2.end old.kept)
          (stopped_in host _ _ (history_by behind offers host events p.0 new stop) p.1 p.3)
          (keeps_turn_by e old p.0 p.1 p.2)
          (by_stop p.1 p.3 (keeps_session_by events p.0 new stop))
        where
          by_stop : (b : Bool) (q : MatchBool b ((events ≡ []) × (new ≡ p.0) × (stop ≡ true)) (SessionBy behind host events p.0 new stop))
              → ((r : SessionBy behind host events p.0 new stop) → Keeps p.0.standing.desk.table new.standing.desk.table (history_by behind offers host events p.0 new stop r))
              → Keeps p.0.standing.desk.table new.standing.desk.table (stopped_in host _ _ (history_by behind offers host events p.0 new stop) b q)
          by_stop true q more = keeps_none p.0.standing.desk.table new.standing.desk.table (ap (λ (s : Place K). s.standing.desk.table) q.1)
          by_stop false q more = more q

    pub replies_due : (replied : (limit : ℕ) (server : Profile) (history : List Event) (m : AgentToServer) (fresh : Option (List ℕ))
        → table_reply server (table_within limit history) m fresh ≡ reply_within limit server history m fresh)
        → (limit : ℕ) (history : List Event) (m : AgentToServer) (old new : Intake) (reply : ServerToAgent) → old.table ≡ table_within limit history → (p : Replies host m old new reply)
        → (reply ≡ carrying (reply_within limit host.profile history m p.fresh) p.answer) × (new.table ≡ table_within limit (history ++ Reported m ∷ []))
    unfolding reply_at
    replies_due replied limit history m old new reply is p =
        let due : reply_at host.profile old.table m p.fresh ≡ reply_within limit host.profile history m p.fresh =
        ap (λ (t : Table). table_reply host.profile t m p.fresh) is ∙ replied limit host.profile history m p.fresh in
        (p.carried ∙ ap (λ (r : ServerToAgent). carrying r p.answer) due, keeps_report old.table new.table m p.table limit history is)
