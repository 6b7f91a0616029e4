-- That what is known of agents stays, of which no report is heard.
use Rattle.std.proofs.Common.{◌≡◌, ◌⊎◌, ℕ, List, [], ◌∷◌, ◌++◌, map, fold, Bool, true, false, not, cond, ◌&&◌, ◌||◌, nat_le, length, Option, None, Some, is_some, MatchBool, MatchOption, refl, sym, ◌∙◌, ap, subst, inl, inr}
use Rattle.std.proofs.lemmas.Map.Lookups.{exact_bytes}
use Rattle.std.proofs.lemmas.List.Folds.{list_any-append}
use Rattle.std.proofs.lemmas.Slice.Eq.{bytes_eq-Decides}
use Rattle.std.specs.declared.cmp.Ordering.{Ordering}
use Rattle.std.specs.declared.cmp.Ordering.TheVariants.{Less, Equal, Greater}
use Rattle.std.specs.BTreeMap.{is_at}
use Rattle.std.specs.Ordering.{match_ordering, nat_cmp}
use Rattle.std.specs.Str.{bytes_eq}
use Rattle.message_values.specs.declared.custom.CustomMessage.{CustomMessage}
use Rattle.message_values.specs.declared.reply.ServerErrorResponse.{ServerErrorResponse}
use Rattle.message_values.specs.declared.reply.ServerToAgent.{ServerToAgent}
use Rattle.message_values.specs.declared.report.AgentToServer.{AgentToServer}
use Rattle.message_values.specs.declared.profile.TheConstants.{REPORT_AVAILABLE_COMPONENTS}
use Rattle.edge_devices.specs.declared.wires.Kind.{Kind}
use Rattle.edge_devices.specs.declared.wires.WireCall.TheVariants.{Closed}
use Rattle.edge_devices.specs.declared.wires.WireEvent.{WireEvent}
use Rattle.edge_devices.specs.declared.wires.WireEvent.TheVariants as event
use Rattle.server_lines.specs.declared.orders.Action.TheVariants as action
use Rattle.server_lines.specs.declared.orders.Order.{Order}
use Rattle.server_lines.specs.declared.orders.Order.TheVariants as order
use Rattle.server_lines.specs.Answers.{Fleet, RunsOrder, table_after_order}
use Rattle.edge_http.specs.declared.messages.HttpMessage.{HttpMessage}
use Rattle.edge_http.specs.Writing.{response_text}
use Rattle.server_core.specs.declared.replies.Profile.{Profile}
use Rattle.server_core.specs.declared.rows.Record.{Record}
use Rattle.server_core.specs.History.{Forgotten, Offered, Ordered, Withdrawn, is_uid}
use Rattle.server_core.specs.Lengths.{fits_reply}
use Rattle.server_core.specs.declared.offers.Offer.{Offer}
use Rattle.server_core.specs.Offers.{fits_offer}
use Rattle.server_core.specs.Replies.{CrowdedOut, Dues, Passed, Taken, Unidentified, accepting_reply, custom_due, identification, offering_reply, reply_to, restarting_reply}
use Rattle.server_core.specs.Rows.{byte_cmp, drop_row, find_row, put_row}
use Rattle.server_core.specs.Table.{Table, dues_at, find_record, is_accepted_at, is_crowded_at, is_held, left_agents, pending_at, record_after, table_after, table_with_pending, table_with_report, with_nothing, with_offer, with_restart}
use Rattle.server_sessions.specs.declared.answers.stepped.Entry.{Entry}
use Rattle.server_sessions.specs.declared.answers.stepped.Handled.{Handled}
use Rattle.server_sessions.specs.Answers.{Answer, Answers, AnswersLine, AnswersPayload, Gets, GoesOut, Sheet, fleet_in}
use Rattle.server_sessions.specs.Reports.{Host, Intake, Replies, can_carry, carrying, intake_in, note_handled, noted_report, reply_at, table_with, uid_in, with_message}
use Rattle.server_sessions.specs.Requests.{AnswersBody, AnswersRequest, refusal_of}
use Rattle.server_lines.specs.Sights.{Seen, Sight, numbers_in, sight_of}
use Rattle.server_sessions.specs.Session.{Does, Ending, Moment, Scene, ServesAll, Streams, after_piece, stream_at, with_stream}
use Rattle.server_sessions.specs.Streams.{Broken, Brings, Item, Line, LongLine, Partial, Payload, Request, Stream, Unread}
use Rattle.server_sessions.specs.Wiring.{IsDone, WireView}
use Rattle.server_sessions.specs.Connections.{conn_of, ended_at}
use Rattle.server_sessions.specs.Behind.{IsKeyed, Stays, is_heard, is_piece}
use Rattle.server_sessions.proofs.Keyed.{gone, keyed_set, keyed_with, keyed_without}

-- a row that is put leaves what is found of others
row_beside : {T : Type 0} (uid_of : T → List ℕ) (rows : List T) (row : T) (uid : List ℕ) → bytes_eq (uid_of row) uid ≡ false → find_row uid_of (put_row uid_of rows row) uid ≡ find_row uid_of rows uid
row_beside uid_of [] row uid other = rw other refl
row_beside {T} uid_of (r ∷ rows) row uid other = by_order (byte_cmp (uid_of row) (uid_of r)) refl (row_beside uid_of rows row uid other)
  where
    passed : (b : Bool) (x : T) (o : Option T) → b ≡ false → cond b (Some x) o ≡ o
    passed true x o isnt = absurd (cc isnt)
    passed false x o isnt = refl

    by_order : (o : Ordering) → byte_cmp (uid_of row) (uid_of r) ≡ o → find_row uid_of (put_row uid_of rows row) uid ≡ find_row uid_of rows uid
        → find_row uid_of (match_ordering o (row ∷ r ∷ rows) (row ∷ rows) (r ∷ put_row uid_of rows row)) uid ≡ find_row uid_of (r ∷ rows) uid
    by_order Less e more = passed (bytes_eq (uid_of row) uid) row (find_row uid_of (r ∷ rows) uid) other
    by_order Equal e more =
        passed (bytes_eq (uid_of row) uid) row (find_row uid_of rows uid) other
        ∙ sym (passed (bytes_eq (uid_of r) uid) r (find_row uid_of rows uid) (subst (λ (k : List ℕ). bytes_eq k uid ≡ false) (exact_bytes (uid_of row) (uid_of r) e) other))
    by_order Greater e more = ap (λ o. cond (bytes_eq (uid_of r) uid) (Some r) o) more

stays_same : (uid : List ℕ) (old new : Table) → new ≡ old → Stays uid old new
stays_same uid old new is = inl (ap (λ (t : Table). find_record t.records uid) is)

stays_on : (uid : List ℕ) (a b c : Table) → Stays uid a b → Stays uid b c → Stays uid a c
stays_on uid a b c (inl p) (inl q) = inl (q ∙ p)
stays_on uid a b c (inr p) (inl q) = inr (q ∙ p)
stays_on uid a b c p (inr q) = inr q

-- offers and orders leave what is known
stays_offered : (uid : List ℕ) (table : Table) (u : List ℕ) (offer : Offer) → Stays uid table (table_after table (Offered u offer))
stays_offered uid table u offer = by_test (is_held table u && fits_offer offer)
  where
    by_test : (b : Bool) → Stays uid table (cond b (table_with_pending table (with_offer (pending_at table.pendings u) offer)) table)
    by_test true = inl refl
    by_test false = inl refl

stays_ordered : (uid : List ℕ) (table : Table) (u : List ℕ) → Stays uid table (table_after table (Ordered u))
stays_ordered uid table u = by_test (is_held table u)
  where
    by_test : (b : Bool) → Stays uid table (cond b (table_with_pending table (with_restart (pending_at table.pendings u))) table)
    by_test true = inl refl
    by_test false = inl refl

stays_withdrawn : (uid : List ℕ) (table : Table) (u : List ℕ) → Stays uid table (table_after table (Withdrawn u))
stays_withdrawn uid table u = by_test (is_held table u)
  where
    by_test : (b : Bool) → Stays uid table (cond b (table_with_pending table (with_nothing (pending_at table.pendings u))) table)
    by_test true = inl refl
    by_test false = inl refl

-- without the rows of an identifier what is found of another one stays
row_gone : {T : Type 0} (uid_of : T → List ℕ) (rows : List T) (u : List ℕ) → find_row uid_of (drop_row uid_of rows u) u ≡ None
row_gone uid_of [] u = refl
row_gone {T} uid_of (r ∷ rows) u = by_test (bytes_eq (uid_of r) u) refl (row_gone uid_of rows u)
  where
    by_test : (b : Bool) → bytes_eq (uid_of r) u ≡ b → find_row uid_of (drop_row uid_of rows u) u ≡ None
        → find_row uid_of (cond (not b) (r ∷ drop_row uid_of rows u) (drop_row uid_of rows u)) u ≡ None
    by_test true is more = more
    by_test false is more = rw is more

rows_left : {T : Type 0} (uid_of : T → List ℕ) (rows : List T) (u uid : List ℕ)
    → (find_row uid_of (drop_row uid_of rows u) uid ≡ find_row uid_of rows uid) ⊎ (find_row uid_of (drop_row uid_of rows u) uid ≡ None)
rows_left uid_of [] u uid = inl refl
rows_left {T} uid_of (r ∷ rows) u uid = by_tests (bytes_eq (uid_of r) u) (bytes_eq (uid_of r) uid) refl refl (rows_left uid_of rows u uid)
  where
    Left : List T → List T → Type 0
    Left new old = (find_row uid_of new uid ≡ find_row uid_of old uid) ⊎ (find_row uid_of new uid ≡ None)

    gone : bytes_eq (uid_of r) u ≡ true → bytes_eq (uid_of r) uid ≡ true → find_row uid_of (drop_row uid_of rows u) uid ≡ None
    gone is is' =
        let same : uid ≡ u = sym ((bytes_eq-Decides (uid_of r) uid).0 is') ∙ (bytes_eq-Decides (uid_of r) u).0 is in
        rw same (row_gone uid_of rows u)

    by_tests : (a b : Bool) → bytes_eq (uid_of r) u ≡ a → bytes_eq (uid_of r) uid ≡ b → (find_row uid_of (drop_row uid_of rows u) uid ≡ find_row uid_of rows uid) ⊎ (find_row uid_of (drop_row uid_of rows u) uid ≡ None)
        → (find_row uid_of (cond (not a) (r ∷ drop_row uid_of rows u) (drop_row uid_of rows u)) uid ≡ cond b (Some r) (find_row uid_of rows uid))
        ⊎ (find_row uid_of (cond (not a) (r ∷ drop_row uid_of rows u) (drop_row uid_of rows u)) uid ≡ None)
    by_tests true true is is' more = inr (gone is is')
    by_tests true false is is' more = more
    by_tests false true is is' more = inl (rw is' refl)
    by_tests false false is is' more = rw is' more

stays_forgotten : (uid : List ℕ) (table : Table) (u : List ℕ) → Stays uid table (table_after table (Forgotten u))
stays_forgotten uid table u = rows_left (λ (r : Record). r.uid) table.records u uid

stays_forgotten_all : (uid : List ℕ) (table : Table) (us : List (List ℕ)) → Stays uid table (fold table_after table (map Forgotten us))
stays_forgotten_all uid table [] = inl refl
stays_forgotten_all uid table (u ∷ us) =
    stays_on uid table (table_after table (Forgotten u)) (fold table_after (table_after table (Forgotten u)) (map Forgotten us)) (stays_forgotten uid table u)
    (stays_forgotten_all uid (table_after table (Forgotten u)) us)

stays_event : (uid : List ℕ) (table : Table) (o : Order) → Stays uid table (table_after_order table o)
stays_event uid table (order.Ask asked) = inl refl
stays_event uid table (order.Act u (action.Offer offer)) = stays_offered uid table u offer
stays_event uid table (order.Act u action.Restart) = stays_ordered uid table u
stays_event uid table (order.Act u action.Withdraw) = stays_withdrawn uid table u
stays_event uid table (order.Act u action.Forget) = stays_forgotten uid table u
stays_event uid table (order.Steer id done) = inl refl
stays_event uid table order.ForgetLeft = stays_forgotten_all uid table (left_agents table)
stays_event uid table order.Stop = inl refl

stays_order : (uid : List ℕ) (sight : Sight) (old new : Fleet) (o : Order) (text : List ℕ) → RunsOrder sight old o text new → Stays uid old.table new.table
unfolding RunsOrder
stays_order uid sight old new o text (inl p) =
    stays_on uid old.table (table_after_order old.table o) new.table (stays_event uid old.table o) (stays_same uid (table_after_order old.table o) new.table p.1)
stays_order uid sight old new o text (inr p) = stays_same uid old.table new.table (ap (λ (f : Fleet). f.table) p.2)

-- a reply to an accepted report is no error, with a handler's answer or not
pub carries : (reply : ServerToAgent) (answer : Option CustomMessage) → (carrying reply answer).error_response ≡ reply.error_response
carries reply None = refl
carries reply (Some answer) = by_test (can_carry reply && fits_reply (with_message reply answer))
  where
    by_test : (b : Bool) → (cond b (with_message reply answer) reply).error_response ≡ reply.error_response
    by_test true = refl
    by_test false = refl

no_error : (profile : Profile) (m : AgentToServer) (fresh : Option (List ℕ)) (due : Dues) → (accepting_reply profile m fresh due).error_response ≡ None
no_error profile m fresh due = by_test due.restart
  where
    by_test : (b : Bool)
        → (cond b (restarting_reply profile m.instance_uid)
        (record (offering_reply profile m.instance_uid due.offers) {
          flags = cond due.details REPORT_AVAILABLE_COMPONENTS 0;
          agent_identification = identification m fresh;
          custom_capabilities = custom_due profile m;
        })).error_response
        ≡ None
    by_test true = refl
    by_test false = refl

first_of : (a b : Bool) → (a && b) ≡ true → a ≡ true
first_of true b is = refl
first_of false b is = absurd (cc is)

second_of : (a b : Bool) → (a && b) ≡ true → b ≡ true
second_of true b is = is
second_of false b is = absurd (cc is)

not_true : (a : Bool) → not a ≡ true → a ≡ false
not_true true is = absurd (cc is)
not_true false is = refl

no_error_to : (profile : Profile) (table : Table) (m : AgentToServer) (fresh : Option (List ℕ)) → is_accepted_at table m ≡ true → (reply_at profile table m fresh).error_response ≡ None
unfolding reply_at
no_error_to profile table m fresh accepted =
    let named : is_uid m.instance_uid ≡ true = first_of (is_uid m.instance_uid) _ accepted in
    let apart : is_crowded_at table m.instance_uid ≡ false = not_true (is_crowded_at table m.instance_uid) (first_of (not (is_crowded_at table m.instance_uid)) _ (second_of (is_uid m.instance_uid) _ accepted)) in
    by_tests (is_uid m.instance_uid) (is_crowded_at table m.instance_uid) (is_accepted_at table m) named apart accepted
  where
    by_tests : (a b d : Bool) → a ≡ true → b ≡ false → d ≡ true
        → (reply_to profile m fresh (cond (not a) Unidentified (cond b CrowdedOut (cond d (Taken (dues_at table m)) Passed)))).error_response ≡ None
    by_tests true false true p q r = no_error profile m fresh (dues_at table m)
    by_tests false b d p q r = absurd (cc p)
    by_tests true true d p q r = absurd (cc q)
    by_tests true false false p q r = absurd (cc r)

-- a report that is heard
or_left : (a b : Bool) → (a || b) ≡ false → a ≡ false
or_left true b is = absurd (cc is)
or_left false b is = refl

or_right : (a b : Bool) → (a || b) ≡ false → b ≡ false
or_right true b is = absurd (cc is)
or_right false b is = is

module _ (uid : List ℕ) where
  heard_more : (handled : List Handled) (h : Handled) → is_heard (handled ++ h ∷ []) uid ≡ false → (is_heard handled uid || (bytes_eq h.uid uid || false)) ≡ false
  heard_more handled h is = sym (list_any-append (λ (g : Handled). bytes_eq g.uid uid) handled (h ∷ [])) ∙ is

  -- those before it weren't heard either
  heard_before : (conn : ℕ) (ws : Bool) (o : Option (List ℕ)) (reply : ServerToAgent) (handled noted : List Handled) → noted ≡ note_handled conn ws o reply handled → is_heard noted uid ≡ false
      → is_heard handled uid ≡ false
  heard_before conn ws None reply handled noted is unheard = ap (λ (hs : List Handled). is_heard hs uid) (sym is) ∙ unheard
  heard_before conn ws (Some u) reply handled noted is unheard = by_error (is_some reply.error_response) is
    where
      by_error : (b : Bool) → noted ≡ cond b handled (handled ++ noted_report conn ws u reply ∷ []) → is_heard handled uid ≡ false
      by_error true same = ap (λ (hs : List Handled). is_heard hs uid) (sym same) ∙ unheard
      by_error false same = or_left _ _ (heard_more handled (noted_report conn ws u reply) (ap (λ (hs : List Handled). is_heard hs uid) (sym same) ∙ unheard))

  -- an agent whose report was accepted is another one, where it isn't among those that are heard
  another : (conn : ℕ) (ws : Bool) (u : List ℕ) (reply : ServerToAgent) (handled noted : List Handled) → is_uid u ≡ true → reply.error_response ≡ None
      → noted ≡ note_handled conn ws (uid_in u) reply handled → is_heard noted uid ≡ false → bytes_eq u uid ≡ false
  another conn ws u reply handled noted named fine is unheard = by_named (is_uid u) named is
    where
      by_error : (o : Option ServerErrorResponse) → o ≡ None → noted ≡ cond (is_some o) handled (handled ++ noted_report conn ws u reply ∷ []) → bytes_eq u uid ≡ false
      by_error None e same =
          or_left _ _ (or_right (is_heard handled uid) _ (heard_more handled (noted_report conn ws u reply) (ap (λ (hs : List Handled). is_heard hs uid) (sym same) ∙ unheard)))
      by_error (Some x) e same = absurd (cc e)

      by_named : (b : Bool) → b ≡ true → noted ≡ note_handled conn ws (cond b (Some u) None) reply handled → bytes_eq u uid ≡ false
      by_named true e same = by_error reply.error_response fine same
      by_named false e same = absurd (cc e)

  -- a report leaves what is known of agents that aren't heard
  stays_with : (host : Host) (conn : ℕ) (ws : Bool) (m : AgentToServer) (old new : Intake) (reply : ServerToAgent) (handled noted : List Handled) → Replies host m old new reply
      → noted ≡ note_handled conn ws (uid_in m.instance_uid) reply handled → is_heard noted uid ≡ false → Stays uid old.table new.table
  unfolding table_with
  stays_with host conn ws m old new reply handled noted replies is unheard =
      stays_on uid old.table (table_with old.table m) new.table (by_test (is_accepted_at old.table m) refl) (stays_same uid (table_with old.table m) new.table replies.table)
    where
      by_test : (b : Bool) → is_accepted_at old.table m ≡ b → Stays uid old.table (cond b (table_with_report old.table m) old.table)
      by_test false e = inl refl
      by_test true e =
          let fine : reply.error_response ≡ None =
          ap (λ (r : ServerToAgent). r.error_response) replies.carried ∙ carries (reply_at host.profile old.table m replies.fresh) replies.answer ∙ no_error_to host.profile old.table m replies.fresh e in
          inl (row_beside (λ (r : Record). r.uid) old.table.records (record_after (find_record old.table.records m.instance_uid) (pending_at old.table.pendings m.instance_uid).stale m) uid
          (another conn ws m.instance_uid reply handled noted (first_of (is_uid m.instance_uid) _ e) fine is unheard))

  -- no report of the agent was heard before, and what is known of it stays
  abbrev pub Beside : List Handled → Table → Table → Type 0
  Beside handled old new = (is_heard handled uid ≡ false) × Stays uid old new

  beside_same : (handled noted : List Handled) (old new : Table) → noted ≡ handled → new ≡ old → is_heard noted uid ≡ false → Beside handled old new
  beside_same handled noted old new same stays unheard = (ap (λ (hs : List Handled). is_heard hs uid) (sym same) ∙ unheard, stays_same uid old new stays)

  module _ (host : Host) (conn : ℕ) where
    beside_reply : (ws : Bool) (m : AgentToServer) (old new : Intake) (reply : ServerToAgent) (handled noted : List Handled) → Replies host m old new reply
        → noted ≡ note_handled conn ws (uid_in m.instance_uid) reply handled → is_heard noted uid ≡ false → Beside handled old.table new.table
    beside_reply ws m old new reply handled noted replies is unheard =
        (heard_before conn ws (uid_in m.instance_uid) reply handled noted is unheard, stays_with host conn ws m old new reply handled noted replies is unheard)

    beside_payload : (bytes : List ℕ) (old new : Intake) (handled noted : List Handled) (answer : List ℕ) → AnswersPayload host conn bytes old new handled noted answer → is_heard noted uid ≡ false
        → Beside handled old.table new.table
    beside_payload bytes old new handled noted answer (inl p) unheard = beside_same handled noted old.table new.table p.2 (ap (λ (d : Intake). d.table) p.1) unheard
    beside_payload bytes old new handled noted answer (inr p) unheard = beside_reply true p.0 old new p.2.0 handled noted p.2.1 p.2.2 unheard

    beside_request : (m : HttpMessage) (old new : Intake) (handled noted : List Handled) (answer : List ℕ) → AnswersRequest host conn m old new handled noted answer → is_heard noted uid ≡ false
        → Beside handled old.table new.table
    beside_request m old new handled noted answer p unheard = by_refusal (refusal_of m) p
      where
        by_body : AnswersBody host conn m.body m.close old new handled noted answer → Beside handled old.table new.table
        by_body (inl q) = beside_same handled noted old.table new.table q.2 (ap (λ (d : Intake). d.table) q.1) unheard
        by_body (inr q) = beside_reply false q.0 old new q.2.0 handled noted q.2.1 q.2.2 unheard

        by_refusal : (o : Option ℕ)
            → MatchOption o (AnswersBody host conn m.body m.close old new handled noted answer) (λ status. (new ≡ old) × (noted ≡ handled) × (answer ≡ response_text status [] m.close))
            → Beside handled old.table new.table
        by_refusal None q = by_body q
        by_refusal (Some status) q = beside_same handled noted old.table new.table q.1 (ap (λ (d : Intake). d.table) q.0) unheard

    line_stays : (line : List ℕ) (sight : Sight) (old new : Fleet) (ordered noted : List (List ℕ)) (entries told : List Entry) (answer : List ℕ) (stop : Bool) → AnswersLine conn line sight old new ordered noted entries told answer stop → Stays uid old.table new.table
    line_stays line sight old new ordered noted entries told answer stop (inl p) = stays_same uid old.table new.table (ap (λ (f : Fleet). f.table) p.1)
    line_stays line sight old new ordered noted entries told answer stop (inr p) = stays_order uid sight old new p.0 answer p.2

    beside_sheet : (old new : Sheet) → new ≡ old → is_heard new.handled uid ≡ false → Beside old.handled old.desk.table new.desk.table
    beside_sheet old new is unheard = beside_same old.handled new.handled old.desk.table new.desk.table (ap (λ (s : Sheet). s.handled) is) (ap (λ (s : Sheet). s.desk.table) is) unheard

    beside_answer : (item : Item) (old new : Sheet) (answer : Answer) → Answers host conn item old new answer → is_heard new.handled uid ≡ false → Beside old.handled old.desk.table new.desk.table
    beside_answer (Payload bytes) old new answer p unheard = beside_payload bytes (intake_in old.desk) (intake_in new.desk) old.handled new.handled p.0 p.1 unheard
    beside_answer (Line line sight) old new answer p unheard =
        (ap (λ (hs : List Handled). is_heard hs uid) (sym p.4) ∙ unheard, line_stays line sight (fleet_in old.desk) (fleet_in new.desk) old.ordered new.ordered old.entries new.entries p.0 p.1 p.2)
    beside_answer LongLine old new answer p unheard = beside_sheet old new p.0 unheard
    beside_answer (Request m) old new answer p unheard = beside_request m (intake_in old.desk) (intake_in new.desk) old.handled new.handled p.0 p.1 unheard
    beside_answer (Broken why) old new answer p unheard = beside_sheet old new p.0 unheard
    beside_answer Partial old new answer p unheard = beside_sheet old new p.0 unheard
    beside_answer Unread old new answer p unheard = absurd p

    -- behind the answer for want of memory a connection doesn't stay
    stays_open : (bytes : Option (List ℕ)) (closes : Bool) (old new : WireView) (stays : Bool) → GoesOut conn bytes closes old new stays → stays ≡ true → closes ≡ false
    stays_open bytes closes old new true p is = p.0
    stays_open bytes closes old new false p is = absurd (cc is)

    beside_gets : (k : Kind) (item : Item) (old new : Sheet) (answer : Answer) → Gets host k conn item old new answer → answer.closes ≡ false → is_heard new.handled uid ≡ false
        → Beside old.handled old.desk.table new.desk.table
    beside_gets k item old new answer (inl p) kept unheard = beside_answer item old new answer p unheard
    beside_gets k item old new answer (inr p) kept unheard = let closes : answer.closes ≡ true = ap (λ (a : Answer). a.closes) p.1 in absurd (cc)

    beside_all : (k : Kind) (items : List Item) (old new : Scene) (end : Ending) → ServesAll host k conn items old new end → end.stays ≡ true → is_heard new.sheet.handled uid ≡ false
        → Beside old.sheet.handled old.sheet.desk.table new.sheet.desk.table
    beside_all k [] old new end p kept unheard = beside_sheet old.sheet new.sheet (ap (λ (s : Scene). s.sheet) p.0) unheard
    beside_all k (item ∷ items) old new end p kept unheard = by_end (p.1.stays && not p.1.stop) refl p.3 (beside_all k items p.0 new end)
      where
        -- the first item, where the connection stays behind it
        behind : p.1.stays ≡ true → Beside p.0.sheet.handled p.0.sheet.desk.table new.sheet.desk.table → Beside old.sheet.handled old.sheet.desk.table new.sheet.desk.table
        behind stays rest =
            let one = beside_gets k item old.sheet p.0.sheet p.2.answer p.2.gets (stays_open p.2.answer.bytes p.2.answer.closes old.wire p.0.wire p.1.stays p.2.goes_out stays) rest.0 in
            (one.0, stays_on uid old.sheet.desk.table p.0.sheet.desk.table new.sheet.desk.table one.1 rest.1)

        by_end : (b : Bool) → (p.1.stays && not p.1.stop) ≡ b → MatchBool b (ServesAll host k conn items p.0 new end) ((new ≡ p.0) × (end ≡ p.1))
            → (ServesAll host k conn items p.0 new end → end.stays ≡ true → is_heard new.sheet.handled uid ≡ false → Beside p.0.sheet.handled p.0.sheet.desk.table new.sheet.desk.table)
            → Beside old.sheet.handled old.sheet.desk.table new.sheet.desk.table
        by_end true e q more = behind (first_of p.1.stays (not p.1.stop) e) (more q kept unheard)
        by_end false e q more = behind (sym (ap (λ (x : Ending). x.stays) q.1) ∙ kept) (beside_sheet p.0.sheet new.sheet (ap (λ (s : Scene). s.sheet) q.0) unheard)

-- what an event does
module _ (host : Host) where
  -- Behind an event that isn't a piece, or that ended no connection, what is known of an agent is as it was, where no report of it is heard.
  pub unheard_stays : (uid : List ℕ) (seen : Seen) (e : WireEvent) (old new : Moment) (stop : Bool) → Does host seen e old new stop → IsKeyed old.streams
      → (is_piece e ≡ false) ⊎ (ended_at (conn_of e) old.streams new.streams ≡ []) → is_heard new.scene.sheet.handled uid ≡ false
      → Stays uid old.scene.sheet.desk.table new.scene.sheet.desk.table
  unheard_stays uid seen (event.Opened conn k) old new stop p keyed calm unheard = stays_same uid _ _ (ap (λ (s : Scene). s.sheet.desk.table) p.1)
  unheard_stays uid seen (event.Closed conn) old new stop p keyed calm unheard = stays_same uid _ _ (ap (λ (m : Moment). m.scene.sheet.desk.table) p.0)
  unheard_stays uid seen (event.Piece conn bytes) old new stop p keyed calm unheard = by_calm calm
    where
      by_stays : (stream : Stream) (stays : Bool) → stream_at old.streams conn ≡ Some stream → new.streams ≡ after_piece old.streams conn stream bytes stays → ended_at conn old.streams new.streams ≡ []
          → stays ≡ true
      by_stays stream true is next none = refl
      by_stays stream false is next none =
          let out : stream_at new.streams conn ≡ None = ap (λ (s : Streams). stream_at s conn) next ∙ gone conn old.streams keyed in
          let ends : cond (is_some (stream_at old.streams conn) && not (is_some (stream_at new.streams conn))) (conn ∷ []) [] ≡ conn ∷ [] = rw (is, out) refl in
          absurd (cc (sym ends ∙ none))

      by_stream : (o : Option Stream) → stream_at old.streams conn ≡ o → ended_at conn old.streams new.streams ≡ []
          → MatchOption o ((new ≡ old) × (stop ≡ false)) (λ stream. (items : List Item) × (end : Ending) × Brings (sight_of seen (numbers_in old.streams)) stream bytes items × ServesAll host stream.kind conn items old.scene new.scene end
          × (new.streams ≡ after_piece old.streams conn stream bytes end.stays) × (stop ≡ end.stop))
          → Stays uid old.scene.sheet.desk.table new.scene.sheet.desk.table
      by_stream None is none q = stays_same uid _ _ (ap (λ (m : Moment). m.scene.sheet.desk.table) q.0)
      by_stream (Some stream) is none q = (beside_all uid host conn stream.kind q.0 old.scene new.scene q.1 q.3 (by_stays stream q.1.stays is q.4 none) unheard).1

      by_calm : (is_piece (event.Piece conn bytes) ≡ false) ⊎ (ended_at conn old.streams new.streams ≡ []) → Stays uid old.scene.sheet.desk.table new.scene.sheet.desk.table
      by_calm (inl never) = absurd (cc never)
      by_calm (inr none) = by_stream (stream_at old.streams conn) refl none p

  -- Each known connection has one entry still.
  pub keyed_does : (seen : Seen) (e : WireEvent) (old new : Moment) (stop : Bool) → Does host seen e old new stop → IsKeyed old.streams → IsKeyed new.streams
  keyed_does seen (event.Opened conn k) old new stop p keyed = by_known (is_some (stream_at old.streams conn)) refl p.0
    where
      kept : (streams : Streams) → new.streams ≡ streams → IsKeyed streams → IsKeyed new.streams
      kept streams is known = subst (λ (s : Streams). IsKeyed s) (sym is) known

      by_room : (b : Bool) → is_some (stream_at old.streams conn) ≡ false
          → MatchBool b ((new.streams ≡ old.streams) × IsDone (Closed conn) old.scene.wire new.scene.wire)
          ((new.streams ≡ with_stream old.streams conn (record { kind = k; bytes = [] })) × (new.scene.wire ≡ old.scene.wire))
          → IsKeyed new.streams
      by_room true none q = kept old.streams q.0 keyed
      by_room false none q = kept (with_stream old.streams conn (record { kind = k; bytes = [] })) q.0 (keyed_with conn (record { kind = k; bytes = [] }) old.streams none keyed)

      by_known : (b : Bool) → is_some (stream_at old.streams conn) ≡ b
          → MatchBool b ((new.streams ≡ old.streams) × (new.scene.wire ≡ old.scene.wire))
          (MatchBool (nat_le host.profile.connections (length old.streams))
          ((new.streams ≡ old.streams) × IsDone (Closed conn) old.scene.wire new.scene.wire)
          ((new.streams ≡ with_stream old.streams conn (record { kind = k; bytes = [] })) × (new.scene.wire ≡ old.scene.wire)))
          → IsKeyed new.streams
      by_known true is q = kept old.streams q.0 keyed
      by_known false is q = by_room (nat_le host.profile.connections (length old.streams)) is q
  keyed_does seen (event.Closed conn) old new stop p keyed =
      subst (λ (s : Streams). IsKeyed s) (sym (ap (λ (m : Moment). m.streams) p.0)) (keyed_without (is_at (nat_cmp conn)) old.streams keyed)
  keyed_does seen (event.Piece conn bytes) old new stop p keyed = by_stream (stream_at old.streams conn) p
    where
      kept : (streams : Streams) → new.streams ≡ streams → IsKeyed streams → IsKeyed new.streams
      kept streams is known = subst (λ (s : Streams). IsKeyed s) (sym is) known

      by_stays : (stream : Stream) (b : Bool) → IsKeyed (after_piece old.streams conn stream bytes b)
      by_stays stream true = keyed_set (is_at (nat_cmp conn)) old.streams (record stream { bytes = stream.bytes ++ bytes }) keyed
      by_stays stream false = keyed_without (is_at (nat_cmp conn)) old.streams keyed

      by_stream : (o : Option Stream)
          → MatchOption o ((new ≡ old) × (stop ≡ false)) (λ stream. (items : List Item) × (end : Ending) × Brings (sight_of seen (numbers_in old.streams)) stream bytes items × ServesAll host stream.kind conn items old.scene new.scene end
          × (new.streams ≡ after_piece old.streams conn stream bytes end.stays) × (stop ≡ end.stop))
          → IsKeyed new.streams
      by_stream None q = kept old.streams (ap (λ (m : Moment). m.streams) q.0) keyed
      by_stream (Some stream) q = kept (after_piece old.streams conn stream bytes q.1.stays) q.4 (by_stays stream q.1.stays)
