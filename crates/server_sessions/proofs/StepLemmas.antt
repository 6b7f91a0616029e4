-- What a step tells: its calls give no event, and the reports that it answered came on its connection.
use Rattle.std.proofs.Common.{◌≡◌, ℕ, List, [], ◌∷◌, ◌++◌, Bool, true, false, not, ◌&&◌, if◌then◌else◌, Option, None, Some, is_some, IsSome, MatchBool, MatchOption, All, refl, sym, ap, ◌∙◌, subst, inl, inr}
use Rattle.std.proofs.lemmas.List.Elements.{All-nil, All-push}
use Rattle.message_values.specs.declared.reply.ServerToAgent.{ServerToAgent}
use Rattle.edge_devices.specs.declared.wires.Kind.{Kind}
use Rattle.edge_devices.specs.declared.wires.WireEvent.{WireEvent}
use Rattle.edge_devices.specs.declared.wires.WireEvent.TheVariants as event
use Rattle.edge_devices.specs.Clocks.{EntropyState}
use Rattle.server_core.specs.Table.{Table}
use Rattle.edge_http.specs.declared.messages.HttpMessage.{HttpMessage}
use Rattle.server_waves.specs.Register.{Rolling}
use Rattle.server_sessions.specs.declared.answers.stepped.Handled.{Handled}
use Rattle.server_sessions.specs.declared.answers.stepped.Stepped.{Stepped}
use Rattle.server_sessions.specs.Answers.{Sheet, Answer, AnswersPayload, Answers, Gets, HalfHandles}
use Rattle.server_sessions.specs.Reports.{Host, Desk, Intake, intake_in, note_handled, noted_report, uid_in}
use Rattle.server_sessions.specs.Requests.{AnswersBody, AnswersRequest, refusal_of}
use Rattle.server_lines.specs.Sights.{Seen, numbers_in, sight_of}
use Rattle.server_sessions.specs.Session.{Scene, Ending, ServesAll, Streams, Moment, after_piece, moment_of, stream_at}
use Rattle.server_sessions.specs.Streams.{Stream, Item, Payload, Line, LongLine, Partial, Request, Broken, Unread, Brings}
use Rattle.server_sessions.specs.Wiring.{WireView}
use Rattle.edge_http.specs.Writing.{response_text}
use Rattle.server_sessions.specs.Connections.{Known, known_at, AreHeard, StandsFor, Steps, first_scene, scene_at}
use Rattle.server_sessions.specs.Runs.{Gives, HalfDoes}
use Rattle.server_sessions.proofs.LoopLemmas.{same_known}
use Rattle.server_sessions.proofs.ToldLemmas.{does_none, gives_none}

module _ (P : Handled → Type 0) (conn : ℕ) (own : (h : Handled) → h.conn ≡ conn → P h) where
  noted_heard : (ws : Bool) (uid : Option (List ℕ)) (reply : ServerToAgent) (handled : List Handled) → All P handled → All P (note_handled conn ws uid reply handled)
  noted_heard ws None reply handled so = so
  noted_heard ws (Some uid) reply handled so = by_error (is_some reply.error_response)
    where
      by_error : (b : Bool) → All P (if b then handled else handled ++ noted_report conn ws uid reply ∷ [])
      by_error true = so
      by_error false = All-push P handled (noted_report conn ws uid reply) so (own (noted_report conn ws uid reply) refl)

  payload_heard : (host : Host) (bytes : List ℕ) (old new : Intake) (handled noted : List Handled) (answer : List ℕ) → AnswersPayload host conn bytes old new handled noted answer → All P handled → All P noted
  payload_heard host bytes old new handled noted answer (inl p) so = rw p.2 so
  payload_heard host bytes old new handled noted answer (inr p) so = rw p.2.2 (noted_heard true (uid_in p.0.instance_uid) p.2.0 handled so)

  body_heard : (host : Host) (bytes : List ℕ) (closes : Bool) (old new : Intake) (handled noted : List Handled) (answer : List ℕ) → AnswersBody host conn bytes closes old new handled noted answer → All P handled → All P noted
  body_heard host bytes closes old new handled noted answer (inl p) so = rw p.2 so
  body_heard host bytes closes old new handled noted answer (inr p) so = rw p.2.2 (noted_heard false (uid_in p.0.instance_uid) p.2.0 handled so)

  request_heard : (host : Host) (m : HttpMessage) (old new : Intake) (handled noted : List Handled) (answer : List ℕ) → AnswersRequest host conn m old new handled noted answer → All P handled → All P noted
  request_heard host m old new handled noted answer p so = by_refusal (refusal_of m) p
    where
      by_refusal : (o : Option ℕ)
          → MatchOption o (AnswersBody host conn m.body m.close old new handled noted answer) (λ status. (new ≡ old) × (noted ≡ handled) × (answer ≡ response_text status [] m.close))
          → All P noted
      by_refusal None q = body_heard host m.body m.close old new handled noted answer q so
      by_refusal (Some status) q = rw q.1 so

  answers_heard : (host : Host) (item : Item) (old new : Sheet) (answer : Answer) → Answers host conn item old new answer → All P old.handled → All P new.handled
  answers_heard host (Payload bytes) old new answer p so = payload_heard host bytes (intake_in old.desk) (intake_in new.desk) old.handled new.handled p.0 p.1 so
  answers_heard host (Line line sight) old new answer p so = rw p.4 so
  answers_heard host LongLine old new answer p so = rw p.0 so
  answers_heard host (Request m) old new answer p so = request_heard host m (intake_in old.desk) (intake_in new.desk) old.handled new.handled p.0 p.1 so
  answers_heard host (Broken why) old new answer p so = rw p.0 so
  answers_heard host Partial old new answer p so = rw p.0 so
  answers_heard host Unread old new answer p so = absurd p

  half_heard : (item : Item) (old new : Sheet) → HalfHandles conn item old new → All P old.handled → All P new.handled
  half_heard (Payload bytes) old new p so = rw p.1 so
  half_heard (Line line sight) old new p so = rw p.2 so
  half_heard LongLine old new p so = rw p so
  half_heard (Request m) old new p so = rw p.1 so
  half_heard (Broken why) old new p so = rw p so
  half_heard Partial old new p so = rw p so
  half_heard Unread old new p so = rw p so

  gets_heard : (host : Host) (k : Kind) (item : Item) (old new : Sheet) (answer : Answer) → Gets host k conn item old new answer → All P old.handled → All P new.handled
  gets_heard host k item old new answer (inl p) so = answers_heard host item old new answer p so
  gets_heard host k item old new answer (inr p) so = half_heard item old new p.0 so

  all_heard : (host : Host) (k : Kind) (items : List Item) (old new : Scene) (end : Ending) → ServesAll host k conn items old new end → All P old.sheet.handled → All P new.sheet.handled
  all_heard host k [] old new end p so = rw p.0 so
  all_heard host k (item ∷ items) old new end p so =
      by_end (p.1.stays && not p.1.stop) p.3 (all_heard host k items p.0 new end) (gets_heard host k item old.sheet p.0.sheet p.2.answer p.2.gets so)
    where
      by_end : (b : Bool) → MatchBool b (ServesAll host k conn items p.0 new end) ((new ≡ p.0) × (end ≡ p.1))
          → (ServesAll host k conn items p.0 new end → All P p.0.sheet.handled → All P new.sheet.handled) → All P p.0.sheet.handled → All P new.sheet.handled
      by_end true q more so' = more q so'
      by_end false q more so' = rw q.0 so'

-- the reports that were answered in an event came on its connection
pub steps_heard : (host : Host) (seen : Seen) (e : WireEvent) (known known' : Known) (wire wire' : WireView) (entropy entropy' : EntropyState) (table : Table) (rollouts : List Rolling) (table' : Table) (rollouts' : List Rolling) (stepped : Stepped)
    → Steps host seen e known known' (first_scene wire entropy table rollouts) (scene_at wire' entropy' table' rollouts' stepped) stepped
    → (streams : Streams) → StandsFor known streams → AreHeard known e stepped.handled
steps_heard host seen (event.Opened conn k) known known' wire wire' entropy entropy' table rollouts table' rollouts' stepped steps streams stands =
    let none : stepped.handled ≡ [] = ap (λ (s : Scene). s.sheet.handled) (steps streams stands).1.1 in
    rw none (All-nil _)
steps_heard host seen (event.Closed conn) known known' wire wire' entropy entropy' table rollouts table' rollouts' stepped steps streams stands =
    let none : stepped.handled ≡ [] = ap (λ (m : Moment). m.scene.sheet.handled) (steps streams stands).1.0 in
    rw none (All-nil _)
steps_heard host seen (event.Piece conn bytes) known known' wire wire' entropy entropy' table rollouts table' rollouts' stepped steps streams stands =
    let it = steps streams stands in by_stream (stream_at streams conn) refl it.1
  where
    by_stream : (o : Option Stream) → stream_at streams conn ≡ o
        → MatchOption o
        ((◌≡◌ {A = Moment} (record { streams = (steps streams stands).0; scene = scene_at wire' entropy' table' rollouts' stepped }) (record { streams = streams; scene = first_scene wire entropy table rollouts })) × (stepped.stop ≡ false))
        (λ stream. (items : List Item) × (end : Ending) × Brings (sight_of seen (numbers_in streams)) stream bytes items
        × ServesAll host stream.kind conn items (first_scene wire entropy table rollouts) (scene_at wire' entropy' table' rollouts' stepped) end
        × ((steps streams stands).0 ≡ after_piece streams conn stream bytes end.stays) × (stepped.stop ≡ end.stop))
        → All (λ h. (h.conn ≡ conn) × IsSome (known_at known h.conn)) stepped.handled
    by_stream None is p =
        let none : stepped.handled ≡ [] = ap (λ (m : Moment). m.scene.sheet.handled) p.0 in
        rw none (All-nil _)
    by_stream (Some stream) is p =
        let there : is_some (stream_at streams conn) ≡ true = ap is_some is in
        let known_there : is_some (known_at known conn) ≡ true = sym (same_known known streams conn (is_some (known_at known conn)) stands refl) ∙ there in
        all_heard (λ (h : Handled). (h.conn ≡ conn) × IsSome (known_at known h.conn)) conn
        (λ h same. (same, subst (λ (c : ℕ). IsSome (known_at known c)) (sym same) known_there))
        host stream.kind p.0 (first_scene wire entropy table rollouts) (scene_at wire' entropy' table' rollouts' stepped) p.1 p.3 (All-nil _)

-- what is done for an event gives none
pub half_gives : (host : Host) (seen : Seen) (e : WireEvent) (streams : Streams) (wire wire' : WireView) (desk desk' : Desk)
    → HalfDoes host seen e (record { streams = streams; wire = wire; desk = desk }) wire' desk' → Gives wire wire' []
half_gives host seen e streams wire wire' desk desk' (inl none) = rw none.0 (gives_none wire)
half_gives host seen e streams wire wire' desk desk' (inr all) =
    rw all.3 (does_none host seen e (moment_of (record { streams = streams; wire = wire; desk = desk })) all.0 all.1 all.2)

pub steps_give : (host : Host) (seen : Seen) (e : WireEvent) (known known' : Known) (old new : Scene) (stepped : Stepped) → Steps host seen e known known' old new stepped
    → (streams : Streams) → StandsFor known streams → Gives old.wire new.wire []
steps_give host seen e known known' old new stepped steps streams stands =
    let it = steps streams stands in
    does_none host seen e (record { streams = streams; scene = old }) (record { streams = it.0; scene = new }) stepped.stop it.1
