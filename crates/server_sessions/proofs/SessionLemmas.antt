-- Sessions: more answers allowed, and one more event.
use Rattle.std.proofs.Common.{◌≡◌, ℕ, List, [], ◌∷◌, Bool, true, false, not, ◌&&◌, Option, None, Some, MatchBool, MatchOption, inl, inr}
use Rattle.message_values.specs.declared.custom.CustomMessage.{CustomMessage}
use Rattle.message_values.specs.declared.report.AgentToServer.{AgentToServer}
use Rattle.message_values.specs.declared.reply.ServerToAgent.{ServerToAgent}
use Rattle.edge_devices.specs.declared.wires.Kind.{Kind}
use Rattle.server_core.specs.declared.replies.Profile.{Profile}
use Rattle.server_sessions.specs.declared.answers.stepped.Handled.{Handled}
use Rattle.server_sessions.specs.Streams.{Item, Payload, Line, LongLine, Partial, Request, Broken, Unread}
use Rattle.edge_http.specs.declared.messages.HttpMessage.{HttpMessage}
use Rattle.edge_http.specs.Writing.{response_text}
use Rattle.server_sessions.specs.Requests.{AnswersBody, AnswersRequest, refusal_of}
use Rattle.server_sessions.specs.Reports.{Host, Intake, IsAnswer, Replies, intake_in}
use Rattle.server_sessions.specs.Answers.{Sheet, Answer, AnswersPayload, Answers, Gets}
use Rattle.server_sessions.specs.Session.{Scene, Ending, Serves, ServesAll}

module _ (profile : Profile) (narrow wide : CustomMessage → Option CustomMessage → Type 0) (more : (m : CustomMessage) (a : Option CustomMessage) → narrow m a → wide m a) where
  abbrev pub few : Host
  few = record { profile = profile; answers = narrow }

  abbrev pub many : Host
  many = record { profile = profile; answers = wide }

  wider_answer : (m : Option CustomMessage) (answer : Option CustomMessage) → IsAnswer narrow m answer → IsAnswer wide m answer
  wider_answer None answer p = p
  wider_answer (Some message) answer p = more message answer p

  wider_replies : (m : AgentToServer) (old new : Intake) (reply : ServerToAgent) → Replies few m old new reply → Replies many m old new reply
  wider_replies m old new reply p =
      record { fresh = p.fresh; answer = p.answer; draws = p.draws; asked = wider_answer m.custom_message p.answer p.asked; table = p.table; carried = p.carried }

  wider_payload : (conn : ℕ) (bytes : List ℕ) (old new : Intake) (handled noted : List Handled) (answer : List ℕ)
      → AnswersPayload few conn bytes old new handled noted answer → AnswersPayload many conn bytes old new handled noted answer
  wider_payload conn bytes old new handled noted answer (inl p) = inl p
  wider_payload conn bytes old new handled noted answer (inr p) = inr (p.0, p.1, (p.2.0, wider_replies p.0 old new p.2.0 p.2.1, p.2.2, p.2.3))

  wider_request : (conn : ℕ) (m : HttpMessage) (old new : Intake) (handled noted : List Handled) (answer : List ℕ)
      → AnswersRequest few conn m old new handled noted answer → AnswersRequest many conn m old new handled noted answer
  wider_request conn m old new handled noted answer p = by_refusal (refusal_of m) p
    where
      by_body : AnswersBody few conn m.body m.close old new handled noted answer → AnswersBody many conn m.body m.close old new handled noted answer
      by_body (inl q) = inl q
      by_body (inr q) = inr (q.0, q.1, (q.2.0, wider_replies q.0 old new q.2.0 q.2.1, q.2.2, q.2.3))

      by_refusal : (o : Option ℕ)
          → MatchOption o (AnswersBody few conn m.body m.close old new handled noted answer) (λ status. (new ≡ old) × (noted ≡ handled) × (answer ≡ response_text status [] m.close))
          → MatchOption o (AnswersBody many conn m.body m.close old new handled noted answer) (λ status. (new ≡ old) × (noted ≡ handled) × (answer ≡ response_text status [] m.close))
      by_refusal None q = by_body q
      by_refusal (Some status) q = q

  wider_answers : (conn : ℕ) (item : Item) (old new : Sheet) (answer : Answer) → Answers few conn item old new answer → Answers many conn item old new answer
  wider_answers conn (Payload bytes) old new answer p = (p.0, wider_payload conn bytes (intake_in old.desk) (intake_in new.desk) old.handled new.handled p.0 p.1, p.2, p.3)
  wider_answers conn (Line line sight) old new answer p = p
  wider_answers conn LongLine old new answer p = p
  wider_answers conn (Request m) old new answer p = (p.0, wider_request conn m (intake_in old.desk) (intake_in new.desk) old.handled new.handled p.0 p.1, p.2, p.3)
  wider_answers conn (Broken why) old new answer p = p
  wider_answers conn Partial old new answer p = p
  wider_answers conn Unread old new answer p = p

  wider_gets : (k : Kind) (conn : ℕ) (item : Item) (old new : Sheet) (answer : Answer) → Gets few k conn item old new answer → Gets many k conn item old new answer
  wider_gets k conn item old new answer (inl p) = inl (wider_answers conn item old new answer p)
  wider_gets k conn item old new answer (inr p) = inr p

  pub wider_serves : (k : Kind) (conn : ℕ) (item : Item) (old new : Scene) (end : Ending) → Serves few k conn item old new end → Serves many k conn item old new end
  wider_serves k conn item old new end p =
      record { answer = p.answer; gets = wider_gets k conn item old.sheet new.sheet p.answer p.gets; goes_out = p.goes_out; stop = p.stop }

  pub wider_all : (k : Kind) (conn : ℕ) (items : List Item) (old new : Scene) (end : Ending) → ServesAll few k conn items old new end → ServesAll many k conn items old new end
  wider_all k conn [] old new end p = p
  wider_all k conn (item ∷ items) old new end p =
      (p.0, p.1, wider_serves k conn item old p.0 p.1 p.2, by_end (p.1.stays && not p.1.stop) (wider_all k conn items p.0 new end) p.3)
    where
      by_end : (b : Bool) → (ServesAll few k conn items p.0 new end → ServesAll many k conn items p.0 new end)
          → MatchBool b (ServesAll few k conn items p.0 new end) ((new ≡ p.0) × (end ≡ p.1))
          → MatchBool b (ServesAll many k conn items p.0 new end) ((new ≡ p.0) × (end ≡ p.1))
      by_end true rest q = rest q
      by_end false rest q = q
