use Rattle.std.proofs.Common.{ap, ◌∙◌}
use Rattle.server_sessions.specs.declared.answers.stepped.Stepped.{Stepped}
use Rattle.server_sessions.proofs.ItemLemmas.{payload_piece}
use Rattle.server_sessions.proofs.connections.begin_piece.Goals as goal

pub returns-in-Ws-clause-begins : goal.returns-in-Ws-clause-begins
returns-in-Ws-clause-begins g c = λ sight.
    let goes_on = ap (λ (s : Stepped). s.stop) c.serve_payload.ensures.noted ∙ c.requires.stop in
    rw c.in-Ws.is (payload_piece _ sight _ _ _ _ _ _ goes_on c.serve_payload.ensures.serves)

pub returns-in-Http-clause-begins : goal.returns-in-Http-clause-begins
returns-in-Http-clause-begins g c = λ sight.
    let goes_on = ap (λ (s : Stepped). s.stop) c.serve_requests.ensures.noted ∙ c.requires.stop in
    rw (c.in-Http.is, goes_on) (c.serve_requests.ensures.serves sight)
