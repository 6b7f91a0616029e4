use Rattle.std.proofs.Common.{subst, sym, [], None}
use Rattle.edge_http.specs.Polled.{PollState, HasPolled, PollTells}
use Rattle.edge_http.proofs.Polling.{polled-nothing, polled-open}
use Rattle.edge_http.proofs.poll_reader.PollReader.responses.Goals as goal

pub returns-clause-nothing : goal.returns-clause-nothing
returns-clause-nothing c =
    subst (λ (s : PollState). HasPolled s [] []) (sym c.over.ensures) (polled-nothing c.responses.result c.responses.ensures.nothing c.responses.ensures.empty)

pub returns-clause-tells : goal.returns-clause-tells
returns-clause-tells c =
    subst (λ (s : PollState). PollTells s [] [] None) (sym c.over.ensures) (polled-open c.responses.result c.responses.ensures.nothing c.responses.ensures.empty c.responses.ensures.unfailed)
