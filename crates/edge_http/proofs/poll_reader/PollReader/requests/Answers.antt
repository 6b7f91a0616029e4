use Rattle.std.proofs.Common.{subst, sym, [], None}
use Rattle.edge_http.specs.Polled.{PollState, HasPolled, PollTells}
use Rattle.edge_http.proofs.Polling.{polled-nothing, polled-open}
use Rattle.edge_http.proofs.poll_reader.PollReader.requests.Goals as goal

pub returns-clause-nothing : goal.returns-clause-nothing
returns-clause-nothing c =
    subst (λ (s : PollState). HasPolled s [] []) (sym c.over.ensures) (polled-nothing c.requests.result c.requests.ensures.nothing c.requests.ensures.empty)

pub returns-clause-tells : goal.returns-clause-tells
returns-clause-tells c =
    subst (λ (s : PollState). PollTells s [] [] None) (sym c.over.ensures) (polled-open c.requests.result c.requests.ensures.nothing c.requests.ensures.empty c.requests.ensures.unfailed)
