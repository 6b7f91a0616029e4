use Rattle.std.proofs.Common.{◌∙◌}
use Rattle.edge_dialer.proofs.Somewhere.{answered-somewhere}
use Rattle.edge_dialer.proofs.http_link.HttpLink.exchange.Goals as goal

pub returns-clause-answered : goal.returns-clause-answered
returns-clause-answered g c =
    answered-somewhere c.in_ok-done.done.answer c.in_ok-done.ensures.exchanged (c.as_slice.ensures.value ∙ c.in_ok-request.ensures.written)
