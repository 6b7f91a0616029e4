use Rattle.std.proofs.Common.{sym, ◌∙◌}
use Rattle.agent_rounds.proofs.LinkLemmas.{dial_done, dial_refused, read_as}
use Rattle.agent_rounds.proofs.linking.dial_target.Goals as goal

pub returns-in-Ok-clause-dials : goal.returns-in-Ok-clause-dials
returns-in-Ok-clause-dials g c =
    dial_done g.G.Dialer.number c.args.uid.now c.args.target.now _ _ c.in-Some.to c.in_ok-told.told
    (read_as c.in-Some.to c.as_str.result.now c.args.target.now.endpoint (sym c.in-Some.is ∙ c.in_ok-to.ensures) c.as_str.ensures.value c.requires.endpoint)
    c.in_ok-told.ensures.headers c.in-Ok.link c.new.result c.copy-in-Ok.result c.in_ok-endpoint.endpoint c.in_ok-headers.headers
    c.new.ensures.link c.copy-in-Ok.ensures.copied c.in_ok-endpoint.ensures.copied c.in_ok-headers.ensures.copied
    c.in-Ok.ensures.number c.in-Ok.ensures.call

pub returns-clause-dials : goal.returns-clause-dials
returns-clause-dials g c =
    dial_refused g.G.Dialer.number c.args.uid.now c.args.target.now _ _ c.in-Some.to c.in_ok-told.told
    (read_as c.in-Some.to c.as_str.result.now c.args.target.now.endpoint (sym c.in-Some.is ∙ c.in_ok-to.ensures) c.as_str.ensures.value c.requires.endpoint)
    c.in_ok-told.ensures.headers c.in-Err.field-0 c.in-Err.ensures.call
