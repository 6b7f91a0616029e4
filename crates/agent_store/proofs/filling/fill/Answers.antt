use Rattle.std.proofs.Common.{◌≡◌, [], ◌∙◌, ap}
use Rattle.message_codec.specs.Row.{Row}
use Rattle.agent_store.proofs.Results.{on-err-map}
use Rattle.agent_store.proofs.filling.fill.Goals as goal

pub returns-clause-err : goal.returns-clause-err
returns-clause-err g c =
    on-err-map c.put.result (c.put.new.out ≡ c.clear.new.self) (c.put.new.out.bytes ≡ [])
    (λ same. ap (λ (r : Row). r.bytes) same ∙ ap (λ (r : Row). r.bytes) c.clear.ensures.cleared) c.put.ensures.appends.err
