use Rattle.std.proofs.Common.{◌≡◌, sym, ◌∙◌, ap}
use Rattle.server_kept.specs.Files.{file_name}
use Rattle.server_kept.proofs.Naming.{own_name, read_name}
use Rattle.server_kept.proofs.names.agent_of.Goals as goal

pub returns-in-Err-clause-none : goal.returns-in-Err-clause-none
returns-in-Err-clause-none c = λ uid iu named.
    read_name c.in-Err.field-0 c.as_str.result.now uid iu (named ∙ sym c.as_str.ensures.value) (sym c.from_hex.ensures ∙ c.in-Err.is)

pub returns-clause-none : goal.returns-clause-none
returns-clause-none c = λ uid iu named.
    let bytes : c.in-Ok.bytes ≡ uid = own_name c.in-Ok.bytes c.as_str.result.now uid iu (named ∙ sym c.as_str.ensures.value) (sym c.from_hex.ensures ∙ c.in-Ok.is) in
    let lower : c.in_ok-lower.lower ≡ c.args.name.now = c.in_ok-lower.ensures.name ∙ ap file_name (c.of-uid.ensures.value ∙ bytes) ∙ named in
    cc (sym c.if-same.false ∙ c.same.ensures.same.1 lower)
