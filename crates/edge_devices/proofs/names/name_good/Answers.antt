use Rattle.std.proofs.Common.{◌≡◌, subst}
use Rattle.edge_devices.specs.Names.{is_good_name}
use Rattle.edge_devices.proofs.Naming.{good_is}
use Rattle.edge_devices.proofs.names.name_good.Goals as goal

pub returns : goal.returns
returns c =
    subst (λ name. c.are_name_characters.result ≡ is_good_name name) c.as_bytes-bytes.ensures.value
    (good_is c.as_bytes-bytes.result.now _ _ _ c.is_short.ensures c.is_hidden.ensures c.are_name_characters.ensures c.if-not-is_short.false c.if-is_hidden.false)
