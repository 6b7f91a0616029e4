use Rattle.edge_devices.proofs.EndpointParts.{path_utf8}
use Rattle.edge_devices.proofs.endpoint_text.path_text_of.Goals as goal

pub text_of-requires : goal.text_of-requires
text_of-requires c = path_utf8 _ c.requires
