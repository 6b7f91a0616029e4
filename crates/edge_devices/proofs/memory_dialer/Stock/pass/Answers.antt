use Rattle.std.proofs.Common.{drop, sym, ap, ◌∙◌}
use Rattle.std.proofs.lemmas.List.{drop-drop}
use Rattle.edge_devices.proofs.memory_dialer.Stock.pass.Goals as goal

pub returns : goal.returns
returns c = record { rest = sym (drop-drop 1 c.self.inside.at c.self.inside.blobs.items) ∙ ap (drop 1) c.self.view_is }
