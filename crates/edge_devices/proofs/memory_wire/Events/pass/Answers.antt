use Rattle.std.proofs.Common.{drop, sym, ap, ◌∙◌}
use Rattle.std.proofs.lemmas.List.{drop-drop}
use Rattle.edge_devices.proofs.memory_wire.Events.pass.Goals as goal

pub returns : goal.returns
returns c = record { rest = sym (drop-drop 1 c.self.inside.at c.self.inside.items.items) ∙ ap (drop 1) c.self.view_is }
