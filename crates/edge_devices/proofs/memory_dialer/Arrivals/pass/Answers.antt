use Rattle.std.proofs.Common.{drop, sym, ap, ◌∙◌}
use Rattle.std.proofs.lemmas.List.{drop-drop}
use Rattle.edge_devices.proofs.memory_dialer.Arrivals.pass.Goals as goal

pub returns-then-self-len : goal.returns-then-self-len
returns-then-self-len c = record { rest = sym (drop-drop 1 c.self.inside.at c.self.inside.messages.items) ∙ ap (drop 1) c.self.view_is }
