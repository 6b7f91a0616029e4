use Rattle.std.proofs.Common.{ℕ, List, sym, subst}
use Rattle.edge_devices.specs.Folders.{AreGood}
use Rattle.edge_shelf.proofs.Naming.{good_more}
use Rattle.edge_shelf.proofs.file_shelf.push_good.Goals as goal

pub returns-in-Ok : goal.returns-in-Ok
returns-in-Ok c = record { good = subst (λ (names : List (List ℕ)). AreGood names) (sym c.in-Ok.ensures.ok) (good_more c.args.names.now c.args.name c.requires.names c.requires.name) }

pub returns-in-Err : goal.returns-in-Err
returns-in-Err c = record { good = subst (λ (names : List (List ℕ)). AreGood names) (sym c.in-Err.ensures.err) c.requires.names }
