use Rattle.std.proofs.Common.{List, ℕ, refl, sym, subst}
use Rattle.std.specs.Prelude.{is_ok}
use Rattle.std.proofs.lemmas.Result.{IfErr-at_err, IfOk-weaker}
use Rattle.server_core.specs.declared.offers.Offers as of
use Rattle.edge_shelf.specs.MemoryShelves.{memory_shelf}
use Rattle.edge_shelf.specs.Shelves.{ShelfState}
use Rattle.server_kept.specs.Files.{IsUid, file_name}
use Rattle.server_kept.specs.Opening.{OpenFails}
use Rattle.server_kept.specs.Standing.{Leaves}
use Rattle.server_kept.proofs.StopLemmas.{FormerOrNext, former_or_next, left_file, never_wrong, none_lost}
use Rattle.server_kept.proofs.stopping.stop_and_open.Goals as goal
use Rattle.server_kept.proofs.stopping.stop_and_open.Goals.{After-open}

each : (c : After-open) (standing : List ℕ → of.Offers) → Leaves standing (memory_shelf c.args.shelf.now) → (other : List ℕ) → IsUid other
    → FormerOrNext standing c.args.uid.now c.args.offers.now other ((memory_shelf c.crash.new.self).files (file_name other))
each c standing leaves =
    left_file standing c.args.uid.now c.args.offers.now (is_ok c.keep.result) (memory_shelf c.arm.new.self) (memory_shelf c.keep.new.shelf) (memory_shelf c.crash.new.self).files
    c.keep.ensures.agent (subst (λ (s : ShelfState). Leaves standing s) (sym c.arm.ensures.same) leaves) refl c.keep.ensures.keeps c.in-Ok.ensures.left

pub returns-in-Ok-clause-found : goal.returns-in-Ok-clause-found
returns-in-Ok-clause-found c =
    IfOk-weaker c.open.result _ _ (λ found opened standing leaves.
    former_or_next standing c.args.uid.now c.args.offers.now (memory_shelf c.crash.new.self).files found c.one_reply.ensures.one (each c standing leaves) (opened refl)) c.open.ensures.opened

pub returns-in-Ok-clause-none_lost : goal.returns-in-Ok-clause-none_lost
returns-in-Ok-clause-none_lost c =
    IfOk-weaker c.open.result _ _ (λ found opened standing leaves.
    none_lost standing c.args.uid.now c.args.offers.now (memory_shelf c.crash.new.self).files found c.one_reply.ensures.one (each c standing leaves) (opened refl)) c.open.ensures.opened

pub returns-in-Ok-clause-right : goal.returns-in-Ok-clause-right
returns-in-Ok-clause-right c = λ name failed standing leaves.
    never_wrong standing c.args.uid.now c.args.offers.now (memory_shelf c.crash.new.self).files name (each c standing leaves)
    (IfErr-at_err (OpenFails (memory_shelf c.crash.new.self) (memory_shelf c.open.new.shelf)) failed c.open.ensures.failed refl)
