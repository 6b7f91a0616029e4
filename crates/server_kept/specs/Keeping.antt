-- What keeping makes of the shelf.
use Rattle.std.specs.Prelude.{◌≡◌, ◌⊎◌, ℕ, ◌≤◌, List, [], ◌∷◌, Bool, true, false, IsTrue}
use Rattle.message_codec.specs.declared.writer.encoding.WriteFail.{WriteFail}
use Rattle.message_codec.specs.declared.writer.encoding.WriteFail.TheVariants as write
use Rattle.server_core.specs.declared.offers.Offers.{Offers}
use Rattle.edge_shelf.specs.Shelves.{Body, IsAmong, SameOthers, ShelfState}
use Rattle.server_kept.specs.Files.{StandsFor, file_name}
use Rattle.server_kept.specs.declared.keeping.KeepFail.{KeepFail}
use Rattle.server_kept.specs.declared.keeping.KeepFail.TheVariants.{TooLarge, NoMemory}

abbrev pub write_fail : WriteFail → KeepFail
write_fail write.TooLarge = TooLarge
write_fail write.TooDeep = TooLarge
write_fail write.NoMemory = NoMemory

-- These offers were to stand for the agent. Done: its file stands for them, and a stop leaves it. Not done: a stop leaves what it might have left
-- before, or a file that stands for them. Other files are as they were.
pub record Keeps (uid : List ℕ) (offers : Offers) (done : Bool) (old new : ShelfState) : Type 0 where
  pub told : new.told ≡ old.told
  pub read : done ≡ true → IsTrue old.told → StandsFor uid offers (new.files (file_name uid))
  pub settled : done ≡ true → IsTrue old.told → new.left (file_name uid) ≡ new.files (file_name uid) ∷ []
  pub not_done : done ≡ false → IsTrue old.told → (b : Body) → IsAmong b (new.left (file_name uid)) → IsAmong b (old.left (file_name uid)) ⊎ StandsFor uid offers b
  pub others : SameOthers (file_name uid) old new
  pub later : old.faults ≤ new.faults
