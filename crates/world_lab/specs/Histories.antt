-- What a lab's servers and folder hold.
use Rattle.std.specs.Prelude.{ℕ, List, [], ◌∷◌, None}
use Rattle.edge_devices.specs.Folders.{Files}
use Rattle.server_core.specs.Served.{Served}
use Rattle.server_core.specs.History.{Event as ServerEvent}
use Rattle.server_core.specs.Table.{table_of}
use Rattle.world_lab.specs.Playing.{lab_profile}

abbrev pub server_numbers : List ℕ
server_numbers = 0 ∷ 1 ∷ 2 ∷ 3 ∷ 4 ∷ 5 ∷ 6 ∷ 7 ∷ 8 ∷ 9 ∷ []

-- a server of a lab after what reached it
abbrev pub server_after : List ServerEvent → Served
server_after history = record { profile = lab_profile; table = table_of history }

abbrev pub no_files : Files
no_files = λ name. None
