use Rattle.shard_servers.proofs.fleet.run_desks.Given as goal

abbrev pub ghosts-run_shared-A-Ledger : goal.ghosts-run_shared-A-Ledger
ghosts-run_shared-A-Ledger g a = record { name = a.first.name; parts = a.first.parts }

abbrev pub ghosts-run_shared-B-Ledger : goal.ghosts-run_shared-B-Ledger
ghosts-run_shared-B-Ledger g a = record { name = a.second.name; parts = a.second.parts }

abbrev pub ghosts-run_shared-C-Ledger : goal.ghosts-run_shared-C-Ledger
ghosts-run_shared-C-Ledger g a = record { name = a.third.name; parts = a.third.parts }

abbrev pub ghosts-run_shared-D-Ledger : goal.ghosts-run_shared-D-Ledger
ghosts-run_shared-D-Ledger g a = record { name = a.fourth.name; parts = a.fourth.parts }
