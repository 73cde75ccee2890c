use Rattle.test_structures.proofs.glances.glance_loads_afresh.Given as goal

abbrev pub ghosts-look_at_raises-G-Ledger : goal.ghosts-look_at_raises-G-Ledger
ghosts-look_at_raises-G-Ledger g a = record { name = 0; parts = 0 }

abbrev pub ghosts-look_at_raises-G-Naming : goal.ghosts-look_at_raises-G-Naming
ghosts-look_at_raises-G-Naming g a = record { table = a.blank }
