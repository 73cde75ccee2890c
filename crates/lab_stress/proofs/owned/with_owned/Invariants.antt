use Rattle.lab_stress.proofs.owned.with_owned.Given as goal

abbrev pub ghosts-open-G-Ledger : goal.ghosts-open-G-Ledger
ghosts-open-G-Ledger g a = record { name = a.unopened.ledger; parts = a.unopened.parts }

abbrev pub ghosts-open-G-Naming : goal.ghosts-open-G-Naming
ghosts-open-G-Naming g a = record { table = a.unopened.table }

abbrev pub ghosts-open-G-PoolNaming : goal.ghosts-open-G-PoolNaming
ghosts-open-G-PoolNaming g a = record { config = a.settings }
