use Rattle.test_pool.proofs.harness.forgetting.lived.Given as goal

abbrev pub ghosts-live-G-Ledger : goal.ghosts-live-G-Ledger
ghosts-live-G-Ledger g a = record { name = a.unopened.ledger; parts = a.unopened.parts }

abbrev pub ghosts-live-G-Naming : goal.ghosts-live-G-Naming
ghosts-live-G-Naming g a = record { table = a.unopened.table }

abbrev pub ghosts-live-G-PoolNaming : goal.ghosts-live-G-PoolNaming
ghosts-live-G-PoolNaming g a = record { config = a.settings }
