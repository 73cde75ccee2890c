use Rattle.test_pool.proofs.lives.stranded.tasks_that_a_failed_worker_leaves_are_handed_back.Given as goal

abbrev pub ghosts-three_faults-G-Ledger : goal.ghosts-three_faults-G-Ledger
ghosts-three_faults-G-Ledger g a = record { name = a.unopened.ledger; parts = a.unopened.parts }

abbrev pub ghosts-three_faults-G-Naming : goal.ghosts-three_faults-G-Naming
ghosts-three_faults-G-Naming g a = record { table = a.unopened.table }

abbrev pub ghosts-three_faults-G-PoolNaming : goal.ghosts-three_faults-G-PoolNaming
ghosts-three_faults-G-PoolNaming g a = record { config = a.settings }
