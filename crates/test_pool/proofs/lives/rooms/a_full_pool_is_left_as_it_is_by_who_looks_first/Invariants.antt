use Rattle.test_pool.proofs.lives.rooms.a_full_pool_is_left_as_it_is_by_who_looks_first.Given as goal

abbrev pub ghosts-life-G-Ledger : goal.ghosts-life-G-Ledger
ghosts-life-G-Ledger g a = record { name = a.unopened.ledger; parts = a.unopened.parts }

abbrev pub ghosts-life-G-Naming : goal.ghosts-life-G-Naming
ghosts-life-G-Naming g a = record { table = a.unopened.table }

abbrev pub ghosts-life-G-PoolNaming : goal.ghosts-life-G-PoolNaming
ghosts-life-G-PoolNaming g a = record { config = a.settings }
