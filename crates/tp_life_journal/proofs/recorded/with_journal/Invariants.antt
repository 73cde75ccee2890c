use Rattle.tp_life_journal.proofs.recorded.with_journal.Given as goal

abbrev pub ghosts-opened-G-Ledger : goal.ghosts-opened-G-Ledger
ghosts-opened-G-Ledger g a = record { name = a.unopened.ledger; parts = a.unopened.parts }

abbrev pub ghosts-opened-G-Naming : goal.ghosts-opened-G-Naming
ghosts-opened-G-Naming g a = record { table = a.unopened.table }

abbrev pub ghosts-opened-G-PoolNaming : goal.ghosts-opened-G-PoolNaming
ghosts-opened-G-PoolNaming g a = record { config = a.settings }
