use Rattle.poolrun_program.proofs.texts.ended_at.Goals as goal

pub returns-in-Ok : goal.returns-in-Ok
returns-in-Ok g c = rw c.in-Ok.is (rw c.in-Some.is c.ended_by.ensures)
