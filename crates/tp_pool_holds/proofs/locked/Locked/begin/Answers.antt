use Rattle.tp_pool_holds.proofs.locked.Locked.begin.Goals as goal

pub returns-clause-worked : goal.returns-clause-worked
returns-clause-worked g c = (c.step.result, (c.step.ensures.holds, c.step.ensures.denies), c.begun_from.ensures)
