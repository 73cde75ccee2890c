use Rattle.tp_life.proofs.lives.lived.Goals as goal

pub returns-in-Ok-close-clause-lived : goal.returns-in-Ok-close-clause-lived
returns-in-Ok-close-clause-lived g c =
    record { passes = c.in-Ok.lives.3.items; lived = c.in-Ok.ensures.lived; last = c.shut.new.last; closes = c.in-Ok-close.ensures.report }
