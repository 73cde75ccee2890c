use Rattle.std.proofs.Common.{◌≡◌, ◌⊎◌, ◌<◌, refl, subst}
use Rattle.tp_types.specs.declared.refusals.PoolError.TheVariants.{NoMemory}
use Rattle.tp_pool_holds.specs.Moments.{AtFront}
use Rattle.tp_pool.specs.Timed.{IsUndoneInTime}
use Rattle.tp_life.proofs.groups.Group.next_for.Goals as goal

pub returns-in-Err-NothingOpen-clause-told : goal.returns-in-Err-NothingOpen-clause-told
returns-in-Err-NothingOpen-clause-told g c =
    let terms = g.P.Controls.terms in
    let front = (g.P.Controls.pass c.take_for.new.self).front in
    let refused = subst (λ e. ((e ≡ NoMemory) × ((g.P.Controls.pass c.args.pool.now).room < 1)) ⊎ AtFront terms front (λ s. IsUndoneInTime terms s c.args.self.now.number e)) c.in-Err-NothingOpen.field-0-is c.in-Err-NothingOpen.ensures.refused in
    (refused, c.in-Err-NothingOpen.ensures.unchanged, refl)
