use Rattle.std.proofs.Common.{ℕ, ap, subst}
use Rattle.std.specs.Prelude.{nat_lt}
use Rattle.tp_types.specs.declared.states.Counts.{Counts}
use Rattle.tp_waking.specs.Rests.{IsSettled}
use Rattle.tp_pool_holds.proofs.locked.Locked.again.Goals as goal

-- who sleeps is settled by the count of tasks that wait, which is the book's
pub invariant_of-result : goal.invariant_of-result
invariant_of-result g c = (
  c.requires.settings,
  c.requires.good,
  subst (λ (n : ℕ). IsSettled (nat_lt 0 n) c.settle.new.self.sleepers) (ap (λ (k : Counts). k.queued) c.counts.ensures) c.settle.ensures.settled,
)
