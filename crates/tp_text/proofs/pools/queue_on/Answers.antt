use Rattle.std.proofs.Common.{refl}
use Rattle.tp_text.proofs.PoolLaws.{no_queue, queue_alone, no_capacity, no_queue_word}
use Rattle.tp_text.proofs.pools.queue_on.Goals as goal

pub returns-in_err-rest : goal.returns-in_err-rest
returns-in_err-rest c = rw c.from_residual.ensures (no_queue _ _ _ c.first_word.ensures (queue_alone _ _ (rw c.in_err-rest.was refl)))

pub returns-in_err-capacity-in-bounded : goal.returns-in_err-capacity-in-bounded
returns-in_err-capacity-in-bounded c = rw c.from_residual-in_err-capacity-in-bounded.ensures (no_queue _ _ _ c.first_word.ensures (no_capacity _ _ c.in_ok-rest.rest.now c.in-bounded.is (rw c.in_ok-rest.was refl) c.in_err-capacity-in-bounded.ensures))

pub returns-in_default : goal.returns-in_default
returns-in_default c = no_queue _ _ _ c.first_word.ensures (no_queue_word _ _ c.in_default.not-handoff c.in_default.not-unbounded c.in_default.not-bounded c.in_default.not-priority)
