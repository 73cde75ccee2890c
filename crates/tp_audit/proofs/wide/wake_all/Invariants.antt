use Rattle.std.proofs.Common.{◌<◌, ◌^◌, [], None, length}
use Rattle.std.specs.Prelude.{count_by, is_some}
use Rattle.tp_record.specs.State.{slot_after}
use Rattle.tp_audit.specs.Readings.{read}
use Rattle.tp_audit.proofs.Sweeping.{Swept}
use Rattle.tp_audit.proofs.wide.wake_all.Given as goal

abbrev pub invariant-loop-w : goal.invariant-loop-w
invariant-loop-w l =
    record {
      few : count_by is_some l.slots < 2 ^ 32;
      swept : Swept (slot_after l.did (read l.moment l.tasks [])) None l.fn.slots l.fn.idling l.idling l.slots;
    }

abbrev pub decreases-loop-w : goal.decreases-loop-w
decreases-loop-w l = length l.idling
