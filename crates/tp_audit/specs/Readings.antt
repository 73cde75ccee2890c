-- A state of which the moment, the tasks and the slots alone are read.
use Rattle.std.specs.Prelude.{ℕ, zero, false, List, [], Option}
use Rattle.tp_record.specs.declared.rows.TaskRow.{TaskRow}
use Rattle.tp_record.specs.declared.rows.SlotRow.{SlotRow}
use Rattle.tp_record.specs.State.{State}

abbrev pub read : ℕ → List TaskRow → List (Option SlotRow) → State
read moment tasks slots =
    record {
      steps = zero;
      rank = zero;
      core = zero;
      maximum = zero;
      keep = zero;
      core_timeout = false;
      now = moment;
      tasks = tasks;
      ranked = false;
      queue = [];
      slots = slots;
      idling = [];
      done = [];
      completions = zero;
      largest = zero;
      left_out = [];
      forgotten = λ f. zero;
    }
