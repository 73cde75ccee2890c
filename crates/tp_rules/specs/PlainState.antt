-- What a plain state shows, and how large a state is.
use Rattle.std.specs.Prelude.{ℕ, suc, ◌≡◌, ◌⊎◌, ◌≤◌, ◌<◌, ◌^◌, List, [], ◌∷◌, length, Option, Some, None, Result, Ok, Err, MatchResult}
use Rattle.tp_record.specs.declared.rows.SlotRow.{SlotRow}
use Rattle.tp_types.specs.declared.refusals.PoolError.{PoolError}
use Rattle.tp_types.specs.declared.refusals.PoolError.TheVariants.{NoMemory}
use Rattle.tp_record.specs.State.{State, row_at}
use Rattle.tp_rules.specs.declared.plain_state.PlainState.{PlainState}

-- the model's state that a plain state holds
abbrev pub shown : PlainState → State
shown s =
    record {
      steps = s.steps;
      rank = s.rank;
      core = s.core;
      maximum = s.maximum;
      keep = s.keep;
      core_timeout = s.core_timeout;
      now = s.moment;
      tasks = s.tasks.items;
      ranked = s.ranked;
      queue = s.queue.items;
      slots = s.slots.items;
      idling = s.idling.items;
      done = s.done.items;
      completions = s.completions;
      largest = s.largest;
      left_out = [];
      forgotten = λ f. 0;
    }

-- each count of the state is at most n, and its slots fit a table
pub record IsSmall (n : ℕ) (s : State) : Type 0 where
  pub steps : s.steps ≤ n
  pub tasks : length s.tasks ≤ n
  pub retries : (t : ℕ) → (row_at s.tasks t).retries ≤ n
  pub queue : length s.queue ≤ n
  pub slots : length s.slots < 2 ^ 32
  pub completions : s.completions ≤ n

-- the program's answer is the step's, or want of memory where it may lack some
abbrev pub IsAnswer : {D : Type 0} → Type 0 → Result D PoolError → Result D PoolError → Type 0
IsAnswer Lacks r a = MatchResult r (λ d. a ≡ Ok d) (λ e. (a ≡ Err e) ⊎ ((e ≡ NoMemory) × Lacks))

-- the least number that is no slot
abbrev pub least_free : List (Option SlotRow) → ℕ
least_free [] = 0
least_free (None ∷ slots) = 0
least_free (Some r ∷ slots) = suc (least_free slots)
