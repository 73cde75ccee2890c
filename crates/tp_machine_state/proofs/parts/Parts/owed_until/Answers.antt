use Rattle.std.proofs.Common.{◌≤◌, cond, Option, Some, None, arith}
use Rattle.std.proofs.lemmas.List.Sums.{sum_by-le-sum_by}
use Rattle.tp_types.specs.declared.ids.TaskId.{TaskId}
use Rattle.tp_record.specs.declared.rows.SlotRow.{SlotRow}
use Rattle.tp_record.specs.declared.rows.Stage.{Stage}
use Rattle.tp_record.specs.Fields.{is_live, is_live_stage}
use Rattle.tp_types.specs.declared.states.RunState.{RunState}
use Rattle.tp_types.specs.RunState.{state_rank}
use Rattle.tp_slots.specs.Table.{is_at_take}
use Rattle.tp_machine_state.proofs.Few.{few_live, few_workers}
use Rattle.tp_machine_state.proofs.parts.Parts.owed_until.Goals as goal
use Rattle.tp_machine_state.proofs.parts.Parts.owed_until.Goals.{then-eq, else-eq}

-- a worker that is about to take is live
live_too : (o : Option SlotRow) → cond (is_at_take o) 1 0 ≤ cond (is_live o) 1 0
live_too None = omega arith
live_too (Some r) = by_row r.stage r.task
  where
    by_row : (g : Stage) (t : Option TaskId) → cond (is_at_take (Some (record { stage = g; task = t }))) 1 0 ≤ cond (is_live_stage g) 1 0
    by_row g t = grind arith

pub overflow_add-result : goal.overflow_add-result
overflow_add-result g c =
    let p = c.args.self.now in
    let taking = sum_by-le-sum_by (λ o. cond (is_at_take o) 1 0) (λ o. cond (is_live o) 1 0) p.slots.slots live_too in
    let live = few_live p c.requires.stands in
    let workers = few_workers p c.requires.stands in
    elim c.if-eq.branch [
      | then-eq w ↦ let n = w.at_take-workers.ensures.count in let is = w.workers-is in omega (arith, taking, live, workers, n, is)
      | else-eq w ↦ let is = w.workers-is in omega (arith, is)
    ]

pub returns-clause-few : goal.returns-clause-few
returns-clause-few g c =
    let p = c.args.self.now in
    let taking = sum_by-le-sum_by (λ o. cond (is_at_take o) 1 0) (λ o. cond (is_live o) 1 0) p.slots.slots live_too in
    let live = few_live p c.requires.stands in
    let workers = few_workers p c.requires.stands in
    let rank = c.rank.ensures in
    let most = at_most_4 c.args.state in
    elim c.if-eq.branch [
      | then-eq w ↦ let n = w.at_take-workers.ensures.count in let is = w.workers-is in omega (arith, taking, live, workers, n, is, rank, most)
      | else-eq w ↦ let is = w.workers-is in omega (arith, is, rank, most)
    ]
  where
    at_most_4 : (s : RunState) → state_rank s ≤ 4
    at_most_4 s = grind arith
