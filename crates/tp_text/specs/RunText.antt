-- The whole output of a run: what each answer writes, and what stands at the end.
use Rattle.std.specs.Prelude.{◌≡◌, ℕ, suc, List, [], ◌∷◌, ◌++◌, length, Result, Ok, Err}
use Rattle.tp_types.specs.declared.configs.Config.{Config}
use Rattle.tp_types.specs.declared.refusals.PoolError.{PoolError}
use Rattle.tp_record.specs.declared.entries.Did.{Did}
use Rattle.tp_record.specs.declared.entries.Did.TheVariants as did
use Rattle.tp_record.specs.declared.entries.Entry.{Entry}
use Rattle.tp_record.specs.declared.rows.TaskRow.{TaskRow}
use Rattle.tp_record.specs.Fields.{queue}
use Rattle.tp_record.specs.State.{State, state, counts, fate_of}
use Rattle.tp_text.specs.EntryLine.{entry_line}
use Rattle.tp_text.specs.EndLines.{refusal_line, back_line, fate_line, state_line, state_at, counts_line}

-- the answer to an ask: the entry that it added to the record, or its refusal
abbrev pub Answer : Type 0
Answer = Result Entry PoolError

-- the tasks that an entry hands back: at a stop the whole queue of the history before it
abbrev pub drained : Config → List Entry → Did → List ℕ
drained c h (did.Stop n) = queue c h
drained c h _ = []

-- the line of tasks that were handed back, where there are any
abbrev pub back_lines : List ℕ → List ℕ
back_lines [] = []
back_lines (t ∷ ts) = back_line (t ∷ ts)

-- what an answer after the history h writes
abbrev pub answer_lines : Config → List Entry → Answer → List ℕ
answer_lines c h (Ok e) = entry_line (suc (length h)) e ++ back_lines (drained c h e.did)
answer_lines c h (Err r) = refusal_line r

-- the history after an answer
abbrev pub after : List Entry → Answer → List Entry
after h (Ok e) = e ∷ h
after h (Err r) = h

-- the history after these answers, the first of which comes first
abbrev pub after_all : List Entry → List Answer → List Entry
after_all h [] = h
after_all h (a ∷ answers) = after_all (after h a) answers

-- what these answers write, the first of which comes first
abbrev pub run_lines : Config → List Entry → List Answer → List ℕ
run_lines c h [] = []
run_lines c h (a ∷ answers) = answer_lines c h a ++ run_lines c (after h a) answers

-- the fates of the tasks from number t on
abbrev pub fate_lines : ℕ → List TaskRow → List ℕ
fate_lines t [] = []
fate_lines t (r ∷ rows) = fate_line t (fate_of r) ++ fate_lines (suc t) rows

-- what a state writes at the end of a run: each task's fate, the run state and the counters
abbrev pub end_lines : State → List ℕ
end_lines s = fate_lines 0 s.tasks ++ (state_line (state_at s.rank) ++ counts_line (counts s))

-- the output of a whole run of a pool that was made with c, by its answers, the first of which comes first
abbrev pub output : Config → List Answer → List ℕ
output c answers = run_lines c [] answers ++ end_lines (state c (after_all [] answers))

-- a text begins with this one
abbrev pub IsFront : List ℕ → List ℕ → Type 0
IsFront front text = (rest : List ℕ) × (text ≡ front ++ rest)
