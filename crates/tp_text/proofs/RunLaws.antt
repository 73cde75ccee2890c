-- Laws of the output of a run: how it grows answer by answer, and at the end task by task.
use Rattle.std.proofs.Common.{◌≡◌, ℕ, suc, zero, ◌+◌, ◌<◌, List, [], ◌∷◌, ◌++◌, length, take, refl, ap, sym, ◌∙◌, append_assoc, append-nil, arith}
use Rattle.tp_types.specs.declared.configs.Config.{Config}
use Rattle.tp_types.specs.declared.states.RunState.{RunState}
use Rattle.tp_types.specs.declared.states.RunState.TheVariants.{Running, Shutdown, Stop, Tidying, Terminated}
use Rattle.tp_types.specs.RunState.{state_rank}
use Rattle.tp_record.specs.declared.entries.Entry.{Entry}
use Rattle.tp_record.specs.declared.rows.TaskRow.{TaskRow}
use Rattle.tp_record.specs.State.{State, state, counts, fate_of, row_at}
use Rattle.tp_text.specs.EndLines.{fate_line, state_line, state_at, counts_line}
use Rattle.tp_text.specs.RunText.{Answer, answer_lines, after, after_all, run_lines, fate_lines, end_lines, output, IsFront}

-- the history after answers is that after the later ones, from that after the earlier ones
pub after_all-append : (h : List Entry) (xs ys : List Answer) → after_all h (xs ++ ys) ≡ after_all (after_all h xs) ys
after_all-append h [] ys = refl
after_all-append h (x ∷ xs) ys = after_all-append (after h x) xs ys

-- what answers write is what the earlier ones write, and then what the later ones do
pub run_lines-append : (c : Config) (h : List Entry) (xs ys : List Answer) → run_lines c h (xs ++ ys) ≡ run_lines c h xs ++ run_lines c (after_all h xs) ys
run_lines-append c h [] ys = refl
run_lines-append c h (x ∷ xs) ys =
    ap (λ v. answer_lines c h x ++ v) (run_lines-append c (after h x) xs ys)
    ∙ sym (append_assoc (answer_lines c h x) (run_lines c (after h x) xs) (run_lines c (after_all (after h x) xs) ys))

-- one more answer
pub after_all-push : (h : List Entry) (xs : List Answer) (a : Answer) → after_all h (xs ++ a ∷ []) ≡ after (after_all h xs) a
after_all-push h xs a = after_all-append h xs (a ∷ [])

pub run_lines-push : (c : Config) (h : List Entry) (xs : List Answer) (a : Answer) → run_lines c h (xs ++ a ∷ []) ≡ run_lines c h xs ++ answer_lines c (after_all h xs) a
run_lines-push c h xs a = run_lines-append c h xs (a ∷ []) ∙ ap (λ v. run_lines c h xs ++ v) (append-nil (answer_lines c (after_all h xs) a))

-- one more task
pub fate_lines-more : (t i : ℕ) (rows : List TaskRow) → i < length rows → fate_lines t (take (suc i) rows) ≡ fate_lines t (take i rows) ++ fate_line (t + i) (fate_of (row_at rows i))
fate_lines-more t i [] below = absurd (omega arith)
fate_lines-more t zero (r ∷ rows) below =
    append-nil (fate_line t (fate_of r)) ∙ ap (λ n. fate_line n (fate_of r)) (omega arith)
fate_lines-more t (suc i) (r ∷ rows) below =
    ap (λ v. fate_line t (fate_of r) ++ v)
    (fate_lines-more (suc t) i rows (omega arith)
    ∙ ap (λ n. fate_lines (suc t) (take i rows) ++ fate_line n (fate_of (row_at rows i))) (omega arith))
    ∙ sym (append_assoc (fate_line t (fate_of r)) (fate_lines (suc t) (take i rows)) (fate_line (t + suc i) (fate_of (row_at rows i))))

pub fate_lines-push : (i : ℕ) (rows : List TaskRow) → i < length rows → fate_lines 0 (take (suc i) rows) ≡ fate_lines 0 (take i rows) ++ fate_line i (fate_of (row_at rows i))
fate_lines-push i rows below = fate_lines-more 0 i rows below ∙ ap (λ n. fate_lines 0 (take i rows) ++ fate_line n (fate_of (row_at rows i))) (omega arith)

-- the fates of the first tasks are written first
pub fate_lines-take : (t i : ℕ) (rows : List TaskRow) → IsFront (fate_lines t (take i rows)) (fate_lines t rows)
fate_lines-take t zero rows = (fate_lines t rows, refl)
fate_lines-take t (suc i) [] = ([], refl)
fate_lines-take t (suc i) (r ∷ rows) =
    let later = fate_lines-take (suc t) i rows in
    (later.0, ap (λ v. fate_line t (fate_of r) ++ v) later.1 ∙ sym (append_assoc (fate_line t (fate_of r)) (fate_lines (suc t) (take i rows)) later.0))

-- what the earlier answers write begins every output of a run that begins with them
pub IsFront-run_lines : (c : Config) (earlier later : List Answer) → IsFront (run_lines c [] earlier) (output c (earlier ++ later))
IsFront-run_lines c earlier later =
    let end : List ℕ = end_lines (state c (after_all [] (earlier ++ later))) in (
      run_lines c (after_all [] earlier) later ++ end,
      ap (λ v. v ++ end) (run_lines-append c [] earlier later) ∙ append_assoc (run_lines c [] earlier) (run_lines c (after_all [] earlier) later) end,
    )

-- so does an output that breaks off between two fates, and one that breaks off before the counters
pub IsFront-fate_lines : (c : Config) (answers : List Answer) (i : ℕ) → IsFront (run_lines c [] answers ++ fate_lines 0 (take i (state c (after_all [] answers)).tasks)) (output c answers)
IsFront-fate_lines c answers i =
    let s : State = state c (after_all [] answers) in
    let later = fate_lines-take 0 i s.tasks in
    let end : List ℕ = state_line (state_at s.rank) ++ counts_line (counts s) in (
      later.0 ++ end,
      ap (λ v. run_lines c [] answers ++ v) (ap (λ v. v ++ end) later.1 ∙ append_assoc (fate_lines 0 (take i s.tasks)) later.0 end)
          ∙ sym (append_assoc (run_lines c [] answers) (fate_lines 0 (take i s.tasks)) (later.0 ++ end)),
    )

pub IsFront-state_line : (c : Config) (answers : List Answer) → IsFront (run_lines c [] answers ++ (fate_lines 0 (state c (after_all [] answers)).tasks ++ state_line (state_at (state c (after_all [] answers)).rank))) (output c answers)
IsFront-state_line c answers =
    let s : State = state c (after_all [] answers) in (
      counts_line (counts s),
      ap (λ v. run_lines c [] answers ++ v) (sym (append_assoc (fate_lines 0 s.tasks) (state_line (state_at s.rank)) (counts_line (counts s))))
          ∙ sym (append_assoc (run_lines c [] answers) (fate_lines 0 s.tasks ++ state_line (state_at s.rank)) (counts_line (counts s))),
    )

-- a run state is the one of its rank
pub state_at-rank : (s : RunState) → state_at (state_rank s) ≡ s
state_at-rank Running = refl
state_at-rank Shutdown = refl
state_at-rank Stop = refl
state_at-rank Tidying = refl
state_at-rank Terminated = refl
