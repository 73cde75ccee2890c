-- What stands at the end of a run, line by line.
use Rattle.std.proofs.Common.{◌≡◌, ℕ, suc, ◌+◌, ◌<◌, List, ◌++◌, length, take, Option, Result, Ok, Err, OnOk, OnErr, sym, ◌∙◌, ap, arith, append_assoc}
use Rattle.tp_types.specs.declared.states.Counts.{Counts}
use Rattle.tp_types.specs.declared.states.RunState.{RunState}
use Rattle.tp_types.specs.declared.tasks.Fate.{Fate}
use Rattle.tp_types.specs.RunState.{state_rank}
use Rattle.tp_record.specs.declared.rows.TaskRow.{TaskRow}
use Rattle.tp_record.specs.State.{State, counts, fate_of, row_at}
use Rattle.tp_text.specs.EndLines.{fate_line, state_line, state_at, counts_line}
use Rattle.tp_text.specs.RunText.{fate_lines, end_lines, IsFront}
use Rattle.tp_text.proofs.RunLaws.{fate_lines-push, fate_lines-take, state_at-rank}

-- what follows from what a call says of its success, or of its failure
pub where_ok : {A E : Type 0} (r : Result A E) {P Q : Type 0} → (P → Q) → OnOk r P → OnOk r Q
where_ok (Ok a) f p = f p
where_ok (Err e) f p = tt

pub where_err : {A E : Type 0} (r : Result A E) {P Q : Type 0} → (P → Q) → OnErr r P → OnErr r Q
where_err (Ok a) f p = tt
where_err (Err e) f p = f p

pub on_err : {A E : Type 0} (r : Result A E) {P : Type 0} → P → OnErr r P
on_err (Ok a) p = tt
on_err (Err e) p = p

-- the fates are written task by task
pub fates_on : (old mid new : List ℕ) (rows : List TaskRow) (t : ℕ) (f : Option Fate) → mid ≡ old ++ fate_lines 0 (take t rows) → new ≡ mid ++ fate_line t f → f ≡ fate_of (row_at rows t) → t < length rows
    → new ≡ old ++ fate_lines 0 (take (t + 1) rows)
fates_on old mid new rows t f before grows fated below =
    let next : suc t ≡ t + 1 = omega arith in
    grows ∙ ap (λ x. x ++ fate_line t f) before ∙ append_assoc old (fate_lines 0 (take t rows)) (fate_line t f)
    ∙ ap (λ g. old ++ (fate_lines 0 (take t rows) ++ fate_line t g)) fated
    ∙ ap (λ x. old ++ x) (sym (fate_lines-push t rows below) ∙ ap (λ n. fate_lines 0 (take n rows)) next)

-- an output that breaks off at the end of a run
abbrev pub Broken : List ℕ → State → List ℕ → Type 0
Broken old s out = (front : List ℕ) × (out ≡ old ++ front) × IsFront front (end_lines s)

-- before a fate
pub broken_fates : (old out : List ℕ) (s : State) (n : ℕ) → out ≡ old ++ fate_lines 0 (take n s.tasks) → Broken old s out
broken_fates old out s n is =
    let end : List ℕ = state_line (state_at s.rank) ++ counts_line (counts s) in
    let later = fate_lines-take 0 n s.tasks in
    (fate_lines 0 (take n s.tasks), is, (later.0 ++ end, ap (λ x. x ++ end) later.1 ∙ append_assoc (fate_lines 0 (take n s.tasks)) later.0 end))

-- the line of a run state of this rank
named : (r : RunState) (n : ℕ) → state_rank r ≡ n → state_line r ≡ state_line (state_at n)
named r n is = ap state_line (sym (state_at-rank r)) ∙ ap (λ k. state_line (state_at k)) is

module _ (old mid more : List ℕ) (r : RunState) (s : State) (fates : mid ≡ old ++ fate_lines 0 s.tasks) (ranked : state_rank r ≡ s.rank) (grows : more ≡ mid ++ state_line r) where
  -- before the counters
  pub broken_counts : Broken old s more
  broken_counts = (
    fate_lines 0 s.tasks ++ state_line r,
    grows ∙ ap (λ x. x ++ state_line r) fates ∙ append_assoc old (fate_lines 0 s.tasks) (state_line r),
    (counts_line (counts s), ap (λ x. fate_lines 0 s.tasks ++ (x ++ counts_line (counts s))) (sym (named r s.rank ranked)) ∙ sym (append_assoc (fate_lines 0 s.tasks) (state_line r) (counts_line (counts s)))),
  )

  -- the whole end
  pub ends_whole : (out : List ℕ) (n : Counts) → n ≡ counts s → out ≡ more ++ counts_line n → out ≡ old ++ end_lines s
  ends_whole out n counted ends =
      ends ∙ ap (λ x. x ++ counts_line n) (grows ∙ ap (λ x. x ++ state_line r) fates ∙ append_assoc old (fate_lines 0 s.tasks) (state_line r))
      ∙ append_assoc old (fate_lines 0 s.tasks ++ state_line r) (counts_line n) ∙ ap (λ x. old ++ x) (append_assoc (fate_lines 0 s.tasks) (state_line r) (counts_line n))
      ∙ ap (λ x. old ++ (fate_lines 0 s.tasks ++ (x ++ counts_line n))) (named r s.rank ranked) ∙ ap (λ x. old ++ (fate_lines 0 s.tasks ++ (state_line (state_at s.rank) ++ counts_line x))) counted
