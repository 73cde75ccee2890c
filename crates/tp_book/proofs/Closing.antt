-- What a closed book tells of its history.
use Rattle.std.proofs.Common.{◌≡◌, ℕ, Bool, ◌+◌, cond, List, [], ◌∷◌, length, Option, Some, None, is_none, refl, arith}
use Rattle.std.specs.Prelude.{count_by}
use Rattle.std.proofs.lemmas.List.Sums.{sum_by-cons}
use Rattle.tp_types.specs.declared.configs.Config.{Config}
use Rattle.tp_types.specs.declared.tasks.Fate.{Fate}
use Rattle.tp_types.specs.declared.tasks.Fate.TheVariants as fate
use Rattle.tp_record.specs.declared.entries.Entry.{Entry}
use Rattle.tp_record.specs.declared.rows.TaskRow.{TaskRow}
use Rattle.tp_record.specs.State.{state, counts, fate_of, is_fate}
use Rattle.tp_book.specs.Reports.{fates_of, unended_of}

abbrev one : Bool → ℕ
one b = cond b 1 0

-- a task has one fate, or none
one_way : (o : Option Fate) →
    one (is_none o)
    + (one (is_fate fate.Run o) + one (is_fate fate.RunByCaller o) + (one (is_fate fate.Rejected o) + one (is_fate fate.Discarded o) + one (is_fate fate.HandedBack o)) + one (is_fate fate.Removed o)
    + one (is_fate fate.Cancelled o))
    ≡ 1
one_way None = refl
one_way (Some fate.Run) = refl
one_way (Some fate.RunByCaller) = refl
one_way (Some fate.Rejected) = refl
one_way (Some fate.Discarded) = refl
one_way (Some fate.HandedBack) = refl
one_way (Some fate.Removed) = refl
one_way (Some fate.Cancelled) = refl

abbrev with_fate : Fate → List TaskRow → ℕ
with_fate f rows = count_by (λ r. is_fate f (fate_of r)) rows

abbrev without : List TaskRow → ℕ
without rows = count_by (λ r. is_none (fate_of r)) rows

more_with : (f : Fate) (r : TaskRow) (rows : List TaskRow) → with_fate f (r ∷ rows) ≡ one (is_fate f (fate_of r)) + with_fate f rows
more_with f r rows = sum_by-cons (λ r. one (is_fate f (fate_of r))) r rows

more_without : (r : TaskRow) (rows : List TaskRow) → without (r ∷ rows) ≡ one (is_none (fate_of r)) + without rows
more_without r rows = sum_by-cons (λ r. one (is_none (fate_of r))) r rows

parted : (rows : List TaskRow) →
    without rows
    + (with_fate fate.Run rows + with_fate fate.RunByCaller rows + (with_fate fate.Rejected rows + with_fate fate.Discarded rows + with_fate fate.HandedBack rows)
    + with_fate fate.Removed rows + with_fate fate.Cancelled rows)
    ≡ length rows
parted [] = refl
parted (r ∷ rows) =
    let none = more_without r rows in
    let run = more_with fate.Run r rows in
    let runbycaller = more_with fate.RunByCaller r rows in
    let rejected = more_with fate.Rejected r rows in
    let discarded = more_with fate.Discarded r rows in
    let handedback = more_with fate.HandedBack r rows in
    let removed = more_with fate.Removed r rows in
    let cancelled = more_with fate.Cancelled r rows in
    let way = one_way (fate_of r) in
    let rest = parted rows in
    omega (arith, none, run, runbycaller, rejected, discarded, handedback, removed, cancelled, way, rest)

-- so the tasks without a fate are those that the counters leave
pub unended_left : (c : Config) (h : List Entry) → unended_of (state c h) + fates_of (counts (state c h)) ≡ (counts (state c h)).submitted
unended_left c h = parted (state c h).tasks
