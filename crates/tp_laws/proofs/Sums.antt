-- Submissions add up.
use Rattle.std.proofs.Common.{◌≡◌, ℕ, zero, suc, ◌+◌, Bool, not, cond, List, [], ◌∷◌, length, Some, None, Option, refl, arith, sym, ap, ◌∙◌}
use Rattle.std.specs.Prelude.{◌||◌, count_by}
use Rattle.std.proofs.lemmas.List.Sums.{sum_by-cons}
use Rattle.tp_types.specs.declared.configs.Config.{Config}
use Rattle.tp_types.specs.declared.tasks.Fate.{Fate}
use Rattle.tp_types.specs.declared.tasks.Fate.TheVariants as fate
use Rattle.tp_record.specs.declared.entries.Entry.{Entry}
use Rattle.tp_record.specs.Lists.{count_from}
use Rattle.tp_record.specs.Fields.{task_row}
use Rattle.tp_record.specs.State.{is_fate, fate_of}
use Rattle.tp_record.specs.Words.{has_fate, submissions}
use Rattle.tp_laws.proofs.Model.Given.{Told}
use Rattle.std.specs.Prelude.{nat_lt}
use Rattle.tp_laws.proofs.WordsTasks.{is_submitted_below}
use Rattle.tp_laws.proofs.WordsSlots.{submissions_agrees}
use Rattle.tp_laws.proofs.WordsFates.{fate_agrees}
use Rattle.tp_laws.specs.Laws.{NumberedInOrder, is_open, SubmissionsAddUp}

abbrev one : Bool → ℕ
one b = cond b 1 0

-- each number passes just one of eight tests, so the counts add up
counts_add : (p q r s u v w x : ℕ → Bool) → ((n : ℕ) → one (p n) + one (q n) + one (r n) + one (s n) + one (u n) + one (v n) + one (w n) + one (x n) ≡ 1) → (xs : List ℕ) →
    count_by p xs + count_by q xs + count_by r xs + count_by s xs + count_by u xs + count_by v xs + count_by w xs + count_by x xs ≡ length xs
counts_add p q r s u v w x each [] = refl
counts_add p q r s u v w x each (n ∷ ns) =
    let a = sum_by-cons (λ (m : ℕ). one (p m)) n ns in
    let b = sum_by-cons (λ (m : ℕ). one (q m)) n ns in
    let c = sum_by-cons (λ (m : ℕ). one (r m)) n ns in
    let d = sum_by-cons (λ (m : ℕ). one (s m)) n ns in
    let e = sum_by-cons (λ (m : ℕ). one (u m)) n ns in
    let f = sum_by-cons (λ (m : ℕ). one (v m)) n ns in
    let g = sum_by-cons (λ (m : ℕ). one (w m)) n ns in
    let h = sum_by-cons (λ (m : ℕ). one (x m)) n ns in
    let here = each n in
    let rest = counts_add p q r s u v w x each ns in
    omega (arith, a, b, c, d, e, f, g, h, here, rest)

count_length : (k n : ℕ) → length (count_from k n) ≡ n
count_length k zero = refl
count_length k (suc n) = ap suc (count_length (suc k) n)

-- a task has one of the seven fates, or is open
one_fate : (o : Option Fate) →
    one (is_fate fate.Run o) + one (is_fate fate.RunByCaller o) + one (is_fate fate.Rejected o) + one (is_fate fate.Discarded o) + one (is_fate fate.HandedBack o)
    + one (is_fate fate.Removed o) + one (is_fate fate.Cancelled o)
    + one (not (is_fate fate.Run o || is_fate fate.RunByCaller o || is_fate fate.Rejected o || is_fate fate.Discarded o || is_fate fate.HandedBack o || is_fate fate.Removed o || is_fate fate.Cancelled o)) ≡ 1
one_fate None = refl
one_fate (Some fate.Run) = refl
one_fate (Some fate.RunByCaller) = refl
one_fate (Some fate.Rejected) = refl
one_fate (Some fate.Discarded) = refl
one_fate (Some fate.HandedBack) = refl
one_fate (Some fate.Removed) = refl
one_fate (Some fate.Cancelled) = refl

pub submissions_add_up : (c : Config) (h : List Entry) → Told c h → SubmissionsAddUp h
submissions_add_up c h told =
    sym (counts_add (has_fate fate.Run h) (has_fate fate.RunByCaller h) (has_fate fate.Rejected h) (has_fate fate.Discarded h) (has_fate fate.HandedBack h)
    (has_fate fate.Removed h) (has_fate fate.Cancelled h) (is_open h)
    (λ t. rw (
      fate_agrees c h told fate.Run t,
      fate_agrees c h told fate.RunByCaller t,
      fate_agrees c h told fate.Rejected t,
      fate_agrees c h told fate.Discarded t,
      fate_agrees c h told fate.HandedBack t,
      fate_agrees c h told fate.Removed t,
      fate_agrees c h told fate.Cancelled t,
    ) (one_fate (fate_of (task_row h t))))
    (count_from 0 (submissions h))
    ∙ count_length 0 (submissions h))

pub numbered_in_order : (c : Config) (h : List Entry) → Told c h → NumberedInOrder h
numbered_in_order c h told t = is_submitted_below c h told t ∙ ap (nat_lt t) (sym (submissions_agrees h))
