-- What is owed after an entry that sweeps queued tasks.
use Rattle.std.proofs.Common.{◌≡◌, ℕ, zero, suc, ◌+◌, ◌-◌, ◌*◌, ◌<◌, ◌≤◌, ◌||◌, Bool, true, false, cond, List, [], ◌∷◌, refl, arith, sym, ap, ◌∙◌}
use Rattle.std.specs.Prelude.{◌==◌, sum_by, count_by}
use Rattle.std.proofs.lemmas.Bool.{eq-eqb, ne_eqb}
use Rattle.std.proofs.lemmas.List.Sums.{sum_by-cons}
use Rattle.tp_types.specs.declared.configs.Config.{Config}
use Rattle.tp_record.specs.declared.entries.Entry.{Entry}
use Rattle.tp_record.specs.declared.entries.Did.{Did}
use Rattle.tp_record.specs.Lists.{is_among, IsOnce}
use Rattle.tp_record.specs.Fields.{rank, submitted, is_queued, queue, slot_bound}
use Rattle.tp_record.specs.State.{state, next, due}
use Rattle.tp_record.specs.Step.{Legal}
use Rattle.tp_laws.proofs.Model.NextState.{queue_known}
use Rattle.tp_laws.proofs.Model.Given.{Given}
use Rattle.tp_laws.proofs.Model.Queues.{among-queue, once-queue}
use Rattle.tp_laws.proofs.Model.Told.{sound_legal}
use Rattle.tp_laws.proofs.Model.Totals.{total, total-agree, total-at}
use Rattle.tp_laws.proofs.Model.Weights.{task_due, slot_due, due_totals}
use Rattle.tp_laws.proofs.Effects.Next.{entry, next_given, sound_given}

pub zeros : (n : ℕ) → total (λ i. 0) n ≡ 0
zeros zero = refl
zeros (suc n) = let e = zeros n in omega arith

pub total_sum : (f g k : ℕ → ℕ) (n : ℕ) → ((i : ℕ) → g i + k i ≡ f i) → total g n + total k n ≡ total f n
total_sum f g k zero same = omega arith
total_sum f g k (suc n) same = let e = total_sum f g k n same in let r = same n in omega arith

-- a sum over the numbers that a list has is the sum over the list
among_total : (k : ℕ → ℕ) (m : ℕ) (xs : List ℕ) → IsOnce xs → ((t : ℕ) → is_among t xs ≡ true → t < m) → total (λ t. cond (is_among t xs) (k t) 0) m ≡ sum_by k xs
among_total k m [] once below = zeros m
among_total k m (x ∷ xs) once below =
    let rest = among_total k m xs once.1 (λ t is. below t (rw is (or_true (t == x)))) in
    let here : x < m = below x (rw (eq-eqb x x refl) refl) in
    let e = total-at (λ t. cond (is_among t xs) (k t) 0) (λ t. cond (t == x || is_among t xs) (k t) 0) m x here (λ t ne. rw (ne_eqb t x ne) refl) in
    let a : ◌≡◌ {A = ℕ} (cond (is_among x xs) (k x) 0) 0 = rw once.0 refl in
    let b : ◌≡◌ {A = ℕ} (cond (x == x || is_among x xs) (k x) 0) (k x) = rw (eq-eqb x x refl) refl in
    let p : total (λ t. cond (t == x || is_among t xs) (k t) 0) m ≡ sum_by k (x ∷ xs) = omega (arith, rest, e, a, b, sum_by-cons k x xs) in
    p
  where
    or_true : (b : Bool) → (b || true) ≡ true
    or_true true = refl
    or_true false = refl

-- six for each element, and for each that passes
pub sixes : (p : ℕ → Bool) (xs : List ℕ) → sum_by (λ t. cond (p t) 6 0) xs ≡ 6 * count_by p xs
sixes p [] = refl
sixes p (x ∷ xs) =
    let a = sum_by-cons (λ t. cond (p t) 6 0) x xs in
    let b = sum_by-cons (λ t. cond (p t) 1 0) x xs in
    let rest = sixes p xs in
    let e : ◌≡◌ {A = ℕ} (cond (p x) 6 0) (6 * cond (p x) 1 0) = by_test (p x) in
    let q : sum_by (λ t. cond (p t) 6 0) (x ∷ xs) ≡ 6 * count_by p (x ∷ xs) = omega (arith, a, b, rest, e) in
    q
  where
    by_test : (b : Bool) → ◌≡◌ {A = ℕ} (cond b 6 0) (6 * cond b 1 0)
    by_test true = refl
    by_test false = refl

-- a sum over the queued tasks is the sum over the queue
pub queue_total : (c : Config) (h : List Entry) → Legal c h → (k : ℕ → ℕ) (m : ℕ) → submitted h ≤ m → total (λ t. cond (is_queued h t) (k t) 0) m ≡ sum_by k (queue c h)
queue_total c h legal k m within =
    total-agree (λ t. cond (is_among t (queue c h)) (k t) 0) (λ t. cond (is_queued h t) (k t) 0) m (λ t below. ap (λ b. cond b (k t) 0) (sym (among-queue c h t)))
    ∙ among_total k m (queue c h) (once-queue c h) (λ t is. let below = queue_known c h legal t (sym (among-queue c h t) ∙ is) in omega arith)

module _ (c : Config) (h : List Entry) (d : Did) (legal : Legal c h) (given : Given c h d) where
  -- what is owed falls by k for each queued task, by x for each slot, and by the rank
  pub due_swept : (k x : ℕ → ℕ) (less : ℕ) → ((t : ℕ) → task_due (entry d ∷ h) t + cond (is_queued h t) (k t) 0 ≡ task_due h t) → ((w : ℕ) → slot_due (entry d ∷ h) w + x w ≡ slot_due h w) →
      ((n : ℕ) → slot_bound h ≤ n → total x n ≡ less) → due (next (state c h) d) + (sum_by k (queue c h) + less) + (4 - rank h) ≡ due (state c h) + (4 - rank (entry d ∷ h))
  due_swept k x less by_task by_slot wait =
      let m = submitted h + submitted (entry d ∷ h) in
      let n = slot_bound h + slot_bound (entry d ∷ h) in
      let before = due_totals c h m n (sound_legal c h legal) (omega arith) (omega arith) in
      let after = due_totals c (entry d ∷ h) m n (sound_given c h d legal given) (omega arith) (omega arith) in
      let tasks = total_sum (task_due h) (task_due (entry d ∷ h)) (λ t. cond (is_queued h t) (k t) 0) m by_task in
      let slots = total_sum (slot_due h) (slot_due (entry d ∷ h)) x n by_slot in
      let less_is = wait n (omega arith) in
      let same : due (state c (entry d ∷ h)) ≡ due (next (state c h) d) = ap due (next_given c h d legal given) in
      let listed = queue_total c h legal k m (omega arith) in
      omega (arith, before, after, tasks, slots, less_is, same, listed)
