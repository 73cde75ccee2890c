-- The completed tasks of the groups, and the marks of tasks, agree call by call.
use Rattle.std.proofs.Common.{◌≡◌, ℕ, ◌+◌, Bool, true, false, cond, ◌&&◌, ◌||◌, List, [], ◌∷◌, ◌++◌, Option, Some, None, is_some, refl, sym, ap, subst, ◌∙◌, arith, inl, inr}
use mathlib.Core.Path.{ap₂}
use Rattle.std.specs.Prelude.{◌==◌, nat_lt, count_by, drop, slice_get}
use Rattle.std.proofs.lemmas.Bool.{cases_eq, ne_eqb, eq-eqb, eqb-true, and_parts, false≢true}
use Rattle.std.proofs.lemmas.Bool.Decides.{nat_tests}
use Rattle.std.proofs.lemmas.List.Sums.{sum_by-append, sum_by-cons}
use Rattle.std.proofs.lemmas.Option.{none-some, same_Some}
use Rattle.indexmap.specs.IndexMap.{IndexMap}
use Rattle.tp_types.specs.declared.tasks.Kind.{Kind}
use Rattle.tp_types.specs.declared.tasks.Kind.TheVariants as kinds
use Rattle.tp_record.specs.declared.rows.TaskRow.{TaskRow}
use Rattle.tp_record.specs.Lists.{is_among}
use Rattle.tp_record.specs.Effects.{is_group}
use Rattle.tp_record.specs.State.{fate_of}
use Rattle.tp_record.specs.Step.{is_of_group}
use Rattle.tp_tasks.specs.declared.group.Group.{Group}
use Rattle.tp_tasks.specs.declared.homes.Rows.{Rows}
use Rattle.tp_tasks.specs.declared.table.KeptTask.{KeptTask}
use Rattle.tp_tasks.specs.Groups.{done_of_group, done_in, KeepsOtherGroups}
use Rattle.tp_tasks.specs.Kept.{waits_in, waits_there, AreListed}
use Rattle.tp_tasks.specs.Table.{row_of_task, mark_of_task, task_in, row_in, mark_in, KeepsOtherTasks, SetsTask}

-- how often a number stands in a list
abbrev pub times : ℕ → List ℕ → ℕ
times t xs = count_by (λ u. u == t) xs

abbrev pub one : Bool → ℕ
one b = cond b 1 0

either_way : (a b : ℕ) → (a == b) ≡ (b == a)
either_way a b = grind (arith, nat_tests)

-- it stands in the list where its count is not 0
among_counted : (t : ℕ) (xs : List ℕ) → is_among t xs ≡ nat_lt 0 (times t xs)
among_counted t [] = refl
among_counted t (x ∷ xs) =
    ap₂ (λ a b. a || b) (either_way t x) (among_counted t xs) ∙ more (x == t) (times t xs)
    ∙ sym (ap (nat_lt 0) (sum_by-cons (λ y. one (y == t)) x xs))
  where
    more : (b : Bool) (n : ℕ) → (b || nat_lt 0 n) ≡ nat_lt 0 (one b + n)
    more true n = grind (arith, nat_tests)
    more false n = grind (arith, nat_tests)

-- so a count of 1 or 0 tells
is_listed : (t : ℕ) (xs : List ℕ) (b : Bool) → times t xs ≡ one b → is_among t xs ≡ b
is_listed t xs b e = among_counted t xs ∙ ap (nat_lt 0) e ∙ tells b
  where
    tells : (b : Bool) → nat_lt 0 (one b) ≡ b
    tells true = refl
    tells false = refl

-- a task that waits is of a group, in which it waits
waits_somewhere : (r : Option TaskRow) (b : Bool) → waits_there r b ≡ true → (g : ℕ) × (waits_in g r b ≡ true)
waits_somewhere None b is = absurd (false≢true is)
waits_somewhere (Some r) b is = by r.kind (is_some (fate_of r) && b) is
  where
    by : (k : Kind) (x : Bool) → is_group k && x ≡ true → (g : ℕ) × (is_of_group g k && x ≡ true)
    by (kinds.Group n) x is = (n, ap (λ y. y && x) (eq-eqb n n refl) ∙ is)
    by kinds.Plain x is = absurd (false≢true is)
    by kinds.Future x is = absurd (false≢true is)

waits_here : (g : ℕ) (r : Option TaskRow) (b : Bool) → waits_in g r b ≡ true → waits_there r b ≡ true
waits_here g None b is = is
waits_here g (Some r) b is = by r.kind (is_some (fate_of r) && b) is
  where
    by : (k : Kind) (x : Bool) → is_of_group g k && x ≡ true → is_group k && x ≡ true
    by (kinds.Group n) x is = (and_parts (n == g) x is).1
    by kinds.Plain x is = is
    by kinds.Future x is = is

-- so the row and the mark of a task tell whether it is listed in some group
pub listed_there : {P Z : Type 0} (groups : IndexMap ℕ Group Z) (m : Rows P) (t : ℕ) → AreListed groups m → waits_there (row_in m t) (mark_in m t) ≡ true → (g : ℕ) × (is_among t (done_in groups g) ≡ true)
listed_there groups m t listed is =
    let at = waits_somewhere (row_in m t) (mark_in m t) is in
    (at.0, is_listed t (done_in groups at.0) _ (listed at.0 t) ∙ at.1)

pub there_listed : {P Z : Type 0} (groups : IndexMap ℕ Group Z) (m : Rows P) (t g : ℕ) → AreListed groups m → is_among t (done_in groups g) ≡ true → waits_there (row_in m t) (mark_in m t) ≡ true
there_listed groups m t g listed is = waits_here g (row_in m t) (mark_in m t) (sym (is_listed t (done_in groups g) _ (listed g t)) ∙ is)

-- the waiting task, by what is kept of it
abbrev pub waits : {P : Type 0} → ℕ → Option (KeptTask P) → Bool
waits g o = waits_in g (row_of_task o) (mark_of_task o)

-- a task of the same kind and fate waits as before
waits-same : (g : ℕ) (from to : TaskRow) (b : Bool) → to.kind ≡ from.kind → fate_of to ≡ fate_of from → waits_in g (Some to) b ≡ waits_in g (Some from) b
waits-same g from to b kind fate = ap₂ (λ (k : Kind) o. is_of_group g k && (is_some o && b)) kind fate

and_false : (b : Bool) → (b && false) ≡ false
and_false true = refl
and_false false = refl

-- where task t waits as before, so does each
waits-all : {P : Type 0} (old new : Rows P) (t : ℕ) → KeepsOtherTasks old new t → ((g : ℕ) → waits g (task_in new t) ≡ waits g (task_in old t)) → (g u : ℕ) →
    waits g (task_in new u) ≡ waits g (task_in old u)
waits-all old new t others here g u = elim (cases_eq t u) [
  | inl same ↦ subst (λ x. waits g (task_in new x) ≡ waits g (task_in old x)) same (here g)
  | inr apart ↦ ap (waits g) (others u (ne_eqb t u apart))
]

-- what does not see the mark sees no change where only that is written
unseen : {P A : Type 0} (old new : Rows P) (t : ℕ) (v w : KeptTask P) → task_in old t ≡ Some v → SetsTask old new t v w → (F : Option (KeptTask P) → A) → F (Some w) ≡ F (Some v) → (u : ℕ) →
    F (task_in new u) ≡ F (task_in old u)
unseen old new t v w was set F same u = elim (cases_eq t u) [
  | inl equal ↦ subst (λ x. F (task_in new x) ≡ F (task_in old x)) equal (ap F set.task ∙ same ∙ sym (ap F was))
  | inr apart ↦ ap F (set.others u (ne_eqb t u apart))
]

module _ {P Z : Type 0} where
  module _ (old new : Rows P) (t : ℕ) (others : KeepsOtherTasks old new t) where
    pub listed-kept : (groups : IndexMap ℕ Group Z) → ((g : ℕ) → waits g (task_in new t) ≡ waits g (task_in old t)) → AreListed groups old → AreListed groups new
    listed-kept groups here listed g u = listed g u ∙ ap one (sym (waits-all old new t others here g u))

    -- the row and the mark of a task stay
    pub listed_same : (groups : IndexMap ℕ Group Z) → row_in new t ≡ row_in old t → mark_in new t ≡ mark_in old t → AreListed groups old → AreListed groups new
    listed_same groups row mark = listed-kept groups (λ g. ap₂ (waits_in g) row mark)

    -- the task has another row of the same kind and fate
    pub listed_row : (groups : IndexMap ℕ Group Z) (from to : TaskRow) → row_in old t ≡ Some from → row_in new t ≡ Some to → mark_in new t ≡ mark_in old t →
        to.kind ≡ from.kind → fate_of to ≡ fate_of from → AreListed groups old → AreListed groups new
    listed_row groups from to was row mark kind fate = listed-kept groups (λ g.
        ap₂ (waits_in g) row mark ∙ waits-same g from to (mark_in old t) kind fate ∙ sym (ap (λ r. waits_in g r (mark_in old t)) was))

    -- a new task has no fate
    pub listed_put : (groups groups' : IndexMap ℕ Group Z) (w : KeptTask P) → is_some (task_in old t) ≡ false → task_in new t ≡ Some w → fate_of w.row ≡ None →
        ((g : ℕ) → done_in groups' g ≡ done_in groups g) → AreListed groups old → AreListed groups' new
    listed_put groups groups' w absent task unfated done listed g u =
        ap (times u) (done g) ∙ listed-kept groups (λ g. ap (waits g) task ∙ ap (λ o. is_of_group g w.row.kind && (is_some o && w.listed)) unfated
        ∙ and_false (is_of_group g w.row.kind) ∙ sym (nothing g (task_in old t) absent)) listed g u
      where
        nothing : (g : ℕ) (o : Option (KeptTask P)) → is_some o ≡ false → waits g o ≡ false
        nothing g None out = refl
        nothing g (Some v) out = absurd (false≢true (sym out))

    -- a task that waits nowhere is forgotten
    pub listed_released : (groups : IndexMap ℕ Group Z) → task_in new t ≡ None → (((g : ℕ) × (is_among t (done_in groups g) ≡ true)) → ⊥) → AreListed groups old → AreListed groups new
    listed_released groups gone out listed = listed-kept groups (λ g.
        ap (waits g) gone ∙ none g (waits g (task_in old t)) (is_listed t (done_in groups g) (waits g (task_in old t)) (listed g t))) listed
      where
        none : (g : ℕ) (b : Bool) → is_among t (done_in groups g) ≡ b → false ≡ b
        none g true is = absurd (out (g, is))
        none g false is = refl

  module _ (old new : Rows P) (t : ℕ) (v w : KeptTask P) (was : task_in old t ≡ Some v) (set : SetsTask old new t v w) where
    -- a write that leaves the kind, the fate and the mark
    pub listed_stays : w.row.kind ≡ v.row.kind → fate_of w.row ≡ fate_of v.row → w.listed ≡ v.listed → (groups : IndexMap ℕ Group Z) → AreListed groups old → AreListed groups new
    listed_stays kind fate mark groups = listed-kept old new t set.others groups (λ g.
        ap (waits g) set.task ∙ waits-same g v.row w.row w.listed kind fate ∙ ap (waits_in g (Some v.row)) mark ∙ sym (ap (waits g) was))

    -- an open task gets its fate and its mark, and joins its group's completed tasks where it is marked
    pub listed_end : (groups groups' : IndexMap ℕ Group Z) → w.row.kind ≡ v.row.kind → fate_of v.row ≡ None → is_some (fate_of w.row) ≡ true →
        ((g : ℕ) → done_in groups' g ≡ done_in groups g ++ cond (is_of_group g v.row.kind && w.listed) (t ∷ []) []) → AreListed groups old → AreListed groups' new
    listed_end groups groups' kind unfated fated done listed g u =
        ap (times u) (done g) ∙ sum_by-append (λ y. one (y == u)) (done_in groups g) (cond (is_of_group g v.row.kind && w.listed) (t ∷ []) [])
        ∙ elim (cases_eq t u) [
          | inl same ↦ subst (λ x. times x (done_in groups g) + times x (cond (is_of_group g v.row.kind && w.listed) (t ∷ []) []) ≡ one (waits g (task_in new x))) same here
          | inr apart ↦ there apart
        ]
      where
        plus_none : (n : ℕ) → n + 0 ≡ n
        plus_none n = omega arith

        added : (b : Bool) (x : ℕ) → times x (cond b (t ∷ []) []) ≡ one (b && (t == x))
        added true x = sum_by-cons (λ y. one (y == x)) t [] ∙ plus_none (one (t == x))
        added false x = refl

        and_true : (b : Bool) → (b && true) ≡ b
        and_true true = refl
        and_true false = refl

        sum : (m n k : ℕ) → m ≡ 0 → n ≡ k → m + n ≡ k
        sum m n k none is = omega (arith, none, is)

        rest : (m n k : ℕ) → m ≡ k → n ≡ 0 → m + n ≡ k
        rest m n k is none = omega (arith, is, none)

        none : times t (done_in groups g) ≡ 0
        none = listed g t ∙ ap one (ap (waits g) was ∙ ap (λ o. is_of_group g v.row.kind && (is_some o && v.listed)) unfated ∙ and_false (is_of_group g v.row.kind))

        waits_now : is_of_group g v.row.kind && w.listed ≡ waits g (task_in new t)
        waits_now =
            ap (λ (k : Kind). is_of_group g k && w.listed) (sym kind) ∙ ap (λ b. is_of_group g w.row.kind && (b && w.listed)) (sym fated) ∙ sym (ap (waits g) set.task)

        here : times t (done_in groups g) + times t (cond (is_of_group g v.row.kind && w.listed) (t ∷ []) []) ≡ one (waits g (task_in new t))
        here = sum _ _ _ none (
            added (is_of_group g v.row.kind && w.listed) t ∙ ap (λ b. one ((is_of_group g v.row.kind && w.listed) && b)) (eq-eqb t t refl)
            ∙ ap one (and_true (is_of_group g v.row.kind && w.listed)) ∙ ap one waits_now)

        there : (t ≡ u → ⊥) → times u (done_in groups g) + times u (cond (is_of_group g v.row.kind && w.listed) (t ∷ []) []) ≡ one (waits g (task_in new u))
        there apart =
            rest _ _ _ (listed g u ∙ ap (λ o. one (waits g o)) (sym (set.others u (ne_eqb t u apart))))
            (added (is_of_group g v.row.kind && w.listed) u ∙ ap (λ b. one ((is_of_group g v.row.kind && w.listed) && b)) (ne_eqb t u apart) ∙ ap one (and_false (is_of_group g v.row.kind && w.listed)))

-- the first of a list
first_of : (t : ℕ) (xs : List ℕ) → Some t ≡ slice_get xs 0 → xs ≡ t ∷ drop 1 xs
first_of t [] e = absurd (none-some t (sym e))
first_of t (x ∷ xs) e = ap (λ y. y ∷ xs) (sym (same_Some t x e))

kept_of : {P : Type 0} (g : ℕ) (o : Option (KeptTask P)) → waits g o ≡ true → (v : KeptTask P) × (o ≡ Some v) × (is_of_group g v.row.kind ≡ true)
kept_of g None e = absurd (false≢true e)
kept_of g (Some v) e = (v, refl, (and_parts (is_of_group g v.row.kind) (is_some (fate_of v.row) && v.listed) e).0)

-- a task is of one group
one_group : (g h : ℕ) (k : Kind) → (g ≡ h → ⊥) → is_of_group g k ≡ true → is_of_group h k ≡ false
one_group g h (kinds.Group n) apart is = ne_eqb n h (λ e. apart (sym (eqb-true n g is) ∙ e))
one_group g h kinds.Plain apart is = absurd (false≢true is)
one_group g h kinds.Future apart is = absurd (false≢true is)

module _ {P Z : Type 0} (old new : Rows P) (groups groups' : IndexMap ℕ Group Z) (g t : ℕ) (listed : AreListed groups old)
    (first : Some t ≡ slice_get (done_in groups g) 0) (done : done_in groups' g ≡ drop 1 (done_in groups g)) (other_groups : KeepsOtherGroups groups groups' g) where
  counted : (u : ℕ) → times u (done_in groups g) ≡ one (t == u) + times u (done_in groups' g)
  counted u =
      ap (times u) (first_of t (done_in groups g) first) ∙ sum_by-cons (λ y. one (y == u)) t (drop 1 (done_in groups g))
      ∙ ap (λ xs. one (t == u) + times u xs) (sym done)

  -- it stood there once
  once : (waits g (task_in old t) ≡ true) × (times t (done_in groups' g) ≡ 0)
  once = by (waits g (task_in old t)) (times t (done_in groups' g)) (sym (listed g t) ∙ counted t ∙ ap (λ b. one b + times t (done_in groups' g)) (eq-eqb t t refl))
    where
      by : (b : Bool) (n : ℕ) → one b ≡ 1 + n → (b ≡ true) × (n ≡ 0)
      by true n e = (refl, omega (arith, e))
      by false n e = absurd (omega (arith, e))

  -- the task that is handed out is kept
  pub handed_task : (v : KeptTask P) × (task_in old t ≡ Some v) × (is_of_group g v.row.kind ≡ true)
  handed_task = kept_of g (task_in old t) once.0

  -- once its mark is gone, what does not see the mark sees no change
  pub kept_still : ((v : KeptTask P) → task_in old t ≡ Some v → SetsTask old new t v (record v { listed = false })) → {A : Type 0} (F : Option (KeptTask P) → A) →
      ((v : KeptTask P) → F (Some (record v { listed = false })) ≡ F (Some v)) → (u : ℕ) → F (task_in new u) ≡ F (task_in old u)
  kept_still unmarks F same = unseen old new t handed_task.0 _ handed_task.1 (unmarks handed_task.0 handed_task.1) F (same handed_task.0)

  -- and it stands in no list
  pub listed_taken : SetsTask old new t handed_task.0 (record handed_task.0 { listed = false }) → AreListed groups' new
  listed_taken set h u = elim (cases_eq g h) [
    | inl same ↦ subst (λ x. times u (done_in groups' x) ≡ one (waits x (task_in new u))) same (here u)
    | inr apart ↦ ap (λ o. times u (done_of_group o)) (other_groups h (ne_eqb g h apart)) ∙ listed h u ∙ ap one (sym (beside apart))
  ]
    where
      unmarked : (h : ℕ) → waits h (task_in new t) ≡ false
      unmarked h = ap (waits h) set.task ∙ ap (λ b. is_of_group h handed_task.0.row.kind && b) (and_false (is_some (fate_of handed_task.0.row))) ∙ and_false (is_of_group h handed_task.0.row.kind)

      here : (u : ℕ) → times u (done_in groups' g) ≡ one (waits g (task_in new u))
      here u = elim (cases_eq t u) [
        | inl same ↦ subst (λ x. times x (done_in groups' g) ≡ one (waits g (task_in new x))) same (once.1 ∙ ap one (sym (unmarked g)))
        | inr apart ↦
            less (times u (done_in groups' g)) (sym (ap (λ b. one b + times u (done_in groups' g)) (ne_eqb t u apart)) ∙ sym (counted u) ∙ listed g u)
            ∙ ap (λ o. one (waits g o)) (sym (set.others u (ne_eqb t u apart)))
      ]
        where
          less : {k : ℕ} (n : ℕ) → 0 + n ≡ k → n ≡ k
          less n e = omega (arith, e)

      beside : (g ≡ h → ⊥) → waits h (task_in new u) ≡ waits h (task_in old u)
      beside apart = elim (cases_eq t u) [
        | inl same ↦ subst (λ x. waits h (task_in new x) ≡ waits h (task_in old x)) same
            (unmarked h ∙ sym (ap (waits h) handed_task.1 ∙ ap (λ b. b && (is_some (fate_of handed_task.0.row) && handed_task.0.listed)) (one_group g h handed_task.0.row.kind apart handed_task.2)))
        | inr other ↦ ap (waits h) (set.others u (ne_eqb t u other))
      ]
