-- The tasks that wait, by their numbers, and their places in the queue; and what a change of the queue keeps.
use Rattle.std.proofs.Common.{◌≡◌, ℕ, zero, suc, ◌<◌, ◌≤◌, Bool, true, false, not, cond, List, [], ◌∷◌, drop, length, Option, Some, None, refl, arith, sym, ap, ◌∙◌, subst, ◌⊎◌, inl, inr}
use Rattle.std.specs.Prelude.{◌==◌, filter, option_map, slice_get, slice_index_or}
use Rattle.std.specs.List.{Contains}
use Rattle.std.proofs.lemmas.Bool.{eq-eqb, ne_eqb, cases_eq}
use Rattle.std.proofs.lemmas.Option.{same_Some}
use Rattle.std.proofs.lemmas.List.Elements.{All-contains, All-filter, All-contains_itself, Contains-append_right}
use Rattle.tp_ring.specs.Line.{Ordered, without_place}
use Rattle.tp_types.specs.declared.configs.Config.{Config}
use Rattle.tp_types.specs.declared.ids.TaskId.{TaskId}
use Rattle.tp_record.specs.declared.rows.TaskRow.{TaskRow}
use Rattle.tp_record.specs.Lists.{without}
use Rattle.tp_queue.specs.declared.queues.Queue.{Queue}
use Rattle.tp_queue.specs.Queues.{waiting_of}
use Rattle.tp_queue.specs.Waiting.{Waiting, place_key}
use Rattle.tp_laws.specs.View.{View}
use Rattle.tp_machine_state.specs.declared.parts.Parts.{Parts}
use Rattle.tp_machine_state.proofs.Keeping.{most_more}
use Rattle.tp_machine_state.specs.Shows.{Views, numbers}
use Rattle.tp_machine_state.specs.Tied.{IsKeyed, IsTied, priority_in}
use Rattle.tp_machine_state.proofs.Ties.{keyed_by}

pub queue_head : (items : List (TaskId × ℕ)) (t : TaskId) → option_map (λ x. x.0) (slice_get items 0) ≡ Some t → numbers items ≡ t.0 ∷ numbers (drop 1 items)
queue_head [] t is = absurd (let n : ⊥ = cc in n)
queue_head (x ∷ xs) t is = let e : x.0 ≡ t = cc in ap (λ y. y.0 ∷ numbers xs) e

pub queue_empty : (items : List (TaskId × ℕ)) → option_map (λ x. x.0) (slice_get items 0) ≡ None → numbers items ≡ []
queue_empty [] is = refl
queue_empty (x ∷ xs) is = absurd (let n : ⊥ = cc in n)

-- in a list: its head, or in its rest
pub contains_cases : {A : Type 0} (y : A) (ys : List A) (x : A) → Contains (y ∷ ys) x → (y ≡ x) ⊎ Contains ys x
contains_cases y ys x has = at_index has.0 has.1 has.2
  where
    at_index : (k : ℕ) → k < suc (length ys) → slice_index_or (y ∷ ys) k x ≡ x → (y ≡ x) ⊎ Contains ys x
    at_index zero within found = inl found
    at_index (suc k) within found = inr (k, omega arith, found)

-- a task that waits has a place
pub place_there : (items : List (TaskId × ℕ)) (t : TaskId) → Contains (numbers items) t.0 → (k : ℕ) × Contains items (t, k)
place_there [] t has = absurd (omega (arith, has.1))
place_there (x ∷ xs) t has = elim (contains_cases x.0.0 (numbers xs) t.0 has) [
  | inl here ↦ let e : x ≡ (t, x.1) = ap (λ n. (record { 0 = n }, x.1)) here in (x.1, (0, omega arith, e))
  | inr there ↦ let r = place_there xs t there in (r.0, Contains-append_right (x ∷ []) xs (t, r.0) r.1)
]

-- each place stands from low on
place_from : (low : ℕ) (xs : List (TaskId × ℕ)) (next : ℕ) (x : TaskId × ℕ) → Ordered low xs next → Contains xs x → low ≤ x.1
place_from low [] next x o has = absurd (omega (arith, has.1))
place_from low (y ∷ ys) next x o has = elim (contains_cases y ys x has) [
  | inl here ↦ let a = o.0 in let e = ap (λ z. z.1) here in omega (arith, a, e)
  | inr there ↦ let a = o.0 in let b = place_from (suc y.1) ys next x o.1 there in omega (arith, a, b)
]

-- one place, one task
place_once : (low : ℕ) (xs : List (TaskId × ℕ)) (next : ℕ) (x z : TaskId × ℕ) → Ordered low xs next → Contains xs x → Contains xs z → x.1 ≡ z.1 → x ≡ z
place_once low [] next x z o has also same = absurd (omega (arith, has.1))
place_once low (y ∷ ys) next x z o has also same = elim (contains_cases y ys x has) [
  | inl here ↦ elim (contains_cases y ys z also) [
    | inl too ↦ sym here ∙ too
    | inr later ↦ let a = place_from (suc y.1) ys next z o.1 later in let e = ap (λ w. w.1) here in absurd (omega (arith, a, e, same))
  ]
  | inr there ↦ elim (contains_cases y ys z also) [
    | inl too ↦ let a = place_from (suc y.1) ys next x o.1 there in let e = ap (λ w. w.1) too in absurd (omega (arith, a, e, same))
    | inr later ↦ place_once (suc y.1) ys next x z o.1 there later same
  ]
]

-- to leave out a place is to leave out the task that waits there
numbers-without_place : (xs : List (TaskId × ℕ)) (t k : ℕ) → ((x : TaskId × ℕ) → Contains xs x → (x.1 == k) ≡ (x.0.0 == t)) → numbers (without_place k xs) ≡ without t (numbers xs)
numbers-without_place [] t k same = refl
numbers-without_place (x ∷ xs) t k same =
    let rest = numbers-without_place xs t k (λ y has. same y (Contains-append_right (x ∷ []) xs y has)) in
    rw (same x (0, omega arith, refl)) (by (x.0.0 == t) rest)
  where
    by : (b : Bool) → numbers (without_place k xs) ≡ without t (numbers xs) → numbers (cond (not b) (x ∷ without_place k xs) (without_place k xs)) ≡ cond (not b) (x.0.0 ∷ without t (numbers xs)) (without t (numbers xs))
    by true rest = rest
    by false rest = ap (λ ys. x.0.0 ∷ ys) rest

-- a task waits under one key
pub key_once : (w : Waiting) (row : Option TaskRow) (place : Option ℕ) (k m number : ℕ) → place ≡ Some number → k ≡ place_key w.kind (priority_in row) number → IsKeyed w row place m → m ≡ k
key_once w row place k m number is made keyed =
    let same : keyed.number ≡ number = same_Some keyed.number number (sym keyed.known ∙ is) in
    keyed.made ∙ ap (place_key w.kind (priority_in row)) same ∙ sym made

-- a task that waits at this place alone leaves with it
pub numbers-unqueued : (xs : List (TaskId × ℕ)) (next : ℕ) (t : TaskId) (k : ℕ) → Ordered 0 xs next → Contains (numbers xs) t.0 → ((m : ℕ) → Contains xs (t, m) → m ≡ k) → numbers (without_place k xs) ≡ without t.0 (numbers xs)
numbers-unqueued xs next t k o has only =
    let there = place_there xs t has in
    numbers-without_place xs t.0 k (λ x within. elim (cases_eq x.0.0 t.0) [
      | inl same ↦
          let e : x.0 ≡ t = ap (λ n. record { 0 = n }) same in
          eq-eqb x.1 k (only x.1 (subst (λ u. Contains xs (u, x.1)) e within)) ∙ sym (eq-eqb x.0.0 t.0 same)
      | inr apart ↦
          ne_eqb x.1 k (λ e. apart (ap (λ w. w.0.0) (place_once 0 xs next x (t, there.0) o within there.1 (e ∙ sym (only there.0 there.1))))) ∙ sym (ne_eqb x.0.0 t.0 apart)
    ])

-- what passes a test is in the list
pub contains_filter : {A : Type 0} (p : A → Bool) (xs : List A) (x : A) → Contains (filter p xs) x → Contains xs x
contains_filter p xs x has = All-contains (Contains xs) (filter p xs) x (All-filter p (Contains xs) xs (All-contains_itself xs)) has

module _ {P : Type 0} (c : Config) (n : ℕ) (old : Parts P) (tied : IsTied c n old) where
  -- a queue that has lost some of its tasks
  pub tied_less : (queue : Queue) (items : List (TaskId × ℕ)) → waiting_of queue ≡ record (waiting_of old.queue) { items = items } → ((x : TaskId × ℕ) → Contains items x → Contains (waiting_of old.queue).items x) →
      IsTied c n (record old { queue = queue })
  tied_less queue items is fewer =
      let places = ap (λ w. w.capacity) is in
      let came = ap (λ w. w.offers) is in
      let offers = tied.offers in
      record {
        made_with = tied.made_with;
        config = tied.config;
        limit = tied.limit;
        least = tied.least;
        sizes = tied.sizes;
        places = tied.places;
        kind = ap (λ w. w.kind) is ∙ tied.kind;
        queue_places = λ unbounded. most_more old.tasks _ _ (omega (arith, places)) (tied.queue_places unbounded);
        offers = omega (arith, came, offers);
        idlings = tied.idlings;
        keyed = λ t k has. keyed_by (waiting_of queue) (waiting_of old.queue) _ _ k (ap (λ w. w.kind) is) (omega (arith, came)) (tied.keyed t k (fewer (t, k) (subst (λ w. Contains w.items (t, k)) is has)));
        payloads = tied.payloads;
        promises = tied.promises;
      }

-- another queue is seen, and nothing else
pub views_queue : {P : Type 0} (p : Parts P) (v : View) → Views p v → (queue : Queue) (ts : List ℕ) → ts ≡ numbers (waiting_of queue).items → Views (record p { queue = queue }) (record v { queue = ts })
views_queue p v views queue ts is =
    record {
      rank = views.rank;
      core_size = views.core_size;
      maximum_size = views.maximum_size;
      keep_alive = views.keep_alive;
      times_out = views.times_out;
      present = views.present;
      submitted = views.submitted;
      rows = views.rows;
      unknown = views.unknown;
      issued = views.issued;
      fates = views.fates;
      queued = is;
      seats = views.seats;
      order = views.order;
      done = views.done;
      completed = views.completed;
      most = views.most;
    }
