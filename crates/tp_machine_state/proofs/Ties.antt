-- What ties the structures together lasts through a change of one of them.
use Rattle.std.proofs.Common.{◌≡◌, ℕ, suc, List, [], ◌∷◌, drop, Some, None, Option, arith, sym, ap, subst, ◌∙◌, false, inl, inr, ◌<◌, ◌≤◌, true, refl}
use Rattle.std.specs.Prelude.{is_some, IfSome, IsTrue}
use Rattle.std.specs.List.{Contains}
use Rattle.std.proofs.lemmas.List.Elements.{Contains-append_right}
use Rattle.std.proofs.lemmas.Bool.{ne_eqb, cases_eq, false≢true}
use Rattle.std.proofs.lemmas.Option.{none-some}
use Rattle.tp_types.specs.Promise.{FitsPromise}
use Rattle.tp_types.specs.declared.configs.Config.{Config}
use Rattle.tp_types.specs.declared.tasks.Promise.{Promise}
use Rattle.tp_types.specs.Queues.{is_open}
use Rattle.tp_record.specs.declared.rows.TaskRow.{TaskRow}
use Rattle.tp_record.specs.Effects.{Outcome}
use Rattle.tp_queue.specs.declared.queues.Queue.{Queue}
use Rattle.tp_queue.specs.Queues.{waiting_of}
use Rattle.tp_queue.specs.Waiting.{Waiting, place_key}
use Rattle.tp_tasks.specs.declared.tasks.Tasks.{Tasks}
use Rattle.tp_tasks.specs.declared.table.KeptTask.{KeptTask}
use Rattle.tp_tasks.specs.Table.{row_of_task, promise_of_task, number_of_task, payload_of_task}
use Rattle.tp_tasks.specs.Tasks.{row_of, promise_of, number_of, payload_of, KeepsOthers, SetsRow, IsUnchanged}
use Rattle.tp_machine_state.specs.declared.parts.Parts.{Parts}
use Rattle.tp_machine_state.specs.Kept.{KeepsAtMost}
use Rattle.tp_machine_state.proofs.Keeping.{fewer_but, most_fewer, most_more, most_new}
use Rattle.tp_machine_state.specs.Tied.{IsTied, IsKeyed, waits, is_waiting, priority_in, KeepsPromise}

-- a task waits on under its key: in a queue of the same kind with as many offers or more,
pub keyed_by : (w y : Waiting) (row : Option TaskRow) (place : Option ℕ) (key : ℕ) → w.kind ≡ y.kind → y.offers ≤ w.offers → IsKeyed y row place key → IsKeyed w row place key
keyed_by w y row place key kind more k =
    let below = k.accepted in
    record { number = k.number; accepted = omega (arith, below, more); known = k.known; made = k.made ∙ ap (λ q. place_key q (priority_in row) k.number) (sym kind) }

-- with a row of the same priority and with the same place number
pub keyed_row : (w : Waiting) (row before : Option TaskRow) (place was : Option ℕ) (key : ℕ) → priority_in row ≡ priority_in before → place ≡ was → IsKeyed w before was key → IsKeyed w row place key
keyed_row w row before place was key ranked same k =
    record { number = k.number; accepted = k.accepted; known = same ∙ k.known; made = k.made ∙ ap (λ r. place_key w.kind r k.number) (sym ranked) }

-- as what is kept of it is the same
pub keyed_same : {P : Type 0} (w : Waiting) (o before : Option (KeptTask P)) (key : ℕ) → o ≡ before → IsKeyed w (row_of_task before) (number_of_task before) key → IsKeyed w (row_of_task o) (number_of_task o) key
keyed_same w o before key same k = keyed_row w (row_of_task o) (row_of_task before) (number_of_task o) (number_of_task before) key (ap (λ x. priority_in (row_of_task x)) same) (ap number_of_task same) k

module _ {P : Type 0} (c : Config) (n : ℕ) (old : Parts P) (tied : IsTied c n old) where
  -- another row, promise or payload of task t alone
  pub tied_task : (tasks : Tasks P) (t : ℕ) → KeepsOthers old.tasks tasks t → (is_some (row_of tasks t) ≡ true → is_some (row_of old.tasks t) ≡ true) → number_of tasks t ≡ number_of old.tasks t → priority_in (row_of tasks t) ≡ priority_in (row_of old.tasks t) →
      is_some (payload_of tasks t) ≡ waits (row_of tasks t) → KeepsPromise (promise_of tasks t) (row_of tasks t) → IsTied c n (record old { tasks = tasks })
  tied_task tasks t others there number ranked paid kept =
      record {
        made_with = tied.made_with;
        config = tied.config;
        limit = tied.limit;
        least = tied.least;
        sizes = tied.sizes;
        places = tied.places;
        kind = tied.kind;
        queue_places = λ is. most_fewer old.tasks tasks _ (fewer_but old.tasks tasks t others there) (tied.queue_places is);
        offers = tied.offers;
        idlings = tied.idlings;
        keyed = λ u k has. elim (cases_eq u.0 t) [
          | inl same ↦ keyed_row (waiting_of old.queue) (row_of tasks u.0) (row_of old.tasks u.0) (number_of tasks u.0) (number_of old.tasks u.0) k
              (ap (λ x. priority_in (row_of tasks x)) same ∙ ranked ∙ ap (λ x. priority_in (row_of old.tasks x)) (sym same))
              (ap (number_of tasks) same ∙ number ∙ ap (number_of old.tasks) (sym same)) (tied.keyed u k has)
          | inr apart ↦ keyed_same (waiting_of old.queue) _ _ k (others u.0 (ne_eqb t u.0 (λ b. apart (sym b)))) (tied.keyed u k has)
        ];
        payloads = λ u. elim (cases_eq u t) [
          | inl same ↦ ap (λ x. is_some (payload_of tasks x)) same ∙ paid ∙ ap (λ x. waits (row_of tasks x)) (sym same)
          | inr apart ↦ let o = others u (ne_eqb t u (λ b. apart (sym b))) in ap (λ k. is_some (payload_of_task k)) o ∙ tied.payloads u ∙ ap (λ k. waits (row_of_task k)) (sym o)
        ];
        promises = λ u. elim (cases_eq u t) [
          | inl same ↦ let Q : ℕ → Type 0 = λ x. KeepsPromise (promise_of tasks x) (row_of tasks x) in subst Q (sym same) kept
          | inr apart ↦ let Q : Option (KeptTask P) → Type 0 = λ k. KeepsPromise (promise_of_task k) (row_of_task k) in subst Q (sym (others u (ne_eqb t u (λ b. apart (sym b))))) (tied.promises u)
        ];
      }

  -- another row of task t, which has the priority and the outcome that it had, and a payload just where it waits
  pub tied_paid : (tasks : Tasks P) (t : ℕ) (r y : TaskRow) → row_of old.tasks t ≡ Some r → row_of tasks t ≡ Some y → KeepsOthers old.tasks tasks t →
      number_of tasks t ≡ number_of old.tasks t → promise_of tasks t ≡ promise_of old.tasks t → y.priority ≡ r.priority → y.outcome ≡ r.outcome → is_some (payload_of tasks t) ≡ is_waiting y → IsTied c n (record old { tasks = tasks })
  tied_paid tasks t r y there turned others number promised ranked ended paid =
      let Q : Option Promise → Option TaskRow → Type 0 = λ p o. KeepsPromise p o in
      let before : Q (promise_of old.tasks t) (Some r) = subst (Q (promise_of old.tasks t)) there (tied.promises t) in
      let after : Q (promise_of old.tasks t) (Some y) = same_outcome (promise_of old.tasks t) r y ended before in
      tied_task tasks t others (λ _. ap (λ o. is_some o) there) number (ap priority_in turned ∙ ranked ∙ ap priority_in (sym there)) (paid ∙ ap waits (sym turned))
      (subst (Q (promise_of tasks t)) (sym turned) (subst (λ p. Q p (Some y)) (sym promised) after))
    where
      same_outcome : (p : Option Promise) (a b : TaskRow) → b.outcome ≡ a.outcome → KeepsPromise p (Some a) → KeepsPromise p (Some b)
      same_outcome None a b e h = tt
      same_outcome (Some p) a b e h = let F : _ → Type 0 = λ o. Rattle.std.specs.Prelude.IfSome o (Rattle.tp_types.specs.Promise.FitsPromise p) in subst F (sym e) h

  -- another row of task t that waits as it did, and has the priority and the outcome that it had
  pub tied_row : (tasks : Tasks P) (t : ℕ) (r y : TaskRow) → row_of old.tasks t ≡ Some r → SetsRow old.tasks tasks t y → is_waiting y ≡ is_waiting r → y.priority ≡ r.priority → y.outcome ≡ r.outcome → IsTied c n (record old { tasks = tasks })
  tied_row tasks t r y there set waiting ranked ended =
      tied_paid tasks t r y there set.row set.others set.number set.promise ranked ended
      (ap (λ o. is_some o) set.payload ∙ tied.payloads t ∙ ap waits there ∙ sym waiting)

  -- task t, which did not wait, has a row of its priority with this outcome, which is as promised, and does not wait
  pub tied_ended : (tasks : Tasks P) (t : ℕ) (r y : TaskRow) (o : Outcome) → row_of old.tasks t ≡ Some r → is_waiting r ≡ false → SetsRow old.tasks tasks t y → is_waiting y ≡ false → y.priority ≡ r.priority → y.outcome ≡ Some o →
      IfSome (promise_of old.tasks t) (λ p. FitsPromise p o) → IsTied c n (record old { tasks = tasks })
  tied_ended tasks t r y o there begun set gone ranked ended fits =
      let Q : Option Promise → Option TaskRow → Type 0 = λ p x. KeepsPromise p x in
      tied_task tasks t set.others (λ _. ap (λ o. is_some o) there) set.number (ap priority_in set.row ∙ ranked ∙ ap priority_in (sym there))
      (ap (λ x. is_some x) set.payload ∙ tied.payloads t ∙ ap waits there ∙ begun ∙ sym gone ∙ sym (ap waits set.row))
      (subst (Q (promise_of tasks t)) (sym set.row) (subst (λ p. Q p (Some y)) (sym set.promise) (keeps (promise_of old.tasks t) fits)))
    where
      keeps : (p : Option Promise) → IfSome p (λ x. FitsPromise x o) → KeepsPromise p (Some y)
      keeps None fits = tt
      keeps (Some p) fits = let F : Option Outcome → Type 0 = λ x. IfSome x (FitsPromise p) in subst F (sym ended) fits

-- a task with a place number has a row
pub row_kept : {P : Type 0} (o : Option (KeptTask P)) (m : ℕ) → number_of_task o ≡ Some m → (r : TaskRow) × (row_of_task o ≡ Some r)
row_kept None m is = absurd (none-some m is)
row_kept (Some k) m is = (k.row, refl)

-- more places in the queue leave the structures tied, and so does more memory for tasks
pub tied_roomier : {P : Type 0} (c : Config) (n : ℕ) (p : Parts P) → IsTied c n p → (tasks : Tasks P) → IsUnchanged p.tasks tasks → (queue : Queue) →
    waiting_of queue ≡ record (waiting_of p.queue) { capacity = (waiting_of queue).capacity } → (waiting_of p.queue).capacity ≤ (waiting_of queue).capacity →
    IsTied c n (record p { tasks = tasks; queue = queue })
tied_roomier {P = P} c n p tied tasks kept queue same more =
    let offers = tied.offers in
    let made = ap (λ w. w.offers) same in
    record {
      made_with = tied.made_with;
      config = tied.config;
      limit = tied.limit;
      least = tied.least;
      sizes = tied.sizes;
      places = tied.places;
      kind = ap (λ w. w.kind) same ∙ tied.kind;
      queue_places = λ is.
          most_more tasks _ _ more (most_fewer p.tasks tasks _ (λ t has. ap (λ (k : Option (KeptTask P)). is_some (row_of_task k)) (sym (kept.tasks t)) ∙ has) (tied.queue_places is));
      offers = omega (arith, made, offers);
      idlings = tied.idlings;
      keyed = λ u k has.
          keyed_by (waiting_of queue) (waiting_of p.queue) _ _ k (ap (λ w. w.kind) same) (omega (arith, made))
          (keyed_same (waiting_of p.queue) _ _ k (kept.tasks u.0) (tied.keyed u k (subst (λ w. Contains w.items (u, k)) same has)));
      payloads = λ u. let o = kept.tasks u in ap (λ k. is_some (payload_of_task k)) o ∙ tied.payloads u ∙ ap (λ k. waits (row_of_task k)) (sym o);
      promises = λ u. let Q : Option (KeptTask P) → Type 0 = λ k. KeepsPromise (promise_of_task k) (row_of_task k) in subst Q (sym (kept.tasks u)) (tied.promises u);
    }

-- a task that is not kept was never queued
pub unqueued : {P : Type 0} (o : Option (KeptTask P)) → is_some o ≡ false → number_of_task o ≡ None
unqueued None is = refl
unqueued (Some k) is = absurd (false≢true (sym is))

-- a new task that waits, with a place for it in a queue that always has room, leaves the structures tied
pub tied_new : {P : Type 0} (c : Config) (n : ℕ) (p : Parts P) → IsTied c n p → (tasks : Tasks P) (t : ℕ) (r : TaskRow) → row_of tasks t ≡ Some r → is_waiting r ≡ true → r.outcome ≡ None →
    is_some (payload_of tasks t) ≡ true → number_of p.tasks t ≡ None → KeepsOthers p.tasks tasks t →
    (IsTrue (is_open (waiting_of p.queue).kind) → (k : ℕ) × KeepsAtMost p.tasks k × (k < (waiting_of p.queue).capacity)) → IsTied c n (record p { tasks = tasks })
tied_new {P = P} c n p tied tasks t r there waiting none paid new others place = record {
  made_with = tied.made_with;
  config = tied.config;
  limit = tied.limit;
  least = tied.least;
  sizes = tied.sizes;
  places = tied.places;
  kind = tied.kind;
  queue_places = λ is. let k = place (ap is_open tied.kind ∙ is) in let less = k.2 in most_more tasks _ _ (omega (arith, less)) (most_new p.tasks tasks t k.0 others k.1);
  offers = tied.offers;
  idlings = tied.idlings;
  keyed = λ u k has. elim (cases_eq u.0 t) [
    | inl same ↦ absurd (none-some _ (sym new ∙ ap (number_of p.tasks) (sym same) ∙ (tied.keyed u k has).known))
    | inr apart ↦ keyed_same (waiting_of p.queue) _ _ k (others u.0 (ne_eqb t u.0 (λ b. apart (sym b)))) (tied.keyed u k has)
  ];
  payloads = λ u. elim (cases_eq u t) [
    | inl same ↦ ap (λ x. is_some (payload_of tasks x)) same ∙ paid ∙ sym waiting ∙ ap waits (sym there) ∙ ap (λ x. waits (row_of tasks x)) (sym same)
    | inr apart ↦ let o = others u (ne_eqb t u (λ b. apart (sym b))) in ap (λ k. is_some (payload_of_task k)) o ∙ tied.payloads u ∙ ap (λ k. waits (row_of_task k)) (sym o)
  ];
  promises = λ u. elim (cases_eq u t) [
    | inl same ↦
        let Q : ℕ → Type 0 = λ x. KeepsPromise (promise_of tasks x) (row_of tasks x) in
        let R : Option TaskRow → Type 0 = λ o. KeepsPromise (promise_of tasks t) o in
        subst Q (sym same) (subst R (sym there) (unended (promise_of tasks t) r none))
    | inr apart ↦ let Q : Option (KeptTask P) → Type 0 = λ k. KeepsPromise (promise_of_task k) (row_of_task k) in subst Q (sym (others u (ne_eqb t u (λ b. apart (sym b))))) (tied.promises u)
  ];
}
  where
    unended : (p : Option Promise) (r : TaskRow) → r.outcome ≡ None → KeepsPromise p (Some r)
    unended None r none = tt
    unended (Some p) r none = let F : _ → Type 0 = λ o. Rattle.std.specs.Prelude.IfSome o (Rattle.tp_types.specs.Promise.FitsPromise p) in subst F (sym none) tt

-- what is in a list's rest is in the list
pub contains_drop : {A : Type 0} (xs : List A) (x : A) → Contains (drop 1 xs) x → Contains xs x
contains_drop [] x has = has
contains_drop (y ∷ ys) x has = Contains-append_right (y ∷ []) ys x has

-- one entry more leaves the structures tied
pub tied_more : {P : Type 0} (c : Config) (n : ℕ) (p : Parts P) → IsTied c n p → IsTied c (suc n) p
tied_more c n p tied =
    let a = tied.offers in
    let b = tied.idlings in
    record {
      made_with = tied.made_with;
      config = tied.config;
      limit = tied.limit;
      least = tied.least;
      sizes = tied.sizes;
      places = tied.places;
      kind = tied.kind;
      queue_places = tied.queue_places;
      offers = omega (arith, a);
      idlings = omega (arith, b);
      keyed = tied.keyed;
      payloads = tied.payloads;
      promises = tied.promises;
    }
