-- What ties the structures together lasts where a task comes into the queue.
use Rattle.std.proofs.Common.{◌≡◌, ℕ, ◌+◌, ◌<◌, Bool, false, List, ◌∷◌, Some, Option, refl, arith, sym, ap, subst, ◌∙◌, ◌⊎◌, inl, inr}
use Rattle.std.specs.Prelude.{is_some, true, not, ◌&&◌, filter, nat_le, nat_lt}
use Rattle.std.specs.List.{Contains}
use Rattle.std.proofs.lemmas.Bool.{ne_eqb, cases_eq}
use Rattle.std.proofs.lemmas.Option.{none-some}
use Rattle.std.proofs.lemmas.List.{length-map}
use Rattle.std.proofs.lemmas.List.Elements.{Contains-append_cases}
use Rattle.std.proofs.Math.ListN.{get_or-map}
use Rattle.tp_types.specs.declared.configs.Config.{Config}
use Rattle.tp_types.specs.declared.ids.TaskId.{TaskId}
use Rattle.tp_types.specs.declared.tasks.Promise.{Promise}
use Rattle.tp_types.specs.Queues.{is_ranked}
use Rattle.tp_record.specs.declared.rows.TaskRow.{TaskRow}
use Rattle.tp_queue.specs.declared.queues.Queue.{Queue}
use Rattle.tp_ring.specs.Ranks.{enter}
use Rattle.tp_queue.specs.Queues.{waiting_of}
use Rattle.tp_queue.specs.Waiting.{place_key}
use Rattle.tp_tasks.specs.declared.tasks.Tasks.{Tasks}
use Rattle.tp_tasks.specs.declared.table.KeptTask.{KeptTask}
use Rattle.tp_tasks.specs.Table.{row_of_task, promise_of_task, payload_of_task}
use Rattle.tp_tasks.specs.Tasks.{task_of, row_of, promise_of, number_of, payload_of, KeepsOthers}
use Rattle.tp_machine_state.specs.declared.parts.Parts.{Parts}
use Rattle.tp_machine_state.proofs.Keeping.{fewer_but, most_fewer, most_more}
use Rattle.tp_laws.specs.View.{View, is_held}
use Rattle.tp_machine_state.specs.Shows.{Views, numbers}
use Rattle.tp_machine_state.specs.Tied.{AreKeyed, IsTied, is_before, is_waiting, priority_in, waits, KeepsPromise}
use Rattle.tp_machine_state.proofs.Joins.{Keyed, keyed_all}
use Rattle.tp_machine_state.proofs.Queued.{contains_cases, contains_filter}
use Rattle.tp_machine_state.proofs.Ties.{keyed_by, keyed_same, row_kept}

-- the queued tasks wait under the keys of the priorities that are seen
pub keyed_seen : {P : Type 0} (p : Parts P) (v : View) → Views p v → AreKeyed p → Keyed (is_ranked (waiting_of p.queue).kind) (λ u. (v.tasks u).priority) (waiting_of p.queue).offers (waiting_of p.queue).items
keyed_seen {P} p v views keyed =
    keyed_all (waiting_of p.queue).kind (λ u. (v.tasks u).priority) (waiting_of p.queue).offers (waiting_of p.queue).items (λ x has.
    let k = keyed x.0 x.1 has in
    (k.number, k.accepted, k.made ∙ ap (λ r. place_key (waiting_of p.queue).kind r k.number) (seen x.0.0 k.number k.known)))
  where
    -- a task with a place number is one of those that are seen
    seen : (u m : ℕ) → number_of p.tasks u ≡ Some m → priority_in (row_of p.tasks u) ≡ (v.tasks u).priority
    seen u m known = by (is_held v u) refl
      where
        by : (b : Bool) → is_held v u ≡ b → priority_in (row_of p.tasks u) ≡ (v.tasks u).priority
        by true held = ap priority_in (views.rows u held)
        by false off = let r = row_kept (task_of p.tasks u) m known in absurd (none-some r.0 (sym (views.unknown u off) ∙ r.1))

-- a row of a task that has not begun waits as one does that is in another such place
pub waits_on : (r y : TaskRow) → Some r ≡ Some y → is_before r.place ≡ true → not y.cancelled ≡ is_waiting y
waits_on r y same before =
    let row : r ≡ y = cc in
    ap (λ b. b && not y.cancelled) (sym (ap (λ x. is_before x.place) (sym row) ∙ before))

-- a task that waits under some place number waits
contains_number : (items : List (TaskId × ℕ)) (t : TaskId) (k : ℕ) → Contains items (t, k) → Contains (numbers items) t.0
contains_number items t k has =
    let same = length-map items (λ (x : TaskId × ℕ). x.0.0) in
    (has.0, omega (arith, same, has.1), get_or-map (λ (x : TaskId × ℕ). x.0.0) items has.0 (t, k) ∙ ap (λ x. x.0.0) has.2)

-- what is in a line that one came into was there, or is the new one
contains_enter : (k : ℕ) (t : TaskId) (xs : List (TaskId × ℕ)) (x : TaskId × ℕ) → Contains (enter k t xs) x → Contains xs x ⊎ ((t, k) ≡ x)
contains_enter k t xs x has = elim (Contains-append_cases (filter (λ y. nat_le y.1 k) xs) ((t, k) ∷ filter (λ y. nat_lt k y.1) xs) x has) [
  | inl before ↦ inl (contains_filter (λ y. nat_le y.1 k) xs x before)
  | inr behind ↦ elim (contains_cases (t, k) (filter (λ y. nat_lt k y.1) xs) x behind) [
    | inl here ↦ inr here
    | inr later ↦ inl (contains_filter (λ y. nat_lt k y.1) xs x later)
  ]
]

module _ {P : Type 0} (c : Config) (n : ℕ) (old : Parts P) (tied : IsTied c n old) where
  -- another place number of a task that is not in the queue
  pub tied_number : (tasks : Tasks P) (t : TaskId) → (Contains (numbers (waiting_of old.queue).items) t.0 → ⊥) → KeepsOthers old.tasks tasks t.0 →
      row_of tasks t.0 ≡ row_of old.tasks t.0 → promise_of tasks t.0 ≡ promise_of old.tasks t.0 → payload_of tasks t.0 ≡ payload_of old.tasks t.0 → IsTied c n (record old { tasks = tasks })
  tied_number tasks t absent others row promised paid =
      record {
        made_with = tied.made_with;
        config = tied.config;
        limit = tied.limit;
        least = tied.least;
        sizes = tied.sizes;
        places = tied.places;
        kind = tied.kind;
        queue_places = λ is. most_fewer old.tasks tasks _ (fewer_but old.tasks tasks t.0 others (λ there. ap (λ o. is_some o) (sym row) ∙ there)) (tied.queue_places is);
        offers = tied.offers;
        idlings = tied.idlings;
        keyed = λ u k has. elim (cases_eq u.0 t.0) [
          | inl same ↦ absurd (absent (subst (λ x. Contains (numbers (waiting_of old.queue).items) x) same (contains_number (waiting_of old.queue).items u k has)))
          | inr apart ↦ keyed_same (waiting_of old.queue) _ _ k (others u.0 (ne_eqb t.0 u.0 (λ b. apart (sym b)))) (tied.keyed u k has)
        ];
        payloads = λ u. elim (cases_eq u t.0) [
          | inl same ↦
              ap (λ x. is_some (payload_of tasks x)) same ∙ ap (λ o. is_some o) paid ∙ tied.payloads t.0 ∙ ap waits (sym row)
              ∙ ap (λ x. waits (row_of tasks x)) (sym same)
          | inr apart ↦ let o = others u (ne_eqb t.0 u (λ b. apart (sym b))) in ap (λ k. is_some (payload_of_task k)) o ∙ tied.payloads u ∙ ap (λ k. waits (row_of_task k)) (sym o)
        ];
        promises = λ u. elim (cases_eq u t.0) [
          | inl same ↦
              let Q : Option Promise → Option TaskRow → Type 0 = λ p o. KeepsPromise p o in
              let R : ℕ → Type 0 = λ x. Q (promise_of tasks x) (row_of tasks x) in
              subst R (sym same) (subst (Q (promise_of tasks t.0)) (sym row) (subst (λ p. Q p (row_of old.tasks t.0)) (sym promised) (tied.promises t.0)))
          | inr apart ↦ let Q : Option (KeptTask P) → Type 0 = λ k. KeepsPromise (promise_of_task k) (row_of_task k) in subst Q (sym (others u (ne_eqb t.0 u (λ b. apart (sym b))))) (tied.promises u)
        ];
      }

  -- a queue with one task more, which waits under the key of its priority and place number
  pub tied_longer : (queue : Queue) (t : TaskId) (row : TaskRow) → row_of old.tasks t.0 ≡ Some row → waiting_of queue ≡ record (waiting_of old.queue) {
    items = enter (place_key (waiting_of old.queue).kind row.priority (waiting_of old.queue).offers) t (waiting_of old.queue).items;
    offers = (waiting_of old.queue).offers + 1;
  } → (waiting_of old.queue).offers < n → number_of old.tasks t.0 ≡ Some (waiting_of old.queue).offers → IsTied c n (record old { queue = queue })
  tied_longer queue t row there is few number =
      let w = waiting_of old.queue in
      let places = ap (λ w. w.capacity) is in
      let came = ap (λ w. w.offers) is in
      record {
        made_with = tied.made_with;
        config = tied.config;
        limit = tied.limit;
        least = tied.least;
        sizes = tied.sizes;
        places = tied.places;
        kind = ap (λ w. w.kind) is ∙ tied.kind;
        queue_places = λ unbounded. most_more old.tasks _ _ (omega (arith, places)) (tied.queue_places unbounded);
        offers = omega (arith, came, few);
        idlings = tied.idlings;
        keyed = λ u k has. keyed_by (waiting_of queue) (record w { offers = w.offers + 1 }) _ _ k (ap (λ y. y.kind) is) (omega (arith, came)) (elim (contains_enter (place_key w.kind row.priority w.offers) t w.items (u, k) (subst (λ y. Contains y.items (u, k)) is has)) [
          | inl before ↦ keyed_by (record w { offers = w.offers + 1 }) w _ _ k refl (omega arith) (tied.keyed u k before)
          | inr last ↦ record {
            number = w.offers;
            accepted = omega arith;
            known = ap (λ x. number_of old.tasks x.0.0) (sym last) ∙ number;
            made = sym (ap (λ x. x.1) last) ∙ ap (λ r. place_key w.kind r w.offers) (sym (ap priority_in (ap (λ x. row_of old.tasks x.0.0) (sym last) ∙ there)));
          }
        ]);
        payloads = tied.payloads;
        promises = tied.promises;
      }
