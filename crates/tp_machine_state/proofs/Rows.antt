-- What is seen where one task's row is changed, where a task comes, and where one is forgotten.
use Rattle.std.proofs.Common.{◌≡◌, ℕ, suc, ◌<◌, Bool, true, false, not, ◌&&◌, ◌||◌, List, ◌∷◌, Option, Some, None, refl, arith, sym, ap, subst, ◌∙◌, inl, inr}
use mathlib.Core.Path.{ap₂}
use Rattle.std.specs.Prelude.{◌==◌, nat_lt, is_some, if◌then◌else◌}
use Rattle.std.specs.List.{Contains}
use Rattle.std.proofs.lemmas.Bool.{cases_eq, eq-eqb, ne_eqb, eqb-true, lt-ltb, or_cases, true≢false, false≢true}
use Rattle.std.proofs.lemmas.Bool.Decides.{nat_tests}
use Rattle.std.proofs.lemmas.Option.{same_Some, none-some}
use Rattle.tp_types.specs.declared.configs.Config.{Config}
use Rattle.tp_types.specs.declared.ids.TaskId.{TaskId}
use Rattle.tp_types.specs.declared.tasks.Fate.{Fate}
use Rattle.tp_record.specs.declared.rows.TaskRow.{TaskRow}
use Rattle.tp_record.specs.Lists.{is_among}
use Rattle.tp_record.specs.State.{is_fate}
use Rattle.tp_queue.specs.Queues.{waiting_of}
use Rattle.tp_tasks.specs.declared.table.KeptTask.{KeptTask}
use Rattle.tp_tasks.specs.declared.tasks.Tasks.{Tasks}
use Rattle.tp_tasks.specs.Table.{row_of_task, number_of_task, payload_of_task, promise_of_task}
use Rattle.tp_tasks.specs.Tasks.{task_of, row_of, done_of, fated_of, submissions, KeepsOthers}
use Rattle.tp_laws.specs.View.{View, is_held, put}
use Rattle.tp_machine_state.specs.declared.parts.Parts.{Parts}
use Rattle.tp_machine_state.proofs.Keeping.{fewer_but, most_fewer}
use Rattle.tp_machine_state.specs.Shows.{Views}
use Rattle.tp_machine_state.specs.Tied.{IsTied, IsKeyed, waits, KeepsPromise}

-- a fate is counted for a task that was not cancelled
pub fate_unless : (f g : Fate) (b : Bool) → is_fate f (if b then None else Some g) ≡ (not b && is_fate f (Some g))
fate_unless f g true = grind arith
fate_unless f g false = refl

module _ {P : Type 0} (old : Parts P) (new : Tasks P) (v : View) (views : Views old v) where
  -- a task with a row is held, and its row is seen
  pub held_row : (t : ℕ) (r : TaskRow) → row_of old.tasks t ≡ Some r → (is_held v t ≡ true) × (v.tasks t ≡ r)
  held_row t r is = by (is_held v t) refl
    where
      by : (b : Bool) → is_held v t ≡ b → (is_held v t ≡ true) × (v.tasks t ≡ r)
      by true held = (held, same_Some (v.tasks t) r (sym (views.rows t held) ∙ is))
      by false off = absurd (none-some r (sym (views.unknown t off) ∙ is))

  module _ (t : ℕ) (others : KeepsOthers old.tasks new t) where
    -- another task's row stays
    row_else : (u : ℕ) → (u ≡ t → ⊥) → row_of new u ≡ row_of old.tasks u
    row_else u apart = ap row_of_task (others u (ne_eqb t u (λ b. apart (sym b))))

    -- one row is changed
    pub views_row : (r : TaskRow) (change : TaskRow → TaskRow) (fates : Fate → ℕ) (done : ℕ → List ℕ) → row_of old.tasks t ≡ Some r → row_of new t ≡ Some (change r) →
        submissions new ≡ submissions old.tasks → ((f : Fate) → fates f ≡ fated_of new f) → ((g : ℕ) → done g ≡ done_of new g) →
        Views (record old { tasks = new }) (record v { tasks = put t (change (v.tasks t)) v.tasks; fates = fates; done = done })
    views_row r change fates done was is same counted listed =
        let here = held_row t r was in
        record {
          rank = views.rank;
          core_size = views.core_size;
          maximum_size = views.maximum_size;
          keep_alive = views.keep_alive;
          times_out = views.times_out;
          present = views.present;
          submitted = views.submitted ∙ sym same;
          rows = λ u held. elim (cases_eq u t) [
            | inl equal ↦ rw (eq-eqb u t equal) (ap (row_of new) equal ∙ is ∙ ap (λ x. Some (change x)) (sym here.1))
            | inr apart ↦ rw (ne_eqb u t apart) (row_else u apart ∙ views.rows u held)
          ];
          unknown = λ u off. elim (cases_eq u t) [
            | inl equal ↦ absurd (true≢false (sym here.0 ∙ ap (is_held v) (sym equal) ∙ off))
            | inr apart ↦ row_else u apart ∙ views.unknown u off
          ];
          issued = views.issued;
          fates = counted;
          queued = views.queued;
          seats = views.seats;
          order = views.order;
          done = listed;
          completed = views.completed;
          most = views.most;
        }

    -- a task comes, with the next number
    pub views_new : (r : TaskRow) → t ≡ submissions old.tasks → row_of new t ≡ Some r → submissions new ≡ suc (submissions old.tasks) →
        ((f : Fate) → fated_of new f ≡ fated_of old.tasks f) → ((g : ℕ) → done_of new g ≡ done_of old.tasks g) →
        Views (record old { tasks = new }) (record v { submitted = suc v.submitted; tasks = put t r v.tasks })
    views_new r number is one fates done =
        let n = views.submitted in
        record {
          rank = views.rank;
          core_size = views.core_size;
          maximum_size = views.maximum_size;
          keep_alive = views.keep_alive;
          times_out = views.times_out;
          present = views.present;
          submitted = omega (arith, n, one);
          rows = λ u held. elim (cases_eq u t) [
            | inl equal ↦ rw (eq-eqb u t equal) (ap (row_of new) equal ∙ is)
            | inr apart ↦ rw (ne_eqb u t apart) (row_else u apart ∙ views.rows u (sym (held_before u apart) ∙ held))
          ];
          unknown = λ u off. elim (cases_eq u t) [
            | inl equal ↦ absurd (true≢false (sym held_now ∙ ap held_then (sym equal) ∙ off))
            | inr apart ↦ row_else u apart ∙ views.unknown u (sym (held_before u apart) ∙ off)
          ];
          issued = λ u among. let below = views.issued u among in omega (arith, below);
          fates = λ f. views.fates f ∙ sym (fates f);
          queued = views.queued;
          seats = views.seats;
          order = views.order;
          done = λ g. views.done g ∙ sym (done g);
          completed = views.completed;
          most = views.most;
        }
      where
        next : t ≡ v.submitted
        next = number ∙ sym views.submitted

        held_then : ℕ → Bool
        held_then u = is_held (record v { submitted = suc v.submitted }) u

        -- its number was not left out
        fresh : (b : Bool) → is_among t v.left_out ≡ b → is_among t v.left_out ≡ false
        fresh true among = absurd (let below = views.issued t among in let x : ⊥ = omega (arith, below, next) in x)
        fresh false off = off

        held_now : held_then t ≡ true
        held_now = ap₂ (λ a b. not a && b) (fresh (is_among t v.left_out) refl) (lt-ltb t (suc v.submitted) (omega (arith, next)))

        one_more : (u m : ℕ) → (u ≡ m → ⊥) → nat_lt u (suc m) ≡ nat_lt u m
        one_more u m apart = grind (arith, nat_tests)

        held_before : (u : ℕ) → (u ≡ t → ⊥) → held_then u ≡ is_held v u
        held_before u apart = ap (λ b. not (is_among u v.left_out) && b) (one_more u v.submitted (λ e. apart (e ∙ sym next)))

    -- a task is forgotten
    pub views_less : (t < v.submitted) → row_of new t ≡ None → submissions new ≡ submissions old.tasks →
        ((f : Fate) → fated_of new f ≡ fated_of old.tasks f) → ((g : ℕ) → done_of new g ≡ done_of old.tasks g) →
        Views (record old { tasks = new }) (record v { left_out = t ∷ v.left_out })
    views_less known is same fates done =
        record {
          rank = views.rank;
          core_size = views.core_size;
          maximum_size = views.maximum_size;
          keep_alive = views.keep_alive;
          times_out = views.times_out;
          present = views.present;
          submitted = views.submitted ∙ sym same;
          rows = λ u held. elim (cases_eq u t) [
            | inl equal ↦ absurd (true≢false (sym held ∙ ap (λ b. not (b || is_among u v.left_out) && nat_lt u v.submitted) (eq-eqb u t equal)))
            | inr apart ↦ row_else u apart ∙ views.rows u (sym (held_else u apart) ∙ held)
          ];
          unknown = λ u off. elim (cases_eq u t) [
            | inl equal ↦ ap (row_of new) equal ∙ is
            | inr apart ↦ row_else u apart ∙ views.unknown u (sym (held_else u apart) ∙ off)
          ];
          issued = λ u among. elim (or_cases (u == t) (is_among u v.left_out) among) [
            | inl equal ↦ let e = eqb-true u t equal in omega (arith, e, known)
            | inr later ↦ views.issued u later
          ];
          fates = λ f. views.fates f ∙ sym (fates f);
          queued = views.queued;
          seats = views.seats;
          order = views.order;
          done = λ g. views.done g ∙ sym (done g);
          completed = views.completed;
          most = views.most;
        }
      where
        held_else : (u : ℕ) → (u ≡ t → ⊥) → is_held (record v { left_out = t ∷ v.left_out }) u ≡ is_held v u
        held_else u apart = ap (λ b. not (b || is_among u v.left_out) && nat_lt u v.submitted) (ne_eqb u t apart)

-- a task that is forgotten, and that was not queued, ties nothing
pub tied_forgets : {P : Type 0} (c : Config) (n : ℕ) (old : Parts P) → IsTied c n old → (new : Tasks P) (t : TaskId) → ((k : ℕ) → Contains (waiting_of old.queue).items (t, k) → ⊥) →
    task_of new t.0 ≡ None → KeepsOthers old.tasks new t.0 → IsTied c n (record old { tasks = new })
tied_forgets {P = P} c n old tied new t unqueued gone others =
    record {
      made_with = tied.made_with;
      config = tied.config;
      limit = tied.limit;
      least = tied.least;
      sizes = tied.sizes;
      places = tied.places;
      kind = tied.kind;
      queue_places = λ is.
          most_fewer old.tasks new _ (fewer_but old.tasks new t.0 others (λ there. absurd (false≢true (sym (ap (λ (k : Option (KeptTask P)). is_some (row_of_task k)) gone) ∙ there)))) (tied.queue_places is);
      offers = tied.offers;
      idlings = tied.idlings;
      keyed = λ u key has. elim (cases_eq u.0 t.0) [
        | inl same ↦ let equal : u ≡ t = grind arith in absurd (unqueued key (let Q : TaskId → Type 0 = λ x. Contains (waiting_of old.queue).items (x, key) in subst Q equal has))
        | inr apart ↦
            let Q : Option (KeptTask P) → Type 0 = λ k. IsKeyed (waiting_of old.queue) (row_of_task k) (number_of_task k) key in
            subst Q (sym (others u.0 (ne_eqb t.0 u.0 (λ b. apart (sym b))))) (tied.keyed u key has)
      ];
      payloads = λ u. elim (cases_eq u t.0) [
        | inl same ↦
            let none : task_of new u ≡ None = ap (task_of new) same ∙ gone in
            ap (λ k. is_some (payload_of_task k)) none ∙ ap (λ k. waits (row_of_task k)) (sym none)
        | inr apart ↦
            let o = others u (ne_eqb t.0 u (λ b. apart (sym b))) in
            ap (λ k. is_some (payload_of_task k)) o ∙ tied.payloads u ∙ ap (λ k. waits (row_of_task k)) (sym o)
      ];
      promises = λ u.
          let Q : Option (KeptTask P) → Type 0 = λ k. KeepsPromise (promise_of_task k) (row_of_task k) in
          elim (cases_eq u t.0) [
            | inl same ↦ subst Q (sym (ap (task_of new) same ∙ gone)) tt
            | inr apart ↦ subst Q (sym (others u (ne_eqb t.0 u (λ b. apart (sym b))))) (tied.promises u)
          ];
    }
