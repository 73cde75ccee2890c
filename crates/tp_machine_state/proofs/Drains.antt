-- The queue is handed back task by task: what is left to hand back leads to the same end.
use Rattle.std.proofs.Common.{◌≡◌, ℕ, ◌+◌, Bool, true, false, not, ◌&&◌, cond, List, [], ◌∷◌, ◌++◌, drop, map, length, append_assoc, Option, Some, None, refl, arith, sym, ap, subst, ◌∙◌, inl, inr}
use mathlib.Core.Path.{ap₂, fun_ext}
use Rattle.std.specs.Prelude.{◌==◌, ◌||◌, option_map, slice_get, sum_by}
use Rattle.std.proofs.lemmas.Bool.{eq-eqb, ne_eqb, lt-ltb, cases_eq, false≢true}
use Rattle.std.proofs.lemmas.List.Sums.{sum_by-cons}
use Rattle.tp_types.specs.declared.configs.Config.{Config}
use Rattle.tp_types.specs.declared.ids.TaskId.{TaskId}
use Rattle.tp_types.specs.declared.tasks.Fate.{Fate}
use Rattle.tp_types.specs.declared.tasks.Place.{Place}
use Rattle.tp_record.specs.declared.entries.Entry.{Entry}
use Rattle.tp_record.specs.Lists.{is_among, IsOnce}
use Rattle.tp_record.specs.Fields.{queue, place, is_queued, is_queued_place}
use Rattle.tp_record.specs.Left.{mark, MayAll}
use Rattle.tp_record.specs.State.{state, task_at}
use Rattle.tp_record.specs.Step.{Legal}
use Rattle.tp_laws.proofs.Model.NextState.{queue_known}
use Rattle.tp_laws.proofs.Model.Queues.{among-queue, once-queue}
use Rattle.tp_laws.proofs.Model.Readings.{tasks_counted}
use Rattle.tp_laws.proofs.Model.Told.{told_legal, sound_legal}
use Rattle.tp_laws.proofs.Effects.Invariants.{is_gone, unended}
use Rattle.tp_laws.proofs.Effects.Next.{row_sound}
use Rattle.tp_laws.proofs.Effects.Controllers.Stop.{handed}
use Rattle.tp_record.specs.declared.rows.TaskRow.{TaskRow}
use Rattle.tp_queue.specs.declared.queues.Queue.{Queue}
use Rattle.tp_queue.specs.Queues.{waiting_of}
use Rattle.tp_tasks.specs.declared.tasks.Tasks.{Tasks}
use Rattle.tp_tasks.specs.Tasks.{payload_of}
use Rattle.tp_laws.specs.View.{View, view, is_held, put}
use Rattle.tp_machine_state.specs.declared.parts.Parts.{Parts}
use Rattle.tp_machine_state.specs.Drained.{gone, gains, drained, handed_back, DrainsHead}
use Rattle.tp_machine_state.specs.Payloads.{HandsOut}
use Rattle.tp_machine_state.specs.Shows.{Views, numbers}
use Rattle.tp_machine_state.specs.Tied.{IsTied}

-- the head of the queue
pub item_head : (items : List (TaskId × ℕ)) (t : TaskId) → option_map (λ x. x.0) (slice_get items 0) ≡ Some t → (k : ℕ) × (items ≡ (t, k) ∷ drop 1 items)
item_head [] t is = absurd (let n : ⊥ = cc in n)
item_head (x ∷ xs) t is = let e : x.0 ≡ t = cc in (x.1, ap (λ y. (y, x.1) ∷ xs) e)

pub item_none : (items : List (TaskId × ℕ)) → option_map (λ x. x.0) (slice_get items 0) ≡ None → items ≡ []
item_none [] is = refl
item_none (x ∷ xs) is = absurd (let n : ⊥ = cc in n)

or_true : (b : Bool) → (b || true) ≡ true
or_true true = refl
or_true false = refl

pub among_head : (t : ℕ) (us rest : List ℕ) → us ≡ t ∷ rest → is_among t us ≡ true
among_head t us rest is = ap (is_among t) is ∙ ap (λ b. b || is_among t rest) (eq-eqb t t refl)

pub once_left : (t : ℕ) (us rest : List ℕ) → us ≡ t ∷ rest → IsOnce us → IsOnce (drop 1 us)
once_left t us rest is = let F : List ℕ → Type 0 = λ xs. IsOnce xs → IsOnce (drop 1 xs) in subst F (sym is) (λ once. once.1)

-- who is left was there, and is not the head
pub among_left : (t : ℕ) (us rest : List ℕ) → us ≡ t ∷ rest → IsOnce us → (u : ℕ) → is_among u (drop 1 us) ≡ true → (is_among u us ≡ true) × (u == t ≡ false)
among_left t us rest is =
    let F : List ℕ → Type 0 = λ xs. IsOnce xs → (u : ℕ) → is_among u (drop 1 xs) ≡ true → (is_among u xs ≡ true) × (u == t ≡ false) in
    subst F (sym is) (λ once u there. (ap (λ b. u == t || b) there ∙ or_true (u == t), other once.0 u there))
  where
    other : is_among t rest ≡ false → (u : ℕ) → is_among u rest ≡ true → u == t ≡ false
    other out u there = elim (cases_eq u t) [
      | inl same ↦ absurd (false≢true (sym out ∙ ap (λ x. is_among x rest) (sym same) ∙ there))
      | inr apart ↦ ne_eqb u t apart
    ]

-- a task that is handed back twice is handed back
gone_task : (t : ℕ) (rest : List ℕ) (ts : ℕ → TaskRow) (x : ℕ) →
    cond (is_among x rest) (gone (put t (gone (ts t)) ts x)) (put t (gone (ts t)) ts x) ≡ cond (is_among x (t ∷ rest)) (gone (ts x)) (ts x)
gone_task t rest ts x = elim (cases_eq x t) [
  | inl same ↦ rw (eq-eqb x t same) (twice (is_among x rest) ∙ ap (λ y. gone (ts y)) (sym same))
  | inr apart ↦ rw (ne_eqb x t apart) refl
]
  where
    twice : (b : Bool) → cond b (gone (gone (ts t))) (gone (ts t)) ≡ gone (ts t)
    twice true = refl
    twice false = refl

-- and its fate is counted once
gone_fates : (t : ℕ) (rest : List ℕ) (ts : ℕ → TaskRow) (n : ℕ) (f : Fate) →
    n + gains f (ts t) + sum_by (λ x. gains f (put t (gone (ts t)) ts x)) rest ≡ n + sum_by (λ x. gains f (ts x)) (t ∷ rest)
gone_fates t rest ts n f =
    let same : sum_by (λ x. gains f (put t (gone (ts t)) ts x)) rest ≡ sum_by (λ x. gains f (ts x)) rest = ap (λ k. sum_by k rest) (fun_ext still) in
    let a = sum_by-cons (λ x. gains f (ts x)) t rest in
    omega (arith, same, a)
  where
    still : (x : ℕ) → gains f (put t (gone (ts t)) ts x) ≡ gains f (ts x)
    still x = elim (cases_eq x t) [
      | inl same ↦ rw (eq-eqb x t same) (ap (λ y. gains f (ts y)) (sym same))
      | inr apart ↦ rw (ne_eqb x t apart) refl
    ]

-- so after the head is handed back, what is left leads to the same end
pub drained_head : (v : View) (t : ℕ) (rest : List ℕ) → v.queue ≡ t ∷ rest →
    drained (record v { queue = drop 1 v.queue; tasks = put t (gone (v.tasks t)) v.tasks; fates = λ f. v.fates f + gains f (v.tasks t) }) ≡ drained v
drained_head v t rest is =
    let E : List ℕ → View = λ q. drained (record v { queue = q }) in
    let L : List ℕ → View = λ q. drained (record v { queue = drop 1 q; tasks = put t (gone (v.tasks t)) v.tasks; fates = λ f. v.fates f + gains f (v.tasks t) }) in
    let F : List ℕ → Type 0 = λ q. L q ≡ E q in
    subst F (sym is) (
    λ i. record v {
      tasks = fun_ext (gone_task t rest v.tasks) i;
      fates = fun_ext (λ f. gone_fates t rest v.tasks (v.fates f) f) i;
      queue = [];
    }
    )

-- and where nothing is left, this is the end
pub drained_all : {P : Type 0} (p : Parts P) (v : View) → v.queue ≡ [] → Views p v → Views p (drained v)
drained_all p v none views =
    let F : List ℕ → Type 0 = λ q. Views p (record v { queue = q }) → Views p (drained (record v { queue = q })) in
    subst F (sym none) (λ w. record {
      rank = w.rank;
      core_size = w.core_size;
      maximum_size = w.maximum_size;
      keep_alive = w.keep_alive;
      times_out = w.times_out;
      present = w.present;
      submitted = w.submitted;
      rows = w.rows;
      unknown = w.unknown;
      issued = w.issued;
      fates = λ f. let n = w.fates f in omega (arith, n);
      queued = w.queued;
      seats = w.seats;
      order = w.order;
      done = w.done;
      completed = w.completed;
      most = w.most;
    }) views

-- what stays where the head leaves the queue and is then handed back
pub rest_of : {P : Type 0} (old mid new : Parts P) → mid ≡ record old { queue = mid.queue } → new ≡ record mid { tasks = new.tasks } → new ≡ record old { tasks = new.tasks; queue = new.queue }
rest_of {P} old mid new k r =
    let F : Parts P → Parts P = λ p. record p { tasks = new.tasks } in
    let G : Queue → Parts P = λ q. record old { tasks = new.tasks; queue = q } in
    r ∙ ap F k ∙ ap G (sym (ap (λ p. p.queue) r))

pub handed_of : {P : Type 0} (old mid new : Tasks P) (t : ℕ) (o : Option P) → mid ≡ old → HandsOut mid new t o → HandsOut old new t o
handed_of {P} old mid new t o same out = let F : Tasks P → Type 0 = λ m. HandsOut m new t o in subst F same out

-- these tasks, each with its payload
abbrev paid : {P : Type 0} → Tasks P → List (TaskId × ℕ) → List (TaskId × Option P)
paid m xs = map (λ x. (x.0, payload_of m x.0.0)) xs

-- the payloads of the tasks that are left, after one that is not among them was handed out
payloads_left : {P : Type 0} (old new : Tasks P) (t : ℕ) (o : Option P) (xs : List (TaskId × ℕ)) → HandsOut old new t o → is_among t (numbers xs) ≡ false →
    paid new xs ≡ paid old xs
payloads_left {P} old new t o [] out apart = refl
payloads_left {P} old new t o (x ∷ xs) out apart =
    let rest = payloads_left old new t o xs out (right (t == x.0.0) (is_among t (numbers xs)) apart) in
    let same : payload_of new x.0.0 ≡ payload_of old x.0.0 = out.payloads x.0.0 ∙ rw (other (x.0.0) (left (t == x.0.0) (is_among t (numbers xs)) apart)) refl in
    let F : Option P → List (TaskId × Option P) → List (TaskId × Option P) = λ o ys. (x.0, o) ∷ ys in
    λ i. F (same i) (rest i)
  where
    left : (a b : Bool) → (a || b) ≡ false → a ≡ false
    left true b e = e
    left false b e = refl

    right : (a b : Bool) → (a || b) ≡ false → b ≡ false
    right true b e = absurd (false≢true (sym e))
    right false b e = e

    other : (u : ℕ) → t == u ≡ false → u == t ≡ false
    other u e = elim (cases_eq u t) [
      | inl same ↦ absurd (false≢true (sym e ∙ eq-eqb t u (sym same)))
      | inr apart ↦ ne_eqb u t apart
    ]

-- what is handed back: the head with its payload, and then what is left
pub handed_more : {P : Type 0} (old new : Parts P) (x : TaskId × Option P) → DrainsHead old new x → IsOnce (numbers (waiting_of old.queue).items) → handed_back old ≡ x ∷ handed_back new
handed_more {P} old new x drains once =
    let xs = (waiting_of new.queue).items in
    let k = drains.head.0 in
    let first : IsOnce (x.0.0 ∷ numbers xs) = subst (λ ys. IsOnce (numbers ys)) drains.head.1 once in
    let rest = payloads_left old.tasks new.tasks x.0.0 x.1 xs drains.payloads first.0 in
    let F : Option P → List (TaskId × Option P) → List (TaskId × Option P) = λ o ys. (x.0, o) ∷ ys in
    ap (paid old.tasks) drains.head.1 ∙ (λ i. F (drains.payloads.was i) (sym rest i))

-- whose payloads are out in the end: those of the head and of what is left
pub paid_more : {P : Type 0} (old new : Parts P) (x : TaskId × Option P) → DrainsHead old new x → (u : ℕ) →
    cond (is_among u (numbers (waiting_of new.queue).items)) None (payload_of new.tasks u) ≡ cond (is_among u (numbers (waiting_of old.queue).items)) None (payload_of old.tasks u)
paid_more {P} old new x drains u =
    let xs = numbers (waiting_of new.queue).items in
    ap (λ o. cond (is_among u xs) None o) (drains.payloads.payloads u)
    ∙ both (u == x.0.0) (is_among u xs) (payload_of old.tasks u)
    ∙ sym (ap (λ ys. cond (is_among u (numbers ys)) None (payload_of old.tasks u)) drains.head.1)
  where
    both : (a b : Bool) (o : Option P) → ◌≡◌ {A = Option P} (cond b None (cond a None o)) (cond (a || b) None o)
    both true true o = refl
    both true false o = refl
    both false true o = refl
    both false false o = refl

-- and what is seen in the end
pub seen_more : {P : Type 0} (old new : Parts P) (x : TaskId × Option P) → DrainsHead old new x → (v : View) → Views old v → (u : View) × Views new u × (drained u ≡ drained v)
seen_more {P} old new x drains v views = (_, drains.views v views, drained_head v x.0.0 (numbers (waiting_of new.queue).items) (views.queued ∙ ap numbers drains.head.1))

pub rest_more : {P : Type 0} (old mid new : Parts P) → mid ≡ record old { tasks = mid.tasks; queue = mid.queue } → new ≡ record mid { tasks = new.tasks; queue = new.queue } →
    new ≡ record old { tasks = new.tasks; queue = new.queue }
rest_more {P} old mid new k r = let F : Parts P → Parts P = λ p. record p { tasks = new.tasks; queue = new.queue } in r ∙ ap F k

-- the list so far, and what is left
pub handed_on : {A : Type 0} (old new front after all : List A) (x : A) → new ≡ old ++ x ∷ [] → front ≡ x ∷ after → old ++ front ≡ all → new ++ after ≡ all
handed_on {A} old new front after all x pushed head is =
    let F : List A → List A = λ ys. ys ++ after in
    let G : List A → List A = λ ys. old ++ ys in
    ap F pushed ∙ append_assoc old (x ∷ []) after ∙ ap G (sym head) ∙ is

-- where nothing is left, the structures show the end
pub views_end : {P : Type 0} (p new : Parts P) (u v : View) → new ≡ p → (waiting_of p.queue).items ≡ [] → Views p u → drained u ≡ drained v → Views new (drained v)
views_end {P} p new u v same none views is =
    let F : View → Type 0 = λ w. Views p w in
    let G : Parts P → Type 0 = λ q. Views q (drained v) in
    subst G (sym same) (subst F is (drained_all p u (views.queued ∙ ap numbers none) views))

pub tied_end : {P : Type 0} (p new : Parts P) (c : Config) (n : ℕ) → new ≡ p → IsTied c n p → IsTied c n new
tied_end {P} p new c n same tied = let G : Parts P → Type 0 = λ q. IsTied c n q in subst G (sym same) tied

-- in each legal history a queued task is queued once, was submitted, and has not ended
module _ (c : Config) (h : List Entry) (legal : Legal c h) where
  pub queued_once : IsOnce (queue c h)
  queued_once = once-queue c h

  -- a queued task is known, also where tasks were released
  pub queued_held : (rs : List ℕ) → MayAll rs (state c h) → (t : ℕ) → is_queued h t ≡ true → is_held (view (mark rs (state c h))) t ≡ true
  queued_held rs may t is =
      let known = queue_known c h legal t is in
      let n = tasks_counted h in
      ap₂ (λ a b. not a && b) (kept (is_among t rs) refl) (lt-ltb t (length (state c h).tasks) (omega (arith, n, known)))
    where
      kept : (b : Bool) → is_among t rs ≡ b → is_among t rs ≡ false
      kept true among = absurd (false≢true (ap is_queued_place (sym (may.each t among).gone ∙ ap (λ r. r.place) (row_sound h (sound_legal c h legal) c t)) ∙ is))
      kept false off = off

  pub queued_open : (rs : List ℕ) → MayAll rs (state c h) → (t : ℕ) → is_among t (queue c h) ≡ true → (is_held (view (mark rs (state c h))) t ≡ true) × ((task_at (state c h) t).ending ≡ None)
  queued_open rs may t there =
      let is : is_queued h t ≡ true = sym (among-queue c h t) ∙ there in
      (queued_held rs may t is, ap (λ r. r.ending) (row_sound h (sound_legal c h legal) c t) ∙ unended c h (told_legal c h legal) t (not_gone (place h t) is))
    where
      not_gone : (p : Place) → is_queued_place p ≡ true → is_gone p ≡ false
      not_gone p is = grind arith

  -- the queued tasks are those in the queue
  pub gone_queued : (t : ℕ) → cond (is_among t (queue c h)) (gone (task_at (state c h) t)) (task_at (state c h) t) ≡ handed (task_at (state c h) t)
  gone_queued t =
      let r = task_at (state c h) t in
      ap (λ b. cond b (gone r) r) (among-queue c h t ∙ ap (λ y. is_queued_place y.place) (sym (row_sound h (sound_legal c h legal) c t)))
