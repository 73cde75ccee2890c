-- The step, the next state, the counts and what is owed, where one task that is out is left out.
use Rattle.std.proofs.Common.{◌≡◌, ℕ, zero, suc, ◌+◌, ◌-◌, ◌^◌, ◌<◌, Bool, true, false, not, ◌&&◌, ◌||◌, cond, List, [], ◌∷◌, ◌++◌, length, set, Option, Some, None, Ok, Err, refl, arith, sym, ap, ap₂, ◌∙◌}
use Rattle.std.specs.Prelude.{◌==◌, max, filter, count_by, sum_by, unwrap_or, option_to_list, nat_lt, nat_le, if◌then◌else◌}
use Rattle.std.proofs.lemmas.Bool.{eq-eqb, ne_eqb, not-true, true≢false}
use Rattle.std.proofs.lemmas.List.{length-set, get_or-set_other}
use Rattle.std.proofs.lemmas.List.Elements.{filter_agree}
use Rattle.std.proofs.lemmas.List.Sums.{sum_by-set}
use Rattle.std.proofs.lemmas.Bool.Decides.{nat_tests}
use Rattle.tp_types.specs.declared.configs.Config.{Config}
use Rattle.tp_types.specs.declared.configs.QueueKind.{QueueKind}
use Rattle.tp_types.specs.declared.configs.QueueKind.TheVariants.{Handoff, Unbounded, Bounded, Priority}
use Rattle.tp_types.specs.declared.configs.Verdict.{Verdict}
use Rattle.tp_types.specs.declared.configs.Verdict.TheVariants as verdict
use Rattle.tp_types.specs.declared.ids.TaskId.{TaskId}
use Rattle.tp_types.specs.declared.ids.SlotId.{SlotId}
use Rattle.tp_types.specs.declared.tasks.Fate.{Fate}
use Rattle.tp_types.specs.declared.tasks.Fate.TheVariants as fate
use Rattle.tp_types.specs.declared.tasks.Place.{Place}
use Rattle.tp_types.specs.declared.tasks.Place.TheVariants as at
use Rattle.tp_types.specs.declared.refusals.PoolError.TheVariants.{BookFull, UnknownTask, NotThere}
use Rattle.tp_record.specs.declared.entries.Ask.{Ask}
use Rattle.tp_record.specs.declared.entries.Ask.TheVariants as ask
use Rattle.tp_record.specs.declared.entries.Did.{Did}
use Rattle.tp_record.specs.declared.entries.Did.TheVariants as did
use Rattle.tp_record.specs.declared.entries.Ruled.TheVariants as ruled
use Rattle.tp_record.specs.declared.rows.Stage.{Stage}
use Rattle.tp_record.specs.declared.rows.Stage.TheVariants as stages
use Rattle.tp_record.specs.declared.rows.SlotRow.{SlotRow}
use Rattle.tp_record.specs.declared.rows.TaskRow.{TaskRow}
use Rattle.tp_record.specs.Lists.{said_of, is_it, is_among, at_end, change_each, long_enough, join_line}
use Rattle.tp_record.specs.Effects.{Outcome, moved, queues, reserves, is_submit, holds, turned, seated, is_plain_fault, idles}
use Rattle.tp_record.specs.Fields.{swept, is_queued_place, is_live, woken, is_idle_row}
use Rattle.tp_record.specs.State.{State, next, due, counts, fated, more_by, is_fate, fate_of, no_row, row_at, task_at, slot_at, row_after, tasks_after, stays_queued, queue_after, seat_by, no_seat, slot_after, slots_after, stays_idle, idling_after, stays_done, done_after, task_weight, place_weight, is_held_for_core, slot_weight}
use Rattle.tp_record.specs.Step.{Answer, is_known, of_task, of_row, leaves_room, within_room, step, fitting, rule, retry_of, allows, look_answer, offer_to, offer_answer, second_answer, grow_answer, caller_end_answer, cancel_answer, is_refused_place, verdict_answer, held_answer, take_answer, begin_task, begin_answer, end_task, end_answer, first_done, is_of_group, look}
use Rattle.tp_laws.proofs.Model.ListLaws.{change_each-agree, length-change_each}
use Rattle.tp_laws.proofs.Model.Arranged.{join-agree, pass-filter}
use Rattle.tp_laws.specs.Seats.{number_of, seat_of}
use Rattle.tp_record.specs.Left.{leave_out, asked}
use Rattle.tp_laws.proofs.Left.Blanks.{change_each-replaced, set-append, filter_but, count_but, pass_but}
use Rattle.tp_laws.proofs.Left.Spared.{Spares, spared_row, spared_queues, same_fault, same_completes}
use Rattle.tp_laws.proofs.Left.Answers.{IsOut, Spare, drops_retry, fitting_spares}
use Rattle.tp_laws.proofs.Left.After.{row_stays, out_after}

-- another number
pub is_other : (t u : ℕ) → (t == u) ≡ false → u ≡ t → ⊥
is_other t u off is = true≢false (sym (eq-eqb t u (sym is)) ∙ off)

no_fate : (f : Fate) → is_fate f None ≡ false
no_fate f = grind arith

more_by-suc : (k n : ℕ) → more_by k (suc n) ≡ suc (more_by k n)
more_by-suc zero n = refl
more_by-suc (suc k) n = ap suc (more_by-suc k n)

module _ (s : State) (t : ℕ) (out : IsOut s t) where
  -- What is owed, and counted

  weighs_nothing : (p : Place) (b : Bool) → p ≡ at.Gone → b ≡ false → place_weight (is_held_for_core s.slots p) p + (if b then 4 else 0) ≡ 0
  weighs_nothing p b gone paid = ap₂ (λ p b. place_weight (is_held_for_core s.slots p) p + (if b then 4 else 0)) gone paid

  pub due_without : due (leave_out t s) ≡ due s
  due_without =
      let e = sum_by-set (task_weight s.slots) s.tasks t no_row no_row out.known in
      let nothing = weighs_nothing (task_at s t).place (task_at s t).second out.gone out.paid in
      let same : sum_by (task_weight s.slots) (set s.tasks t no_row) ≡ sum_by (task_weight s.slots) s.tasks = omega (arith, e, nothing) in
      ap (λ n. n + sum_by (slot_weight s.rank) s.slots + (4 - s.rank)) same

  fated_without : (f : Fate) → fated f (leave_out t s) ≡ fated f s
  fated_without f = by_fate (is_fate f (fate_of (task_at s t))) refl
    where
      p : TaskRow → Bool
      p r = is_fate f (fate_of r)

      e : count_by p (set s.tasks t no_row) + cond (p (task_at s t)) 1 0 ≡ count_by p s.tasks + cond (p no_row) 1 0
      e = sum_by-set (λ r. cond (p r) 1 0) s.tasks t no_row no_row out.known

      one : Bool → ℕ
      one b = cond b 1 0

      none : one (p no_row) ≡ 0
      none = ap one (no_fate f)

      by_fate : (b : Bool) → is_fate f (fate_of (task_at s t)) ≡ b → more_by (cond b (suc (s.forgotten f)) (s.forgotten f)) (count_by p (set s.tasks t no_row)) ≡ more_by (s.forgotten f) (count_by p s.tasks)
      by_fate true is =
          let fewer : count_by p s.tasks ≡ suc (count_by p (set s.tasks t no_row)) = omega (arith, ap {B = ℕ} (λ b. count_by p (set s.tasks t no_row) + cond b 1 0) (sym is) ∙ e, none) in
          sym (ap (more_by (s.forgotten f)) fewer ∙ more_by-suc (s.forgotten f) _)
      by_fate false is =
          let same : count_by p (set s.tasks t no_row) ≡ count_by p s.tasks = omega (arith, ap {B = ℕ} (λ b. count_by p (set s.tasks t no_row) + cond b 1 0) (sym is) ∙ e, none) in
          ap (more_by (s.forgotten f)) same

  pub counts_without : counts (leave_out t s) ≡ counts s
  counts_without = λ i. record {
    submitted = length-set s.tasks t no_row i;
    run = fated_without fate.Run i;
    caller = fated_without fate.RunByCaller i;
    rejected = fated_without fate.Rejected i;
    discarded = fated_without fate.Discarded i;
    handedback = fated_without fate.HandedBack i;
    removed = fated_without fate.Removed i;
    cancelled = fated_without fate.Cancelled i;
    completed = s.completions;
    queued = length s.queue;
    live = count_by is_live s.slots;
    largest = s.largest;
  }

module _ (s : State) (t : ℕ) (out : IsOut s t) where
  -- the other rows stay
  row_else : (u : ℕ) → (u ≡ t → ⊥) → task_at (leave_out t s) u ≡ task_at s u
  row_else u ne = get_or-set_other s.tasks t u no_row no_row ne

  -- The next state

  module _ (d : Did) (spares : Spares d t) where
    tasks_without : tasks_after d (set s.tasks t no_row) ≡ set (tasks_after d s.tasks) t no_row
    tasks_without = by_submit (is_submit d)
      where
        zero_more : t + 0 ≡ t
        zero_more = omega arith

        changed : change_each (row_after d) 0 (set s.tasks t no_row) ≡ set (change_each (row_after d) 0 s.tasks) t no_row
        changed =
            change_each-replaced (row_after d) 0 t s.tasks no_row
            ∙ ap (set (change_each (row_after d) 0 s.tasks) t) (ap (λ n. row_after d n no_row) zero_more ∙ spared_row d t no_row spares refl)

        below : (xs : List TaskRow) → length xs ≡ length s.tasks → t < length xs
        below xs e = let k = out.known in omega (arith, e, k)

        by_submit : (b : Bool) →
            cond b (change_each (row_after d) 0 (set s.tasks t no_row) ++ row_after d (length (set s.tasks t no_row)) no_row ∷ []) (change_each (row_after d) 0 (set s.tasks t no_row))
            ≡ set (cond b (change_each (row_after d) 0 s.tasks ++ row_after d (length s.tasks) no_row ∷ []) (change_each (row_after d) 0 s.tasks)) t no_row
        by_submit true =
            ap₂ (λ xs n. xs ++ row_after d n no_row ∷ []) changed (length-set s.tasks t no_row)
            ∙ sym (set-append (change_each (row_after d) 0 s.tasks) (row_after d (length s.tasks) no_row ∷ []) t no_row (below (change_each (row_after d) 0 s.tasks) (length-change_each (row_after d) 0 s.tasks)))
        by_submit false = changed

    stays_alike : (u : ℕ) → (u ≡ t → ⊥) → stays_queued d (set s.tasks t no_row) u ≡ stays_queued d s.tasks u
    stays_alike u ne = ap (λ r. is_queued_place (unwrap_or (said_of u (moved d)) (swept d r.cancelled at.Queued))) (row_else u ne)

    -- the line goes by the priorities of the tasks in it, and t is not among them
    queue_without : queue_after s.ranked d (set s.tasks t no_row) s.queue ≡ queue_after s.ranked d s.tasks s.queue
    queue_without =
        ap (join_line s.ranked (priority_of (set s.tasks t no_row)) (queues d)) (filter_but t (stays_queued d (set s.tasks t no_row)) (stays_queued d s.tasks) stays_alike s.queue out.unqueued)
        ∙ join-agree s.ranked (λ u. not (t == u)) (priority_of (set s.tasks t no_row)) (priority_of s.tasks) (queues d) same joining
        (filter (stays_queued d s.tasks) s.queue) (pass-filter (λ u. not (t == u)) (stays_queued d s.tasks) s.queue (pass_but t s.queue out.unqueued))
      where
        priority_of : List TaskRow → ℕ → ℕ
        priority_of rows u = (row_at rows u).priority

        same : (u : ℕ) → not (t == u) ≡ true → priority_of (set s.tasks t no_row) u ≡ priority_of s.tasks u
        same u is = ap (λ r. r.priority) (row_else u (is_other t u (not-true (t == u) is)))

        joining : (u : ℕ) → queues d ≡ Some u → priority_of (set s.tasks t no_row) u ≡ priority_of s.tasks u
        joining u is = ap (λ r. r.priority) (row_else u (is_other t u (ap (λ o. is_it o t) (sym is) ∙ spared_queues d t spares)))

    fault_without : is_plain_fault d (λ u. (task_at (leave_out t s) u).kind) ≡ is_plain_fault d (λ u. (task_at s u).kind)
    fault_without = same_fault d t _ _ spares (λ u ne. ap (λ r. r.kind) (row_else u ne))

    slot_without : (w : ℕ) (o : Option SlotRow) → slot_after d (leave_out t s) w o ≡ slot_after d s w o
    slot_without w o = ap (λ b. seat_by (said_of w (holds d)) (seat b no_seat) (seat b) o) fault_without
      where
        seat : Bool → SlotRow → SlotRow
        seat b r = record {
          stage = unwrap_or (said_of w (turned s.now b d)) (woken d r.stage);
          task = unwrap_or (said_of w (seated d)) r.task;
        }

    slots_without : slots_after d (leave_out t s) ≡ slots_after d s
    slots_without = change_each-agree (slot_after d (leave_out t s)) (slot_after d s) 0 (long_enough (reserves d) None s.slots) (λ w o _. slot_without w o)

    idling_without : idling_after d (leave_out t s) ≡ idling_after d s
    idling_without =
        ap (λ xs. xs ++ option_to_list (idles d))
        (filter_agree (stays_idle d (leave_out t s)) (stays_idle d s) (λ w. ap is_idle_row (slot_without w (slot_at s.slots w))) s.idling)

    done_without : done_after d (leave_out t s) ≡ done_after d s
    done_without =
        ap (λ o. at_end o (filter (stays_done d) s.done))
        (same_completes d t _ _ _ _ spares (λ u ne. ap (λ r. r.kind) (row_else u ne)) (λ u ne. ap (λ r. r.cancelled) (row_else u ne)))

    pub next_without : next (leave_out t s) d ≡ leave_out t (next s d)
    next_without = λ i. record (next s d) {
      tasks = tasks_without i;
      queue = queue_without i;
      slots = slots_without i;
      idling = idling_without i;
      done = done_without i;
      largest = max (count_by is_live (slots_without i)) s.largest;
      left_out = t ∷ s.left_out;
      forgotten = ap {B = Fate → ℕ} (λ r f. if is_fate f (fate_of r) then suc (s.forgotten f) else s.forgotten f) (sym (row_stays s t out d spares)) i;
    }

    room_without : (c : Config) → leaves_room c (leave_out t s) d ≡ leaves_room c s d
    room_without c =
        ap (λ n. nat_le (suc s.steps + n) c.record_limit)
        (ap due next_without ∙ due_without (next s d) t (out_after s t out d spares))

  -- The step

  of_task_same : (u : TaskId) (f g : TaskRow → Answer) → (t == u.0) ≡ false → ((r : TaskRow) → f r ≡ g r) → of_task (leave_out t s) u f ≡ of_task s u g
  of_task_same u f g off same =
      let ne = is_other t u.0 off in
      let known : is_known (leave_out t s) u.0 ≡ is_known s u.0 =
      ap₂ (λ b n. not (b || is_among u.0 s.left_out) && nat_lt u.0 n) (ne_eqb u.0 t ne) (length-set s.tasks t no_row) in
      ap₂ (λ b r. if b then f r else Err UnknownTask) known (row_else u.0 ne)
      ∙ ap (λ x. if is_known s u.0 then x else Err UnknownTask) (same (task_at s u.0))

  of_row_same : (o : Option SlotRow) (f g : SlotRow → Answer) → is_it (seat_of o) t ≡ false → ((r : SlotRow) → is_it (number_of r.task) t ≡ false → f r ≡ g r) → of_row o f ≡ of_row o g
  of_row_same None f g off same = refl
  of_row_same (Some r) f g off same = same r off

  offer_to_without : (q : QueueKind) (u : TaskId) → offer_to q (leave_out t s) u ≡ offer_to q s u
  offer_to_without Handoff u = refl
  offer_to_without Unbounded u = refl
  offer_to_without Priority u = refl
  offer_to_without (Bounded n) u = refl

  offer_without : (c : Config) (u : TaskId) (p : Place) → offer_answer c (leave_out t s) u p ≡ offer_answer c s u p
  offer_without c u at.ToOffer = offer_to_without c.queue u
  offer_without c u _ = refl

  rule_without : (c : Config) (u : TaskId) (r : TaskRow) → (t == u.0) ≡ false → (v : Verdict) → rule c (leave_out t s) u r v ≡ rule c s u r v
  rule_without c u r off verdict.Abort = refl
  rule_without c u r off verdict.Discard = refl
  rule_without c u r off verdict.CallerRuns = refl
  rule_without c u r off verdict.DiscardOldest =
      ap (λ b. if nat_lt 0 s.rank || nat_le 64 r.retries then ruled.Discarded else (if b then retry_of s.queue else ruled.Discarded))
      (room_without (did.Verdict u verdict.DiscardOldest (retry_of s.queue)) (record { unnamed = off; undropped = drops_retry t u verdict.DiscardOldest s.queue out.unqueued }) c)

  take_without : (v : SlotId) (stage : Stage) (o : Option TaskId) → is_it (number_of o) t ≡ false → take_answer (leave_out t s) v stage o ≡ take_answer s v stage o
  take_without v stages.Working (Some u) off = ap (λ r. held_answer v u r.place) (row_else u.0 (is_other t u.0 off))
  take_without v _ o off = grind (arith, nat_tests)

  begin_without : (v : SlotId) (stage : Stage) (o : Option TaskId) → is_it (number_of o) t ≡ false → begin_answer (leave_out t s) v stage o ≡ begin_answer s v stage o
  begin_without v stages.Working (Some u) off = ap (λ r. begin_task v u r.cancelled r.place) (row_else u.0 (is_other t u.0 off))
  begin_without v _ o off = grind (arith, nat_tests)

  end_without : (v : SlotId) (result : Outcome) (stage : Stage) (o : Option TaskId) → is_it (number_of o) t ≡ false → end_answer (leave_out t s) v result stage o ≡ end_answer s v result stage o
  end_without v result stages.Working (Some u) off = ap (λ r. end_task v u result r.place) (row_else u.0 (is_other t u.0 off))
  end_without v result _ o off = grind (arith, nat_tests)

  -- what fits is the same
  pub fitting_without : (c : Config) (w : ℕ) (a : Ask) → is_it (asked a) t ≡ false → fitting c (leave_out t s) w a ≡ fitting c s w a
  fitting_without c w (ask.Submit k p) off =
      ap (λ n. if nat_lt n (2 ^ 32 - 1) then Ok (did.Submit (record { 0 = n }) k p (look s w)) else Err BookFull) (length-set s.tasks t no_row)
  fitting_without c w (ask.Look u) off = of_task_same u (λ r. look_answer (leave_out t s) w u r.place) (λ r. look_answer s w u r.place) off (λ r. refl)
  fitting_without c w (ask.Offer u) off = of_task_same u (λ r. offer_answer c (leave_out t s) u r.place) (λ r. offer_answer c s u r.place) off (λ r. offer_without c u r.place)
  fitting_without c w (ask.Second u) off = of_task_same u (second_answer (leave_out t s) w u) (second_answer s w u) off (λ r. refl)
  fitting_without c w (ask.Grow u) off = of_task_same u (λ r. grow_answer (leave_out t s) w u r.place) (λ r. grow_answer s w u r.place) off (λ r. refl)
  fitting_without c w (ask.Verdict u v) off = of_task_same u (verdict_answer c (leave_out t s) u v) (verdict_answer c s u v) off
      (λ r. ap (λ x. if is_refused_place r.place && allows c.policy v then Ok (did.Verdict u v x) else Err NotThere) (rule_without c u r off v))
  fitting_without c w (ask.CallerEnd u o) off = of_task_same u (λ r. caller_end_answer u o r.place) (λ r. caller_end_answer u o r.place) off (λ r. refl)
  fitting_without c w (ask.Take v) off = of_row_same (slot_at s.slots v.0) _ _ (out.unseated v.0) (λ r seat. take_without v r.stage r.task seat)
  fitting_without c w (ask.Begin v) off = of_row_same (slot_at s.slots v.0) _ _ (out.unseated v.0) (λ r seat. begin_without v r.stage r.task seat)
  fitting_without c w (ask.End v o) off = of_row_same (slot_at s.slots v.0) _ _ (out.unseated v.0) (λ r seat. end_without v o r.stage r.task seat)
  fitting_without c w (ask.Remove u) off = of_task_same u (λ r. Ok (did.Remove u (is_queued_place r.place))) (λ r. Ok (did.Remove u (is_queued_place r.place))) off (λ r. refl)
  fitting_without c w ask.Purge off =
      ap (λ n. Ok (did.Purge n)) (count_but t (λ u. (task_at (leave_out t s) u).cancelled) (λ u. (task_at s u).cancelled) (λ u ne. ap (λ r. r.cancelled) (row_else u ne)) s.queue out.unqueued)
  fitting_without c w (ask.Cancel u flag) off = of_task_same u (cancel_answer u flag) (cancel_answer u flag) off (λ r. refl)
  fitting_without c w (ask.TakeDone g) off =
      ap (first_done g) (filter_but t (λ u. is_of_group g (task_at (leave_out t s) u).kind) (λ u. is_of_group g (task_at s u).kind) (λ u ne. ap (λ r. is_of_group g r.kind) (row_else u ne)) s.done out.unlisted)
  fitting_without c w _ off = refl

  -- and so is what the room lets through
  pub step_without : (c : Config) (w : ℕ) (a : Ask) → is_it (asked a) t ≡ false → step c (leave_out t s) w a ≡ step c s w a
  step_without c w a off = ap (within_room c (leave_out t s)) (fitting_without c w a off) ∙ by_answer (fitting c s w a) (fitting_spares t c s out w a off)
    where
      by_answer : (x : Answer) → Spare t x → within_room c (leave_out t s) x ≡ within_room c s x
      by_answer (Ok d) spares = ap (λ b. if b then Ok d else Err BookFull) (room_without d spares c)
      by_answer (Err e) spares = refl
