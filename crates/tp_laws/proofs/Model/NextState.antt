-- How each field of a state changes with one more entry, where the entry fits the history.
use Rattle.std.proofs.Common.{◌≡◌, ℕ, suc, ◌+◌, ◌<◌, ◌≤◌, ◌-◌, max, Bool, true, false, ◌&&◌, cond, List, [], ◌∷◌, ◌++◌, map, length, Some, None, Ok, Option, refl, arith, sym, ap, ◌∙◌, inl, inr}
use mathlib.Core.Path.{ap₂, fun_ext}
use Rattle.std.specs.Prelude.{filter, option_to_list, unwrap_or, count_by, is_some}
use Rattle.std.proofs.lemmas.Bool.{and_parts, false≢true}
use Rattle.std.proofs.lemmas.Bool.Decides.{nat_tests}
use Rattle.tp_types.specs.declared.configs.Config.{Config}
use Rattle.tp_types.specs.declared.ids.TaskId.{TaskId}
use Rattle.tp_types.specs.declared.tasks.Kind.{Kind}
use Rattle.tp_types.specs.declared.tasks.Place.{Place}
use Rattle.tp_types.specs.declared.tasks.Place.TheVariants as at
use Rattle.tp_record.specs.declared.entries.Entry.{Entry}
use Rattle.tp_record.specs.declared.entries.Ask.{Ask}
use Rattle.tp_record.specs.declared.entries.Did.{Did}
use Rattle.tp_record.specs.declared.rows.Stage.{Stage}
use Rattle.tp_record.specs.declared.rows.Stage.TheVariants as stages
use Rattle.tp_record.specs.declared.rows.TaskRow.{TaskRow}
use Rattle.tp_record.specs.declared.rows.SlotRow.{SlotRow}
use Rattle.tp_record.specs.Lists.{said_of, at_end, change_each, count_from, long_enough, in_line, join_line}
use Rattle.tp_types.specs.Queues.{is_ranked}
use Rattle.tp_laws.proofs.Model.Arranged.{AllPass, filter-passes, pass-filter, line-push, line-filter, line-agree, line-pass, join-agree}
use Rattle.tp_record.specs.Effects.{moved, queues, priorities_said, is_submit, submits, reserves, holds, turned, seated, idles, completes, hands_out, is_plain_fault}
use Rattle.tp_record.specs.Fields.{place, kind, is_queued, is_queued_place, swept, queued, priority, queue, offered, is_cancelled, task_row, task_rows, submitted, is_slot, slot_bound, reach, slot_row, slot_rows, stage, task_in, woken, now, is_idle, is_idle_row, idled, idling, is_done, completed, done, is_live, largest, rank, completions}
use Rattle.tp_record.specs.State.{State, state, next, row_after, tasks_after, no_row, stays_queued, queue_after, row_at, task_at, slots_after, slot_after, seat_after, seat_by, no_seat, stays_idle, idling_after, stays_done, done_after}
use Rattle.tp_laws.proofs.Model.ListLaws.{change_each-count, map-count_more, filter-at_end, filter-filter_agree, cases_option, long_table, filter-done_end}
use Rattle.tp_record.specs.Step.{fitting, Gives, Legal}
use Rattle.tp_laws.proofs.Model.Weak.{closes, within, submits_next, queues_known, queues_offered, closes_known, idles_busy}
use Rattle.tp_laws.proofs.Model.Readings.{tasks_counted, row_read, slots_counted, slot_read, slot_below}

-- what the next state needs of an entry and the history before it
pub record Fits (h : List Entry) (d : Did) : Type 0 where
  -- a submitted number is the count so far
  pub number : (n : ℕ) → submits d ≡ Some n → n ≡ submitted h
  -- a task that is put in the queue was not there
  pub unqueued : (t : ℕ) → queues d ≡ Some t → is_queued h t ≡ false
  -- and was submitted
  pub joins_known : (t : ℕ) → queues d ≡ Some t → t < submitted h
  -- a task that ends or is cancelled was submitted
  pub closes_known : (t : ℕ) → closes d ≡ Some t → t < submitted h
  -- each queued task was submitted
  pub queue_known : (t : ℕ) → is_queued h t ≡ true → t < submitted h
  -- a slot that becomes idle is a slot, and was not idle
  pub idles_slot : (w : ℕ) → idles d ≡ Some w → is_slot h w ≡ true
  pub not_idle : (w : ℕ) → idles d ≡ Some w → is_idle h w ≡ false

-- a task's row follows the entry's tables
pub task_row-more : (e : Entry) (h : List Entry) (t : ℕ) → task_row (e ∷ h) t ≡ row_after e.did t (task_row h t)
task_row-more e h t = refl

-- a submission has the number that each submission here has
submits_number : (d : Did) (m : ℕ) → is_submit d ≡ true → ((n : ℕ) → submits d ≡ Some n → n ≡ m) → submits d ≡ Some m
submits_number d m is number = grind arith

-- a submission says all of its task's row
pub submit_row : (d : Did) (n : ℕ) (r : TaskRow) → submits d ≡ Some n → row_after d n r ≡ row_after d n no_row
submit_row d n r is = grind (arith, nat_tests)

-- the rows of the submitted tasks
pub task_rows-more : (e : Entry) (h : List Entry) → ((n : ℕ) → submits e.did ≡ Some n → n ≡ submitted h) → task_rows (e ∷ h) ≡ tasks_after e.did (task_rows h)
task_rows-more e h number = by_submit (is_submit e.did) refl
  where
    by_submit : (b : Bool) → is_submit e.did ≡ b →
        map (task_row (e ∷ h)) (count_from 0 (cond b (suc (submitted h)) (submitted h)))
        ≡ cond b (change_each (row_after e.did) 0 (task_rows h) ++ row_after e.did (length (task_rows h)) no_row ∷ [])
        (change_each (row_after e.did) 0 (task_rows h))
    by_submit true is =
        map-count_more (task_row (e ∷ h)) 0 (submitted h)
        ∙ ap₂ (λ xs y. xs ++ y ∷ [])
        (sym (change_each-count (row_after e.did) (task_row h) 0 (submitted h)))
        (let n0 : submitted h + 0 ≡ submitted h = omega arith in
        rw (n0, tasks_counted h) (submit_row e.did (submitted h) (task_row h (submitted h)) (submits_number e.did (submitted h) is number)))
    by_submit false is = sym (change_each-count (row_after e.did) (task_row h) 0 (submitted h))

-- whether a task is queued, where the entry does not put it there: it was, and stays
pub queued_said : (d : Did) (t : ℕ) (c : Bool) (p : Place) → (queues d ≡ Some t → ⊥) →
    is_queued_place (unwrap_or (said_of t (moved d)) (swept d c p))
    ≡ (is_queued_place p && is_queued_place (unwrap_or (said_of t (moved d)) (swept d c at.Queued)))
queued_said d t c p ne = grind (arith, nat_tests)

-- a task that an entry puts in the queue is there
pub queued_offered : (d : Did) (u : ℕ) (q : Place) → queues d ≡ Some u → is_queued_place (unwrap_or (said_of u (moved d)) q) ≡ true
queued_offered d u q e = grind (arith, nat_tests)

-- whether t, which is in the queue, is there after an entry
abbrev stays : Entry → List Entry → ℕ → Bool
stays e h t = is_queued_place (unwrap_or (said_of t (moved e.did)) (swept e.did (is_cancelled h t) at.Queued))

-- the tasks that are queued after an entry: those that stay, and the one that it puts there
queued-more : (e : Entry) (h : List Entry) → Fits h e.did → queued (e ∷ h) ≡ filter (stays_queued e.did (task_rows h)) (queued h) ++ option_to_list (queues e.did)
queued-more e h fits =
    filter-at_end (is_queued (e ∷ h)) (is_queued h) (stays e h) (queues e.did) (offered h)
    (λ t ne. queued_said e.did t (is_cancelled h t) (place h t) ne)
    (λ u is. (queued_offered e.did u _ is, rw (fits.unqueued u is) refl))
    ∙ ap (λ ts. ts ++ option_to_list (queues e.did))
    (filter-filter_agree (is_queued h) (stays e h) (stays_queued e.did (task_rows h))
    (λ t is. ap (λ r. is_queued_place (unwrap_or (said_of t (moved e.did)) (swept e.did r.cancelled at.Queued)))
    (sym (row_read h t (fits.queue_known t is))))
    (offered h))

-- an entry says the priority number of the task that it submits, and of no other
prior_said : (d : Did) (t n : ℕ) → (submits d ≡ Some t → ⊥) → unwrap_or (said_of t (priorities_said d)) n ≡ n
prior_said d t n other = grind (arith, nat_tests)

-- so a submitted task keeps it, and its row has it
prior_kept : (e : Entry) (h : List Entry) → Fits h e.did → (t : ℕ) → t < submitted h → priority (e ∷ h) t ≡ (row_at (task_rows h) t).priority
prior_kept e h fits t known =
    prior_said e.did t (priority h t) (λ is. let n = fits.number t is in absurd (omega (arith, n)))
    ∙ ap (λ r. r.priority) (sym (row_read h t known))

-- the queue after an entry: those that stay, and the one that it puts there
pub queue-more : (c : Config) (e : Entry) (h : List Entry) → Fits h e.did → queue c (e ∷ h) ≡ queue_after (is_ranked c.queue) e.did (task_rows h) (queue c h)
queue-more c e h fits =
    ap (in_line ranked (priority (e ∷ h))) (queued-more e h fits)
    ∙ line-push ranked (priority (e ∷ h)) (filter stay (queued h)) (queues e.did)
    ∙ ap (join_line ranked (priority (e ∷ h)) (queues e.did))
    (sym (line-filter ranked (priority (e ∷ h)) stay (queued h))
    ∙ ap (filter stay) (line-agree ranked (is_queued h) (priority (e ∷ h)) (priority h) kept (queued h) all))
    ∙ join-agree ranked (is_queued h) (priority (e ∷ h)) (λ t. (row_at (task_rows h) t).priority) (queues e.did)
    (λ t is. prior_kept e h fits t (fits.queue_known t is)) (λ t is. prior_kept e h fits t (fits.joins_known t is))
    (filter stay (queue c h)) (pass-filter (is_queued h) stay (queue c h) (line-pass ranked (is_queued h) (priority h) (queued h) all))
  where
    ranked : Bool
    ranked = is_ranked c.queue

    stay : ℕ → Bool
    stay = stays_queued e.did (task_rows h)

    all : AllPass (is_queued h) (queued h)
    all = filter-passes (is_queued h) (offered h)

    kept : (t : ℕ) → is_queued h t ≡ true → priority (e ∷ h) t ≡ priority h t
    kept t is = prior_said e.did t (priority h t) (λ said. let n = fits.number t said in let k = fits.queue_known t is in absurd (omega (arith, n, k)))

-- whether an entry ends a plain task with a fault rests on the kind of the task that it ends
fault_read : (d : Did) (f g : ℕ → Kind) → ((t : ℕ) → closes d ≡ Some t → f t ≡ g t) → is_plain_fault d f ≡ is_plain_fault d g
fault_read d f g same = grind arith

-- a reservation says all of its slot's row
pub slot_said : (d : Did) (w m : ℕ) (f : Bool) (s : Stage) (o : Option TaskId) →
    (said_of w (holds d) ≡ Some true →
    (unwrap_or (said_of w (turned m f d)) s ≡ unwrap_or (said_of w (turned m f d)) (woken d stages.Working))
    × (unwrap_or (said_of w (seated d)) o ≡ unwrap_or (said_of w (seated d)) None))
slot_said d w m f s o is = grind (arith, nat_tests)

-- the kind that is read of a task that ends is its kind
kind_read : (c : Config) (d : Did) (h : List Entry) → Fits h d → (t : ℕ) → closes d ≡ Some t → kind h t ≡ (task_at (state c h) t).kind
kind_read c d h fits t is = ap (λ r. r.kind) (sym (row_read h t (fits.closes_known t is)))

-- and so is whether it is cancelled
cancelled_read : (c : Config) (d : Did) (h : List Entry) → Fits h d → (t : ℕ) → closes d ≡ Some t → is_cancelled h t ≡ (task_at (state c h) t).cancelled
cancelled_read c d h fits t is = ap (λ r. r.cancelled) (sym (row_read h t (fits.closes_known t is)))

-- a slot's row follows the entry's tables
pub slot_row-more : (c : Config) (e : Entry) (h : List Entry) → Fits h e.did → (w : ℕ) → slot_row (e ∷ h) w ≡ slot_after e.did (state c h) w (slot_row h w)
slot_row-more c e h fits w = by_said (said_of w (holds e.did)) refl
  where
    faults : is_plain_fault e.did (kind h) ≡ is_plain_fault e.did (λ t. (task_at (state c h) t).kind)
    faults = fault_read e.did (kind h) (λ t. (task_at (state c h) t).kind) (kind_read c e.did h fits)

    was : SlotRow
    was = record { stage = stage h w; task = task_in h w }

    is : SlotRow
    is = record {
      stage = unwrap_or (said_of w (turned (now h) (is_plain_fault e.did (kind h)) e.did)) (woken e.did (stage h w));
      task = unwrap_or (said_of w (seated e.did)) (task_in h w);
    }

    changed : is ≡ seat_after e.did (state c h) w was
    changed = λ i. record {
      stage = unwrap_or (said_of w (turned (now h) (faults i) e.did)) (woken e.did (stage h w));
      task = unwrap_or (said_of w (seated e.did)) (task_in h w);
    }

    by_said : (x : Option Bool) → said_of w (holds e.did) ≡ x →
        cond (unwrap_or x (is_slot h w)) (Some is) None ≡ seat_by x (seat_after e.did (state c h) w no_seat) (seat_after e.did (state c h) w) (slot_row h w)
    by_said (Some true) said =
        let p = slot_said e.did w (now h) (is_plain_fault e.did (λ t. (task_at (state c h) t).kind)) (woken e.did (stage h w)) (task_in h w) said in
        ap (λ x. Some x) (changed ∙ (λ i. record { stage = p.0 i; task = p.1 i }))
    by_said (Some false) said = refl
    by_said None said =
        elim (is_slot h w) as (λ b. cond b (Some is) None ≡ seat_by None (seat_after e.did (state c h) w no_seat) (seat_after e.did (state c h) w) (cond b (Some was) None)) [
          | true ↦ ap (λ x. Some x) changed
          | false ↦ refl
        ]

-- the rows of the slots
pub slot_rows-more : (c : Config) (e : Entry) (h : List Entry) → Fits h e.did → slot_rows (e ∷ h) ≡ slots_after e.did (state c h)
slot_rows-more c e h fits = table (reserves e.did)
  where
    after : (n : ℕ) → map (slot_row (e ∷ h)) (count_from 0 n) ≡ change_each (slot_after e.did (state c h)) 0 (map (slot_row h) (count_from 0 n))
    after n = ap (λ f. map f (count_from 0 n)) (fun_ext (slot_row-more c e h fits)) ∙ sym (change_each-count (slot_after e.did (state c h)) (slot_row h) 0 n)

    none : (w : ℕ) → slot_bound h + 0 ≤ w → slot_row h w ≡ None
    none w far = rw (slot_below h w (omega arith)) refl

    table : (o : Option ℕ) → map (slot_row (e ∷ h)) (count_from 0 (max (slot_bound h) (reach o))) ≡ change_each (slot_after e.did (state c h)) 0 (long_enough o None (slot_rows h))
    table None =
        let b : max (slot_bound h) 0 ≡ slot_bound h = omega arith in
        rw b (after (slot_bound h))
    table (Some w) =
        let n : length (slot_rows h) ≡ slot_bound h = slots_counted h in
        let b : max (slot_bound h) (suc w) ≡ slot_bound h + (suc w - length (slot_rows h)) = omega arith in
        rw b (after _ ∙ ap (change_each (slot_after e.did (state c h)) 0) (sym (long_table (slot_row h) None 0 (slot_bound h) (suc w - length (slot_rows h)) none)))

-- a slot is idle that was idle, unless the entry leaves it idle
pub idle_said : (d : Did) (s : State) (w : ℕ) (o : Option SlotRow) → (idles d ≡ Some w → ⊥) →
    is_idle_row (slot_after d s w o) ≡ (is_idle_row o && is_idle_row (slot_after d s w o))
idle_said d s w o ne = grind (arith, nat_tests)

-- a slot that an entry leaves idle is idle
pub idle_left : (d : Did) (s : State) (w : ℕ) (r : SlotRow) → idles d ≡ Some w → is_idle_row (slot_after d s w (Some r)) ≡ true
idle_left d s w r is = grind (arith, nat_tests)

-- the idle slots after an entry: those that stay, and the one that it leaves idle
pub idling-more : (c : Config) (e : Entry) (h : List Entry) → Fits h e.did → idling (e ∷ h) ≡ idling_after e.did (state c h)
idling-more c e h fits =
    filter-at_end (is_idle (e ∷ h)) (is_idle h) (stays_idle e.did (state c h)) (idles e.did) (idled h)
    (λ w ne. after w ∙ idle_said e.did (state c h) w (slot_row h w) ne ∙ ap (λ b. is_idle h w && b) (sym (read w)))
    (λ w is. (after w ∙ left w is, rw (fits.not_idle w is) refl))
  where
    after : (w : ℕ) → is_idle (e ∷ h) w ≡ is_idle_row (slot_after e.did (state c h) w (slot_row h w))
    after w = ap is_idle_row (slot_row-more c e h fits w)

    read : (w : ℕ) → stays_idle e.did (state c h) w ≡ is_idle_row (slot_after e.did (state c h) w (slot_row h w))
    read w = ap (λ o. is_idle_row (slot_after e.did (state c h) w o)) (slot_read h w)

    left : (w : ℕ) → idles e.did ≡ Some w → is_idle_row (slot_after e.did (state c h) w (slot_row h w)) ≡ true
    left w is =
        let slot : slot_row h w ≡ Some (record { stage = stage h w; task = task_in h w }) = rw (fits.idles_slot w is) refl in
        ap (λ o. is_idle_row (slot_after e.did (state c h) w o)) slot ∙ idle_left e.did (state c h) w _ is

-- which task an entry completes rests on the kind of the task that it ends or cancels, and on whether that is cancelled
completes_read : (d : Did) (f g : ℕ → Kind) (p q : ℕ → Bool) → ((t : ℕ) → closes d ≡ Some t → f t ≡ g t) → ((t : ℕ) → closes d ≡ Some t → p t ≡ q t) →
    completes d f p ≡ completes d g q
completes_read d f g p q kinds cancels = grind arith

-- a completion is not handed out that was not, unless the entry hands it out
pub done_said : (d : Did) (t : ℕ) (b : Bool) → unwrap_or (said_of t (hands_out d)) b ≡ (b && stays_done d t)
done_said d t b = grind (arith, nat_tests)

-- the completions that are not handed out
pub done-more : (c : Config) (e : Entry) (h : List Entry) → Fits h e.did → done (e ∷ h) ≡ done_after e.did (state c h)
done-more c e h fits =
    filter-done_end (is_done h) (stays_done e.did) (λ t. unwrap_or (said_of t (hands_out e.did)) (is_done h t))
    (completes e.did (kind h) (is_cancelled h)) (completed h) (λ t. done_said e.did t (is_done h t))
    ∙ ap (λ o. at_end o (filter (stays_done e.did) (done h)))
    (completes_read e.did (kind h) (λ t. (task_at (state c h) t).kind) (is_cancelled h) (λ t. (task_at (state c h) t).cancelled)
    (kind_read c e.did h fits) (cancelled_read c e.did h fits))

-- the law: the state of a history with one more entry is the next state
pub state-more : (c : Config) (e : Entry) (h : List Entry) → Fits h e.did → state c (e ∷ h) ≡ next (state c h) e.did
state-more c e h fits =
    let ts = task_rows-more e h fits.number in
    let q = queue-more c e h fits in
    let ss = slot_rows-more c e h fits in
    let ids = idling-more c e h fits in
    let ds = done-more c e h fits in
    λ i. record {
      steps = suc (length h);
      rank = rank (e ∷ h);
      core = (state c (e ∷ h)).core;
      maximum = (state c (e ∷ h)).maximum;
      keep = (state c (e ∷ h)).keep;
      core_timeout = (state c (e ∷ h)).core_timeout;
      now = now (e ∷ h);
      tasks = ts i;
      ranked = is_ranked c.queue;
      queue = q i;
      slots = ss i;
      idling = ids i;
      done = ds i;
      completions = completions (e ∷ h);
      largest = max (count_by is_live (ss i)) (largest h);
      left_out = [];
      forgotten = λ f. 0;
    }

-- the number of submissions never falls
grows : (d : Did) (n : ℕ) → n ≤ cond (is_submit d) (suc n) n
grows d n = grind arith

-- each queued task was submitted
Known : List Entry → Type 0
Known h = (t : ℕ) → is_queued h t ≡ true → t < submitted h

-- a slot whose row is there is a slot
slot_there : (h : List Entry) (w : ℕ) → is_some (slot_row h w) ≡ true → is_slot h w ≡ true
slot_there h w is = grind arith

-- what fits by its answer fits the history, where each queued task was submitted
fits_from : (c : Config) (h : List Entry) (n : ℕ) (a : Ask) (d : Did) → Known h → fitting c (state c h) n a ≡ Ok d → Fits h d
unfolding Known
fits_from c h n a d known is =
    let m : length (task_rows h) ≡ submitted h = tasks_counted h in
    record {
      number = λ k e. submits_next c (state c h) n a d k is e ∙ m;
      unqueued = λ t e.
          let below : t < length (task_rows h) = queues_known c (state c h) n a d t is e in
          let r = row_read h t (omega arith) in
          ap is_queued_place (sym (ap (λ x. x.place) r) ∙ queues_offered c (state c h) n a d t is e);
      joins_known = λ t e. let below : t < length (task_rows h) = queues_known c (state c h) n a d t is e in omega arith;
      closes_known = λ t e. let below : t < length (task_rows h) = closes_known c (state c h) n a d t is e in omega arith;
      queue_known = known;
      idles_slot = λ w e. slot_there h w (ap is_some (sym (slot_read h w)) ∙ (idles_busy c (state c h) n a d w is e).0);
      not_idle = λ w e. ap is_idle_row (sym (slot_read h w)) ∙ (idles_busy c (state c h) n a d w is e).1;
    }

-- a task that is queued after an entry that does not put it there was queued before
queued_before : (d : Did) (t : ℕ) (c : Bool) (p : Place) → (queues d ≡ Some t → ⊥) → is_queued_place (unwrap_or (said_of t (moved d)) (swept d c p)) ≡ true → is_queued_place p ≡ true
queued_before d t c p ne is = (and_parts (is_queued_place p) (is_queued_place (unwrap_or (said_of t (moved d)) (swept d c at.Queued))) (sym (queued_said d t c p ne) ∙ is)).0

-- an entry that is given keeps that each queued task was submitted
known_more : (c : Config) (e : Entry) (h : List Entry) → Known h → Gives c (state c h) e.ask e.did → Known (e ∷ h)
unfolding Known
known_more c e h known gives t is =
    let more = grows e.did (submitted h) in
    elim (cases_option (queues e.did) t) [
      | inl was ↦
          let below : t < length (task_rows h) = queues_known c (state c h) _ e.ask e.did t (within c (state c h) _ e.did gives.0) was in
          let n : length (task_rows h) ≡ submitted h = tasks_counted h in
          omega arith
      | inr ne ↦
          let below : t < submitted h = known t (queued_before e.did t (is_cancelled h t) (place h t) ne is) in
          omega arith
    ]

-- so it holds in a legal record
known_legal : (c : Config) (h : List Entry) → Legal c h → Known h
unfolding Known
known_legal c [] legal = λ t is. absurd (false≢true is)
known_legal c (e ∷ h) legal = known_more c e h (known_legal c h legal.1) legal.0

-- each queued task of a legal record was submitted
pub queue_known : (c : Config) (h : List Entry) → Legal c h → (t : ℕ) → is_queued h t ≡ true → t < submitted h
unfolding Known
queue_known c h legal = known_legal c h legal

-- what fits after a legal record, whatever the room
pub fits_answer : (c : Config) (h : List Entry) (n : ℕ) (a : Ask) (d : Did) → Legal c h → fitting c (state c h) n a ≡ Ok d → Fits h d
fits_answer c h n a d legal is = fits_from c h n a d (known_legal c h legal) is

-- what the step gives after a legal record fits
pub fits_legal : (c : Config) (h : List Entry) (a : Ask) (d : Did) → Legal c h → Gives c (state c h) a d → Fits h d
fits_legal c h a d legal gives = fits_answer c h (unwrap_or (reserves d) 0) a d legal (within c (state c h) _ d gives.0)

-- where the step gives an entry after a legal record, the state with it is the next state
pub next_is_state : (c : Config) (h : List Entry) (e : Entry) → Legal c h → Gives c (state c h) e.ask e.did → state c (e ∷ h) ≡ next (state c h) e.did
next_is_state c h e legal gives = state-more c e h (fits_legal c h e.ask e.did legal gives)
