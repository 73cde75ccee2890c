-- The laws, for any number of tasks that are left out.
use Rattle.std.proofs.Common.{◌≡◌, ℕ, ◌<◌, Bool, true, false, not, ◌&&◌, ◌||◌, List, [], ◌∷◌, length, Option, Some, None, Ok, Err, refl, arith, sym, ap, ap₂, subst, ◌∙◌, inl, inr}
use Rattle.std.specs.Prelude.{◌==◌, nat_lt, if◌then◌else◌}
use Rattle.std.proofs.lemmas.Bool.{and_parts, or_parts, or_cases, ltb-true, lt-ltb, eq-eqb, eqb-true, ne_eqb, cases_eq, true≢false, not-true}
use Rattle.std.proofs.lemmas.List.{length-set, get_or-set_other}
use Rattle.std.proofs.lemmas.Bool.Decides.{nat_tests}
use Rattle.tp_types.specs.declared.configs.Config.{Config}
use Rattle.tp_types.specs.declared.ids.TaskId.{TaskId}
use Rattle.tp_types.specs.declared.refusals.PoolError.TheVariants.{UnknownTask}
use Rattle.tp_types.specs.declared.tasks.Place.TheVariants as at
use Rattle.tp_record.specs.declared.entries.Entry.{Entry}
use Rattle.tp_record.specs.declared.entries.Ask.{Ask}
use Rattle.tp_record.specs.declared.entries.Ask.TheVariants as ask
use Rattle.tp_record.specs.declared.entries.Did.{Did}
use Rattle.tp_record.specs.declared.entries.Did.TheVariants as did
use Rattle.tp_record.specs.declared.rows.TaskRow.{TaskRow}
use Rattle.tp_record.specs.Lists.{is_it, is_among, IsOnce}
use Rattle.tp_record.specs.Fields.{is_queued_place, place, submitted, slot_row}
use Rattle.tp_record.specs.State.{State, state, next, due, counts, task_at, no_row}
use Rattle.tp_record.specs.Step.{Answer, Legal, step, fitting, within_room, of_task, look_answer, offer_answer, second_answer, grow_answer, verdict_answer, caller_end_answer, cancel_answer}
use Rattle.tp_laws.specs.Seats.{slot_of, seat_of}
use Rattle.tp_laws.proofs.Model.Weak.{within}
use Rattle.tp_laws.proofs.Model.Readings.{tasks_counted, row_read, slot_read}
use Rattle.tp_laws.proofs.Model.Queues.{among-queue}
use Rattle.tp_laws.proofs.Model.Told.{sound_legal}
use Rattle.tp_record.specs.Left.{leave_out, left, MayRelease, MayAll, asked, is_one_of}
use Rattle.tp_laws.proofs.Left.Answers.{IsOut, answer_spares}
use Rattle.tp_laws.proofs.Left.After.{out_after}
use Rattle.tp_laws.proofs.Left.Without.{is_other, due_without, counts_without, fitting_without, next_without, step_without}

-- What is left of a state

other_way : (t u : ℕ) → (t == u) ≡ false → (u == t) ≡ false
other_way t u off = ne_eqb u t (λ e. is_other t u off e)

or_assoc : (a b c : Bool) → (a || (b || c)) ≡ ((a || b) || c)
or_assoc true b c = refl
or_assoc false b c = refl

-- what is left out
pub left_out_of : (rs : List ℕ) (s : State) (u : ℕ) → is_among u (left rs s).left_out ≡ (is_among u rs || is_among u s.left_out)
left_out_of [] s u = refl
left_out_of (t ∷ rs) s u = ap (λ b. u == t || b) (left_out_of rs s u) ∙ or_assoc (u == t) (is_among u rs) (is_among u s.left_out)

-- there are as many rows
pub left_length : (rs : List ℕ) (s : State) → length (left rs s).tasks ≡ length s.tasks
left_length [] s = refl
left_length (t ∷ rs) s = length-set (left rs s).tasks t no_row ∙ left_length rs s

-- a task that is not left out keeps its row
pub left_row : (rs : List ℕ) (s : State) (u : ℕ) → is_among u rs ≡ false → task_at (left rs s) u ≡ task_at s u
left_row [] s u off = refl
left_row (t ∷ rs) s u off =
    let parts = or_parts (u == t) (is_among u rs) off in
    get_or-set_other (left rs s).tasks t u no_row no_row (is_other t u (other_way u t parts.0)) ∙ left_row rs s u parts.1

pub left_done : (rs : List ℕ) (s : State) → (left rs s).done ≡ s.done
left_done [] s = refl
left_done (t ∷ rs) s = left_done rs s

-- a task that is out, of what is left
out_aside : (s : State) (t u : ℕ) → (t == u) ≡ false → IsOut s t → IsOut (leave_out u s) t
out_aside s t u off out =
    let row = get_or-set_other s.tasks u t no_row no_row (is_other u t (other_way t u off)) in
    let n = length-set s.tasks u no_row in
    let k = out.known in
    record {
      known = omega (arith, n, k);
      gone = ap (λ (r : TaskRow). r.place) row ∙ out.gone;
      paid = ap (λ (r : TaskRow). r.second) row ∙ out.paid;
      unqueued = out.unqueued;
      unlisted = out.unlisted;
      unseated = out.unseated;
    }

out_left : (rs : List ℕ) (s : State) (t : ℕ) → is_among t rs ≡ false → IsOut s t → IsOut (left rs s) t
out_left [] s t off out = out
out_left (u ∷ rs) s t off out =
    let parts = or_parts (t == u) (is_among t rs) off in
    out_aside (left rs s) t u parts.0 (out_left rs s t parts.1 out)

-- distinct tasks, each of which is out
pub AllOut : List ℕ → State → Type 0
AllOut [] s = Unit {0}
AllOut (t ∷ rs) s = IsOut s t × (is_among t rs ≡ false) × AllOut rs s

split : (o : Option ℕ) (t : ℕ) (rs : List ℕ) → is_one_of o (t ∷ rs) ≡ false → (is_it o t ≡ false) × (is_one_of o rs ≡ false)
split None t rs off = (refl, refl)
split (Some u) t rs off = let parts = or_parts (u == t) (is_among u rs) off in (other_way u t parts.0, parts.1)

-- The laws

pub step_left : (rs : List ℕ) (s : State) → AllOut rs s → (c : Config) (w : ℕ) (a : Ask) → is_one_of (asked a) rs ≡ false → step c (left rs s) w a ≡ step c s w a
unfolding AllOut
step_left [] s out c w a off = refl
step_left (t ∷ rs) s out c w a off =
    let parts = split (asked a) t rs off in
    step_without (left rs s) t (out_left rs s t out.1 out.0) c w a parts.0 ∙ step_left rs s out.2 c w a parts.1

pub fitting_left : (rs : List ℕ) (s : State) → AllOut rs s → (c : Config) (w : ℕ) (a : Ask) → is_one_of (asked a) rs ≡ false → fitting c (left rs s) w a ≡ fitting c s w a
unfolding AllOut
fitting_left [] s out c w a off = refl
fitting_left (t ∷ rs) s out c w a off =
    let parts = split (asked a) t rs off in
    fitting_without (left rs s) t (out_left rs s t out.1 out.0) c w a parts.0 ∙ fitting_left rs s out.2 c w a parts.1

pub next_left : (rs : List ℕ) (s : State) → AllOut rs s → (c : Config) (w : ℕ) (a : Ask) (d : Did) → is_one_of (asked a) rs ≡ false → fitting c s w a ≡ Ok d → next (left rs s) d ≡ left rs (next s d)
unfolding AllOut
next_left [] s out c w a d off is = refl
next_left (t ∷ rs) s out c w a d off is =
    let parts = split (asked a) t rs off in
    next_without (left rs s) t (out_left rs s t out.1 out.0) d (answer_spares t c s out.0 w a d parts.0 is)
    ∙ ap (leave_out t) (next_left rs s out.2 c w a d parts.1 is)

pub out_next : (rs : List ℕ) (s : State) → AllOut rs s → (c : Config) (w : ℕ) (a : Ask) (d : Did) → is_one_of (asked a) rs ≡ false → fitting c s w a ≡ Ok d → AllOut rs (next s d)
unfolding AllOut
out_next [] s out c w a d off is = tt
out_next (t ∷ rs) s out c w a d off is =
    let parts = split (asked a) t rs off in
    (out_after s t out.0 d (answer_spares t c s out.0 w a d parts.0 is), out.1, out_next rs s out.2 c w a d parts.1 is)

pub due_left : (rs : List ℕ) (s : State) → AllOut rs s → due (left rs s) ≡ due s
unfolding AllOut
due_left [] s out = refl
due_left (t ∷ rs) s out = due_without (left rs s) t (out_left rs s t out.1 out.0) ∙ due_left rs s out.2

pub counts_left : (rs : List ℕ) (s : State) → AllOut rs s → counts (left rs s) ≡ counts s
unfolding AllOut
counts_left [] s out = refl
counts_left (t ∷ rs) s out = counts_without (left rs s) t (out_left rs s t out.1 out.0) ∙ counts_left rs s out.2

-- an ask that names a task that is left out

unknown_task : (s : State) (u : TaskId) (f : TaskRow → Answer) → is_among u.0 s.left_out ≡ true → of_task s u f ≡ Err UnknownTask
unknown_task s u f is = ap (λ b. if not b && nat_lt u.0 (length s.tasks) then f (task_at s u.0) else Err UnknownTask) is

pub fitting_unknown : (c : Config) (s : State) (w : ℕ) (a : Ask) → is_one_of (asked a) s.left_out ≡ true → fitting c s w a ≡ Err UnknownTask
fitting_unknown c s w (ask.Look u) is = unknown_task s u (λ r. look_answer s w u r.place) is
fitting_unknown c s w _ is = grind (arith, nat_tests)

pub unknown_to : (c : Config) (s : State) (w : ℕ) (a : Ask) → is_one_of (asked a) s.left_out ≡ true → step c s w a ≡ Err UnknownTask
unknown_to c s w a is = ap (within_room c s) (fitting_unknown c s w a is)

pub is_left_out : (o : Option ℕ) (rs : List ℕ) (s : State) → is_one_of o rs ≡ true → is_one_of o (left rs s).left_out ≡ true
is_left_out None rs s is = is
is_left_out (Some u) rs s is = left_out_of rs s u ∙ ap (λ b. b || is_among u s.left_out) is

pub unknown_left : (c : Config) (rs : List ℕ) (s : State) (w : ℕ) (a : Ask) → is_one_of (asked a) rs ≡ true → step c (left rs s) w a ≡ Err UnknownTask
unknown_left c rs s w a is = unknown_to c (left rs s) w a (is_left_out (asked a) rs s is)

-- What may be released

may_after : (s : State) (t : ℕ) (d : Did) → MayRelease s t → IsOut (next s d) t → MayRelease (next s d) t
may_after s t d may out =
    let parts = and_parts (not (is_among t s.left_out)) (nat_lt t (length s.tasks)) may.known in
    record {
      known = ap₂ (λ a b. a && b) parts.0 (lt-ltb t (length (next s d).tasks) out.known);
      gone = out.gone;
      paid = out.paid;
      handed_out = out.unlisted;
    }

out_among : (rs : List ℕ) (s : State) → AllOut rs s → (t : ℕ) → is_among t rs ≡ true → IsOut s t
unfolding AllOut
out_among [] s out t is = absurd (true≢false (sym is))
out_among (u ∷ rs) s out t is = elim (or_cases (t == u) (is_among t rs) is) [
  | inl same ↦ subst (IsOut s) (sym (eqb-true t u same)) out.0
  | inr later ↦ out_among rs s out.2 t later
]

all_out : (rs : List ℕ) (s : State) → IsOnce rs → ((t : ℕ) → is_among t rs ≡ true → IsOut s t) → AllOut rs s
unfolding AllOut
all_out [] s once each = tt
all_out (t ∷ rs) s once each = (
  each t (rw (eq-eqb t t refl) refl),
  once.0,
  all_out rs s once.1 (λ u is. each u (ap (λ b. u == t || b) is ∙ any (u == t))),
)
  where
    any : (b : Bool) → (b || true) ≡ true
    any true = refl
    any false = refl

module _ (rs : List ℕ) (s : State) (t : ℕ) where
  -- a task that may be released in what is left may be so in the whole, and is not left out
  may_whole : MayRelease (left rs s) t → (is_among t rs ≡ false) × MayRelease s t
  may_whole may =
      let parts = and_parts (not (is_among t (left rs s).left_out)) (nat_lt t (length (left rs s).tasks)) may.known in
      let none = or_parts (is_among t rs) (is_among t s.left_out) (sym (left_out_of rs s t) ∙ not-true _ parts.0) in
      let row = left_row rs s t none.0 in (
        none.0,
        record {
          known = ap₂ (λ a b. not a && nat_lt t b) none.1 (sym (left_length rs s)) ∙ parts.1;
          gone = ap (λ (r : TaskRow). r.place) (sym row) ∙ may.gone;
          paid = ap (λ (r : TaskRow). r.second) (sym row) ∙ may.paid;
          handed_out = ap (is_among t) (sym (left_done rs s)) ∙ may.handed_out;
        },
      )

  -- and the other way
  may_left : is_among t rs ≡ false → MayRelease s t → MayRelease (left rs s) t
  may_left off may =
      let parts = and_parts (not (is_among t s.left_out)) (nat_lt t (length s.tasks)) may.known in
      let row = left_row rs s t off in
      record {
        known =
            ap₂ (λ a b. not a && nat_lt t b) (left_out_of rs s t ∙ ap (λ b. b || is_among t s.left_out) off) (left_length rs s)
            ∙ may.known;
        gone = ap (λ (r : TaskRow). r.place) row ∙ may.gone;
        paid = ap (λ (r : TaskRow). r.second) row ∙ may.paid;
        handed_out = ap (is_among t) (left_done rs s) ∙ may.handed_out;
      }

  pub may_more : MayAll rs s → MayRelease (left rs s) t → MayAll (t ∷ rs) s
  may_more all may =
      let whole = may_whole may in
      record {
        once = (whole.0, all.once);
        each = λ u is. elim (or_cases (u == t) (is_among u rs) is) [
          | inl same ↦ subst (MayRelease s) (sym (eqb-true u t same)) whole.1
          | inr later ↦ all.each u later
        ];
      }

  pub may_back : MayAll (t ∷ rs) s → MayRelease (left rs s) t × MayAll rs s
  may_back all = (
    may_left all.once.0 (all.each t (rw (eq-eqb t t refl) refl)),
    record { once = all.once.1; each = λ u is. all.each u (ap (λ b. u == t || b) is ∙ any (u == t)) },
  )
    where
      any : (b : Bool) → (b || true) ≡ true
      any true = refl
      any false = refl

-- At legal records

module _ (c : Config) (h : List Entry) (legal : Legal c h) where
  out_legal : (t : ℕ) → MayRelease (state c h) t → IsOut (state c h) t
  out_legal t may =
      let below : t < length (state c h).tasks = ltb-true t (length (state c h).tasks) may.known in
      let n = tasks_counted h in
      let known : t < submitted h = omega (arith, below, n) in
      let gone : place h t ≡ at.Gone = ap (λ (r : TaskRow). r.place) (sym (row_read h t known)) ∙ may.gone in
      record {
        known = below;
        gone = may.gone;
        paid = may.paid;
        unqueued = among-queue c h t ∙ ap is_queued_place gone;
        unlisted = may.handed_out;
        unseated = λ w. ap (λ o. is_it (seat_of o) t) (slot_read h w) ∙ by_seat w gone (seat_of (slot_row h w)) refl;
      }
    where
      by_seat : (w : ℕ) → place h t ≡ at.Gone → (o : Option ℕ) → seat_of (slot_row h w) ≡ o → is_it o t ≡ false
      by_seat w gone None is = refl
      by_seat w gone (Some u) is = elim (cases_eq t u) [
        | inl same ↦
            let seat : slot_of (place h t) ≡ Some w = (sound_legal c h legal t w).placed_where_seated (is ∙ ap (λ x. Some x) (sym same)) in
            absurd (nowhere (sym (ap slot_of gone) ∙ seat))
        | inr other ↦ ne_eqb t u other
      ]
        where
          nowhere : ◌≡◌ {A = Option ℕ} None (Some w) → ⊥
          nowhere e = cc

  all_legal : (rs : List ℕ) → MayAll rs (state c h) → AllOut rs (state c h)
  all_legal rs all = all_out rs (state c h) all.once (λ t is. out_legal t (all.each t is))

  fits_step : (w : ℕ) (a : Ask) (d : Did) → step c (state c h) w a ≡ Ok d → fitting c (state c h) w a ≡ Ok d
  fits_step w a d is = within c (state c h) (fitting c (state c h) w a) d is

  pub step_legal : (rs : List ℕ) (w : ℕ) (a : Ask) → MayAll rs (state c h) → is_one_of (asked a) rs ≡ false → step c (left rs (state c h)) w a ≡ step c (state c h) w a
  step_legal rs w a all off = step_left rs (state c h) (all_legal rs all) c w a off

  pub fitting_legal : (rs : List ℕ) (w : ℕ) (a : Ask) → MayAll rs (state c h) → is_one_of (asked a) rs ≡ false → fitting c (left rs (state c h)) w a ≡ fitting c (state c h) w a
  fitting_legal rs w a all off = fitting_left rs (state c h) (all_legal rs all) c w a off

  pub next_legal : (rs : List ℕ) (w : ℕ) (a : Ask) (d : Did) → MayAll rs (state c h) → is_one_of (asked a) rs ≡ false → step c (state c h) w a ≡ Ok d → next (left rs (state c h)) d ≡ left rs (next (state c h) d)
  next_legal rs w a d all off is = next_left rs (state c h) (all_legal rs all) c w a d off (fits_step w a d is)

  pub may_legal : (rs : List ℕ) (w : ℕ) (a : Ask) (d : Did) → MayAll rs (state c h) → is_one_of (asked a) rs ≡ false → step c (state c h) w a ≡ Ok d → MayAll rs (next (state c h) d)
  may_legal rs w a d all off is =
      let out = out_next rs (state c h) (all_legal rs all) c w a d off (fits_step w a d is) in
      record { once = all.once; each = λ t among. may_after (state c h) t d (all.each t among) (out_among rs (next (state c h) d) out t among) }

  pub due_legal : (rs : List ℕ) → MayAll rs (state c h) → due (left rs (state c h)) ≡ due (state c h)
  due_legal rs all = due_left rs (state c h) (all_legal rs all)

  pub counts_legal : (rs : List ℕ) → MayAll rs (state c h) → counts (left rs (state c h)) ≡ counts (state c h)
  counts_legal rs all = counts_left rs (state c h) (all_legal rs all)
