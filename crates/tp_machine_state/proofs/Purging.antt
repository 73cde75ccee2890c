-- A purge: one cancelled task after another leaves the queue and is gone, and what is left to purge leads to the same end.
use Rattle.std.proofs.Common.{◌≡◌, ℕ, suc, ◌<◌, ◌≤◌, Bool, true, false, not, ◌&&◌, ◌||◌, cond, List, [], ◌∷◌, length, Option, Some, None, Contains, refl, arith, sym, ap, subst, ◌∙◌, inl, inr}
use mathlib.Core.Path.{fun_ext}
use Rattle.std.specs.Prelude.{◌==◌, filter, count_by}
use Rattle.std.proofs.lemmas.Bool.{cases_eq, eq-eqb, ne_eqb, eqb-true, false≢true}
use Rattle.std.proofs.lemmas.List.Sums.{length-filter}
use Rattle.tp_types.specs.declared.ids.TaskId.{TaskId}
use Rattle.tp_types.specs.declared.tasks.Place.{Place}
use Rattle.tp_types.specs.declared.tasks.Place.TheVariants as at
use Rattle.tp_record.specs.declared.rows.TaskRow.{TaskRow}
use Rattle.tp_record.specs.Lists.{is_among, without}
use Rattle.tp_record.specs.Fields.{is_queued_place}
use Rattle.tp_laws.proofs.Model.Queues.{among-filter, once-filter, Contains-from_among, among_from_Contains}
use Rattle.tp_queue.specs.declared.queues.Queue.{Queue}
use Rattle.tp_tasks.specs.Homes.{is_purgeable, passes}
use Rattle.tp_tasks.specs.Tasks.{row_of, purgeable_of}
use Rattle.tp_tasks.proofs.Away.{passing_counted}
use Rattle.tp_laws.specs.View.{View, is_held, put}
use Rattle.tp_laws.proofs.Effects.Controllers.Purge.{purged}
use Rattle.tp_machine_state.specs.declared.parts.Parts.{Parts}
use Rattle.tp_machine_state.specs.Purges.{HoldsQueued}
use Rattle.tp_machine_state.specs.Shows.{Views, numbers}
use Rattle.tp_machine_state.specs.Tied.{is_before, is_waiting}

abbrev pub gone : TaskRow → TaskRow
gone r = record r { place = at.Gone }

-- what is seen once task t has left the queue and is gone, and once all that are cancelled have
abbrev pub without_one : ℕ → View → View
without_one t v = record v { tasks = put t (gone (v.tasks t)) v.tasks; queue = without t v.queue }

abbrev pub all_purged : View → View
all_purged v = record v { tasks = λ t. purged (v.tasks t); queue = filter (λ t. not (v.tasks t).cancelled) v.queue }

-- Lists

-- where none passes, those that do not are all
all_left : (f : ℕ → Bool) (xs : List ℕ) → length (filter f xs) ≡ 0 → filter (λ x. not (f x)) xs ≡ xs
all_left f [] none = refl
all_left f (x ∷ xs) none = by (f x) (all_left f xs) none
  where
    by : (b : Bool) → (length (filter f xs) ≡ 0 → filter (λ y. not (f y)) xs ≡ xs) → length (cond b (x ∷ filter f xs) (filter f xs)) ≡ 0 →
        cond (not b) (x ∷ filter (λ y. not (f y)) xs) (filter (λ y. not (f y)) xs) ≡ x ∷ xs
    by true rest none = absurd (omega (arith, none))
    by false rest none = ap (λ ys. x ∷ ys) (rest none)

nothing : (xs : List ℕ) → length xs ≡ 0 → xs ≡ []
nothing [] is = refl
nothing (x ∷ xs) is = absurd (omega (arith, is))

-- who does not pass may leave first
filter_without : (f : ℕ → Bool) (t : ℕ) (xs : List ℕ) → f t ≡ false → filter f (without t xs) ≡ filter f xs
filter_without f t [] out = refl
filter_without f t (x ∷ xs) out = by (x == t) refl (filter_without f t xs out)
  where
    by : (b : Bool) → x == t ≡ b → filter f (without t xs) ≡ filter f xs → filter f (cond (not b) (x ∷ without t xs) (without t xs)) ≡ cond (f x) (x ∷ filter f xs) (filter f xs)
    by true same rest = rest ∙ sym (ap (λ c. cond c (x ∷ filter f xs) (filter f xs)) (ap f (eqb-true x t same) ∙ out))
    by false apart rest = ap (λ ys. cond (f x) (x ∷ ys) ys) rest

without_long : (t : ℕ) (xs : List ℕ) → length (without t xs) ≤ length xs
without_long t [] = omega arith
without_long t (x ∷ xs) = by (not (x == t)) (without_long t xs)
  where
    by : (b : Bool) → length (without t xs) ≤ length xs → length (cond b (x ∷ without t xs) (without t xs)) ≤ length (x ∷ xs)
    by true rest = omega (arith, rest)
    by false rest = omega (arith, rest)

-- who is in a list makes it longer
pub without_shorter : (t : ℕ) (xs : List ℕ) → is_among t xs ≡ true → length (without t xs) < length xs
without_shorter t [] is = absurd (false≢true is)
without_shorter t (x ∷ xs) is = elim (cases_eq t x) [
  | inl same ↦ let rest = without_long t xs in rw (eq-eqb x t (sym same)) (omega (arith, rest))
  | inr apart ↦ let rest = without_shorter t xs (sym (ap (λ b. b || is_among t xs) (ne_eqb t x apart)) ∙ is) in rw (ne_eqb x t (λ e. apart (sym e))) (omega (arith, rest))
]

queued_place : (p : Place) → is_queued_place p ≡ true → p ≡ at.Queued
queued_place p is = grind arith

both : (a b : Bool) → (a && b) ≡ true → (a ≡ true) × (b ≡ true)
both true b is = (refl, is)
both false b is = absurd (false≢true is)

-- a task that was cancelled waits no more than one that is gone
pub still_waiting : (r : TaskRow) → r.cancelled ≡ true → is_waiting (gone r) ≡ is_waiting r
still_waiting r cancelled = sym (ap (λ c. is_before r.place && not c) cancelled ∙ dead (is_before r.place))
  where
    dead : (b : Bool) → (b && false) ≡ false
    dead true = refl
    dead false = refl

-- What is left to purge leads to the same end

module _ (v : View) (holds : HoldsQueued v) (t : ℕ) (queued : is_among t v.queue ≡ true) (cancelled : (v.tasks t).cancelled ≡ true) where
  placed_there : (v.tasks t).place ≡ at.Queued
  placed_there = (holds.placed t).0 (Contains-from_among v.queue t queued)

  row_on : (u : ℕ) → purged (put t (gone (v.tasks t)) v.tasks u) ≡ purged (v.tasks u)
  row_on u = elim (cases_eq u t) [
    | inl same ↦ rw (eq-eqb u t same) (sym (ap (λ b. cond b (gone (v.tasks t)) (v.tasks t)) (goes t) ∙ refl) ∙ ap (λ x. purged (v.tasks x)) (sym same))
    | inr apart ↦ rw (ne_eqb u t apart) refl
  ]
    where
      goes : (u : ℕ) → (is_queued_place (v.tasks t).place && (v.tasks t).cancelled) ≡ true
      goes u = ap (λ p. is_queued_place p && (v.tasks t).cancelled) placed_there ∙ cancelled

  flag_on : (u : ℕ) → (put t (gone (v.tasks t)) v.tasks u).cancelled ≡ (v.tasks u).cancelled
  flag_on u = elim (cases_eq u t) [
    | inl same ↦ rw (eq-eqb u t same) (ap (λ x. (v.tasks x).cancelled) (sym same))
    | inr apart ↦ rw (ne_eqb u t apart) refl
  ]

  queue_on : filter (λ u. not (put t (gone (v.tasks t)) v.tasks u).cancelled) (without t v.queue) ≡ filter (λ u. not (v.tasks u).cancelled) v.queue
  queue_on =
      ap (λ f. filter f (without t v.queue)) (fun_ext (λ u. ap not (flag_on u)))
      ∙ filter_without (λ u. not (v.tasks u).cancelled) t v.queue (ap not cancelled)

  pub purged_on : all_purged (without_one t v) ≡ all_purged v
  purged_on = λ i. record v { tasks = fun_ext row_on i; queue = queue_on i }

  pub holds_on : HoldsQueued (without_one t v)
  holds_on = record {
    known = λ u has. holds.known u (was u has);
    once = once-filter (λ u. not (u == t)) v.queue holds.once;
    placed = λ u. (λ has. rw (ne_eqb u t (other u has)) ((holds.placed u).0 (was u has)), λ is. stays u is);
  }
    where
      parts : (u : ℕ) → Contains (without t v.queue) u → (not (u == t) ≡ true) × (is_among u v.queue ≡ true)
      parts u has = both (not (u == t)) (is_among u v.queue) (sym (among-filter u (λ x. not (x == t)) v.queue) ∙ among_from_Contains (without t v.queue) u has)

      was : (u : ℕ) → Contains (without t v.queue) u → Contains v.queue u
      was u has = Contains-from_among v.queue u (parts u has).1

      other : (u : ℕ) → Contains (without t v.queue) u → u ≡ t → ⊥
      other u has same = false≢true (sym (ap not (eq-eqb u t same)) ∙ (parts u has).0)

      stays : (u : ℕ) → (put t (gone (v.tasks t)) v.tasks u).place ≡ at.Queued → Contains (without t v.queue) u
      stays u is = elim (cases_eq u t) [
        | inl same ↦ absurd (false≢true (ap is_queued_place (sym (ap (λ b. (cond b (gone (v.tasks t)) (v.tasks u)).place) (eq-eqb u t same)) ∙ is)))
        | inr apart ↦ Contains-from_among (without t v.queue) u
            (among-filter u (λ x. not (x == t)) v.queue ∙ rw (ne_eqb u t apart) (among_from_Contains v.queue u ((holds.placed u).1 (sym (ap (λ b. (cond b (gone (v.tasks t)) (v.tasks u)).place) (ne_eqb u t apart)) ∙ is))))
      ]

-- What is seen

module _ {P : Type 0} (p : Parts P) (v : View) (views : Views p v) (holds : HoldsQueued v) where
  -- who is in the queue
  queued_seen : (u : ℕ) → is_among u v.queue ≡ is_queued_place (v.tasks u).place
  queued_seen u = by (is_among u v.queue) refl (is_queued_place (v.tasks u).place) refl
    where
      by : (a : Bool) → is_among u v.queue ≡ a → (b : Bool) → is_queued_place (v.tasks u).place ≡ b → a ≡ b
      by true is b placed = sym (sym placed ∙ ap is_queued_place ((holds.placed u).0 (Contains-from_among v.queue u is)))
      by false is true placed = absurd (false≢true (sym is ∙ among_from_Contains v.queue u ((holds.placed u).1 (queued_place _ placed))))
      by false is false placed = refl

  -- how many queued tasks are cancelled
  pub cancelled_count : purgeable_of p.tasks ≡ count_by (λ t. (v.tasks t).cancelled) v.queue
  cancelled_count =
      passing_counted p.tasks.tasks p.tasks.submitted p.tasks.below is_purgeable (filter cancelled v.queue) (once-filter cancelled v.queue holds.once) (λ t. among-filter t cancelled v.queue ∙ there t (is_held v t) refl)
      ∙ length-filter cancelled v.queue
    where
      cancelled : ℕ → Bool
      cancelled t = (v.tasks t).cancelled

      and_false : (b : Bool) → (b && false) ≡ false
      and_false true = refl
      and_false false = refl

      absent : (t : ℕ) → is_held v t ≡ false → (b : Bool) → is_among t v.queue ≡ b → b ≡ false
      absent t off true is = absurd (false≢true (sym off ∙ holds.known t (Contains-from_among v.queue t is)))
      absent t off false is = refl

      there : (t : ℕ) (b : Bool) → is_held v t ≡ b → (cancelled t && is_among t v.queue) ≡ passes is_purgeable (row_of p.tasks t)
      there t true held = ap (λ b. cancelled t && b) (queued_seen t) ∙ sym (ap (passes is_purgeable) (views.rows t held))
      there t false off = ap (λ b. cancelled t && b) (absent t off (is_among t v.queue) refl) ∙ and_false (cancelled t) ∙ sym (ap (passes is_purgeable) (views.unknown t off))

  -- a task that a purge takes is in the queue, and cancelled
  pub taken_seen : (t : ℕ) → passes is_purgeable (row_of p.tasks t) ≡ true → (is_among t v.queue ≡ true) × ((v.tasks t).cancelled ≡ true) × (row_of p.tasks t ≡ Some (v.tasks t))
  taken_seen t pass = by (is_held v t) refl
    where
      by : (b : Bool) → is_held v t ≡ b → (is_among t v.queue ≡ true) × ((v.tasks t).cancelled ≡ true) × (row_of p.tasks t ≡ Some (v.tasks t))
      by true held =
          let is = both (v.tasks t).cancelled (is_queued_place (v.tasks t).place) (sym (ap (passes is_purgeable) (views.rows t held)) ∙ pass) in
          (queued_seen t ∙ is.1, is.0, views.rows t held)
      by false off = absurd (false≢true (sym (ap (passes is_purgeable) (views.unknown t off)) ∙ pass))

  -- where a purge takes none, this is the end
  pub views_end : purgeable_of p.tasks ≡ 0 → Views p (all_purged v)
  views_end none = record {
    rank = views.rank;
    core_size = views.core_size;
    maximum_size = views.maximum_size;
    keep_alive = views.keep_alive;
    times_out = views.times_out;
    present = views.present;
    submitted = views.submitted;
    rows = λ u held. views.rows u held ∙ ap (λ r. Some r) (sym (same u));
    unknown = views.unknown;
    issued = views.issued;
    fates = views.fates;
    queued = all_left cancelled v.queue nobody ∙ views.queued;
    seats = views.seats;
    order = views.order;
    done = views.done;
    completed = views.completed;
    most = views.most;
  }
    where
      cancelled : ℕ → Bool
      cancelled t = (v.tasks t).cancelled

      nobody : length (filter cancelled v.queue) ≡ 0
      nobody = length-filter cancelled v.queue ∙ sym cancelled_count ∙ none

      same : (u : ℕ) → purged (v.tasks u) ≡ v.tasks u
      same u = by (is_queued_place (v.tasks u).place && cancelled u) refl
        where
          by : (b : Bool) → (is_queued_place (v.tasks u).place && cancelled u) ≡ b → cond b (gone (v.tasks u)) (v.tasks u) ≡ v.tasks u
          by true is =
              let parts = both (is_queued_place (v.tasks u).place) (cancelled u) is in
              absurd (false≢true (sym (ap (is_among u) (nothing (filter cancelled v.queue) nobody)) ∙ among-filter u cancelled v.queue ∙ rw (parts.1) (queued_seen u ∙ parts.0)))
          by false is = refl

-- what stays where a task is found, leaves the queue and is gone
pub rest_on : {P : Type 0} (start self found less end : Parts P) → self ≡ record start { tasks = self.tasks; queue = self.queue } → found ≡ record self { tasks = found.tasks } → less ≡ record found { queue = less.queue } →
    end ≡ record less { tasks = end.tasks } → end ≡ record start { tasks = end.tasks; queue = end.queue }
rest_on {P} start self found less end a b c d =
    let F : Parts P → Parts P = λ p. record p { tasks = end.tasks; queue = end.queue } in
    let G : Queue → Parts P = λ q. record less { tasks = end.tasks; queue = q } in
    d ∙ ap G (sym (ap (λ p. p.queue) d)) ∙ ap F c ∙ ap F b ∙ ap F a

pub numbers_long : (xs : List (TaskId × ℕ)) → length (numbers xs) ≡ length xs
numbers_long [] = refl
numbers_long (x ∷ xs) = ap suc (numbers_long xs)
