-- What is read of a task that is to be forgotten is what the state says.
use Rattle.std.proofs.Common.{◌≡◌, ℕ, zero, suc, ◌<◌, Bool, true, false, not, ◌&&◌, ◌||◌, List, [], ◌∷◌, length, Option, Some, None, refl, arith, sym, ap, ◌∙◌, inl, inr}
use mathlib.Core.Path.{ap₂}
use Rattle.std.specs.Prelude.{◌==◌, slice_index_or, is_some, is_none, unwrap_or, nat_lt, if◌then◌else◌}
use Rattle.std.specs.List.{Contains}
use Rattle.std.proofs.lemmas.Bool.{and_parts, ltb-true, true≢false, eq-eqb}
use Rattle.std.proofs.lemmas.Bool.Decides.{nat_tests}
use Rattle.std.proofs.lemmas.Option.{none-some}
use Rattle.tp_types.specs.declared.ids.TaskId.{TaskId}
use Rattle.tp_types.specs.declared.tasks.Fate.{Fate}
use Rattle.tp_types.specs.declared.tasks.Kind.{Kind}
use Rattle.tp_types.specs.declared.tasks.Kind.TheVariants as kinds
use Rattle.tp_types.specs.declared.tasks.Place.TheVariants as at
use Rattle.tp_types.specs.declared.refusals.PoolError.TheVariants.{UnknownTask, NotThere}
use Rattle.tp_record.specs.declared.entries.Entry.{Entry}
use Rattle.tp_record.specs.declared.entries.Did.{Did}
use Rattle.tp_record.specs.declared.rows.TaskRow.{TaskRow}
use Rattle.tp_record.specs.Lists.{said_of, is_it, is_among}
use Rattle.tp_record.specs.Effects.{completes, hands_out, kinds_said, is_group}
use Rattle.tp_record.specs.Fields.{is_done, kind, is_cancelled, submitted, done, queue, place, is_queued_place}
use Rattle.tp_record.specs.Left.{mark, MayRelease}
use Rattle.tp_record.specs.State.{state, task_at, fate_of}
use Rattle.tp_record.specs.Step.{Legal, is_known, is_of_group}
use Rattle.tp_laws.proofs.Model.Fated.{gone_fated}
use Rattle.tp_laws.proofs.Model.Readings.{tasks_counted, row_read}
use Rattle.tp_laws.proofs.Model.Queues.{among-done, among-filter, among-queue}
use Rattle.tp_laws.proofs.Model.Told.{told_legal}
use Rattle.tp_queue.specs.Queues.{waiting_of}
use Rattle.tp_tasks.specs.Tasks.{row_of, done_of, IsListed}
use Rattle.tp_machine_state.specs.declared.parts.Parts.{Parts}
use Rattle.tp_machine_state.specs.Shows.{Shows, numbers}
use Rattle.tp_machine_state.specs.Releases.{OwesNothing, IsKept}
use Rattle.tp_machine_state.specs.Terms.{terms}
use Rattle.tp_machine_state.proofs.Reading.{row_shown}

-- what is done is of a group
grouped_by : (d : Did) (t : ℕ) (kind_of : ℕ → Kind) (cancelled_of : ℕ → Bool) (was : Bool) → (was ≡ true → is_group (kind_of t) ≡ true) →
    (if is_it (completes d kind_of cancelled_of) t then true else unwrap_or (said_of t (hands_out d)) was) ≡ true → is_group (unwrap_or (said_of t (kinds_said d)) (kind_of t)) ≡ true
grouped_by d t kind_of cancelled_of was before is = grind (arith, nat_tests)

done_grouped : (h : List Entry) (t : ℕ) → is_done h t ≡ true → is_group (kind h t) ≡ true
done_grouped [] t is = absurd (true≢false (sym is))
done_grouped (e ∷ h) t is = grouped_by e.did t (kind h) (is_cancelled h) (is_done h t) (done_grouped h t) is

-- who waits at a place waits
waits_at : (xs : List (TaskId × ℕ)) (x : TaskId × ℕ) → Contains xs x → is_among x.0.0 (numbers xs) ≡ true
waits_at [] x has = absurd (omega (arith, has.1))
waits_at (y ∷ ys) x has = at_index has.0 has.1 has.2 (waits_at ys x)
  where
    or_true : (b : Bool) → (b || true) ≡ true
    or_true true = refl
    or_true false = refl

    at_index : (k : ℕ) → k < suc (length ys) → slice_index_or (y ∷ ys) k x ≡ x → (Contains ys x → is_among x.0.0 (numbers ys) ≡ true) → is_among x.0.0 (numbers (y ∷ ys)) ≡ true
    at_index zero within found rest = rw (eq-eqb x.0.0 y.0.0 (ap (λ z. z.0.0) (sym found))) refl
    at_index (suc k) within found rest = rw (rest (k, omega arith, found)) (or_true (x.0.0 == y.0.0))

module _ {P : Type 0} (p : Parts P) (h : List Entry) (rs : List ℕ) (legal : Legal (terms p) h) (sh : Shows p (mark rs (state (terms p) h))) (t : ℕ) (r : TaskRow) (row : row_of p.tasks t ≡ Some r) where
  shown : (is_known (mark rs (state (terms p) h)) t ≡ true) × (task_at (state (terms p) h) t ≡ r)
  shown = row_shown p (mark rs (state (terms p) h)) sh t r row

  below : t < submitted h
  below =
      let n = tasks_counted h in
      let less = ltb-true t (length (state (terms p) h).tasks) (and_parts (not (is_among t rs)) (nat_lt t (length (state (terms p) h).tasks)) shown.0).1 in
      omega (arith, less, n)

  kind_here : kind h t ≡ r.kind
  kind_here = ap (λ (x : TaskRow). x.kind) (sym (row_read h t below) ∙ shown.1)

  -- the completed tasks of a group tell of it what the state tells
  in_group : (g : ℕ) → (is_of_group g r.kind && is_among t (done h)) ≡ is_among t (done_of p.tasks g)
  in_group g =
      ap (λ (x : TaskRow). is_of_group g x.kind && is_among t (done h)) (sym shown.1)
      ∙ sym (among-filter t (λ u. is_of_group g (task_at (state (terms p) h) u).kind) (done h))
      ∙ ap (is_among t) (sh.seen.done g)

  -- a task that is done is listed in its group
  listed_done : (k : Kind) → r.kind ≡ k → is_among t (done h) ≡ true → IsListed p.tasks t
  listed_done (kinds.Group g) is done_so = (g, sym (in_group g) ∙ ap₂ (λ a b. a && b) (ap (is_of_group g) is ∙ eq-eqb g g refl) done_so)
  listed_done kinds.Plain is done_so = absurd (true≢false (sym (done_grouped h t (sym (among-done h t) ∙ done_so)) ∙ ap is_group (kind_here ∙ is)))
  listed_done kinds.Future is done_so = absurd (true≢false (sym (done_grouped h t (sym (among-done h t) ∙ done_so)) ∙ ap is_group (kind_here ∙ is)))

  not_done : ¬ IsListed p.tasks t → (b : Bool) → is_among t (done h) ≡ b → is_among t (done h) ≡ false
  not_done off true is = absurd (off (listed_done r.kind refl is))
  not_done off false is = is

  pub may_here : OwesNothing p.tasks t r → MayRelease (mark rs (state (terms p) h)) t
  may_here owes = record {
    known = shown.0;
    gone = ap (λ (x : TaskRow). x.place) shown.1 ∙ owes.gone;
    paid = ap (λ (x : TaskRow). x.second) shown.1 ∙ owes.paid;
    handed_out = not_done owes.handed_out (is_among t (done h)) refl;
  }

  owes_here : MayRelease (mark rs (state (terms p) h)) t → OwesNothing p.tasks t r
  owes_here may = record {
    gone = ap (λ (x : TaskRow). x.place) (sym shown.1) ∙ may.gone;
    paid = ap (λ (x : TaskRow). x.second) (sym shown.1) ∙ may.paid;
    handed_out = λ listed.
        let there = and_parts (is_of_group listed.0 r.kind) (is_among t (done h)) (in_group listed.0 ∙ listed.1) in
        true≢false (sym there.1 ∙ may.handed_out);
  }

  pub kept_here : ¬ OwesNothing p.tasks t r → IsKept (mark rs (state (terms p) h)) t NotThere
  kept_here not_so = inr (refl, shown.0, λ may. not_so (owes_here may))

  gone_here : OwesNothing p.tasks t r → place h t ≡ at.Gone
  gone_here owes = ap (λ (x : TaskRow). x.place) (sym (row_read h t below) ∙ shown.1) ∙ owes.gone

  -- it is gone, so it has a fate
  pub ended_here : OwesNothing p.tasks t r → is_none (fate_of r) ≡ false
  ended_here owes = some_none (fate_of r) (ap (λ x. is_some (fate_of x)) (sym shown.1 ∙ row_read h t below) ∙ gone_fated (terms p) h (told_legal (terms p) h legal) t below (gone_here owes))
    where
      some_none : (o : Option Fate) → is_some o ≡ true → is_none o ≡ false
      some_none None is = sym is
      some_none (Some f) is = refl

  -- and it is not in the queue
  pub unqueued_here : OwesNothing p.tasks t r → (u : TaskId) → u.0 ≡ t → (key : ℕ) → ¬ Contains (waiting_of p.queue).items (u, key)
  unqueued_here owes u same key has =
      let waits : is_among u.0 (queue (terms p) h) ≡ true = ap (is_among u.0) sh.seen.queued ∙ waits_at (waiting_of p.queue).items (u, key) has in
      true≢false (sym (ap (λ n. is_among n (queue (terms p) h)) (sym same) ∙ waits) ∙ among-queue (terms p) h t ∙ ap is_queued_place (gone_here owes))

-- a task without a row is not known
pub unknown_here : {P : Type 0} (p : Parts P) (h : List Entry) (rs : List ℕ) → Shows p (mark rs (state (terms p) h)) → (t : ℕ) → row_of p.tasks t ≡ None → IsKept (mark rs (state (terms p) h)) t UnknownTask
unknown_here p h rs sh t none = by (is_known (mark rs (state (terms p) h)) t) refl
  where
    by : (b : Bool) → is_known (mark rs (state (terms p) h)) t ≡ b → IsKept (mark rs (state (terms p) h)) t UnknownTask
    by true known = absurd (none-some _ (sym none ∙ sh.seen.rows t known))
    by false not_so = inl (refl, not_so)
