-- What is counted of a pool is small: there is no more of it than of its tasks or its slots.
use Rattle.std.proofs.Common.{◌≡◌, ℕ, ◌-◌, ◌<◌, ◌≤◌, ◌^◌, Bool, true, false, List, [], ◌∷◌, length, arith, refl, ap, sym, ◌∙◌, inl, inr}
use Rattle.std.specs.Prelude.{count_by}
use Rattle.std.proofs.lemmas.Bool.{or_cases, eqb-true, true≢false}
use Rattle.tp_types.specs.declared.ids.TaskId.{TaskId}
use Rattle.tp_types.specs.declared.tasks.Place.{Place}
use Rattle.tp_record.specs.Fields.{is_live, submitted, queue}
use Rattle.tp_record.specs.Lists.{is_among}
use Rattle.tp_queue.specs.Queues.{waiting_of}
use Rattle.tp_tasks.specs.Tasks.{submissions}
use Rattle.tp_laws.proofs.Model.Given.{IsAt}
use Rattle.tp_laws.proofs.Model.Places.{queue_at}
use Rattle.tp_laws.proofs.Model.Queues.{once-queue, Contains-from_among}
use Rattle.tp_laws.proofs.Model.Readings.{tasks_counted}
use Rattle.tp_laws.proofs.Model.Short.{live_largest}
use Rattle.tp_laws.proofs.Model.Told.{told_legal}
use Rattle.tp_laws.specs.Agrees.{is_gone_place}
use Rattle.tp_laws.proofs.Completed.{AreAway, finished, finished_counted, finished_away}
use Rattle.tp_laws.proofs.Sizes.{largest_few}
use Rattle.tp_machine_state.specs.declared.parts.Parts.{Parts}
use Rattle.tp_machine_state.specs.Shows.{numbers}
use Rattle.tp_machine_state.specs.Steps.{Stands}
use Rattle.tp_machine_state.specs.Terms.{terms}
use Rattle.tp_machine_state.proofs.Keeping.{once_few}

numbers_counted : (xs : List (TaskId × ℕ)) → length (numbers xs) ≡ length xs
numbers_counted [] = omega arith
numbers_counted (x ∷ xs) = let e = numbers_counted xs in omega (arith, e)

module _ {P : Type 0} (p : Parts P) (stands : Stands p) where
  pub few_tasks : submissions p.tasks < 2 ^ 32
  few_tasks = p.tasks.small

  known : submitted stands.history ≡ submissions p.tasks
  known = let s = stands.shows.seen.submitted in let t = tasks_counted stands.history in omega (arith, s, t)

  pub few_queued : length (waiting_of p.queue).items < 2 ^ 32
  few_queued =
      let q = ap length stands.shows.seen.queued ∙ numbers_counted (waiting_of p.queue).items in
      let short = once_few (queue (terms p) stands.history) (submitted stands.history) (once-queue (terms p) stands.history)
      (λ x is. (queue_at (terms p) stands.history stands.legal x (Contains-from_among (queue (terms p) stands.history) x is)).0) in
      let n = few_tasks in
      let e = known in
      omega (arith, q, short, n, e)

  -- while a task is not gone, fewer are completed than were submitted
  pub few_completions : (t : ℕ) (at : Place) → IsAt stands.history t at → is_gone_place at ≡ false → p.completions < 2 ^ 32 - 1
  few_completions t at is there =
      let s = stands.shows.seen.completed in
      let counted = finished_counted stands.history in
      let short = once_few (t ∷ finished stands.history) (submitted stands.history) (off (is_among t (finished stands.history)) refl, all.0) (λ x among. elim (or_cases _ _ among) [
        | inl same ↦ let e = eqb-true x t same in let below = is.0 in omega (arith, e, below)
        | inr before ↦ (all.1 x before).0
      ]) in
      let n = few_tasks in
      let e = known in
      omega (arith, s, counted, short, n, e)
    where
      all : AreAway stands.history (finished stands.history)
      all = finished_away (terms p) stands.history (told_legal (terms p) stands.history stands.legal)

      off : (b : Bool) → is_among t (finished stands.history) ≡ b → is_among t (finished stands.history) ≡ false
      off true among = absurd (true≢false (sym (all.1 t among).1 ∙ ap is_gone_place is.1 ∙ there))
      off false among = among

  pub few_workers : p.largest ≤ 1024
  few_workers =
      let s = stands.shows.seen.most in
      let config = stands.tied.config in
      let u = largest_few (terms p) stands.history (config.greatest_core, config.least_maximum) config.greatest_maximum (told_legal (terms p) stands.history stands.legal) in
      omega (arith, s, u)

  pub few_live : count_by is_live p.slots.slots ≤ p.largest
  few_live =
      let s = stands.shows.seen.most in
      let c = stands.shows.live in
      let u = live_largest stands.history in
      omega (arith, s, c, u)
