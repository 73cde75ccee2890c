-- A task that a verdict, a removal or a stop takes out comes with its payload, unless it was cancelled.
use Rattle.std.proofs.Common.{◌≡◌, ◌++◌, ℕ, true, false, List, [], ◌∷◌, refl, arith, sym, ap, subst, ◌∙◌}
use Rattle.std.specs.Prelude.{◌&&◌, not, map, All, Option, is_some}
use Rattle.std.proofs.lemmas.List.Elements.{All-nil, All-cons}
use Rattle.tp_types.specs.declared.configs.Verdict.{Verdict}
use Rattle.tp_types.specs.declared.ids.TaskId.{TaskId}
use Rattle.tp_types.specs.declared.tasks.Place.{Place}
use Rattle.tp_types.specs.declared.tasks.Place.TheVariants as places
use Rattle.tp_record.specs.declared.entries.Entry.{Entry}
use Rattle.tp_record.specs.declared.entries.Ask.TheVariants as ask
use Rattle.tp_record.specs.declared.entries.Did.TheVariants as did
use Rattle.tp_record.specs.declared.entries.Ruled.{Ruled}
use Rattle.tp_record.specs.declared.entries.Ruled.TheVariants as ruled
use Rattle.tp_types.specs.Queues.{is_ranked}
use Rattle.tp_record.specs.Fields.{is_cancelled, is_queued, offered, place, priority, queued}
use Rattle.tp_record.specs.Left.{mark, MayAll}
use Rattle.tp_record.specs.State.{state, task_at}
use Rattle.tp_record.specs.Step.{Legal}
use Rattle.tp_laws.proofs.Model.Arranged.{AllPass, filter-passes, line-pass}
use Rattle.tp_laws.proofs.Model.Given.{Given, IsAt}
use Rattle.tp_laws.proofs.Model.Inversion.{present, queued_place}
use Rattle.tp_laws.proofs.Model.Told.{sound_legal}
use Rattle.tp_queue.specs.Queues.{waiting_of}
use Rattle.tp_tasks.specs.Tasks.{payload_of}
use Rattle.tp_tasks.specs.declared.tasks.Tasks.{Tasks}
use Rattle.tp_laws.proofs.Effects.Invariants.{is_gone}
use Rattle.tp_machine_state.specs.declared.parts.Parts.{Parts}
use Rattle.tp_machine_state.specs.Drained.{handed_back}
use Rattle.tp_machine_state.specs.Shows.{Shows, numbers}
use Rattle.tp_machine_state.specs.Steps.{Stands, Fits}
use Rattle.tp_machine_state.specs.Tied.{IsTied, is_before, waits}
use Rattle.tp_machine_state.specs.Terms.{terms}
use Rattle.tp_machine_state.proofs.Standing.{cancelled_here, given_fitting, task_here}
use Rattle.tp_machine_submitters.specs.Verdicts.{Yields}
use Rattle.tp_machine.specs.declared.answers.Judged.{Judged}
use Rattle.tp_machine.specs.Answers.{own_payload, dropped_payload, IsPaidAt, ReturnsAt, IsReturnedAt}
use Rattle.tp_machine.specs.Seen.{Seen, At}
use Rattle.tp_machine.proofs.Released.{marked}
use Rattle.tp_machine.proofs.Stopping.{handed_all}

module _ {P : Type 0} (p : Parts P) (tied : IsTied (terms p) p.steps p) (h : List Entry) (rs : List ℕ) (legal : Legal (terms p) h) (may : MayAll rs (state (terms p) h)) (shows : Shows p (mark rs (state (terms p) h))) where
  abbrev here : Stands p
  here = record { history = h; released = rs; legal = legal; may = may; shows = shows; tied = tied }

  -- a task that has not begun has its payload just where it was not cancelled
  paid_at : (t : ℕ) (place : Place) → IsAt h t place → is_gone place ≡ false → is_before place ≡ true → is_some (payload_of p.tasks t) ≡ not (is_cancelled h t)
  paid_at t place is placed before =
      let there = task_here p here t place is placed in
      tied.payloads t ∙ ap waits there.0 ∙ ap (λ b. b && not (task_at (state (terms p) h) t).cancelled) (ap is_before there.1 ∙ before)
      ∙ ap not (cancelled_here p here t (is_cancelled h t) is.0 refl)

  returned : (t : TaskId) (v : Verdict) (r : Ruled) (o : Option P) (new : Tasks P) → Yields p.tasks new t r o → Fits p (ask.Verdict t v) (did.Verdict t v r) →
      ReturnsAt t r (own_payload r o) (dropped_payload r o) h
  returned t v r o new yields fits = by r yields (given_fitting (terms p) h rs (ask.Verdict t v) (did.Verdict t v r) legal (fits h rs legal may shows))
    where
      by : (r : Ruled) → Yields p.tasks new t r o → Given (terms p) h (did.Verdict t v r) → ReturnsAt t r (own_payload r o) (dropped_payload r o) h
      by ruled.Retry yields given = tt
      by (ruled.RetryDrop u) yields given = ap is_some (sym yields.was) ∙ paid_at u.0 places.Queued given.1.3 refl refl
      by ruled.Rejected yields given = ap is_some (sym yields.was) ∙ paid_at t.0 places.Refused given.0 refl refl
      by ruled.Discarded yields given = ap is_some (sym yields.was) ∙ paid_at t.0 places.Refused given.0 refl refl
      by ruled.Caller yields given = ap is_some (sym yields.was) ∙ paid_at t.0 places.Refused given.0 refl refl
      by ruled.Skip yields given = ap is_some (sym yields.was) ∙ paid_at t.0 places.Refused given.0 refl refl

  -- those of the queue are each queued
  queued_at : (t : ℕ) → is_queued h t ≡ true → IsAt h t places.Queued
  queued_at t is = let there : place h t ≡ places.Queued = queued_place (place h t) is in (present h (sound_legal (terms p) h legal) t (λ gone. grind arith), there)

  each_paid : (items : List (TaskId × ℕ)) → AllPass (is_queued h) (numbers items) → All (IsPaidAt h) (map (λ x. (x.0, payload_of p.tasks x.0.0)) items)
  each_paid [] are = All-nil (IsPaidAt h)
  each_paid (x ∷ xs) are = All-cons (IsPaidAt h) (x.0, payload_of p.tasks x.0.0) (map (λ x. (x.0, payload_of p.tasks x.0.0)) xs) (paid_at x.0.0 places.Queued (queued_at x.0.0 are.0) refl refl) (each_paid xs are.1)

  all_paid : All (IsPaidAt h) (handed_back p)
  all_paid =
      let line = line-pass (is_ranked p.config.queue) (is_queued h) (priority h) (queued h) (filter-passes (is_queued h) (offered h)) in
      each_paid (waiting_of p.queue).items (subst (AllPass (is_queued h)) shows.seen.queued line)

-- so a machine says, wherever it stands
module _ {P R : Type 0} (tells : R → List Entry → List ℕ → Type 0) (p : Parts P) (noted : R) (m : Seen P R) (is : record { parts = p; noted = noted } ≡ m) where
  pub judged_returns : IsTied (terms p) p.steps p → (t : TaskId) (v : Verdict) (r : Ruled) (o : Option P) (new : Tasks P) → Yields p.tasks new t r o → Fits p (ask.Verdict t v) (did.Verdict t v r) →
      (j : Judged P) → j ≡ record { did = did.Verdict t v r; payload = own_payload r o; dropped = dropped_payload r o } → (h : List Entry) (rs : List ℕ) → At tells m h rs → IsReturnedAt t j h
  judged_returns tied t v r o new yields fits j same =
      subst (λ x. (h : List Entry) (rs : List ℕ) → At tells x h rs → IsReturnedAt t j h) is
      (λ h rs at. subst (λ x. IsReturnedAt t x h) (sym same) (returned p tied h rs at.legal at.may (marked tells (record { parts = p; noted = noted }) h rs at) t v r o new yields fits))

  pub removal_pays : IsTied (terms p) p.steps p → (t : TaskId) (o : Option P) → payload_of p.tasks t.0 ≡ o → Fits p (ask.Remove t) (did.Remove t true) → (h : List Entry) (rs : List ℕ) → At tells m h rs → IsPaidAt h (t, o)
  removal_pays tied t o was fits =
      subst (λ x. (h : List Entry) (rs : List ℕ) → At tells x h rs → IsPaidAt h (t, o)) is
      (λ h rs at. ap is_some (sym was)
      ∙ paid_at p tied h rs at.legal at.may (marked tells (record { parts = p; noted = noted }) h rs at) t.0 places.Queued (given_fitting (terms p) h rs (ask.Remove t) (did.Remove t true) at.legal (fits h rs at.legal at.may (marked tells (record { parts = p; noted = noted }) h rs at))) refl refl)

  pub stop_pays : IsTied (terms p) p.steps p → (first handed : List (TaskId × Option P)) → first ≡ [] → handed ≡ first ++ handed_back p → (h : List Entry) (rs : List ℕ) → At tells m h rs → All (IsPaidAt h) handed
  stop_pays tied first handed none are =
      subst (λ x. (h : List Entry) (rs : List ℕ) → At tells x h rs → All (IsPaidAt h) handed) is
      (λ h rs at. subst (All (IsPaidAt h)) (sym (handed_all p first handed none are)) (all_paid p tied h rs at.legal at.may (marked tells (record { parts = p; noted = noted }) h rs at)))
