-- What a submission adds behind room for its receipts.
use Rattle.std.proofs.Common.{◌≡◌, ◌≢◌, ◌⊎◌, ◌≤◌, ℕ, Bool, true, [], ◌∷◌, ◌++◌, List, length, inl, inr, refl, ap, sym, subst, ◌∙◌, ⊎_elim}
use Rattle.std.specs.Prelude.{not, ⊤, Option, Result, Ok, Err, Some, IsSome, IfOk, IfErr}
use Rattle.tp_types.specs.declared.configs.Config.{Config}
use Rattle.tp_types.specs.declared.ids.TaskId.{TaskId}
use Rattle.tp_types.specs.declared.refusals.PoolError.TheVariants as error
use Rattle.tp_types.specs.declared.tasks.Kind.{Kind}
use Rattle.tp_types.specs.declared.tasks.Kind.TheVariants as kinds
use Rattle.tp_types.specs.declared.tasks.Promise.{Promise}
use Rattle.tp_record.specs.declared.entries.Ask.TheVariants as ask
use Rattle.tp_record.specs.declared.entries.Did.TheVariants as did
use Rattle.tp_record.specs.declared.entries.Entry.{Entry}
use Rattle.tp_record.specs.Fields.{is_cancelled}
use Rattle.tp_record.specs.Paths.{Admission, Rejected, Astray}
use Rattle.tp_protocols.specs.Fronts.{follow_of, goes}
use Rattle.tp_glance.specs.Word.{IsFrontOf}
use Rattle.tp_glance.proofs.Fronts.{IsFrontOf_trans}
use Rattle.tp_book.specs.PassView.{PassView}
use Rattle.tp_pool_holds.specs.Passes.{Adds, AddsNone, Refuses}
use Rattle.tp_pool_holds.specs.declared.answers.Admitted.{Admitted}
use Rattle.tp_pool_holds.specs.declared.answers.Admitted.TheVariants as admitted
use Rattle.tp_pool_holds.specs.declared.answers.Refused.{Refused}
use Rattle.tp_machine.specs.Answers.{ComesBack}
use Rattle.tp_pool.specs.Admissions.{AddsPath, AddsFront, AtPriority, IsUndone, GotJob, IsAdmitted, IsJobOut, IsTurnedAway, task_of, end_of}
use Rattle.tp_pool_holds.specs.Submitting.{TakesOut}
use Rattle.tp_pool.specs.Submissions.{AddsJob, AddsSubmission}
use Rattle.tp_pool_holds.proofs.Plain.{submitted_plain}
use Rattle.tp_pool_holds.proofs.Receipts.{adds_behind, none_behind}
use Rattle.tp_pool_holds.proofs.Returned.{takes_from}

-- one that was admitted
admits : (c : Config) (k : Kind) (p : ℕ) (a : Admitted) (old new : PassView) → AddsPath c k p (task_of a) (end_of a) old new → AddsSubmission c k p (task_of a) old new
admits c k p (admitted.Accepted t) old new path = inl path
admits c k p (admitted.RanHere t o) old new path = inr (inl (o, path))
admits c k p (admitted.Discarded t) old new path = inr (inr path)

-- with its job, at the priority that it was asked for
pub admits_job : {J : Type 0} (c : Config) (k : Kind) (job : J) (promise : Promise) (urgency : ℕ) (a : Admitted) (old new : PassView) →
    AtPriority urgency (λ p. IsAdmitted c k p job promise old new a) → AddsJob c k job promise urgency (task_of a) old new
admits_job c k job promise urgency a old new is = (is.0, is.1, (admits c k is.0 a old new is.2.0, is.2.1))

module _ (c : Config) where
  -- behind room for more
  path_behind : (kind : Kind) (priority : ℕ) (t : TaskId) (end : Admission) (old mid new : PassView) → AddsNone old mid → AddsPath c kind priority t end mid new → AddsPath c kind priority t end old new
  path_behind kind priority t end old mid new none path = (path.0, path.1, path.2, adds_behind c old mid new path.0 none path.3)

  pub front_behind : (keeps : Bool) (kind : Kind) (priority : ℕ) (t : TaskId) (old mid new : PassView) → AddsNone old mid → AddsFront keeps c kind priority t mid new → AddsFront keeps c kind priority t old new
  front_behind keeps kind priority t old mid new none is = record {
    front = is.front;
    deed = is.deed;
    is_front = is.is_front;
    awaits = is.awaits;
    asks = is.asks;
    adds = ⊎_elim (λ (x : Adds c mid is.front new × (IsUndone keeps c t is.deed new ⊎ (512 ≤ length is.front))). inl (adds_behind c old mid new is.front none x.0, x.1))
        (λ (x : (e : Entry) × (goes t.0 (follow_of t.0 is.deed) e.did ≡ Astray) × Adds c mid (is.front ++ e ∷ []) new). inr (x.0, x.1, adds_behind c old mid new (is.front ++ x.0 ∷ []) none x.2)) is.adds;
  }

  module _ {J : Type 0} (kind : Kind) (priority : ℕ) (job : J) (promise : Promise) where
    got_from : (by t : ℕ) (f g h : List Entry) → IsFrontOf f g → GotJob c kind priority job promise by t g h → GotJob c kind priority job promise by t f h
    got_from by t f g h on got = record {
      task = got.task;
      look = got.look;
      then_history = got.then_history;
      has_job = got.has_job;
      number = got.number;
      is_task = got.is_task;
      makes = record { old = got.makes.old; new = got.makes.new; is = got.makes.is; goes_on = IsFrontOf_trans on got.makes.goes_on; step = got.makes.step; shown = got.makes.shown };
      goes_on = got.goes_on;
    }

    -- and further
    pub got_on : (by t : ℕ) (f g h : List Entry) → GotJob c kind priority job promise by t f g → IsFrontOf g h → GotJob c kind priority job promise by t f h
    got_on by t f g h got on = record {
      task = got.task;
      look = got.look;
      then_history = got.then_history;
      has_job = got.has_job;
      number = got.number;
      is_task = got.is_task;
      makes = got.makes;
      goes_on = IsFrontOf_trans got.goes_on on;
    }

    got_behind : (t : ℕ) (old mid new : PassView) → AddsNone old mid → GotJob c kind priority job promise mid.number t mid.front new.front → GotJob c kind priority job promise old.number t old.front new.front
    got_behind t old mid new none got =
        got_from old.number t old.front mid.front new.front none.1 (subst (λ (by : ℕ). GotJob c kind priority job promise by t mid.front new.front) (ap (λ p. p.number) none.0) got)

    out_behind : (t : ℕ) (j : Option J) (old mid new : PassView) → AddsNone old mid → IsJobOut c mid.number t j mid.front new.front → IsJobOut c old.number t j old.front new.front
    out_behind t j old mid new none out = (
      out.0,
      out.1,
      subst (λ (by : ℕ). TakesOut c by t out.0 old.front new.front) (ap (λ p. p.number) none.0) (takes_from c mid.number t out.0 old.front mid.front new.front none.1 out.2),
    )

    pub admits_behind : (old mid new : PassView) (r : Result Admitted (Refused J)) → AddsNone old mid →
        IfOk r (IsAdmitted c kind priority job promise mid new) → IfOk r (IsAdmitted c kind priority job promise old new)
    admits_behind old mid new (Ok a) none is = (path_behind kind priority (task_of a) (end_of a) old mid new none is.0, got_behind (task_of a).0 old mid new none is.1)
    admits_behind old mid new (Err x) none is = tt

    turns_behind : (keeps : Bool) (old mid new : PassView) (x : Refused J) → AddsNone old mid → IsTurnedAway keeps c kind priority job promise mid new x → IsTurnedAway keeps c kind priority job promise old new x
    turns_behind keeps old mid new x none is =
        ⊎_elim (λ (y : (t : TaskId) × (x.error ≡ error.Rejected t) × AddsPath c kind priority t Rejected mid new × GotJob c kind priority job promise mid.number t.0 mid.front new.front × ComesBack t.0 x.job new.front × IsJobOut c mid.number t.0 x.job mid.front new.front).
        inl (y.0, y.1, path_behind kind priority y.0 Rejected old mid new none y.2, got_behind y.0.0 old mid new none y.3, y.4, out_behind y.0.0 x.job old mid new none y.5))
        (⊎_elim (λ (y : (t : TaskId) × (x.error ≡ error.TornRecord) × AddsFront keeps c kind priority t mid new × GotJob c kind priority job promise mid.number t.0 mid.front new.front).
        inr (inl (y.0, y.1, front_behind keeps kind priority y.0 old mid new none y.2, got_behind y.0.0 old mid new none y.3)))
        (λ (y : Refuses true c ⊤ new (ask.Submit kind priority) x.error × (x.job ≡ Some job) × AddsNone mid new). inr (inr (y.0, y.1, none_behind old mid new none y.2))))
        is

    pub refuses_behind : (keeps : Bool) (old mid new : PassView) (r : Result Admitted (Refused J)) → AddsNone old mid →
        IfErr r (IsTurnedAway keeps c kind priority job promise mid new) → IfErr r (IsTurnedAway keeps c kind priority job promise old new)
    refuses_behind keeps old mid new (Ok a) none is = tt
    refuses_behind keeps old mid new (Err x) none is = turns_behind keeps old mid new x none is

-- a refused plain task's job comes back, unless the submission was torn off
pub plain_returned : {J : Type 0} (keeps : Bool) (c : Config) (p : ℕ) (job : J) (promise : Promise) (old new : PassView) (x : Refused J) → IsTurnedAway keeps c kinds.Plain p job promise old new x → x.error ≢ error.TornRecord → IsSome x.job
plain_returned keeps c p job promise old new x is whole =
    ⊎_elim (λ (y : (t : TaskId) × (x.error ≡ error.Rejected t) × AddsPath c kinds.Plain p t Rejected old new × GotJob c kinds.Plain p job promise old.number t.0 old.front new.front × ComesBack t.0 x.job new.front × IsJobOut c old.number t.0 x.job old.front new.front).
    let got = y.3 in
    let e : Entry = record { by = old.number; ask = ask.Submit kinds.Plain p; did = did.Submit got.number kinds.Plain p got.look } in
    let on : IsFrontOf (e ∷ got.makes.old.history) new.front = subst (λ h. IsFrontOf h new.front) (got.makes.shown ∙ got.makes.step.notes) got.goes_on in
    let spared = submitted_plain c e got.makes.old.history new.front on y.2.3.legal got.number p got.look refl in
    y.4 ∙ ap (λ t. not (is_cancelled new.front t)) (sym got.is_task) ∙ ap not spared)
    (⊎_elim (λ (y : (t : TaskId) × (x.error ≡ error.TornRecord) × AddsFront keeps c kinds.Plain p t old new × GotJob c kinds.Plain p job promise old.number t.0 old.front new.front). absurd (whole y.1))
    (λ (y : Refuses true c ⊤ new (ask.Submit kinds.Plain p) x.error × (x.job ≡ Some job) × AddsNone old new). subst (λ o. IsSome o) (sym y.1) refl))
    is
