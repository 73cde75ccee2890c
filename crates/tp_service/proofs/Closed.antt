-- What answers of the pool tell of a future.
use Rattle.std.proofs.Common.{◌≡◌, ◌⊎◌, ℕ, List, [], ◌∷◌, Bool, true, false, inl, inr, ⊎_elim, refl, sym, ap, subst, ◌∙◌}
use Rattle.std.specs.Prelude.{ℤ, Option, Some, None, Result, Ok, Err}
use Rattle.tp_types.specs.declared.configs.Config.{Config}
use Rattle.tp_types.specs.declared.ids.TaskId.{TaskId}
use Rattle.tp_types.specs.declared.refusals.PoolError.{PoolError}
use Rattle.tp_types.specs.declared.refusals.PoolError.TheVariants.{TimedOut, UnknownTask}
use Rattle.tp_machine.specs.Readings.{value_in}
use Rattle.tp_book.specs.BookView.{recalled, state_of}
use Rattle.tp_book.specs.PassView.{PassView}
use Rattle.tp_book.proofs.Reading.{value_certain}
use Rattle.tp_pool_holds.specs.Passes.{AddsNone}
use Rattle.tp_pool_holds.proofs.Receipts.{looks_none, none_added, none_behind}
use Rattle.tp_pool_holds.specs.Readings.{got, has_come, unless_late, IsFound, IsResult}
use Rattle.tp_pool_holds.specs.Moments.{BookOf}
use Rattle.tp_pool.specs.Timed.{IsFoundInTime}
use Rattle.tp_service.specs.Futures.{IsClosed, IsLate, IsOverdue, HasValue, CloseAll}

-- an answer that is not 'none yet', and not 'too late', is the future's own
own_answer : (late : Bool) (found : Result (Option ℤ) PoolError) (r : Result ℤ PoolError) → got r ≡ unless_late late found → ¬ (r ≡ Err TimedOut) → ¬ (found ≡ Ok None)
own_answer false found (Ok v) is on = λ (none : found ≡ Ok None). absurd (cc)
own_answer false found (Err e) is on = λ (none : found ≡ Ok None). absurd (cc)
own_answer true (Ok None) (Ok v) is on = absurd (cc)
own_answer true (Ok None) (Err e) is on = let late : Err e ≡ Err TimedOut = cc in absurd (on late)
own_answer true (Ok (Some v)) r is on = λ (none : Ok (Some v) ≡ Ok None). absurd (cc)
own_answer true (Err e) r is on = λ (none : Err e ≡ Ok None). absurd (cc)

-- without a deadline nothing is too late
own_in_time : (found : Result (Option ℤ) PoolError) (r : Result ℤ PoolError) → got r ≡ found → ¬ (found ≡ Ok None)
own_in_time found (Ok v) is = λ (none : found ≡ Ok None). absurd (cc)
own_in_time found (Err e) is = λ (none : found ≡ Ok None). absurd (cc)

-- what is too late is so of the whole state: the future is open there, so that its task was not released
late_open : (late : Bool) (found : Result (Option ℤ) PoolError) → Err TimedOut ≡ unless_late late found → (found ≡ Ok None) ⊎ (found ≡ Err TimedOut)
late_open true (Ok None) is = inl refl
late_open true (Ok (Some v)) is = absurd (cc)
late_open true (Err e) is = inr (sym is)
late_open false found is = inr (sym is)

-- no future is, or is too late, by the answer of an unknown task
never_open : (found : Result (Option ℤ) PoolError) → (found ≡ Ok None) ⊎ (found ≡ Err TimedOut) → ¬ (found ≡ Err UnknownTask)
never_open found (inl none) is = absurd (cc)
never_open found (inr late) is = absurd (cc)

-- an open future is none of an unknown task
never_unknown : ¬ (◌≡◌ {A = Result (Option ℤ) PoolError} (Ok None) (Err UnknownTask))
never_unknown is = absurd (cc)

never_valued : (v : ℤ) → ¬ (◌≡◌ {A = Result (Option ℤ) PoolError} (Ok (Some v)) (Err UnknownTask))
never_valued v is = absurd (cc)

never_late : ¬ (◌≡◌ {A = Result (Option ℤ) PoolError} (Err TimedOut) (Err UnknownTask))
never_late is = absurd (cc)

-- who is told that the time is over was answered so
got_late : (r : Result ℤ PoolError) → got r ≡ Err TimedOut → r ≡ Err TimedOut
got_late (Ok v) is = absurd (cc)
got_late (Err e) is = cc

module _ {P : Type 0} (keeps : Bool) (c : Config) (t : TaskId) (p : PassView) where
  pub closed_found : (deadline : ℕ) (r : Result ℤ PoolError) → BookOf P c p (λ b. IsFound b t.0 keeps (Some deadline) (got r)) → ¬ (r ≡ Err TimedOut) → IsClosed P keeps c p t
  closed_found deadline r is on = record {
    book = is.book;
    is = is.is;
    at = is.at;
    released = is.released;
    holds = own_answer (has_come (Some deadline) (state_of is.book).now) (value_in (recalled keeps is.book) t.0) r is.holds.0 on;
  }

  pub closed_awaited : (r : Result ℤ PoolError) → BookOf P c p (λ b. IsFound b t.0 keeps None (got r)) → IsClosed P keeps c p t
  closed_awaited r is = record { book = is.book; is = is.is; at = is.at; released = is.released; holds = own_in_time (value_in (recalled keeps is.book) t.0) r is.holds.0 }

  pub closed_read : (r : Result (Option ℤ) PoolError) → BookOf P c p (λ b. IsResult b t.0 keeps r) → ¬ (r ≡ Ok None) → IsClosed P keeps c p t
  closed_read r is on = record { book = is.book; is = is.is; at = is.at; released = is.released; holds = subst (λ v. ¬ (v ≡ Ok None)) is.holds.0 on }

  -- a wait that comes too late
  pub late_found : (deadline : ℕ) (r : Result ℤ PoolError) → BookOf P c p (λ b. IsFound b t.0 keeps (Some deadline) (got r)) → r ≡ Err TimedOut → IsLate P c deadline p t
  late_found deadline r is late =
      let found = subst (λ r. BookOf P c p (λ b. IsFound b t.0 keeps (Some deadline) (got r))) late is in
      let come = has_come (Some deadline) (state_of found.book).now in
      let own = value_in (recalled keeps found.book) t.0 in
      let whole : own ≡ value_in (state_of found.book) t.0 = value_certain keeps found.book t.0 own refl (never_open own (late_open come own found.holds.0)) in
      record { book = found.book; is = found.is; at = found.at; released = found.released; holds = (found.holds.0 ∙ ap (unless_late come) whole, found.holds.1) }

  -- a wait by the clock that is not over
  pub closed_in_time : (r : Result ℤ PoolError) → BookOf P c p (λ b. IsFoundInTime b t.0 keeps (got r)) → ¬ (r ≡ Err TimedOut) → IsClosed P keeps c p t
  closed_in_time r is on = record {
    book = is.book;
    is = is.is;
    at = is.at;
    released = is.released;
    holds = ⊎_elim (λ found. own_in_time (value_in (recalled keeps is.book) t.0) r found.0) (λ over. absurd (on (got_late r over.0))) is.holds;
  }

  -- a wait by the clock that is over
  pub overdue_found : (r : Result ℤ PoolError) → BookOf P c p (λ b. IsFoundInTime b t.0 keeps (got r)) → r ≡ Err TimedOut → IsOverdue P c p t
  overdue_found r is late =
      let found = subst (λ r. BookOf P c p (λ b. IsFoundInTime b t.0 keeps (got r))) late is in
      let b = found.book in
      let own = value_in (recalled keeps b) t.0 in
      record {
        book = b;
        is = found.is;
        at = found.at;
        released = found.released;
        holds = ⊎_elim (λ told. inl (value_certain keeps b t.0 (Err TimedOut) told.0 never_late, told.1)) (λ over. inr (refl, (value_certain keeps b t.0 (Ok None) over.1.0 never_unknown, over.1.1))) found.holds;
      }

  -- a look that finds a value
  pub value_found : (v : ℤ) → BookOf P c p (λ b. IsResult b t.0 keeps (Ok (Some v))) → HasValue P c v p t
  value_found v is = record { book = is.book; is = is.is; at = is.at; released = is.released; holds = (value_certain keeps is.book t.0 (Ok (Some v)) is.holds.0 (never_valued v), is.holds.1) }

-- looks, one after another, make no step
pub close_none : (P : Type 0) (keeps : Bool) (c : Config) (ts : List TaskId) (old new : PassView) → CloseAll P keeps c ts old new → AddsNone old new
close_none P keeps c [] old new same = none_added old new same
close_none P keeps c (t ∷ ts) old new turns = none_behind old turns.0 new (looks_none c old turns.0 turns.1.0) (close_none P keeps c ts turns.0 new turns.2)
