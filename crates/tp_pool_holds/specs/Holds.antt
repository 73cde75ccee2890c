-- What one hold of the lock makes of a step, whichever step it is.
use Rattle.std.specs.Prelude.{ℕ, Bool, ◌≡◌, Result, IfOk, IfErr}
use Rattle.tp_types.specs.declared.refusals.PoolError.{PoolError}
use Rattle.tp_record.specs.declared.entries.Ask.{Ask}
use Rattle.tp_record.specs.declared.entries.Did.{Did}
use Rattle.tp_tasks.specs.declared.tasks.Tasks.{Tasks}
use Rattle.tp_book.specs.BookView.{BookView, Advances, ForgetsAllGone, IsUnmoved, IsDenied, state_of}
use Rattle.tp_pool_holds.specs.LockedView.{LockedView}
use Rattle.tp_pool_holds.specs.Gone.{gone_with}
use Rattle.tp_pool_holds.specs.Roused.{IsRoused}
use Rattle.tp_pool_holds.specs.declared.tasks.Payload.{Payload}

module _ {J : Type 0} where
  -- the book makes this step, and then forgets the tasks that may be gone with it, each just where it is plain, gone and owes nothing; and all
  -- whom the step concerns are to be woken
  pub record Holds (keeps : Bool) (old new : LockedView J) (by : ℕ) (a : Ask) (d : Did) (moves : Tasks (Payload J) → Tasks (Payload J) → Type 0) : Type 0 where
    pub book : BookView (Payload J)
    pub made : Advances old.book book by a d moves
    pub forgets_gone : ForgetsAllGone keeps book new.book (gone_with d (state_of old.book).queue)
    pub roused : IsRoused new.book old.waking new.waking a d
    pub threads : new.roster ≡ old.roster

  -- the ask is refused, and nobody is woken
  pub record Denies (keeps : Bool) (old new : LockedView J) (a : Ask) (e : PoolError) : Type 0 where
    pub denied : IsDenied keeps old.book a e
    pub unmoved : IsUnmoved old.book new.book
    pub asleep : new.waking ≡ old.waking
    pub threads : new.roster ≡ old.roster

  -- one of the two, by this answer of the step
  abbrev pub Answers : {A : Type 0} → Bool → LockedView J → LockedView J → ℕ → Ask → (A → Did) → (A → Tasks (Payload J) → Tasks (Payload J) → Type 0) → Result A PoolError → Type 0
  Answers keeps old new by a did moves r = IfOk r (λ x. Holds keeps old new by a (did x) (moves x)) × IfErr r (Denies keeps old new a)
