-- What contracts see of the value under a pool's lock.
use Rattle.tp_waking.specs.declared.waking.Waking.{Waking}
use Rattle.tp_book.specs.BookView.{BookView}
use Rattle.tp_pool_holds.specs.Rosters.{RosterView}
use Rattle.tp_pool_holds.specs.declared.tasks.Payload.{Payload}

-- the book, the threads that were made for slots, and who sleeps, who waits and who is to be woken; the flags of tasks are not seen, since
-- nothing can be said of a word that other threads set. In one hold nothing steps between, so a contract can name the book's step,
-- its job and its answer, and the threads that it wakes. Beyond the hold a contract names the fronts of the call's pass
pub record LockedView (J : Type 0) : Type 0 where
  pub book : BookView (Payload J)
  pub roster : RosterView
  pub waking : Waking
