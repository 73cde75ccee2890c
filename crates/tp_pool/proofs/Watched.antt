-- What a thread reads that watches a pool.
use Rattle.std.proofs.Common.{◌≡◌, List}
use Rattle.std.specs.Prelude.{Result, Ok, Err, IfOk}
use Rattle.tp_types.specs.declared.configs.Config.{Config}
use Rattle.tp_record.specs.declared.entries.Entry.{Entry}
use Rattle.tp_record.specs.State.{State}
use Rattle.tp_book.specs.BookView.{BookView, state_of}
use Rattle.tp_pool_holds.specs.Moments.{AtFront, BookAtSome, IsBook}
use Rattle.tp_pool_holds.proofs.Moments.{book_at_some, known_at}

module _ {P V E : Type 0} (b : BookView P) (c : Config) (is : IsBook P c b) where
  -- what is read of the book under the lock is so of some book
  pub read_some : (r : Result V E) (F : V → BookView P → Type 0) → IfOk r (λ v. F v b) → IfOk r (λ v. BookAtSome P c (F v))
  read_some (Ok v) F holds = book_at_some b c is (F v) holds
  read_some (Err e) F holds = tt

  -- what is read of its state is so at the history that the reader knows then
  pub read_at : (r : Result V E) (front : List Entry) → front ≡ b.history → (F : V → State → Type 0) → IfOk r (λ v. F v (state_of b)) → IfOk r (λ v. AtFront c front (F v))
  read_at (Ok v) front same F holds = known_at b c is front (F v) same holds
  read_at (Err e) front same F holds = tt
