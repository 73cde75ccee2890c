-- What a ticket's wait answers, by what the pool's own wait answers.
use Rattle.std.proofs.Common.{inl, inr, sym, subst}
use Rattle.std.specs.Prelude.{ℤ, Result, Ok, Err}
use Rattle.tp_types.specs.declared.configs.Config.{Config}
use Rattle.tp_types.specs.declared.refusals.PoolError.{PoolError}
use Rattle.tp_book.specs.BookView.{BookView}
use Rattle.tp_book.specs.PassView.{PassView}
use Rattle.tp_pool_holds.specs.Moments.{BookOf}
use Rattle.tp_life.specs.Futures.{IsAnswer}
use Rattle.tp_life.specs.Ran.{IsTold}

answered : {W V : Type 0} (gives : W → V → Type 0) (found : Result ℤ PoolError → Type 0) (answer : Result ℤ PoolError) (told : Result V PoolError) → found answer → IsTold gives answer told →
    IsAnswer gives found told
answered gives found (Ok n) (Ok v) is gave = ((n, is), gave)
answered gives found (Ok n) (Err e) is gave = inl (gave, n, is)
answered gives found (Err e) told is gave = subst (λ r. IsAnswer gives found r) (sym gave) (inr is)

-- so it is of the pool's book
pub answered_at : {P W V : Type 0} (gives : W → V → Type 0) (c : Config) (p : PassView) (found : BookView P → Result ℤ PoolError → Type 0) (answer : Result ℤ PoolError) (told : Result V PoolError) →
    BookOf P c p (λ b. found b answer) → IsTold gives answer told → BookOf P c p (λ b. IsAnswer gives (found b) told)
answered_at gives c p found answer told at gave = record {
  book = at.book;
  is = at.is;
  at = at.at;
  released = at.released;
  holds = answered gives (found at.book) answer told at.holds gave;
}
