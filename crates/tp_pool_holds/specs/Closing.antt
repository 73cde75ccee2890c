-- Why a pool is not closed.
use Rattle.std.specs.Prelude.{ℕ, ◌≡◌, ◌<◌, List, All}
use Rattle.tp_types.specs.declared.configs.Config.{Config}
use Rattle.tp_types.specs.declared.refusals.PoolError.{PoolError}
use Rattle.tp_types.specs.declared.refusals.PoolError.TheVariants.{NotTerminated}
use Rattle.tp_record.specs.declared.entries.Entry.{Entry}
use Rattle.tp_record.specs.Fields.{rank}
use Rattle.tp_glance.specs.Word.{IsFrontOf}
use Rattle.tp_book.specs.BookView.{IsUnclosed}
use Rattle.tp_book.specs.PassView.{PassView}
use Rattle.tp_pool_holds.specs.Moments.{BookAt}

-- at some history, of which each pass knows a front, the book refuses a close with these passes so
pub record KeepsOpen (P : Type 0) (c : Config) (passes : List PassView) (e : PoolError) : Type 0 where
  pub history : List Entry
  pub refused : BookAt P c history (λ b. (workers : ℕ) × IsUnclosed b passes workers e)
  pub fronts : All (λ p. IsFrontOf p.front history) passes
  -- while the pool is not terminated none of them has seen its end
  pub unseen : e ≡ NotTerminated → All (λ p. rank p.front < 4) passes
