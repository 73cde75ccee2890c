-- What tasks leave that ran on a pool of their own.
use Rattle.std.specs.Prelude.{ℕ, ℤ, ◌≡◌, List, [], ◌∷◌, Result, Ok, Err}
use Rattle.tp_types.specs.declared.configs.Config.{Config}
use Rattle.tp_types.specs.declared.refusals.PoolError.{PoolError}
use Rattle.tp_types.specs.declared.refusals.PoolError.TheVariants.{NotThere}
use Rattle.tp_types.specs.declared.tasks.Promise.{Promise}
use Rattle.tp_book.specs.declared.reports.Report.{Report}
use Rattle.tp_book.specs.declared.reports.TallyReport.{TallyReport}
use Rattle.tp_pool.specs.Lives.{IsRun, IsTallyRun}

-- each of these fits its counterpart among those, of which there are as many
abbrev pub Pairwise : {X Y : Type 0} → (X → Y → Type 0) → List X → List Y → Type 0
Pairwise R [] [] = Unit {0}
Pairwise R (x ∷ xs) (y ∷ ys) = R x y × Pairwise R xs ys
Pairwise R _ _ = ⊥

module _ {W V : Type 0} (gives : W → V → Type 0) where
  -- of a job that answered so, this is told: a value that a task gave, where it ran; else why it has none
  abbrev pub IsTold : Result ℤ PoolError → Result V PoolError → Type 0
  IsTold (Ok n) (Ok v) = ∥ ((w : W) × gives w v) ∥₁
  IsTold (Ok n) (Err e) = e ≡ NotThere
  IsTold (Err e) told = told ≡ Err e

  -- each task promises so, and names this priority: a pool ran these as its jobs, and this is told of each, in the same order
  pub record AreDone (runs : List W → List (Result ℤ PoolError) → Type 0) (tasks : List W) (values : List (Result V PoolError)) : Type 0 where
    pub answers : List (Result ℤ PoolError)
    pub run : runs tasks answers
    pub told : Pairwise IsTold answers values

  -- c are the settings; the pool kept its record
  abbrev pub AreRun : Config → Promise → (W → ℕ) → List W → List (Result V PoolError) → Report → Type 0
  AreRun c promise urgency tasks values r = AreDone (λ jobs answers. IsRun c (λ _. promise) urgency jobs answers r) tasks values

  -- or it kept none
  abbrev pub AreTallied : Config → Promise → (W → ℕ) → List W → List (Result V PoolError) → TallyReport → Type 0
  AreTallied c promise urgency tasks values r = AreDone (λ jobs answers. IsTallyRun c (λ _. promise) urgency jobs answers r) tasks values
