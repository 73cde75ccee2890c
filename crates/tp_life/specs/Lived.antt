-- What the whole life of a pool leaves.
use Rattle.std.specs.Prelude.{ℕ, Bool, ◌≡◌, ◌⊎◌, ◌≤◌, suc, List, [], ◌∷◌, ◌++◌}
use Rattle.tp_types.specs.declared.configs.Config.{Config}
use Rattle.tp_types.specs.declared.refusals.PoolError.{PoolError}
use Rattle.tp_types.specs.declared.refusals.PoolError.TheVariants.{MissingPass, TornRecord}
use Rattle.tp_record.specs.declared.entries.Entry.{Entry}
use Rattle.tp_book.specs.PassView.{PassView}
use Rattle.tp_pool_holds.specs.Moments.{AtSome}
use Rattle.tp_pool.specs.Lives.{IsUnopened}
use Rattle.tp_pool_holds.specs.Reports.{Closes}

-- a caller's pass as its life begins: it has asked for nothing, and knows nothing of the pool's record
abbrev pub IsNewPass : Bool → PassView → Type 0
IsNewPass keeps p = p ≡ record { number = p.number; amount = 0; front = []; released = []; keeps = keeps; receipts = []; room = p.room }

-- what a caller's life leaves, by its number, its pass at first and at last, and what came of it
module _ {O : Type 0} (leaves : ℕ → PassView → PassView → O → Type 0) (keeps : Bool) where
  -- these are what came of the callers' lives, from this number on, and their passes then
  abbrev pub AreLived : ℕ → List O → List PassView → Type 0
  AreLived who [] [] = Unit {0}
  AreLived who (out ∷ outs) (new ∷ passes) = ((old : PassView) × IsNewPass keeps old × leaves who old new out) × AreLived (suc who) outs passes
  AreLived who _ _ = ⊥

  -- told of a pool with these settings, with which callers lived, each with a pass of its own, and which one more pass ended: the
  -- record goes on from each pass's last front, and each pass's receipts are its own entries
  pub record IsLived {R : Type 0} (told : Config → List Entry → R → Type 0) (settings terms : Config) (outs : List O) (r : R) : Type 0 where
    pub passes : List PassView
    pub lived : AreLived 0 outs passes
    pub last : PassView
    pub closes : Closes told keeps settings terms (passes ++ last ∷ []) r

-- the close of a pool is refused that has come to where no slot is left
abbrev pub IsUntold : Config → PoolError → Type 0
IsUntold terms e = ((e ≡ MissingPass) ⊎ (e ≡ TornRecord)) × AtSome terms (λ s. 3 ≤ s.rank)

-- nobody has lived: no pool has these settings, or there was no memory, no number or no thread; or the close is refused
abbrev pub IsUnlived : Config → Config → PoolError → Type 0
IsUnlived settings terms e = IsUnopened settings e ⊎ IsUntold terms e
