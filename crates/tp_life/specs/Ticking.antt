-- What a life leaves that has a ticker.
use Rattle.std.specs.Prelude.{ℕ, true, ◌≡◌, ◌≢◌, ◌<◌, List, All, Option, Some, None}
use Rattle.tp_types.specs.declared.configs.Config.{Config}
use Rattle.tp_types.specs.declared.refusals.PoolError.{PoolError}
use Rattle.tp_record.specs.declared.entries.Entry.{Entry}
use Rattle.tp_record.specs.declared.entries.Ask.TheVariants as ask
use Rattle.tp_record.specs.declared.entries.Did.TheVariants as did
use Rattle.tp_book.specs.PassView.{PassView}
use Rattle.tp_pool_holds.specs.Passes.{Adds, AddsNone, Refuses, entry_of}
use Rattle.tp_life.specs.declared.ticking.End.{End}
use Rattle.tp_life.specs.declared.ticking.End.TheVariants as end

-- the pass of this number told a moment
abbrev pub IsTick : ℕ → Entry → Type 0
IsTick by e = (moment : ℕ) × (e ≡ entry_of by (ask.Tick moment) (did.Tick moment))

-- c are the settings that judge a pool's steps
module _ (c : Config) where
  -- the pass has told moments, and done nothing else
  abbrev pub OnlyTicks : PassView → PassView → Type 0
  OnlyTicks old new = (steps : List Entry) × Adds c old steps new × All (IsTick old.number) steps

  -- then it asks for nothing more; or it tells one more moment, and is refused so
  abbrev pub Stops : Option PoolError → PassView → PassView → Type 0
  Stops None old new = new ≡ old
  Stops (Some e) old new = AddsNone old new × ((moment : ℕ) × Refuses true c (old.room < 1) new (ask.Tick moment) e)

  -- so does a ticker that comes to this
  abbrev pub Tells : PassView → PassView → Option PoolError → Type 0
  Tells old new refused = (mid : PassView) × OnlyTicks old mid × Stops refused mid new

  -- the caller of this last number is the ticker, and the lives of the others leave what they leave without it
  abbrev pub LeavesTicked : {O : Type 0} → ℕ → (ℕ → PassView → PassView → O → Type 0) → ℕ → PassView → PassView → End O → Type 0
  LeavesTicked last leaves who old new (end.Lived out) = (who ≢ last) × leaves who old new out
  LeavesTicked last leaves who old new (end.Ticker refused) = (who ≡ last) × Tells old new refused
