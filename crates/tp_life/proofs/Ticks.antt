-- Ticks that a pass tells, one after another.
use Rattle.std.proofs.Common.{ℕ, [], ◌∷◌, ◌++◌, refl}
use Rattle.std.proofs.lemmas.List.Elements.{All-nil, All-push}
use Rattle.tp_types.specs.declared.configs.Config.{Config}
use Rattle.tp_record.specs.declared.entries.Ask.TheVariants as ask
use Rattle.tp_record.specs.declared.entries.Did.TheVariants as did
use Rattle.tp_book.specs.PassView.{PassView}
use Rattle.tp_pool_holds.specs.Passes.{AddsStep, LooksOnly, entry_of}
use Rattle.tp_pool_holds.proofs.Receipts.{adds_looks, adds_then, looks_adds}
use Rattle.tp_life.specs.Ticking.{IsTick, OnlyTicks}

-- c are the settings that judge a pool's steps
module _ (c : Config) where
  -- a pass that has looked told none
  pub ticks_none : (old new : PassView) → LooksOnly c old new → OnlyTicks c old new
  ticks_none old new looks = ([], looks_adds c old new looks, All-nil (IsTick old.number))

  -- a look after ticks
  pub ticks_look : (old mid new : PassView) → OnlyTicks c old mid → LooksOnly c mid new → OnlyTicks c old new
  ticks_look old mid new told looks = (told.0, adds_looks c old mid new told.0 told.1 looks, told.2)

  -- one tick more
  pub ticks_more : (old mid new : PassView) (moment : ℕ) → OnlyTicks c old mid → AddsStep c mid (ask.Tick moment) (did.Tick moment) new → OnlyTicks c old new
  ticks_more old mid new moment told step =
      let entry = entry_of old.number (ask.Tick moment) (did.Tick moment) in (
        told.0 ++ entry ∷ [],
        adds_then c old mid new told.0 (ask.Tick moment) (did.Tick moment) told.1 step,
        All-push (IsTick old.number) told.0 entry told.2 (moment, refl),
      )
