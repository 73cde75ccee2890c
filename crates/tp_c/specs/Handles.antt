-- What a call on a handle does to the machine behind it.
use Rattle.std.specs.Prelude.{◌≡◌, ◌⊎◌, ℕ, List, [], length, reverse}
use Rattle.tp_types.specs.declared.refusals.PoolError.{PoolError}
use Rattle.tp_types.specs.PoolError.{refusal_number}
use Rattle.tp_record.specs.declared.entries.Ask.{Ask}
use Rattle.tp_record.specs.declared.entries.Did.{Did}
use Rattle.tp_record.specs.declared.entries.Entry.{Entry}
use Rattle.tp_record.specs.declared.recorders.Tally.{Tally}
use Rattle.tp_record.specs.Kept.{Kept as Whole}
use Rattle.tp_machine.specs.declared.steps.Stepped.{Stepped}
use Rattle.tp_machine.specs.Steps.{IsStep, Stays}
use Rattle.tp_machine.specs.Stepped.{IsAnswer, did_of}
use Rattle.tp_machine.specs.Typed.{IsDeniedBy}
use Rattle.tp_c.specs.declared.answers.Answer.{Answer}
use Rattle.tp_c.specs.declared.asking.Asking.{Asking}
use Rattle.tp_c.specs.declared.handles.Kept.{Kept}
use Rattle.tp_c.specs.declared.handles.Kept.TheVariants.{Full, Tallied}
use Rattle.tp_c.specs.declared.handles.Handle.{Handle}
use Rattle.tp_c.specs.Asks.{AsksNothing, numbers_of, switch}
use Rattle.tp_c.specs.Numbers.{answer_of, has_left}

-- the histories that a record and a tally are of
abbrev pub tells_whole : Whole → List Entry → List ℕ → Type 0
tells_whole f h rs = (reverse f.entries ≡ h) × (rs ≡ [])

abbrev pub tells_length : Tally → List Entry → List ℕ → Type 0
tells_length t h rs = t.steps ≡ length h

-- the machine made this step; it denied it; nothing has changed
abbrev pub Steps : Kept → Kept → ℕ → Ask → Did → Type 0
Steps (Full m) (Full n) by a d = IsStep tells_whole m n by a d
Steps (Tallied m) (Tallied n) by a d = IsStep tells_length m n by a d
Steps _ _ by a d = ⊥

abbrev pub Denies : Kept → Ask → PoolError → Type 0
Denies (Full m) a e = IsDeniedBy tells_whole m a e
Denies (Tallied m) a e = IsDeniedBy tells_length m a e

abbrev pub Same : Kept → Kept → Type 0
Same (Full m) (Full n) = Stays tells_whole m n
Same (Tallied m) (Tallied n) = Stays tells_length m n
Same _ _ = ⊥

-- an answer, with whether a payload leaves
abbrev pub told : Ask → Stepped (Unit {0}) → Answer
told a s = record (answer_of (did_of a s)) { left = switch (has_left s) }

module _ (old new : Handle) (by : ℕ) (n : Asking) (before after : Answer) (status : ℕ) where
  -- the numbers are those of an ask, the machine made its step, and told what it answered
  pub record IsDone : Type 0 where
    pub ask : Ask
    pub stepped : Stepped (Unit {0})
    pub asked : numbers_of ask ≡ n
    pub answers : IsAnswer ask stepped
    pub steps : Steps old.kept new.kept by ask (did_of ask stepped)
    pub tells : after ≡ told ask stepped
    pub done : status ≡ 0

  -- they are those of an ask that the machine denies: nothing has changed
  pub record IsDenied : Type 0 where
    pub ask : Ask
    pub error : PoolError
    pub asked : numbers_of ask ≡ n
    pub denies : Denies old.kept ask error
    pub same : Same old.kept new.kept
    pub handed : new.handed ≡ old.handed
    pub config : new.config ≡ old.config
    pub silent : after ≡ before
    pub refused : status ≡ refusal_number error

  -- they are those of no ask: nothing has changed
  pub record IsWrong : Type 0 where
    pub asks_nothing : AsksNothing n
    pub unchanged : new ≡ old
    pub silent : after ≡ before
    pub wrong : status ≡ 35

  abbrev pub IsStepped : Type 0
  IsStepped = IsDone ⊎ IsDenied ⊎ IsWrong
