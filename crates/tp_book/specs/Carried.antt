-- What becomes of a task's payload, from the step that it comes with to the step that hands it out.
use Rattle.std.specs.Prelude.{ℕ, ◌≡◌, ◌⊎◌, List, [], ◌∷◌, Option, Some, ⊤}
use Rattle.tp_types.specs.declared.ids.TaskId.{TaskId}
use Rattle.tp_types.specs.declared.tasks.Promise.{Promise}
use Rattle.tp_record.specs.declared.entries.Ask.{Ask}
use Rattle.tp_record.specs.declared.entries.Ask.TheVariants as ask
use Rattle.tp_record.specs.Effects.{submits}
use Rattle.tp_machine.specs.declared.answers.Begun.TheVariants as begun
use Rattle.tp_machine.specs.declared.steps.Stepped.{Stepped}
use Rattle.tp_machine.specs.declared.steps.Stepped.TheVariants as stepped
use Rattle.tp_machine.specs.Stepped.{did_of}
use Rattle.tp_book.specs.BookView.{BookView, IsAdvanced}

-- a step of a book: the pass that asked, the ask, what came with it, and the answer
pub record Made (P : Type 0) : Type 0 where
  pub by : ℕ
  pub ask : Ask
  pub came : Option (Promise × P)
  pub answer : Stepped P

module _ {P : Type 0} where
  -- this is task t with this payload
  abbrev pub IsOf : ℕ → P → TaskId × Option P → Type 0
  IsOf t k x = (x.0.0 ≡ t) × (x.1 ≡ Some k)

  -- one of these is
  abbrev pub IsAmong : ℕ → P → List (TaskId × Option P) → Type 0
  IsAmong t k [] = ⊥
  IsAmong t k (x ∷ xs) = IsOf t k x ⊎ IsAmong t k xs

  -- the answer to this ask hands out this payload of task t
  abbrev pub HandsOutOf : ℕ → P → Stepped P → Ask → Type 0
  HandsOutOf t k (stepped.Verdict j) (ask.Verdict u v) = IsOf t k (u, j.payload) ⊎ ((x : TaskId × Option P) × (j.dropped ≡ Some x) × IsOf t k x)
  HandsOutOf t k (stepped.Begin (begun.Run u p)) a = IsOf t k (u, Some p)
  HandsOutOf t k (stepped.Stop handed) a = IsAmong t k handed.items
  HandsOutOf t k (stepped.Remove (Some x)) a = IsOf t k x
  HandsOutOf t k (stepped.Cancel b o) (ask.Cancel u flag) = IsOf t k (u, o)
  HandsOutOf t k _ _ = ⊥

  -- a book makes these steps, one after another
  abbrev pub MakesAll : List (Made P) → BookView P → BookView P → Type 0
  MakesAll [] old new = new ≡ old
  MakesAll (m ∷ ms) old new = (mid : BookView P) × IsAdvanced old mid m.by m.ask m.came m.answer × MakesAll ms mid new

  -- none of them is the submission of task t
  abbrev pub SubmitNone : ℕ → List (Made P) → Type 0
  SubmitNone t [] = ⊤
  SubmitNone t (m ∷ ms) = ¬ (submits (did_of m.ask m.answer) ≡ Some t) × SubmitNone t ms

  -- one of them hands out this payload of task t
  abbrev pub HandOutOf : ℕ → P → List (Made P) → Type 0
  HandOutOf t k [] = ⊥
  HandOutOf t k (m ∷ ms) = HandsOutOf t k m.answer m.ask ⊎ HandOutOf t k ms
