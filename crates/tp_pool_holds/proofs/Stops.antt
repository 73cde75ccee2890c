-- What a stop's entry counts, and at which history a step was made.
use Rattle.std.proofs.Common.{◌≡◌, ℕ, List, [], ◌∷◌, length, map, ap, subst, sym, ◌∙◌}
use Rattle.std.proofs.lemmas.List.{length-map}
use Rattle.std.specs.Prelude.{Option}
use Rattle.tp_types.specs.declared.configs.Config.{Config}
use Rattle.tp_types.specs.declared.ids.TaskId.{TaskId}
use Rattle.tp_record.specs.declared.entries.Ask.{Ask}
use Rattle.tp_record.specs.declared.entries.Did.{Did}
use Rattle.tp_record.specs.declared.entries.Entry.{Entry}
use Rattle.tp_tasks.specs.declared.tasks.Tasks.{Tasks}
use Rattle.tp_book.specs.BookView.{BookView, Advances}
use Rattle.tp_book.specs.PassView.{PassView}
use Rattle.tp_pool_holds.specs.Drains.{drained_of}
use Rattle.tp_pool_holds.specs.Passes.{KnowsStep}
use Rattle.tp_pool_holds.specs.Steps.{Makes}
use Rattle.tp_pool_holds.specs.declared.answers.Drained.{Drained}
use Rattle.tp_pool_holds.specs.declared.tasks.Payload.{Payload}

abbrev earlier : List Entry → List Entry
earlier [] = []
earlier (e ∷ h) = h

module _ {J : Type 0} where
  -- as many are listed as were handed back
  pub length_listed : (handed : List (TaskId × Option (Payload J))) (ds : List (Drained J)) → ds ≡ map drained_of handed → length ds ≡ length handed
  length_listed handed ds same = ap length same ∙ length-map handed drained_of

  -- a step that a pass knows was made at the history at which its hold made it
  pub made_at : (c : Config) (by : ℕ) (before : List Entry) (a : Ask) (d : Did) (moves : Tasks (Payload J) → Tasks (Payload J) → Type 0) (after : List Entry) (old new : BookView (Payload J)) →
      (made : Makes J c by before a d moves after) → Advances old new by a d moves → after ≡ new.history → old.history ≡ made.old.history
  made_at c by before a d moves after old new made advances known =
      ap (λ h. earlier h) (sym advances.notes ∙ sym known ∙ made.shown ∙ made.step.notes)

  -- what a pass knows of its step is so where the step was made
  pub known_made : (c : Config) (old new : PassView) (a : Ask) (d : Did) (moves : Tasks (Payload J) → Tasks (Payload J) → Type 0) (F : List Entry → Type 0) → (made : Makes J c old.number old.front a d moves new.front) →
      KnowsStep old a d F new → F made.old.history
  known_made c old new a d moves F made known = subst F (ap (λ h. earlier h) (sym known.1 ∙ made.shown ∙ made.step.notes)) known.2
