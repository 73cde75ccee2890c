-- The text of a scenario says one thing.
use Rattle.std.proofs.Common.{◌≡◌, ℕ, ◌<◌, List, get_or, true, refl, sym, subst}
use Rattle.std.specs.Prelude.{nat_lt}
use Rattle.std.proofs.lemmas.Bool.{ltb-true}
use Rattle.tp_text.specs.declared.commands.TaskVerb.TheVariants as task
use Rattle.tp_text.specs.declared.commands.SlotVerb.TheVariants as slot
use Rattle.tp_text.specs.declared.commands.PoolVerb.TheVariants as pool
use Rattle.tp_text.specs.declared.commands.SizeVerb.TheVariants as size
use Rattle.tp_text.specs.declared.commands.TickVerb.TheVariants as ticks
use Rattle.tp_text.specs.declared.commands.Command.{Command}
use Rattle.tp_text.specs.declared.commands.Command.TheVariants as command
use Rattle.tp_text.specs.Commands.{command_word}
use Rattle.tp_scenario.specs.declared.lines.ScenarioLine.{ScenarioLine}
use Rattle.tp_scenario.specs.Lines.{FitsLine, arguments, command_of, line_text}
use Rattle.tp_text.specs.Lines.{IsSkipped}
use Rattle.tp_scenario.specs.Scenario.{IsScenario, Said}
use Rattle.tp_scenario.proofs.OneReading.{line_text-injective}
use Rattle.tp_scenario.proofs.OneText.{followed_first, letter_not_skipped, one_said}

-- each command begins with a letter
letter_first : (c : Command) → nat_lt 96 (get_or (command_word c) 0 0) ≡ true
letter_first command.Submit = refl
letter_first command.Verdict = refl
letter_first command.Cancel = refl
letter_first command.CoreTimeout = refl
letter_first (command.OfTask task.Look) = refl
letter_first (command.OfSlot slot.Open) = refl
letter_first (command.OfPool pool.Shutdown) = refl
letter_first (command.OfSize size.TakeDone) = refl
letter_first (command.OfTicks ticks.Keep) = refl
letter_first _ = refl

line_not_skipped : (bytes : List ℕ) (l : ScenarioLine) → bytes ≡ line_text l → IsSkipped bytes → ⊥
line_not_skipped bytes l is skipped =
    let P : List ℕ → Type 0 = λ x. 96 < get_or x 0 0 in
    letter_not_skipped bytes (subst P (sym is) (followed_first (command_word (command_of l)) (arguments l) (ltb-true 96 _ (letter_first (command_of l))))) skipped

-- a text says one thing
pub says_one : (text : List ℕ) (s t : Said) → IsScenario text s → IsScenario text t → s ≡ t
says_one = one_said line_text FitsLine line_not_skipped line_text-injective
