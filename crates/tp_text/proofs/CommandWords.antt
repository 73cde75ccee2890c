-- Each step begins with a word of its own.
use Rattle.std.proofs.Common.{◌≡◌, ℕ, List, [], ◌∷◌, Option, Some, None, true, not, ◌==◌, refl, sym, ◌∙◌, ap, codes, if◌then◌else◌}
use Rattle.std.proofs.lemmas.Option.{same_Some}
use Rattle.std.specs.List.{list_all}
use Rattle.std.specs.Str.{bytes_eq}
use Rattle.tp_text.specs.declared.commands.TaskVerb.TheVariants as task
use Rattle.tp_text.specs.declared.commands.SlotVerb.TheVariants as slot
use Rattle.tp_text.specs.declared.commands.PoolVerb.TheVariants as pool
use Rattle.tp_text.specs.declared.commands.SizeVerb.TheVariants as size
use Rattle.tp_text.specs.declared.commands.TickVerb.TheVariants as ticks
use Rattle.tp_text.specs.declared.commands.Command.{Command}
use Rattle.tp_text.specs.declared.commands.Command.TheVariants as command
use Rattle.tp_text.specs.Commands.{command_word}
use Rattle.tp_text.specs.Reads.{IsWord}
use Rattle.tp_text.proofs.WordSplits.{word_from_test}

-- the command of the first word of the table that the word is
named_in : List (List ℕ × Command) → List ℕ → Option Command
named_in [] w = None
named_in (p ∷ ps) w = if bytes_eq w p.0 then Some p.1 else named_in ps w

table : List (List ℕ × Command)
table =
    (codes "submit", command.Submit)
    ∷ (codes "verdict", command.Verdict)
    ∷ (codes "cancel", command.Cancel)
    ∷ (codes "coretimeout", command.CoreTimeout)
    ∷ (codes "look", (command.OfTask task.Look))
    ∷ (codes "offer", (command.OfTask task.Offer))
    ∷ (codes "second", (command.OfTask task.Second))
    ∷ (codes "grow", (command.OfTask task.Grow))
    ∷ (codes "callerend", (command.OfTask task.CallerEnd))
    ∷ (codes "remove", (command.OfTask task.Remove))
    ∷ (codes "open", (command.OfSlot slot.Open))
    ∷ (codes "fail", (command.OfSlot slot.Fail))
    ∷ (codes "take", (command.OfSlot slot.Take))
    ∷ (codes "begin", (command.OfSlot slot.Begin))
    ∷ (codes "end", (command.OfSlot slot.End))
    ∷ (codes "leave", (command.OfSlot slot.Leave))
    ∷ (codes "shutdown", (command.OfPool pool.Shutdown))
    ∷ (codes "stop", (command.OfPool pool.Stop))
    ∷ (codes "tidy", (command.OfPool pool.Tidy))
    ∷ (codes "ended", (command.OfPool pool.Ended))
    ∷ (codes "purge", (command.OfPool pool.Purge))
    ∷ (codes "prestart", (command.OfPool pool.Prestart))
    ∷ (codes "takedone", (command.OfSize size.TakeDone))
    ∷ (codes "core", (command.OfSize size.Core))
    ∷ (codes "max", (command.OfSize size.Maximum))
    ∷ (codes "keep", (command.OfTicks ticks.Keep))
    ∷ (codes "tick", (command.OfTicks ticks.Tick))
    ∷ []

-- the command that a word names
named : List ℕ → Option Command
named w = named_in table w

-- each command is the one that its word names
named-word : (c : Command) → named (command_word c) ≡ Some c
unfolding named named_in table
named-word command.Submit = refl
named-word command.Verdict = refl
named-word command.Cancel = refl
named-word command.CoreTimeout = refl
named-word (command.OfTask task.Look) = refl
named-word (command.OfSlot slot.Open) = refl
named-word (command.OfPool pool.Shutdown) = refl
named-word (command.OfSize size.TakeDone) = refl
named-word (command.OfTicks ticks.Keep) = refl
named-word _ = refl

-- no command's word has a space
lacks_space : (c : Command) → list_all (λ b. not (b == 32)) (command_word c) ≡ true
lacks_space command.Submit = refl
lacks_space command.Verdict = refl
lacks_space command.Cancel = refl
lacks_space command.CoreTimeout = refl
lacks_space (command.OfTask task.Look) = refl
lacks_space (command.OfSlot slot.Open) = refl
lacks_space (command.OfPool pool.Shutdown) = refl
lacks_space (command.OfSize size.TakeDone) = refl
lacks_space (command.OfTicks ticks.Keep) = refl
lacks_space _ = refl

-- a command has a word of its own
pub command_word-injective : (c d : Command) → command_word c ≡ command_word d → c ≡ d
command_word-injective c d e = same_Some _ _ (sym (named-word c) ∙ ap named e ∙ named-word d)

-- a command's word has no space
pub word_of_command : (c : Command) → IsWord (command_word c)
word_of_command c = word_from_test (command_word c) (lacks_space c)
