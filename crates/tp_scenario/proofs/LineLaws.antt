-- Which texts are those of lines.
use Rattle.std.proofs.Common.{◌≡◌, ◌≢◌, ℕ, List, Option, Some, None, Bool, sym, ◌∙◌, ap, subst}
use Rattle.std.proofs.lemmas.Option.{none-some, same_Some}
use Rattle.std.specs.Fmt.{decimal}
use Rattle.tp_types.specs.declared.tasks.Kind.{Kind}
use Rattle.tp_types.specs.declared.configs.Verdict.{Verdict}
use Rattle.tp_text.specs.declared.commands.Command.{Command}
use Rattle.tp_text.specs.declared.commands.Command.TheVariants as command
use Rattle.tp_scenario.specs.declared.lines.ScenarioLine.{ScenarioLine}
use Rattle.tp_scenario.specs.declared.lines.ScenarioLine.TheVariants as line
use Rattle.tp_text.specs.Reads.{ReadsAs, FirstWord, followed}
use Rattle.tp_scenario.specs.Lines.{ReadsAfter, FitsLine, FitsSubmission, Given, arguments, cancel_text, command_of, line_text, ruling_text, submission_text}
use Rattle.tp_text.specs.Fits.{Fits32, Fits64}
use Rattle.tp_text.specs.Commands.{command_word}
use Rattle.tp_text.specs.EntryLine.{switch_word}
use Rattle.tp_text.proofs.CommandWords.{command_word-injective, word_of_command}

-- what follows the command is the text of no argument
abbrev pub NoArguments : Command → List ℕ → Type 0
NoArguments command.Submit text = (s : Kind × Given) → FitsSubmission s → text ≢ submission_text s
NoArguments (command.OfTask v) text = (n : ℕ) → Fits32 n → text ≢ decimal n
NoArguments command.Verdict text = (p : ℕ × Verdict) → Fits32 p.0 → text ≢ ruling_text p
NoArguments (command.OfSlot v) text = (n : ℕ) → Fits64 n → text ≢ decimal n
NoArguments (command.OfPool v) text = Unit {0}
NoArguments command.Cancel text = (p : ℕ × Bool) → Fits32 p.0 → text ≢ cancel_text p
NoArguments (command.OfSize v) text = (n : ℕ) → Fits32 n → text ≢ decimal n
NoArguments (command.OfTicks v) text = (n : ℕ) → Fits64 n → text ≢ decimal n
NoArguments command.CoreTimeout text = (on : Bool) → Unit {0} → text ≢ switch_word on

no_arguments_of : (l : ScenarioLine) (text : List ℕ) → NoArguments (command_of l) text → FitsLine l → Some text ≡ arguments l → ⊥
no_arguments_of (line.Submit k o p) text none fits same = none (k, (o, p)) fits (same_Some _ _ same)
no_arguments_of (line.OfTask v t) text none fits same = none t.0 fits (same_Some _ _ same)
no_arguments_of (line.Verdict t v) text none fits same = none (t.0, v) fits (same_Some _ _ same)
no_arguments_of (line.OfSlot v w) text none fits same = none w.0 fits (same_Some _ _ same)
no_arguments_of (line.OfPool v) text none fits same = none-some _ (sym same)
no_arguments_of (line.Cancel t flag) text none fits same = none (t.0, flag) fits (same_Some _ _ same)
no_arguments_of (line.OfSize v n) text none fits same = none n fits (same_Some _ _ same)
no_arguments_of (line.OfTicks v n) text none fits same = none n fits (same_Some _ _ same)
no_arguments_of (line.CoreTimeout on) text none fits same = none on tt (same_Some _ _ same)

-- where the text is that of no argument, no line of the command has it
pub no_line : (c : Command) (text : List ℕ) → NoArguments c text → (l : ScenarioLine) → FitsLine l → command_of l ≡ c → Some text ≢ arguments l
no_line c text none l fits is = no_arguments_of l text (subst (λ d. NoArguments d text) (sym is) none) fits

-- the text of a line falls apart into its command and its arguments
pub line_parts : (bs w : List ℕ) (r : Option (List ℕ)) → FirstWord bs w r → (l : ScenarioLine) → bs ≡ line_text l → (w ≡ command_word (command_of l)) × (r ≡ arguments l)
line_parts bs w r first l same = first.only (command_word (command_of l)) (arguments l) (word_of_command (command_of l)) same

-- a text whose first word is no command is that of no line
pub no_command : (bs w : List ℕ) (r : Option (List ℕ)) → FirstWord bs w r → ((c : Command) → Unit {0} → w ≢ command_word c) → (l : ScenarioLine) → FitsLine l → bs ≢ line_text l
no_command bs w r first none l fits same = none (command_of l) tt (line_parts bs w r first l same).0

-- a text whose arguments are those of no line with its command is that of no line
pub no_line_after : (bs w : List ℕ) (r : Option (List ℕ)) (c : Command) → FirstWord bs w r → w ≡ command_word c → ((l : ScenarioLine) → FitsLine l → command_of l ≡ c → r ≢ arguments l) → (l : ScenarioLine) → FitsLine l → bs ≢ line_text l
no_line_after bs w r c first is none l fits same =
    let parts = line_parts bs w r first l same in
    none l fits (command_word-injective (command_of l) c (sym parts.0 ∙ is)) parts.1

-- what is read after the command is what is read of the whole text
pub line_read : (bs w : List ℕ) (r : Option (List ℕ)) (c : Command) → FirstWord bs w r → w ≡ command_word c → (o : Option ScenarioLine) → ReadsAfter c r o → ReadsAs line_text FitsLine bs o
line_read bs w r c first is (Some l) reads = (reads.0, first.whole ∙ ap (λ x. followed x r) (is ∙ ap command_word (sym reads.1)) ∙ ap (followed (command_word (command_of l))) reads.2)
line_read bs w r c first is None reads = no_line_after bs w r c first is reads
