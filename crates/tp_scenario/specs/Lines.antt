-- The text of each line that asks for a step.
use Rattle.std.specs.Prelude.{◌≡◌, ◌≢◌, ℕ, Bool, true, false, List, ◌∷◌, Option, Some, None, Ok, Err, IfSome, codes}
use Rattle.std.specs.Fmt.{decimal, signed_decimal}
use Rattle.tp_types.specs.declared.tasks.Kind.{Kind}
use Rattle.tp_types.specs.declared.configs.Verdict.{Verdict}
use Rattle.tp_types.specs.Verdict.{verdict_name}
use Rattle.tp_record.specs.Effects.{Outcome}
use Rattle.tp_text.specs.declared.commands.Command.{Command}
use Rattle.tp_text.specs.declared.commands.Command.TheVariants as command
use Rattle.tp_text.specs.Commands.{command_word}
use Rattle.tp_text.specs.EntryLine.{kind_text, switch_word}
use Rattle.tp_text.specs.Fits.{Fits32, Fits64, FitsKind, FitsOutcome}
use Rattle.tp_text.specs.Reads.{spaced, followed}
use Rattle.tp_scenario.specs.declared.lines.ScenarioLine.{ScenarioLine}
use Rattle.tp_scenario.specs.declared.lines.ScenarioLine.TheVariants as line

-- a value as it stands, a fault's code after an exclamation mark
abbrev pub outcome_text : Outcome → List ℕ
outcome_text (Ok v) = signed_decimal v
outcome_text (Err code) = 33 ∷ decimal code

-- a priority, where one is said
abbrev pub priority_text : Option ℕ → Option (List ℕ)
priority_text None = None
priority_text (Some n) = Some (spaced (codes "prio") (decimal n))

-- what a line gives its task: the outcome of its end, and a priority where one is said
abbrev pub Given : Type 0
Given = Outcome × Option ℕ

abbrev pub given_text : Given → List ℕ
given_text g = followed (outcome_text g.0) (priority_text g.1)

-- a task's kind and what it is given
abbrev pub submission_text : Kind × Given → List ℕ
submission_text s = spaced (kind_text s.0) (given_text s.1)

-- a task's number, and whether its flag is asked for
abbrev pub cancel_text : ℕ × Bool → List ℕ
cancel_text (t, false) = decimal t
cancel_text (t, true) = spaced (decimal t) (codes "flag")

-- a task's number and a verdict
abbrev pub ruling_text : ℕ × Verdict → List ℕ
ruling_text p = spaced (decimal p.0) (verdict_name p.1)

-- the word that a line begins with
abbrev pub command_of : ScenarioLine → Command
command_of (line.Submit k o p) = command.Submit
command_of (line.OfTask v t) = command.OfTask v
command_of (line.Verdict t v) = command.Verdict
command_of (line.OfSlot v w) = command.OfSlot v
command_of (line.OfPool v) = command.OfPool v
command_of (line.Cancel t flag) = command.Cancel
command_of (line.OfSize v n) = command.OfSize v
command_of (line.OfTicks v n) = command.OfTicks v
command_of (line.CoreTimeout on) = command.CoreTimeout

-- what follows that word after a space, if anything does
abbrev pub arguments : ScenarioLine → Option (List ℕ)
arguments (line.Submit k o p) = Some (submission_text (k, (o, p)))
arguments (line.OfTask v t) = Some (decimal t.0)
arguments (line.Verdict t v) = Some (ruling_text (t.0, v))
arguments (line.OfSlot v w) = Some (decimal w.0)
arguments (line.OfPool v) = None
arguments (line.Cancel t flag) = Some (cancel_text (t.0, flag))
arguments (line.OfSize v n) = Some (decimal n)
arguments (line.OfTicks v n) = Some (decimal n)
arguments (line.CoreTimeout on) = Some (switch_word on)

-- the text of a line
abbrev pub line_text : ScenarioLine → List ℕ
line_text l = followed (command_word (command_of l)) (arguments l)

abbrev pub FitsGiven : Given → Type 0
FitsGiven g = FitsOutcome g.0 × IfSome g.1 Fits32

abbrev pub FitsSubmission : Kind × Given → Type 0
FitsSubmission s = FitsKind s.0 × FitsGiven s.1

abbrev pub FitsLine : ScenarioLine → Type 0
FitsLine (line.Submit k o p) = FitsSubmission (k, (o, p))
FitsLine (line.OfTask v t) = Fits32 t.0
FitsLine (line.Verdict t v) = Fits32 t.0
FitsLine (line.OfSlot v w) = Fits64 w.0
FitsLine (line.OfPool v) = Unit {0}
FitsLine (line.Cancel t flag) = Fits32 t.0
FitsLine (line.OfSize v n) = Fits32 n
FitsLine (line.OfTicks v n) = Fits64 n
FitsLine (line.CoreTimeout on) = Unit {0}

-- a line with this command is read just where its arguments are these
abbrev pub ReadsAfter : Command → Option (List ℕ) → Option ScenarioLine → Type 0
ReadsAfter c rest (Some l) = FitsLine l × (command_of l ≡ c) × (rest ≡ arguments l)
ReadsAfter c rest None = (l : ScenarioLine) → FitsLine l → command_of l ≡ c → rest ≢ arguments l
