-- Asks as plain numbers: which numbers are those of an ask, and which of none.
use Rattle.std.specs.Prelude.{ℕ, ℤ, ◌≢◌, pos, Bool, Ok, Err, if◌then◌else◌}
use Rattle.tp_types.specs.declared.configs.Verdict.{Verdict}
use Rattle.tp_types.specs.declared.configs.Verdict.TheVariants as verdict
use Rattle.tp_types.specs.declared.tasks.Kind.{Kind}
use Rattle.tp_types.specs.declared.tasks.Kind.TheVariants as kind
use Rattle.tp_record.specs.Effects.{Outcome}
use Rattle.tp_record.specs.declared.entries.Ask.{Ask}
use Rattle.tp_record.specs.declared.entries.Ask.TheVariants as ask
use Rattle.tp_text.specs.Fits.{Fits32, Fits64, FitsKind, FitsOutcome}
use Rattle.tp_c.specs.declared.asking.Asking.{Asking}

-- an ask with these arguments
abbrev pub asks : ℕ → ℕ → ℕ → ℤ → Asking
asks what first second value = record { what = what; first = first; second = second; value = value }

abbrev pub of_one : ℕ → ℕ → Asking
of_one what first = asks what first 0 (pos 0)

-- a kind and its group
abbrev pub kind_numbers : Kind → ℕ × ℕ
kind_numbers kind.Plain = (0, 0)
kind_numbers kind.Future = (1, 0)
kind_numbers (kind.Group g) = (2, g)

abbrev pub submission : Kind → ℕ → Asking
submission k p = asks 1 (kind_numbers k).0 (kind_numbers k).1 (pos p)

abbrev pub ruling : Verdict → ℕ
ruling verdict.Abort = 0
ruling verdict.CallerRuns = 1
ruling verdict.Discard = 2
ruling verdict.DiscardOldest = 3

-- whether an outcome is a fault, and its value or code
abbrev pub outcome_numbers : Outcome → ℕ × ℤ
outcome_numbers (Ok value) = (0, value)
outcome_numbers (Err code) = (1, pos code)

abbrev pub ending : ℕ → ℕ → Outcome → Asking
ending what first o = asks what first (outcome_numbers o).0 (outcome_numbers o).1

abbrev pub switch : Bool → ℕ
switch on = if on then 1 else 0

-- the numbers of an ask
abbrev pub numbers_of : Ask → Asking
numbers_of (ask.Submit k p) = submission k p
numbers_of (ask.Look t) = of_one 2 t.0
numbers_of (ask.Offer t) = of_one 3 t.0
numbers_of (ask.Second t) = of_one 4 t.0
numbers_of (ask.Grow t) = of_one 5 t.0
numbers_of (ask.Verdict t v) = asks 6 t.0 (ruling v) (pos 0)
numbers_of (ask.CallerEnd t o) = ending 7 t.0 o
numbers_of (ask.Open w) = of_one 8 w.0
numbers_of (ask.Fail w) = of_one 9 w.0
numbers_of (ask.Take w) = of_one 10 w.0
numbers_of (ask.Begin w) = of_one 11 w.0
numbers_of (ask.End w o) = ending 12 w.0 o
numbers_of (ask.Leave w) = of_one 13 w.0
numbers_of ask.Shutdown = of_one 14 0
numbers_of ask.Stop = of_one 15 0
numbers_of ask.Tidy = of_one 16 0
numbers_of ask.Ended = of_one 17 0
numbers_of (ask.Remove t) = of_one 18 t.0
numbers_of ask.Purge = of_one 19 0
numbers_of (ask.Cancel t flag) = asks 20 t.0 (switch flag) (pos 0)
numbers_of (ask.TakeDone g) = of_one 21 g
numbers_of (ask.Core n) = of_one 22 n
numbers_of (ask.Maximum n) = of_one 23 n
numbers_of (ask.Keep n) = of_one 24 n
numbers_of (ask.CoreTimeout on) = of_one 25 (switch on)
numbers_of (ask.Tick n) = of_one 26 n
numbers_of ask.Prestart = of_one 27 0

-- an ask whose numbers are in the range of their types
abbrev pub FitsAsk : Ask → Type 0
FitsAsk (ask.Submit k p) = FitsKind k × Fits32 p
FitsAsk (ask.Look t) = Fits32 t.0
FitsAsk (ask.Offer t) = Fits32 t.0
FitsAsk (ask.Second t) = Fits32 t.0
FitsAsk (ask.Grow t) = Fits32 t.0
FitsAsk (ask.Verdict t v) = Fits32 t.0
FitsAsk (ask.CallerEnd t o) = Fits32 t.0 × FitsOutcome o
FitsAsk (ask.Open w) = Fits64 w.0
FitsAsk (ask.Fail w) = Fits64 w.0
FitsAsk (ask.Take w) = Fits64 w.0
FitsAsk (ask.Begin w) = Fits64 w.0
FitsAsk (ask.End w o) = Fits64 w.0 × FitsOutcome o
FitsAsk (ask.Leave w) = Fits64 w.0
FitsAsk (ask.Remove t) = Fits32 t.0
FitsAsk (ask.Cancel t flag) = Fits32 t.0
FitsAsk (ask.TakeDone g) = Fits32 g
FitsAsk (ask.Core n) = Fits32 n
FitsAsk (ask.Maximum n) = Fits32 n
FitsAsk (ask.Keep n) = Fits64 n
FitsAsk (ask.Tick n) = Fits64 n
FitsAsk _ = Unit {0}

-- these numbers are those of no ask
abbrev pub AsksNothing : Asking → Type 0
AsksNothing n = (a : Ask) → FitsAsk a → numbers_of a ≢ n
