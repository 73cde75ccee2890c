-- What becomes of a journal.
use Rattle.std.specs.Prelude.{ℕ, ◌≡◌, List, Option, ⊤}
use Rattle.std.specs.Io.KnownBytes.{Appends}
use Rattle.tp_types.specs.declared.refusals.PoolError.{PoolError}
use Rattle.tp_journal.specs.declared.endings.JournalEnd.{JournalEnd}
use Rattle.tp_journal.specs.declared.endings.JournalEnd.TheVariants.{Whole, Cut, Left}
use Rattle.tp_journal.specs.declared.endings.Stopped.{Stopped}
use Rattle.tp_journal.specs.declared.endings.Stopped.TheVariants as stopped
use Rattle.tp_journal.specs.declared.writers.RecordWriter.{RecordWriter}

-- so it is of a journal's writer, unless it was left
abbrev pub IfThrough : {W : Type 0} → Stopped W → (RecordWriter W → Type 0) → Type 0
IfThrough (stopped.Through w) P = P w
IfThrough stopped.Left P = ⊤

-- a journal that is whole has this text, behind what its writer held before
abbrev pub IsWhole : {W : Type 0} → (W → Option (List ℕ)) → Option (List ℕ) → List ℕ → JournalEnd W → Type 0
IsWhole contents before text (Whole w) = Appends before (contents w) text
IsWhole contents before text (Cut cut) = ⊤
IsWhole contents before text Left = ⊤

-- a journal that is cut off for this reason has what was written by this writer; without one it was left
abbrev pub IsCut : {W : Type 0} → Stopped W → PoolError → JournalEnd W → Type 0
IsCut (stopped.Through w) e ended = ended ≡ Cut (record { error = e; writer = w })
IsCut stopped.Left e ended = ended ≡ Left
