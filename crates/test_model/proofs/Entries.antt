-- The words of the worked rows: their entries in order, and the history behind each front. What a row is told with is
-- passed on from here.
use Rattle.std.specs.Prelude.{ℕ, zero, suc, List, [], ◌∷◌, ◌++◌}
pub use Rattle.std.specs.Prelude.{pos}
use Rattle.tp_types.specs.declared.ids.TaskId.{TaskId}
use Rattle.tp_types.specs.declared.ids.SlotId.{SlotId}
pub use Rattle.tp_types.specs.declared.tasks.Kind.TheVariants as kinds
pub use Rattle.tp_types.specs.declared.tasks.Fate.TheVariants as fate
pub use Rattle.tp_types.specs.declared.configs.Config.{Config}
pub use Rattle.tp_types.specs.declared.configs.QueueKind.TheVariants.{Unbounded, Bounded, Handoff, Priority}
pub use Rattle.tp_types.specs.declared.configs.Policy.TheVariants as policy
pub use Rattle.tp_types.specs.declared.configs.Verdict.TheVariants as verdict
pub use Rattle.tp_types.specs.declared.refusals.PoolError.TheVariants.{BadSizes, BookFull, UnknownTask, UnknownSlot, NotThere, NotFuture, ClockBack, KeepZero, Lost, CancelledTask, Faulted}
pub use Rattle.tp_record.specs.declared.entries.Entry.{Entry}
use Rattle.tp_record.specs.declared.entries.Ask.{Ask}
use Rattle.tp_record.specs.declared.entries.Did.{Did}
pub use Rattle.tp_record.specs.declared.entries.Ask.TheVariants as ask
pub use Rattle.tp_record.specs.declared.entries.Did.TheVariants as did
pub use Rattle.tp_record.specs.declared.entries.Looked.TheVariants as looked
pub use Rattle.tp_record.specs.declared.entries.Offered.TheVariants as offered
pub use Rattle.tp_record.specs.declared.entries.Seconded.TheVariants as seconded
pub use Rattle.tp_record.specs.declared.entries.Grown.TheVariants as grown
pub use Rattle.tp_record.specs.declared.entries.Ruled.TheVariants as ruled
pub use Rattle.tp_record.specs.declared.entries.Opened.TheVariants as opened
pub use Rattle.tp_record.specs.declared.entries.Failed.TheVariants as failed
pub use Rattle.tp_record.specs.declared.entries.Took.TheVariants as took
pub use Rattle.tp_record.specs.declared.entries.Started.TheVariants as started
pub use Rattle.tp_record.specs.Fields.{queue}
pub use Rattle.tp_record.specs.State.{state, fate_of, result_of, counts}
pub use Rattle.tp_record.specs.Step.{step, Legal}
pub use Rattle.tp_record.specs.Words.{waiting_line, has_fate, counters}

-- an entry of pass 0, as all entries of the worked rows are
abbrev pub entry : Ask → Did → Entry
entry a d = record { by = 0; ask = a; did = d }

abbrev pub task : ℕ → TaskId
task n = record { 0 = n }

abbrev pub slot : ℕ → SlotId
slot n = record { 0 = n }

-- the first n entries of a row
abbrev pub start : ℕ → List Entry → List Entry
start zero es = []
start (suc n) [] = []
start (suc n) (e ∷ es) = e ∷ start n es

-- so many rounds of the same entries
abbrev pub repeat : ℕ → List Entry → List Entry
repeat zero es = []
repeat (suc n) es = es ++ repeat n es

-- the history behind the first n entries of a row, the latest first
abbrev pub front : ℕ → List Entry → List Entry
front n es = onto n es []
  where
    onto : ℕ → List Entry → List Entry → List Entry
    onto zero es h = h
    onto (suc n) [] h = h
    onto (suc n) (e ∷ es) h = onto n es (e ∷ h)
