-- What a record tells in numbers.
use Rattle.std.specs.Prelude.{ℕ, suc, ◌≡◌, ◌-◌, ◌++◌, ◌∷◌, Bool, true, false, List, [], Option, Some, None, length, nat_lt, if◌then◌else◌}
use Rattle.tp_types.specs.declared.configs.Config.{Config}
use Rattle.tp_types.specs.declared.ids.TaskId.{TaskId}
use Rattle.tp_types.specs.declared.ids.SlotId.{SlotId}
use Rattle.tp_record.specs.declared.entries.Entry.{Entry}
use Rattle.tp_record.specs.declared.entries.Did.{Did}
use Rattle.tp_record.specs.declared.entries.Did.TheVariants as did
use Rattle.tp_record.specs.declared.entries.Looked.TheVariants as looked
use Rattle.tp_record.specs.declared.entries.Seconded.TheVariants as seconded
use Rattle.tp_record.specs.declared.entries.Grown.TheVariants as grown
use Rattle.tp_record.specs.declared.entries.Opened.TheVariants as opened
use Rattle.tp_record.specs.declared.entries.Failed.TheVariants as failed
use Rattle.tp_record.specs.declared.entries.Took.TheVariants as took
use Rattle.tp_record.specs.Fields.{rank, queue}
use Rattle.tp_audit.specs.Audited.{Judge, Judged, settings}
use Rattle.tp_story.specs.declared.times.Since.{Since}
use Rattle.tp_story.specs.declared.times.Times.{Times}
use Rattle.tp_story.specs.Since.{Timed, latest, task_since}
use Rattle.tp_story.specs.declared.spans.Span.{Span}
use Rattle.tp_story.specs.declared.reasons.Reason.{Reason}
use Rattle.tp_story.specs.declared.reasons.Reason.TheVariants.{ShutDown, Full, NoWorker}
use Rattle.tp_story.specs.declared.reasons.Refusals.{Refusals}
use Rattle.tp_story.specs.declared.stats.Longest.{Longest}

-- a task, and the slot of the worker that takes or ran it; None where its submitter ran it
abbrev pub Mover : Type 0
Mover = TaskId × Option SlotId

-- how long it was for this task from one entry of a record to another
abbrev pub between : Mover → Since → Since → Span
between m from to = record { entries = to.number - from.number; ticks = to.moment - from.moment; task = m.0.0; slot = m.1 }

-- how long the task was where it was since the entry that moved it there
abbrev pub span_since : Since → Mover → Option Since → List Span
span_since to m None = []
span_since to m (Some from) = between m from to ∷ []

-- how long this task was where it was after a history, up to an entry that comes after
abbrev pub span_to : List Entry → Since → Option Mover → List Span
span_to h to None = []
span_to h to (Some m) = span_since to m (task_since h m.0.0)

-- the task that a worker takes from the queue
abbrev pub taken : Did → Option Mover
taken (did.Take w (took.Head t)) = Some (t, Some w)
taken _ = None

-- the task whose body ends
abbrev pub ended : Did → Option Mover
ended (did.End w t o) = Some (t, Some w)
ended (did.CallerEnd t o) = Some (t, None)
ended _ = None

-- how long the tasks were where they were that the entries of a history move so, the oldest entry first
abbrev pub spans : (Did → Option Mover) → List Entry → List Span
spans f [] = []
spans f (e ∷ h) = spans f h ++ span_to h (latest (e ∷ h)) (f e.did)

-- why an entry refuses a submission, where this is the run state's rank after it
abbrev pub reason : ℕ → Did → Option Reason
reason r (did.Submit t k p looked.Refuse) = Some ShutDown
reason r (did.Look t looked.Refuse) = Some ShutDown
reason r (did.Second t seconded.Back) = Some ShutDown
reason r (did.Open w (opened.GivenUpRefuse t)) = Some ShutDown
reason r (did.Grow t grown.Refuse) = if nat_lt 0 r then Some ShutDown else Some Full
reason r (did.Fail w (failed.Refuse t)) = Some NoWorker
reason r _ = None

-- with one refusal more
abbrev pub refused : Option Reason → Refusals → Refusals
refused None n = n
refused (Some ShutDown) n = record n { shut_down = suc n.shut_down }
refused (Some Full) n = record n { full = suc n.full }
refused (Some NoWorker) n = record n { no_worker = suc n.no_worker }

-- how often submissions were refused, by reason
abbrev pub refusals : List Entry → Refusals
refusals [] = record { shut_down = 0; full = 0; no_worker = 0 }
refusals (e ∷ h) = refused (reason (rank (e ∷ h)) e.did) (refusals h)

-- the longer one of a queue after entry n and the longest before it
abbrev pub longer : ℕ → ℕ → Longest → Longest
longer tasks n l = if nat_lt l.tasks tasks then record { tasks = tasks; number = n } else l

-- the longest queue, and after which entry it was so long first
abbrev pub longest : Config → List Entry → Longest
longest c [] = record { tasks = 0; number = 0 }
longest c (e ∷ h) = longer (length (queue c (e ∷ h))) (suc (length h)) (longest c h)

-- a worker is made
abbrev pub opens : Did → Bool
opens (did.Open w opened.Live) = true
opens _ = false

-- a worker leaves
abbrev pub leaves : Did → Bool
leaves (did.Take w took.Leave) = true
leaves (did.Leave w o) = true
leaves _ = false

-- a count with one more, if there is one
abbrev pub with_one : Bool → ℕ → ℕ
with_one is_one n = if is_one then suc n else n

-- how many entries of a history do so
abbrev pub count : (Did → Bool) → List Entry → ℕ
count f [] = 0
count f (e ∷ h) = with_one (f e.did) (count f h)

-- what a contract sees of a record that is counted entry by entry
pub record Counting : Type 0 where
  pub judge : Judge
  pub times : Times
  pub waits : List Span
  pub runs : List Span
  pub refusals : Refusals
  pub longest : Longest
  pub opened : ℕ
  pub left : ℕ

-- it was told this history, and its numbers are those of the history
pub record Counts (s : Counting) (h : List Entry) : Type 0 where
  pub judged : Judged s.judge h
  pub timed : Timed h s.times
  pub waits : s.waits ≡ spans taken h
  pub runs : s.runs ≡ spans ended h
  pub refusals : s.refusals ≡ refusals h
  pub longest : s.longest ≡ longest (settings s.judge) h
  pub opened : s.opened ≡ count opens h
  pub left : s.left ≡ count leaves h
