-- Which entries tell of a task or of a slot.
use Rattle.std.specs.Prelude.{ℕ, ◌==◌, ◌||◌, ◌&&◌, Bool, false}
use Rattle.tp_record.specs.declared.entries.Did.{Did}
use Rattle.tp_record.specs.declared.entries.Did.TheVariants as did
use Rattle.tp_record.specs.declared.entries.Ruled.{Ruled}
use Rattle.tp_record.specs.declared.entries.Ruled.TheVariants as ruled
use Rattle.tp_record.specs.declared.entries.Opened.TheVariants as opened
use Rattle.tp_record.specs.declared.entries.Failed.TheVariants as failed
use Rattle.tp_record.specs.declared.entries.Took.TheVariants as took
use Rattle.tp_record.specs.declared.entries.Started.TheVariants as started
use Rattle.tp_record.specs.Fields.{sweeps, is_idle_row}
use Rattle.tp_record.specs.State.{State, task_at, slot_at}
use Rattle.tp_record.specs.Words.{names_slot, wakes}
use Rattle.tp_story.specs.declared.subjects.Subject.{Subject}
use Rattle.tp_story.specs.declared.subjects.Subject.TheVariants as subject

-- a verdict drops task t beside the one that it is about
abbrev pub drops_task : Ruled → ℕ → Bool
drops_task (ruled.RetryDrop u) t = t == u.0
drops_task _ t = false

-- an entry names task t
abbrev pub names_task : Did → ℕ → Bool
names_task (did.Submit u k p l) t = t == u.0
names_task (did.Look u l) t = t == u.0
names_task (did.Offer u o) t = t == u.0
names_task (did.Second u s) t = t == u.0
names_task (did.Grow u g) t = t == u.0
names_task (did.Verdict u v r) t = t == u.0 || drops_task r t
names_task (did.CallerEnd u o) t = t == u.0
names_task (did.Open w (opened.GivenUpRefuse u)) t = t == u.0
names_task (did.Fail w (failed.Offer u)) t = t == u.0
names_task (did.Fail w (failed.Refuse u)) t = t == u.0
names_task (did.Take w (took.Held u)) t = t == u.0
names_task (did.Take w (took.Head u)) t = t == u.0
names_task (did.Begin w (started.Run u)) t = t == u.0
names_task (did.Begin w (started.Skip u)) t = t == u.0
names_task (did.End w u o) t = t == u.0
names_task (did.Remove u b) t = t == u.0
names_task (did.Cancel u f b) t = t == u.0
names_task (did.TakeDone g u) t = t == u.0
names_task _ t = false

-- an entry tells of a task where it names it, and where it finishes it with others, as a `stop` and a `purge` do; of a slot
-- where it names it, and where it wakes its worker with others. A reader of the record would look for just these: the entries
-- that name a task need not tell its end
abbrev pub tells_of : State → Did → Subject → Bool
tells_of s d (subject.Task t) = names_task d t.0 || sweeps d (task_at s t.0).cancelled (task_at s t.0).place
tells_of s d (subject.Slot w) = names_slot d w.0 || (wakes d && is_idle_row (slot_at s.slots w.0))
