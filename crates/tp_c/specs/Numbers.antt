-- Answers as plain numbers: those of what was done.
use Rattle.std.specs.Prelude.{ℕ, ◌-◌, ◌^◌, Bool, true, false, Option, Some, None, is_some, if◌then◌else◌}
use Rattle.tp_types.specs.declared.ids.TaskId.{TaskId}
use Rattle.tp_types.specs.declared.ids.SlotId.{SlotId}
use Rattle.tp_record.specs.declared.entries.Did.{Did}
use Rattle.tp_record.specs.declared.entries.Did.TheVariants as did
use Rattle.tp_record.specs.declared.entries.Looked.TheVariants as looked
use Rattle.tp_record.specs.declared.entries.Offered.TheVariants as offered
use Rattle.tp_record.specs.declared.entries.Seconded.TheVariants as seconded
use Rattle.tp_record.specs.declared.entries.Grown.TheVariants as grown
use Rattle.tp_record.specs.declared.entries.Ruled.TheVariants as ruled
use Rattle.tp_record.specs.declared.entries.Opened.TheVariants as opened
use Rattle.tp_record.specs.declared.entries.Failed.TheVariants as failed
use Rattle.tp_record.specs.declared.entries.Took.TheVariants as took
use Rattle.tp_record.specs.declared.entries.Started.TheVariants as started
use Rattle.tp_machine.specs.declared.answers.Begun.TheVariants as begun
use Rattle.tp_machine.specs.declared.steps.Stepped.{Stepped}
use Rattle.tp_machine.specs.declared.steps.Stepped.TheVariants as stepped
use Rattle.tp_c.specs.declared.answers.Answer.{Answer}

-- an answer that speaks of no task, of one, of a slot, of both, of how many
abbrev pub says : ℕ → Answer
says what = record { what = what; left = 0; task = 2 ^ 32 - 1; number = 0; slot = 2 ^ 64 - 1 }

abbrev pub says_task : ℕ → ℕ → Answer
says_task what t = record (says what) { task = t }

abbrev pub says_slot : ℕ → ℕ → Answer
says_slot what w = record (says what) { slot = w }

abbrev pub says_both : ℕ → ℕ → ℕ → Answer
says_both what t w = record (says what) { task = t; slot = w }

abbrev pub says_count : ℕ → Answer
says_count n = record (says 28) { number = n }

abbrev pub says_effect : ℕ → Bool → Answer
says_effect t on = if on then says_task 26 t else says_task 27 t

abbrev pub says_reserved : Option SlotId → Answer
says_reserved (Some w) = says_slot 1 w.0
says_reserved None = says 18

-- the numbers of what was done
abbrev pub answer_of : Did → Answer
answer_of (did.Submit t k p (looked.Reserve w)) = says_both 1 t.0 w.0
answer_of (did.Submit t k p looked.Queue) = says_task 2 t.0
answer_of (did.Submit t k p looked.Refuse) = says_task 3 t.0
answer_of (did.Look t (looked.Reserve w)) = says_both 1 t.0 w.0
answer_of (did.Look t looked.Queue) = says_task 2 t.0
answer_of (did.Look t looked.Refuse) = says_task 3 t.0
answer_of (did.Offer t offered.Queued) = says_task 4 t.0
answer_of (did.Offer t (offered.Hand w)) = says_both 5 t.0 w.0
answer_of (did.Offer t offered.Full) = says_task 6 t.0
answer_of (did.Second t seconded.Stay) = says_task 7 t.0
answer_of (did.Second t (seconded.StayReserve w)) = says_both 8 t.0 w.0
answer_of (did.Second t seconded.Back) = says_task 9 t.0
answer_of (did.Grow t (grown.Reserve w)) = says_both 1 t.0 w.0
answer_of (did.Grow t grown.Refuse) = says_task 3 t.0
answer_of (did.Verdict t v ruled.Rejected) = says_task 10 t.0
answer_of (did.Verdict t v ruled.Caller) = says_task 11 t.0
answer_of (did.Verdict t v ruled.Skip) = says_task 12 t.0
answer_of (did.Verdict t v ruled.Discarded) = says_task 13 t.0
answer_of (did.Verdict t v ruled.Retry) = says_task 14 t.0
answer_of (did.Verdict t v (ruled.RetryDrop u)) = says_task 15 u.0
answer_of (did.CallerEnd t o) = says_task 25 t.0
answer_of (did.Open w opened.Live) = says_slot 16 w.0
answer_of (did.Open w opened.GivenUp) = says_slot 17 w.0
answer_of (did.Open w (opened.GivenUpRefuse t)) = says_both 3 t.0 w.0
answer_of (did.Fail w failed.Nothing) = says_slot 18 w.0
answer_of (did.Fail w (failed.Offer t)) = says_both 19 t.0 w.0
answer_of (did.Fail w (failed.Refuse t)) = says_both 3 t.0 w.0
answer_of (did.Take w (took.Held t)) = says_both 20 t.0 w.0
answer_of (did.Take w (took.Head t)) = says_both 21 t.0 w.0
answer_of (did.Take w took.Leave) = says_slot 22 w.0
answer_of (did.Take w took.Idle) = says_slot 23 w.0
answer_of (did.Begin w (started.Run t)) = says_both 24 t.0 w.0
answer_of (did.Begin w (started.Skip t)) = says_both 12 t.0 w.0
answer_of (did.End w t o) = says_both 25 t.0 w.0
answer_of (did.Leave w slot) = says_reserved slot
answer_of did.Shutdown = says 0
answer_of (did.Stop n) = says_count n
answer_of did.Tidy = says 0
answer_of did.Ended = says 0
answer_of (did.Remove t on) = says_effect t.0 on
answer_of (did.Purge n) = says_count n
answer_of (did.Cancel t flag on) = says_effect t.0 on
answer_of (did.TakeDone g t) = says_task 0 t.0
answer_of (did.Core n added) = says_count added
answer_of (did.Maximum n) = says 0
answer_of (did.Keep n) = says 0
answer_of (did.CoreTimeout on) = says 0
answer_of (did.Tick n) = says 0
answer_of (did.Prestart slot) = says_reserved slot

abbrev has_left_with : Option (TaskId × Option (Unit {0})) → Bool → Bool
has_left_with (Some dropped) own = is_some dropped.1
has_left_with None own = own

-- whether the payload of the task that the answer names leaves the machine with it
abbrev pub has_left : Stepped (Unit {0}) → Bool
has_left (stepped.Begin (begun.Run t payload)) = true
has_left (stepped.Verdict j) = has_left_with j.dropped (is_some j.payload)
has_left (stepped.Remove (Some removed)) = is_some removed.1
has_left (stepped.Cancel on payload) = is_some payload
has_left _ = false
