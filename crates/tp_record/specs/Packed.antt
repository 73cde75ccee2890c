-- What a packed entry means.
use Rattle.std.specs.Prelude.{ℕ, ◌^◌, ◌%◌, ◌<◌, Bool, true, false, Option, Some, None, Ok, Err}
use Rattle.std.specs.Int.{cast_signed, w64}
use Rattle.tp_types.specs.declared.ids.TaskId.{TaskId}
use Rattle.tp_types.specs.declared.ids.SlotId.{SlotId}
use Rattle.tp_types.specs.declared.tasks.Kind.TheVariants as kinds
use Rattle.tp_types.specs.declared.configs.Verdict.TheVariants as verdict
use Rattle.tp_record.specs.declared.entries.Entry.{Entry}
use Rattle.tp_record.specs.declared.entries.Did.{Did}
use Rattle.tp_record.specs.declared.entries.Did.TheVariants as did
use Rattle.tp_record.specs.declared.entries.Looked.{Looked}
use Rattle.tp_record.specs.declared.entries.Looked.TheVariants as looked
use Rattle.tp_record.specs.declared.entries.Offered.{Offered}
use Rattle.tp_record.specs.declared.entries.Offered.TheVariants as offered
use Rattle.tp_record.specs.declared.entries.Seconded.{Seconded}
use Rattle.tp_record.specs.declared.entries.Seconded.TheVariants as seconded
use Rattle.tp_record.specs.declared.entries.Grown.{Grown}
use Rattle.tp_record.specs.declared.entries.Grown.TheVariants as grown
use Rattle.tp_record.specs.declared.entries.Ruled.{Ruled}
use Rattle.tp_record.specs.declared.entries.Ruled.TheVariants as ruled
use Rattle.tp_record.specs.declared.entries.Opened.{Opened}
use Rattle.tp_record.specs.declared.entries.Opened.TheVariants as opened
use Rattle.tp_record.specs.declared.entries.Failed.{Failed}
use Rattle.tp_record.specs.declared.entries.Failed.TheVariants as failed
use Rattle.tp_record.specs.declared.entries.Took.{Took}
use Rattle.tp_record.specs.declared.entries.Took.TheVariants as took
use Rattle.tp_record.specs.declared.entries.Started.{Started}
use Rattle.tp_record.specs.declared.entries.Started.TheVariants as started
use Rattle.tp_record.specs.Effects.{Outcome}
use Rattle.tp_record.specs.Asked.{asked}
use Rattle.tp_record.specs.declared.packed.Step.{Step}
use Rattle.tp_record.specs.declared.packed.Step.TheVariants as step
use Rattle.tp_record.specs.declared.packed.Answer.{Answer}
use Rattle.tp_record.specs.declared.packed.Answer.TheVariants as answer

-- what a step answered, by its kind, and a slot or a task
abbrev pub looked_of : Answer → SlotId → Looked
looked_of answer.Reserve w = looked.Reserve w
looked_of answer.Queue w = looked.Queue
looked_of _ w = looked.Refuse

abbrev pub offered_of : Answer → SlotId → Offered
offered_of answer.Queued w = offered.Queued
offered_of answer.Hand w = offered.Hand w
offered_of _ w = offered.Full

abbrev pub seconded_of : Answer → SlotId → Seconded
seconded_of answer.Stay w = seconded.Stay
seconded_of answer.StayReserve w = seconded.StayReserve w
seconded_of _ w = seconded.Back

abbrev pub grown_of : Answer → SlotId → Grown
grown_of answer.Reserve w = grown.Reserve w
grown_of _ w = grown.Refuse

abbrev pub ruled_of : Answer → ℕ → Ruled
ruled_of answer.Rejected t = ruled.Rejected
ruled_of answer.Caller t = ruled.Caller
ruled_of answer.Skip t = ruled.Skip
ruled_of answer.Discarded t = ruled.Discarded
ruled_of answer.Retry t = ruled.Retry
ruled_of _ t = ruled.RetryDrop (record { 0 = t })

abbrev pub outcome_of : Answer → ℕ → ℕ → Outcome
outcome_of answer.Value code value = Ok (cast_signed w64 value)
outcome_of _ code value = Err code

abbrev pub opened_of : Answer → TaskId → Opened
opened_of answer.Live t = opened.Live
opened_of answer.GivenUp t = opened.GivenUp
opened_of _ t = opened.GivenUpRefuse t

abbrev pub failed_of : Answer → TaskId → Failed
failed_of answer.Nothing t = failed.Nothing
failed_of answer.Offer t = failed.Offer t
failed_of _ t = failed.Refuse t

abbrev pub took_of : Answer → TaskId → Took
took_of answer.Held t = took.Held t
took_of answer.Head t = took.Head t
took_of answer.Leave t = took.Leave
took_of _ t = took.Idle

abbrev pub started_of : Answer → TaskId → Started
started_of answer.Run t = started.Run t
started_of _ t = started.Skip t

abbrev pub reserved_of : Answer → SlotId → Option SlotId
reserved_of answer.Reserve w = Some w
reserved_of _ w = None

abbrev pub is_answer_yes : Answer → Bool
is_answer_yes answer.Yes = true
is_answer_yes _ = false

-- what was done, by the step, its answer, a task, a number, a slot and a value
abbrev pub did_of : Step → Answer → TaskId → ℕ → SlotId → ℕ → Did
did_of step.SubmitPlain a t n w v = did.Submit t kinds.Plain n (looked_of a w)
did_of step.SubmitFuture a t n w v = did.Submit t kinds.Future n (looked_of a w)
did_of step.SubmitGroup a t n w v = did.Submit t (kinds.Group (v % 2 ^ 32)) n (looked_of a w)
did_of step.Look a t n w v = did.Look t (looked_of a w)
did_of step.Offer a t n w v = did.Offer t (offered_of a w)
did_of step.Second a t n w v = did.Second t (seconded_of a w)
did_of step.Grow a t n w v = did.Grow t (grown_of a w)
did_of step.Abort a t n w v = did.Verdict t verdict.Abort (ruled_of a n)
did_of step.CallerRuns a t n w v = did.Verdict t verdict.CallerRuns (ruled_of a n)
did_of step.Discard a t n w v = did.Verdict t verdict.Discard (ruled_of a n)
did_of step.DiscardOldest a t n w v = did.Verdict t verdict.DiscardOldest (ruled_of a n)
did_of step.CallerEnd a t n w v = did.CallerEnd t (outcome_of a n v)
did_of step.Open a t n w v = did.Open w (opened_of a t)
did_of step.Fail a t n w v = did.Fail w (failed_of a t)
did_of step.Take a t n w v = did.Take w (took_of a t)
did_of step.Begin a t n w v = did.Begin w (started_of a t)
did_of step.End a t n w v = did.End w t (outcome_of a n v)
did_of step.Leave a t n w v = did.Leave w (reserved_of a (record { 0 = n }))
did_of step.Shutdown a t n w v = did.Shutdown
did_of step.Stop a t n w v = did.Stop n
did_of step.Tidy a t n w v = did.Tidy
did_of step.Ended a t n w v = did.Ended
did_of step.Remove a t n w v = did.Remove t (is_answer_yes a)
did_of step.Purge a t n w v = did.Purge n
did_of step.Cancel a t n w v = did.Cancel t false (is_answer_yes a)
did_of step.CancelFlag a t n w v = did.Cancel t true (is_answer_yes a)
did_of step.TakeDone a t n w v = did.TakeDone n t
did_of step.Core a t n w v = did.Core n (v % 2 ^ 32)
did_of step.Maximum a t n w v = did.Maximum n
did_of step.Keep a t n w v = did.Keep v
did_of step.CoreTimeout a t n w v = did.CoreTimeout (is_answer_yes a)
did_of step.Tick a t n w v = did.Tick v
did_of step.Prestart a t n w v = did.Prestart (reserved_of a w)

-- the entry of a pass with this answer
abbrev pub entry_of : ℕ → Did → Entry
entry_of by d = record { by = by; ask = asked d; did = d }

-- a slot's number that a packed entry has room for
abbrev pub Fits16 : SlotId → Type 0
Fits16 w = w.0 < 2 ^ 16

abbrev pub HasSmallLook : Looked → Type 0
HasSmallLook (looked.Reserve w) = Fits16 w
HasSmallLook _ = Unit {0}

abbrev pub HasSmallOffer : Offered → Type 0
HasSmallOffer (offered.Hand w) = Fits16 w
HasSmallOffer _ = Unit {0}

abbrev pub HasSmallSecond : Seconded → Type 0
HasSmallSecond (seconded.StayReserve w) = Fits16 w
HasSmallSecond _ = Unit {0}

abbrev pub HasSmallGrowth : Grown → Type 0
HasSmallGrowth (grown.Reserve w) = Fits16 w
HasSmallGrowth _ = Unit {0}

abbrev pub HasSmallReserve : Option SlotId → Type 0
HasSmallReserve (Some w) = Fits16 w
HasSmallReserve None = Unit {0}

-- each slot that an answer names has such a number
abbrev pub HasSmallSlots : Did → Type 0
HasSmallSlots (did.Submit t k p l) = HasSmallLook l
HasSmallSlots (did.Look t l) = HasSmallLook l
HasSmallSlots (did.Offer t o) = HasSmallOffer o
HasSmallSlots (did.Second t s) = HasSmallSecond s
HasSmallSlots (did.Grow t g) = HasSmallGrowth g
HasSmallSlots (did.Open w o) = Fits16 w
HasSmallSlots (did.Fail w f) = Fits16 w
HasSmallSlots (did.Take w t) = Fits16 w
HasSmallSlots (did.Begin w s) = Fits16 w
HasSmallSlots (did.End w t o) = Fits16 w
HasSmallSlots (did.Leave w o) = Fits16 w × HasSmallReserve o
HasSmallSlots (did.Prestart o) = HasSmallReserve o
HasSmallSlots _ = Unit {0}
