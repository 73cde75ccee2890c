-- The working tables: what each entry does to the tasks and slots that it names. A `stop` and a `purge` also move
-- tasks that they do not name (`swept` in Fields).
use Rattle.std.specs.Prelude.{ℕ, ℤ, Bool, true, false, not, ◌&&◌, List, [], ◌∷◌, ◌++◌, Option, Some, None, Result, Err, if◌then◌else◌}
use Rattle.tp_types.specs.declared.ids.TaskId.{TaskId}
use Rattle.tp_types.specs.declared.ids.SlotId.{SlotId}
use Rattle.tp_types.specs.declared.tasks.Kind.{Kind}
use Rattle.tp_types.specs.declared.tasks.Kind.TheVariants as kinds
use Rattle.tp_types.specs.declared.tasks.Place.{Place}
use Rattle.tp_types.specs.declared.tasks.Place.TheVariants as at
use Rattle.tp_types.specs.declared.tasks.Fate.{Fate}
use Rattle.tp_types.specs.declared.tasks.Fate.TheVariants as fate
use Rattle.tp_record.specs.declared.entries.Did.{Did}
use Rattle.tp_record.specs.declared.entries.Did.TheVariants as did
use Rattle.tp_record.specs.declared.entries.Looked.{Looked}
use Rattle.tp_record.specs.declared.entries.Looked.TheVariants as looked
use Rattle.tp_record.specs.declared.entries.Offered.{Offered}
use Rattle.tp_record.specs.declared.entries.Offered.TheVariants as offered
use Rattle.tp_record.specs.declared.entries.Seconded.{Seconded}
use Rattle.tp_record.specs.declared.entries.Seconded.TheVariants as seconded
use Rattle.tp_record.specs.declared.entries.Grown.{Grown}
use Rattle.tp_record.specs.declared.entries.Grown.TheVariants as grown
use Rattle.tp_record.specs.declared.entries.Ruled.{Ruled}
use Rattle.tp_record.specs.declared.entries.Ruled.TheVariants as ruled
use Rattle.tp_record.specs.declared.entries.Opened.{Opened}
use Rattle.tp_record.specs.declared.entries.Opened.TheVariants as opened
use Rattle.tp_record.specs.declared.entries.Failed.{Failed}
use Rattle.tp_record.specs.declared.entries.Failed.TheVariants as failed
use Rattle.tp_record.specs.declared.entries.Took.{Took}
use Rattle.tp_record.specs.declared.entries.Took.TheVariants as took
use Rattle.tp_record.specs.declared.entries.Started.{Started}
use Rattle.tp_record.specs.declared.entries.Started.TheVariants as started
use Rattle.tp_record.specs.declared.rows.Stage.{Stage}
use Rattle.tp_record.specs.declared.rows.Stage.TheVariants as stages

-- how a job ended: with a value, or with a fault's code (antt has no name for the alias)
abbrev pub Outcome : Type 0
Outcome = Result ℤ ℕ

-- where a look puts its task
abbrev pub place_looked : Looked → Place
place_looked (looked.Reserve w) = at.Held w
place_looked looked.Queue = at.ToOffer
place_looked looked.Refuse = at.Refused

-- where an offer puts its task
abbrev pub place_offered : Offered → Place
place_offered offered.Queued = at.Queued
place_offered (offered.Hand w) = at.Held w
place_offered offered.Full = at.ToGrow

-- where an attempt to grow puts its task
abbrev pub place_grown : Grown → Place
place_grown (grown.Reserve w) = at.Held w
place_grown grown.Refuse = at.Refused

abbrev pub moved_second : ℕ → Seconded → List (ℕ × Place)
moved_second t seconded.Stay = []
moved_second t (seconded.StayReserve w) = []
moved_second t seconded.Back = (t, at.Refused) ∷ []

abbrev pub moved_ruled : ℕ → Ruled → List (ℕ × Place)
moved_ruled t ruled.Rejected = (t, at.Gone) ∷ []
moved_ruled t ruled.Caller = (t, at.Caller) ∷ []
moved_ruled t ruled.Skip = (t, at.Gone) ∷ []
moved_ruled t ruled.Discarded = (t, at.Gone) ∷ []
moved_ruled t ruled.Retry = (t, at.Looking) ∷ []
moved_ruled t (ruled.RetryDrop u) = (t, at.Looking) ∷ (u.0, at.Gone) ∷ []

abbrev pub moved_opened : Opened → List (ℕ × Place)
moved_opened opened.Live = []
moved_opened opened.GivenUp = []
moved_opened (opened.GivenUpRefuse t) = (t.0, at.Refused) ∷ []

abbrev pub moved_failed : Failed → List (ℕ × Place)
moved_failed failed.Nothing = []
moved_failed (failed.Offer t) = (t.0, at.ToOffer) ∷ []
moved_failed (failed.Refuse t) = (t.0, at.Refused) ∷ []

abbrev pub moved_took : SlotId → Took → List (ℕ × Place)
moved_took w (took.Held t) = (t.0, at.Taken w) ∷ []
moved_took w (took.Head t) = (t.0, at.Taken w) ∷ []
moved_took w took.Leave = []
moved_took w took.Idle = []

abbrev pub moved_started : SlotId → Started → List (ℕ × Place)
moved_started w (started.Run t) = (t.0, at.Running w) ∷ []
moved_started w (started.Skip t) = (t.0, at.Gone) ∷ []

-- the tasks that an entry names and moves, each with its new place
abbrev pub moved : Did → List (ℕ × Place)
moved (did.Submit t k p l) = (t.0, place_looked l) ∷ []
moved (did.Look t l) = (t.0, place_looked l) ∷ []
moved (did.Offer t o) = (t.0, place_offered o) ∷ []
moved (did.Second t s) = moved_second t.0 s
moved (did.Grow t g) = (t.0, place_grown g) ∷ []
moved (did.Verdict t v r) = moved_ruled t.0 r
moved (did.CallerEnd t o) = (t.0, at.Gone) ∷ []
moved (did.Open w o) = moved_opened o
moved (did.Fail w f) = moved_failed f
moved (did.Take w k) = moved_took w k
moved (did.Begin w b) = moved_started w b
moved (did.End w t o) = (t.0, at.Gone) ∷ []
moved (did.Remove t true) = (t.0, at.Gone) ∷ []
moved _ = []

-- the task that an entry submits
abbrev pub submits : Did → Option ℕ
submits (did.Submit t k p l) = Some t.0
submits _ = None

-- an entry that submits
abbrev pub is_submit : Did → Bool
is_submit (did.Submit t k p l) = true
is_submit _ = false

-- the task that an entry puts in the queue
abbrev pub queues : Did → Option ℕ
queues (did.Offer t offered.Queued) = Some t.0
queues _ = None

-- whose kind an entry says
abbrev pub kinds_said : Did → List (ℕ × Kind)
kinds_said (did.Submit t k p l) = (t.0, k) ∷ []
kinds_said _ = []

-- whose priority an entry says
abbrev pub priorities_said : Did → List (ℕ × ℕ)
priorities_said (did.Submit t k p l) = (t.0, p) ∷ []
priorities_said _ = []

-- which tasks come to owe a second look, and which pay it
abbrev pub seconds : Did → List (ℕ × Bool)
seconds (did.Submit t k p l) = (t.0, false) ∷ []
seconds (did.Offer t offered.Queued) = (t.0, true) ∷ []
seconds (did.Offer t (offered.Hand w)) = (t.0, true) ∷ []
seconds (did.Second t s) = (t.0, false) ∷ []
seconds _ = []

-- which tasks an entry cancels
abbrev pub cancels : Did → List (ℕ × Bool)
cancels (did.Submit t k p l) = (t.0, false) ∷ []
cancels (did.Cancel t flag true) = (t.0, true) ∷ []
cancels _ = []

abbrev pub endings_ruled : ℕ → Ruled → List (ℕ × Option Fate)
endings_ruled t ruled.Rejected = (t, Some fate.Rejected) ∷ []
endings_ruled t ruled.Discarded = (t, Some fate.Discarded) ∷ []
endings_ruled t (ruled.RetryDrop u) = (u.0, Some fate.Discarded) ∷ []
endings_ruled t _ = []

-- the fates that an entry gives to the tasks that it names, unless they are cancelled
abbrev pub endings : Did → List (ℕ × Option Fate)
endings (did.Submit t k p l) = (t.0, None) ∷ []
endings (did.Verdict t v r) = endings_ruled t.0 r
endings (did.CallerEnd t o) = (t.0, Some fate.RunByCaller) ∷ []
endings (did.End w t o) = (t.0, Some fate.Run) ∷ []
endings (did.Remove t true) = (t.0, Some fate.Removed) ∷ []
endings _ = []

-- how the bodies that an entry ends ended
abbrev pub outcomes : Did → List (ℕ × Option Outcome)
outcomes (did.Submit t k p l) = (t.0, None) ∷ []
outcomes (did.CallerEnd t o) = (t.0, Some o) ∷ []
outcomes (did.End w t o) = (t.0, Some o) ∷ []
outcomes _ = []

-- an answer to a verdict that is a retry
abbrev pub is_retry : Ruled → Bool
is_retry ruled.Retry = true
is_retry (ruled.RetryDrop u) = true
is_retry _ = false

-- whose retries begin anew (false), and who retries (true)
abbrev pub tries : Did → List (ℕ × Bool)
tries (did.Submit t k p l) = (t.0, false) ∷ []
tries (did.Verdict t v r) = if is_retry r then (t.0, true) ∷ [] else []
tries _ = []

abbrev pub reserved_looked : Looked → Option ℕ
reserved_looked (looked.Reserve w) = Some w.0
reserved_looked _ = None

abbrev pub reserved_option : Option SlotId → Option ℕ
reserved_option None = None
reserved_option (Some w) = Some w.0

-- the slot that an entry reserves
abbrev pub reserves : Did → Option ℕ
reserves (did.Submit t k p l) = reserved_looked l
reserves (did.Look t l) = reserved_looked l
reserves (did.Second t (seconded.StayReserve w)) = Some w.0
reserves (did.Grow t (grown.Reserve w)) = Some w.0
reserves (did.Leave v o) = reserved_option o
reserves (did.Prestart o) = reserved_option o
reserves _ = None

-- the slot that an entry frees
abbrev pub frees : Did → Option ℕ
frees (did.Open w opened.GivenUp) = Some w.0
frees (did.Open w (opened.GivenUpRefuse t)) = Some w.0
frees (did.Fail w f) = Some w.0
frees (did.Take w took.Leave) = Some w.0
frees (did.Leave w o) = Some w.0
frees _ = None

abbrev pub one_said : {A : Type 0} → Option ℕ → A → List (ℕ × A)
one_said None a = []
one_said (Some x) a = (x, a) ∷ []

-- which numbers an entry makes slots, and which it frees. A `leave` may reserve the number that it frees
abbrev pub holds : Did → List (ℕ × Bool)
holds d = one_said (reserves d) true ++ one_said (frees d) false

-- the stage in which an entry leaves a slot that its look reserved
abbrev pub turned_looked : Looked → List (ℕ × Stage)
turned_looked l = one_said (reserved_looked l) stages.ReservedCore

-- the stages in which an entry leaves the slots that it names and does not free. `now` is the moment before it,
-- `dies` says that it ends a plain task with a fault
abbrev pub turned : ℕ → Bool → Did → List (ℕ × Stage)
turned now dies (did.Submit t k p l) = turned_looked l
turned now dies (did.Look t l) = turned_looked l
turned now dies (did.Offer t (offered.Hand w)) = (w.0, stages.Working) ∷ []
turned now dies (did.Second t (seconded.StayReserve w)) = (w.0, stages.ReservedBare) ∷ []
turned now dies (did.Grow t (grown.Reserve w)) = (w.0, stages.ReservedMaximum) ∷ []
turned now dies (did.Open w opened.Live) = (w.0, stages.Working) ∷ []
turned now dies (did.Take w (took.Held t)) = (w.0, stages.Working) ∷ []
turned now dies (did.Take w (took.Head t)) = (w.0, stages.Working) ∷ []
turned now dies (did.Take w took.Idle) = (w.0, stages.Idle now) ∷ []
turned now dies (did.Begin w b) = (w.0, stages.Working) ∷ []
turned now dies (did.End w t o) = (w.0, if dies then stages.Dying else stages.Working) ∷ []
turned now dies (did.Leave v o) = one_said (reserved_option o) stages.ReservedBare
turned now dies (did.Prestart o) = one_said (reserved_option o) stages.ReservedBare
turned now dies _ = []

abbrev pub seated_looked : TaskId → Looked → List (ℕ × Option TaskId)
seated_looked t l = one_said (reserved_looked l) (Some t)

abbrev pub seated_took : SlotId → Took → List (ℕ × Option TaskId)
seated_took w (took.Held t) = (w.0, Some t) ∷ []
seated_took w (took.Head t) = (w.0, Some t) ∷ []
seated_took w _ = (w.0, None) ∷ []

abbrev pub seated_started : SlotId → Started → List (ℕ × Option TaskId)
seated_started w (started.Run t) = (w.0, Some t) ∷ []
seated_started w (started.Skip t) = (w.0, None) ∷ []

-- the task that an entry leaves in the slots that it names, None where it leaves none
abbrev pub seated : Did → List (ℕ × Option TaskId)
seated (did.Submit t k p l) = seated_looked t l
seated (did.Look t l) = seated_looked t l
seated (did.Offer t (offered.Hand w)) = (w.0, Some t) ∷ []
seated (did.Second t (seconded.StayReserve w)) = (w.0, None) ∷ []
seated (did.Grow t (grown.Reserve w)) = (w.0, Some t) ∷ []
seated (did.Open w opened.Live) = []
seated (did.Open w _) = (w.0, None) ∷ []
seated (did.Fail w f) = (w.0, None) ∷ []
seated (did.Take w k) = seated_took w k
seated (did.Begin w b) = seated_started w b
seated (did.End w t o) = (w.0, None) ∷ []
seated (did.Leave v o) = one_said (reserved_option o) None ++ (v.0, None) ∷ []
seated (did.Prestart o) = one_said (reserved_option o) None
seated _ = []

-- the slot that an entry leaves idle
abbrev pub idles : Did → Option ℕ
idles (did.Take w took.Idle) = Some w.0
idles _ = None

-- the task that a worker's entry ends
abbrev pub ends : Did → Option ℕ
ends (did.End w t o) = Some t.0
ends _ = None

-- an entry that counts as completed: a body that a worker ends, a cancelled task that it skips
abbrev pub is_completion : Did → Bool
is_completion (did.End w t o) = true
is_completion (did.Begin w (started.Skip t)) = true
is_completion _ = false

abbrev pub is_group : Kind → Bool
is_group (kinds.Group g) = true
is_group _ = false

abbrev pub is_plain : Kind → Bool
is_plain kinds.Plain = true
is_plain _ = false

-- an entry that ends a plain task with a fault
abbrev pub is_plain_fault : Did → (ℕ → Kind) → Bool
is_plain_fault (did.End w t (Err c)) kind_of = is_plain (kind_of t.0)
is_plain_fault _ kind_of = false

abbrev pub completed_end : ℕ → (ℕ → Kind) → (ℕ → Bool) → Option ℕ
completed_end t kind_of cancelled_of = if is_group (kind_of t) && not (cancelled_of t) then Some t else None

-- the task of a group that an entry completes: by its cancel, or by its end where it is not cancelled
abbrev pub completes : Did → (ℕ → Kind) → (ℕ → Bool) → Option ℕ
completes (did.Cancel t flag true) kind_of cancelled_of = if is_group (kind_of t.0) then Some t.0 else None
completes (did.End w t o) kind_of cancelled_of = completed_end t.0 kind_of cancelled_of
completes (did.CallerEnd t o) kind_of cancelled_of = completed_end t.0 kind_of cancelled_of
completes _ kind_of cancelled_of = None

-- which completions an entry hands out
abbrev pub hands_out : Did → List (ℕ × Bool)
hands_out (did.Submit t k p l) = (t.0, false) ∷ []
hands_out (did.TakeDone g t) = (t.0, false) ∷ []
hands_out _ = []

-- the run state that an entry reaches
abbrev pub reaches : Did → ℕ
reaches did.Shutdown = 1
reaches (did.Stop n) = 2
reaches did.Tidy = 3
reaches did.Ended = 4
reaches _ = 0

-- what an entry sets
abbrev pub sets_core : Did → Option ℕ
sets_core (did.Core n k) = Some n
sets_core _ = None

abbrev pub sets_maximum : Did → Option ℕ
sets_maximum (did.Maximum n) = Some n
sets_maximum _ = None

abbrev pub sets_keep : Did → Option ℕ
sets_keep (did.Keep n) = Some n
sets_keep _ = None

abbrev pub sets_core_timeout : Did → Option Bool
sets_core_timeout (did.CoreTimeout on) = Some on
sets_core_timeout _ = None

abbrev pub sets_now : Did → Option ℕ
sets_now (did.Tick n) = Some n
sets_now _ = None
