-- The entries that have a line: their numbers are in the range of their types, and each answer is of the form of its ask.
use Rattle.std.specs.Prelude.{◌≡◌, ◌≢◌, ℕ, List, Option, Some, None}
use Rattle.tp_types.specs.declared.ids.SlotId.{SlotId}
use Rattle.tp_types.specs.declared.ids.TaskId.{TaskId}
use Rattle.tp_record.specs.Asked.{asked}
use Rattle.tp_record.specs.declared.entries.Did.{Did}
use Rattle.tp_record.specs.declared.entries.Did.TheVariants as did
use Rattle.tp_record.specs.declared.entries.Entry.{Entry}
use Rattle.tp_record.specs.declared.entries.Failed.{Failed}
use Rattle.tp_record.specs.declared.entries.Failed.TheVariants as failed
use Rattle.tp_record.specs.declared.entries.Grown.{Grown}
use Rattle.tp_record.specs.declared.entries.Grown.TheVariants as grown
use Rattle.tp_record.specs.declared.entries.Looked.{Looked}
use Rattle.tp_record.specs.declared.entries.Looked.TheVariants as looked
use Rattle.tp_record.specs.declared.entries.Offered.{Offered}
use Rattle.tp_record.specs.declared.entries.Offered.TheVariants as offered
use Rattle.tp_record.specs.declared.entries.Opened.{Opened}
use Rattle.tp_record.specs.declared.entries.Opened.TheVariants as opened
use Rattle.tp_record.specs.declared.entries.Ruled.{Ruled}
use Rattle.tp_record.specs.declared.entries.Ruled.TheVariants as ruled
use Rattle.tp_record.specs.declared.entries.Seconded.{Seconded}
use Rattle.tp_record.specs.declared.entries.Seconded.TheVariants as seconded
use Rattle.tp_record.specs.declared.entries.Started.{Started}
use Rattle.tp_record.specs.declared.entries.Started.TheVariants as started
use Rattle.tp_record.specs.declared.entries.Took.{Took}
use Rattle.tp_record.specs.declared.entries.Took.TheVariants as took
use Rattle.tp_text.specs.declared.commands.Command.{Command}
use Rattle.tp_text.specs.EntryLine.{argument_words, command_of}
use Rattle.tp_text.specs.Fits.{Fits32, Fits64, FitsKind, FitsOutcome}
use Rattle.tp_text_record.specs.declared.versions.Version.{Version}
use Rattle.tp_text_record.specs.declared.versions.Version.TheVariants as version

abbrev pub FitsTask : TaskId → Type 0
FitsTask t = Fits32 t.0

abbrev pub FitsSlot : SlotId → Type 0
FitsSlot w = Fits64 w.0

abbrev pub FitsLooked : Looked → Type 0
FitsLooked (looked.Reserve w) = FitsSlot w
FitsLooked looked.Queue = Unit {0}
FitsLooked looked.Refuse = Unit {0}

abbrev pub FitsOffered : Offered → Type 0
FitsOffered offered.Queued = Unit {0}
FitsOffered (offered.Hand w) = FitsSlot w
FitsOffered offered.Full = Unit {0}

abbrev pub FitsSeconded : Seconded → Type 0
FitsSeconded seconded.Stay = Unit {0}
FitsSeconded (seconded.StayReserve w) = FitsSlot w
FitsSeconded seconded.Back = Unit {0}

abbrev pub FitsGrown : Grown → Type 0
FitsGrown (grown.Reserve w) = FitsSlot w
FitsGrown grown.Refuse = Unit {0}

abbrev pub FitsRuled : Ruled → Type 0
FitsRuled ruled.Rejected = Unit {0}
FitsRuled ruled.Caller = Unit {0}
FitsRuled ruled.Skip = Unit {0}
FitsRuled ruled.Discarded = Unit {0}
FitsRuled ruled.Retry = Unit {0}
FitsRuled (ruled.RetryDrop t) = FitsTask t

abbrev pub FitsTold : Option TaskId → Type 0
FitsTold None = Unit {0}
FitsTold (Some t) = FitsTask t

abbrev pub FitsOpened : Opened → Type 0
FitsOpened opened.Live = Unit {0}
FitsOpened opened.GivenUp = Unit {0}
FitsOpened (opened.GivenUpRefuse t) = FitsTask t

abbrev pub FitsFailed : Failed → Type 0
FitsFailed failed.Nothing = Unit {0}
FitsFailed (failed.Offer t) = FitsTask t
FitsFailed (failed.Refuse t) = FitsTask t

-- the slot had a first task
abbrev pub HasTask : Failed → Type 0
HasTask failed.Nothing = ⊥
HasTask (failed.Offer t) = Unit {0}
HasTask (failed.Refuse t) = Unit {0}

abbrev pub FitsTook : Took → Type 0
FitsTook (took.Held t) = FitsTask t
FitsTook (took.Head t) = FitsTask t
FitsTook took.Leave = Unit {0}
FitsTook took.Idle = Unit {0}

abbrev pub FitsStarted : Started → Type 0
FitsStarted (started.Run t) = FitsTask t
FitsStarted (started.Skip t) = FitsTask t

abbrev pub FitsReserved : Option SlotId → Type 0
FitsReserved None = Unit {0}
FitsReserved (Some w) = FitsSlot w

abbrev pub FitsDid : Did → Type 0
FitsDid (did.Submit t k p l) = FitsTask t × FitsKind k × Fits32 p × FitsLooked l
FitsDid (did.Look t l) = FitsTask t × FitsLooked l
FitsDid (did.Offer t o) = FitsTask t × FitsOffered o
FitsDid (did.Second t s) = FitsTask t × FitsSeconded s
FitsDid (did.Grow t g) = FitsTask t × FitsGrown g
FitsDid (did.Verdict t v r) = FitsTask t × FitsRuled r
FitsDid (did.CallerEnd t o) = FitsTask t × FitsOutcome o
FitsDid (did.Open w o) = FitsSlot w × FitsOpened o
FitsDid (did.Fail w f) = FitsSlot w × FitsFailed f
FitsDid (did.Take w k) = FitsSlot w × FitsTook k
FitsDid (did.Begin w s) = FitsSlot w × FitsStarted s
FitsDid (did.End w t o) = FitsSlot w × FitsTask t × FitsOutcome o
FitsDid (did.Leave w o) = FitsSlot w × FitsReserved o
FitsDid did.Shutdown = Unit {0}
FitsDid (did.Stop n) = Fits32 n
FitsDid did.Tidy = Unit {0}
FitsDid did.Ended = Unit {0}
FitsDid (did.Remove t effect) = FitsTask t
FitsDid (did.Purge n) = Fits32 n
FitsDid (did.Cancel t flag effect) = FitsTask t
FitsDid (did.TakeDone g t) = Fits32 g × FitsTask t
FitsDid (did.Core n k) = Fits32 n × Fits32 k
FitsDid (did.Maximum n) = Fits32 n
FitsDid (did.Keep n) = Fits64 n
FitsDid (did.CoreTimeout on) = Unit {0}
FitsDid (did.Tick n) = Fits64 n
FitsDid (did.Prestart o) = FitsReserved o

-- a pass that is written: any but 0
abbrev pub FitsPass : ℕ → Type 0
FitsPass by = Fits32 by × (by ≢ 0)

-- a priority that is written: any but 0
abbrev pub FitsPriority : ℕ → Type 0
FitsPriority p = Fits32 p × (p ≢ 0)

-- the numbers of an entry are in the range of their types
abbrev pub IsInRange : Entry → Type 0
IsInRange e = Fits32 e.by × FitsDid e.did

-- an entry that has a line: in the range of its types, its answer of the form of its ask
abbrev pub HasLine : Entry → Type 0
HasLine e = Fits32 e.by × FitsDid e.did × (e.ask ≡ asked e.did)

-- the priority that an answer says, or 0
abbrev pub stated_priority : Did → ℕ
stated_priority (did.Submit t k p l) = p
stated_priority _ = 0

-- the first form says no priority
abbrev pub Suits : Version → Did → Type 0
Suits version.One d = stated_priority d ≡ 0
Suits version.Two d = Unit {0}

-- an entry that has a line in this form
abbrev pub IsStep : Version → Entry → Type 0
IsStep v e = HasLine e × Suits v e.did

-- the words behind a command are read just where they are the arguments of an answer with it
abbrev pub ReadsDid : Command → List (List ℕ) → Option Did → Type 0
ReadsDid c ws (Some d) = FitsDid d × (command_of d ≡ c) × (ws ≡ argument_words d)
ReadsDid c ws None = (d : Did) → FitsDid d → command_of d ≡ c → ws ≢ argument_words d
