-- The words of each entry of a record, and its line.
use Rattle.std.specs.Prelude.{ℕ, ◌==◌, Bool, true, false, List, [], ◌∷◌, ◌++◌, Option, Some, None, Ok, Err, codes, if◌then◌else◌}
use Rattle.std.specs.List.{flat_map, join_with_byte}
use Rattle.std.specs.Fmt.{decimal, signed_decimal}
use Rattle.tp_types.specs.declared.ids.SlotId.{SlotId}
use Rattle.tp_types.specs.declared.ids.TaskId.{TaskId}
use Rattle.tp_types.specs.declared.tasks.Kind.{Kind}
use Rattle.tp_types.specs.declared.tasks.Kind.TheVariants as kinds
use Rattle.tp_types.specs.Verdict.{verdict_name}
use Rattle.tp_record.specs.declared.entries.Did.{Did}
use Rattle.tp_record.specs.declared.entries.Did.TheVariants as did
use Rattle.tp_record.specs.declared.entries.Entry.{Entry}
use Rattle.tp_record.specs.declared.entries.Failed.{Failed}
use Rattle.tp_record.specs.declared.entries.Failed.TheVariants as failed
use Rattle.tp_record.specs.declared.entries.Grown.{Grown}
use Rattle.tp_record.specs.declared.entries.Grown.TheVariants as grown
use Rattle.tp_record.specs.declared.entries.Looked.{Looked}
use Rattle.tp_record.specs.declared.entries.Looked.TheVariants as looked
use Rattle.tp_record.specs.declared.entries.Offered.{Offered}
use Rattle.tp_record.specs.declared.entries.Offered.TheVariants as offered
use Rattle.tp_record.specs.declared.entries.Opened.{Opened}
use Rattle.tp_record.specs.declared.entries.Opened.TheVariants as opened
use Rattle.tp_record.specs.declared.entries.Ruled.{Ruled}
use Rattle.tp_record.specs.declared.entries.Ruled.TheVariants as ruled
use Rattle.tp_record.specs.declared.entries.Seconded.{Seconded}
use Rattle.tp_record.specs.declared.entries.Seconded.TheVariants as seconded
use Rattle.tp_record.specs.declared.entries.Started.{Started}
use Rattle.tp_record.specs.declared.entries.Started.TheVariants as started
use Rattle.tp_record.specs.declared.entries.Took.{Took}
use Rattle.tp_record.specs.declared.entries.Took.TheVariants as took
use Rattle.tp_record.specs.Effects.{Outcome}
use Rattle.tp_text.specs.declared.commands.Command.{Command}
use Rattle.tp_text.specs.declared.commands.Command.TheVariants as command
use Rattle.tp_text.specs.declared.commands.TaskVerb.TheVariants as task
use Rattle.tp_text.specs.declared.commands.SlotVerb.TheVariants as slot
use Rattle.tp_text.specs.declared.commands.PoolVerb.TheVariants as pool
use Rattle.tp_text.specs.declared.commands.SizeVerb.TheVariants as size
use Rattle.tp_text.specs.declared.commands.TickVerb.TheVariants as ticks
use Rattle.tp_text.specs.Commands.{command_word}

-- the words, with a space between each two
abbrev pub words : List (List ℕ) → List ℕ
words ws = join_with_byte 32 ws

-- the line of these words, with a line feed at its end
abbrev pub line : List (List ℕ) → List ℕ
line [] = 10 ∷ []
line (w ∷ []) = w ++ 10 ∷ []
line (w ∷ v ∷ ws) = w ++ (32 ∷ line (v ∷ ws))

-- the words, each behind a space
abbrev pub behind : List (List ℕ) → List ℕ
behind ws = flat_map (λ w. 32 ∷ w) ws

abbrev pub task_name : TaskId → List ℕ
task_name t = codes "t" ++ decimal t.0

abbrev pub slot_name : SlotId → List ℕ
slot_name w = codes "w" ++ decimal w.0

abbrev pub pass_name : ℕ → List ℕ
pass_name by = codes "p" ++ decimal by

abbrev pub effect_word : Bool → List ℕ
effect_word true = codes "yes"
effect_word false = codes "no"

abbrev pub switch_word : Bool → List ℕ
switch_word true = codes "on"
switch_word false = codes "off"

abbrev pub kind_words : Kind → List (List ℕ)
kind_words kinds.Plain = codes "plain" ∷ []
kind_words kinds.Future = codes "future" ∷ []
kind_words (kinds.Group g) = codes "group" ∷ decimal g ∷ []

-- the text of a kind
abbrev pub kind_text : Kind → List ℕ
kind_text k = words (kind_words k)

-- the priority, where it isn't 0
abbrev pub priority_words : ℕ → List (List ℕ)
priority_words p = if p == 0 then [] else codes "prio" ∷ decimal p ∷ []

abbrev pub outcome_words : Outcome → List (List ℕ)
outcome_words (Ok v) = codes "value" ∷ signed_decimal v ∷ []
outcome_words (Err code) = codes "fault" ∷ decimal code ∷ []

abbrev pub looked_words : Looked → List (List ℕ)
looked_words (looked.Reserve w) = codes "reserve" ∷ slot_name w ∷ []
looked_words looked.Queue = codes "queue" ∷ []
looked_words looked.Refuse = codes "refuse" ∷ []

abbrev pub offered_words : Offered → List (List ℕ)
offered_words offered.Queued = codes "queued" ∷ []
offered_words (offered.Hand w) = codes "hand" ∷ slot_name w ∷ []
offered_words offered.Full = codes "full" ∷ []

-- the slot that is reserved besides, if one is
abbrev pub reserved_words : Option SlotId → List (List ℕ)
reserved_words None = []
reserved_words (Some w) = codes "reserve" ∷ slot_name w ∷ []

abbrev pub seconded_words : Seconded → List (List ℕ)
seconded_words seconded.Stay = codes "stay" ∷ []
seconded_words (seconded.StayReserve w) = codes "stay" ∷ codes "reserve" ∷ slot_name w ∷ []
seconded_words seconded.Back = codes "back" ∷ []

abbrev pub grown_words : Grown → List (List ℕ)
grown_words (grown.Reserve w) = codes "reserve" ∷ slot_name w ∷ []
grown_words grown.Refuse = codes "refuse" ∷ []

-- the queue's head that a retry drops
abbrev pub dropped_words : Option TaskId → List (List ℕ)
dropped_words None = []
dropped_words (Some t) = codes "drop" ∷ task_name t ∷ []

abbrev pub ruled_words : Ruled → List (List ℕ)
ruled_words ruled.Rejected = codes "rejected" ∷ []
ruled_words ruled.Caller = codes "caller" ∷ []
ruled_words ruled.Skip = codes "skip" ∷ []
ruled_words ruled.Discarded = codes "discarded" ∷ []
ruled_words ruled.Retry = codes "retry" ∷ []
ruled_words (ruled.RetryDrop t) = codes "retry" ∷ codes "drop" ∷ task_name t ∷ []

-- the first task of a slot that is given up
abbrev pub refused_words : Option TaskId → List (List ℕ)
refused_words None = []
refused_words (Some t) = task_name t ∷ codes "refuse" ∷ []

abbrev pub opened_words : Opened → List (List ℕ)
opened_words opened.Live = codes "live" ∷ []
opened_words opened.GivenUp = codes "givenup" ∷ []
opened_words (opened.GivenUpRefuse t) = codes "givenup" ∷ task_name t ∷ codes "refuse" ∷ []

abbrev pub failed_words : Failed → List (List ℕ)
failed_words failed.Nothing = codes "none" ∷ []
failed_words (failed.Offer t) = task_name t ∷ codes "offer" ∷ []
failed_words (failed.Refuse t) = task_name t ∷ codes "refuse" ∷ []

abbrev pub took_words : Took → List (List ℕ)
took_words (took.Held t) = codes "held" ∷ task_name t ∷ []
took_words (took.Head t) = codes "head" ∷ task_name t ∷ []
took_words took.Leave = codes "leave" ∷ []
took_words took.Idle = codes "idle" ∷ []

abbrev pub started_words : Started → List (List ℕ)
started_words (started.Run t) = task_name t ∷ []
started_words (started.Skip t) = codes "skip" ∷ task_name t ∷ []

abbrev pub prestart_words : Option SlotId → List (List ℕ)
prestart_words None = codes "none" ∷ []
prestart_words (Some w) = codes "reserve" ∷ slot_name w ∷ []

abbrev pub flag_words : Bool → Bool → List (List ℕ)
flag_words true effect = codes "flag" ∷ effect_word effect ∷ []
flag_words false effect = effect_word effect ∷ []

-- the word that an answer begins with
abbrev pub command_of : Did → Command
command_of (did.Submit t k p l) = command.Submit
command_of (did.Look t l) = command.OfTask task.Look
command_of (did.Offer t o) = command.OfTask task.Offer
command_of (did.Second t s) = command.OfTask task.Second
command_of (did.Grow t g) = command.OfTask task.Grow
command_of (did.Verdict t v r) = command.Verdict
command_of (did.CallerEnd t o) = command.OfTask task.CallerEnd
command_of (did.Open w o) = command.OfSlot slot.Open
command_of (did.Fail w f) = command.OfSlot slot.Fail
command_of (did.Take w k) = command.OfSlot slot.Take
command_of (did.Begin w s) = command.OfSlot slot.Begin
command_of (did.End w t o) = command.OfSlot slot.End
command_of (did.Leave w o) = command.OfSlot slot.Leave
command_of did.Shutdown = command.OfPool pool.Shutdown
command_of (did.Stop n) = command.OfPool pool.Stop
command_of did.Tidy = command.OfPool pool.Tidy
command_of did.Ended = command.OfPool pool.Ended
command_of (did.Remove t effect) = command.OfTask task.Remove
command_of (did.Purge n) = command.OfPool pool.Purge
command_of (did.Cancel t flag effect) = command.Cancel
command_of (did.TakeDone g t) = command.OfSize size.TakeDone
command_of (did.Core n k) = command.OfSize size.Core
command_of (did.Maximum n) = command.OfSize size.Maximum
command_of (did.Keep n) = command.OfTicks ticks.Keep
command_of (did.CoreTimeout on) = command.CoreTimeout
command_of (did.Tick n) = command.OfTicks ticks.Tick
command_of (did.Prestart o) = command.OfPool pool.Prestart

-- the words behind that word
abbrev pub argument_words : Did → List (List ℕ)
argument_words (did.Submit t k p l) = task_name t ∷ (kind_words k ++ (priority_words p ++ looked_words l))
argument_words (did.Look t l) = task_name t ∷ looked_words l
argument_words (did.Offer t o) = task_name t ∷ offered_words o
argument_words (did.Second t s) = task_name t ∷ seconded_words s
argument_words (did.Grow t g) = task_name t ∷ grown_words g
argument_words (did.Verdict t v r) = task_name t ∷ verdict_name v ∷ ruled_words r
argument_words (did.CallerEnd t o) = task_name t ∷ outcome_words o
argument_words (did.Open w o) = slot_name w ∷ opened_words o
argument_words (did.Fail w f) = slot_name w ∷ failed_words f
argument_words (did.Take w k) = slot_name w ∷ took_words k
argument_words (did.Begin w s) = slot_name w ∷ started_words s
argument_words (did.End w t o) = slot_name w ∷ task_name t ∷ outcome_words o
argument_words (did.Leave w o) = slot_name w ∷ reserved_words o
argument_words did.Shutdown = []
argument_words (did.Stop n) = codes "drained" ∷ decimal n ∷ []
argument_words did.Tidy = []
argument_words did.Ended = []
argument_words (did.Remove t effect) = task_name t ∷ effect_word effect ∷ []
argument_words (did.Purge n) = decimal n ∷ []
argument_words (did.Cancel t flag effect) = task_name t ∷ flag_words flag effect
argument_words (did.TakeDone g t) = decimal g ∷ task_name t ∷ []
argument_words (did.Core n k) = decimal n ∷ codes "add" ∷ decimal k ∷ []
argument_words (did.Maximum n) = decimal n ∷ []
argument_words (did.Keep n) = decimal n ∷ []
argument_words (did.CoreTimeout on) = switch_word on ∷ []
argument_words (did.Tick n) = decimal n ∷ []
argument_words (did.Prestart o) = prestart_words o

-- what was done
abbrev pub did_words : Did → List (List ℕ)
did_words d = command_word (command_of d) ∷ argument_words d

-- the pass, where it isn't 0
abbrev pub pass_words : ℕ → List (List ℕ)
pass_words by = if by == 0 then [] else pass_name by ∷ []

-- the line of entry n
abbrev pub entry_words : ℕ → Entry → List (List ℕ)
entry_words n e = decimal n ∷ (pass_words e.by ++ did_words e.did)

-- the line of entry n: its number, the pass where it isn't 0, and what was done
abbrev pub entry_line : ℕ → Entry → List ℕ
entry_line n e = line (entry_words n e)
