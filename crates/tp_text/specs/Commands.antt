-- The words that a step begins with.
use Rattle.std.specs.Prelude.{◌≢◌, ℕ, List, codes}
use Rattle.tp_text.specs.declared.commands.TaskVerb.{TaskVerb}
use Rattle.tp_text.specs.declared.commands.TaskVerb.TheVariants as task
use Rattle.tp_text.specs.declared.commands.SlotVerb.{SlotVerb}
use Rattle.tp_text.specs.declared.commands.SlotVerb.TheVariants as slot
use Rattle.tp_text.specs.declared.commands.PoolVerb.{PoolVerb}
use Rattle.tp_text.specs.declared.commands.PoolVerb.TheVariants as pool
use Rattle.tp_text.specs.declared.commands.SizeVerb.{SizeVerb}
use Rattle.tp_text.specs.declared.commands.SizeVerb.TheVariants as size
use Rattle.tp_text.specs.declared.commands.TickVerb.{TickVerb}
use Rattle.tp_text.specs.declared.commands.TickVerb.TheVariants as ticks
use Rattle.tp_text.specs.declared.commands.Command.{Command}
use Rattle.tp_text.specs.declared.commands.Command.TheVariants as command

abbrev pub task_word : TaskVerb → List ℕ
task_word task.Look = codes "look"
task_word task.Offer = codes "offer"
task_word task.Second = codes "second"
task_word task.Grow = codes "grow"
task_word task.CallerEnd = codes "callerend"
task_word task.Remove = codes "remove"

abbrev pub slot_word : SlotVerb → List ℕ
slot_word slot.Open = codes "open"
slot_word slot.Fail = codes "fail"
slot_word slot.Take = codes "take"
slot_word slot.Begin = codes "begin"
slot_word slot.End = codes "end"
slot_word slot.Leave = codes "leave"

abbrev pub pool_word : PoolVerb → List ℕ
pool_word pool.Shutdown = codes "shutdown"
pool_word pool.Stop = codes "stop"
pool_word pool.Tidy = codes "tidy"
pool_word pool.Ended = codes "ended"
pool_word pool.Purge = codes "purge"
pool_word pool.Prestart = codes "prestart"

abbrev pub size_word : SizeVerb → List ℕ
size_word size.TakeDone = codes "takedone"
size_word size.Core = codes "core"
size_word size.Maximum = codes "max"

abbrev pub tick_word : TickVerb → List ℕ
tick_word ticks.Keep = codes "keep"
tick_word ticks.Tick = codes "tick"

abbrev pub command_word : Command → List ℕ
command_word command.Submit = codes "submit"
command_word (command.OfTask v) = task_word v
command_word command.Verdict = codes "verdict"
command_word (command.OfSlot v) = slot_word v
command_word (command.OfPool v) = pool_word v
command_word command.Cancel = codes "cancel"
command_word (command.OfSize v) = size_word v
command_word (command.OfTicks v) = tick_word v
command_word command.CoreTimeout = codes "coretimeout"

-- none of the four commands without a verb
pub record IsNoLoneCommand (word : List ℕ) : Type 0 where
  pub submit : word ≢ codes "submit"
  pub verdict : word ≢ codes "verdict"
  pub cancel : word ≢ codes "cancel"
  pub core_timeout : word ≢ codes "coretimeout"
