-- What submissions and retries owe.
use Rattle.std.specs.Prelude.{ℕ}
use Rattle.tp_record.specs.declared.entries.Looked.{Looked}
use Rattle.tp_record.specs.declared.entries.Looked.TheVariants as looked
use Rattle.tp_record.specs.declared.entries.Ruled.{Ruled}
use Rattle.tp_record.specs.declared.entries.Ruled.TheVariants as ruled

-- how many more entries are owed after a submission with this look: for the task where it is put and, held in a slot, for that slot
abbrev pub rise_of : Looked → ℕ
rise_of (looked.Reserve w) = 12
rise_of looked.Queue = 11
rise_of looked.Refuse = 2

-- how many more entries are owed after this retry: for the task, less what the dropped head owed
abbrev pub retry_rise : Ruled → ℕ
retry_rise (ruled.RetryDrop u) = 5
retry_rise _ = 11
