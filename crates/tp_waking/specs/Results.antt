-- Which steps change what they find who wait for a future.
use Rattle.std.specs.Prelude.{true, ⊤}
use Rattle.tp_record.specs.declared.entries.Did.{Did}
use Rattle.tp_record.specs.declared.entries.Did.TheVariants as did
use Rattle.tp_record.specs.declared.entries.Ruled.TheVariants as ruled

-- a task may have come to its fate: it ended, was cancelled, or left its queue or its submitter without running; and a tick may bring a deadline
abbrev pub ChangesResults : Did → Type 0
ChangesResults (did.Tick n) = ⊤
ChangesResults (did.End w t o) = ⊤
ChangesResults (did.CallerEnd t o) = ⊤
ChangesResults (did.Cancel t flag true) = ⊤
ChangesResults (did.Remove t true) = ⊤
ChangesResults (did.Stop n) = ⊤
ChangesResults (did.Verdict t v ruled.Rejected) = ⊤
ChangesResults (did.Verdict t v ruled.Discarded) = ⊤
ChangesResults (did.Verdict t v (ruled.RetryDrop head)) = ⊤
ChangesResults _ = ⊥
