-- Which steps change what they find who wait until a submission finds room.
use Rattle.std.specs.Prelude.{true, ⊤}
use Rattle.tp_record.specs.declared.entries.Did.{Did}
use Rattle.tp_record.specs.declared.entries.Did.TheVariants as did
use Rattle.tp_record.specs.declared.entries.Opened.TheVariants as opened
use Rattle.tp_record.specs.declared.entries.Ruled.TheVariants as ruled
use Rattle.tp_record.specs.declared.entries.Took.TheVariants as took

-- a place in the queue or a slot may be free, a worker idle or more slots allowed; or the pool runs no more
abbrev pub ChangesRoom : Did → Type 0
ChangesRoom (did.Take w (took.Head t)) = ⊤
ChangesRoom (did.Take w took.Idle) = ⊤
ChangesRoom (did.Take w took.Leave) = ⊤
ChangesRoom (did.Fail w f) = ⊤
ChangesRoom (did.Open w opened.GivenUp) = ⊤
ChangesRoom (did.Open w (opened.GivenUpRefuse t)) = ⊤
ChangesRoom (did.Leave w heir) = ⊤
ChangesRoom (did.Remove t true) = ⊤
ChangesRoom (did.Purge n) = ⊤
ChangesRoom (did.Verdict t v (ruled.RetryDrop head)) = ⊤
ChangesRoom (did.Maximum n) = ⊤
ChangesRoom did.Shutdown = ⊤
ChangesRoom (did.Stop n) = ⊤
ChangesRoom _ = ⊥
