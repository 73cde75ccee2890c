-- What a pass may ask that is no caller's: the steps of workers, and those that are left to whoever finds them undone. So a thread
-- that ends does what is left and no more. Without this a thread that stops the pool as it ends would be proved.
use Rattle.std.specs.Prelude.{⊤}
use Rattle.tp_record.specs.declared.entries.Ask.{Ask}
use Rattle.tp_record.specs.declared.entries.Ask.TheVariants as ask

abbrev pub IsOfStaff : Ask → Type 0
IsOfStaff (ask.Open w) = ⊤
IsOfStaff (ask.Fail w) = ⊤
IsOfStaff (ask.Take w) = ⊤
IsOfStaff (ask.Begin w) = ⊤
IsOfStaff (ask.End w o) = ⊤
IsOfStaff (ask.Leave w) = ⊤
IsOfStaff ask.Tidy = ⊤
IsOfStaff ask.Ended = ⊤
IsOfStaff ask.Prestart = ⊤
IsOfStaff _ = ⊥
