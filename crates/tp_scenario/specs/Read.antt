-- What a text says that was read.
use Rattle.std.specs.Prelude.{ℕ, Result, Ok, Err}
use Rattle.tp_scenario.specs.declared.texts.PoolText.{PoolText}
use Rattle.tp_scenario.specs.PoolText.{LinesSaid, TextSaid}

module _ {L : Type 0} where
  abbrev pub lines_said : PoolText L → LinesSaid L
  lines_said t = (t.lines.items, t.bad)

  abbrev pub said_by : Result (PoolText L) ℕ → TextSaid L
  said_by (Ok t) = Ok (t.pool, lines_said t)
  said_by (Err k) = Err k
