-- What the text of a scenario says: a pool, steps, and the first bad line, if there is one.
use Rattle.std.specs.Prelude.{ℕ, List}
use Rattle.tp_scenario.specs.declared.lines.ScenarioLine.{ScenarioLine}
use Rattle.tp_scenario.specs.Lines.{FitsLine, line_text}
use Rattle.tp_scenario.specs.PoolText.{IsPoolText, LinesSaid, TextSaid}

-- the steps that lines ask for in order, up to the first bad line, and the number of that line, if there is one
abbrev pub Asked : Type 0
Asked = LinesSaid ScenarioLine

-- its pool and what its lines ask for, or the bad line before any pool line
abbrev pub Said : Type 0
Said = TextSaid ScenarioLine

-- the text of a scenario says this; lines count from 1
abbrev pub IsScenario : List ℕ → Said → Type 0
IsScenario text s = IsPoolText line_text FitsLine text s
