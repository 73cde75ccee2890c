-- What comes of a scenario's text and of a record's, as `poolrun steps` and `poolrun audit` write it.
use Rattle.std.specs.Prelude.{◌≡◌, ◌⊎◌, ℕ, ◌≤◌, ◌<◌, Bool, List, [], ◌++◌, length, Result, Ok, Err}
use Rattle.tp_types.specs.declared.refusals.PoolError.{PoolError}
use Rattle.tp_types.specs.declared.refusals.PoolError.TheVariants.{ReadFailed}
use Rattle.tp_text.specs.EndLines.{refusal_line}
use Rattle.tp_text_record.specs.ReadRecord.{IsRefusedText}
use Rattle.tp_text_record.specs.AuditText.{IsJudgedText}
use Rattle.tp_scenario.specs.Played.{IsPlayed}

-- a text that is too long is refused, and else its scenario is played: these lines are written, and behind them that of the refusal
-- which ended the run, where one did
abbrev pub Plays : List ℕ → List ℕ → Result (Unit {0}) PoolError → Type 0
Plays text out (Ok u) = (length text ≤ 1048576) × IsPlayed text out (Ok u)
Plays text out (Err e) = (lines : List ℕ) × (out ≡ lines ++ refusal_line e)
    × (((length text ≤ 1048576) × IsPlayed text lines (Err e)) ⊎ ((1048576 < length text) × (lines ≡ []) × (e ≡ ReadFailed)))

-- a text that is too long is refused, and else its record is judged, or refused with a line that says so
abbrev pub Audits : List ℕ → List ℕ → Result Bool PoolError → Type 0
Audits text out (Ok legal) = (length text ≤ 1048576) × IsJudgedText text legal out
Audits text out (Err e) = (out ≡ refusal_line e)
    × (((length text ≤ 1048576) × IsRefusedText text e) ⊎ ((1048576 < length text) × (e ≡ ReadFailed)))
