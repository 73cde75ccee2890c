-- Where a refusal is Step's own for certain.
use Rattle.std.specs.Prelude.{Bool, true, is_none, if◌then◌else◌}
use Rattle.tp_record.specs.declared.entries.Ask.{Ask}
use Rattle.tp_record.specs.Left.{asked}

-- no task that this ask names was forgotten: it names none, or the record is kept
abbrev pub none_forgotten : Bool → Ask → Bool
none_forgotten keeps a = if is_none (asked a) then true else keeps
