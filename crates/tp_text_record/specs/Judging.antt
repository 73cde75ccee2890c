-- What a judging was told.
use Rattle.std.specs.Prelude.{ℕ, List, reverse, Option, Some, None}
use Rattle.tp_record.specs.declared.entries.Entry.{Entry}
use Rattle.tp_audit_plain.specs.Audit.{IsFirstFlaw}
use Rattle.tp_audit.specs.Audited.{Judge, settings, Judged}

-- these entries, oldest first, were told: each is given, or this is the number of the first that is not
abbrev pub IsToldBy : Judge → Option ℕ → List Entry → Type 0
IsToldBy a None es = Judged a (reverse es)
IsToldBy a (Some n) es = IsFirstFlaw (settings a) es n
