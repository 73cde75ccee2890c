-- An entry that may be there, as a list.
use Rattle.std.specs.Prelude.{◌∷◌, List, [], Option, Some, None}
use Rattle.tp_record.specs.declared.entries.Entry.{Entry}

abbrev pub listed : Option Entry → List Entry
listed None = []
listed (Some e) = e ∷ []
