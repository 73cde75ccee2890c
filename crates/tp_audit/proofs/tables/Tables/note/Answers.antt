use Rattle.std.proofs.Common.{sym, subst}
use Rattle.tp_audit.specs.Tables.{HasRanks}
use Rattle.tp_audit.proofs.tables.Tables.note.Goals as goal
use Rattle.tp_audit.proofs.tables.Tables.note.Goals.{then-is_wide, else-is_wide+in_ok-note_named}

pub returns-clause-ranks : goal.returns-clause-ranks
returns-clause-ranks c = elim c.if-is_wide.branch [
  | then-is_wide w ↦ subst HasRanks (sym w.self-is) (w.note_all.ensures.ranks c.requires.ranks)
  | else-is_wide+in_ok-note_named w ↦ subst HasRanks (sym w.self-is) w.note_named.ensures.ranks
]
