use Rattle.std.proofs.Common.{subst, sym, ◌∙◌}
use Rattle.tp_tasks.specs.Homes.{Notes}
use Rattle.tp_tasks.proofs.Noted.{notes_push, notes_none}
use Rattle.tp_tasks.proofs.table.note_row.Goals as goal

pub returns-then-is_purged-clause-noted : goal.returns-then-is_purged-clause-noted
returns-then-is_purged-clause-noted c = notes_push c.args.t c.args.noted.now.items c.push_reserved.new.self.items c.push_reserved.ensures.items _

pub returns-else-is_purged-clause-noted : goal.returns-else-is_purged-clause-noted
returns-else-is_purged-clause-noted c = subst (Notes c.args.noted.now.items c.args.noted.now.items c.args.t) (sym c.if-is_purged.false ∙ c.is_purged.ensures) (notes_none c.args.t c.args.noted.now.items)
