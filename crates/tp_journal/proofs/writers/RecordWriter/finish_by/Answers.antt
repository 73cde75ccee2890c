use Rattle.std.proofs.Common.{sym, subst}
use Rattle.std.specs.Io.KnownBytes.{Appends}
use Rattle.tp_journal.proofs.writers.RecordWriter.finish_by.Goals as goal

pub returns-in-Ok-clause-whole : goal.returns-in-Ok-clause-whole
returns-in-Ok-clause-whole g c before c' known es kept goes_on is =
    subst (λ w. Appends before (g.W.Write.contents w) c.args.text.now) (sym c.into_writer.ensures) (c.in-Ok.ensures.whole before c' known es kept goes_on is)
