use Rattle.std.proofs.Common.{◌∙◌, subst}
use Rattle.std.proofs.lemmas.Result.{on_ok_weaker}
use Rattle.std.specs.Io.KnownBytes.{Appends}
use Rattle.tp_journal.proofs.Written.{whole_written}
use Rattle.tp_journal.proofs.writers.RecordWriter.end.Goals as goal

pub returns-clause-whole : goal.returns-clause-whole
returns-clause-whole g c =
    let old = g.W.Write.contents c.args.self.now.writer in
    let new = g.W.Write.contents c.write.new.self.writer in
    on_ok_weaker c.write.result
    (λ written before c' es has. whole_written g.W.Write.contents before new c' es c.args.self.now has
    (subst (Appends old new) (c.as_slice.ensures.value ∙ c.in-Ok.ensures.text) written))
    c.write.ensures.written
