use Rattle.std.proofs.Common.{◌∙◌, ap, length, subst}
use Rattle.std.specs.Io.KnownBytes.{Appends}
use Rattle.tp_journal.proofs.Written.{head_is, head_written}
use Rattle.tp_journal.proofs.writers.RecordWriter.begin.Goals as goal

pub returns-in-Ok-clause-begun : goal.returns-in-Ok-clause-begun
returns-in-Ok-clause-begun g c c' is =
    let old = g.W.Write.contents c.args.self.now.writer in
    let new = g.W.Write.contents c.write.new.self.writer in
    record {
      counted = c.write.ensures.same.0 ∙ c.requires.none;
      long = ap length (is ∙ head_is c');
      written = head_written g.W.Write.contents old new c' (subst (Appends old new) is c.in-Ok.ensures.written);
    }
