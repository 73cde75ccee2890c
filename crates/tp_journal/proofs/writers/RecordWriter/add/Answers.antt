use Rattle.std.proofs.Common.{◌≡◌, ◌+◌, ◌∙◌, length, rules, suc, subst}
use Rattle.std.specs.Io.KnownBytes.{Appends}
use Rattle.std.specs.List.{flat_map}
use Rattle.tp_text.specs.Lines.{ended}
use Rattle.tp_text_record.specs.RecordText.{entry_texts}
use Rattle.tp_journal.proofs.Written.{more_written}
use Rattle.tp_journal.proofs.writers.RecordWriter.add.Goals as goal

pub returns-in-Ok-write-clause-added : goal.returns-in-Ok-write-clause-added
returns-in-Ok-write-clause-added g c before c' es has =
    let old = g.W.Write.contents c.args.self.now.writer in
    let new = g.W.Write.contents c.write.new.self.writer in
    let counted : c.in-Some.count ≡ c.args.self.now.entries + length c.args.entries.now = search rules in
    let text = c.in-Ok.ensures.text in
    let long : c.in-Some-checked_add.bytes ≡ c.args.self.now.bytes + length (flat_map ended (entry_texts (suc c.args.self.now.entries) c.args.entries.now)) = search (rules, text) in
    more_written g.W.Write.contents before c' es c.args.entries.now c.args.self.now _ has
    (subst (Appends old new) (c.as_slice.ensures.value ∙ text) c.in-Ok-write.ensures.written) counted long
