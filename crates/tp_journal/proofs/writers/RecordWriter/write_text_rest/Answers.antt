use Rattle.std.proofs.Common.{◌≡◌, ◌∙◌, ◌++◌, ◌-◌, ap, arith, drop, length, length-drop, subst, sym, take_all}
use Rattle.std.proofs.KnownBytes.{Appends-trans}
use Rattle.std.specs.Io.KnownBytes.{Appends}
use Rattle.tp_glance.proofs.Fronts.{IsFrontOf_trans}
use Rattle.tp_journal.specs.Journals.{text_to}
use Rattle.tp_journal.proofs.Fronts.{on_ok_two}
use Rattle.tp_journal.proofs.Written.{rest_of_text}
use Rattle.tp_journal.proofs.writers.RecordWriter.write_text_rest.Goals as goal

pub returns-in-Some-clause-whole : goal.returns-in-Some-clause-whole
returns-in-Some-clause-whole g c =
    let rest = c.in-Some.rest.now in
    let text = c.args.text.now in
    let from = c.args.self.now.bytes in
    let old = g.W.Write.contents c.args.self.now.writer in
    let new = g.W.Write.contents c.write.new.self.writer in
    let told : rest ≡ drop from text =
    c.in-Some.ensures.lookup.0.2 ∙ take_all (length text - from) (drop from text) (omega (arith, length-drop from text)) in
    on_ok_two c.write.result
    (λ written sound before c' known es kept goes_on is.
    let has = kept sound in
    let whole = ap (λ x. text_to c' has.entries ++ x) (told ∙ ap (drop from) is) ∙ rest_of_text c' has.entries es from has.has_written.long (IsFrontOf_trans has.front goes_on) ∙ sym is in
    subst (Appends before new) whole (Appends-trans before old new (text_to c' has.entries) rest has.has_written.written written))
    c.write.ensures.written c.write.ensures.sound
