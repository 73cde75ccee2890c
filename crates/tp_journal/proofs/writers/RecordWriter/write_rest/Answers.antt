use Rattle.std.proofs.Common.{◌≡◌, ◌∙◌, ◌++◌, ◌-◌, arith, drop, length, length-drop, subst, take_all}
use Rattle.std.proofs.lemmas.Result.{on_ok_weaker}
use Rattle.std.specs.Io.KnownBytes.{Appends}
use Rattle.tp_text_record.specs.declared.versions.Version.TheVariants as version
use Rattle.tp_text_record.specs.RecordText.{record_text}
use Rattle.tp_journal.proofs.Fronts.{missing}
use Rattle.tp_journal.proofs.writers.RecordWriter.write_rest.Goals as goal

pub returns-in-Ok-add-clause-whole : goal.returns-in-Ok-add-clause-whole
returns-in-Ok-add-clause-whole g c =
    let rest = c.as_slice.result.now in
    let whole = c.args.entries.now in
    let from = c.args.self.now.entries in
    let told : rest ≡ drop from whole =
    c.as_slice.ensures.value ∙ c.in-Ok.ensures ∙ c.in-Some.ensures.lookup.0.2 ∙ take_all (length whole - from) (drop from whole) (omega (arith, length-drop from whole)) in
    on_ok_weaker c.end.result
    (λ written before c' known kept goes_on.
    let has = kept c.in-Ok-add.ensures.sound in
    subst (λ es. Appends before (g.W.Write.contents c.end.new.self.writer) (record_text version.Two c' es))
    (missing has.entries rest known whole from told has.has_written.counted has.front goes_on)
    (written before c' (has.entries ++ rest) (c.in-Ok-add.ensures.added before c' has.entries has.has_written)))
    c.end.ensures.whole
