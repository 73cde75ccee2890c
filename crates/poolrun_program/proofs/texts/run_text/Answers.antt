use Rattle.std.proofs.Common.{ℕ, List, reverse, inl, inr, refl, ap, ◌∙◌, subst, Some}
use Rattle.std.specs.Prelude.{IfSome}
use Rattle.std.specs.Io.KnownBytes.{Appends}
use Rattle.tp_text_record.specs.declared.versions.Version.TheVariants as version
use Rattle.tp_text_record.specs.RecordText.{record_text as text_of}
use Rattle.tp_text.proofs.Refusals.{is_outer}
use Rattle.tp_text.proofs.Watchings.{none_written, not_read, not_written}
use Rattle.tp_scenario.proofs.JobLaws.{jobs_inner}
use Rattle.tp_glance.proofs.Fronts.{IsFrontOf_refl}
use Rattle.tp_journal.specs.Endings.{IfThrough, IsWhole}
use Rattle.tp_journal.specs.Journals.{IsJournalOf}
use Rattle.poolrun_program.specs.Runs.{WritesRun}
use Rattle.poolrun_program.proofs.Told.{on_ok, or_unwritten, run_inner, some_so, was_read}
use Rattle.poolrun_program.proofs.texts.run_text.Goals as goal

pub returns-in-Err-clause-refused : goal.returns-in-Err-clause-refused
returns-in-Err-clause-refused g c = inr (inl (inr (c.args.text.now, refl, c.in-Err.ensures)), refl)

pub returns-in-Err-clause-reads : goal.returns-in-Err-clause-reads
returns-in-Err-clause-reads g c = not_read _ (jobs_inner c.args.text.now _ c.in-Err.ensures)

pub returns-in-Err-clause-tells_writer : goal.returns-in-Err-clause-tells_writer
returns-in-Err-clause-tells_writer g c = none_written c.args.writer.now _ (not_written _ (jobs_inner c.args.text.now _ c.in-Err.ensures))

pub returns-in-Err-run_jobs-clause-refused : goal.returns-in-Err-run_jobs-clause-refused
returns-in-Err-run_jobs-clause-refused g c = inr (inr (c.in-Ok.jobs, inr (c.args.text.now, refl, c.in-Ok.ensures), c.in-Err-run_jobs.ensures.refused), refl)

pub returns-in-Err-run_jobs-clause-reads : goal.returns-in-Err-run_jobs-clause-reads
returns-in-Err-run_jobs-clause-reads g c = not_read _ (run_inner (Unit {0}) c.in-Ok.jobs.config c.in-Err-run_jobs.error c.in-Err-run_jobs.ensures.refused)

pub returns-in-Err-run_jobs-clause-tells_writer : goal.returns-in-Err-run_jobs-clause-tells_writer
returns-in-Err-run_jobs-clause-tells_writer g c =
    none_written c.args.writer.now _ (not_written _ (run_inner (Unit {0}) c.in-Ok.jobs.config c.in-Err-run_jobs.error c.in-Err-run_jobs.ensures.refused))

pub returns-in-Err-report_text-clause-refused : goal.returns-in-Err-report_text-clause-refused
returns-in-Err-report_text-clause-refused g c =
    inr (inr (c.in-Ok.jobs, inr (c.args.text.now, refl, c.in-Ok.ensures), inr (inl c.in-Err-report_text.ensures.only_memory)), refl)

pub returns-in-Err-report_text-clause-reads : goal.returns-in-Err-report_text-clause-reads
returns-in-Err-report_text-clause-reads g c = not_read _ (ap is_outer c.in-Err-report_text.ensures.only_memory)

pub returns-in-Err-report_text-clause-tells_writer : goal.returns-in-Err-report_text-clause-tells_writer
returns-in-Err-report_text-clause-tells_writer g c =
    none_written c.args.writer.now _ (not_written _ (ap is_outer c.in-Err-report_text.ensures.only_memory))

pub returns-clause-written : goal.returns-clause-written
returns-clause-written g c =
    let text = c.as_slice-record.ensures.value ∙ c.in-Ok-report_text.ensures.text in
    let old = g.W.Write.contents c.args.writer.now.inner in
    let new = g.W.Write.contents c.write_text.new.writer.inner in
    on_ok c.write_text.result (Appends old new c.as_slice-record.result.now) (WritesRun (Some c.args.text.now) old new)
    (λ appends. (c.in-Ok.jobs, c.in-Ok-run_jobs.report, inr (c.args.text.now, refl, c.in-Ok.ensures), c.in-Ok-run_jobs.ensures.run, subst (Appends old new) text appends))
    c.write_text.ensures.written

pub returns-clause-journal : goal.returns-clause-journal
returns-clause-journal g c =
    let config = c.in-Ok.jobs.config in
    let entries = c.in-Ok-run_jobs.report.entries.items in
    let bytes = c.as_slice-record.result.now in
    let text = c.as_slice-record.ensures.value ∙ c.in-Ok-report_text.ensures.text in
    let contents = g.V.Write.contents in
    let ended = c.ended_at-2.result in
    let whole =
    some_so (λ w. IfSome c.run_jobs.new.journal (λ s. IfThrough s (IsJournalOf contents (contents w.writer) config (reverse entries))))
    (λ w. IfSome ended (IsWhole contents (contents w.writer) bytes))
    (λ w is. c.ended_at-2.ensures (contents w.writer) config (reverse entries) entries is (IsFrontOf_refl (reverse entries)) text) c.args.wish c.in-Ok-run_jobs.ensures.front in
    let old = g.W.Write.contents c.args.writer.now.inner in
    let new = g.W.Write.contents c.write_text.new.writer.inner in
    on_ok c.write_text.result (Appends old new bytes)
    ((bytes : List ℕ) × Appends old new bytes × IfSome c.args.wish (λ w. IfSome ended (IsWhole contents (contents w.writer) bytes)))
    (λ appends. (bytes, appends, whole))
    c.write_text.ensures.written

pub returns-clause-refused : goal.returns-clause-refused
returns-clause-refused g c = or_unwritten c.write_text.result _ c.write_text.ensures.only_writing

pub returns-clause-reads : goal.returns-clause-reads
returns-clause-reads g c = was_read c.write_text.result c.write_text.ensures.only_writing
