use Rattle.std.proofs.Common.{inl, inr, refl, ap, ◌∙◌, subst, Some}
use Rattle.std.specs.Io.KnownBytes.{Appends}
use Rattle.tp_text.proofs.Refusals.{is_outer}
use Rattle.tp_text.proofs.Watchings.{none_written, not_read, not_written}
use Rattle.tp_scenario.proofs.JobLaws.{jobs_inner}
use Rattle.poolrun_program.specs.Runs.{WritesTally}
use Rattle.poolrun_program.proofs.Told.{on_ok, or_unwritten, run_inner, was_read}
use Rattle.poolrun_program.proofs.tallies.tally_text.Goals as goal

pub returns-in-Err-clause-refused : goal.returns-in-Err-clause-refused
returns-in-Err-clause-refused g c = inr (inl (inr (c.args.text.now, refl, c.in-Err.ensures)), refl)

pub returns-in-Err-clause-reads : goal.returns-in-Err-clause-reads
returns-in-Err-clause-reads g c = not_read _ (jobs_inner c.args.text.now _ c.in-Err.ensures)

pub returns-in-Err-clause-tells_writer : goal.returns-in-Err-clause-tells_writer
returns-in-Err-clause-tells_writer g c = none_written c.args.writer.now _ (not_written _ (jobs_inner c.args.text.now _ c.in-Err.ensures))

pub returns-in-Err-tally_jobs-clause-refused : goal.returns-in-Err-tally_jobs-clause-refused
returns-in-Err-tally_jobs-clause-refused g c = inr (inr (c.in-Ok.jobs, inr (c.args.text.now, refl, c.in-Ok.ensures), c.in-Err-tally_jobs.ensures.refused), refl)

pub returns-in-Err-tally_jobs-clause-reads : goal.returns-in-Err-tally_jobs-clause-reads
returns-in-Err-tally_jobs-clause-reads g c = not_read _ (run_inner (Unit {0}) c.in-Ok.jobs.config c.in-Err-tally_jobs.error c.in-Err-tally_jobs.ensures.refused)

pub returns-in-Err-tally_jobs-clause-tells_writer : goal.returns-in-Err-tally_jobs-clause-tells_writer
returns-in-Err-tally_jobs-clause-tells_writer g c =
    none_written c.args.writer.now _ (not_written _ (run_inner (Unit {0}) c.in-Ok.jobs.config c.in-Err-tally_jobs.error c.in-Err-tally_jobs.ensures.refused))

pub returns-in-Err-lines_of-clause-refused : goal.returns-in-Err-lines_of-clause-refused
returns-in-Err-lines_of-clause-refused g c =
    inr (inr (c.in-Ok.jobs, inr (c.args.text.now, refl, c.in-Ok.ensures), inr (inl c.in-Err-lines_of.ensures.only_memory)), refl)

pub returns-in-Err-lines_of-clause-reads : goal.returns-in-Err-lines_of-clause-reads
returns-in-Err-lines_of-clause-reads g c = not_read _ (ap is_outer c.in-Err-lines_of.ensures.only_memory)

pub returns-in-Err-lines_of-clause-tells_writer : goal.returns-in-Err-lines_of-clause-tells_writer
returns-in-Err-lines_of-clause-tells_writer g c =
    none_written c.args.writer.now _ (not_written _ (ap is_outer c.in-Err-lines_of.ensures.only_memory))

pub returns-clause-written : goal.returns-clause-written
returns-clause-written g c =
    let text = c.as_slice.ensures.value ∙ c.in-Ok-lines_of.ensures.text in
    let old = g.W.Write.contents c.args.writer.now.inner in
    let new = g.W.Write.contents c.write_text.new.writer.inner in
    on_ok c.write_text.result (Appends old new c.as_slice.result.now) (WritesTally (Some c.args.text.now) old new)
    (λ appends. (c.in-Ok.jobs, c.in-Ok-tally_jobs.report, inr (c.args.text.now, refl, c.in-Ok.ensures), c.in-Ok-tally_jobs.ensures.run, subst (Appends old new) text appends))
    c.write_text.ensures.written

pub returns-clause-refused : goal.returns-clause-refused
returns-clause-refused g c = or_unwritten c.write_text.result _ c.write_text.ensures.only_writing

pub returns-clause-reads : goal.returns-clause-reads
returns-clause-reads g c = was_read c.write_text.result c.write_text.ensures.only_writing
