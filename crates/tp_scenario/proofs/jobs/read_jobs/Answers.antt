use Rattle.tp_text.proofs.Watchings.{read_refused, read_well}
use Rattle.tp_scenario.proofs.JobLaws.{jobs_inner, unread}
use Rattle.tp_scenario.proofs.jobs.read_jobs.Goals as goal

pub returns-in-Err-clause-reads : goal.returns-in-Err-clause-reads
returns-in-Err-clause-reads g c = unread _ c.in-Err.error c.in-Err.ensures.refused

pub returns-in-Err-clause-tells : goal.returns-in-Err-clause-tells
returns-in-Err-clause-tells g c = read_refused c.args.reader.now c.read_text.new.reader c.in-Err.error c.in-Err.ensures.unread

pub returns-clause-tells : goal.returns-clause-tells
returns-clause-tells g c =
    read_well c.args.reader.now c.read_text.new.reader c.in-Ok.text c.jobs_of.result c.in-Ok.ensures.unread (jobs_inner c.as_slice.result.now c.jobs_of.result c.jobs_of.ensures)
