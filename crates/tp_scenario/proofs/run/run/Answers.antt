use Rattle.std.proofs.Common.{Some, subst}
use Rattle.tp_scenario.specs.Played.{IsRun}
use Rattle.tp_text.proofs.Watchings.{none_written, not_unwritten, read_refused, read_unwritten}
use Rattle.tp_scenario.proofs.Endings.{ran_from, unread}
use Rattle.tp_scenario.proofs.run.run.Goals as goal

pub returns-in-Err-clause-runs : goal.returns-in-Err-clause-runs
returns-in-Err-clause-runs g c = unread _ _ c.in-Err.error c.in-Err.ensures.refused

pub returns-in-Err-clause-tells_reader : goal.returns-in-Err-clause-tells_reader
returns-in-Err-clause-tells_reader g c = read_refused c.args.reader.now c.read_text.new.reader c.in-Err.error c.in-Err.ensures.unread

pub returns-in-Err-clause-tells_writer : goal.returns-in-Err-clause-tells_writer
returns-in-Err-clause-tells_writer g c = none_written c.args.writer.now _ (not_unwritten c.in-Err.error c.in-Err.ensures.refused)

pub returns-clause-runs : goal.returns-clause-runs
returns-clause-runs g c =
    let old = g.W.Write.contents c.args.writer.now.inner in
    let new = g.W.Write.contents c.run_text.new.writer.inner in
    ran_from (g.R.Read.remaining c.args.reader.now.inner) old new c.in-Ok.text.items c.run_text.result c.in-Ok.ensures.whole (subst (λ x. IsRun (Some x) old new c.run_text.result) c.as_slice.ensures.value c.run_text.ensures.runs)

pub returns-clause-unread : goal.returns-clause-unread
returns-clause-unread g c = λ is. absurd (c.run_text.ensures.reads is)

pub returns-clause-tells_reader : goal.returns-clause-tells_reader
returns-clause-tells_reader g c = read_unwritten c.args.reader.now c.read_text.new.reader c.in-Ok.text c.run_text.result c.in-Ok.ensures.unread c.run_text.ensures.reads
