use Rattle.std.proofs.Common.{subst, refl, Some}
use Rattle.std.specs.Io.KnownBytes.{Appends}
use Rattle.tp_text.proofs.Watchings.{not_read, not_unread, not_written, write_refused, written_well}
use Rattle.tp_scenario.proofs.Endings.{played_inner, ran, unwritten}
use Rattle.tp_scenario.proofs.HeardLaws.{heard_well}
use Rattle.tp_scenario.proofs.run.run_text.Goals as goal

pub returns-in-Err-clause-runs : goal.returns-in-Err-clause-runs
returns-in-Err-clause-runs g c =
    let contents = g.W.Write.contents in
    unwritten (Some c.args.text.now) (contents c.args.writer.now.inner) (contents c.write_text.new.writer.inner) c.in-Err.error c.in-Err.ensures.only_writing

pub returns-in-Err-clause-reads : goal.returns-in-Err-clause-reads
returns-in-Err-clause-reads g c = not_unread c.in-Err.error c.in-Err.ensures.only_writing

pub returns-in-Err-clause-tells_writer : goal.returns-in-Err-clause-tells_writer
returns-in-Err-clause-tells_writer g c = write_refused c.args.writer.now c.write_text.new.writer c.in-Err.error c.in-Err.ensures.unwritten

pub returns-clause-runs : goal.returns-clause-runs
returns-clause-runs g c =
    let contents = g.W.Write.contents in
    let old = contents c.args.writer.now.inner in
    let new = contents c.write_text.new.writer.inner in
    ran (Some c.args.text.now) old new c.args.text.now c.play-played.result.output.items c.play-played.result.ending refl c.play-played.ensures.played (subst (Appends old new) c.as_slice.ensures.value c.in_default.ensures.written)

pub returns-clause-reads : goal.returns-clause-reads
returns-clause-reads g c = not_read c.play-played.result.ending (played_inner c.args.text.now c.play-played.result.output.items c.play-played.result.ending c.play-played.ensures.played)

pub returns-clause-tells_writer : goal.returns-clause-tells_writer
returns-clause-tells_writer g c =
    written_well c.args.writer.now c.write_text.new.writer tt c.play-played.result.ending c.in_default.ensures.unwritten
    (not_written c.play-played.result.ending (played_inner c.args.text.now c.play-played.result.output.items c.play-played.result.ending c.play-played.ensures.played))

pub returns-clause-heard : goal.returns-clause-heard
returns-clause-heard g c = heard_well g.L.Listener.heard c.play-played.result.ending c.args.text.now c.play-played.new.listener c.play-played.ensures.heard
