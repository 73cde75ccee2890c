use Rattle.std.proofs.Common.{Bool, Ok, Err, refl, subst}
use Rattle.tp_text.proofs.Watchings.{none_written, not_read, not_written, write_refused, written_well}
use Rattle.tp_scenario.specs.Played.{IsPlayed}
use Rattle.tp_scenario.proofs.Endings.{played_inner}
use Rattle.tp_scenario.proofs.HeardLaws.{heard_whole, refused_play}
use Rattle.poolrun_commands.proofs.Runs.{had_memory, heard_record, passes_so, record_refused, record_unwritten, unwritten_reads}
use Rattle.poolrun_commands.proofs.steps.play_for_record.Goals as goal

pub returns-in-Err-clause-record : goal.returns-in-Err-clause-record
returns-in-Err-clause-record g c =
    let p = c.play-played in
    record_refused c.args.text.now (g.W.Write.contents c.args.out.now.inner) c.in-Err.refusal
    (refused_play c.args.text.now p.result.output.items c.in-Err.refusal (subst (IsPlayed c.args.text.now p.result.output.items) c.in-Err.is p.ensures.played))

pub returns-in-Err-clause-reads : goal.returns-in-Err-clause-reads
returns-in-Err-clause-reads g c =
    let p = c.play-played in
    not_read {A = Bool} (Err c.in-Err.refusal)
    (played_inner c.args.text.now p.result.output.items (Err c.in-Err.refusal) (subst (IsPlayed c.args.text.now p.result.output.items) c.in-Err.is p.ensures.played))

pub returns-in-Err-clause-tells_writer : goal.returns-in-Err-clause-tells_writer
returns-in-Err-clause-tells_writer g c =
    let p = c.play-played in
    none_written c.args.out.now _ (not_written {A = Bool} (Err c.in-Err.refusal)
    (played_inner c.args.text.now p.result.output.items (Err c.in-Err.refusal) (subst (IsPlayed c.args.text.now p.result.output.items) c.in-Err.is p.ensures.played)))

pub returns-in-Ok-clause-record : goal.returns-in-Ok-clause-record
returns-in-Ok-clause-record g c =
    let p = c.play-played in
    let text = c.args.text.now in
    let whole = heard_whole heard_record text p.result.output.items p.new.listener (subst (IsPlayed text p.result.output.items) c.in_default.is p.ensures.played) (p.ensures.heard (had_memory p.result.ending c.in_default.is)) in
    (text, refl, (whole.0, whole.1, whole.2, c.in-Ok.ensures.written whole.0 whole.1 whole.3.0))

pub returns-in-Ok-clause-passed : goal.returns-in-Ok-clause-passed
returns-in-Ok-clause-passed g c =
    let p = c.play-played in
    let text = c.args.text.now in
    let whole = heard_whole heard_record text p.result.output.items p.new.listener (subst (IsPlayed text p.result.output.items) c.in_default.is p.ensures.played) (p.ensures.heard (had_memory p.result.ending c.in_default.is)) in
    passes_so text c.args.playing.is_strict c.passes.result p.new.listener.other.is_whole whole.0 whole.1 whole.2 whole.3.1 c.passes.ensures.each c.passes.ensures.strict

pub returns-in-Ok-clause-tells_writer : goal.returns-in-Ok-clause-tells_writer
returns-in-Ok-clause-tells_writer g c = written_well c.args.out.now c.write-2.new.out _ (Ok c.passes.result) c.in-Ok.ensures.tells (λ is. cc)

pub returns-clause-record : goal.returns-clause-record
returns-clause-record g c =
    record_unwritten g.W.Write.contents c.args.text.now c.args.out.now c.write-2.new.out c.in-Err-write.refusal c.in-Err-write.ensures.refused c.in-Err-write.ensures.unwritten

pub returns-clause-reads : goal.returns-clause-reads
returns-clause-reads g c = unwritten_reads c.in-Err-write.refusal c.in-Err-write.ensures.refused

pub returns-clause-tells_writer : goal.returns-clause-tells_writer
returns-clause-tells_writer g c = write_refused c.args.out.now c.write-2.new.out c.in-Err-write.refusal c.in-Err-write.ensures.tells
