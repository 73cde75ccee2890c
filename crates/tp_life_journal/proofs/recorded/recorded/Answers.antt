use Rattle.std.proofs.Common.{reverse, subst, sym}
use Rattle.tp_glance.specs.Word.{IsFrontOf}
use Rattle.tp_text_record.specs.declared.versions.Version.TheVariants as version
use Rattle.tp_text_record.specs.RecordText.{record_text}
use Rattle.tp_journal.specs.Endings.{IsWhole}
use Rattle.tp_life.proofs.Looked.{still_ended}
use Rattle.tp_journal.proofs.Reports.{front_of_report}
use Rattle.tp_life_journal.proofs.recorded.recorded.Goals as goal

pub close-requires-clause-seen : goal.close-requires-clause-seen
close-requires-clause-seen g c κs bounds = (still_ended g.G.PoolNaming.config c.shut.new.last c.stop_in-stopped.new.pass c.in_default.ensures.seen c.in_default.ensures.legal c.stop_in-stopped.ensures.looks).0

pub close-requires-clause-legal : goal.close-requires-clause-legal
close-requires-clause-legal g c κs bounds = (still_ended g.G.PoolNaming.config c.shut.new.last c.stop_in-stopped.new.pass c.in_default.ensures.seen c.in_default.ensures.legal c.stop_in-stopped.ensures.looks).1

pub returns-in-Ok-close-clause-lived : goal.returns-in-Ok-close-clause-lived
returns-in-Ok-close-clause-lived g c =
    record { passes = c.in-Ok-all_lives.lives.3.items; lived = c.in-Ok-all_lives.ensures.lived; last = c.stop_in-stopped.new.pass; closes = c.in-Ok-close.ensures.report }

pub returns-in-Ok-close-clause-whole : goal.returns-in-Ok-close-clause-whole
returns-in-Ok-close-clause-whole g c =
    let config = g.G.PoolNaming.config in
    let contents = g.F.Write.contents in
    let report = c.in-Ok-close.report in
    let known = c.stop_in-stopped.new.pass.front in
    let began = c.in-Ok.journal.thread.promise.writer.value in
    let front = front_of_report config c.in-Ok-all_lives.lives.3.items c.stop_in-stopped.new.pass report c.in-Ok-close.ensures.report in
    let told =
    c.ended_whole-ended.ensures (contents began) config known c.stop_in-stopped.ensures.front (subst (λ es. IsFrontOf known (reverse es)) (sym c.as_slice.ensures.value) front) in
    subst (λ w. IsWhole contents (contents w) (record_text version.Two config report.entries.items) c.ended_whole-ended.result) c.in-Ok.ensures.promise
    (subst (λ es. IsWhole contents (contents began) (record_text version.Two config es) c.ended_whole-ended.result) c.as_slice.ensures.value told)
