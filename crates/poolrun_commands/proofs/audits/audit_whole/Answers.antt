use Rattle.std.proofs.Common.{◌≡◌, Err, false, sym, subst}
use Rattle.std.specs.Prelude.{IfSome}
use Rattle.tp_text.proofs.Watchings.{none_written, not_unwritten, read_unwritten}
use Rattle.tp_text_record.proofs.Written.{judged_from, judged_read, unread}
use Rattle.poolrun_commands.specs.Audits.{Audits}
use Rattle.poolrun_commands.specs.Status.{Ends}
use Rattle.poolrun_commands.proofs.Ends.{not_long, not_read_long}
use Rattle.poolrun_commands.proofs.audits.audit_whole.Goals as goal

pub returns-in-Err-clause-audits : goal.returns-in-Err-clause-audits
returns-in-Err-clause-audits g c =
    let input = g.R.Read.remaining c.args.reader.now.inner in
    let ended = c.in-Err.ensures.ended in
    let e = ended.refusal in (
      Err e,
      c.args.out.now,
      record {
        audit = unread input (g.W.Write.contents c.args.out.now.inner) e ended.reads;
        long = λ whole. not_read_long input e ended.reads;
        tells_reader = ended.tells_reader;
        tells_writer = none_written c.args.out.now (Err e) (not_unwritten e ended.reads);
      },
      ended.status,
      ended.finished,
    )

pub returns-clause-audits : goal.returns-clause-audits
returns-clause-audits g c =
    let input = g.R.Read.remaining c.args.reader.now.inner in
    let text = c.as_slice-text.result.now in
    let known = subst (λ t. IfSome input (λ xs. t ≡ xs)) (sym c.as_slice-text.ensures.value) c.in-Ok.ensures.whole in
    let judged = c.judge_explained-judgment in
    let written = c.write_judgment-outcome in
    let from = judged_from input text judged.result known judged.ensures in
    let status = c.finish-status in
    subst (λ old. Ends g.W.Write.contents (Audits g.R.Read.remaining g.W.Write.contents false c.args.reader.now c.text_or_status.new.reader old) status.result status.new.writer)
    c.in-Ok.ensures.unwritten (
      written.result,
      written.new.writer,
      record {
        audit = written.ensures.audits input from;
        long = λ whole. not_long input c.in-Ok.text.items _ c.in-Ok.ensures.whole c.in-Ok.ensures.short;
        tells_reader = read_unwritten c.args.reader.now c.text_or_status.new.reader c.in-Ok.text written.result c.in-Ok.ensures.tells_reader (judged_read text judged.result written.result judged.ensures written.ensures.refused written.ensures.reads);
        tells_writer = written.ensures.tells_writer input from;
      },
      status.ensures.status,
      status.ensures.finished,
    )
