use Rattle.std.proofs.Common.{◌≡◌, sym, subst}
use Rattle.std.specs.Prelude.{IfSome}
use Rattle.tp_text.proofs.Watchings.{none_written, not_unwritten, read_refused}
use Rattle.tp_text_record.proofs.Written.{judged_from, not_long, unread}
use Rattle.tp_text_record.proofs.audits.audit_text.Goals as goal

pub returns-in-Err-clause-audits : goal.returns-in-Err-clause-audits
returns-in-Err-clause-audits g c = unread _ _ c.in-Err.refusal c.in-Err.ensures.refused

pub returns-in-Err-clause-tells_reader : goal.returns-in-Err-clause-tells_reader
returns-in-Err-clause-tells_reader g c = read_refused c.args.reader.now c.read_text.new.reader c.in-Err.refusal c.in-Err.ensures.unread

pub returns-in-Err-clause-tells_writer : goal.returns-in-Err-clause-tells_writer
returns-in-Err-clause-tells_writer g c = none_written c.args.writer.now _ (not_unwritten c.in-Err.refusal c.in-Err.ensures.refused)

pub returns-clause-long : goal.returns-clause-long
returns-clause-long g c = not_long (g.R.Read.remaining c.args.reader.now.inner) c.in-Ok.text.items _ c.in-Ok.ensures.whole c.in-Ok.ensures.short

pub returns-clause-audits : goal.returns-clause-audits
returns-clause-audits g c =
    let input = g.R.Read.remaining c.args.reader.now.inner in
    let known = subst (λ text. IfSome input (λ xs. text ≡ xs)) (sym c.as_slice.ensures.value) c.in-Ok.ensures.whole in
    c.write_judgment.ensures.audits input (judged_from input c.as_slice.result.now c.judge_text.result known c.judge_text.ensures)

pub returns-clause-tells_writer : goal.returns-clause-tells_writer
returns-clause-tells_writer g c =
    let input = g.R.Read.remaining c.args.reader.now.inner in
    let known = subst (λ text. IfSome input (λ xs. text ≡ xs)) (sym c.as_slice.ensures.value) c.in-Ok.ensures.whole in
    c.write_judgment.ensures.tells_writer input (judged_from input c.as_slice.result.now c.judge_text.result known c.judge_text.ensures)
