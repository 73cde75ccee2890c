use Rattle.std.proofs.Common.{◌≡◌, List, length, sym, subst}
use Rattle.std.specs.Prelude.{IfOk}
use Rattle.tp_record.specs.declared.entries.Entry.{Entry}
use Rattle.tp_audit.specs.Audited.{settings}
use Rattle.tp_text_record.specs.AuditText.{IsJudged}
use Rattle.tp_text_record.specs.Judging.{IsToldBy}
use Rattle.tp_text_record.proofs.judgments.judge.Goals as goal

pub returns-in-None-clause-judged : goal.returns-in-None-clause-judged
returns-in-None-clause-judged c =
    let a = c.args.judging.auditor in
    subst (λ o. IfOk c.legal_judgment.result (λ j. (es : List Entry) → IsToldBy a o es → c.args.entries ≡ length es → IsJudged (settings a) es j.legal j.lines.items))
    (sym c.in-None.is) c.legal_judgment.ensures.judged

pub returns-in_ok-flawed-in-Some-clause-judged : goal.returns-in_ok-flawed-in-Some-clause-judged
returns-in_ok-flawed-in-Some-clause-judged c = λ es told counted.
    let j = c.args.judging in
    (c.in-Some.entry, subst (λ o. IsToldBy j.auditor o es) c.in-Some.is told, c.in_ok-flawed-in-Some.ensures.text)
