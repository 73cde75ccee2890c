use Rattle.std.proofs.Common.{reverse}
use Rattle.tp_text_record.proofs.Written.{lines_of_summary}
use Rattle.tp_text_record.proofs.judgments.legal_judgment.Goals as goal

pub returns-in_ok-legal-in-Ok-clause-judged : goal.returns-in_ok-legal-in-Ok-clause-judged
returns-in_ok-legal-in-Ok-clause-judged c = λ es judged counted.
    let a = c.args.auditor.now in
    (judged.legal, lines_of_summary a.config es c.in-Ok.summary c.args.entries c.in_ok-legal-in-Ok.field-0.items (c.in-Ok.ensures.summary (reverse es) judged) counted c.in_ok-legal-in-Ok.ensures.text)
