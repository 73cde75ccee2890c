use Rattle.tp_audit_plain.proofs.Judged as judged
use Rattle.tp_audit_plain.proofs.plain.one_judgment.Goals as goal

pub returns : goal.returns
returns c = judged.one_judgment
