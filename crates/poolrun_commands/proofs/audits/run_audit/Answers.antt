use Rattle.std.proofs.Common.{sym, subst}
use Rattle.poolrun_commands.specs.Audits.{Audits}
use Rattle.poolrun_commands.specs.Status.{Ends}
use Rattle.poolrun_commands.proofs.audits.run_audit.Goals as goal

pub returns-then-auditing-clause-audits : goal.returns-then-auditing-clause-audits
returns-then-auditing-clause-audits g c =
    subst (λ any. Ends g.W.Write.contents (Audits g.R.Read.remaining g.W.Write.contents any c.args.reader.now c.audit_stream.new.reader c.args.out.now) c.audit_stream.result c.audit_stream.new.out)
    (sym c.if-auditing.true) c.audit_stream.ensures.audits

pub returns-else-auditing-clause-audits : goal.returns-else-auditing-clause-audits
returns-else-auditing-clause-audits g c =
    subst (λ any. Ends g.W.Write.contents (Audits g.R.Read.remaining g.W.Write.contents any c.args.reader.now c.audit_whole.new.reader c.args.out.now) c.audit_whole.result c.audit_whole.new.out)
    (sym c.if-auditing.false) c.audit_whole.ensures.audits
