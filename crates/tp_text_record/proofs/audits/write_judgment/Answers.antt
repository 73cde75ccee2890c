use Rattle.std.proofs.Common.{Bool, subst}
use Rattle.tp_text.proofs.Watchings.{none_written}
use Rattle.tp_text_record.specs.AuditText.{JudgesFrom}
use Rattle.tp_text_record.proofs.Written.{refused_from, refused_unwritten}
use Rattle.tp_text_record.proofs.audits.write_judgment.Goals as goal

pub returns-in-Err-clause-audits : goal.returns-in-Err-clause-audits
returns-in-Err-clause-audits g c = λ input from. refused_from input (g.W.Write.contents c.args.writer.now.inner) c.in-Err.refusal (subst (JudgesFrom input) c.in-Err.is from)

pub returns-in-Err-clause-tells_writer : goal.returns-in-Err-clause-tells_writer
returns-in-Err-clause-tells_writer g c = λ input from. none_written c.args.writer.now _ (refused_unwritten Bool input c.in-Err.refusal (subst (JudgesFrom input) c.in-Err.is from))
