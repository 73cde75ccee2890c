use Rattle.std.proofs.Common.{arith}
use Rattle.tp_text_record.proofs.BodyLines.{body_end, body_entry, body_none}
use Rattle.tp_text_record.proofs.records.read_body_line.Goals as goal

pub returns-in-Some : goal.returns-in-Some
returns-in-Some c =
    rw c.then_some.ensures (body_entry c.args.version c.args.line.now c.args.before c.in-Some.number c.in-Some.entry c.requires c.in-Some.ensures.0.0 c.in-Some.ensures.0.1 c.in-Some.ensures.1)

pub returns-in_err-read_end_line : goal.returns-in_err-read_end_line
returns-in_err-read_end_line c =
    rw c.from_residual.ensures (body_none c.args.version c.args.line.now c.args.before c.requires c.in_default.ensures (c.in_err-read_end_line.ensures c.args.before (omega (arith, c.requires))))

pub returns : goal.returns
returns c =
    rw c.then_some-2.ensures (body_end c.args.version c.args.line.now c.args.before c.in_ok-read_end_line.field-0 c.requires c.in_default.ensures c.in_ok-read_end_line.ensures.0 c.in_ok-read_end_line.ensures.1)
