use Rattle.tp_text_record.proofs.Written.{judged_tells}
use Rattle.poolrun_commands.proofs.audits.audit_stream.Goals as goal

pub returns-clause-audits : goal.returns-clause-audits
returns-clause-audits g c =
    let input = g.R.Read.remaining c.args.reader.now.inner in
    let judged = c.judge_stream-judgment in
    let written = c.write_judgment-outcome in (
      written.result,
      written.new.writer,
      record {
        audit = written.ensures.audits input judged.ensures.judges;
        long = λ whole. cc;
        tells_reader = judged_tells c.args.reader.now judged.new.reader judged.result written.result judged.ensures.tells_reader written.ensures.refused written.ensures.reads;
        tells_writer = written.ensures.tells_writer input judged.ensures.judges;
      },
      c.finish-status.ensures.status,
      c.finish-status.ensures.finished,
    )
