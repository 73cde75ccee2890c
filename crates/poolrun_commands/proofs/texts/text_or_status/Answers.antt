use Rattle.tp_text.proofs.Watchings.{read_refused}
use Rattle.poolrun_commands.proofs.texts.text_or_status.Goals as goal

pub returns-clause-ended : goal.returns-clause-ended
returns-clause-ended g c =
    record {
      refusal = c.in-Err.refusal;
      reads = c.in-Err.ensures.refused;
      tells_reader = read_refused c.args.reader.now c.read_text.new.reader c.in-Err.refusal c.in-Err.ensures.unread;
      status = c.end_unread.ensures.status;
      finished = c.end_unread.ensures.finished;
    }
