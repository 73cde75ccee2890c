use Rattle.tp_text.proofs.Watchings.{read_refused, read_well}
use Rattle.tp_text_record.proofs.Written.{judged_inner, judged_stream}
use Rattle.tp_text_record.proofs.judgments.judge_stream.Goals as goal

pub returns-in-Ok-clause-judges : goal.returns-in-Ok-clause-judges
returns-in-Ok-clause-judges g c =
    judged_stream (g.R.Read.remaining c.args.reader.now.inner) c.in-Ok.read c.judge.result c.in-Ok.ensures.taken c.in-Ok.ensures.ends c.judge.ensures.judged c.judge.ensures.only_memory

pub returns-in-Ok-clause-tells_reader : goal.returns-in-Ok-clause-tells_reader
returns-in-Ok-clause-tells_reader g c =
    read_well c.args.reader.now c.read_stream.new.reader c.in-Ok.read c.judge.result c.in-Ok.ensures.tells_reader (judged_inner c.judge.result c.judge.ensures.only_memory)

pub returns-in-Err-clause-tells_reader : goal.returns-in-Err-clause-tells_reader
returns-in-Err-clause-tells_reader g c = read_refused c.args.reader.now c.read_stream.new.reader c.in-Err.refusal c.in-Err.ensures.tells_reader
