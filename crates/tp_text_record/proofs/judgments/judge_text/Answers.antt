use Rattle.tp_text_record.proofs.Written.{judged_text}
use Rattle.tp_text_record.proofs.judgments.judge_text.Goals as goal

pub returns-in-Ok : goal.returns-in-Ok
returns-in-Ok c = judged_text c.args.text.now c.in-Ok.body c.judge.result c.in-Ok.ensures.taken c.in-Ok.ensures.over c.judge.ensures.judged c.judge.ensures.only_memory
