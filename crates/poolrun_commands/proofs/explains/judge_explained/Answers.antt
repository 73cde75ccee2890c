use Rattle.tp_text_record.proofs.Written.{judged_text}
use Rattle.poolrun_commands.proofs.Explained.{explained_taken, judging_of}
use Rattle.poolrun_commands.proofs.explains.judge_explained.Goals as goal

pub returns-in-Ok : goal.returns-in-Ok
returns-in-Ok c =
    let b = c.in-Ok.body in
    judged_text c.args.text.now (judging_of b) c.judge.result (explained_taken b c.args.text.now c.in-Ok.ensures.taken) c.in-Ok.ensures.over c.judge.ensures.judged c.judge.ensures.only_memory
