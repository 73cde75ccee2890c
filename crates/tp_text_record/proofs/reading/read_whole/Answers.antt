use Rattle.std.proofs.Common.{[], refl}
use Rattle.tp_text_record.proofs.LinesRead.{err_on, ok_on, refused_text, refused_whole}
use Rattle.tp_text_record.proofs.reading.read_whole.Goals as goal

pub finish-requires : goal.finish-requires
finish-requires g c = (c.in-Ok.ensures.read [] refl).1.last

pub returns-in-Ok-clause-taken : goal.returns-in-Ok-clause-taken
returns-in-Ok-clause-taken g c =
    let read = c.in-Ok.ensures.read [] refl in ok_on c.finish.result _ _ (λ b taken. taken c.args.question.now c.args.text.now read.0 read.2 read.1) c.finish.ensures.taken

pub returns-in-Ok-clause-refused : goal.returns-in-Ok-clause-refused
returns-in-Ok-clause-refused g c =
    let text = c.args.text.now in
    let read = c.in-Ok.ensures.read [] refl in
    err_on c.finish.result _ _ (λ e refused. refused_text text c.in-Ok.left.now e read.0 c.requires read.1 (refused c.args.question.now text read.0 read.2 read.1)) c.finish.ensures.refused

pub returns-in-Err-clause-refused : goal.returns-in-Err-clause-refused
returns-in-Err-clause-refused g c = refused_whole c.args.text.now _ c.in-Err.refusal c.requires (c.in-Err.ensures.refused [] refl)
