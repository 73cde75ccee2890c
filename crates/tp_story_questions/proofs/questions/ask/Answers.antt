use Rattle.tp_text.proofs.Watchings.{read_refused, read_well}
use Rattle.tp_story_questions.proofs.Answered.{answered, inner}
use Rattle.tp_story_questions.proofs.questions.ask.Goals as goal

pub returns-after-not-read-clause-answers : goal.returns-after-not-read-clause-answers
returns-after-not-read-clause-answers g c =
    let t = g.T.Account in
    answered t.settings t.is_asked t.tells t.says c.args.question.now c.args.form (g.R.Read.remaining c.args.reader.now.inner) c.in-Ok.read c.say.result c.in-Ok.ensures.taken c.say.ensures.said c.say.ensures.only_memory

pub returns-after-not-read-clause-tells_reader : goal.returns-after-not-read-clause-tells_reader
returns-after-not-read-clause-tells_reader g c =
    read_well c.args.reader.now c.read_stream.new.reader c.in-Ok.read c.say.result c.in-Ok.ensures.tells_reader (inner c.say.result c.say.ensures.only_memory)

pub returns-in-Err-clause-tells_reader : goal.returns-in-Err-clause-tells_reader
returns-in-Err-clause-tells_reader g c = read_refused c.args.reader.now c.read_stream.new.reader c.in-Err.refusal c.in-Err.ensures.tells_reader
