use Rattle.tp_story_questions.proofs.Answered.{asked_from, asked_tells_reader, asked_tells_writer}
use Rattle.tp_story_questions.proofs.questions.answer_question.Goals as goal

pub returns-clause-asked : goal.returns-clause-asked
returns-clause-asked g c =
    let t = g.T.Account in
    asked_from t.settings t.is_asked t.tells t.says g.W.Write.contents c.args.question.now c.args.form (g.R.Read.remaining c.args.reader.now.inner) c.ask-said.result c.args.writer.now c.write_said-outcome.new.writer c.write_said-outcome.result c.ask-said.ensures.answers c.write_said-outcome.ensures

pub returns-clause-tells_reader : goal.returns-clause-tells_reader
returns-clause-tells_reader g c =
    asked_tells_reader g.W.Write.contents c.ask-said.result c.args.reader.now c.ask-said.new.reader c.args.writer.now c.write_said-outcome.new.writer c.write_said-outcome.result c.ask-said.ensures.tells_reader c.write_said-outcome.ensures

pub returns-clause-tells_writer : goal.returns-clause-tells_writer
returns-clause-tells_writer g c =
    let t = g.T.Account in
    asked_tells_writer t.settings t.is_asked t.tells t.says g.W.Write.contents c.args.question.now c.args.form (g.R.Read.remaining c.args.reader.now.inner) c.ask-said.result c.args.writer.now c.write_said-outcome.new.writer c.write_said-outcome.result c.ask-said.ensures.answers c.write_said-outcome.ensures
