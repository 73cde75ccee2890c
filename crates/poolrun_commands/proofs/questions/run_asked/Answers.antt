use Rattle.poolrun_choices.specs.declared.choices.Question.TheVariants as question
use Rattle.poolrun_commands.proofs.Chosen.{chosen}
use Rattle.poolrun_commands.proofs.questions.run_asked.Goals as goal

pub returns-in-Task-clause-asks : goal.returns-in-Task-clause-asks
returns-in-Task-clause-asks g c =
    let ran = c.run_question in
    chosen g.R.Read.remaining g.W.Write.contents c.args.reader.now ran.new.reader c.args.out.now ran.new.out ran.result c.args.question (question.Task c.in-Task.t) c.args.form c.in-Task.is ran.ensures.asks

pub returns-in-Slot-clause-asks : goal.returns-in-Slot-clause-asks
returns-in-Slot-clause-asks g c =
    let ran = c.run_question-in-Slot in
    chosen g.R.Read.remaining g.W.Write.contents c.args.reader.now ran.new.reader c.args.out.now ran.new.out ran.result c.args.question (question.Slot c.in-Slot.w) c.args.form c.in-Slot.is ran.ensures.asks

pub returns-in-Now-clause-asks : goal.returns-in-Now-clause-asks
returns-in-Now-clause-asks g c =
    let ran = c.run_question-in-Now in
    chosen g.R.Read.remaining g.W.Write.contents c.args.reader.now ran.new.reader c.args.out.now ran.new.out ran.result c.args.question (question.Now c.in-Now.until) c.args.form c.in-Now.is ran.ensures.asks

pub returns-in-Stats-clause-asks : goal.returns-in-Stats-clause-asks
returns-in-Stats-clause-asks g c =
    let ran = c.run_question-in-Stats in
    chosen g.R.Read.remaining g.W.Write.contents c.args.reader.now ran.new.reader c.args.out.now ran.new.out ran.result c.args.question (question.Stats c.in-Stats.top) c.args.form c.in-Stats.is ran.ensures.asks

pub returns-in-Cut-clause-asks : goal.returns-in-Cut-clause-asks
returns-in-Cut-clause-asks g c =
    let ran = c.run_question-in-Cut in
    chosen g.R.Read.remaining g.W.Write.contents c.args.reader.now ran.new.reader c.args.out.now ran.new.out ran.result c.args.question question.Cut c.args.form c.in-Cut.is ran.ensures.asks
