use Rattle.poolrun_commands.proofs.questions.run_question.Goals as goal

pub returns-clause-asks : goal.returns-clause-asks
returns-clause-asks g c =
    let answered = c.answer_question-outcome in (
      answered.result,
      answered.new.writer,
      record {
        asked = answered.ensures.asked;
        tells_reader = answered.ensures.tells_reader;
        tells_writer = answered.ensures.tells_writer;
      },
      c.finish-status.ensures.status,
      c.finish-status.ensures.finished,
    )
