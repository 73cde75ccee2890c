use Rattle.tp_story_questions.proofs.numbers.CountedAccount.tell.Goals as goal

pub returns-clause-flaw : goal.returns-clause-flaw
returns-clause-flaw c = λ n same h counts. (counts.judged.legal, (c.tell.ensures.flaw n same h counts).0, (c.tell.ensures.flaw n same h counts).1)
