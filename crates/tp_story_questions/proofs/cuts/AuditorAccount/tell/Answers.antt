use Rattle.tp_story_questions.proofs.cuts.AuditorAccount.tell.Goals as goal

pub returns-clause-flaw : goal.returns-clause-flaw
returns-clause-flaw c = λ n same h judged. (judged.legal, (c.push.ensures.flaw n same h judged).0, (c.push.ensures.flaw n same h judged).1)
