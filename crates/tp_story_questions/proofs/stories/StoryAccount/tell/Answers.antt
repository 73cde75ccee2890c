use Rattle.tp_story_questions.proofs.stories.StoryAccount.tell.Goals as goal

pub returns-clause-flaw : goal.returns-clause-flaw
returns-clause-flaw c = λ n same h tells. (tells.0.legal, (c.tell.ensures.flaw n same h tells).0, (c.tell.ensures.flaw n same h tells).1)
