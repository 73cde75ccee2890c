use Rattle.tp_story.proofs.Staying.{stays}
use Rattle.tp_story.proofs.laws.law_stays.Goals as goal

pub returns : goal.returns
returns c = λ f h t s legal is there n after within. stays f h t s n legal is there after within
