use Rattle.tp_story_claims.proofs.Ended.{fates_from}
use Rattle.tp_story_claims.proofs.endings.fates_in.Goals as goal

pub returns-after-not-read-clause-fates : goal.returns-after-not-read-clause-fates
returns-after-not-read-clause-fates g c = fates_from (g.R.Read.remaining c.args.reader.now.inner) c.in-Ok.read c.fates_told.result c.in-Ok.ensures.taken c.fates_told.ensures.fates
