use Rattle.std.proofs.Common.{Err}
use Rattle.poolrun_commands.proofs.Fates.{sets_refused, sets_told}
use Rattle.poolrun_commands.proofs.differences.run_fates.Goals as goal

pub returns-in-Err-clause-sets : goal.returns-in-Err-clause-sets
returns-in-Err-clause-sets g c = (
  Err c.in-Err.refusal,
  c.args.out.now,
  sets_refused g.R.Read.remaining g.S.Read.remaining g.W.Write.contents c.args.form c.args.first.now c.args.second.now c.args.out.now c.in-Err.refusal,
  c.finish.ensures.status,
  c.finish.ensures.finished,
)

pub returns-in-Err-fates_of-clause-sets : goal.returns-in-Err-fates_of-clause-sets
returns-in-Err-fates_of-clause-sets g c = (
  Err c.in-Err-fates_of.refusal,
  c.args.out.now,
  sets_refused g.R.Read.remaining g.S.Read.remaining g.W.Write.contents c.args.form c.args.first.now c.args.second.now c.args.out.now c.in-Err-fates_of.refusal,
  c.finish-in-Err-fates_of.ensures.status,
  c.finish-in-Err-fates_of.ensures.finished,
)

pub returns-in-Err-told_of-clause-sets : goal.returns-in-Err-told_of-clause-sets
returns-in-Err-told_of-clause-sets g c = (
  Err c.in-Err-told_of.refusal,
  c.args.out.now,
  sets_refused g.R.Read.remaining g.S.Read.remaining g.W.Write.contents c.args.form c.args.first.now c.args.second.now c.args.out.now c.in-Err-told_of.refusal,
  c.finish-in-Err-told_of.ensures.status,
  c.finish-in-Err-told_of.ensures.finished,
)

pub returns-clause-sets : goal.returns-clause-sets
returns-clause-sets g c =
    let told = c.in-Ok-told_of.told in
    let wrote = c.write_told-outcome in (
      wrote.result,
      wrote.new.out,
      sets_told g.R.Read.remaining g.S.Read.remaining g.W.Write.contents c.args.form c.args.first.now c.args.second.now c.args.out.now c.in-Ok.fates c.in-Ok-fates_of.fates told.text.items told.is_same wrote.result wrote.new.out
          c.in-Ok.ensures c.in-Ok-fates_of.ensures c.in-Ok-told_of.ensures wrote.ensures.written wrote.ensures.only_writing,
      c.finish-2.ensures.status,
      c.finish-2.ensures.finished,
    )
