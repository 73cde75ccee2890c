use Rattle.std.proofs.Common.{◌≡◌, Err, inr, sym, subst}
use Rattle.std.proofs.KnownBytes.{Keeps-refl}
use Rattle.std.specs.Prelude.{IfSome}
use Rattle.tp_text.specs.Watching.{sink}
use Rattle.poolrun_commands.specs.Explores.{Explores}
use Rattle.poolrun_commands.specs.Status.{Ends}
use Rattle.poolrun_commands.proofs.Explorations.{explores_from}
use Rattle.poolrun_commands.proofs.explores.run_explore.Goals as goal

pub returns-in-Err-clause-explores : goal.returns-in-Err-clause-explores
returns-in-Err-clause-explores g c =
    let ended = c.in-Err.ensures.ended in
    (Err ended.refusal, c.args.out.now, inr (Keeps-refl (g.W.Write.contents (sink c.args.out.now))), ended.status, ended.finished)

pub returns-clause-explores : goal.returns-clause-explores
returns-clause-explores g c =
    let input = g.R.Read.remaining c.args.reader.now.inner in
    let text = c.as_slice-text.result.now in
    let known = subst (λ t. IfSome input (λ xs. t ≡ xs)) (sym c.as_slice-text.ensures.value) c.in-Ok.ensures.whole in
    let explored = c.explore_text-outcome in
    let status = c.finish-status in
    subst (λ old. Ends g.W.Write.contents (λ r behind. Explores g.P.Reading.says c.args.exploring.now input (g.W.Write.contents (sink old)) (g.W.Write.contents (sink behind)) r) status.result status.new.writer)
    c.in-Ok.ensures.unwritten (
      explored.result,
      explored.new.out,
      explores_from g.P.Reading.says c.args.exploring.now input (g.W.Write.contents (sink c.text_or_status.new.out)) (g.W.Write.contents (sink explored.new.out)) text explored.result known explored.ensures,
      status.ensures.status,
      status.ensures.finished,
    )
