use Rattle.std.proofs.Common.{◌≡◌, sym, subst}
use Rattle.tp_text.specs.EndLines.{refusal_line}
use Rattle.poolrun_commands.specs.Status.{IsFinished}
use Rattle.poolrun_commands.proofs.Ends.{written_or_failed}
use Rattle.poolrun_commands.proofs.statuses.finish.Goals as goal

pub returns-in-Err-clause-finished : goal.returns-in-Err-clause-finished
returns-in-Err-clause-finished g c =
    let line : c.as_bytes.result.now ≡ refusal_line c.in-Err.refusal = cc in
    let wrote = c.write_text in
    subst (λ r. IsFinished g.W.Write.contents c.args.writer.now r wrote.new.writer) (sym c.in-Err.is)
    (written_or_failed g.W.Write.contents c.args.writer.now wrote.new.writer c.in-Err.refusal c.as_bytes.result.now wrote.result line wrote.ensures.written wrote.ensures.only_writing wrote.ensures.unwritten)
