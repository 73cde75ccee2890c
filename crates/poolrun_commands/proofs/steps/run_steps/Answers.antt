use Rattle.std.proofs.Common.{◌≡◌, Err, refl, sym, subst}
use Rattle.std.specs.Prelude.{IfSome}
use Rattle.tp_text.proofs.Watchings.{read_unwritten}
use Rattle.poolrun_commands.specs.Status.{Ends}
use Rattle.poolrun_commands.specs.Steps.{RunsSteps}
use Rattle.poolrun_commands.proofs.Ends.{not_long, not_read_long}
use Rattle.poolrun_commands.proofs.Runs.{plays_from, plays_unread}
use Rattle.poolrun_commands.proofs.steps.run_steps.Goals as goal

pub returns-in-Err-clause-runs : goal.returns-in-Err-clause-runs
returns-in-Err-clause-runs g c =
    let input = g.R.Read.remaining c.args.reader.now.inner in
    let ended = c.in-Err.ensures.ended in
    let e = ended.refusal in (
      Err e,
      c.args.out.now,
      record {
        plays = plays_unread g.W.Write.contents c.args.playing input c.args.out.now e ended.reads;
        long = not_read_long input e ended.reads;
        unread = λ is. refl;
        tells_reader = ended.tells_reader;
      },
      ended.status,
      ended.finished,
    )

pub returns-clause-runs : goal.returns-clause-runs
returns-clause-runs g c =
    let input = g.R.Read.remaining c.args.reader.now.inner in
    let text = c.as_slice-text.result.now in
    let known = subst (λ t. IfSome input (λ xs. t ≡ xs)) (sym c.as_slice-text.ensures.value) c.in-Ok.ensures.whole in
    let played = c.play-outcome in
    let status = c.finish-status in
    subst (λ old. Ends g.W.Write.contents (RunsSteps g.R.Read.remaining g.W.Write.contents c.args.playing c.args.reader.now c.text_or_status.new.reader old) status.result status.new.writer)
    c.in-Ok.ensures.unwritten (
      played.result,
      played.new.out,
      record {
        plays = plays_from g.W.Write.contents c.args.playing input text c.text_or_status.new.out played.new.out played.result known played.ensures.plays;
        long = not_long input c.in-Ok.text.items _ c.in-Ok.ensures.whole c.in-Ok.ensures.short;
        unread = λ is. absurd (played.ensures.reads is);
        tells_reader = read_unwritten c.args.reader.now c.text_or_status.new.reader c.in-Ok.text played.result c.in-Ok.ensures.tells_reader played.ensures.reads;
      },
      status.ensures.status,
      status.ensures.finished,
    )
