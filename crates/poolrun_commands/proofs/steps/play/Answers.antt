use Rattle.tp_scenario.proofs.HeardLaws.{heard_whole}
use Rattle.poolrun_commands.proofs.Runs.{heard_refusals, passes_so, plays_record, plays_refused, plays_whole, run_played}
use Rattle.poolrun_commands.proofs.steps.play.Goals as goal

pub returns-then-playing-clause-plays : goal.returns-then-playing-clause-plays
returns-then-playing-clause-plays g c =
    let r = c.play_for_record in
    plays_record g.W.Write.contents c.args.playing c.args.text.now c.args.out.now r.new.out r.result c.if-playing.true r.ensures.record r.ensures.passed r.ensures.tells_writer

pub returns-in-Ok-clause-plays : goal.returns-in-Ok-clause-plays
returns-in-Ok-clause-plays g c =
    let contents = g.W.Write.contents in
    let ran = c.run_text-outcome in
    let old = c.args.out.now in
    let text = c.args.text.now in
    let played = run_played text (contents old.inner) (contents ran.new.writer.inner) c.in-Ok.ensures.runs in
    let whole = heard_whole heard_refusals text played.0 ran.new.listener played.1 c.in-Ok.ensures.heard in
    let passes = c.passes in
    plays_whole contents c.args.playing text old ran.new.writer passes.result c.if-playing.false c.in-Ok.ensures.runs c.in-Ok.ensures.tells_writer
    (passes_so text c.args.playing.is_strict passes.result ran.new.listener.is_whole whole.0 whole.1 whole.2 whole.3 passes.ensures.each passes.ensures.strict)

pub returns-clause-plays : goal.returns-clause-plays
returns-clause-plays g c =
    plays_refused g.W.Write.contents c.args.playing c.args.text.now c.args.out.now c.run_text-outcome.new.writer c.in-Err.refusal c.if-playing.false c.in-Err.ensures.runs c.in-Err.ensures.tells_writer
