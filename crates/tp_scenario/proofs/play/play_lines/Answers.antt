use Rattle.std.proofs.Common.{Some, None, refl, arith, add-one}
use Rattle.std.proofs.lemmas.Bool.Decides.{nat_tests}
use Rattle.tp_scenario.specs.Answered.{settings_of}
use Rattle.tp_scenario.specs.Lines.{FitsLine, line_text}
use Rattle.tp_scenario.proofs.PlayLaws.{going_broken, going_first, going_line, going_skip, going_whole}
use Rattle.tp_scenario.proofs.ReadLaws.{Cut, lines_bad, lines_none, lines_rest}
use Rattle.tp_scenario.proofs.play.play_lines.Goals.{in-Skipped, in-Says+in_default-play_line}
use Rattle.tp_scenario.proofs.play.play_lines.Goals as goal

pub loop-line-init : goal.loop-line-init
loop-line-init g c =
    going_first g.L.Listener.heard (settings_of c.args.runner.now) c.args.first c.args.text.now c.args.runner.now c.args.output.now.written.items c.args.listener.now c.requires.starts c.requires.begun

pub returns-in-Err : goal.returns-in-Err
returns-in-Err g c =
    let at = c.loop-line in
    let cut : Cut at.rest.now c.in-Some.line.now c.in-Some.behind.now = record { whole = c.in-Some.ensures.0; line_only = c.in-Some.ensures.1 } in
    going_broken g.L.Listener.heard (settings_of c.args.runner.now) c.args.first c.args.text.now at.number at.rest.now c.in-Some.line.now c.in-Some.behind.now at.accepted at.runner c.play_line.new.runner at.output.written.items c.play_line.new.output.written.items at.listener c.play_line.new.listener
    c.in-Says.step c.in-Err.error c.first_bad.result at.invariant cut c.in-Says.ensures c.in-Err.ensures.only_memory c.in-Err.ensures.err (rw (← add-one at.number) c.first_bad.ensures)

pub returns-in-Bad : goal.returns-in-Bad
returns-in-Bad g c =
    let at = c.loop-line in
    let cut : Cut at.rest.now c.in-Some.line.now c.in-Some.behind.now = record { whole = c.in-Some.ensures.0; line_only = c.in-Some.ensures.1 } in
    going_whole g.L.Listener.heard (settings_of c.args.runner.now) c.args.first c.args.text.now at.number at.rest.now at.accepted at.runner at.output.written.items at.listener (Some at.number) at.invariant
    (lines_bad line_text FitsLine at.number at.rest.now c.in-Some.line.now c.in-Some.behind.now cut c.in-Bad.ensures)

pub loop-line-preserved : goal.loop-line-preserved
loop-line-preserved g c =
    let at = c.loop-line in
    let cut : Cut at.rest.now c.in-Some.line.now c.in-Some.behind.now = record { whole = c.in-Some.ensures.0; line_only = c.in-Some.ensures.1 } in
    elim c.match-read_line.branch [
      | in-Skipped w ↦ rw (w.runner-is, w.listener-is, w.output-is, w.accepted-is)
          (going_skip g.L.Listener.heard (settings_of c.args.runner.now) c.args.first c.args.text.now at.number _ at.rest.now c.in-Some.line.now c.in-Some.behind.now at.accepted at.runner at.output.written.items at.listener at.invariant cut w.in-Skipped.ensures refl)
      | in-Says+in_default-play_line w ↦ rw (w.runner-is, w.listener-is, w.output-is, w.accepted-is)
          (going_line g.L.Listener.heard (settings_of c.args.runner.now) c.args.first c.args.text.now at.number _ at.rest.now c.in-Some.line.now c.in-Some.behind.now at.accepted w.play_line.new.accepted at.runner w.play_line.new.runner at.output.written.items w.play_line.new.output.written.items at.listener w.play_line.new.listener
          w.in-Says.step at.invariant cut w.in-Says.ensures refl w.in_default-play_line.ensures.ok w.play_line.ensures.few)
    ]

pub returns-then-is_empty : goal.returns-then-is_empty
returns-then-is_empty g c =
    let at = c.loop-line in
    going_whole g.L.Listener.heard (settings_of c.args.runner.now) c.args.first c.args.text.now at.number at.rest.now at.accepted at.runner at.output.written.items at.listener None at.invariant
    (lines_none line_text FitsLine at.number at.rest.now (grind (arith, nat_tests, c.if-is_empty.ensures)))

pub returns-else-is_empty : goal.returns-else-is_empty
returns-else-is_empty g c =
    let at = c.loop-line in
    going_whole g.L.Listener.heard (settings_of c.args.runner.now) c.args.first c.args.text.now at.number at.rest.now at.accepted at.runner at.output.written.items at.listener (Some at.number) at.invariant
    (lines_rest line_text FitsLine at.number at.rest.now (grind (arith, nat_tests, c.if-is_empty.ensures)) c.in_default.ensures)
