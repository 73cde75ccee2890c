use Rattle.std.proofs.Common.{Some, None, refl, arith}
use Rattle.std.proofs.lemmas.Bool.Decides.{nat_tests}
use Rattle.tp_scenario.proofs.ReadLaws.{Cut, lines_all, lines_bad, lines_none, lines_rest, reading_line, reading_skip}
use Rattle.tp_scenario.proofs.texts.said.Goals.{in-Skipped, in-Says+in_ok-push-in-Says}
use Rattle.tp_scenario.proofs.texts.said.Goals as goal

pub returns-in-Bad : goal.returns-in-Bad
returns-in-Bad g c =
    let form = g.L.LineForm in
    let cut : Cut c.loop-line.rest.now c.in-Some.line.now c.in-Some.behind.now = record { whole = c.in-Some.ensures.0; line_only = c.in-Some.ensures.1 } in
    lines_all form.text_of form.fits c.args.first c.args.text.now c.loop-line.number c.loop-line.rest.now c.loop-line.lines.items (Some c.loop-line.number) c.loop-line.invariant
    (lines_bad form.text_of form.fits c.loop-line.number c.loop-line.rest.now c.in-Some.line.now c.in-Some.behind.now cut c.in-Bad.ensures)

pub loop-line-preserved : goal.loop-line-preserved
loop-line-preserved g c =
    let form = g.L.LineForm in
    let cut : Cut c.loop-line.rest.now c.in-Some.line.now c.in-Some.behind.now = record { whole = c.in-Some.ensures.0; line_only = c.in-Some.ensures.1 } in
    elim c.match-read_line.branch [
      | in-Skipped w ↦ rw w.lines-is (reading_skip form.text_of form.fits c.args.first c.args.text.now c.loop-line.number _ c.loop-line.rest.now c.in-Some.line.now c.in-Some.behind.now c.loop-line.lines.items c.loop-line.invariant cut w.in-Skipped.ensures refl)
      | in-Says+in_ok-push-in-Says w ↦ rw (w.lines-is, w.in_ok-push-in-Says.ensures.items) (reading_line form.text_of form.fits c.args.first c.args.text.now c.loop-line.number _ c.loop-line.rest.now c.in-Some.line.now c.in-Some.behind.now c.loop-line.lines.items w.in-Says.line c.loop-line.invariant cut w.in-Says.ensures refl)
    ]

pub returns-then-is_empty : goal.returns-then-is_empty
returns-then-is_empty g c =
    let form = g.L.LineForm in
    lines_all form.text_of form.fits c.args.first c.args.text.now c.loop-line.number c.loop-line.rest.now c.loop-line.lines.items None c.loop-line.invariant
    (lines_none form.text_of form.fits c.loop-line.number c.loop-line.rest.now (grind (arith, nat_tests, c.if-is_empty.ensures)))

pub returns-else-is_empty : goal.returns-else-is_empty
returns-else-is_empty g c =
    let form = g.L.LineForm in
    lines_all form.text_of form.fits c.args.first c.args.text.now c.loop-line.number c.loop-line.rest.now c.loop-line.lines.items (Some c.loop-line.number) c.loop-line.invariant
    (lines_rest form.text_of form.fits c.loop-line.number c.loop-line.rest.now (grind (arith, nat_tests, c.if-is_empty.ensures)) c.in_default.ensures)
