use Rattle.std.proofs.Common.{Some, None, refl, arith}
use Rattle.std.proofs.lemmas.Bool.Decides.{nat_tests}
use Rattle.tp_scenario.proofs.ReadLaws.{Cut, lines_all, lines_bad, lines_none, lines_rest, searching_on}
use Rattle.tp_scenario.proofs.texts.first_bad.Goals as goal

pub loop-line-preserved : goal.loop-line-preserved
loop-line-preserved g c =
    let form = g.L.LineForm in
    let cut : Cut c.loop-line.rest.now c.in-Some.line.now c.in-Some.behind.now = record { whole = c.in-Some.ensures.0; line_only = c.in-Some.ensures.1 } in
    searching_on form.text_of form.fits c.args.first c.args.text.now c.loop-line.number _ c.loop-line.rest.now c.in-Some.line.now c.in-Some.behind.now c.read_line.result c.loop-line.invariant cut c.read_line.ensures c.in_default-read_line.not-Bad refl

pub returns-in-Bad : goal.returns-in-Bad
returns-in-Bad g c =
    let form = g.L.LineForm in
    let cut : Cut c.loop-line.rest.now c.in-Some.line.now c.in-Some.behind.now = record { whole = c.in-Some.ensures.0; line_only = c.in-Some.ensures.1 } in
    let so_far = c.loop-line.invariant in (
      so_far.before,
      lines_all form.text_of form.fits c.args.first c.args.text.now c.loop-line.number c.loop-line.rest.now so_far.before (Some c.loop-line.number) so_far.reading
          (lines_bad form.text_of form.fits c.loop-line.number c.loop-line.rest.now c.in-Some.line.now c.in-Some.behind.now cut c.in-Bad.ensures),
    )

pub returns-then-is_empty : goal.returns-then-is_empty
returns-then-is_empty g c =
    let form = g.L.LineForm in
    let so_far = c.loop-line.invariant in (
      so_far.before,
      lines_all form.text_of form.fits c.args.first c.args.text.now c.loop-line.number c.loop-line.rest.now so_far.before None so_far.reading
          (lines_none form.text_of form.fits c.loop-line.number c.loop-line.rest.now (grind (arith, nat_tests, c.if-is_empty.ensures))),
    )

pub returns-else-is_empty : goal.returns-else-is_empty
returns-else-is_empty g c =
    let form = g.L.LineForm in
    let so_far = c.loop-line.invariant in (
      so_far.before,
      lines_all form.text_of form.fits c.args.first c.args.text.now c.loop-line.number c.loop-line.rest.now so_far.before (Some c.loop-line.number) so_far.reading
          (lines_rest form.text_of form.fits c.loop-line.number c.loop-line.rest.now (grind (arith, nat_tests, c.if-is_empty.ensures)) c.in_default.ensures),
    )
