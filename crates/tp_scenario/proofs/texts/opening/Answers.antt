use Rattle.std.proofs.Common.{refl, Err, add-one}
use Rattle.tp_scenario.proofs.ReadLaws.{Cut, opening_few, opening_skip, text_bad, text_pool}
use Rattle.tp_scenario.proofs.texts.opening.Goals as goal

pub returns-in-Pool-clause-few : goal.returns-in-Pool-clause-few
returns-in-Pool-clause-few g c =
    let form = g.L.LineForm in
    let cut : Cut c.loop-line.rest.now c.in-Some.line.now c.in-Some.behind.now = record { whole = c.in-Some.ensures.0; line_only = c.in-Some.ensures.1 } in
    opening_few form.text_of form.fits c.args.text.now c.loop-line.number c.loop-line.rest.now c.in-Some.line.now c.in-Some.behind.now c.loop-line.invariant cut c.requires

pub returns-in-Pool-clause-pool : goal.returns-in-Pool-clause-pool
returns-in-Pool-clause-pool g c =
    let form = g.L.LineForm in
    let cut : Cut c.loop-line.rest.now c.in-Some.line.now c.in-Some.behind.now = record { whole = c.in-Some.ensures.0; line_only = c.in-Some.ensures.1 } in
    λ said say. c.loop-line.invariant.on _ (text_pool form.text_of form.fits c.loop-line.number c.loop-line.rest.now c.in-Some.line.now c.in-Some.behind.now c.in-Pool.pool said cut c.in-Pool.ensures (rw (← add-one c.loop-line.number) say))

pub returns-in-Bad-clause-bad : goal.returns-in-Bad-clause-bad
returns-in-Bad-clause-bad g c =
    let form = g.L.LineForm in
    let cut : Cut c.loop-line.rest.now c.in-Some.line.now c.in-Some.behind.now = record { whole = c.in-Some.ensures.0; line_only = c.in-Some.ensures.1 } in
    c.loop-line.invariant.on (Err c.loop-line.number) (text_bad form.text_of form.fits c.loop-line.number c.loop-line.rest.now c.in-Some.line.now c.in-Some.behind.now cut c.in-Bad.ensures)

pub loop-line-preserved : goal.loop-line-preserved
loop-line-preserved g c =
    let form = g.L.LineForm in
    let cut : Cut c.loop-line.rest.now c.in-Some.line.now c.in-Some.behind.now = record { whole = c.in-Some.ensures.0; line_only = c.in-Some.ensures.1 } in
    opening_skip form.text_of form.fits c.args.text.now c.loop-line.number _ c.loop-line.rest.now c.in-Some.line.now c.in-Some.behind.now c.loop-line.invariant cut c.in-Skipped.ensures refl
