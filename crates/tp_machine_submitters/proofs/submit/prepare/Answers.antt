use Rattle.std.proofs.Common.{sym, ap, ◌∙◌}
use Rattle.tp_record.specs.Left.{mark}
use Rattle.tp_record.specs.State.{state}
use Rattle.tp_machine_state.proofs.Standing.{stands_same, accepts_same}
use Rattle.tp_machine_state.specs.Terms.{terms}
use Rattle.tp_machine_submitters.proofs.submit.prepare.Goals as goal

pub returns-clause-stands : goal.returns-clause-stands
returns-clause-stands g c =
    let m = c.make_room.ensures in
    stands_same c.args.parts.now c.make_room.new.self (ap terms m.rest) m.same (ap (λ p. p.steps) m.rest) m.tied c.requires.stands

pub returns-clause-accepts : goal.returns-clause-accepts
returns-clause-accepts g c = λ a d accepts.
    let m = c.make_room.ensures in
    accepts_same c.args.parts.now c.make_room.new.self (ap terms m.rest) m.same a d accepts

pub returns-clause-submitted : goal.returns-clause-submitted
returns-clause-submitted g c =
    let stands = c.requires.stands in
    let shown = (c.make_room.ensures.same (mark stands.released (state (terms c.args.parts.now) stands.history))).0 stands.shows in
    sym shown.seen.submitted ∙ stands.shows.seen.submitted
