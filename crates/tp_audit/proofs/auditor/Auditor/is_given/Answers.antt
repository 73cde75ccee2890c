use Rattle.std.proofs.Common.{◌≡◌, ◌↔◌, ◌&&◌, IsTrue, Ok, subst}
use Rattle.std.specs.Prelude.{unwrap_or}
use Rattle.tp_record.specs.Effects.{reserves}
use Rattle.tp_record.specs.State.{state}
use Rattle.tp_record.specs.Step.{fitting, Gives}
use Rattle.tp_audit.specs.Audited.{Judge}
use Rattle.tp_audit.specs.Owed.{room_by}
use Rattle.tp_audit.specs.Tables.{shown}
use Rattle.tp_audit.proofs.Judging.{unfit, fit}
use Rattle.tp_audit.proofs.Standing.{few_shown, due_shown}
use Rattle.tp_audit.proofs.auditor.Auditor.is_given.Goals as goal

pub has_room-requires-clause-sizes : goal.has_room-requires-clause-sizes
has_room-requires-clause-sizes c = few_shown c.self.inside.config c.self.invariant.0 c.self.inside.tables c.self.invariant.1

pub has_room-requires-clause-due : goal.has_room-requires-clause-due
has_room-requires-clause-due c = due_shown c.self.inside.config c.self.invariant.0 c.self.inside.tables c.self.invariant.1

pub returns-then-not-fits : goal.returns-then-not-fits
returns-then-not-fits c = λ h at.
    let self = c.args.self.now in
    let d = c.args.did in
    let fits = subst (λ b. IsTrue b ↔ (fitting self.config (state self.config h) (unwrap_or (reserves d) 0) c.args.ask ≡ Ok d)) c.if-not-fits.true (c.fits.ensures h at) in
    unfit self.config h self.tables at c.args.ask d fits

pub returns-then-has_free_number : goal.returns-then-has_free_number
returns-then-has_free_number c = λ h at.
    let self = c.args.self.now in
    let d = c.args.did in
    let fits = subst (λ b. IsTrue b ↔ (fitting self.config (state self.config h) (unwrap_or (reserves d) 0) c.args.ask ≡ Ok d)) c.if-not-fits.false (c.fits.ensures h at) in
    let room = subst (λ (a : Judge). c.has_room.result ≡ room_by a.config d (shown a.tables) a.tables.due) c.self.view_is c.has_room.ensures in
    subst (λ b. IsTrue (b && c.has_room.result) ↔ Gives self.config (state self.config h) c.args.ask d) c.if-has_free_number.true
    (fit self.config h self.tables at c.args.ask d c.has_free_number.result c.has_room.result fits c.has_free_number.ensures room)
