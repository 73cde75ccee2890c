use Rattle.std.proofs.Common.{◌≡◌, ◌↔◌, subst}
use Rattle.std.specs.Prelude.{IsTrue, IsSomeAnd}
use Rattle.tp_record.specs.declared.rows.Stage.TheVariants as stages
use Rattle.tp_record.specs.State.{state, slot_at}
use Rattle.tp_laws.proofs.Left.Marks.{left_slots}
use Rattle.tp_machine.specs.Readings.{IsDyingAt}
use Rattle.tp_machine.specs.Seen.{config_of}
use Rattle.tp_book.proofs.Reading.{holds}
use Rattle.tp_book.proofs.book.Book.is_dying.Goals as goal

pub returns : goal.returns
returns g c =
    holds g.R.Recorder.tells g.R.Recorder.terms c.self.inside.machine c.self.inside.seat g.R.Recorder.RECEIPTS c.self.inside.accounts c.self.invariant.0 c.args.self.now c.self.view_is (λ s. IsTrue c.is_dying.result ↔ IsDyingAt s c.args.w.0) c.is_dying.ensures
    (λ is. subst (λ xs. IsTrue c.is_dying.result ↔ IsSomeAnd (slot_at xs c.args.w.0) (λ r. r.stage ≡ stages.Dying)) (left_slots c.self.inside.seat.released (state (config_of c.self.inside.machine) c.self.inside.seat.entries)) is)
