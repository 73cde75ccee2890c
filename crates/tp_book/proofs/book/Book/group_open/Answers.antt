use Rattle.tp_machine.specs.Readings.{HasOpen}
use Rattle.tp_machine.specs.Seen.{config_of}
use Rattle.std.proofs.Common.{◌↔◌}
use Rattle.std.specs.Prelude.{IsTrue}
use Rattle.tp_book.proofs.Left.{open_left}
use Rattle.tp_book.proofs.Reading.{holds}
use Rattle.tp_book.proofs.book.Book.group_open.Goals as goal

pub returns : goal.returns
returns g c =
    let held = c.self.invariant.0 in
    let same = open_left (config_of c.self.inside.machine) c.self.inside.seat.entries c.self.inside.seat.released held.stands.legal held.stands.may c.args.g in
    holds g.R.Recorder.tells g.R.Recorder.terms c.self.inside.machine c.self.inside.seat g.R.Recorder.RECEIPTS c.self.inside.accounts c.self.invariant.0 c.args.self.now c.self.view_is (λ s. IsTrue c.group_open.result ↔ HasOpen c.args.g s) c.group_open.ensures
    (λ is. (λ yes. same.0 (is.0 yes), λ has. is.1 (same.1 has)))
