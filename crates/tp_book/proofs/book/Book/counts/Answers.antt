use Rattle.tp_record.specs.State.{counts}
use Rattle.tp_laws.proofs.Left.LeftOut.{counts_legal}
use Rattle.tp_machine.specs.Seen.{config_of}
use Rattle.tp_book.proofs.Reading.{reads}
use Rattle.tp_book.proofs.book.Book.counts.Goals as goal

pub returns : goal.returns
returns g c =
    let held = c.self.invariant.0 in
    reads g.R.Recorder.tells g.R.Recorder.terms c.self.inside.machine c.self.inside.seat g.R.Recorder.RECEIPTS c.self.inside.accounts c.self.invariant.0 c.args.self.now c.self.view_is counts _ c.counts.ensures (counts_legal (config_of c.self.inside.machine) c.self.inside.seat.entries held.stands.legal c.self.inside.seat.released held.stands.may)
