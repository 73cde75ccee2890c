use Rattle.tp_book.proofs.Reading.{known, kept, unknown}
use Rattle.tp_book.proofs.book.Book.promise.Goals as goal

pub returns-clause-known : goal.returns-clause-known
returns-clause-known g c = known g.R.Recorder.tells g.R.Recorder.terms c.self.inside.machine c.self.inside.seat g.R.Recorder.RECEIPTS c.self.inside.accounts c.self.invariant.0 c.args.self.now c.self.view_is c.args.t.0 _ c.promise.ensures.known

pub returns-clause-kept : goal.returns-clause-kept
returns-clause-kept g c = kept g.R.Recorder.tells g.R.Recorder.terms c.self.inside.machine c.self.inside.seat g.R.Recorder.RECEIPTS c.self.inside.accounts c.self.invariant.0 c.args.self.now c.self.view_is c.law_forgets_at_will.ensures.whole c.args.t.0 _ c.promise.ensures.known

pub returns-clause-unknown : goal.returns-clause-unknown
returns-clause-unknown g c = unknown g.R.Recorder.tells g.R.Recorder.terms c.self.inside.machine c.self.inside.seat g.R.Recorder.RECEIPTS c.self.inside.accounts c.self.invariant.0 c.args.self.now c.self.view_is c.law_forgets_at_will.ensures.whole c.args.t.0 _ c.promise.ensures.unknown
