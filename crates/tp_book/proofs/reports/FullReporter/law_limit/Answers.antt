use Rattle.std.proofs.Common.{refl}
use Rattle.tp_book.proofs.reports.FullReporter.law_limit.Goals as goal

pub returns : goal.returns
returns c = λ k good. (k.record_limit, good.least_limit, refl)
