use Rattle.std.proofs.Common.{◌-◌, ◌^◌, arith, refl}
use Rattle.tp_book.proofs.reports.TallyReporter.law_limit.Goals as goal

pub returns : goal.returns
returns c = λ k good. (2 ^ 64 - 1, omega arith, refl)
