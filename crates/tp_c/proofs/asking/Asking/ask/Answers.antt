use Rattle.tp_c.specs.Asks.{switch}
use Rattle.tp_c.proofs.Unasked.{any_at, if_none, nothing_at, small_at}
use Rattle.tp_c.proofs.asking.Asking.ask.Goals as goal

pub returns-in_err-size-in-2-clause-none : goal.returns-in_err-size-in-2-clause-none
returns-in_err-size-in-2-clause-none c = if_none c.from_residual-in_err-size-in-2.result (nothing_at c.args.self 2 c.in-2.is (small_at c.args.self 2 c.in-2.is c.in_err-size-in-2.ensures.none))

pub returns-in_err-size-in-3-clause-none : goal.returns-in_err-size-in-3-clause-none
returns-in_err-size-in-3-clause-none c = if_none c.from_residual-in_err-size-in-3.result (nothing_at c.args.self 3 c.in-3.is (small_at c.args.self 3 c.in-3.is c.in_err-size-in-3.ensures.none))

pub returns-in_err-size-in-4-clause-none : goal.returns-in_err-size-in-4-clause-none
returns-in_err-size-in-4-clause-none c = if_none c.from_residual-in_err-size-in-4.result (nothing_at c.args.self 4 c.in-4.is (small_at c.args.self 4 c.in-4.is c.in_err-size-in-4.ensures.none))

pub returns-in_err-size-in-5-clause-none : goal.returns-in_err-size-in-5-clause-none
returns-in_err-size-in-5-clause-none c = if_none c.from_residual-in_err-size-in-5.result (nothing_at c.args.self 5 c.in-5.is (small_at c.args.self 5 c.in-5.is c.in_err-size-in-5.ensures.none))

pub returns-in_err-size-in-18-clause-none : goal.returns-in_err-size-in-18-clause-none
returns-in_err-size-in-18-clause-none c = if_none c.from_residual-in_err-size-in-18.result (nothing_at c.args.self 18 c.in-18.is (small_at c.args.self 18 c.in-18.is c.in_err-size-in-18.ensures.none))

pub returns-in_err-size-in-21-clause-none : goal.returns-in_err-size-in-21-clause-none
returns-in_err-size-in-21-clause-none c = if_none c.from_residual-in_err-size-in-21.result (nothing_at c.args.self 21 c.in-21.is (small_at c.args.self 21 c.in-21.is c.in_err-size-in-21.ensures.none))

pub returns-in_err-size-in-22-clause-none : goal.returns-in_err-size-in-22-clause-none
returns-in_err-size-in-22-clause-none c = if_none c.from_residual-in_err-size-in-22.result (nothing_at c.args.self 22 c.in-22.is (small_at c.args.self 22 c.in-22.is c.in_err-size-in-22.ensures.none))

pub returns-in_err-size-in-23-clause-none : goal.returns-in_err-size-in-23-clause-none
returns-in_err-size-in-23-clause-none c = if_none c.from_residual-in_err-size-in-23.result (nothing_at c.args.self 23 c.in-23.is (small_at c.args.self 23 c.in-23.is c.in_err-size-in-23.ensures.none))

pub returns-in_err-lone-in-8-clause-none : goal.returns-in_err-lone-in-8-clause-none
returns-in_err-lone-in-8-clause-none c = if_none c.from_residual-in_err-lone-in-8.result (nothing_at c.args.self 8 c.in-8.is (any_at c.args.self 8 c.in-8.is c.in_err-lone-in-8.ensures.none))

pub returns-in_err-lone-in-9-clause-none : goal.returns-in_err-lone-in-9-clause-none
returns-in_err-lone-in-9-clause-none c = if_none c.from_residual-in_err-lone-in-9.result (nothing_at c.args.self 9 c.in-9.is (any_at c.args.self 9 c.in-9.is c.in_err-lone-in-9.ensures.none))

pub returns-in_err-lone-in-10-clause-none : goal.returns-in_err-lone-in-10-clause-none
returns-in_err-lone-in-10-clause-none c = if_none c.from_residual-in_err-lone-in-10.result (nothing_at c.args.self 10 c.in-10.is (any_at c.args.self 10 c.in-10.is c.in_err-lone-in-10.ensures.none))

pub returns-in_err-lone-in-11-clause-none : goal.returns-in_err-lone-in-11-clause-none
returns-in_err-lone-in-11-clause-none c = if_none c.from_residual-in_err-lone-in-11.result (nothing_at c.args.self 11 c.in-11.is (any_at c.args.self 11 c.in-11.is c.in_err-lone-in-11.ensures.none))

pub returns-in_err-lone-in-13-clause-none : goal.returns-in_err-lone-in-13-clause-none
returns-in_err-lone-in-13-clause-none c = if_none c.from_residual-in_err-lone-in-13.result (nothing_at c.args.self 13 c.in-13.is (any_at c.args.self 13 c.in-13.is c.in_err-lone-in-13.ensures.none))

pub returns-in_err-lone-in-24-clause-none : goal.returns-in_err-lone-in-24-clause-none
returns-in_err-lone-in-24-clause-none c = if_none c.from_residual-in_err-lone-in-24.result (nothing_at c.args.self 24 c.in-24.is (any_at c.args.self 24 c.in-24.is c.in_err-lone-in-24.ensures.none))

pub returns-in_err-lone-in-26-clause-none : goal.returns-in_err-lone-in-26-clause-none
returns-in_err-lone-in-26-clause-none c = if_none c.from_residual-in_err-lone-in-26.result (nothing_at c.args.self 26 c.in-26.is (any_at c.args.self 26 c.in-26.is c.in_err-lone-in-26.ensures.none))

pub returns-in_err-lone-in-25-clause-none : goal.returns-in_err-lone-in-25-clause-none
returns-in_err-lone-in-25-clause-none c = if_none c.from_residual-in_err-lone-in-25.result (nothing_at c.args.self 25 c.in-25.is (λ on. any_at c.args.self 25 c.in-25.is c.in_err-lone-in-25.ensures.none (switch on)))
