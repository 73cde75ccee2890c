use Rattle.std.proofs.Common.{◌≤◌, length, arith, refl, sym, ap, subst, ◌∙◌}
use Rattle.tp_types.specs.declared.states.Counts.{Counts}
use Rattle.tp_record.specs.State.{counts}
use Rattle.tp_book.specs.BookView.{config, state_of}
use Rattle.tp_book.specs.Reports.{fates_of}
use Rattle.tp_book.proofs.Closing.{unended_left}
use Rattle.tp_book.proofs.book.Book.into_report.Goals as goal

pub report-requires : goal.report-requires
report-requires g c =
    let whole = unended_left (config c.args.self) c.args.self.history in
    record { here = refl; counted = subst (λ (n : Counts). fates_of n ≤ n.submitted) (sym c.counts-counts.ensures) (omega (arith, whole)) }

pub returns-clause-told : goal.returns-clause-told
returns-clause-told g c =
    let held = c.self.invariant.0 in
    let same = sym c.self.view_is in
    subst (λ b. g.R.Reporter.told (config b) b.history c.report.result) c.self.view_is
    (c.report.ensures c.self.inside.seat.entries c.self.inside.seat.released held.stands
    (c.steps-steps.ensures ∙ ap (λ b. length b.history) same) (c.counts-counts.ensures ∙ ap (λ b. counts (state_of b)) same))
