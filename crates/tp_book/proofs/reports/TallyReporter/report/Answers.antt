use Rattle.std.proofs.Common.{◌≡◌, ◌+◌, Option, Some, None, arith, subst}
use Rattle.std.specs.Prelude.{IfSome}
use Rattle.tp_types.specs.declared.states.Counts.{Counts}
use Rattle.tp_record.specs.State.{state}
use Rattle.tp_machine.specs.Seen.{config_of}
use Rattle.tp_book.specs.Reports.{fates_of, unended_of}
use Rattle.tp_book.proofs.Closing.{unended_left}
use Rattle.tp_book.proofs.reports.TallyReporter.report.Goals as goal

if_some : {X : Type 0} (F : X → Type 0) → ((x : X) → F x) → (here : Option X) → IfSome here F
if_some F each (Some x) = each x
if_some F each None = tt

pub returns : goal.returns
returns g c = if_some _ (λ m h rs stands steps counts.
    let settings = config_of m in
    let whole = unended_left settings h in
    let told = subst (λ (n : Counts). c.unended.result + fates_of n ≡ n.submitted) counts c.unended.ensures in
    let fateless : c.unended.result ≡ unended_of (state settings h) = omega (arith, whole, told) in record {
      steps = steps;
      counts = counts;
      fateless = fateless;
      unended = c.unended.ensures;
    }) c.args.machine.now
