use Rattle.std.proofs.Common.{ap, sym, ◌∙◌}
use Rattle.std.specs.Prelude.{nat_eq}
use Rattle.std.specs.Map.{lookup}
use Rattle.std.proofs.lemmas.Bool.{false≢true}
use Rattle.tp_tasks.specs.Homes.{is_purgeable, passes, row_of_task}
use Rattle.tp_tasks.proofs.AtHome.{found_free}
use Rattle.tp_tasks.proofs.table.none.Goals as goal

pub invariant_of-result-clause-named : goal.invariant_of-result-clause-named
invariant_of-result-clause-named g c = λ u pass.
    absurd (false≢true (sym (ap (λ o. passes is_purgeable (row_of_task o)) (found_free c.new.result.items 0 c.new.ensures.items c.new-2.result u ∙ ap (lookup (nat_eq u)) c.new-2.ensures.empty)) ∙ pass))
