-- What the report of a pool says of the last pass with which it was closed.
use Rattle.std.proofs.Common.{◌≡◌, List, [], ◌∷◌, ◌++◌, reverse, sym, ap, subst, ◌∙◌}
use Rattle.std.proofs.lemmas.List.{reverse-reverse}
use Rattle.tp_types.specs.declared.configs.Config.{Config}
use Rattle.tp_glance.specs.Word.{IsFrontOf}
use Rattle.tp_book.specs.PassView.{PassView}
use Rattle.tp_book.specs.declared.reports.Report.{Report}
use Rattle.tp_pool_holds.specs.Reports.{Reports}
use Rattle.tp_pool.proofs.Lasts.{last_is}

-- the record of a pool that was closed with this pass goes on from what it knew
pub front_of_report : (c : Config) (passes : List PassView) (last : PassView) (r : Report) → Reports c (passes ++ last ∷ []) r → IsFrontOf last.front (reverse r.entries.items)
front_of_report c passes last r reports =
    let turned : reports.history ≡ reverse r.entries.items = sym (ap reverse reports.tells.entries ∙ reverse-reverse reports.history) in
    subst (λ h. IsFrontOf last.front h) turned (last_is (λ (p : PassView). IsFrontOf p.front reports.history) passes last reports.fronts)
