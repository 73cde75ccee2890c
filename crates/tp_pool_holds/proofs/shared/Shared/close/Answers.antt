use Rattle.std.proofs.Common.{All, sym, subst}
use Rattle.tp_record.specs.Step.{Legal}
use Rattle.tp_laws.specs.Laws.{HasGoodSizes}
use Rattle.tp_laws.proofs.Sizes.{sizes_at}
use Rattle.tp_book.specs.Reports.{IsOwn}
use Rattle.tp_pool_holds.specs.Closing.{KeepsOpen}
use Rattle.tp_pool_holds.specs.declared.tasks.Payload.{Payload}
use Rattle.tp_pool_holds.proofs.Moments.{keeps_open}
use Rattle.tp_pool_holds.proofs.shared.Shared.close.Goals as goal

pub returns-in-Ok-clause-report : goal.returns-in-Ok-clause-report
returns-in-Ok-clause-report g c =
    let book = c.part-book.result.0 in
    let config = g.G.PoolNaming.config in
    let terms = g.K.Recorder.terms config in
    let told = c.in-Ok.ensures in
    let settings = c.part-book.ensures.settings in
    let good = c.part-book.ensures.good in
    let limit = c.law_limit.ensures config good in
    let sizes : HasGoodSizes terms = subst HasGoodSizes (sym limit.2) (sizes_at config limit.0 good limit.1) in
    let legal = subst (λ k. Legal k book.history) settings told.stands.stands.legal in record {
      good = good;
      history = book.history;
      legal = legal;
      lawful = c.law_legal_is_lawful.ensures _ _ sizes legal;
      ended = told.ended;
      tells = subst (λ k. g.K.Reporter.told k book.history c.in-Ok.report) settings told.told;
      workers = c.part-book.result.1;
      shares = told.shares;
      receipts = subst (λ k. All (λ p. IsOwn k book.history p.number p.receipts) c.args.passes.items) told.keeps told.receipts;
      fronts = told.fronts;
    }

pub returns-in-Err-clause-refused : goal.returns-in-Err-clause-refused
returns-in-Err-clause-refused g c =
    let book = c.part-book.result.0 in
    let terms = g.K.Recorder.terms g.G.PoolNaming.config in
    let told = c.in-Err.ensures in
    subst (λ e. KeepsOpen (Payload g.row.J.Denot) terms c.args.passes.items e) (sym c.reopened.ensures.error)
    (keeps_open book terms (record { settings = c.part-book.ensures.settings; stands = told.stands; accounted = told.accounted })
    c.args.passes.items told.fronts c.part-book.result.1.passes c.in-Err.unclosed.error told.refused)
