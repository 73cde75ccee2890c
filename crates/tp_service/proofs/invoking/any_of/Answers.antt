use Rattle.std.proofs.Common.{◌≡◌, false, ap, sym, ◌∙◌}
use Rattle.std.proofs.lemmas.Bool.{true≢false}
use Rattle.std.specs.Prelude.{Some, None, Err}
use Rattle.std.specs.Result.{result_transpose}
use Rattle.tp_pool_holds.proofs.Receipts.{looks_none, none_behind}
use Rattle.tp_service.specs.Futures.{later_fault}
use Rattle.tp_service.proofs.Given.{any_at, fails_next}
use Rattle.tp_service.proofs.invoking.any_of.Goals.{in-None, in-Some-Err}
use Rattle.tp_service.proofs.invoking.any_of.Goals as goal

pub returns-in-Some-Ok-clause-value : goal.returns-in-Some-Ok-clause-value
returns-in-Some-Ok-clause-value g c =
    let told = c.result_with.ensures in
    any_at g.K.Recorder.RECEIPTS (g.K.Recorder.terms g.G.PoolNaming.config) c.args.tasks.now c.loop-t.t-index _ c.loop-t-test.true c.result_with.result c.loop-t.pass c.result_with.new.pass told.looks told.knew told.reads
    c.transpose-found.result c.transpose-found.ensures

pub loop-t-preserved : goal.loop-t-preserved
loop-t-preserved g c =
    let told = c.result_with.ensures in (
      elim c.match-found.branch [
        | in-None w ↦ (λ (shut : c.match-found.open ≡ false). absurd (true≢false (sym w.open-is ∙ shut)))
        | in-Some-Err w ↦ (λ (shut : c.match-found.open ≡ false).
            let was : c.loop-t.open ≡ false = sym w.open-is ∙ shut in
            let inner = rw w.in-Some-Err.is at w.in-Some-Err.field-0-is in
            let is : result_transpose c.result_with.result ≡ Some (Err w.in-Some-Err.error) = sym c.transpose-found.ensures ∙ w.in-Some-Err.is ∙ ap (λ r. Some r) inner in
            let last : c.match-found.fault ≡ later_fault c.loop-t.fault w.in-Some-Err.error = w.fault-is ∙ w.later_fault-fault.ensures in
            fails_next g.K.Recorder.RECEIPTS (g.K.Recorder.terms g.G.PoolNaming.config) c.args.tasks.now c.loop-t.t-index _ c.loop-t-test.true c.result_with.result c.loop-t.pass c.result_with.new.pass told.looks told.knew told.reads
            c.args.pass.now None c.loop-t.fault c.match-found.fault w.in-Some-Err.error is last (c.loop-t.invariant.0 was))
      ],
      none_behind c.args.pass.now c.loop-t.pass c.result_with.new.pass c.loop-t.invariant.1 (looks_none (g.K.Recorder.terms g.G.PoolNaming.config) c.loop-t.pass c.result_with.new.pass told.looks),
    )

pub returns-in-Some-Ok-clause-looks : goal.returns-in-Some-Ok-clause-looks
returns-in-Some-Ok-clause-looks g c =
    none_behind c.args.pass.now c.loop-t.pass c.result_with.new.pass c.loop-t.invariant.1
    (looks_none (g.K.Recorder.terms g.G.PoolNaming.config) c.loop-t.pass c.result_with.new.pass c.result_with.ensures.looks)
