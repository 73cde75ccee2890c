use Rattle.std.proofs.Common.{◌≡◌, ◌+◌, ◌≤◌, ap, ◌∙◌, subst}
use Rattle.std.specs.Prelude.{Ok, IfOk, IfErr}
use Rattle.tp_record.specs.declared.entries.Ask.TheVariants as ask
use Rattle.tp_record.specs.declared.entries.Did.TheVariants as did
use Rattle.tp_record.specs.declared.entries.Seconded.TheVariants as seconded
use Rattle.tp_machine_state.specs.Payloads.{Keeps}
use Rattle.tp_pool_holds.specs.Passes.{AddsStep, IsRefusal}
use Rattle.tp_pool_holds.specs.Waits.{HasNoOutcome}
use Rattle.tp_pool_holds.proofs.Adding.{added, refusals}
use Rattle.tp_pool_holds.proofs.Left.{left_at, shown_after}
use Rattle.tp_pool_holds.proofs.shared.Shared.second.Goals as goal

pub returns-in-Ok-clause-remains : goal.returns-in-Ok-clause-remains
returns-in-Ok-clause-remains g c = λ back.
    let hold = c.step-answer in
    let same : c.in-Ok.answer ≡ seconded.Back = cc in
    left_at {J = g.row.J.Denot} (g.K.Recorder.terms g.G.PoolNaming.config) c.deref.result.now hold.new.self hold.new.pass.front c.left_by_second-remains.result c.deref.ensures
    (shown_after {J = g.row.J.Denot} g.K.Recorder.RECEIPTS (ask.Second c.args.t) c.deref_mut.result.now hold.new.self hold.new.pass.front hold.result hold.ensures.front hold.ensures.denies)
    (c.left_by_second-remains.ensures (c.in-Ok.is ∙ ap (λ x. Ok x) same))

pub returns-in-Err-clause-refused : goal.returns-in-Err-clause-refused
returns-in-Err-clause-refused g c =
    let refuses = IsRefusal g.K.Recorder.RECEIPTS (g.K.Recorder.terms g.G.PoolNaming.config) c.step-answer.new.pass (ask.Second c.args.t) in (
      c.in-Err.field-0,
      subst (λ r. IfErr r (λ e. HasNoOutcome (ask.Second c.args.t) → refuses e)) c.in-Err.is (refusals {J = g.row.J.Denot} (g.K.Recorder.terms g.G.PoolNaming.config) g.K.Recorder.RECEIPTS c.deref_mut.result.now c.step-answer.new.self c.step-answer.ensures.stands c.step-answer.new.pass (ask.Second c.args.t) c.step-answer.result c.step-answer.ensures.denies
          c.step-answer.ensures.front.1 c.step-answer.ensures.released) tt,
    )

pub returns-in-Ok-clause-step : goal.returns-in-Ok-clause-step
returns-in-Ok-clause-step g c =
    let hold = c.step-answer in
    let terms = g.K.Recorder.terms g.G.PoolNaming.config in
    let step = added terms c.args.pass.now hold.new.pass (ask.Second c.args.t) (c.args.pass.now.room ≤ hold.new.pass.room + 1) (λ x. did.Second c.args.t x) (λ x. λ old new. Keeps old new) hold.result hold.ensures.makes hold.ensures.paid in
    subst (λ r. IfOk r (λ x. AddsStep terms c.args.pass.now (ask.Second c.args.t) (did.Second c.args.t x) hold.new.pass)) c.in-Ok.is step
