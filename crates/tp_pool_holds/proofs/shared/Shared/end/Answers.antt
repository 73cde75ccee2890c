use Rattle.std.proofs.Common.{sym, subst, ◌∙◌}
use Rattle.std.proofs.lemmas.Bool.{false≢true}
use Rattle.tp_record.specs.declared.entries.Ask.TheVariants as ask
use Rattle.tp_record.specs.declared.entries.Did.TheVariants as did
use Rattle.tp_record.specs.State.{state}
use Rattle.tp_machine_state.specs.Payloads.{Keeps}
use Rattle.tp_protocols.specs.declared.deeds.EndAnswer.TheVariants as ended
use Rattle.tp_pool_holds.specs.Steps.{IsEndOf}
use Rattle.tp_pool_holds.proofs.Asked.{asked}
use Rattle.tp_pool_holds.proofs.Left.{dying_at, shown_after}
use Rattle.tp_pool_holds.proofs.shared.Shared.end.Goals as goal

pub returns-in-Ok-clause-asks : goal.returns-in-Ok-clause-asks
returns-in-Ok-clause-asks g c =
    let hold = c.step-told in
    let terms = g.K.Recorder.terms g.G.PoolNaming.config in
    let front = hold.new.pass.front in
    let shown = shown_after {J = g.row.J.Denot} g.K.Recorder.RECEIPTS (ask.End c.args.w c.args.outcome) c.deref_mut.result.now hold.new.self front hold.result hold.ensures.front hold.ensures.denies in
    let dying = dying_at {J = g.row.J.Denot} terms c.args.w.0 c.is_dying-dying.result c.deref.result.now hold.new.self front c.deref.ensures shown c.is_dying-dying.ensures in
    asked g.K.Recorder.RECEIPTS terms c.args.pass.now.number (ask.End c.args.w c.args.outcome) (λ t. did.End c.args.w t c.args.outcome) (λ _. Keeps) c.args.pass.now.front front hold.result
    (IsEndOf (state terms front) c.args.w.0 ended.Dying) hold.ensures.makes hold.ensures.refused
    (subst (λ r. IsEndOf (state terms front) c.args.w.0 ended.Dying r) (sym c.in-Ok.is) (dying.0 c.if-dying.true))

pub returns-in-Ok-2-clause-asks : goal.returns-in-Ok-2-clause-asks
returns-in-Ok-2-clause-asks g c =
    let hold = c.step-told in
    let terms = g.K.Recorder.terms g.G.PoolNaming.config in
    let front = hold.new.pass.front in
    let shown = shown_after {J = g.row.J.Denot} g.K.Recorder.RECEIPTS (ask.End c.args.w c.args.outcome) c.deref_mut.result.now hold.new.self front hold.result hold.ensures.front hold.ensures.denies in
    let dying = dying_at {J = g.row.J.Denot} terms c.args.w.0 c.is_dying-dying.result c.deref.result.now hold.new.self front c.deref.ensures shown c.is_dying-dying.ensures in
    asked g.K.Recorder.RECEIPTS terms c.args.pass.now.number (ask.End c.args.w c.args.outcome) (λ t. did.End c.args.w t c.args.outcome) (λ _. Keeps) c.args.pass.now.front front hold.result
    (IsEndOf (state terms front) c.args.w.0 ended.Live) hold.ensures.makes hold.ensures.refused
    (subst (λ r. IsEndOf (state terms front) c.args.w.0 ended.Live r) (sym c.in-Ok-2.is) (λ dies. false≢true (sym c.if-dying.false ∙ dying.1 dies)))
