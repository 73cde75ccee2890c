use Rattle.std.proofs.Common.{[], ◌∷◌, inl, inr, refl, rules}
use Rattle.std.specs.Prelude.{Some}
use Rattle.tp_record.specs.declared.entries.Ask.TheVariants as ask
use Rattle.tp_record.specs.declared.entries.Did.TheVariants as did
use Rattle.tp_pool_holds.specs.Passes.{AddsStep, entry_of, opening}
use Rattle.tp_pool_holds.proofs.Receipts.{adds_looks, adds_then}
use Rattle.tp_pool.specs.Prestarts.{prestarted}
use Rattle.tp_pool.proofs.pool.PoolOf.prestart.Goals as goal

pub returns-in-Ok-clause-steps : goal.returns-in-Ok-clause-steps
returns-in-Ok-clause-steps g c =
    let config = (g.K.Recorder.terms g.G.PoolNaming.config) in
    let old = c.args.pass.now in
    let w = c.in-Ok-Some.w in
    let staffed = c.staffed_by-staffed.result in
    let d = c.in-Ok.did in
    let first : AddsStep config old ask.Prestart (did.Prestart (Some w)) c.ask.new.pass = search rules in (
      prestarted old.number (Some w) ∷ entry_of old.number (opening w staffed) d ∷ [],
      inr (inr (w, staffed, d, refl, c.is_live.ensures)),
      adds_then config old c.ask.new.pass c.open_by.new.pass (prestarted old.number (Some w) ∷ []) (opening w staffed) d first c.in-Ok.ensures.step,
    )

pub returns-in-Err-open_by-clause-steps : goal.returns-in-Err-open_by-clause-steps
returns-in-Err-open_by-clause-steps g c =
    let config = (g.K.Recorder.terms g.G.PoolNaming.config) in
    let old = c.args.pass.now in
    let w = c.in-Ok-Some.w in
    let first : AddsStep config old ask.Prestart (did.Prestart (Some w)) c.ask.new.pass = search rules in (
      prestarted old.number (Some w) ∷ [],
      inr (inl (w, c.staffed_by-staffed.result, refl, refl, (c.in-Err-open_by.field-0, c.in-Err-open_by.ensures.refused))),
      adds_looks config old c.ask.new.pass c.open_by.new.pass (prestarted old.number (Some w) ∷ []) first c.in-Err-open_by.ensures.unchanged,
    )
