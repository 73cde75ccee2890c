use Rattle.std.proofs.Common.{◌≡◌, ℕ, ◌-◌, ◌≤◌, max, suc, arith, sym, subst, ap, ◌∙◌}
use Rattle.tp_record.specs.declared.entries.Ask.TheVariants as ask
use Rattle.tp_record.specs.declared.entries.Did.TheVariants as did
use Rattle.tp_record.specs.Left.{mark}
use Rattle.tp_record.specs.State.{state}
use Rattle.tp_laws.specs.View.{view}
use Rattle.tp_laws.proofs.Effects.Controllers.Tidy.{ended as ended_effect}
use Rattle.tp_machine_state.specs.Shows.{Views}
use Rattle.tp_machine_state.specs.Terms.{terms}
use Rattle.tp_machine_state.proofs.Standing.{entry_here, given_here}
use Rattle.tp_machine_state.proofs.Leading.{leads_from}
use Rattle.tp_machine_state.proofs.Falls.{owed_after, effect_by}
use Rattle.tp_machine_controllers.proofs.ended.EndedStep.apply.Goals as goal

-- the pool is tidying: one rank is left, and it is shut down
last_rank : (r : ℕ) → r ≡ 3 → (1 ≡ 4 - r) × (1 ≤ r)
last_rank r three = (sym (ap (λ n. 4 - n) three), omega (arith, three))

pub count_entry-requires : goal.count_entry-requires
count_entry-requires g c =
    let old = c.args.parts.now in
    let stands = c.requires.stands in
    let s = state (terms old) stands.history in
    let n = c.owed_until.result in
    let last = last_rank s.rank (given_here old stands ask.Ended did.Ended c.requires.fits) in
    let falls : 1 ≡ n = last.0 ∙ owed_after old (mark stands.released s) 4 stands.shows last.1 ∙ sym c.owed_until.ensures.falls in
    let e = entry_here old stands ask.Ended did.Ended _ n 0 n c.requires.fits (λ given. effect_by s did.Ended _ _ n 0 falls (ended_effect (terms old) stands.history stands.legal given)) (omega arith) (omega (arith, falls)) in
    record { few = e.0; fall = e.1 }

pub returns-clause-leads : goal.returns-clause-leads
returns-clause-leads g c =
    let old = c.args.parts.now in
    let n = c.owed_until.result in
    let k = c.count_entry.ensures.rest in
    let r = c.reach.ensures.rest in
    leads_from old c.reach.new.self ask.Ended did.Ended n 0 n c.requires.stands c.requires.fits
    (λ h rs legal given sh.
    let s = mark rs (state (terms old) h) in
    let last = last_rank s.rank given in
    let V : ℕ → Type 0 = λ m. Views c.reach.new.self (record (view s) { rank = m }) in
    let four : max 4 s.rank ≡ 4 = omega (arith, given) in (
      _,
      effect_by (state (terms old) h) did.Ended _ _ n 0 (last.0 ∙ owed_after old s 4 sh last.1 ∙ sym c.owed_until.ensures.falls) (ended_effect (terms old) h legal given),
      subst V four (c.reach.ensures.views _ (c.count_entry.ensures.views _ sh.seen)),
    ))
    (omega arith) (ap terms r ∙ ap terms k) (cc) (cc) (λ tied. c.reach.ensures.tied (terms old) (suc old.steps) (c.count_entry.ensures.tied (terms old) (suc old.steps) tied))
