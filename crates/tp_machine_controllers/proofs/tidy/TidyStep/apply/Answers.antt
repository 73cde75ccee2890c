use Rattle.std.proofs.Common.{◌≡◌, ℕ, ◌-◌, ◌≤◌, ◌⊎◌, max, suc, List, [], arith, sym, subst, inl, inr, ◌∙◌, ap}
use Rattle.tp_types.specs.declared.configs.Config.{Config}
use Rattle.tp_record.specs.declared.entries.Entry.{Entry}
use Rattle.tp_record.specs.declared.entries.Ask.TheVariants as ask
use Rattle.tp_record.specs.declared.entries.Did.TheVariants as did
use Rattle.tp_record.specs.Fields.{rank, queue}
use Rattle.tp_record.specs.Left.{mark}
use Rattle.tp_record.specs.State.{state}
use Rattle.tp_laws.specs.View.{view}
use Rattle.tp_laws.proofs.Effects.Controllers.Tidy.{tidy as tidy_effect}
use Rattle.tp_machine_state.specs.Shows.{Views}
use Rattle.tp_machine_state.specs.Terms.{terms}
use Rattle.tp_machine_state.proofs.Standing.{entry_here, given_here}
use Rattle.tp_machine_state.proofs.Leading.{leads_from}
use Rattle.tp_machine_state.proofs.Falls.{owed_after, effect_by}
use Rattle.tp_machine_controllers.proofs.tidy.TidyStep.apply.Goals as goal

-- the run state, which is shutdown or stop
between : (c : Config) (h : List Entry) → (rank h ≡ 2) ⊎ ((rank h ≡ 1) × (queue c h ≡ [])) → (1 ≤ rank h) × (rank h ≤ 2)
between c h (inl two) = (omega arith, omega arith)
between c h (inr one) = let e = one.0 in (omega arith, omega arith)

pub count_entry-requires : goal.count_entry-requires
count_entry-requires g c =
    let old = c.args.parts.now in
    let stands = c.requires.stands in
    let s = state (terms old) stands.history in
    let given = given_here old stands ask.Tidy did.Tidy c.requires.fits in
    let n = c.owed_until.result in
    let low = between (terms old) stands.history given.1 in
    let falls : 3 - s.rank ≡ n = owed_after old (mark stands.released s) 3 stands.shows low.0 ∙ sym c.owed_until.ensures.falls in
    let most : s.rank ≤ 2 = low.1 in
    let e = entry_here old stands ask.Tidy did.Tidy _ n 0 n c.requires.fits (λ given. effect_by s did.Tidy _ _ n 0 falls (tidy_effect (terms old) stands.history stands.legal given)) (omega arith) (omega (arith, falls, most)) in
    record { few = e.0; fall = e.1 }

pub returns-clause-leads : goal.returns-clause-leads
returns-clause-leads g c =
    let old = c.args.parts.now in
    let n = c.owed_until.result in
    let k = c.count_entry.ensures.rest in
    let r = c.reach.ensures.rest in
    leads_from old c.reach.new.self ask.Tidy did.Tidy n 0 n c.requires.stands c.requires.fits
    (λ h rs legal given sh.
    let s = mark rs (state (terms old) h) in
    let low = between (terms old) h given.1 in
    let V : ℕ → Type 0 = λ m. Views c.reach.new.self (record (view s) { rank = m }) in
    let three : max 3 s.rank ≡ 3 = omega (arith, low.1) in (
      _,
      effect_by (state (terms old) h) did.Tidy _ _ n 0 (owed_after old s 3 sh low.0 ∙ sym c.owed_until.ensures.falls) (tidy_effect (terms old) h legal given),
      subst V three (c.reach.ensures.views _ (c.count_entry.ensures.views _ sh.seen)),
    ))
    (omega arith) (ap terms r ∙ ap terms k) (cc) (cc) (λ tied. c.reach.ensures.tied (terms old) (suc old.steps) (c.count_entry.ensures.tied (terms old) (suc old.steps) tied))
