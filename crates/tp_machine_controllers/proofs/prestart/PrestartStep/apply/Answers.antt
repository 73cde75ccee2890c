use Rattle.std.proofs.Common.{◌≡◌, ◌+◌, Option, Some, None, suc, arith, refl, sym, subst, ap, ◌∙◌}
use Rattle.std.specs.Prelude.{ℕ, count_by, is_some, IfSome}
use Rattle.tp_types.specs.declared.ids.SlotId.{SlotId}
use Rattle.tp_record.specs.declared.entries.Ask.TheVariants as ask
use Rattle.tp_record.specs.declared.entries.Did.TheVariants as did
use Rattle.tp_record.specs.Left.{mark}
use Rattle.tp_record.specs.State.{state, slot_at}
use Rattle.tp_record.specs.Step.{slot_count}
use Rattle.tp_laws.specs.View.{view, put}
use Rattle.tp_laws.proofs.Effects.Rows.{bare}
use Rattle.tp_laws.proofs.Effects.Controllers.Prestart.{prestart as prestart_effect, prestart_none}
use Rattle.tp_machine_state.specs.Shows.{Views}
use Rattle.tp_machine_state.specs.Steps.{Accepts, Leads}
use Rattle.tp_machine_state.specs.Terms.{terms}
use Rattle.tp_machine_state.proofs.Ties.{tied_more}
use Rattle.tp_machine_state.proofs.Standing.{few_steps, given_here, fits_accepted, rising_here}
use Rattle.tp_machine_state.proofs.Leading.{leads_by, leads_from}
use Rattle.tp_machine_state.proofs.Slots.{seats_left}
use Rattle.tp_machine_controllers.proofs.prestart.PrestartStep.apply.Goals as goal

pub count_entry-requires-clause-few : goal.count_entry-requires-clause-few
count_entry-requires-clause-few g c = few_steps c.args.parts.now c.requires.stands ask.Prestart (did.Prestart c.args.slot) c.requires.fits

pub returns-in-None-clause-leads : goal.returns-in-None-clause-leads
returns-in-None-clause-leads g c =
    let old = c.args.parts.now in
    let L : Option SlotId → Type 0 = λ o. Leads old (did.Prestart o) c.count_entry.new.self in
    let fits = fits_accepted old ask.Prestart (did.Prestart None) (subst (λ o. Accepts old ask.Prestart (did.Prestart o)) c.in-None.is c.requires.fits) in
    let k = c.count_entry.ensures.rest in
    subst L (sym c.in-None.is) (leads_from old c.count_entry.new.self ask.Prestart (did.Prestart None) 0 0 0 c.requires.stands fits
    (λ h rs legal given sh. (_, prestart_none (terms old) h legal given, c.count_entry.ensures.views _ sh.seen))
    refl (cc) (cc) (cc) (λ tied. c.count_entry.ensures.tied (terms old) (suc old.steps) tied))

pub count_rising_entry-requires : goal.count_rising_entry-requires
count_rising_entry-requires g c =
    let old = c.args.parts.now in
    let stands = c.requires.stands in
    let w = c.in-Some.field-0 in
    let accepts = subst (λ o. Accepts old ask.Prestart (did.Prestart o)) c.in-Some.is c.requires.fits in
    let e = rising_here old stands ask.Prestart (did.Prestart (Some w)) _ 3 accepts (prestart_effect (terms old) stands.history w stands.legal) in
    record { few = e.0; rise = e.1 }

pub reserve-requires-clause-room : goal.reserve-requires-clause-room
reserve-requires-clause-room g c =
    let old = c.args.parts.now in
    let stands = c.requires.stands in
    let accepts = subst (λ o. Accepts old ask.Prestart (did.Prestart o)) c.in-Some.is c.requires.fits in
    let given = given_here old stands ask.Prestart (did.Prestart (Some c.in-Some.field-0)) (fits_accepted old ask.Prestart (did.Prestart (Some c.in-Some.field-0)) accepts) in
    let below = given.0 in
    let core = stands.shows.seen.core_size in
    let sizes = stands.tied.sizes in
    let left = seats_left old stands old.core (omega (arith, sizes)) (omega (arith, below, core)) in
    let same = ap (λ p. p.slots) c.count_rising_entry.ensures.rest in
    let taken = ap (λ s. count_by is_some s.slots) same in
    let places = ap (λ s. s.places) same in
    omega (arith, left, taken, places)

pub returns-in-Some-clause-leads : goal.returns-in-Some-clause-leads
returns-in-Some-clause-leads g c =
    let old = c.args.parts.now in
    let new = c.reserve.new.self in
    let w = c.in-Some.field-0 in
    let accepts = subst (λ o. Accepts old ask.Prestart (did.Prestart o)) c.in-Some.is c.requires.fits in
    let fits = fits_accepted old ask.Prestart (did.Prestart (Some w)) accepts in
    let next : w.0 ≡ old.slots.next = subst (λ o. IfSome o (λ v. v.0 ≡ old.slots.next)) c.in-Some.is c.requires.next in
    let k = c.count_rising_entry.ensures.rest in
    let r = c.reserve.ensures.rest in
    let number : c.reserve.result.0 ≡ w.0 = c.reserve.ensures.number ∙ ap (λ p. p.slots.next) k ∙ sym next in
    let due : new.due ≡ old.due + 3 = cc in
    let L : Option SlotId → Type 0 = λ o. Leads old (did.Prestart o) new in
    subst L (sym c.in-Some.is) (leads_by old new ask.Prestart (did.Prestart (Some w)) 0 3 fits
    (λ h rs legal given sh.
    let s = mark rs (state (terms old) h) in
    let V : ℕ → Type 0 = λ n. Views new (record (view s) { slots = put n (Some bare) (slot_at s.slots); taken = suc (slot_count s) }) in (
      _,
      prestart_effect (terms old) h w legal given,
      subst V number (c.reserve.ensures.views _ (c.count_rising_entry.ensures.views _ sh.seen)),
    ))
    (ap terms r ∙ ap terms k) (cc) (omega (arith, due))
    (c.reserve.ensures.tied (terms old) (suc old.steps) (c.count_rising_entry.ensures.tied (terms old) (suc old.steps) (tied_more (terms old) old.steps old c.requires.stands.tied))))
