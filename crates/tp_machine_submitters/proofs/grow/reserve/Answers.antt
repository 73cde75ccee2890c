use Rattle.std.proofs.Common.{◌≡◌, ◌-◌, suc, Some, arith, refl, sym, ap, ◌∙◌}
use Rattle.std.specs.Prelude.{count_by, is_some}
use Rattle.tp_types.specs.declared.tasks.Place.TheVariants as at
use Rattle.tp_record.specs.declared.entries.Ask.TheVariants as ask
use Rattle.tp_record.specs.declared.entries.Did.TheVariants as did
use Rattle.tp_record.specs.declared.entries.Grown.TheVariants as grown
use Rattle.tp_record.specs.Left.{mark}
use Rattle.tp_record.specs.State.{state, task_at}
use Rattle.tp_record.specs.Step.{slot_count}
use Rattle.tp_laws.specs.View.{view, put}
use Rattle.tp_laws.proofs.Effects.Rows.{moved_to, for_maximum}
use Rattle.tp_laws.proofs.Effects.Submitters.Grow.{grow_reserve}
use Rattle.tp_machine_state.proofs.Ties.{tied_more}
use Rattle.tp_machine_state.proofs.Standing.{entry_here, given_here, known_here, fall_here}
use Rattle.tp_machine_state.proofs.Leading.{leads_by}
use Rattle.tp_machine_state.proofs.Slots.{seats_left, views_numbered}
use Rattle.tp_machine_state.specs.Terms.{terms}
use Rattle.tp_machine_submitters.proofs.grow.reserve.Goals as goal

pub count_entry-requires : goal.count_entry-requires
count_entry-requires g c =
    let old = c.args.parts.now in
    let stands = c.requires.stands in
    let here = entry_here old stands (ask.Grow c.args.t) (did.Grow c.args.t (grown.Reserve c.args.w)) _ 1 0 1 c.requires.fits (grow_reserve (terms old) stands.history c.args.t c.args.w stands.legal) (omega arith) (omega arith) in
    record { few = here.0; fall = here.1 }

pub reserve-requires : goal.reserve-requires
reserve-requires g c =
    let old = c.args.parts.now in
    let stands = c.requires.stands in
    let given = given_here old stands (ask.Grow c.args.t) (did.Grow c.args.t (grown.Reserve c.args.w)) c.requires.fits in
    let below = given.2 in
    let maximum = stands.shows.seen.maximum_size in
    let left = seats_left old stands old.maximum (omega arith) (omega (arith, below, maximum)) in
    let same : c.place_task.new.self.slots ≡ old.slots = cc in
    let taken = ap (λ s. count_by is_some s.slots) same in
    let places = ap (λ s. s.places) same in
    record { room = omega (arith, left, taken, places); reserved = refl }

pub returns-clause-leads : goal.returns-clause-leads
returns-clause-leads g c =
    let old = c.args.parts.now in
    let stands = c.requires.stands in
    let t = c.args.t in
    let w = c.args.w in
    let d = did.Grow t (grown.Reserve w) in
    let k = c.count_entry.ensures.rest in
    let m = c.place_task.ensures.rest in
    let r = c.reserve.ensures.rest in
    let here = fall_here old stands (ask.Grow t) d _ 1 0 1 c.requires.fits (grow_reserve (terms old) stands.history t w stands.legal) (omega arith) in
    let due : c.reserve.new.self.due ≡ old.due - 1 = cc in
    let number = c.reserve.ensures.number ∙ ap (λ p. p.slots.next) m ∙ ap (λ p. p.slots.next) k ∙ sym c.requires.next in
    leads_by old c.reserve.new.self (ask.Grow t) d 1 0 c.requires.fits
    (λ h rs legal given sh.
    let s = mark rs (state (terms old) h) in
    let v = record (view s) { tasks = put t.0 (moved_to (at.Held w) (task_at s t.0)) (task_at s) } in (
      _,
      grow_reserve (terms old) h t w legal given,
      views_numbered c.reserve.new.self v _ _ (Some (for_maximum t)) (suc (slot_count s)) number (c.reserve.ensures.views v (c.place_task.ensures.views _ (c.count_entry.ensures.views _ sh.seen))),
    ))
    (ap terms r ∙ ap terms m ∙ ap terms k) (cc) (omega (arith, due, here))
    (c.reserve.ensures.tied (terms old) (suc old.steps) (c.place_task.ensures.tied (terms old) (suc old.steps) (c.count_entry.ensures.tied (terms old) (suc old.steps) (tied_more (terms old) old.steps old stands.tied))))

pub place_task-requires : goal.place_task-requires
place_task-requires g c =
    let old = c.args.parts.now in
    let stands = c.requires.stands in
    let given = given_here old stands (ask.Grow c.args.t) (did.Grow c.args.t (grown.Reserve c.args.w)) c.requires.fits in
    record { known = known_here old stands c.count_entry.new.self.tasks c.args.t.0 at.ToGrow (at.Held c.args.w) (ap (λ p. p.tasks) c.count_entry.ensures.rest) given.0 refl refl }
