use Rattle.std.proofs.Common.{suc, Some, refl, arith, sym, ap, ◌∙◌}
use Rattle.std.specs.Prelude.{count_by, is_some, false}
use Rattle.tp_tasks.specs.Tasks.{row_of}
use Rattle.tp_record.specs.declared.entries.Ask.TheVariants as ask
use Rattle.tp_record.specs.declared.entries.Did.TheVariants as did
use Rattle.tp_record.specs.declared.entries.Seconded.TheVariants as seconded
use Rattle.tp_record.specs.Step.{slot_count}
use Rattle.tp_record.specs.State.{state, task_at}
use Rattle.tp_record.specs.Left.{mark}
use Rattle.tp_laws.specs.View.{view, put}
use Rattle.tp_laws.proofs.Effects.Rows.{bare}
use Rattle.tp_laws.proofs.Effects.Submitters.Second.{second_reserve}
use Rattle.tp_machine_state.proofs.Slots.{seats_left, views_numbered}
use Rattle.tp_machine_state.proofs.Standing.{entry_here, given_here, row_here, owing_here}
use Rattle.tp_machine_state.proofs.Leading.{leads_from}
use Rattle.tp_machine_state.specs.Terms.{terms}
use Rattle.tp_machine_submitters.proofs.second.reserve.Goals as goal

pub count_entry-requires : goal.count_entry-requires
count_entry-requires g c =
    let old = c.args.parts.now in
    let stands = c.requires.stands in
    let e = entry_here old stands (ask.Second c.args.t) (did.Second c.args.t (seconded.StayReserve c.args.w)) _ 1 0 1 c.requires.fits (λ given. second_reserve (terms old) stands.history c.args.t c.args.w stands.legal given) refl (omega arith) in
    record { few = e.0; fall = e.1 }

pub clear_second-requires : goal.clear_second-requires
clear_second-requires g c =
    let old = c.args.parts.now in
    let stands = c.requires.stands in
    let given = given_here old stands (ask.Second c.args.t) (did.Second c.args.t (seconded.StayReserve c.args.w)) c.requires.fits in
    record { known = (task_at (state (terms old) stands.history) c.args.t.0, ap (λ p. row_of p.tasks c.args.t.0) c.count_entry.ensures.rest ∙ row_here old stands c.args.t.0 given.0 (owing_here old stands c.args.t.0 given.0 given.1)) }

pub reserve-requires-clause-room : goal.reserve-requires-clause-room
reserve-requires-clause-room g c =
    let old = c.args.parts.now in
    let stands = c.requires.stands in
    let given = given_here old stands (ask.Second c.args.t) (did.Second c.args.t (seconded.StayReserve c.args.w)) c.requires.fits in
    let least = stands.tied.least in
    let left = seats_left old stands old.maximum (omega arith) (let none = given.3 in omega (arith, none, least)) in
    let same = ap (λ p. p.slots) c.clear_second.ensures.rest ∙ ap (λ p. p.slots) c.count_entry.ensures.rest in
    let taken = ap (λ s. count_by is_some s.slots) same in
    let places = ap (λ s. s.places) same in
    omega (arith, left, taken, places)

pub returns-clause-leads : goal.returns-clause-leads
returns-clause-leads g c =
    let old = c.args.parts.now in
    let w = c.args.w in
    let k = c.count_entry.ensures in
    let m = c.clear_second.ensures in
    let r = c.reserve.ensures in
    let number = r.number ∙ ap (λ p. p.slots.next) m.rest ∙ ap (λ p. p.slots.next) k.rest ∙ sym c.requires.next in
    leads_from old c.reserve.new.self (ask.Second c.args.t) (did.Second c.args.t (seconded.StayReserve c.args.w)) 1 0 1 c.requires.stands c.requires.fits
    (λ h rs legal given sh.
    let s = mark rs (state (terms old) h) in
    let v = record (view (mark rs s)) { tasks = put c.args.t.0 (record (task_at s c.args.t.0) { second = false }) (task_at s) } in (
      _,
      second_reserve (terms old) h c.args.t w legal given,
      views_numbered c.reserve.new.self v _ w.0 (Some bare) (suc (slot_count s)) number (r.views v (m.views _ (k.views _ sh.seen))),
    ))
    refl
    (ap terms r.rest ∙ ap terms m.rest ∙ ap terms k.rest)
    (ap (λ p. p.steps) r.rest ∙ ap (λ p. p.steps) m.rest ∙ ap (λ p. p.steps) k.rest)
    (ap (λ p. p.due) r.rest ∙ ap (λ p. p.due) m.rest ∙ ap (λ p. p.due) k.rest)
    (λ tied. r.tied _ _ (m.tied _ _ (k.tied _ _ tied)))
