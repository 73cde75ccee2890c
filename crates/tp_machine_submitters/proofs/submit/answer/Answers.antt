use Rattle.std.proofs.Common.{◌≡◌, Ok, refl, sym, ap, subst, ◌∙◌, inl, inr}
use Rattle.std.specs.Prelude.{◌||◌, false, true, is_none, unwrap_or, IfSome}
use Rattle.tp_record.specs.Left.{mark}
use Rattle.tp_record.specs.declared.entries.Ask.TheVariants as ask
use Rattle.tp_record.specs.declared.entries.Did.TheVariants as did
use Rattle.tp_record.specs.Effects.{reserved_looked}
use Rattle.tp_record.specs.State.{state, slot_at}
use Rattle.tp_record.specs.Step.{look}
use Rattle.tp_tasks.specs.Tasks.{submissions}
use Rattle.tp_laws.specs.View.{View, Effect}
use Rattle.tp_machine_state.specs.Room.{IsInRoom}
use Rattle.tp_machine_state.specs.Terms.{terms}
use Rattle.tp_machine_state.proofs.Answering.{refuses_room}
use Rattle.tp_machine_state.proofs.Reading.{reads_marked}
use Rattle.tp_machine_state.proofs.Rules.{accepts_given, refuses_given}
use Rattle.tp_machine_submitters.specs.Owed.{rise_of}
use Rattle.tp_machine_submitters.proofs.Submitting.{look_again, look_free, same_rise, submit_moves, submit_fits, few_left}
use Rattle.tp_machine_submitters.proofs.submit.answer.Goals as goal

pub returns-clause-accepts : goal.returns-clause-accepts
returns-clause-accepts g c =
    let p = c.args.parts.now in
    let l = c.look-looked.result in
    let k = c.args.kind in
    let r = c.args.priority in
    accepts_given p (ask.Submit k r) (did.Submit (record { 0 = submissions p.tasks }) k r) 0 (rise_of l) l
    (λ h rs legal may sh.
    let s = mark rs (state (terms p) h) in
    let n = c.next_number.result.0 in
    let is = c.look-looked.ensures.looked s (reads_marked p h rs may sh) in
    let again = ap (λ x. look s (unwrap_or (reserved_looked x) 0)) is ∙ look_again s n ∙ sym is in
    let none = sh.seen.seats n ∙ ap (slot_at p.slots.slots) c.next_number.ensures.next ∙ c.next_number.ensures.free in (
      submit_fits p (few_left c.submitted.result (submissions p.tasks) c.submitted.ensures p.tasks.small c.if-submitted.false) k r h rs sh (unwrap_or (reserved_looked l) 0) ∙ ap (λ x. Ok (did.Submit (record { 0 = submissions p.tasks }) k r x)) again,
      subst (λ x. IfSome (reserved_looked x) (λ v. (is_none (slot_at s.slots v) || false) ≡ true)) (sym is) (look_free s n none),
    ))
    (λ h rs legal sh given. submit_moves (terms p) h (record { 0 = submissions p.tasks }) k r l legal given) c.in_room.result (subst (λ n. IsInRoom p 0 n (Ok l) c.in_room.result) c.rise.ensures.rise c.in_room.ensures)

pub returns-clause-refuses : goal.returns-clause-refuses
returns-clause-refuses g c =
    let p = c.args.parts.now in
    let l = c.look-looked.result in
    let k = c.args.kind in
    let r = c.args.priority in
    refuses_given p (ask.Submit k r) (did.Submit (record { 0 = submissions p.tasks }) k r) 0 (rise_of l) l
    (λ full. refuses_room p (ask.Submit k r) 0 (rise_of l) false full refl
    (λ h rs legal may sh w free.
    let s = mark rs (state (terms p) h) in
    let d = did.Submit (record { 0 = submissions p.tasks }) k r (look s w) in
    let rise : rise_of (look s w) ≡ rise_of l = same_rise s c.next_number.result.0 w ∙ ap rise_of (sym (c.look-looked.ensures.looked s (reads_marked p h rs may sh))) in (
      d,
      submit_fits p (few_left c.submitted.result (submissions p.tasks) c.submitted.ensures p.tasks.small c.if-submitted.false) k r h rs sh w,
      look_free s w (elim free [ inl f ↦ f | inr leave ↦ absurd (let n : ⊥ = cc in n) ]),
      λ i xs lawful shown given. subst (λ n. (v : View) × Effect (state (terms p) i) d v 0 n) rise (submit_moves (terms p) i (record { 0 = submissions p.tasks }) k r (look s w) lawful given),
    ))) c.in_room.result (subst (λ n. IsInRoom p 0 n (Ok l) c.in_room.result) c.rise.ensures.rise c.in_room.ensures)
