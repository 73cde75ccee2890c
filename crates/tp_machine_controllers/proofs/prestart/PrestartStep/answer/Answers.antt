use mir.Val.{bool_byte}
use Rattle.std.proofs.Common.{◌≡◌, ℕ, Bool, true, false, cond, Option, Ok, Some, None, refl, sym, ap, subst, ◌∙◌, inl, inr}
use Rattle.std.specs.Prelude.{is_some, is_none, ◌||◌, ◌*◌, IfSome}
use Rattle.tp_types.specs.declared.ids.SlotId.{SlotId}
use Rattle.tp_record.specs.declared.entries.Ask.TheVariants as ask
use Rattle.tp_record.specs.declared.entries.Did.TheVariants as did
use Rattle.tp_record.specs.Effects.{reserves}
use Rattle.tp_record.specs.Left.{mark}
use Rattle.tp_record.specs.State.{State, state}
use Rattle.tp_record.specs.Step.{Answer, IsFreeTo, is_free_for}
use Rattle.tp_laws.proofs.Effects.Controllers.Prestart.{prestart as prestart_effect, prestart_none}
use Rattle.tp_machine_state.specs.declared.parts.Parts.{Parts}
use Rattle.tp_machine_state.specs.Terms.{terms}
use Rattle.tp_machine_state.proofs.Answering.{Moves, refuses_room}
use Rattle.tp_machine_state.proofs.Reading.{reads_marked}
use Rattle.tp_machine_state.proofs.Rules.{accepts_given, denies_given, fits_next}
use Rattle.tp_machine_controllers.proofs.prestart.PrestartStep.answer.Goals as goal

-- what is owed rises by a reserved slot's three
moves : {P : Type 0} (p : Parts P) (o : Option SlotId) (n : ℕ) → n ≡ bool_byte (is_some o) → Moves p 0 (3 * n) (did.Prestart o)
moves p o n is = let Q : ℕ → Type 0 = λ k. Moves p 0 (3 * k) (did.Prestart o) in subst Q (sym is) (by o)
  where
    by : (x : Option SlotId) → Moves p 0 (3 * bool_byte (is_some x)) (did.Prestart x)
    by None = λ h rs legal sh given. (_, prestart_none (terms p) h legal given)
    by (Some w) = λ h rs legal sh given. (_, prestart_effect (terms p) h w legal given)

-- the slot that is reserved gets the number w
abbrev numbered : ℕ → Option SlotId → Option SlotId
numbered w None = None
numbered w (Some v) = Some (record { 0 = w })

same : (w : ℕ) (o : Option SlotId) → is_some o ≡ is_some (numbered w o)
same w None = refl
same w (Some v) = refl

-- so the answer is the same at any number
told : (n w : ℕ) (o : Option SlotId) (b : Bool) → ◌≡◌ {A = Answer} (cond b (Ok (did.Prestart (Some (record { 0 = n })))) (Ok (did.Prestart None))) (Ok (did.Prestart o)) →
    ◌≡◌ {A = Answer} (cond b (Ok (did.Prestart (Some (record { 0 = w })))) (Ok (did.Prestart None))) (Ok (did.Prestart (numbered w o)))
told n w None true is = absurd (let e : ⊥ = cc in e)
told n w (Some v) true is = refl
told n w None false is = refl
told n w (Some v) false is = absurd (let e : ⊥ = cc in e)

free : (s : State) (w : ℕ) (o : Option SlotId) → IsFreeTo s ask.Prestart w → IfSome (reserves (did.Prestart (numbered w o))) (λ v. is_free_for s (did.Prestart (numbered w o)) v ≡ true)
free s w None is = tt
free s w (Some v) (inl none) = ap (λ o. is_none o || false) none
free s w (Some v) (inr other) = absurd (let e : ⊥ = cc in e)

pub returns-clause-fits : goal.returns-clause-fits
returns-clause-fits g c =
    let p = c.args.parts.now in
    let slot = c.prestart-slot.result in
    let fit = fits_next p ask.Prestart (λ o. did.Prestart o) c.next_number.result.0 (λ w s. refl) c.next_number.ensures.next c.next_number.ensures.free (Ok slot) c.prestart-slot.ensures.answers in
    accepts_given p ask.Prestart (λ o. did.Prestart o) 0 (3 * c.from.result) slot fit (moves p slot c.from.result (c.from.ensures ∙ ap bool_byte c.is_some.ensures)) c.in_room.result c.in_room.ensures

pub returns-clause-denies : goal.returns-clause-denies
returns-clause-denies g c =
    let p = c.args.parts.now in
    let slot = c.prestart-slot.result in
    denies_given p ask.Prestart (λ o. did.Prestart o) 0 (3 * c.from.result) slot tt
    (λ full. refuses_room p ask.Prestart 0 (3 * c.from.result) false full refl
    (λ h rs legal may sh w frees. (
      did.Prestart (numbered w slot),
      told c.next_number.result.0 w slot _ (c.prestart-slot.ensures.answers (mark rs (state (terms p) h)) (reads_marked p h rs may sh)),
      free (mark rs (state (terms p) h)) w slot frees,
      moves p (numbered w slot) c.from.result (c.from.ensures ∙ ap bool_byte (c.is_some.ensures ∙ same w slot)),
    ))) c.in_room.result c.in_room.ensures
