-- A worker's step in one hold, as one of its pool.
use Rattle.std.proofs.Common.{◌≡◌, ℕ, Bool, List, [], ◌∷◌, refl, sym, ◌∙◌, subst}
use Rattle.std.proofs.lemmas.Bool.{false≢true}
use Rattle.std.specs.Prelude.{Result, Ok, Err, IsTrue, IfOk, IfErr, OnErr, is_ok}
use Rattle.tp_types.specs.declared.configs.Config.{Config}
use Rattle.tp_types.specs.declared.ids.SlotId.{SlotId}
use Rattle.tp_types.specs.declared.refusals.PoolError.{PoolError}
use Rattle.tp_record.specs.declared.entries.Ask.{Ask}
use Rattle.tp_record.specs.declared.entries.Ask.TheVariants as ask
use Rattle.tp_record.specs.declared.entries.Did.{Did}
use Rattle.tp_record.specs.declared.entries.Did.TheVariants as did
use Rattle.tp_record.specs.declared.entries.Entry.{Entry}
use Rattle.tp_record.specs.declared.entries.Took.{Took}
use Rattle.tp_tasks.specs.declared.tasks.Tasks.{Tasks}
use Rattle.tp_machine_state.specs.Payloads.{Keeps}
use Rattle.tp_glance.specs.Word.{IsFrontOf}
use Rattle.tp_glance.proofs.Fronts.{IsFrontOf_trans}
use Rattle.tp_pool_holds.specs.Steps.{Makes, Refused, Asks}
use Rattle.tp_pool_holds.specs.declared.tasks.Payload.{Payload}
use Rattle.tp_pool_holds.specs.Deeds.{EndsLast, EndsPool, Takes}

module _ {J A : Type 0} (keeps : Bool) (c : Config) (by : ℕ) (a : Ask) (did : A → Did) (moves : A → Tasks (Payload J) → Tasks (Payload J) → Type 0) where
  -- the step, or its refusal, as an answer
  pub asked : (before after : List Entry) (r : Result A PoolError) (F : Result A PoolError → Type 0) →
      IfOk r (λ x. Makes J c by before a (did x) (moves x) after) → IfErr r (λ e. Refused J keeps c before a e after) → F r → Asks J keeps c by before a did moves after F
  asked before after r F makes refused holds = record { answer = r; made = makes; refused = refused; holds = holds }

  made_from : (f g h : List Entry) (r : Result A PoolError) → IsFrontOf f g → IfOk r (λ x. Makes J c by g a (did x) (moves x) h) → IfOk r (λ x. Makes J c by f a (did x) (moves x) h)
  made_from f g h (Ok x) on m = record { old = m.old; new = m.new; is = m.is; goes_on = IsFrontOf_trans on m.goes_on; step = m.step; shown = m.shown }
  made_from f g h (Err e) on m = tt

  refused_from : (f g h : List Entry) (r : Result A PoolError) → IsFrontOf f g → IfErr r (λ e. Refused J keeps c g a e h) → IfErr r (λ e. Refused J keeps c f a e h)
  refused_from f g h (Ok x) on m = tt
  refused_from f g h (Err e) on m = record { book = m.book; is = m.is; goes_on = IsFrontOf_trans on m.goes_on; denied = m.denied; shown = m.shown }

  -- a pass that knew less
  pub asks_from : (f g h : List Entry) (F : Result A PoolError → Type 0) → IsFrontOf f g → Asks J keeps c by g a did moves h F → Asks J keeps c by f a did moves h F
  asks_from f g h F on is = record { answer = is.answer; made = made_from f g h is.answer on is.made; refused = refused_from f g h is.answer on is.refused; holds = is.holds }

  -- the pass knows more then
  goes_made : (f h : List Entry) (r : Result A PoolError) → IfOk r (λ x. Makes J c by f a (did x) (moves x) h) → IfErr r (λ e. Refused J keeps c f a e h) → IsFrontOf f h
  goes_made f h (Ok x) m n =
      let noted : IsFrontOf m.old.history h = record { later = record { by = by; ask = a; did = did x } ∷ []; goes_on = m.shown ∙ m.step.notes } in
      IsFrontOf_trans m.goes_on noted
  goes_made f h (Err e) m n = subst (λ k. IsFrontOf f k) (sym n.shown) n.goes_on

  pub asks_go : (f h : List Entry) (F : Result A PoolError → Type 0) → Asks J keeps c by f a did moves h F → IsFrontOf f h
  asks_go f h F is = goes_made f h is.answer is.made is.refused

-- a `take` after another one of the same worker, as of what its pass knew first
pub take_again : {J : Type 0} (keeps : Bool) (c : Config) (w v : SlotId) (by n : ℕ) (f g h : List Entry) (F E : Result Took PoolError → Type 0) → v ≡ w → n ≡ by →
    Takes J keeps c by f w g F → Takes J keeps c n g v h E → Takes J keeps c by f w h E
take_again {J = J} keeps c w v by n f g h F E same_slot same_pass first again =
    let on = asks_go keeps c by (ask.Take w) (λ x. did.Take w x) (λ _. Keeps) f g F first in
    subst (λ v. Takes J keeps c by f v h E) same_slot (subst (λ (n : ℕ). Takes J keeps c n f v h E) same_pass
    (asks_from keeps c n (ask.Take v) (λ x. did.Take v x) (λ _. Keeps) f g h E on again))

-- the end by a worker: where `tidy` is accepted it asks `ended` too, with the same pass
so_if_ok : {A E : Type 0} (r : Result A E) (X : Type 0) → X → IfOk r (λ _. X)
so_if_ok (Ok a) X is = is
so_if_ok (Err e) X is = tt

no_err : {A E : Type 0} (r : Result A E) (X : Type 0) → IsTrue (is_ok r) → OnErr r X
no_err (Ok a) X is = tt
no_err (Err e) X is = absurd (false≢true is)

no_ok : {A E : Type 0} (r : Result A E) (X : Type 0) → ¬ IsTrue (is_ok r) → IfOk r (λ _. X)
no_ok (Ok a) X is = absurd (is refl)
no_ok (Err e) X is = tt

so_if_err : {A E : Type 0} (r : Result A E) (X : Type 0) → X → OnErr r X
so_if_err (Ok a) X is = tt
so_if_err (Err e) X is = is

module _ {J : Type 0} (keeps : Bool) (c : Config) (by : ℕ) (before mid : List Entry) (r : Result (Unit {0}) PoolError)
    (made : IfOk r (λ _. Makes J c by before ask.Tidy did.Tidy Keeps mid)) (refused : IfErr r (λ e. Refused J keeps c before ask.Tidy e mid)) where
  pub ended_by : (n : ℕ) (after : List Entry) (s : Result (Unit {0}) PoolError) → IsTrue (is_ok r) → n ≡ by → IfOk s (λ _. Makes J c n mid ask.Ended did.Ended Keeps after) →
      IfErr s (λ e. Refused J keeps c mid ask.Ended e after) → EndsPool J keeps c by before after
  ended_by n after s is same last torn =
      let ends : EndsLast J keeps c by mid after = subst (λ (n : ℕ). EndsLast J keeps c n mid after) same (record { answer = s; made = last; refused = torn; holds = tt }) in (
        mid,
        record { answer = r; made = made; refused = refused; holds = (so_if_ok r (EndsLast J keeps c by mid after) ends, no_err r (after ≡ mid) is) },
      )

  pub barred : ¬ IsTrue (is_ok r) → EndsPool J keeps c by before mid
  barred not = (mid, record { answer = r; made = made; refused = refused; holds = (no_ok r (EndsLast J keeps c by mid mid) not, so_if_err r (mid ≡ mid) refl) })
