-- What is left to do in a pool, at the front that a pass knows after a step.
use Rattle.std.proofs.Common.{◌≡◌, ℕ, Bool, List, ap, sym, ◌∙◌, subst}
use Rattle.std.specs.Prelude.{◌↔◌, Result, Ok, Err, IsTrue, IfErr, OnOk, OnErr}
use Rattle.tp_types.specs.declared.configs.Config.{Config}
use Rattle.tp_types.specs.declared.refusals.PoolError.{PoolError}
use Rattle.tp_record.specs.declared.entries.Ask.{Ask}
use Rattle.tp_record.specs.declared.entries.Entry.{Entry}
use Rattle.tp_record.specs.State.{state}
use Rattle.tp_machine.specs.Readings.{IsDyingAt}
use Rattle.tp_protocols.specs.declared.rescues.Remains.{Remains}
use Rattle.tp_pool_holds.specs.LockedView.{LockedView}
use Rattle.tp_pool_holds.specs.Holds.{Denies}
use Rattle.tp_pool_holds.specs.Left.{IsLeft}

module _ {J : Type 0} where
  -- a pass knows the book's history after a step, accepted or refused
  pub shown_after : {A : Type 0} (keeps : Bool) (a : Ask) (old new : LockedView J) (front : List Entry) (r : Result A PoolError) → OnOk r (front ≡ new.book.history) × OnErr r (front ≡ old.book.history) →
      IfErr r (λ e. Denies keeps old new a e) → front ≡ new.book.history
  shown_after keeps a old new front (Ok x) shown denies = shown.0
  shown_after keeps a old new front (Err e) shown denies = shown.1 ∙ sym denies.unmoved.history

  -- what is left there is left at that front
  pub left_at : (c : Config) (locked then : LockedView J) (front : List Entry) (r : Remains) → locked ≡ then → front ≡ then.book.history → IsLeft (state c locked.book.history) r → IsLeft (state c front) r
  left_at c locked then front r same shown is = subst (λ h. IsLeft (state c h) r) (ap (λ k. k.book.history) same ∙ sym shown) is

  -- and a worker that dies there dies at that front
  pub dying_at : (c : Config) (w : ℕ) (b : Bool) (locked then : LockedView J) (front : List Entry) → locked ≡ then → front ≡ then.book.history → (IsTrue b ↔ IsDyingAt (state c locked.book.history) w) → IsTrue b ↔ IsDyingAt (state c front) w
  dying_at c w b locked then front same shown is = subst (λ h. IsTrue b ↔ IsDyingAt (state c h) w) (ap (λ k. k.book.history) same ∙ sym shown) is
