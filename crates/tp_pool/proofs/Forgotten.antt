-- What a release says of the history that its pass knows then.
use Rattle.std.proofs.Common.{◌≡◌, ◌⊎◌, ℕ, inl, inr, ⊎_elim, true, false, ap, ◌∙◌}
use Rattle.std.specs.Prelude.{Result, Ok, Err, IfErr, OnOk, OnErr}
use Rattle.tp_types.specs.declared.configs.Config.{Config}
use Rattle.tp_types.specs.declared.refusals.PoolError.{PoolError}
use Rattle.tp_types.specs.declared.refusals.PoolError.TheVariants.{UnknownTask, NotThere}
use Rattle.tp_record.specs.Left.{MayRelease}
use Rattle.tp_record.specs.State.{State}
use Rattle.tp_record.specs.Step.{is_known}
use Rattle.tp_machine_state.specs.Releases.{IsKept}
use Rattle.tp_book.specs.BookView.{BookView, Forgets, left_of, released_of}
use Rattle.tp_book.specs.PassView.{PassView}
use Rattle.tp_pool_holds.specs.Moments.{BookAt, BookOf, IsBook}
use Rattle.tp_pool_holds.specs.Readings.{IsRelease}
use Rattle.tp_pool_holds.proofs.Moments.{known_book, known_of}
use Rattle.tp_pool_holds.proofs.Receipts.{Later}
use Rattle.tp_glance.proofs.Fronts.{IsFrontOf_trans}

module _ {P : Type 0} (c : Config) (old : BookView P) (is : IsBook P c old) (t : ℕ) where
  pub forgotten : (new : BookView P) (p : PassView) (r : Result (Unit {0}) PoolError) → p.front ≡ old.history → p.released ≡ released_of new → OnOk r (Forgets old new t) →
      OnOk r (BookAt P c p.front (λ b. IsRelease b t p.released))
  forgotten new p (Ok x) shown also forgets = known_book old c is p.front (λ b. IsRelease b t p.released) shown (forgets.may, also ∙ forgets.stands.told.1)
  forgotten new p (Err e) shown also forgets = tt

  pub kept : {V : Type 0} (book : V → BookView P) (v w : V) (p : PassView) (r : Result (Unit {0}) PoolError) → book v ≡ old → p.front ≡ old.history → p.released ≡ released_of (book w) → OnErr r (w ≡ v) →
      IfErr r (λ e. IsKept (left_of old) t e) → IfErr r (λ e. BookOf P c p (λ b. IsKept (left_of b) t e))
  kept book v w p (Ok x) here shown also same keeps = tt
  kept book v w p (Err e) here shown also same keeps = known_of old c is p (λ b. IsKept (left_of b) t e) shown (also ∙ ap (λ x. released_of (book x)) same ∙ ap released_of here) keeps

  -- the refusals of a release
  named : (s : State) (e : PoolError) → IsKept s t e → (e ≡ UnknownTask) ⊎ (e ≡ NotThere)
  named s e keeps =
      ⊎_elim (λ (x : (e ≡ UnknownTask) × (is_known s t ≡ false)). inl x.0)
      (λ (x : (e ≡ NotThere) × (is_known s t ≡ true) × ¬ MayRelease s t). inr x.0) keeps

  pub named_so : (r : Result (Unit {0}) PoolError) → IfErr r (λ e. IsKept (left_of old) t e) → IfErr r (λ e. (e ≡ UnknownTask) ⊎ (e ≡ NotThere))
  named_so (Ok x) keeps = tt
  named_so (Err e) keeps = named (left_of old) e keeps

-- a pass that looks again
pub looks_on : (old mid new : PassView) → Later old mid → Later mid new → Later old new
looks_on old mid new first then =
    (then.0 ∙ ap (λ (p : PassView). record p { front = new.front; released = new.released }) first.0, IsFrontOf_trans first.1 then.1)
