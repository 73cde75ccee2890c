-- Who was told of one change is told of two.
use Rattle.std.proofs.Common.{◌≡◌, ◌≢◌, ◌⊎◌, inl, inr, refl}
use Rattle.tp_waking.specs.declared.sleepers.Rest.{Rest}
use Rattle.tp_waking.specs.declared.sleepers.Rest.TheVariants as rests
use Rattle.tp_waking.specs.Rests.{rest_at}
use Rattle.tp_waking.specs.declared.waking.Waking.{Waking}
use Rattle.tp_waking.specs.Told.{IsTold}

-- a worker sleeps, or does not
sleeps_or_not : (r : Rest) → (r ≡ rests.Listed) ⊎ (r ≢ rests.Listed)
sleeps_or_not rests.Listed = inl refl
sleeps_or_not rests.Away = inr (λ same. absurd (cc))
sleeps_or_not rests.Marked = inr (λ same. absurd (cc))

pub told-trans : (a b c : Waking) → IsTold a b → IsTold b c → IsTold a c
told-trans a b c first next = record {
  told = λ v slept up. elim (sleeps_or_not (rest_at b.sleepers v)) [
    | inl still ↦ next.told v still up
    | inr not ↦ next.kept v (first.told v slept not)
  ];
  kept = λ v is. next.kept v (first.kept v is);
  awake = λ v is. next.awake v (first.awake v is);
}
