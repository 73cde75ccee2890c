-- Which number a slot gets that an entry reserves.
use Rattle.std.specs.Prelude.{ℕ, ◌≡◌, IfSome}
use Rattle.tp_record.specs.declared.entries.Did.{Did}
use Rattle.tp_record.specs.declared.entries.Did.TheVariants as did
use Rattle.tp_record.specs.Effects.{reserves}

-- the next one, n, or that of the worker who leaves in the same step
abbrev pub TakesNext : ℕ → Did → Type 0
TakesNext n (did.Leave w o) = IfSome o (λ v. v ≡ w)
TakesNext n (did.Prestart o) = IfSome o (λ w. w.0 ≡ n)
TakesNext n d = IfSome (reserves d) (λ w. w ≡ n)
