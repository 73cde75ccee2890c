-- Pools whose tasks all promise the same.
use Rattle.std.specs.Prelude.{ℕ, ◌≡◌, ⊤, IfSome}
use Rattle.tp_types.specs.declared.tasks.Promise.{Promise}
use Rattle.tp_record.specs.declared.entries.Ask.{Ask}
use Rattle.tp_record.specs.declared.entries.Ask.TheVariants as ask
use Rattle.tp_record.specs.Effects.{Outcome}
use Rattle.tp_machine.specs.Seen.{Seen, promise}

-- each task of the machine came with this promise
abbrev pub AllPromise : {P R : Type 0} → Promise → Seen P R → Type 0
AllPromise p m = (t : ℕ) → IfSome (promise m t) (λ x. x ≡ p)

-- the outcome that comes with the ask, if one does
abbrev pub IfOutcome : Ask → (Outcome → Type 0) → Type 0
IfOutcome (ask.CallerEnd t o) F = F o
IfOutcome (ask.End w o) F = F o
IfOutcome _ F = ⊤
