-- Numbers in the range of their types.
use Rattle.std.specs.Prelude.{ℕ, ℤ, ◌<◌, ◌^◌, Ok, Err, FitsSigned}
use Rattle.std.specs.Int.{w64}
use Rattle.tp_types.specs.declared.tasks.Kind.{Kind}
use Rattle.tp_types.specs.declared.tasks.Kind.TheVariants as kinds
use Rattle.tp_record.specs.Effects.{Outcome}

abbrev pub Fits32 : ℕ → Type 0
Fits32 n = n < 2 ^ 32

abbrev pub Fits64 : ℕ → Type 0
Fits64 n = n < 2 ^ 64

abbrev pub FitsValue : ℤ → Type 0
FitsValue v = FitsSigned w64 v

abbrev pub FitsKind : Kind → Type 0
FitsKind kinds.Plain = Unit {0}
FitsKind kinds.Future = Unit {0}
FitsKind (kinds.Group g) = Fits32 g

abbrev pub FitsOutcome : Outcome → Type 0
FitsOutcome (Ok v) = FitsValue v
FitsOutcome (Err code) = Fits32 code
