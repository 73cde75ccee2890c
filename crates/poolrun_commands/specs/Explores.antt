-- What the command explore tells of the callers that a text says.
use Rattle.std.specs.Prelude.{◌≡◌, ◌⊎◌, ℕ, Bool, true, false, List, [], map, Option, Some, None, Result, Ok, Err, string_bytes}
use Rattle.std.specs.Io.KnownBytes.{Appends, Keeps}
use Rattle.tp_types.specs.declared.refusals.PoolError.{PoolError}
use Rattle.tp_types.specs.declared.refusals.PoolError.TheVariants.{WriteFailed}
use Rattle.tp_explore_walk.specs.Moves.{ReachesMore}
use Rattle.tp_explore.specs.Moves as spec
use Rattle.tp_explore_text.specs.declared.explored.Explored.{Explored}
use Rattle.tp_explore_text.specs.declared.files.Named.{Named}
use Rattle.tp_explore_text.specs.Explored.{FindsEnd, IsExplored}
use Rattle.tp_explore_text.specs.Texts.{ListsEnds}
use Rattle.poolrun_choices.specs.declared.choices.Exploring.{Exploring}
use Rattle.poolrun_choices.specs.declared.choices.Wish.{Wish}
use Rattle.poolrun_choices.specs.declared.choices.Wish.TheVariants as wish
use Rattle.poolrun_commands.specs.Steps.{OfText}

-- some end has all these parts
abbrev pub IsFound : Explored → List (List ℕ) → Type 0
IsFound e parts = (k : ℕ) × FindsEnd e parts (Some k)

-- what is printed of an exploration, and whether it is as it was wished
abbrev pub IsTold : Explored → Wish → List ℕ → Bool → Type 0
IsTold e wish.Ends text so = (so ≡ true) × ListsEnds e.ends.items text
IsTold e wish.Json text so = so ≡ true
IsTold e (wish.Find parts) text true = IsFound e (map string_bytes parts.items)
IsTold e (wish.Find parts) text false = FindsEnd e (map string_bytes parts.items) None × (text ≡ [])
IsTold e (wish.Never parts) text true = FindsEnd e (map string_bytes parts.items) None × (text ≡ [])
IsTold e (wish.Never parts) text false = IsFound e (map string_bytes parts.items)
IsTold e _ text so = so ≡ false → text ≡ []

-- ends are looked for by their parts, of which one may be no part that an end could have
abbrev pub LooksForParts : Wish → Type 0
LooksForParts (wish.Find parts) = Unit {0}
LooksForParts (wish.Never parts) = Unit {0}
LooksForParts _ = ⊥

-- the plan has more states than may be kept, or a part that is looked for is none
abbrev pub IsUntold : Named → Exploring → Type 0
IsUntold named x =
    ReachesMore (spec.moves named.exploration.plan) (spec.starts named.exploration.plan) x.most ⊎ LooksForParts x.wish

-- what is told of the callers of a plan: what its exploration says; else nothing, and it is not as it was wished
abbrev pub IsToldOf : Named → Exploring → List ℕ → Bool → Type 0
IsToldOf named x text so =
    ((e : Explored) × (e.named ≡ named) × IsExplored e × IsTold e x.wish text so)
    ⊎ ((so ≡ false) × (text ≡ []) × IsUntold named x)

-- the exploration of a text from a reader with these bytes, where they are known, and of which `says` tells what plan it says. A refusal
-- has written nothing, but where the writer failed
abbrev pub Explores : (List ℕ → Named → Type 0) → Exploring → Option (List ℕ) → Option (List ℕ) → Option (List ℕ) → Result Bool PoolError → Type 0
Explores says x input old new (Ok so) =
    OfText input (λ text. (named : Named) × says text named × ((told : List ℕ) × IsToldOf named x told so × Appends old new told))
Explores says x input old new (Err e) = (e ≡ WriteFailed) ⊎ Keeps old new
