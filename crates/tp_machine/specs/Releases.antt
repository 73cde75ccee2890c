-- What a machine forgets by itself.
use Rattle.std.specs.Prelude.{ℕ, ◌≡◌, Bool, true, false, List, ◌∷◌}
use Rattle.tp_types.specs.declared.tasks.Kind.TheVariants as kinds
use Rattle.tp_record.specs.Left.{MayRelease}
use Rattle.tp_record.specs.State.{State, task_at}

-- task t may be released, and nobody asks for it any more, since it is plain
pub record MayForget (s : State) (t : ℕ) : Type 0 where
  pub may : MayRelease s t
  pub plain : (task_at s t).kind ≡ kinds.Plain

-- the released tasks after this task was forgotten, or was not
abbrev pub released_with : Bool → ℕ → List ℕ → List ℕ
released_with true t rs = t ∷ rs
released_with false t rs = rs
