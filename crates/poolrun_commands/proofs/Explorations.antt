-- What is told of an exploration.
use Rattle.std.proofs.Common.{◌≡◌, ◌<◌, inl, ℕ, Bool, List, length, get_or, Option, Some, Result, Ok, Err, IfSome, IfOk, sym, subst}
use Rattle.std.proofs.lemmas.List.Elements.{Contains-get_or}
use Rattle.std.specs.List.{Contains}
use Rattle.std.specs.Io.KnownBytes.{Appends}
use Rattle.tp_types.specs.declared.refusals.PoolError.{PoolError}
use Rattle.tp_explore_text.specs.declared.ends.End.{End}
use Rattle.tp_explore_text.specs.declared.explored.Explored.{Explored}
use Rattle.tp_explore_text.specs.declared.files.Named.{Named}
use Rattle.tp_explore_text.specs.Explored.{IsExplored}
use Rattle.tp_explore_text.proofs.Placed.{end_within}
use Rattle.poolrun_choices.specs.declared.choices.Exploring.{Exploring}
use Rattle.poolrun_commands.specs.declared.explores.Told.{Told}
use Rattle.poolrun_commands.specs.Explores.{Explores, IsTold, IsToldOf}
use Rattle.poolrun_commands.proofs.Runs.{of_text}

-- an end on a line stands at the place of a state
pub end_on_within : (e : Explored) → IsExplored e → (xs : List End) → xs ≡ e.ends.items → (i : ℕ) (end : End) → i < length xs → end ≡ get_or xs i end → end.place < length e.graph.states.items
end_on_within e is xs same i end within at = end_within e is end (subst (λ ends. Contains ends end) same (subst (Contains xs) (sym at) (Contains-get_or xs i end within)))

-- what is told of an exploration is told of its plan
pub told_of_plan : (e : Explored) (named : Named) (x : Exploring) (r : Result Told PoolError) → e.named ≡ named → IsExplored e → IfOk r (λ t. IsTold e x.wish t.text.items t.is_so) → IfOk r (λ t. IsToldOf named x t.text.items t.is_so)
told_of_plan e named x (Ok t) is explored told = inl (e, is, explored, told)
told_of_plan e named x (Err f) is explored told = tt

-- what is told of a plan is told of the text that says it
pub told_of_text : (says : List ℕ → Named → Type 0) (text : List ℕ) (named : Named) (x : Exploring) (r : Result Told PoolError) → says text named → IfOk r (λ t. IsToldOf named x t.text.items t.is_so) → IfOk r (λ t. (n : Named) × says text n × IsToldOf n x t.text.items t.is_so)
told_of_text says text named x (Ok t) said told = (named, said, told)
told_of_text says text named x (Err f) said told = tt

-- the exploration of a text is one from each reader that gave it
pub explores_from : (says : List ℕ → Named → Type 0) (x : Exploring) (input old new : Option (List ℕ)) (text : List ℕ) (r : Result Bool PoolError) → IfSome input (λ xs. text ≡ xs) → Explores says x (Some text) old new r → Explores says x input old new r
explores_from says x input old new text (Ok so) known run = of_text input text (λ t. (named : Named) × says t named × ((told : List ℕ) × IsToldOf named x told so × Appends old new told)) known run
explores_from says x input old new text (Err f) known run = run
