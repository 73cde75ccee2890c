-- What is drawn of a history, as one more entry is told.
use Rattle.std.proofs.Common.{◌≡◌, ◌<◌, ℕ, zero, suc, List, [], ◌∷◌, length, get_or, set, arith, Some, ap}
use Rattle.std.specs.Prelude.{map}
use Rattle.tp_story_drawing.specs.declared.drawings.Run.{Run}
use Rattle.tp_story_drawing.specs.Drawn.{begun}

-- a run that ends began as it did
pub ended_begun : (rs : List Run) (i : ℕ) (r : Run) (t : ℕ) → i < length rs → r ≡ get_or rs i r → map begun (set rs i (record r { to = Some t })) ≡ map begun rs
ended_begun [] i r t within is = absurd (omega (arith, within))
ended_begun (x ∷ rs) zero r t within is = ap (λ (y : Run). begun y ∷ map begun rs) is
ended_begun (x ∷ rs) (suc i) r t within is = ap (λ ys. begun x ∷ ys) (ended_begun rs i r t (omega (arith, within)) is)
