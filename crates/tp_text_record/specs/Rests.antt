-- What is left of a line behind the words that were read.
use Rattle.std.specs.Prelude.{◌≡◌, ◌≢◌, ℕ, List, [], ◌∷◌, Option, Some, None}
use Rattle.std.specs.List.{slice_split}
use Rattle.std.proofs.Common.{Bor}
use Rattle.std.specs.Prelude.{◌==◌}

-- the words of a text: what stands between its spaces
abbrev pub split_words : List ℕ → List (List ℕ)
split_words bytes = slice_split (λ b. b == 32) bytes

-- the words of what follows a space, if a space does
abbrev pub left : Option (Bor (List ℕ)) → List (List ℕ)
left None = []
left (Some text) = split_words text.now

-- the first of these words, and those behind it
abbrev pub TakesWord : List (List ℕ) → Option (Bor (List ℕ) × Option (Bor (List ℕ))) → Type 0
TakesWord ws None = ws ≡ []
TakesWord ws (Some p) = ws ≡ p.0.now ∷ left p.1

-- a value that is given just where no word is left
abbrev pub Alone : {V : Type 0} → List (List ℕ) → V → Option V → Type 0
Alone ws v (Some x) = (ws ≡ []) × (x ≡ v)
Alone ws v None = ws ≢ []

-- a value is read just where its name is the first word
abbrev pub ReadsOn : {V : Type 0} → (V → List ℕ) → (V → Type 0) → List (List ℕ) → Option (V × Option (Bor (List ℕ))) → Type 0
ReadsOn name fits ws (Some p) = fits p.0 × (ws ≡ name p.0 ∷ left p.1)
ReadsOn {V} name fits ws None = (v : V) (vs : List (List ℕ)) → fits v → ws ≢ name v ∷ vs
