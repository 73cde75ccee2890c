-- What it means to read a text as a value.
use Rattle.std.specs.Fmt.{decimal}
use Rattle.std.specs.Prelude.{◌≡◌, ◌≢◌, ℕ, ◌<◌, List, ◌∷◌, ◌++◌, length, slice_index, Option, Some, None}

-- a value is read just where the text is that of the value, which fits; None just where no value that fits has the text
-- (the text of what may be missing is an option)
abbrev pub ReadsAs : {V T : Type 0} → (V → T) → (V → Type 0) → T → Option V → Type 0
ReadsAs text fits bytes (Some v) = fits v × (bytes ≡ text v)
ReadsAs {V} text fits bytes None = (v : V) → fits v → bytes ≢ text v

-- any value
abbrev pub Any : {V : Type 0} → V → Type 0
Any v = Unit {0}

-- a word, a space and what follows
abbrev pub spaced : List ℕ → List ℕ → List ℕ
spaced word rest = word ++ 32 ∷ rest

-- a word alone, or with what follows it after a space
abbrev pub followed : List ℕ → Option (List ℕ) → List ℕ
followed word None = word
followed word (Some rest) = spaced word rest

-- a text without a space
abbrev pub IsWord : List ℕ → Type 0
IsWord bytes = (i : ℕ) → i < length bytes → slice_index bytes i ≢ 32

-- a text begins with this word, behind which this follows after a space; it does so in no other way
pub record FirstWord (bytes word : List ℕ) (rest : Option (List ℕ)) : Type 0 where
  pub whole : bytes ≡ followed word rest
  pub only : (w : List ℕ) (r : Option (List ℕ)) → IsWord w → bytes ≡ followed w r → (word ≡ w) × (rest ≡ r)

-- a number that fits, a space and what follows are read just where the text is that, in one way
abbrev pub ReadsNumberOn : (ℕ → Type 0) → List ℕ → Option (ℕ × List ℕ) → Type 0
ReadsNumberOn fits bytes (Some p) =
    fits p.0 × (bytes ≡ spaced (decimal p.0) p.1) × ((n : ℕ) (rest : List ℕ) → fits n → bytes ≡ spaced (decimal n) rest → (p.0 ≡ n) × (p.1 ≡ rest))
ReadsNumberOn fits bytes None = (n : ℕ) (rest : List ℕ) → fits n → bytes ≢ spaced (decimal n) rest

-- without a leading plus, and without a leading zero but in 0 itself
abbrev pub IsPlain : List ℕ → Type 0
IsPlain bytes = (slice_index bytes 0 ≢ 43) × (slice_index bytes 0 ≡ 48 → length bytes ≡ 1)

-- a minus stands before no zero, and a text without a minus is plain
abbrev pub IsPlainValue : List ℕ → Type 0
IsPlainValue bytes = (slice_index bytes 0 ≡ 45 → slice_index bytes 1 ≢ 48) × (slice_index bytes 0 ≢ 45 → IsPlain bytes)
