-- Lists that change at named places.
use Rattle.std.specs.Prelude.{ℕ, Bool, List, Option, Some, None, slice_set, slice_index_or, if◌then◌else◌}
use Rattle.tp_record.specs.Lists.{without}

-- the list with what the change gives at x, where it reaches x; d is what is read past its end
abbrev pub change_at : {A : Type 0} → (ℕ → A → A) → A → Option ℕ → List A → List A
change_at g d None xs = xs
change_at g d (Some x) xs = slice_set xs x (g x (slice_index_or xs x d))

-- the list without x, unless x stays
abbrev pub leave_out : (ℕ → Bool) → Option ℕ → List ℕ → List ℕ
leave_out stays None xs = xs
leave_out stays (Some x) xs = if stays x then xs else without x xs
