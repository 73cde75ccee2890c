-- Tables by number, made one place after another.
use Rattle.std.proofs.Common.{◌≡◌, ℕ, zero, suc, ◌+◌, ◌-◌, ◌<◌, Option, Some, None, List, [], ◌∷◌, ◌++◌, map, length, take, drop, get_or, replicate, Bool, true, cond, refl, arith, ap, sym, ◌∙◌, zero-add}
use Rattle.std.specs.Prelude.{filter}
use Rattle.std.proofs.lemmas.List.Elements.{filter-append}
use Rattle.std.proofs.lemmas.List.{drop_more, length-take, take-append-drop, take_more}
use Rattle.tp_record.specs.Lists.{change_each, count_from, long_enough}

-- a table with one more place, counted from k
map-count_from_suc : {A : Type 0} (f : ℕ → A) (k n : ℕ) → map f (count_from k (suc n)) ≡ map f (count_from k n) ++ f (n + k) ∷ []
map-count_from_suc f k zero = rw zero-add refl
map-count_from_suc f k (suc n) =
    let e : suc n + k ≡ n + suc k = omega arith in
    rw e (ap (λ xs. f k ∷ xs) (map-count_from_suc f (suc k) n))

-- a table with one more place
pub map-count_more : {A : Type 0} (f : ℕ → A) (n : ℕ) → map f (count_from 0 (n + 1)) ≡ map f (count_from 0 n) ++ f n ∷ []
map-count_more f n =
    let e : n + 1 ≡ suc n = omega arith in
    let z : n + 0 ≡ n = omega arith in
    rw e (map-count_from_suc f 0 n) ∙ ap (λ m. map f (count_from 0 n) ++ f m ∷ []) z

-- a table of n places
pub length-map_count_from : {A : Type 0} (f : ℕ → A) (k n : ℕ) → length (map f (count_from k n)) ≡ n
length-map_count_from f k zero = refl
length-map_count_from f k (suc n) = ap suc (length-map_count_from f (suc k) n)

change_each-push : {A : Type 0} (g : ℕ → A → A) (k : ℕ) (xs : List A) (y : A) → change_each g k (xs ++ y ∷ []) ≡ change_each g k xs ++ g (length xs + k) y ∷ []
change_each-push g k [] y = rw zero-add refl
change_each-push g k (x ∷ xs) y =
    let e : suc (length xs) + k ≡ length xs + suc k = omega arith in
    rw e (ap (λ ys. g k x ∷ ys) (change_each-push g (suc k) xs y))

-- one more element that is changed
pub change_each_more : {A : Type 0} (g : ℕ → A → A) (xs : List A) (i : ℕ) (d : A) → i < length xs →
    change_each g 0 (take (i + 1) xs) ≡ change_each g 0 (take i xs) ++ g i (get_or xs i d) ∷ []
change_each_more g xs i d h =
    let long : length (take i xs) + 0 ≡ i = omega (arith, length-take i xs) in
    ap (change_each g 0) (take_more xs i d h) ∙ change_each-push g 0 (take i xs) (get_or xs i d)
    ∙ ap (λ n. change_each g 0 (take i xs) ++ g n (get_or xs i d) ∷ []) long

-- a change of each element keeps the length
pub length-change_each : {A : Type 0} (g : ℕ → A → A) (k : ℕ) (xs : List A) → length (change_each g k xs) ≡ length xs
length-change_each g k [] = refl
length-change_each g k (x ∷ xs) = ap suc (length-change_each g (suc k) xs)

get_or-replicate_same : {A : Type 0} (n i : ℕ) (d : A) → get_or (replicate n d) i d ≡ d
get_or-replicate_same zero i d = refl
get_or-replicate_same (suc n) zero d = refl
get_or-replicate_same (suc n) (suc i) d = get_or-replicate_same n i d

get_or-append_replicate : {A : Type 0} (xs : List A) (n i : ℕ) (d : A) → get_or (xs ++ replicate n d) i d ≡ get_or xs i d
get_or-append_replicate [] n i d = get_or-replicate_same n i d
get_or-append_replicate (x ∷ xs) n zero d = refl
get_or-append_replicate (x ∷ xs) n (suc i) d = get_or-append_replicate xs n i d

-- a table made longer reads as before
pub get_or-long_enough : {A : Type 0} (o : Option ℕ) (d : A) (xs : List A) (i : ℕ) → get_or (long_enough o d xs) i d ≡ get_or xs i d
get_or-long_enough None d xs i = refl
get_or-long_enough (Some x) d xs i = get_or-append_replicate xs (suc x - length xs) i d

-- the first element that passes
pub filter_first : {A : Type 0} (p : A → Bool) (xs : List A) (i : ℕ) (d : A) → i < length xs →
    filter p (take i xs) ≡ [] → p (get_or xs i d) ≡ true → filter p xs ≡ get_or xs i d ∷ filter p (drop (i + 1) xs)
filter_first p xs i d h none some =
    let split : take i xs ++ get_or xs i d ∷ drop (i + 1) xs ≡ xs = ap (λ ys. take i xs ++ ys) (sym (drop_more xs i d h)) ∙ take-append-drop i xs in
    ap (filter p) (sym split)
    ∙ filter-append p (take i xs) (get_or xs i d ∷ drop (i + 1) xs)
    ∙ ap (λ ys. ys ++ cond (p (get_or xs i d)) (get_or xs i d ∷ filter p (drop (i + 1) xs)) (filter p (drop (i + 1) xs))) none
    ∙ ap (λ b. cond b (get_or xs i d ∷ filter p (drop (i + 1) xs)) (filter p (drop (i + 1) xs))) some
