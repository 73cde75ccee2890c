-- Lists arranged by numbers: what a filter, one more element and another numbering make of them.
use Rattle.std.proofs.Common.{◌≡◌, ℕ, suc, ◌+◌, ◌<◌, ◌≤◌, ◌⊎◌, Bool, true, false, not, ◌&&◌, cond, List, [], ◌∷◌, ◌++◌, length, Some, None, Option, refl, arith, sym, ap, ◌∙◌, inl, inr, append_assoc, subst}
use mathlib.Core.Path.{ap₂}
use Rattle.std.specs.Prelude.{filter, nat_le, nat_lt, option_to_list, count_by, ◌==◌}
use Rattle.std.proofs.lemmas.List.Sums.{sum_by-cons}
use Rattle.std.proofs.lemmas.Bool.{cases_lt, le-leb, lt-leb, eq-eqb}
use Rattle.std.proofs.lemmas.Bool.Decides.{nat_tests}
use Rattle.std.proofs.lemmas.List.{append-nil}
use Rattle.std.proofs.lemmas.List.Elements.{filter-append, filter_agree}
use Rattle.tp_record.specs.Lists.{put_before, put_behind, arrange, in_line, join_line}
use Rattle.tp_laws.proofs.Model.ListLaws.{filter-filter}

-- each element passes
abbrev pub AllPass : (ℕ → Bool) → List ℕ → Type 0
AllPass p [] = Unit {0}
AllPass p (x ∷ xs) = (p x ≡ true) × AllPass p xs

-- no element has a smaller number than one before it
abbrev pub IsSorted : (ℕ → ℕ) → List ℕ → Type 0
IsSorted f [] = Unit {0}
IsSorted f (x ∷ xs) = AllPass (λ y. nat_le (f x) (f y)) xs × IsSorted f xs

pub pass-filter : (p q : ℕ → Bool) (xs : List ℕ) → AllPass p xs → AllPass p (filter q xs)
pass-filter p q [] all = tt
pass-filter p q (x ∷ xs) all = by (q x) (pass-filter p q xs all.1)
  where
    by : (b : Bool) → AllPass p (filter q xs) → AllPass p (cond b (x ∷ filter q xs) (filter q xs))
    by true rest = (all.0, rest)
    by false rest = rest

pub filter-passes : (p : ℕ → Bool) (xs : List ℕ) → AllPass p (filter p xs)
filter-passes p [] = tt
filter-passes p (x ∷ xs) = by (p x) refl (filter-passes p xs)
  where
    by : (b : Bool) → p x ≡ b → AllPass p (filter p xs) → AllPass p (cond b (x ∷ filter p xs) (filter p xs))
    by true is rest = (is, rest)
    by false is rest = rest

pass-append : (p : ℕ → Bool) (xs ys : List ℕ) → AllPass p xs → AllPass p ys → AllPass p (xs ++ ys)
pass-append p [] ys a b = b
pass-append p (x ∷ xs) ys a b = (a.0, pass-append p xs ys a.1 b)

pass-weaken : (p q : ℕ → Bool) → ((x : ℕ) → p x ≡ true → q x ≡ true) → (xs : List ℕ) → AllPass p xs → AllPass q xs
pass-weaken p q step [] all = tt
pass-weaken p q step (x ∷ xs) all = (step x all.0, pass-weaken p q step xs all.1)

-- two tests that agree on what passes a third
pub filter_pass_agree : (p a b : ℕ → Bool) → ((x : ℕ) → p x ≡ true → a x ≡ b x) → (xs : List ℕ) → AllPass p xs → filter a xs ≡ filter b xs
filter_pass_agree p a b same [] all = refl
filter_pass_agree p a b same (x ∷ xs) all = rw (same x all.0) (ap (λ ys. cond (b x) (x ∷ ys) ys) (filter_pass_agree p a b same xs all.1))

pub filter-all : (p : ℕ → Bool) (xs : List ℕ) → AllPass p xs → filter p xs ≡ xs
filter-all p [] all = refl
filter-all p (x ∷ xs) all = rw all.0 (ap (λ ys. x ∷ ys) (filter-all p xs all.1))

pub filter-nothing : (p : ℕ → Bool) (xs : List ℕ) → AllPass (λ x. not (p x)) xs → filter p xs ≡ []
filter-nothing p [] all = refl
filter-nothing p (x ∷ xs) all = let e : p x ≡ false = flip (p x) all.0 in rw e (filter-nothing p xs all.1)
  where
    flip : (b : Bool) → not b ≡ true → b ≡ false
    flip true is = sym is
    flip false is = refl

-- two filters in either order
pub filter-swap : (p q : ℕ → Bool) (xs : List ℕ) → filter p (filter q xs) ≡ filter q (filter p xs)
filter-swap p q xs = filter-filter p q xs ∙ filter_agree (λ x. q x && p x) (λ x. p x && q x) (λ x. grind arith) xs ∙ sym (filter-filter q p xs)

-- what passes goes by the same order under another numbering that agrees there
put_before-agree : (p : ℕ → Bool) (f g : ℕ → ℕ) → ((x : ℕ) → p x ≡ true → f x ≡ g x) → (x : ℕ) (xs : List ℕ) → p x ≡ true → AllPass p xs → put_before f x xs ≡ put_before g x xs
put_before-agree p f g same x xs is all =
    ap₂ (λ us vs. us ++ x ∷ vs)
    (filter_pass_agree p (λ y. nat_lt (f y) (f x)) (λ y. nat_lt (g y) (g x)) (λ y yes-y. rw (same y yes-y, same x is) refl) xs all)
    (filter_pass_agree p (λ y. nat_le (f x) (f y)) (λ y. nat_le (g x) (g y)) (λ y yes-y. rw (same y yes-y, same x is) refl) xs all)

pub put_behind-agree : (p : ℕ → Bool) (f g : ℕ → ℕ) → ((x : ℕ) → p x ≡ true → f x ≡ g x) → (x : ℕ) (xs : List ℕ) → f x ≡ g x → AllPass p xs → put_behind f x xs ≡ put_behind g x xs
put_behind-agree p f g same x xs is all =
    ap₂ (λ us vs. us ++ x ∷ vs)
    (filter_pass_agree p (λ y. nat_le (f y) (f x)) (λ y. nat_le (g y) (g x)) (λ y yes-y. rw (same y yes-y, is) refl) xs all)
    (filter_pass_agree p (λ y. nat_lt (f x) (f y)) (λ y. nat_lt (g x) (g y)) (λ y yes-y. rw (same y yes-y, is) refl) xs all)

pub pass-arrange : (p : ℕ → Bool) (f : ℕ → ℕ) (xs : List ℕ) → AllPass p xs → AllPass p (arrange f xs)
pass-arrange p f [] all = tt
pass-arrange p f (x ∷ xs) all =
    let rest = pass-arrange p f xs all.1 in
    pass-append p (filter (λ y. nat_lt (f y) (f x)) (arrange f xs)) (x ∷ filter (λ y. nat_le (f x) (f y)) (arrange f xs))
    (pass-filter p (λ y. nat_lt (f y) (f x)) (arrange f xs) rest) (all.0, pass-filter p (λ y. nat_le (f x) (f y)) (arrange f xs) rest)

pub arrange-agree : (p : ℕ → Bool) (f g : ℕ → ℕ) → ((x : ℕ) → p x ≡ true → f x ≡ g x) → (xs : List ℕ) → AllPass p xs → arrange f xs ≡ arrange g xs
arrange-agree p f g same [] all = refl
arrange-agree p f g same (x ∷ xs) all =
    put_before-agree p f g same x (arrange f xs) all.0 (pass-arrange p f xs all.1) ∙ ap (put_before g x) (arrange-agree p f g same xs all.1)

-- an arranged list is sorted
sorted-filter : (f : ℕ → ℕ) (p : ℕ → Bool) (xs : List ℕ) → IsSorted f xs → IsSorted f (filter p xs)
sorted-filter f p [] s = tt
sorted-filter f p (x ∷ xs) s = by (p x) (sorted-filter f p xs s.1)
  where
    by : (b : Bool) → IsSorted f (filter p xs) → IsSorted f (cond b (x ∷ filter p xs) (filter p xs))
    by true rest = (pass-filter (λ y. nat_le (f x) (f y)) p xs s.0, rest)
    by false rest = rest

sorted-around : (f : ℕ → ℕ) (us : List ℕ) (x : ℕ) (vs : List ℕ) → IsSorted f us → AllPass (λ y. nat_lt (f y) (f x)) us → AllPass (λ y. nat_le (f x) (f y)) vs → IsSorted f vs → IsSorted f (us ++ x ∷ vs)
sorted-around f [] x vs su before behind sv = (behind, sv)
sorted-around f (u ∷ us) x vs su before behind sv =
    let less = before.0 in (
      pass-append (λ y. nat_le (f u) (f y)) us (x ∷ vs) su.0 (grind (arith, nat_tests), pass-weaken (λ y. nat_le (f x) (f y)) (λ y. nat_le (f u) (f y)) (λ y more. grind (arith, nat_tests)) vs behind),
      sorted-around f us x vs su.1 before.1 behind sv,
    )

pub sorted-arrange : (f : ℕ → ℕ) (xs : List ℕ) → IsSorted f (arrange f xs)
sorted-arrange f [] = tt
sorted-arrange f (x ∷ xs) =
    let rest = sorted-arrange f xs in
    sorted-around f (filter (λ y. nat_lt (f y) (f x)) (arrange f xs)) x (filter (λ y. nat_le (f x) (f y)) (arrange f xs))
    (sorted-filter f (λ y. nat_lt (f y) (f x)) (arrange f xs) rest) (filter-passes (λ y. nat_lt (f y) (f x)) (arrange f xs))
    (filter-passes (λ y. nat_le (f x) (f y)) (arrange f xs)) (sorted-filter f (λ y. nat_le (f x) (f y)) (arrange f xs) rest)

-- a sorted list is what is below a number, and then what is not
pub sorted-cut : (f : ℕ → ℕ) (n : ℕ) (xs : List ℕ) → IsSorted f xs → filter (λ y. nat_lt (f y) n) xs ++ filter (λ y. nat_le n (f y)) xs ≡ xs
sorted-cut f n [] s = refl
sorted-cut f n (x ∷ xs) s = by (cases_lt (f x) n) (sorted-cut f n xs s.1)
  where
    by : (f x < n) ⊎ (n ≤ f x) → filter (λ y. nat_lt (f y) n) xs ++ filter (λ y. nat_le n (f y)) xs ≡ xs → filter (λ y. nat_lt (f y) n) (x ∷ xs) ++ filter (λ y. nat_le n (f y)) (x ∷ xs) ≡ x ∷ xs
    by (inl less) rest = rw (le-leb (suc (f x)) n less, lt-leb n (f x) less) (ap (λ ys. x ∷ ys) rest)
    by (inr more) rest =
        rw (lt-leb (suc (f x)) n (omega (arith, more)), le-leb n (f x) more)
        (ap₂ (λ us vs. us ++ x ∷ vs)
        (filter-nothing (λ y. nat_lt (f y) n) xs (pass-weaken (λ y. nat_le (f x) (f y)) (λ y. not (nat_lt (f y) n)) (λ y above. grind (arith, nat_tests)) xs s.0))
        (filter-all (λ y. nat_le n (f y)) xs (pass-weaken (λ y. nat_le (f x) (f y)) (λ y. nat_le n (f y)) (λ y above. grind (arith, nat_tests)) xs s.0)))

-- a filter of an arranged list
pub arrange-filter : (f : ℕ → ℕ) (p : ℕ → Bool) (xs : List ℕ) → filter p (arrange f xs) ≡ arrange f (filter p xs)
arrange-filter f p [] = refl
arrange-filter f p (x ∷ xs) =
    filter-append p (filter (λ y. nat_lt (f y) (f x)) (arrange f xs)) (x ∷ filter (λ y. nat_le (f x) (f y)) (arrange f xs))
    ∙ by (p x) refl (arrange-filter f p xs)
  where
    before : filter p (arrange f xs) ≡ arrange f (filter p xs) → filter p (filter (λ y. nat_lt (f y) (f x)) (arrange f xs)) ≡ filter (λ y. nat_lt (f y) (f x)) (arrange f (filter p xs))
    before rest = filter-swap p (λ y. nat_lt (f y) (f x)) (arrange f xs) ∙ ap (filter (λ y. nat_lt (f y) (f x))) rest

    behind : filter p (arrange f xs) ≡ arrange f (filter p xs) → filter p (filter (λ y. nat_le (f x) (f y)) (arrange f xs)) ≡ filter (λ y. nat_le (f x) (f y)) (arrange f (filter p xs))
    behind rest = filter-swap p (λ y. nat_le (f x) (f y)) (arrange f xs) ∙ ap (filter (λ y. nat_le (f x) (f y))) rest

    by : (b : Bool) → p x ≡ b → filter p (arrange f xs) ≡ arrange f (filter p xs) →
        filter p (filter (λ y. nat_lt (f y) (f x)) (arrange f xs)) ++ cond b (x ∷ filter p (filter (λ y. nat_le (f x) (f y)) (arrange f xs))) (filter p (filter (λ y. nat_le (f x) (f y)) (arrange f xs)))
        ≡ arrange f (cond b (x ∷ filter p xs) (filter p xs))
    by true is rest = ap₂ (λ us vs. us ++ x ∷ vs) (before rest) (behind rest)
    by false is rest = ap₂ (λ us vs. us ++ vs) (before rest) (behind rest) ∙ sorted-cut f (f x) (arrange f (filter p xs)) (sorted-arrange f (filter p xs))

-- a filter behind a weaker one, or before it
filter-weaker : (p q : ℕ → Bool) → ((y : ℕ) → p y ≡ true → q y ≡ true) → (ys : List ℕ) → filter p (filter q ys) ≡ filter p ys
filter-weaker p q step ys = filter-filter p q ys ∙ filter_agree (λ y. q y && p y) p (λ y. both (q y) (p y) (step y)) ys
  where
    both : (a b : Bool) → (b ≡ true → a ≡ true) → (a && b) ≡ b
    both a true known = rw (known refl) refl
    both true false known = refl
    both false false known = refl

filter-kept : (p q : ℕ → Bool) → ((y : ℕ) → p y ≡ true → q y ≡ true) → (ys : List ℕ) → filter q (filter p ys) ≡ filter p ys
filter-kept p q step ys = filter-swap q p ys ∙ filter-weaker p q step ys

-- a filter behind one that excludes it
filter-apart : (p q : ℕ → Bool) → ((y : ℕ) → p y ≡ true → not (q y) ≡ true) → (ys : List ℕ) → filter q (filter p ys) ≡ []
filter-apart p q step ys = filter-nothing q (filter p ys) (pass-weaken p (λ y. not (q y)) step (filter p ys) (filter-passes p ys))

filter-split : (p : ℕ → Bool) (us : List ℕ) (x : ℕ) (vs : List ℕ) → p x ≡ true → filter p (us ++ x ∷ vs) ≡ filter p us ++ x ∷ filter p vs
filter-split p us x vs is = filter-append p us (x ∷ vs) ∙ ap (λ ws. filter p us ++ ws) (rw is refl)

filter-lost : (p : ℕ → Bool) (us : List ℕ) (x : ℕ) (vs : List ℕ) → p x ≡ false → filter p (us ++ x ∷ vs) ≡ filter p us ++ filter p vs
filter-lost p us x vs is = filter-append p us (x ∷ vs) ∙ ap (λ ws. filter p us ++ ws) (rw is refl)

-- who is put in before some and behind others: the order of the two does not matter
puts-swap : (f : ℕ → ℕ) (x t : ℕ) (ys : List ℕ) → put_before f x (put_behind f t ys) ≡ put_behind f t (put_before f x ys)
puts-swap f x t ys = by (cases_lt (f t) (f x))
  where
    lt : ℕ → Bool
    lt y = nat_lt (f y) (f x)

    ge : ℕ → Bool
    ge y = nat_le (f x) (f y)

    le : ℕ → Bool
    le y = nat_le (f y) (f t)

    gt : ℕ → Bool
    gt y = nat_lt (f t) (f y)

    by : (f t < f x) ⊎ (f x ≤ f t) → put_before f x (put_behind f t ys) ≡ put_behind f t (put_before f x ys)
    by (inl more) =
        ap₂ (λ us vs. us ++ x ∷ vs)
        (filter-split lt (filter le ys) t (filter gt ys) (le-leb (suc (f t)) (f x) more) ∙ ap (λ us. us ++ t ∷ filter lt (filter gt ys)) (filter-kept le lt (λ y is. grind (arith, nat_tests)) ys))
        (filter-lost ge (filter le ys) t (filter gt ys) (lt-leb (f x) (f t) more)
        ∙ ap₂ (λ us vs. us ++ vs) (filter-apart le ge (λ y is. grind (arith, nat_tests)) ys) (filter-weaker ge gt (λ y is. grind (arith, nat_tests)) ys))
        ∙ append_assoc (filter le ys) (t ∷ filter lt (filter gt ys)) (x ∷ filter ge ys)
        ∙ sym (ap₂ (λ us vs. us ++ t ∷ vs)
        (filter-lost le (filter lt ys) x (filter ge ys) (lt-leb (f x) (f t) more)
        ∙ ap₂ (λ us vs. us ++ vs) (filter-weaker le lt (λ y is. grind (arith, nat_tests)) ys) (filter-apart ge le (λ y is. grind (arith, nat_tests)) ys)
        ∙ append-nil (filter le ys))
        (filter-split gt (filter lt ys) x (filter ge ys) (le-leb (suc (f t)) (f x) more)
        ∙ ap₂ (λ us vs. us ++ x ∷ vs) (filter-swap gt lt ys) (filter-kept ge gt (λ y is. grind (arith, nat_tests)) ys)))
    by (inr less) =
        ap₂ (λ us vs. us ++ x ∷ vs)
        (filter-lost lt (filter le ys) t (filter gt ys) (lt-leb (suc (f t)) (f x) (omega (arith, less)))
        ∙ ap₂ (λ us vs. us ++ vs) (filter-weaker lt le (λ y is. grind (arith, nat_tests)) ys) (filter-apart gt lt (λ y is. grind (arith, nat_tests)) ys)
        ∙ append-nil (filter lt ys))
        (filter-split ge (filter le ys) t (filter gt ys) (le-leb (f x) (f t) less) ∙ ap (λ vs. filter ge (filter le ys) ++ t ∷ vs) (filter-kept gt ge (λ y is. grind (arith, nat_tests)) ys))
        ∙ sym (append_assoc (filter lt ys) (x ∷ filter ge (filter le ys)) (t ∷ filter gt ys))
        ∙ sym (ap₂ (λ us vs. us ++ t ∷ vs)
        (filter-split le (filter lt ys) x (filter ge ys) (le-leb (f x) (f t) less)
        ∙ ap₂ (λ us vs. us ++ x ∷ vs) (filter-kept lt le (λ y is. grind (arith, nat_tests)) ys) (filter-swap le ge ys))
        (filter-lost gt (filter lt ys) x (filter ge ys) (lt-leb (suc (f t)) (f x) (omega (arith, less)))
        ∙ ap₂ (λ us vs. us ++ vs) (filter-apart lt gt (λ y is. grind (arith, nat_tests)) ys) (filter-weaker gt ge (λ y is. grind (arith, nat_tests)) ys)))

-- one more at the end goes behind its equals
pub arrange-push : (f : ℕ → ℕ) (xs : List ℕ) (t : ℕ) → arrange f (xs ++ t ∷ []) ≡ put_behind f t (arrange f xs)
arrange-push f [] t = refl
arrange-push f (x ∷ xs) t = ap (put_before f x) (arrange-push f xs t) ∙ puts-swap f x t (arrange f xs)

-- equals keep the order that they have
pub arrange-equal : (f : ℕ → ℕ) (n : ℕ) (xs : List ℕ) → AllPass (λ y. f y == n) xs → arrange f xs ≡ xs
arrange-equal f n [] all = refl
arrange-equal f n (x ∷ xs) all =
    ap (put_before f x) (arrange-equal f n xs all.1)
    ∙ ap₂ (λ us vs. us ++ x ∷ vs)
    (filter-nothing (λ y. nat_lt (f y) (f x)) xs (pass-weaken (λ y. f y == n) (λ y. not (nat_lt (f y) (f x))) (λ y is. let here = all.0 in grind (arith, nat_tests)) xs all.1))
    (filter-all (λ y. nat_le (f x) (f y)) xs (pass-weaken (λ y. f y == n) (λ y. nat_le (f x) (f y)) (λ y is. let here = all.0 in grind (arith, nat_tests)) xs all.1))

pub length-arrange : (f : ℕ → ℕ) (xs : List ℕ) → length (arrange f xs) ≡ length xs
length-arrange f [] = refl
length-arrange f (x ∷ xs) =
    length-around (filter (λ y. nat_lt (f y) (f x)) (arrange f xs)) x (filter (λ y. nat_le (f x) (f y)) (arrange f xs))
    ∙ ap (λ ys. suc (length ys)) (sorted-cut f (f x) (arrange f xs) (sorted-arrange f xs)) ∙ ap suc (length-arrange f xs)
  where
    length-around : (us : List ℕ) (x : ℕ) (vs : List ℕ) → length (us ++ x ∷ vs) ≡ suc (length (us ++ vs))
    length-around [] x vs = refl
    length-around (u ∷ us) x vs = ap suc (length-around us x vs)

-- the first of an arranged list has the least number, and is the first of its equals
pub least-first : (f : ℕ → ℕ) (xs : List ℕ) (t : ℕ) (rest : List ℕ) → arrange f xs ≡ t ∷ rest → AllPass (λ y. nat_le (f t) (f y)) rest
least-first f xs t rest is = (subst (IsSorted f) is (sorted-arrange f xs)).0

pub equal-first : (f : ℕ → ℕ) (xs : List ℕ) (t : ℕ) (rest : List ℕ) → arrange f xs ≡ t ∷ rest → filter (λ y. f y == f t) xs ≡ t ∷ filter (λ y. f y == f t) rest
equal-first f xs t rest is =
    sym (arrange-equal f (f t) (filter (λ y. f y == f t) xs) (filter-passes (λ y. f y == f t) xs))
    ∙ sym (arrange-filter f (λ y. f y == f t) xs) ∙ ap (filter (λ y. f y == f t)) is ∙ rw (eq-eqb (f t) (f t) refl) refl

-- the same of a line, whether or not it is arranged
pub line-filter : (b : Bool) (f : ℕ → ℕ) (p : ℕ → Bool) (xs : List ℕ) → filter p (in_line b f xs) ≡ in_line b f (filter p xs)
line-filter true f p xs = arrange-filter f p xs
line-filter false f p xs = refl

pub line-length : (b : Bool) (f : ℕ → ℕ) (xs : List ℕ) → length (in_line b f xs) ≡ length xs
line-length true f xs = length-arrange f xs
line-length false f xs = refl

pub line-agree : (b : Bool) (p : ℕ → Bool) (f g : ℕ → ℕ) → ((x : ℕ) → p x ≡ true → f x ≡ g x) → (xs : List ℕ) → AllPass p xs → in_line b f xs ≡ in_line b g xs
line-agree true p f g same xs all = arrange-agree p f g same xs all
line-agree false p f g same xs all = refl

pub line-pass : (b : Bool) (p : ℕ → Bool) (f : ℕ → ℕ) (xs : List ℕ) → AllPass p xs → AllPass p (in_line b f xs)
line-pass true p f xs all = pass-arrange p f xs all
line-pass false p f xs all = all

pub line-push : (b : Bool) (f : ℕ → ℕ) (xs : List ℕ) (o : Option ℕ) → in_line b f (xs ++ option_to_list o) ≡ join_line b f o (in_line b f xs)
line-push b f xs None = ap (in_line b f) (append-nil xs)
line-push true f xs (Some t) = arrange-push f xs t
line-push false f xs (Some t) = refl

pub join-agree : (b : Bool) (p : ℕ → Bool) (f g : ℕ → ℕ) (o : Option ℕ) → ((x : ℕ) → p x ≡ true → f x ≡ g x) → ((t : ℕ) → o ≡ Some t → f t ≡ g t) → (xs : List ℕ) → AllPass p xs → join_line b f o xs ≡ join_line b g o xs
join-agree b p f g None same at xs all = refl
join-agree true p f g (Some t) same at xs all = put_behind-agree p f g same t xs (at t refl) all
join-agree false p f g (Some t) same at xs all = refl

-- two tests that agree on what passes a third, counted
pub count_pass_agree : (p f g : ℕ → Bool) → ((x : ℕ) → p x ≡ true → f x ≡ g x) → (xs : List ℕ) → AllPass p xs → count_by f xs ≡ count_by g xs
count_pass_agree p f g same [] all = refl
count_pass_agree p f g same (x ∷ xs) all =
    sum_by-cons (λ y. cond (f y) 1 0) x xs
    ∙ ap₂ (λ b n. cond b 1 0 + n) (same x all.0) (count_pass_agree p f g same xs all.1)
    ∙ sym (sum_by-cons (λ y. cond (g y) 1 0) x xs)
