-- A list of options by number, made of a function.
use Rattle.std.proofs.Common.{◌≡◌, ◌≢◌, ℕ, zero, suc, ◌+◌, ◌-◌, ◌<◌, ◌≤◌, max, Bool, false, cond, List, map, length, get_or, set, replicate, Option, Some, None, refl, arith, sym, ap, ◌∙◌, inl, inr}
use Rattle.std.specs.Prelude.{count_by}
use Rattle.std.proofs.lemmas.Bool.{cases_lt, cases_eq}
use Rattle.std.proofs.lemmas.List.{ext_get_or, get_or_past, get_or-set_same, get_or-set_other, length-set, set_past}
use Rattle.std.proofs.lemmas.List.Sums.{sum_by-set, sum_by-append, sum_by-cons}
use Rattle.tp_record.specs.Lists.{count_from, long_enough}
use Rattle.tp_laws.proofs.Model.ListLaws.{length-map_count, get_or-map_count, long_table}

module _ {A : Type 0} where
  -- the options of the numbers below n
  abbrev pub table : ℕ → (ℕ → Option A) → List (Option A)
  table n f = map f (count_from 0 n)

  -- none from n on
  abbrev pub NoneFrom : ℕ → (ℕ → Option A) → Type 0
  NoneFrom n f = (w : ℕ) → n ≤ w → f w ≡ None

  pub table_read : (n : ℕ) (f : ℕ → Option A) (w : ℕ) → NoneFrom n f → get_or (table n f) w None ≡ f w
  table_read n f w past =
      elim (cases_lt w n) [
        | inl below ↦ let e : w + 0 ≡ w = omega arith in get_or-map_count f 0 n w None below ∙ ap f e
        | inr far ↦ let l : length (table n f) ≤ w = rw (length-map_count f 0 n) far in get_or_past (table n f) w None l ∙ sym (past w far)
      ]

  -- made long enough for w
  pub table_longer : (n : ℕ) (f : ℕ → Option A) (w : ℕ) → NoneFrom n f → long_enough (Some w) None (table n f) ≡ table (max n (suc w)) f
  table_longer n f w past =
      let l : length (table n f) ≡ n = length-map_count f 0 n in
      let m : max n (suc w) ≡ n + (suc w - n) = omega arith in
      rw (l, m) (long_table f None 0 n (suc w - n) (λ x far. past x (omega (arith, far))))

  -- changed at one number
  pub table_set : (n : ℕ) (f g : ℕ → Option A) (w : ℕ) (o : Option A) → g w ≡ o → ((v : ℕ) → v ≢ w → g v ≡ f v) → table n g ≡ set (table n f) w o
  table_set n f g w o at others =
      ext_get_or None (table n g) (set (table n f) w o)
      (length-map_count g 0 n ∙ sym (length-map_count f 0 n) ∙ sym (length-set (table n f) w o))
      (λ v within.
      let below : v < n = rw (sym (length-map_count g 0 n)) within in
      let e : v + 0 ≡ v = omega arith in
      get_or-map_count g 0 n v None below ∙ ap g e
      ∙ elim (cases_eq v w) [
        | inl same ↦
            let long : w < length (table n f) = rw (length-map_count f 0 n) (omega (arith, below, same)) in
            ap g same ∙ at ∙ sym (ap (λ x. get_or (set (table n f) w o) x None) same ∙ get_or-set_same (table n f) w o None long)
        | inr other ↦ others v other ∙ sym (get_or-set_other (table n f) w v o None other ∙ get_or-map_count f 0 n v None below ∙ ap f e)
      ])

  -- and so freed where it is far
  pub table_put : (n : ℕ) (f g : ℕ → Option A) (w : ℕ) (o : Option A) → NoneFrom n f → g w ≡ o → ((v : ℕ) → v ≢ w → g v ≡ f v) →
      table (max n (suc w)) g ≡ set (long_enough (Some w) None (table n f)) w o
  table_put n f g w o past at others = table_set (max n (suc w)) f g w o at others ∙ ap (λ xs. set xs w o) (sym (table_longer n f w past))

  -- how many pass a test that None does not
  module _ (p : Option A → Bool) (none : p None ≡ false) where
    count_none : (m : ℕ) → count_by p (replicate m None) ≡ 0
    count_none zero = refl
    count_none (suc m) =
        let a = sum_by-cons (λ x. cond (p x) 1 0) None (replicate m None) in
        let z : ◌≡◌ {A = ℕ} (cond (p None) 1 0) 0 = ap (λ b. cond b 1 0) none in
        let rest = count_none m in
        let e : count_by p (replicate (suc m) None) ≡ 0 = omega (arith, a, z, rest) in
        e

    pub count_longer : (n : ℕ) (f : ℕ → Option A) (w : ℕ) → count_by p (long_enough (Some w) None (table n f)) ≡ count_by p (table n f)
    count_longer n f w =
        let e = count_none (suc w - length (table n f)) in
        let s = sum_by-append (λ x. cond (p x) 1 0) (table n f) (replicate (suc w - length (table n f)) None) in
        omega (arith, e, s)

    -- a list made longer by None counts as much
    pub count_long : (o : Option ℕ) (xs : List (Option A)) → count_by p (long_enough o None xs) ≡ count_by p xs
    count_long None xs = refl
    count_long (Some w) xs =
        let e = count_none (suc w - length xs) in
        let s = sum_by-append (λ x. cond (p x) 1 0) xs (replicate (suc w - length xs) None) in
        omega (arith, e, s)

    pub count_set : (xs : List (Option A)) (w : ℕ) (o : Option A) → w < length xs → count_by p (set xs w o) + cond (p (get_or xs w None)) 1 0 ≡ count_by p xs + cond (p o) 1 0
    count_set xs w o within = sum_by-set (λ x. cond (p x) 1 0) xs w o None within

    pub count_put : (n : ℕ) (f g : ℕ → Option A) (w : ℕ) (o : Option A) → NoneFrom n f → g w ≡ o → ((v : ℕ) → v ≢ w → g v ≡ f v) →
        count_by p (table (max n (suc w)) g) + cond (p (f w)) 1 0 ≡ count_by p (table n f) + cond (p o) 1 0
    count_put n f g w o past at others =
        let xs : List (Option A) = long_enough (Some w) None (table n f) in
        let long : xs ≡ table (max n (suc w)) f = table_longer n f w past in
        let read : get_or xs w None ≡ f w = ap (λ ys. get_or ys w None) long ∙ table_read (max n (suc w)) f w (λ v far. past v (omega (arith, far))) in
        let within : w < length xs = rw (ap length long ∙ length-map_count f 0 (max n (suc w))) (omega arith) in
        let counted : count_by p xs ≡ count_by p (table n f) = count_longer n f w in
        ap (λ ys. count_by p ys + cond (p (f w)) 1 0) (table_put n f g w o past at others)
        ∙ ap (λ x. count_by p (set xs w o) + cond (p x) 1 0) (sym read)
        ∙ count_set xs w o within
        ∙ ap (λ m. m + cond (p o) 1 0) counted

    pub count_free : (n : ℕ) (f g : ℕ → Option A) (w : ℕ) → NoneFrom n f → g w ≡ None → ((v : ℕ) → v ≢ w → g v ≡ f v) →
        count_by p (table n g) + cond (p (f w)) 1 0 ≡ count_by p (table n f)
    count_free n f g w past at others =
        elim (cases_lt w n) [
          | inl below ↦
              let within : w < length (table n f) = rw (length-map_count f 0 n) below in
              ap (λ ys. count_by p ys + cond (p (f w)) 1 0) (table_set n f g w None at others)
              ∙ ap (λ x. count_by p (set (table n f) w None) + cond (p x) 1 0) (sym (table_read n f w past))
              ∙ count_set (table n f) w None within
              ∙ rw none (omega arith)
          | inr far ↦
              let out : length (table n f) ≤ w = rw (length-map_count f 0 n) far in
              ap (λ ys. count_by p ys + cond (p (f w)) 1 0) (table_set n f g w None at others ∙ set_past (table n f) w None out)
              ∙ rw (past w far, none) (omega arith)
        ]
