-- A table each row of which is changed, one after the other, as a list names them.
use Rattle.std.proofs.Common.{◌≡◌, ℕ, suc, ◌+◌, ◌<◌, ◌≤◌, Bool, true, false, not, ◌&&◌, cond, List, [], ◌∷◌, length, get_or, set, Some, None, refl, arith, sym, ap, ◌∙◌, inl, inr}
use Rattle.std.specs.Prelude.{◌==◌, slice_get}
use Rattle.std.proofs.lemmas.Bool.{cases_lt, cases_eq, eq-eqb, ne_eqb, and_parts}
use Rattle.std.proofs.lemmas.List.{ext_get_or, get_or_past, get_or-set_same, get_or-set_other, set_past}
use Rattle.std.proofs.lemmas.Option.{none-some}
use Rattle.tp_record.specs.Lists.{without, change_each, is_among}
use Rattle.tp_laws.proofs.Model.ListLaws.{length-change_each, get_or-change_each}
use Rattle.tp_laws.proofs.Model.Queues.{among-filter}
use Rattle.tp_audit.specs.Changed.{change_at}
use Rattle.tp_audit.proofs.Changing.{length-change_at}

module _ {A : Type 0} (g : ℕ → A → A) (d : A) where
  -- of the rows that `all` names those are changed that are not left
  pub record Swept (old : List A) (all left : List ℕ) (new : List A) : Type 0 where
    pub within : (x : ℕ) → is_among x left ≡ true → is_among x all ≡ true
    pub len : length new ≡ length old
    pub read : (x : ℕ) → get_or new x d ≡ cond (is_among x all && not (is_among x left)) (g x (get_or old x d)) (get_or old x d)

  nothing_yet : (b : Bool) (y z : A) → z ≡ cond (b && not b) y z
  nothing_yet true y z = refl
  nothing_yet false y z = refl

  pub swept_start : (old : List A) (all : List ℕ) → Swept old all all old
  swept_start old all = record { within = λ x is. is; len = refl; read = λ x. nothing_yet (is_among x all) (g x (get_or old x d)) (get_or old x d) }

  -- what is read after a change at one place
  read_at : ((i : ℕ) → g i d ≡ d) → (w : ℕ) (xs : List A) (x : ℕ) → get_or (change_at g d (Some w) xs) x d ≡ cond (x == w) (g x (get_or xs x d)) (get_or xs x d)
  read_at none w xs x = elim (cases_eq x w) [
    | inl same ↦ rw (eq-eqb x w same) (ap (λ n. get_or (set xs w (g w (get_or xs w d))) n d) same ∙ here ∙ ap (λ n. g n (get_or xs n d)) (sym same))
    | inr other ↦ rw (ne_eqb x w other) (get_or-set_other xs w x (g w (get_or xs w d)) d other)
  ]
    where
      here : get_or (set xs w (g w (get_or xs w d))) w d ≡ g w (get_or xs w d)
      here = elim (cases_lt w (length xs)) [
        | inl below ↦ get_or-set_same xs w (g w (get_or xs w d)) d below
        | inr past ↦
            ap (λ ys. get_or ys w d) (set_past xs w (g w (get_or xs w d)) past)
            ∙ get_or_past xs w d past ∙ sym (none w) ∙ ap (g w) (sym (get_or_past xs w d past))
      ]

  -- the first of those that are left is changed
  pub swept_step : ((i : ℕ) → g i d ≡ d) → (old new : List A) (all left rest : List ℕ) (w : ℕ) → is_among w left ≡ true →
      ((x : ℕ) → is_among x rest ≡ (not (x == w) && is_among x left)) → Swept old all left new → Swept old all rest (change_at g d (Some w) new)
  swept_step none old new all left rest w there others swept = record {
    within = λ x is. swept.within x (and_parts (not (x == w)) (is_among x left) (sym (others x) ∙ is)).1;
    len = length-change_at g d (Some w) new ∙ swept.len;
    read = λ x. read_at none w new x ∙ ap (λ y. cond (x == w) (g x y) y) (swept.read x) ∙ elim (cases_eq x w) [
      | inl same ↦
          let left_is : is_among x left ≡ true = ap (λ n. is_among n left) same ∙ there in
          let all_is : is_among x all ≡ true = swept.within x left_is in
          rw (others x, eq-eqb x w same, left_is, all_is) refl
      | inr other ↦ rw (others x, ne_eqb x w other) refl
    ];
  }

  -- once none is left, and where the others would stay
  pub swept_end : ((i : ℕ) → g i d ≡ d) → (old new : List A) (all : List ℕ) → ((x : ℕ) → is_among x all ≡ false → g x (get_or old x d) ≡ get_or old x d) →
      Swept old all [] new → new ≡ change_each g 0 old
  swept_end none old new all others swept =
      ext_get_or d new (change_each g 0 old) (swept.len ∙ sym (length-change_each g 0 old))
      (λ x below. swept.read x ∙ by_test x (is_among x all) refl ∙ sym (get_or-change_each g 0 x old d none ∙ ap (λ n. g n (get_or old x d)) (plain x)))
    where
      plain : (x : ℕ) → x + 0 ≡ x
      plain x = omega arith

      by_test : (x : ℕ) (b : Bool) → is_among x all ≡ b → cond (is_among x all && true) (g x (get_or old x d)) (get_or old x d) ≡ g x (get_or old x d)
      by_test x true is = rw is refl
      by_test x false is = rw is (sym (others x is))

-- the head is in the list, and the list without it is shorter
pub head_among : (xs : List ℕ) (w : ℕ) → Some w ≡ slice_get xs 0 → is_among w xs ≡ true
head_among [] w is = absurd (none-some w (sym is))
head_among (x ∷ xs) w is = let e : w ≡ x = grind arith in rw (eq-eqb w x e) refl

pub length-without_le : (w : ℕ) (xs : List ℕ) → length (without w xs) ≤ length xs
length-without_le w [] = omega arith
length-without_le w (x ∷ xs) =
    let rest = length-without_le w xs in
    elim (x == w) as (λ b. length (cond (not b) (x ∷ without w xs) (without w xs)) ≤ suc (length xs)) [ true ↦ omega (arith, rest) | false ↦ omega (arith, rest) ]

pub length-without_head : (xs : List ℕ) (w : ℕ) → Some w ≡ slice_get xs 0 → length (without w xs) < length xs
length-without_head [] w is = absurd (none-some w (sym is))
length-without_head (x ∷ xs) w is =
    let e : x ≡ w = grind arith in
    let rest = length-without_le w xs in
    rw (eq-eqb x w e) (omega (arith, rest))

pub among-without : (w : ℕ) (xs : List ℕ) (x : ℕ) → is_among x (without w xs) ≡ (not (x == w) && is_among x xs)
among-without w xs x = among-filter x (λ y. not (y == w)) xs

pub no_head : (xs : List ℕ) → None ≡ slice_get xs 0 → xs ≡ []
no_head [] none = refl
no_head (x ∷ xs) none = absurd (none-some x none)
