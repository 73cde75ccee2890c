-- A walk along a list none of whose numbers stands there twice, which leaves some of them out.
use Rattle.std.proofs.Common.{◌≡◌, ℕ, ◌<◌, Bool, true, false, not, ◌&&◌, ◌||◌, cond, List, [], ◌∷◌, length, drop, Option, Some, None, refl, arith, sym, ap, ◌∙◌, inl, inr, ◌+◌}
use Rattle.std.specs.Prelude.{All, count_by, filter, slice_get, ◌==◌}
use Rattle.std.proofs.lemmas.List.Elements.{All-contains}
use Rattle.std.proofs.lemmas.List.Sums.{sum_by-cons}
use Rattle.std.proofs.lemmas.Bool.{cases_eq, eq-eqb, ne_eqb, false≢true, and_parts}
use Rattle.tp_record.specs.Lists.{is_it, without, is_among, IsOnce}
use Rattle.tp_laws.proofs.Model.ListLaws.{filter-filter}
use Rattle.tp_laws.proofs.Model.Queues.{once-filter, Contains-from_among}
use Rattle.tp_laws.proofs.Effects.Lists.{without_absent}
use Rattle.tp_audit.specs.Changed.{leave_out}
use Rattle.tp_audit.specs.Orders.{next_of, from_on}
use Rattle.tp_audit.proofs.Changing.{filter_among}
use Rattle.tp_audit.proofs.Sweeping.{among-without}

-- of a list with y in front, y aside
among_other : (x y : ℕ) (ys : List ℕ) → is_among x ys ≡ true → is_among x (y ∷ ys) ≡ true
among_other x y ys there = rw there (either (x == y))
  where
    either : (b : Bool) → (b || true) ≡ true
    either true = refl
    either false = refl

apart_from : (x y : ℕ) (ys : List ℕ) → is_among y ys ≡ false → is_among x ys ≡ true → x ≡ y → ⊥
apart_from x y ys absent there same = absurd (false≢true (sym absent ∙ ap (λ z. is_among z ys) (sym same) ∙ there))

pub head_is : (ys : List ℕ) (z : ℕ) → is_it (slice_get ys 0) z ≡ true → is_among z ys ≡ true
head_is [] z is = absurd (false≢true is)
head_is (y ∷ ys) z is = rw is refl

pub next_among : (w : ℕ) (ys : List ℕ) (z : ℕ) → is_it (next_of w ys) z ≡ true → is_among z ys ≡ true
next_among w [] z is = absurd (false≢true is)
next_among w (y ∷ ys) z is = by_test (next_among w ys z) (y == w) is
  where
    by_test : (is_it (next_of w ys) z ≡ true → is_among z ys ≡ true) → (b : Bool) → is_it (cond b (slice_get ys 0) (next_of w ys)) z ≡ true → is_among z (y ∷ ys) ≡ true
    by_test later true is = among_other z y ys (head_is ys z is)
    by_test later false is = among_other z y ys (later is)

-- who stands behind w is another
pub next_apart : (w : ℕ) (ys : List ℕ) (z : ℕ) → IsOnce ys → is_it (next_of w ys) z ≡ true → (z == w) ≡ false
next_apart w [] z once is = absurd (false≢true is)
next_apart w (y ∷ ys) z once is = elim (cases_eq y w) [
  | inl same ↦
      let there = head_is ys z (rw (eq-eqb y w same) at is) in
      ne_eqb z w (λ e. apart_from z y ys once.0 there (e ∙ sym same))
  | inr other ↦ next_apart w ys z once.1 (rw (ne_eqb y w other) at is)
]

from_skip : (o : Option ℕ) (y : ℕ) (ys : List ℕ) → is_it o y ≡ false → from_on o (y ∷ ys) ≡ from_on o ys
from_skip None y ys off = refl
from_skip (Some x) y ys off = rw (off_by x y off) refl
  where
    off_by : (x y : ℕ) → (y == x) ≡ false → (y == x) ≡ false
    off_by x y off = off

pub from_head : (ys : List ℕ) → from_on (slice_get ys 0) ys ≡ ys
from_head [] = refl
from_head (y ∷ ys) = rw (eq-eqb y y refl) refl

-- an option that names only what is among ys does not name y
unnamed : (o : Option ℕ) (y : ℕ) (ys : List ℕ) → is_among y ys ≡ false → ((z : ℕ) → is_it o z ≡ true → is_among z ys ≡ true) → is_it o y ≡ false
unnamed o y ys absent among = by_test (is_it o y) refl
  where
    by_test : (b : Bool) → is_it o y ≡ b → is_it o y ≡ false
    by_test true is = absurd (false≢true (sym absent ∙ among y is))
    by_test false is = is

-- what is left once w is passed
pub from_next : (w : ℕ) (ys : List ℕ) → IsOnce ys → from_on (next_of w ys) ys ≡ drop 1 (from_on (Some w) ys)
from_next w [] once = refl
from_next w (y ∷ ys) once = elim (cases_eq y w) [
  | inl same ↦ rw (eq-eqb y w same) (from_skip (slice_get ys 0) y ys (unnamed (slice_get ys 0) y ys once.0 (head_is ys)) ∙ from_head ys)
  | inr other ↦ rw (ne_eqb y w other) (from_skip (next_of w ys) y ys (unnamed (next_of w ys) y ys once.0 (next_among w ys)) ∙ from_next w ys once.1)
]

-- the same, where w leaves
pub from_without : (w : ℕ) (ys : List ℕ) → IsOnce ys → from_on (next_of w ys) (without w ys) ≡ drop 1 (from_on (Some w) ys)
from_without w [] once = refl
from_without w (y ∷ ys) once = elim (cases_eq y w) [
  | inl same ↦ rw (eq-eqb y w same) (ap (from_on (slice_get ys 0)) (without_absent w ys (ap (λ z. is_among z ys) (sym same) ∙ once.0)) ∙ from_head ys)
  | inr other ↦
      rw (ne_eqb y w other)
      (from_skip (next_of w ys) y (without w ys) (unnamed (next_of w ys) y ys once.0 (next_among w ys)) ∙ from_without w ys once.1)
]

-- the walk has w before it, and then the rest
pub rest_among : (w : ℕ) (ys : List ℕ) → IsOnce ys → is_among w ys ≡ true → (x : ℕ) →
    (is_among w (from_on (Some w) ys) ≡ true) × (is_among x (drop 1 (from_on (Some w) ys)) ≡ (not (x == w) && is_among x (from_on (Some w) ys)))
rest_among w [] once there x = absurd (false≢true there)
rest_among w (y ∷ ys) once there x = elim (cases_eq y w) [
  | inl same ↦ rw (eq-eqb y w same) (
    rw (eq-eqb w y (sym same)) refl,
    elim (cases_eq x w) [
      | inl e ↦ rw (eq-eqb x w e) (ap (λ z. is_among z ys) (e ∙ sym same) ∙ once.0)
      | inr ne ↦ rw (ne_eqb x w ne, ne_eqb x y (λ e. ne (e ∙ same))) refl
    ],
  )
  | inr other ↦ rw (ne_eqb y w other) (rest_among w ys once.1 (rw (ne_eqb w y (λ e. other (sym e))) at there) x)
]

pub length-from : (w : ℕ) (ys : List ℕ) → is_among w ys ≡ true → length (drop 1 (from_on (Some w) ys)) < length (from_on (Some w) ys)
length-from w [] there = absurd (false≢true there)
length-from w (y ∷ ys) there = elim (cases_eq y w) [
  | inl same ↦ rw (eq-eqb y w same) (omega arith)
  | inr other ↦ rw (ne_eqb y w other) (length-from w ys (rw (ne_eqb w y (λ e. other (sym e))) at there))
]

-- one turn of the walk: w leaves, unless it is kept
module _ (keep : ℕ → Bool) (w : ℕ) (ys : List ℕ) (once : IsOnce ys) (there : is_among w ys ≡ true) where
  pub left_rest : from_on (next_of w ys) (leave_out keep (Some w) ys) ≡ drop 1 (from_on (Some w) ys)
  left_rest = elim (keep w) as (λ b. from_on (next_of w ys) (cond b ys (without w ys)) ≡ drop 1 (from_on (Some w) ys)) [ true ↦ from_next w ys once | false ↦ from_without w ys once ]

  pub left_once : IsOnce (leave_out keep (Some w) ys)
  left_once = elim (keep w) as (λ b. IsOnce (cond b ys (without w ys))) [ true ↦ once | false ↦ once-filter (λ y. not (y == w)) ys once ]

  pub left_there : (x : ℕ) → is_it (next_of w ys) x ≡ true → is_among x (leave_out keep (Some w) ys) ≡ true
  left_there x is = elim (keep w) as (λ b. is_among x (cond b ys (without w ys)) ≡ true) [
    | true ↦ next_among w ys x is
    | false ↦ among-without w ys x ∙ rw (next_apart w ys x once is, next_among w ys x is) refl
  ]

  pub left_kept : filter keep (leave_out keep (Some w) ys) ≡ filter keep ys
  left_kept = by_test (keep w) refl
    where
      same : keep w ≡ false → (x : ℕ) → is_among x ys ≡ true → (not (x == w) && keep x) ≡ keep x
      same off x among = elim (cases_eq x w) [ inl e ↦ rw (eq-eqb x w e) (sym (ap keep e ∙ off)) | inr ne ↦ rw (ne_eqb x w ne) refl ]

      by_test : (b : Bool) → keep w ≡ b → filter keep (cond (keep w) ys (without w ys)) ≡ filter keep ys
      by_test true is = rw is refl
      by_test false is = rw is (filter-filter keep (λ y. not (y == w)) ys ∙ filter_among (λ x. not (x == w) && keep x) keep ys (same is))

  pub left_past : ((x : ℕ) → is_among x ys ≡ true → is_among x (from_on (Some w) ys) ≡ false → keep x ≡ true) →
      (x : ℕ) → is_among x (leave_out keep (Some w) ys) ≡ true → is_among x (drop 1 (from_on (Some w) ys)) ≡ false → keep x ≡ true
  left_past past x among out = elim (cases_eq x w) [
    | inl same ↦ by_test same (keep w) refl
    | inr ne ↦ past x (before (keep w) among) (sym (rw (ne_eqb x w ne) at (rest_among w ys once there x).1) ∙ out)
  ]
    where
      before : (b : Bool) → is_among x (cond b ys (without w ys)) ≡ true → is_among x ys ≡ true
      before true among = among
      before false among = (and_parts (not (x == w)) (is_among x ys) (sym (among-without w ys x) ∙ among)).1

      by_test : x ≡ w → (b : Bool) → keep w ≡ b → keep x ≡ true
      by_test same true is = ap keep same ∙ is
      by_test same false is = absurd (false≢true (sym (among-without w ys x ∙ rw (eq-eqb x w same) refl) ∙ rw is at among))

-- the walk has w before it, and counts it first
pub from_cons : (w : ℕ) (ys : List ℕ) → is_among w ys ≡ true → from_on (Some w) ys ≡ w ∷ drop 1 (from_on (Some w) ys)
from_cons w [] there = absurd (false≢true there)
from_cons w (y ∷ ys) there = elim (cases_eq y w) [
  | inl same ↦ rw (eq-eqb y w same) (ap (λ z. z ∷ ys) same)
  | inr other ↦ rw (ne_eqb y w other) (from_cons w ys (rw (ne_eqb w y (λ e. other (sym e))) at there))
]

-- one turn of a walk that counts
pub counted_next : (p : ℕ → Bool) (w : ℕ) (ys : List ℕ) (count more : ℕ) → IsOnce ys → is_among w ys ≡ true → more ≡ count + cond (p w) 1 0 →
    count + count_by p (from_on (Some w) ys) ≡ count_by p ys → more + count_by p (from_on (next_of w ys) ys) ≡ count_by p ys
counted_next p w ys count more once there one before =
    let rest = ap (count_by p) (from_next w ys once) in
    let here = ap (count_by p) (from_cons w ys there) in
    let cons = sum_by-cons (λ x. cond (p x) 1 0) w (drop 1 (from_on (Some w) ys)) in
    omega (arith, one, before, rest, here, cons)

-- who stands behind x is below what all are below
pub next_below : (n x : ℕ) (xs : List ℕ) (z : ℕ) → All (λ t. t < n) xs → next_of x xs ≡ Some z → z < n
next_below n x xs z all is =
    let there = Contains-from_among xs z (next_among x xs z (ap (λ o. is_it o z) is ∙ eq-eqb z z refl)) in
    All-contains (λ t. t < n) xs z all there
