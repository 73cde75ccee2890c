-- An offer to a queue is one more in the model's line.
use Rattle.std.proofs.Common.{◌≡◌, ℕ, suc, ◌^◌, ◌<◌, Bool, true, false, cond, List, [], ◌∷◌, ◌++◌, Some, refl, arith, ap, ◌∙◌, sym, inl, inr}
use mathlib.Core.Path.{ap₂}
use Rattle.std.specs.Prelude.{filter, nat_le, nat_lt}
use Rattle.std.specs.List.{Contains}
use Rattle.std.proofs.lemmas.Bool.{cases_lt, le-leb, lt-leb}
use Rattle.std.proofs.lemmas.List.Elements.{Contains-append_right}
use Rattle.tp_types.specs.declared.configs.QueueKind.{QueueKind}
use Rattle.tp_types.specs.declared.ids.TaskId.{TaskId}
use Rattle.tp_types.specs.Queues.{is_ranked}
use Rattle.tp_ring.specs.Ranks.{key, enter}
use Rattle.tp_record.specs.Lists.{join_line}
use Rattle.tp_queue.specs.Waiting.{place_key}
use Rattle.tp_machine_state.specs.Shows.{numbers}

-- each waits under the key of its number and of a place number below n
abbrev pub Keyed : Bool → (ℕ → ℕ) → ℕ → List (TaskId × ℕ) → Type 0
Keyed b f n [] = Unit {0}
Keyed b f n (x ∷ xs) = ((m : ℕ) × (m < n) × (x.1 ≡ cond b (key (f x.0.0) m) m)) × Keyed b f n xs

pub keyed_all : (k : QueueKind) (f : ℕ → ℕ) (n : ℕ) (xs : List (TaskId × ℕ)) → ((x : TaskId × ℕ) → Contains xs x → (m : ℕ) × (m < n) × (x.1 ≡ place_key k (f x.0.0) m)) → Keyed (is_ranked k) f n xs
keyed_all k f n [] each = tt
keyed_all k f n (x ∷ xs) each = (each x (0, omega arith, refl), keyed_all k f n xs (λ y has. each y (Contains-append_right (x ∷ []) xs y has)))

-- the tests of keys are those of numbers
keys_le : (a b m n : ℕ) → m < n → n < 2 ^ 64 → nat_le (key a m) (key b n) ≡ nat_le a b
keys_le a b m n less small = elim (cases_lt b a) [
  | inl more ↦ lt-leb (key a m) (key b n) (omega (arith, more, small)) ∙ sym (lt-leb a b more)
  | inr at ↦ le-leb (key a m) (key b n) (omega (arith, at, less)) ∙ sym (le-leb a b at)
]

keys_lt : (a b m n : ℕ) → m < n → n < 2 ^ 64 → nat_lt (key b n) (key a m) ≡ nat_lt b a
keys_lt a b m n less small = elim (cases_lt b a) [
  | inl more ↦ le-leb (suc (key b n)) (key a m) (omega (arith, more, small)) ∙ sym (le-leb (suc b) a more)
  | inr at ↦ lt-leb (suc (key b n)) (key a m) (omega (arith, at, less)) ∙ sym (lt-leb (suc b) a (omega (arith, at)))
]

-- so a cut of the items by keys is a cut of the line
module _ (f : ℕ → ℕ) (p n : ℕ) (small : n < 2 ^ 64) where
  numbers-le : (xs : List (TaskId × ℕ)) → Keyed true f n xs → numbers (filter (λ y. nat_le y.1 (key p n)) xs) ≡ filter (λ u. nat_le (f u) p) (numbers xs)
  numbers-le [] all = refl
  numbers-le (x ∷ xs) all =
      let e : nat_le x.1 (key p n) ≡ nat_le (f x.0.0) p = ap (λ k. nat_le k (key p n)) all.0.2 ∙ keys_le (f x.0.0) p all.0.0 n all.0.1 small in
      rw e (by (nat_le (f x.0.0) p) (numbers-le xs all.1))
    where
      by : (b : Bool) → numbers (filter (λ y. nat_le y.1 (key p n)) xs) ≡ filter (λ u. nat_le (f u) p) (numbers xs) →
          numbers (cond b (x ∷ filter (λ y. nat_le y.1 (key p n)) xs) (filter (λ y. nat_le y.1 (key p n)) xs)) ≡ cond b (x.0.0 ∷ filter (λ u. nat_le (f u) p) (numbers xs)) (filter (λ u. nat_le (f u) p) (numbers xs))
      by true rest = ap (λ us. x.0.0 ∷ us) rest
      by false rest = rest

  numbers-lt : (xs : List (TaskId × ℕ)) → Keyed true f n xs → numbers (filter (λ y. nat_lt (key p n) y.1) xs) ≡ filter (λ u. nat_lt p (f u)) (numbers xs)
  numbers-lt [] all = refl
  numbers-lt (x ∷ xs) all =
      let e : nat_lt (key p n) x.1 ≡ nat_lt p (f x.0.0) = ap (λ k. nat_lt (key p n) k) all.0.2 ∙ keys_lt (f x.0.0) p all.0.0 n all.0.1 small in
      rw e (by (nat_lt p (f x.0.0)) (numbers-lt xs all.1))
    where
      by : (b : Bool) → numbers (filter (λ y. nat_lt (key p n) y.1) xs) ≡ filter (λ u. nat_lt p (f u)) (numbers xs) →
          numbers (cond b (x ∷ filter (λ y. nat_lt (key p n) y.1) xs) (filter (λ y. nat_lt (key p n) y.1) xs)) ≡ cond b (x.0.0 ∷ filter (λ u. nat_lt p (f u)) (numbers xs)) (filter (λ u. nat_lt p (f u)) (numbers xs))
      by true rest = ap (λ us. x.0.0 ∷ us) rest
      by false rest = rest

numbers-append : (xs ys : List (TaskId × ℕ)) → numbers (xs ++ ys) ≡ numbers xs ++ numbers ys
numbers-append [] ys = refl
numbers-append (x ∷ xs) ys = ap (λ us. x.0.0 ∷ us) (numbers-append xs ys)

-- where keys are place numbers alone, all are less than the new one
enter-plain : (f : ℕ → ℕ) (n : ℕ) (t : TaskId) (xs : List (TaskId × ℕ)) → Keyed false f n xs → enter n t xs ≡ xs ++ (t, n) ∷ []
enter-plain f n t [] all = refl
enter-plain f n t (x ∷ xs) all =
    let m = all.0.1 in
    let e = all.0.2 in
    rw (le-leb x.1 n (omega (arith, m, e)), lt-leb (suc n) x.1 (omega (arith, m, e))) (ap (λ ys. x ∷ ys) (enter-plain f n t xs all.1))

pub joins : (b : Bool) (f : ℕ → ℕ) (items : List (TaskId × ℕ)) (n : ℕ) (t : TaskId) → n < 2 ^ 64 → Keyed b f n items →
    numbers (enter (cond b (key (f t.0) n) n) t items) ≡ join_line b f (Some t.0) (numbers items)
joins true f items n t small keyed =
    numbers-append (filter (λ y. nat_le y.1 (key (f t.0) n)) items) ((t, key (f t.0) n) ∷ filter (λ y. nat_lt (key (f t.0) n) y.1) items)
    ∙ ap₂ (λ us vs. us ++ t.0 ∷ vs) (numbers-le f (f t.0) n small items keyed) (numbers-lt f (f t.0) n small items keyed)
joins false f items n t small keyed = ap numbers (enter-plain f n t items keyed) ∙ numbers-append items ((t, n) ∷ [])
