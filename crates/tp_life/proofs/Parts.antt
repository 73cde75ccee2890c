-- Callers, before and after their lives.
use Rattle.std.proofs.Common.{ℕ, ◌≡◌, ◌<◌, ◌+◌, List, [], ◌∷◌, ◌++◌, Option, Some, None, length, zero, suc, refl, ap, sym, ◌∙◌, subst, arith}
use Rattle.std.proofs.lemmas.List.{length-append}
use Rattle.std.proofs.lemmas.Bool.{false≢true}
use Rattle.std.specs.Prelude.{Bool, IsSome, IsSomeAnd, slice_index_or}
use Rattle.tp_record.specs.declared.entries.Entry.{Entry}
use Rattle.tp_book.specs.PassView.{PassView}
use Rattle.tp_life.specs.Lived.{AreLived, IsNewPass}
use Rattle.tp_life.specs.Ran.{Pairwise}

next_at : {X : Type 0} (xs ys : List X) (x d : X) → slice_index_or (xs ++ x ∷ ys) (length xs) d ≡ x
next_at [] ys x d = refl
next_at (z ∷ xs) ys x d = next_at xs ys x d

-- one that is still to come
pub one_left : {X : Type 0} (xs ys all : List X) (x : X) → xs ++ x ∷ ys ≡ all → length xs < length all
one_left xs ys all x whole = subst (λ zs. length xs < length zs) whole (omega (arith, length-append xs (x ∷ ys)))

-- what is so at each place is so of the next element
pub next_is : {X : Type 0} (P : X → Type 0) (all xs ys : List X) (x : X) → xs ++ x ∷ ys ≡ all → ((i : ℕ) (d : X) → i < length all → P (slice_index_or all i d)) → P x
next_is P all xs ys x whole each =
    subst P (ap (λ zs. slice_index_or zs (length xs) x) (sym whole) ∙ next_at xs ys x x) (each (length xs) x (one_left xs ys all x whole))

-- what is so at each place of a list, and of one more, is so at each place of both
each_more : {X : Type 0} (P : ℕ → X → Type 0) (xs : List X) (x : X) → ((i : ℕ) (d : X) → i < length xs → P i (slice_index_or xs i d)) → P (length xs) x →
    (i : ℕ) (d : X) → i < length (xs ++ x ∷ []) → P i (slice_index_or (xs ++ x ∷ []) i d)
each_more P [] x each last zero d below = last
each_more P [] x each last (suc i) d below = absurd (omega (arith, below))
each_more P (z ∷ xs) x each last zero d below = each 0 d (omega (arith))
each_more P (z ∷ xs) x each last (suc i) d below = each_more (λ n y. P (suc n) y) xs x (λ n e early. each (suc n) e (omega (arith, early))) last i d (omega (arith, below))

-- so it is of the list that a push makes
pub each_pushed : {X : Type 0} (P : ℕ → X → Type 0) (xs ys : List X) (x : X) → ys ≡ xs ++ x ∷ [] → ((i : ℕ) (d : X) → i < length xs → P i (slice_index_or xs i d)) → P (length xs) x →
    (i : ℕ) (d : X) → i < length ys → P i (slice_index_or ys i d)
each_pushed P xs ys x pushed each last = subst (λ ks. (i : _) (d : _) → i < length ks → P i (slice_index_or ks i d)) (sym pushed) (each_more P xs x each last)

-- what is there
pub some_of : {X : Type 0} (o : Option X) → IsSome o → (x : X) × (o ≡ Some x)
some_of (Some x) there = (x, refl)
some_of None there = absurd (false≢true there)

pub some_and : {X : Type 0} (P : X → Type 0) (o : Option X) → IsSomeAnd o P → IsSome o
some_and P (Some x) holds = refl
some_and P None holds = absurd holds

-- a pass that is made behind one that knows nothing is new
pub new_pass : (keeps : Bool) (p : PassView) (n : ℕ) (front : List Entry) (released : List ℕ) →
    p ≡ record { number = n; amount = 0; front = front; released = released; keeps = keeps; receipts = []; room = p.room } → front ≡ [] → released ≡ [] → IsNewPass keeps p
new_pass keeps p n front released is no_entry none_released =
    is ∙ ap (λ f. record { number = n; amount = 0; front = f; released = released; keeps = keeps; receipts = []; room = p.room }) no_entry
    ∙ ap (λ r. record { number = n; amount = 0; front = []; released = r; keeps = keeps; receipts = []; room = p.room }) none_released
    ∙ ap (λ m. record { number = m; amount = 0; front = []; released = []; keeps = keeps; receipts = []; room = p.room }) (sym (ap (λ q. q.number) is))

-- X are callers, with these numbers and passes, and what came of them
module _ {X O : Type 0} (number : X → ℕ) (pass : X → PassView) (out : X → Option O) (leaves : ℕ → PassView → PassView → O → Type 0) (keeps : Bool) where
  -- callers who sat down with new passes, from this number on, have lived; so these came of them, and these are their passes
  pub lived : (who : ℕ) (olds news : List X) (outs : List O) (passes : List PassView) → ((i : ℕ) (d : X) → i < length olds → (number (slice_index_or olds i d) ≡ who + i) × IsNewPass keeps (pass (slice_index_or olds i d))) →
      length news ≡ length olds →
      ((i : ℕ) (d : X) → i < length news → IsSomeAnd (out (slice_index_or news i d)) (leaves (number (slice_index_or olds i d)) (pass (slice_index_or olds i d)) (pass (slice_index_or news i d)))) →
      Pairwise (λ k o. out k ≡ Some o) news outs → Pairwise (λ k p. p ≡ pass k) news passes → AreLived leaves keeps who outs passes
  lived who olds [] [] [] seated many left were are = tt
  lived who olds [] (o ∷ outs) passes seated many left were are = absurd were
  lived who olds [] [] (p ∷ passes) seated many left were are = absurd are
  lived who [] (k ∷ news) outs passes seated many left were are = absurd (omega (arith, many))
  lived who (j ∷ olds) (k ∷ news) [] passes seated many left were are = absurd were
  lived who (j ∷ olds) (k ∷ news) (o ∷ outs) [] seated many left were are = absurd are
  lived who (j ∷ olds) (k ∷ news) (o ∷ outs) (p ∷ passes) seated many left were are =
      let sat = seated 0 j (omega (arith)) in
      let number_is : number j ≡ who = omega (arith, sat.0) in
      let mine : leaves (number j) (pass j) (pass k) o = subst (λ v. IsSomeAnd v (leaves (number j) (pass j) (pass k))) were.0 (left 0 k (omega (arith))) in (
        (pass j, sat.1, subst (λ n. leaves n (pass j) p o) number_is (subst (λ v. leaves (number j) (pass j) v o) (sym are.0) mine)),
        lived (suc who) olds news outs passes
            (λ i d below. let next = seated (suc i) d (omega (arith, below)) in (omega (arith, next.0), next.1))
            (omega (arith, many)) (λ i d below. left (suc i) d (omega (arith, below))) were.1 are.1,
      )

  -- so it is where the list that is lent for the lives is the list of the callers
  pub lived_as : (seats olds news : List X) (outs : List O) (passes : List PassView) → seats ≡ olds → ((i : ℕ) (d : X) → i < length seats → (number (slice_index_or seats i d) ≡ i) × IsNewPass keeps (pass (slice_index_or seats i d))) →
      length news ≡ length olds →
      ((i : ℕ) (d : X) → i < length news → IsSomeAnd (out (slice_index_or news i d)) (leaves (number (slice_index_or olds i d)) (pass (slice_index_or olds i d)) (pass (slice_index_or news i d)))) →
      Pairwise (λ k o. out k ≡ Some o) news outs → Pairwise (λ k p. p ≡ pass k) news passes → AreLived leaves keeps 0 outs passes
  lived_as seats olds news outs passes same seated many left were are =
      lived 0 olds news outs passes
      (subst (λ ks. (i : ℕ) (d : X) → i < length ks → (number (slice_index_or ks i d) ≡ 0 + i) × IsNewPass keeps (pass (slice_index_or ks i d))) same (λ i d below. let sat = seated i d below in (omega (arith, sat.0), sat.1)))
      many left were are
