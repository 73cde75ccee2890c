-- One turn more.
use Rattle.std.proofs.Common.{ℕ, ◌+◌, ◌<◌, ◌≡◌, List, [], ◌∷◌, ◌++◌, take, get_or, length, refl, sym, subst, ap, ◌∙◌}
use Rattle.std.proofs.lemmas.List.{append-nil, nil_from_length, take_more}
use Rattle.tp_pool.specs.Turns.{Through, ThroughBoth}

-- where none are left, all have had their turn
pub all_passed : {X : Type 0} (xs rest all : List X) → xs ++ rest ≡ all → length rest ≡ 0 → xs ≡ all
all_passed xs rest all is none = sym (append-nil xs) ∙ ap (λ ys. xs ++ ys) (sym (nil_from_length rest none)) ∙ is

module _ {X S : Type 0} (R : X → S → S → Type 0) where
  pub through_more : (xs : List X) (x : X) (old mid new : S) → Through R xs old mid → R x mid new → Through R (xs ++ x ∷ []) old new
  through_more [] x old mid new same turn = (new, subst (λ s. R x s new) same turn, refl)
  through_more (y ∷ ys) x old mid new turns turn = (turns.0, turns.1, through_more ys x turns.0 mid new turns.2 turn)

  -- that at the next index
  pub through_next : (xs : List X) (i : ℕ) (d : X) (old mid new : S) → i < length xs → Through R (take i xs) old mid → R (get_or xs i d) mid new → Through R (take (i + 1) xs) old new
  through_next xs i d old mid new within turns turn =
      subst (λ ys. Through R ys old new) (sym (take_more xs i d within)) (through_more (take i xs) (get_or xs i d) old mid new turns turn)

module _ {X Y S : Type 0} (R : X → Y → S → S → Type 0) where
  pub both_more : (xs : List X) (ys : List Y) (x : X) (y : Y) (old mid new : S) → ThroughBoth R xs ys old mid → R x y mid new → ThroughBoth R (xs ++ x ∷ []) (ys ++ y ∷ []) old new
  both_more [] [] x y old mid new same turn = (new, subst (λ s. R x y s new) same turn, refl)
  both_more [] (b ∷ ys) x y old mid new turns turn = absurd turns
  both_more (a ∷ xs) [] x y old mid new turns turn = absurd turns
  both_more (a ∷ xs) (b ∷ ys) x y old mid new turns turn = (turns.0, turns.1, both_more xs ys x y turns.0 mid new turns.2 turn)

  -- that at the next index
  pub both_next : (xs : List X) (i : ℕ) (d : X) (ys zs : List Y) (y : Y) (old mid new : S) → i < length xs → zs ≡ ys ++ y ∷ [] → ThroughBoth R (take i xs) ys old mid → R (get_or xs i d) y mid new →
      ThroughBoth R (take (i + 1) xs) zs old new
  both_next xs i d ys zs y old mid new within more turns turn =
      subst (λ vs. ThroughBoth R vs zs old new) (sym (take_more xs i d within))
      (subst (λ ws. ThroughBoth R (take i xs ++ get_or xs i d ∷ []) ws old new) (sym more) (both_more (take i xs) ys (get_or xs i d) y old mid new turns turn))
