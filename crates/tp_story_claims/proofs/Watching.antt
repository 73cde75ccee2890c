-- Claims as entries leave them.
use Rattle.std.proofs.Common.{◌≡◌, ◌<◌, ℕ, zero, suc, Bool, true, false, List, [], ◌∷◌, length, take, drop, set, get_or, arith, refl, sym, ap, ap₂, ◌∙◌}
use Rattle.std.specs.Prelude.{◌&&◌, map, is_none, Some, if◌then◌else◌}
use Rattle.tp_types.specs.declared.configs.Config.{Config}
use Rattle.tp_record.specs.declared.entries.Entry.{Entry}
use Rattle.tp_story_claims.specs.declared.claims.Claim.{Claim}
use Rattle.tp_story_claims.specs.declared.checks.Watched.{Watched}
use Rattle.tp_story_claims.specs.declared.quantities.Seen.{Seen}
use Rattle.tp_story_claims.specs.Claims.{is_lost}
use Rattle.tp_story_claims.specs.Checks.{AreWatched, fresh, seen_so_far, watched, watched_after}

-- an entry leaves the claim itself as it is
claim_by : (b : Bool) (n : ℕ) (w : Watched) → (if b then record w { lost = Some n } else w).claim ≡ w.claim
claim_by true n w = refl
claim_by false n w = refl

pub claim_stays : (s : Seen) (w : Watched) → (watched_after s w).claim ≡ w.claim
claim_stays s w = claim_by (is_none w.lost && is_lost w.claim s) s.entries w

pub claims_stay : (s : Seen) (ws : List Watched) → map (λ (w : Watched). w.claim) (map (watched_after s) ws) ≡ map (λ (w : Watched). w.claim) ws
claims_stay s [] = refl
claims_stay s (w ∷ ws) = ap₂ (λ k ks. k ∷ ks) (claim_stays s w) (claims_stay s ws)

-- claims go on with the next entry
pub watched_next : (c : Config) (e : Entry) (h : List Entry) (ws : List Watched) → AreWatched c h ws → AreWatched c (e ∷ h) (map (watched_after (seen_so_far c (e ∷ h))) ws)
watched_next c e h [] were = tt
watched_next c e h (w ∷ ws) were =
    let s = seen_so_far c (e ∷ h) in
    (ap (watched_after s) were.0 ∙ ap (λ k. watched_after s (watched c k h)) (sym (claim_stays s w)), watched_next c e h ws were.1)

-- before the first entry
pub asked_claims : (ks : List Claim) → map (λ (w : Watched). w.claim) (map fresh ks) ≡ ks
asked_claims [] = refl
asked_claims (k ∷ ks) = ap (λ xs. k ∷ xs) (asked_claims ks)

pub watched_none : (c : Config) (ks : List Claim) → AreWatched c [] (map fresh ks)
watched_none c [] = tt
watched_none c (k ∷ ks) = (refl, watched_none c ks)

-- a list of which the first i are as f makes them, and the others as they were, goes on with one more
module _ {A : Type 0} (f : A → A) (d : A) where
  pub first_in_place : (i : ℕ) (ys xs : List A) → i < length ys → length ys ≡ length xs → take i ys ≡ map f (take i xs) → drop i ys ≡ drop i xs →
      take (suc i) (set ys i (f (get_or ys i d))) ≡ map f (take (suc i) xs)
  first_in_place i [] xs within same first rest = absurd (omega (arith, within))
  first_in_place i (y ∷ ys) [] within same first rest = absurd (omega (arith, same))
  first_in_place zero (y ∷ ys) (x ∷ xs) within same first rest = let head : y ≡ x = cc in ap (λ z. f z ∷ []) head
  first_in_place (suc i) (y ∷ ys) (x ∷ xs) within same first rest =
      let head : y ≡ f x = cc in
      let tail : take i ys ≡ map f (take i xs) = cc in
      ap₂ (λ z zs. z ∷ zs) head (first_in_place i ys xs (omega (arith, within)) (omega (arith, same)) tail rest)

  pub rest_in_place : (i : ℕ) (ys xs : List A) (v : A) → i < length ys → length ys ≡ length xs → drop i ys ≡ drop i xs → drop (suc i) (set ys i v) ≡ drop (suc i) xs
  rest_in_place i [] xs v within same rest = absurd (omega (arith, within))
  rest_in_place i (y ∷ ys) [] v within same rest = absurd (omega (arith, same))
  rest_in_place zero (y ∷ ys) (x ∷ xs) v within same rest = cc
  rest_in_place (suc i) (y ∷ ys) (x ∷ xs) v within same rest = rest_in_place i ys xs v (omega (arith, within)) (omega (arith, same)) rest
