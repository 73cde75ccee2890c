-- A way goes on by the legs of a trail.
use Rattle.std.proofs.Common.{◌≡◌, ℕ, zero, suc, ◌<◌, List, [], ◌∷◌, ◌++◌, length, get_or, map, refl, sym, ◌∙◌, subst, arith}
use Rattle.std.proofs.lemmas.Slice.Zip.{AllZip-long}
use Rattle.std.proofs.lemmas.Option.{get_or_from_slice_get, slice_get_within, same_Some}
use Rattle.tp_explore_walk.specs.declared.trails.Leg.{Leg}
use Rattle.tp_explore_walk.specs.Moves.{AreLed, IsAt, IsWalk, Places}
use Rattle.tp_explore_walk.specs.Paths.{LeadsTo, row_of}
use Rattle.tp_explore_walk.proofs.Places.{zip_at, zip_from}
use Rattle.tp_explore.specs.declared.moves.Move.{Move}
use Rattle.tp_explore.specs.declared.plans.Plan.{Plan}
use Rattle.tp_explore.specs.Situation.{Situation, seen}
use Rattle.tp_explore.specs.Moves as spec
use Rattle.tp_explore_ends.specs.Ways.{IsWay}

-- a way with one more move
pub way_more : (plan : Plan) (s y z : Situation) (ms : List Move) (m : Move) → IsWay plan s ms y → spec.IsMove plan y m → seen m.after ≡ z → IsWay plan s (ms ++ m ∷ []) z
way_more plan s y z [] m way is to = let at = subst (λ x. spec.IsMove plan x m) (sym way) is in (at.0, at.1, at.2, to)
way_more plan s y z (n ∷ ms) m way is to = (way.0, way.1, way.2, way_more plan (seen n.after) y z ms m way.3 is to)

-- a way that was followed so far, and the legs that are left of the trail
pub record IsFollowed (plan : Plan) (xs : List Situation) (rows : List (List ℕ)) (ms : List Move) (legs : List Leg) (end : ℕ) : Type 0 where
  pub place : ℕ
  pub situation : Situation
  pub there : IsAt xs place situation
  pub way : IsWay plan (spec.starts plan) ms situation
  pub leads : LeadsTo rows place legs end

pub followed_none : (plan : Plan) (xs : List Situation) (rows : List (List ℕ)) (ends : List ℕ) (legs : List Leg) (end : ℕ) →
    IsWalk (spec.moves plan) (spec.starts plan) xs rows ends → LeadsTo rows 0 legs end → IsFollowed plan xs rows [] legs end
followed_none plan xs rows ends legs end walked leads = record { place = 0; situation = spec.starts plan; there = walked.begins; way = refl; leads = leads }

pub followed_all : (plan : Plan) (xs : List Situation) (rows : List (List ℕ)) (ms : List Move) (end : ℕ) (z : Situation) →
    IsFollowed plan xs rows ms [] end → IsAt xs end z → IsWay plan (spec.starts plan) ms z
followed_all plan xs rows ms end z f at =
    let there : IsAt xs end f.situation = subst (λ p. IsAt xs p f.situation) f.leads f.there in
    let same : f.situation ≡ z = same_Some _ _ (sym there ∙ at) in
    subst (λ y. IsWay plan (spec.starts plan) ms y) same f.way

module _ (plan : Plan) (xs : List Situation) (rows : List (List ℕ)) (ends : List ℕ) (walked : IsWalk (spec.moves plan) (spec.starts plan) xs rows ends) where
  -- a row stands beside each state
  pub rows_beside : length xs ≡ length rows
  rows_beside = AllZip-long (λ row x. Places xs row (spec.moves plan x)) rows xs walked.moves

  -- so each row's place but the first stands in an earlier row
  pub rows_led : AreLed (length rows) rows
  rows_led = subst (λ n. AreLed n rows) rows_beside walked.led

  -- where the next leg is from, and where it leads
  pub next_leg : (ms : List Move) (leg : Leg) (legs : List Leg) (end : ℕ) → IsFollowed plan xs rows ms (leg ∷ legs) end →
      (z : Situation) × IsAt xs leg.from z × IsWay plan (spec.starts plan) ms z × (j : ℕ) × (y : Situation) × IsAt (spec.moves plan z) leg.choice y × IsAt xs j y × LeadsTo rows j legs end
  next_leg ms leg legs end f =
      let R : List ℕ → Situation → Type 0 = λ row x. Places xs row (spec.moves plan x) in
      let beside = zip_at R rows xs walked.moves f.place f.situation f.there in
      let row = beside.0 in
      let is : row_of rows f.place ≡ row = get_or_from_slice_get rows f.place row [] beside.1 in
      let leads = f.leads.1 in
      let at : IsAt row leg.choice leads.0 = subst (λ r. IsAt r leg.choice leads.0) is leads.1 in
      let to = zip_from (IsAt xs) row (spec.moves plan f.situation) beside.2 leg.choice leads.0 at in
      (f.situation, subst (λ p. IsAt xs p f.situation) (sym f.leads.0) f.there, f.way, leads.0, to.0, to.1, to.2, leads.2)

  -- with the leg's move
  pub followed_more : (ms : List Move) (leg : Leg) (legs : List Leg) (end : ℕ) (x : Situation) (m : Move) → IsFollowed plan xs rows ms (leg ∷ legs) end →
      IsAt xs leg.from x → spec.IsMove plan x m → IsAt (spec.moves plan x) leg.choice (seen m.after) → IsFollowed plan xs rows (ms ++ m ∷ []) legs end
  followed_more ms leg legs end x m f at is leads =
      let n = next_leg ms leg legs end f in
      let same : x ≡ n.0 = same_Some _ _ (sym at ∙ n.1) in
      let leads' : IsAt (spec.moves plan n.0) leg.choice (seen m.after) = subst (λ s. IsAt (spec.moves plan s) leg.choice (seen m.after)) same leads in
      let to : seen m.after ≡ n.4 = same_Some _ _ (sym leads' ∙ n.5) in
      record {
        place = n.3;
        situation = n.4;
        there = n.6;
        way = way_more plan (spec.starts plan) n.0 n.4 ms m n.2 (subst (λ s. spec.IsMove plan s m) same is) to;
        leads = n.7;
      }

  -- the move of the next leg is among those from where it is
  pub choice_within : (ms : List Move) (leg : Leg) (legs : List Leg) (end : ℕ) (x : Situation) → IsFollowed plan xs rows ms (leg ∷ legs) end → IsAt xs leg.from x →
      leg.choice < length (spec.moves plan x)
  choice_within ms leg legs end x f at =
      let n = next_leg ms leg legs end f in
      let same : n.0 ≡ x = same_Some _ _ (sym n.1 ∙ at) in
      subst (λ s. leg.choice < length (spec.moves plan s)) same (slice_get_within (spec.moves plan n.0) leg.choice n.4 n.5)

  -- which is the place of a state
  pub from_within : (ms : List Move) (leg : Leg) (legs : List Leg) (end : ℕ) → IsFollowed plan xs rows ms (leg ∷ legs) end → leg.from < length xs
  from_within ms leg legs end f = let n = next_leg ms leg legs end f in slice_get_within xs leg.from n.0 n.1

-- what a list's element stands for
pub at_place : {A V : Type 0} (f : A → V) (xs : List A) (k : ℕ) (d : A) → k < length xs → IsAt (map f xs) k (f (get_or xs k d))
at_place f [] k d lt = absurd (omega arith)
at_place f (x ∷ xs) zero d lt = refl
at_place f (x ∷ xs) (suc k) d lt = at_place f xs k d (omega arith)
