-- The new pool before any call is one that a walk may begin with.
use Rattle.std.proofs.Common.{◌≡◌, ℕ, ◌*◌, ◌^◌, ◌≤◌, Bool, true, false, ◌&&◌, List, [], ◌∷◌, length, map, sum_by, refl, arith}
use Rattle.std.specs.Prelude.{nat_le}
use Rattle.std.specs.List.{list_all}
use Rattle.std.proofs.lemmas.Bool.Decides.{nat_tests}
use Rattle.std.proofs.lemmas.List.Sums.{sum_by-cons}
use Rattle.tp_explore.specs.declared.plans.Plan.{Plan}
use Rattle.tp_explore.specs.Moves.{before, owes, is_fit, starts, Holds}

both : (a b : Bool) → (a && b) ≡ true → (a ≡ true) × (b ≡ true)
both true b e = (refl, e)
both false b e = cc

-- so many callers with so few calls each owe no more than this
sum_few : {A : Type 0} (f : A → ℕ) (xs : List A) → list_all (λ x. nat_le (f x) 1048576) xs ≡ true → sum_by owes (map (λ x. before (f x)) xs) ≤ length xs * 2097152
sum_few f [] h = omega arith
sum_few f (x ∷ xs) h =
    let p = both (nat_le (f x) 1048576) (list_all (λ x. nat_le (f x) 1048576) xs) h in
    let one : f x ≤ 1048576 = let t = p.0 in grind (arith, nat_tests) in
    let more = sum_few f xs p.1 in
    let s = sum_by-cons owes (before (f x)) (map (λ x. before (f x)) xs) in
    omega arith

pub starts_holds : (plan : Plan) → is_fit plan ≡ true → Holds plan (starts plan)
starts_holds plan h =
    let p = both (nat_le plan.config.record_limit (2 ^ 20)) _ h in
    let q = both (nat_le (length plan.callers.items) 4096) _ p.1 in
    let limit : plan.config.record_limit ≤ 2 ^ 20 = let t = p.0 in grind (arith, nat_tests) in
    let callers : length plan.callers.items ≤ 4096 = let t = q.0 in grind (arith, nat_tests) in
    let few = sum_few (λ calls. length calls.items) plan.callers.items q.1 in
    record {
      history = [];
      legal = tt;
      stands = refl;
      limit = limit;
      steps = omega arith;
      slots = omega arith;
      bounded = omega arith;
    }
