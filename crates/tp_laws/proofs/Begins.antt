-- Each task begins at most once.
use Rattle.std.proofs.Common.{◌≡◌, ℕ, suc, ◌≤◌, Bool, true, false, cond, List, [], ◌∷◌, length, refl, arith}
use Rattle.std.specs.Prelude.{◌||◌, unwrap_or}
use Rattle.std.proofs.lemmas.Bool.Decides.{nat_tests}
use Rattle.tp_types.specs.declared.configs.Config.{Config}
use Rattle.tp_types.specs.declared.tasks.Place.{Place}
use Rattle.tp_types.specs.declared.tasks.Place.TheVariants as at
use Rattle.tp_record.specs.declared.entries.Entry.{Entry}
use Rattle.tp_record.specs.declared.entries.Did.{Did}
use Rattle.tp_record.specs.Lists.{said_of, is_it}
use Rattle.tp_record.specs.Effects.{moved, is_submit}
use Rattle.tp_record.specs.Fields.{submitted, place, swept, is_cancelled}
use Rattle.tp_record.specs.Words.{begun, begun_by, is_begun}
use Rattle.tp_laws.proofs.Model.Given.{Told}
use Rattle.tp_laws.proofs.Fits.{fits_place, fits_given}

-- a task in this place has not begun
abbrev pub is_early : Place → Bool
is_early (at.Running w) = false
is_early at.Caller = false
is_early at.Gone = false
is_early _ = true

-- t, at p, has begun b times, where n tasks are submitted
abbrev BeganFits : ℕ → ℕ → Place → ℕ → Type 0
BeganFits n t p b = (n ≤ t → b ≡ 0) × (is_early p ≡ true → b ≡ 0) × (b ≤ 1)

began_new : (d : Did) (n t b : ℕ) (p : Place) → fits_place d t n p ≡ true → (n ≤ t → b ≡ 0) →
    cond (is_submit d) (suc n) n ≤ t → cond (is_it (begun_by d) t) (suc b) b ≡ 0
began_new d n t b p fits new far = grind (arith, nat_tests)

began_early : (d : Did) (n t b : ℕ) (p : Place) (c : Bool) → fits_place d t n p ≡ true → (n ≤ t → b ≡ 0) → (is_early p ≡ true → b ≡ 0) →
    is_early (unwrap_or (said_of t (moved d)) (swept d c p)) ≡ true → cond (is_it (begun_by d) t) (suc b) b ≡ 0
began_early d n t b p c fits new early is = grind (arith, nat_tests)

began_once : (d : Did) (n t b : ℕ) (p : Place) → fits_place d t n p ≡ true → (is_early p ≡ true → b ≡ 0) → b ≤ 1 →
    cond (is_it (begun_by d) t) (suc b) b ≤ 1
began_once d n t b p fits early one = grind (arith, nat_tests)

length-cond : (b : Bool) (e : Entry) (xs : List Entry) → length (cond b (e ∷ xs) xs) ≡ cond b (suc (length xs)) (length xs)
length-cond true e xs = refl
length-cond false e xs = refl

began_fits : (c : Config) (h : List Entry) → Told c h → (t : ℕ) → BeganFits (submitted h) t (place h t) (length (begun h t))
began_fits c [] told t = ((λ far. refl), (λ early. refl), omega arith)
began_fits c (e ∷ h) told t =
    let was = began_fits c h told.1 t in
    let fits : fits_place e.did t (submitted h) (place h t) ≡ true = fits_given c h e.did t told.0 in
    rw (length-cond (is_it (begun_by e.did) t) e (begun h t)) (
      began_new e.did (submitted h) t (length (begun h t)) (place h t) fits was.0,
      began_early e.did (submitted h) t (length (begun h t)) (place h t) (is_cancelled h t) fits was.0 was.1,
      began_once e.did (submitted h) t (length (begun h t)) (place h t) fits was.1 was.2,
    )

-- at most one entry begins a task
pub begins_once : (c : Config) (h : List Entry) → Told c h → (t : ℕ) → length (begun h t) ≤ 1
begins_once c h told t = (began_fits c h told t).2

-- an entry begins it just where one is counted
pub begun_none : (h : List Entry) (t : ℕ) → length (begun h t) ≡ 0 → is_begun h t ≡ false
begun_none [] t none = refl
begun_none (e ∷ h) t none = by_test (begun_none h t) (is_it (begun_by e.did) t) none
  where
    by_test : (length (begun h t) ≡ 0 → is_begun h t ≡ false) → (b : Bool) → length (cond b (e ∷ begun h t) (begun h t)) ≡ 0 → (b || is_begun h t) ≡ false
    by_test rest true some = absurd (omega arith)
    by_test rest false none = rest none

-- a task whose place says so, or that is not yet submitted, has not begun
pub early_not_begun : (c : Config) (h : List Entry) → Told c h → (t : ℕ) → is_early (place h t) ≡ true → is_begun h t ≡ false
early_not_begun c h told t early = begun_none h t ((began_fits c h told t).1 early)

pub new_not_begun : (c : Config) (h : List Entry) → Told c h → (t : ℕ) → submitted h ≤ t → is_begun h t ≡ false
new_not_begun c h told t far = begun_none h t ((began_fits c h told t).0 far)
