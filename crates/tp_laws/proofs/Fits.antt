-- What a given entry says of one task's place and of the run state before it, as tests that compute.
use Rattle.std.proofs.Common.{◌≡◌, ℕ, ◌<◌, Bool, true, false, ◌&&◌, List, [], ◌∷◌, ◌++◌, refl, arith, inl, inr}
use Rattle.std.specs.Prelude.{nat_lt, nat_le, ◌==◌, if◌then◌else◌}
use Rattle.std.proofs.lemmas.Bool.{cases_eq, eq-eqb, ne_eqb, lt-ltb, le-leb}
use Rattle.std.proofs.lemmas.Bool.Decides.{nat_tests}
use Rattle.tp_types.specs.declared.configs.Config.{Config}
use Rattle.tp_types.specs.declared.tasks.Place.{Place}
use Rattle.tp_types.specs.declared.tasks.Place.TheVariants as at
use Rattle.tp_record.specs.declared.entries.Entry.{Entry}
use Rattle.tp_record.specs.declared.entries.Did.{Did}
use Rattle.tp_record.specs.declared.entries.Did.TheVariants as did
use Rattle.tp_record.specs.declared.entries.Looked.{Looked}
use Rattle.tp_record.specs.declared.entries.Looked.TheVariants as looked
use Rattle.tp_record.specs.declared.entries.Offered.TheVariants as offered
use Rattle.tp_record.specs.declared.entries.Seconded.TheVariants as seconded
use Rattle.tp_record.specs.declared.entries.Grown.TheVariants as grown
use Rattle.tp_record.specs.declared.entries.Ruled.TheVariants as ruled
use Rattle.tp_record.specs.declared.entries.Opened.TheVariants as opened
use Rattle.tp_record.specs.declared.entries.Failed.TheVariants as failed
use Rattle.tp_record.specs.declared.entries.Took.TheVariants as took
use Rattle.tp_record.specs.declared.entries.Started.TheVariants as started
use Rattle.tp_record.specs.Fields.{rank, submitted, place, is_queued_place}
use Rattle.tp_record.specs.Step.{is_refused_place}
use Rattle.tp_laws.specs.Agrees.{is_caller_place}
use Rattle.tp_laws.proofs.Model.Given.{Given, IsAt, Told}

abbrev pub is_looking_place : Place → Bool
is_looking_place at.Looking = true
is_looking_place _ = false

abbrev pub is_offer_place : Place → Bool
is_offer_place at.ToOffer = true
is_offer_place _ = false

abbrev pub is_grow_place : Place → Bool
is_grow_place at.ToGrow = true
is_grow_place _ = false

abbrev pub is_held_place : ℕ → Place → Bool
is_held_place w (at.Held v) = v.0 == w
is_held_place w _ = false

abbrev pub is_taken_place : ℕ → Place → Bool
is_taken_place w (at.Taken v) = v.0 == w
is_taken_place w _ = false

abbrev pub is_running_place : ℕ → Place → Bool
is_running_place w (at.Running v) = v.0 == w
is_running_place w _ = false

-- task t is not u, or it is one of the n submitted tasks, and there
abbrev pub fits_at : ℕ → ℕ → ℕ → Bool → Bool
fits_at u t n there = if t == u then nat_lt t n && there else true

-- the entry fits where n tasks are submitted, and t is at p
abbrev pub fits_place : Did → ℕ → ℕ → Place → Bool
fits_place (did.Submit u k pr l) t n p = u.0 == n
fits_place (did.Look u l) t n p = fits_at u.0 t n (is_looking_place p)
fits_place (did.Offer u o) t n p = fits_at u.0 t n (is_offer_place p)
fits_place (did.Second u seconded.Back) t n p = fits_at u.0 t n (is_queued_place p)
fits_place (did.Second u s) t n p = fits_at u.0 t n true
fits_place (did.Grow u g) t n p = fits_at u.0 t n (is_grow_place p)
fits_place (did.Verdict u v (ruled.RetryDrop x)) t n p = fits_at u.0 t n (is_refused_place p) && fits_at x.0 t n (is_queued_place p)
fits_place (did.Verdict u v r) t n p = fits_at u.0 t n (is_refused_place p)
fits_place (did.CallerEnd u o) t n p = fits_at u.0 t n (is_caller_place p)
fits_place (did.Open w (opened.GivenUpRefuse u)) t n p = fits_at u.0 t n (is_held_place w.0 p)
fits_place (did.Fail w (failed.Offer u)) t n p = fits_at u.0 t n (is_held_place w.0 p)
fits_place (did.Fail w (failed.Refuse u)) t n p = fits_at u.0 t n (is_held_place w.0 p)
fits_place (did.Take w (took.Held u)) t n p = fits_at u.0 t n (is_held_place w.0 p)
fits_place (did.Take w (took.Head u)) t n p = fits_at u.0 t n (is_queued_place p)
fits_place (did.Begin w (started.Run u)) t n p = fits_at u.0 t n (is_taken_place w.0 p)
fits_place (did.Begin w (started.Skip u)) t n p = fits_at u.0 t n (is_taken_place w.0 p)
fits_place (did.End w u o) t n p = fits_at u.0 t n (is_running_place w.0 p)
fits_place (did.Remove u true) t n p = fits_at u.0 t n (is_queued_place p)
fits_place (did.Cancel u flag on) t n p = fits_at u.0 t n true
fits_place d t n p = true

fits_is : (h : List Entry) (u t : ℕ) (q : Place) (f : Place → Bool) → IsAt h u q → f q ≡ true → fits_at u t (submitted h) (f (place h t)) ≡ true
fits_is h u t q f there is =
    elim (cases_eq t u) [
      | inl same ↦ rw (same, eq-eqb u u refl, lt-ltb u (submitted h) there.0, there.1) is
      | inr other ↦ rw (ne_eqb t u other) refl
    ]

known_is : (n u t : ℕ) → u < n → fits_at u t n true ≡ true
known_is n u t below = grind (arith, nat_tests)

both : (a b : Bool) → a ≡ true → b ≡ true → (a && b) ≡ true
both true true x y = refl
both true false x y = y
both false b x y = x

pub fits_given : (c : Config) (h : List Entry) (d : Did) (t : ℕ) → Given c h d → fits_place d t (submitted h) (place h t) ≡ true
fits_given c h (did.Submit u k pr l) t g = eq-eqb _ _ g.0
fits_given c h _ t g = grind (arith, nat_tests)

abbrev pub fits_looked : Looked → ℕ → Bool
fits_looked looked.Refuse r = nat_lt 0 r
fits_looked _ r = r == 0

-- the entry fits the run state r
abbrev pub fits_rank : Did → ℕ → Bool
fits_rank (did.Submit u k pr l) r = fits_looked l r
fits_rank (did.Look u l) r = fits_looked l r
fits_rank (did.Second u seconded.Back) r = nat_lt 0 r
fits_rank (did.Grow u (grown.Reserve w)) r = r == 0
fits_rank (did.Verdict u v ruled.Rejected) r = true
fits_rank (did.Verdict u v ruled.Discarded) r = true
fits_rank (did.Verdict u v _) r = r == 0
fits_rank (did.Open w opened.Live) r = nat_le r 1
fits_rank (did.Open w opened.GivenUp) r = nat_le 2 r
fits_rank (did.Open w (opened.GivenUpRefuse u)) r = nat_le 1 r
fits_rank (did.Fail w (failed.Offer u)) r = r == 0
fits_rank (did.Take w (took.Head u)) r = nat_le r 1
fits_rank (did.Take w took.Idle) r = r == 0
fits_rank did.Tidy r = nat_le 1 r && nat_le r 2
fits_rank did.Ended r = r == 3
fits_rank d r = true

pub rank_given : (c : Config) (h : List Entry) (d : Did) → Given c h d → fits_rank d (rank h) ≡ true
rank_given c h (did.Submit u k pr (looked.Reserve w)) g = eq-eqb _ _ g.1.0
rank_given c h _ g = grind (arith, nat_tests)

-- what is said of each entry is said at each front
pub told_front : (c : Config) (later h : List Entry) → Told c (later ++ h) → Told c h
told_front c [] h told = told
told_front c (e ∷ later) h told = told_front c later h told.1
