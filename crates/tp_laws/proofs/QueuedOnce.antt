-- Each task is put in the queue at most once.
use Rattle.std.proofs.Common.{◌≡◌, ℕ, suc, ◌≤◌, max, Bool, true, false, cond, List, [], ◌∷◌, refl, arith}
use Rattle.std.specs.Prelude.{◌==◌, unwrap_or, count_by}
use Rattle.tp_laws.proofs.WordsLists.{count_by-cons}
use Rattle.std.proofs.lemmas.Bool.Decides.{nat_tests}
use Rattle.tp_types.specs.declared.configs.Config.{Config}
use Rattle.tp_types.specs.declared.tasks.Place.{Place}
use Rattle.tp_types.specs.declared.tasks.Place.TheVariants as at
use Rattle.tp_record.specs.declared.entries.Entry.{Entry}
use Rattle.tp_record.specs.declared.entries.Did.{Did}
use Rattle.tp_record.specs.Lists.{said_of, is_it}
use Rattle.tp_record.specs.Effects.{moved, is_submit, reaches}
use Rattle.tp_record.specs.Fields.{rank, submitted, place, swept, is_cancelled}
use Rattle.tp_record.specs.Words.{queued_by}
use Rattle.tp_laws.proofs.Model.Given.{Told}
use Rattle.tp_laws.proofs.Fits.{fits_place, fits_given, fits_rank, rank_given}

-- at rank r a task at p was not put in the queue yet
abbrev pub is_unqueued : ℕ → Place → Bool
is_unqueued r at.Looking = true
is_unqueued r at.ToOffer = true
is_unqueued r at.ToGrow = true
is_unqueued r at.Refused = r == 0
is_unqueued r (at.Held w) = true
is_unqueued r _ = false

-- t, at p, was put in the queue q times, where n tasks are submitted and the rank is r
abbrev QueuedFits : ℕ → ℕ → ℕ → Place → ℕ → Type 0
QueuedFits n t r p q = (n ≤ t → q ≡ 0) × (is_unqueued r p ≡ true → q ≡ 0) × (q ≤ 1)

queued_new : (d : Did) (n t q : ℕ) (p : Place) → fits_place d t n p ≡ true → (n ≤ t → q ≡ 0) →
    cond (is_submit d) (suc n) n ≤ t → cond (is_it (queued_by d) t) (suc q) q ≡ 0
queued_new d n t q p fits new far = grind (arith, nat_tests)

queued_not : (d : Did) (n t r q : ℕ) (p : Place) (c : Bool) → fits_place d t n p ≡ true → fits_rank d r ≡ true → (n ≤ t → q ≡ 0) → (is_unqueued r p ≡ true → q ≡ 0) →
    is_unqueued (max (reaches d) r) (unwrap_or (said_of t (moved d)) (swept d c p)) ≡ true → cond (is_it (queued_by d) t) (suc q) q ≡ 0
queued_not d n t r q p c fits ranks new early is = grind (arith, nat_tests)

queued_one : (d : Did) (n t r q : ℕ) (p : Place) → fits_place d t n p ≡ true → (is_unqueued r p ≡ true → q ≡ 0) → q ≤ 1 →
    cond (is_it (queued_by d) t) (suc q) q ≤ 1
queued_one d n t r q p fits early one = grind (arith, nat_tests)

queued_fits : (c : Config) (h : List Entry) → Told c h → (t : ℕ) → QueuedFits (submitted h) t (rank h) (place h t) (count_by (λ e. is_it (queued_by e.did) t) h)
queued_fits c [] told t = ((λ far. refl), (λ early. refl), omega arith)
queued_fits c (e ∷ h) told t =
    let was = queued_fits c h told.1 t in
    let fits : fits_place e.did t (submitted h) (place h t) ≡ true = fits_given c h e.did t told.0 in
    let ranks : fits_rank e.did (rank h) ≡ true = rank_given c h e.did told.0 in
    rw (count_by-cons (λ (x : Entry). is_it (queued_by x.did) t) e h) (
      queued_new e.did (submitted h) t _ (place h t) fits was.0,
      queued_not e.did (submitted h) t (rank h) _ (place h t) (is_cancelled h t) fits ranks was.0 was.1,
      queued_one e.did (submitted h) t (rank h) _ (place h t) fits was.1 was.2,
    )

-- at most one entry puts a task in the queue
pub queued_once : (c : Config) (h : List Entry) → Told c h → (t : ℕ) → count_by (λ e. is_it (queued_by e.did) t) h ≤ 1
queued_once c h told t = (queued_fits c h told t).2
