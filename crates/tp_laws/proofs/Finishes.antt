-- Each task is finished at most once.
use Rattle.std.proofs.Common.{◌≡◌, ℕ, suc, ◌≤◌, Bool, true, false, ◌&&◌, cond, List, [], ◌∷◌, refl, arith}
use mathlib.Core.Path.{ap₂}
use Rattle.std.specs.Prelude.{◌||◌, unwrap_or}
use Rattle.std.proofs.lemmas.Bool.Decides.{nat_tests}
use Rattle.tp_types.specs.declared.configs.Config.{Config}
use Rattle.tp_types.specs.declared.tasks.Place.{Place}
use Rattle.tp_record.specs.declared.entries.Entry.{Entry}
use Rattle.tp_record.specs.declared.entries.Did.{Did}
use Rattle.tp_record.specs.Lists.{said_of, is_it}
use Rattle.tp_record.specs.Effects.{moved, is_submit}
use Rattle.tp_record.specs.Fields.{submitted, place, swept, is_cancelled, is_queued_place}
use Rattle.tp_record.specs.Words.{finished_by, finishes, finishings, is_stop, is_purge}
use Rattle.tp_laws.proofs.Model.Given.{Told}
use Rattle.tp_laws.specs.Agrees.{is_gone_place}
use Rattle.tp_laws.proofs.Fits.{fits_place, fits_given}
use Rattle.tp_laws.proofs.WordsTasks.{cancelled_agrees, queued_agrees}
use Rattle.tp_laws.proofs.News.{new_gone}

-- the entry finishes t, which is at p, and cancelled or not
abbrev pub ends_now : Did → ℕ → Bool → Place → Bool
ends_now d t c p = is_it (finished_by d) t || (is_stop d && is_queued_place p) || (is_purge d && is_queued_place p && c)

pub finishes_agrees : (c : Config) (h : List Entry) (e : Entry) → Told c h → (t : ℕ) → finishes e h t ≡ ends_now e.did t (is_cancelled h t) (place h t)
finishes_agrees c h e told t =
    ap₂ (λ a b. is_it (finished_by e.did) t || (is_stop e.did && b) || (is_purge e.did && b && a)) (cancelled_agrees c h told t) (queued_agrees c h told t)

-- t, at p, has been finished f times, where n tasks are submitted
abbrev FinishedFits : ℕ → ℕ → Place → ℕ → Type 0
FinishedFits n t p f = (n ≤ t → f ≡ 0) × (is_gone_place p ≡ false → f ≡ 0) × (f ≤ 1)

finished_new : (d : Did) (n t f : ℕ) (p : Place) (c : Bool) → fits_place d t n p ≡ true → (n ≤ t → is_gone_place p ≡ true) → (n ≤ t → f ≡ 0) →
    cond (is_submit d) (suc n) n ≤ t → cond (ends_now d t c p) (suc f) f ≡ 0
finished_new d n t f p c fits gone new far = grind (arith, nat_tests)

finished_open : (d : Did) (n t f : ℕ) (p : Place) (c : Bool) → fits_place d t n p ≡ true → (n ≤ t → f ≡ 0) → (is_gone_place p ≡ false → f ≡ 0) →
    is_gone_place (unwrap_or (said_of t (moved d)) (swept d c p)) ≡ false → cond (ends_now d t c p) (suc f) f ≡ 0
finished_open d n t f p c fits new there is = grind (arith, nat_tests)

finished_once : (d : Did) (n t f : ℕ) (p : Place) (c : Bool) → fits_place d t n p ≡ true → (is_gone_place p ≡ false → f ≡ 0) → f ≤ 1 →
    cond (ends_now d t c p) (suc f) f ≤ 1
finished_once d n t f p c fits there one = grind (arith, nat_tests)

finished_fits : (c : Config) (h : List Entry) → Told c h → (t : ℕ) → FinishedFits (submitted h) t (place h t) (finishings h t)
finished_fits c [] told t = ((λ far. refl), (λ there. refl), omega arith)
finished_fits c (e ∷ h) told t =
    let was = finished_fits c h told.1 t in
    let fits : fits_place e.did t (submitted h) (place h t) ≡ true = fits_given c h e.did t told.0 in
    rw (finishes_agrees c h e told.1 t) (
      finished_new e.did (submitted h) t (finishings h t) (place h t) (is_cancelled h t) fits (new_gone c h told.1 t) was.0,
      finished_open e.did (submitted h) t (finishings h t) (place h t) (is_cancelled h t) fits was.0 was.1,
      finished_once e.did (submitted h) t (finishings h t) (place h t) (is_cancelled h t) fits was.1 was.2,
    )

-- at most one entry finishes a task
pub finishes_once : (c : Config) (h : List Entry) → Told c h → (t : ℕ) → finishings h t ≤ 1
finishes_once c h told t = (finished_fits c h told t).2
