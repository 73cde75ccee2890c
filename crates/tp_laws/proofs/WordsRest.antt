-- Second looks, retries and outcomes: the words of the rules agree with the working tables.
use Rattle.std.proofs.Common.{◌≡◌, ℕ, suc, ◌≤◌, Bool, false, List, [], ◌∷◌, None, Option, refl, arith, ap, ◌∙◌}
use Rattle.std.specs.Prelude.{unwrap_or, ◌||◌, if◌then◌else◌}
use Rattle.std.proofs.lemmas.Bool.Decides.{nat_tests}
use Rattle.tp_types.specs.declared.tasks.Place.{Place}
use Rattle.tp_types.specs.declared.configs.Config.{Config}
use Rattle.tp_record.specs.declared.entries.Entry.{Entry}
use Rattle.tp_record.specs.declared.entries.Did.{Did}
use Rattle.tp_record.specs.declared.entries.Did.TheVariants as did
use Rattle.tp_record.specs.Lists.{said_of}
use Rattle.tp_record.specs.Effects.{Outcome, seconds, outcomes, tries}
use Rattle.tp_record.specs.Fields.{owes_second, outcome, retries, counted, submitted, place, task_row}
use Rattle.tp_record.specs.State.{no_row}
use Rattle.tp_record.specs.Step.{Legal}
use Rattle.tp_record.specs.Words.{of_it, accepts_offer, looks_again, owes_look, retries_it, retry_count, outcome_by, body_outcome, is_submitted}
use Rattle.tp_laws.proofs.WordsLists.{by_option, count_by-cons}
use Rattle.tp_laws.proofs.WordsTasks.{Fits, told_fits, is_submitted_below}
use Rattle.tp_laws.proofs.Model.Told.{told_legal}
use Rattle.tp_laws.proofs.Model.Places.{task_row-past}

-- the row of a task that was never submitted says nothing
unsubmitted_row : (c : Config) (h : List Entry) → Legal c h → (t : ℕ) → is_submitted h t ≡ false → task_row h t ≡ no_row
unsubmitted_row c h legal t none =
    let known = is_submitted_below c h (told_legal c h legal) t in
    let past : submitted h ≤ t = grind (arith, nat_tests) in
    task_row-past c h legal t past

-- the place of each task that an entry names fits
fits_legal : (c : Config) (e : Entry) (h : List Entry) → Legal c (e ∷ h) → (t : ℕ) → Fits e.did t (is_submitted h t) (place h t)
fits_legal c e h legal t =
    let told = told_legal c (e ∷ h) legal in
    told_fits c h e.did t told.1 told.0

owes_step : (d : Did) (t : ℕ) (known is : Bool) (p : Place) → Fits d t known p → (known ≡ false → is ≡ false) →
    (if looks_again d t then false else (accepts_offer d t || is)) ≡ unwrap_or (said_of t (seconds d)) is
owes_step (did.Submit u k pr l) t known is p fits none = grind (arith, nat_tests)
owes_step (did.Offer u o) t known is p fits none = grind (arith, nat_tests)
owes_step (did.Second u s) t known is p fits none = grind (arith, nat_tests)
owes_step _ t known is p fits none = refl

-- second looks in words
pub owes_agrees : (c : Config) (h : List Entry) → Legal c h → (t : ℕ) → owes_look h t ≡ owes_second h t
owes_agrees c [] legal t = refl
owes_agrees c (e ∷ h) legal t =
    ap (λ b. if looks_again e.did t then false else (accepts_offer e.did t || b)) (owes_agrees c h legal.1 t)
    ∙ owes_step e.did t (is_submitted h t) (owes_second h t) (place h t) (fits_legal c e h legal t)
    (λ none. ap (λ r. r.second) (unsubmitted_row c h legal.1 t none))

retry_step : (d : Did) (t : ℕ) (known : Bool) (n : ℕ) (p : Place) → Fits d t known p → (known ≡ false → n ≡ 0) →
    (if retries_it d t then suc n else n) ≡ counted (said_of t (tries d)) n
retry_step (did.Submit u k pr l) t known n p fits none = grind (arith, nat_tests)
retry_step (did.Verdict u v r) t known n p fits none = grind (arith, nat_tests)
retry_step _ t known n p fits none = refl

-- retries in words
pub retries_agree : (c : Config) (h : List Entry) → Legal c h → (t : ℕ) → retry_count h t ≡ retries h t
retries_agree c [] legal t = refl
retries_agree c (e ∷ h) legal t =
    count_by-cons (λ x. retries_it x.did t) e h
    ∙ ap (λ n. if retries_it e.did t then suc n else n) (retries_agree c h legal.1 t)
    ∙ retry_step e.did t (is_submitted h t) (retries h t) (place h t) (fits_legal c e h legal t)
    (λ none. ap (λ r. r.retries) (unsubmitted_row c h legal.1 t none))

outcome_step : (d : Did) (t : ℕ) (known : Bool) (o : Option Outcome) (p : Place) → Fits d t known p → (known ≡ false → o ≡ None) →
    by_option (of_it (outcome_by d) t) o ≡ unwrap_or (said_of t (outcomes d)) o
outcome_step (did.Submit u k pr l) t known o p fits none = grind (arith, nat_tests)
outcome_step (did.CallerEnd u x) t known o p fits none = grind (arith, nat_tests)
outcome_step (did.End w u x) t known o p fits none = grind (arith, nat_tests)
outcome_step _ t known o p fits none = refl

-- outcomes in words
pub outcome_agrees : (c : Config) (h : List Entry) → Legal c h → (t : ℕ) → body_outcome h t ≡ outcome h t
outcome_agrees c [] legal t = refl
outcome_agrees c (e ∷ h) legal t =
    ap (λ o. by_option (of_it (outcome_by e.did) t) o) (outcome_agrees c h legal.1 t)
    ∙ outcome_step e.did t (is_submitted h t) (outcome h t) (place h t) (fits_legal c e h legal t)
    (λ none. ap (λ r. r.outcome) (unsubmitted_row c h legal.1 t none))
