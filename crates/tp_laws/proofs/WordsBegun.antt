-- Begun and waiting tasks: the words of the rules agree with the working tables.
use Rattle.std.proofs.Common.{◌≡◌, ℕ, suc, ◌≤◌, Bool, true, false, not, ◌&&◌, cond, List, [], ◌∷◌, length, Option, refl, arith, ap, ◌∙◌}
use Rattle.std.specs.Prelude.{unwrap_or, nat_lt, ◌||◌, is_some}
use Rattle.std.proofs.lemmas.Bool.Decides.{nat_tests}
use mathlib.Core.Path.{ap₂}
use Rattle.tp_types.specs.declared.tasks.Place.{Place}
use Rattle.tp_types.specs.declared.tasks.Place.TheVariants as at
use Rattle.tp_types.specs.declared.configs.Config.{Config}
use Rattle.tp_record.specs.declared.entries.Entry.{Entry}
use Rattle.tp_record.specs.declared.entries.Did.{Did}
use Rattle.tp_record.specs.declared.entries.Did.TheVariants as did
use Rattle.tp_record.specs.Lists.{said_of, is_it}
use Rattle.tp_record.specs.Effects.{Outcome, outcomes}
use Rattle.tp_record.specs.Fields.{place, is_cancelled, outcome, submitted}
use Rattle.tp_record.specs.Words.{submitted_by, begun_by, begun, is_begun, is_submitted, is_waiting, is_gone}
use Rattle.tp_laws.specs.Agrees.{is_caller_place, is_gone_place, is_running_place, is_waiting_place}
use Rattle.tp_laws.proofs.Model.Given.{Told}
use Rattle.tp_laws.proofs.WordsTasks.{Fits, place_after, told_fits, place_unsubmitted, is_submitted_below, cancelled_agrees, gone_agrees}

-- the outcome after an entry
abbrev outcome_after : Did → ℕ → Option Outcome → Option Outcome
outcome_after d t o = unwrap_or (said_of t (outcomes d)) o

-- a task with an outcome was submitted and is gone
abbrev OutcomeGone : Bool → Place → Option Outcome → Type 0
OutcomeGone known p o = is_some o ≡ true → (known ≡ true) × (p ≡ at.Gone)

-- an entry keeps that
gone_step : (d : Did) (t : ℕ) (c known : Bool) (p : Place) (o : Option Outcome) → Fits d t known p → OutcomeGone known p o →
    OutcomeGone (is_it (submitted_by d) t || known) (place_after d t c p) (outcome_after d t o)
gone_step (did.Submit u k pr l) t c known p o fits before = grind (arith, nat_tests)
gone_step _ t c known p o fits before = grind (arith, nat_tests)

-- so it is at each record
pub outcome_gone : (c : Config) (h : List Entry) → Told c h → (t : ℕ) → OutcomeGone (is_submitted h t) (place h t) (outcome h t)
outcome_gone c [] told t = λ some. absurd cc
outcome_gone c (e ∷ h) told t =
    gone_step e.did t (is_cancelled h t) (is_submitted h t) (place h t) (outcome h t) (told_fits c h e.did t told.1 told.0) (outcome_gone c h told.1 t)

-- what the tables say of a begun task
abbrev tells_begun : Place → Option Outcome → Bool
tells_begun p o = is_running_place p || is_caller_place p || is_some o

-- what the tables say of a begun task, entry by entry
begun_step : (d : Did) (t : ℕ) (c known : Bool) (p : Place) (o : Option Outcome) → Fits d t known p → (known ≡ false → p ≡ at.Gone) → OutcomeGone known p o →
    (is_it (begun_by d) t || tells_begun p o) ≡ tells_begun (place_after d t c p) (outcome_after d t o)
begun_step (did.Submit u k pr l) t c known p o fits new gone = grind (arith, nat_tests)
begun_step _ t c known p o fits new gone = grind (arith, nat_tests)

-- a begun task runs, or has its outcome
pub begun_agrees : (c : Config) (h : List Entry) → Told c h → (t : ℕ) → is_begun h t ≡ tells_begun (place h t) (outcome h t)
begun_agrees c [] told t = refl
begun_agrees c (e ∷ h) told t =
    ap (λ b. is_it (begun_by e.did) t || b) (begun_agrees c h told.1 t)
    ∙ begun_step e.did t (is_cancelled h t) (is_submitted h t) (place h t) (outcome h t) (told_fits c h e.did t told.1 told.0) (place_unsubmitted c h told.1 t) (outcome_gone c h told.1 t)

-- an entry begins a task that was not begun
unbegun_step : (d : Did) (t : ℕ) (known : Bool) (p : Place) (o : Option Outcome) → Fits d t known p → OutcomeGone known p o → is_it (begun_by d) t ≡ true → tells_begun p o ≡ false
unbegun_step (did.Verdict u v x) t known p o fits gone is = grind (arith, nat_tests)
unbegun_step (did.Begin v x) t known p o fits gone is = grind (arith, nat_tests)
unbegun_step _ t known p o fits gone is = absurd cc

-- a task is begun at most once
pub begun_once : (c : Config) (h : List Entry) → Told c h → (t : ℕ) → length (begun h t) ≡ cond (is_begun h t) 1 0
begun_once c [] told t = refl
begun_once c (e ∷ h) told t = by_entry (begun_once c h told.1 t) (is_it (begun_by e.did) t) refl
  where
    by_entry : length (begun h t) ≡ cond (is_begun h t) 1 0 → (b : Bool) → is_it (begun_by e.did) t ≡ b → length (cond b (e ∷ begun h t) (begun h t)) ≡ cond (b || is_begun h t) 1 0
    by_entry before true is =
        let none : is_begun h t ≡ false =
        begun_agrees c h told.1 t ∙ unbegun_step e.did t (is_submitted h t) (place h t) (outcome h t) (told_fits c h e.did t told.1 told.0) (outcome_gone c h told.1 t) is in
        ap suc (before ∙ ap (λ b. cond b 1 0) none)
    by_entry before false is = before

-- at most one entry begins it
pub begun_short : (c : Config) (h : List Entry) → Told c h → (t : ℕ) → length (begun h t) ≤ 1
begun_short c h told t = by_begun (is_begun h t) (begun_once c h told t)
  where
    by_begun : (b : Bool) → length (begun h t) ≡ cond b 1 0 → length (begun h t) ≤ 1
    by_begun true is = omega arith
    by_begun false is = omega arith

-- what the words say of a waiting task, by its place
waiting_by : (known below cancelled : Bool) (p : Place) (o : Option Outcome) → known ≡ below → OutcomeGone known p o →
    (known && not (tells_begun p o) && not cancelled && not (below && is_gone_place p)) ≡ (below && is_waiting_place p && not cancelled)
waiting_by known below cancelled p o is gone = grind (arith, nat_tests)

-- a waiting task has not begun, was not cancelled and is not gone
pub waiting_agrees : (c : Config) (h : List Entry) → Told c h → (t : ℕ) → is_waiting h t ≡ (nat_lt t (submitted h) && is_waiting_place (place h t) && not (is_cancelled h t))
waiting_agrees c h told t =
    ap₂ (λ b x. is_submitted h t && not b && not x && not (is_gone h t)) (begun_agrees c h told t) (cancelled_agrees c h told t)
    ∙ ap (λ b. is_submitted h t && not (tells_begun (place h t) (outcome h t)) && not (is_cancelled h t) && not b) (gone_agrees c h told t)
    ∙ waiting_by (is_submitted h t) (nat_lt t (submitted h)) (is_cancelled h t) (place h t) (outcome h t) (is_submitted_below c h told t) (outcome_gone c h told t)
