-- Fates: the words of the rules agree with the working tables.
use Rattle.std.proofs.Common.{◌≡◌, ℕ, Bool, true, false, not, ◌&&◌, List, [], ◌∷◌, Some, Option, refl, arith, sym, ◌∙◌}
use Rattle.std.specs.Prelude.{unwrap_or, ◌||◌, is_some, if◌then◌else◌}
use Rattle.std.specs.List.{list_any}
use Rattle.std.proofs.lemmas.Bool.Decides.{nat_tests}
use mathlib.Core.Path.{ap₂}
use Rattle.tp_types.specs.declared.tasks.Place.{Place}
use Rattle.tp_types.specs.declared.tasks.Place.TheVariants as at
use Rattle.tp_types.specs.declared.configs.Config.{Config}
use Rattle.tp_record.specs.declared.entries.Entry.{Entry}
use Rattle.tp_record.specs.declared.entries.Did.{Did}
use Rattle.tp_record.specs.declared.entries.Did.TheVariants as did
use Rattle.tp_types.specs.declared.tasks.Fate.{Fate}
use Rattle.tp_types.specs.declared.tasks.Fate.TheVariants as fate
use Rattle.tp_record.specs.Lists.{said_of, is_it}
use Rattle.tp_record.specs.Effects.{endings}
use Rattle.tp_record.specs.Fields.{place, is_cancelled, ending, handed_back, is_queued_place, task_row}
use Rattle.tp_record.specs.State.{is_fate, fate_of}
use Rattle.tp_record.specs.Words.{submitted_by, is_submitted, was_cancelled, waits_in_queue, is_stop, fated_by, was_drained, has_fate}
use Rattle.tp_laws.proofs.Model.Given.{Told}
use Rattle.tp_laws.proofs.WordsTasks.{Fits, place_after, told_fits, place_unsubmitted, queued_agrees, cancelled_agrees}

-- the ending after an entry
abbrev pub ending_after : Did → ℕ → Place → Option Fate → Option Fate
ending_after d t p f = unwrap_or (said_of t (endings d)) (handed_back d p f)

-- a task with an ending was submitted and is gone
abbrev pub EndsGone : Bool → Place → Option Fate → Type 0
EndsGone known p f = is_some f ≡ true → (known ≡ true) × (p ≡ at.Gone)

-- an entry keeps that
gone_step : (d : Did) (t : ℕ) (c known : Bool) (p : Place) (f : Option Fate) → Fits d t known p → (known ≡ false → p ≡ at.Gone) → EndsGone known p f →
    EndsGone (is_it (submitted_by d) t || known) (place_after d t c p) (ending_after d t p f)
gone_step (did.Submit u k pr l) t c known p f fits new before = grind (arith, nat_tests)
gone_step _ t c known p f fits new before = grind (arith, nat_tests)

-- so it is at each record
pub ending_gone : (c : Config) (h : List Entry) → Told c h → (t : ℕ) → EndsGone (is_submitted h t) (place h t) (ending h t)
ending_gone c [] told t = λ some. absurd cc
ending_gone c (e ∷ h) told t =
    gone_step e.did t (is_cancelled h t) (is_submitted h t) (place h t) (ending h t) (told_fits c h e.did t told.1 told.0) (place_unsubmitted c h told.1 t) (ending_gone c h told.1 t)

-- an entry ends t so, cancelled aside
abbrev pub ended_as : Fate → List Entry → ℕ → Bool
ended_as fate.HandedBack h t = was_drained h t
ended_as f h t = list_any (λ e. fated_by f e.did t) h

-- whether an entry ended t so, after one more
abbrev ended_after : Fate → Did → ℕ → Bool → Bool → Bool
ended_after fate.HandedBack d t queued was = (is_stop d && queued) || was
ended_after f d t queued was = fated_by f d t || was

-- an entry ends a task in words as by the table
ended_step : (d : Did) (f : Fate) (t : ℕ) (known : Bool) (p : Place) (o : Option Fate) → Fits d t known p → EndsGone known p o →
    ended_after f d t (is_queued_place p) (is_fate f o) ≡ is_fate f (ending_after d t p o)
ended_step (did.Submit u k pr l) f t known p o fits gone = grind (arith, nat_tests)
ended_step _ f t known p o fits gone = grind (arith, nat_tests)

-- what ended t, after one more entry
ended_more : (e : Entry) (h : List Entry) (f : Fate) (t : ℕ) → ended_as f (e ∷ h) t ≡ ended_after f e.did t (waits_in_queue h t) (ended_as f h t)
ended_more e h fate.HandedBack t = refl
ended_more e h _ t = refl

-- what ended t, cancelled aside
pub ended_agrees : (c : Config) (h : List Entry) → Told c h → (f : Fate) (t : ℕ) → ended_as f h t ≡ is_fate f (ending h t)
ended_agrees c [] told fate.HandedBack t = refl
ended_agrees c [] told _ t = refl
ended_agrees c (e ∷ h) told f t =
    ended_more e h f t
    ∙ ap₂ (ended_after f e.did t) (queued_agrees c h told.1 t) (ended_agrees c h told.1 f t)
    ∙ ended_step e.did f t (is_submitted h t) (place h t) (ending h t) (told_fits c h e.did t told.1 told.0) (ending_gone c h told.1 t)

-- no entry ends a task as cancelled
never_cancelled : (h : List Entry) (t : ℕ) → ended_as fate.Cancelled h t ≡ false
never_cancelled [] t = refl
never_cancelled (e ∷ h) t = never_cancelled h t

-- a fate by whether t was cancelled and by what ended it
fate_by : (f : Fate) (b : Bool) (o : Option Fate) → is_fate fate.Cancelled o ≡ false →
    (if is_fate f (Some fate.Cancelled) then b else (not b && is_fate f o)) ≡ is_fate f (if b then Some fate.Cancelled else o)
fate_by f b o never = grind (arith, nat_tests)

-- a fate in words, in the same way
has_fate_by : (h : List Entry) (f : Fate) (t : ℕ) →
    has_fate f h t ≡ (if is_fate f (Some fate.Cancelled) then was_cancelled h t else (not (was_cancelled h t) && ended_as f h t))
has_fate_by h fate.Cancelled t = refl
has_fate_by h fate.HandedBack t = refl
has_fate_by h _ t = refl

-- the fates
pub fate_agrees : (c : Config) (h : List Entry) → Told c h → (f : Fate) (t : ℕ) → has_fate f h t ≡ is_fate f (fate_of (task_row h t))
fate_agrees c h told f t =
    has_fate_by h f t
    ∙ ap₂ (λ b x. if is_fate f (Some fate.Cancelled) then b else (not b && x)) (cancelled_agrees c h told t) (ended_agrees c h told f t)
    ∙ fate_by f (is_cancelled h t) (ending h t) (sym (ended_agrees c h told fate.Cancelled t) ∙ never_cancelled h t)
