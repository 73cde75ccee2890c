-- Fewer tasks were completed by workers than were submitted, while one is not gone.
use Rattle.std.proofs.Common.{◌≡◌, ℕ, suc, ◌<◌, ◌≤◌, Bool, true, false, cond, List, [], ◌∷◌, length, Some, None, Option, refl, arith, sym, ap, ◌∙◌, subst, inl, inr}
use Rattle.std.specs.Prelude.{◌==◌, unwrap_or, is_some}
use Rattle.std.proofs.lemmas.Bool.{false≢true, eqb-true, or_cases}
use Rattle.std.proofs.lemmas.Bool.Decides.{nat_tests}
use Rattle.tp_types.specs.declared.configs.Config.{Config}
use Rattle.tp_types.specs.declared.tasks.Place.{Place}
use Rattle.tp_record.specs.declared.entries.Entry.{Entry}
use Rattle.tp_record.specs.declared.entries.Did.{Did}
use Rattle.tp_record.specs.declared.entries.Did.TheVariants as did
use Rattle.tp_record.specs.declared.entries.Started.TheVariants as started
use Rattle.tp_record.specs.Lists.{said_of, is_among, IsOnce}
use Rattle.tp_record.specs.Effects.{moved, is_submit, is_completion}
use Rattle.tp_record.specs.Fields.{submitted, place, swept, is_cancelled, completions}
use Rattle.tp_laws.proofs.Model.Given.{Given, Told}
use Rattle.tp_laws.specs.Agrees.{is_gone_place}
use Rattle.tp_laws.proofs.Fits.{fits_place, fits_given}

-- the task that a worker completes by an entry: it ends it, or skips it
abbrev completer : Did → Option ℕ
completer (did.End w t o) = Some t.0
completer (did.Begin w (started.Skip t)) = Some t.0
completer _ = None

abbrev push : Option ℕ → List ℕ → List ℕ
push None xs = xs
push (Some x) xs = x ∷ xs

-- the tasks that workers completed
abbrev pub finished : List Entry → List ℕ
finished [] = []
finished (e ∷ h) = push (completer e.did) (finished h)

length-push : (o : Option ℕ) (xs : List ℕ) → length (push o xs) ≡ cond (is_some o) (suc (length xs)) (length xs)
length-push None xs = refl
length-push (Some x) xs = refl

completer_is : (d : Did) → is_completion d ≡ is_some (completer d)
completer_is d = grind arith

-- they are counted
pub finished_counted : (h : List Entry) → completions h ≡ length (finished h)
finished_counted [] = refl
finished_counted (e ∷ h) =
    let before = finished_counted h in
    ap (λ b. cond b (suc (completions h)) (completions h)) (completer_is e.did) ∙ ap (λ n. cond (is_some (completer e.did)) (suc n) n) before ∙ sym (length-push (completer e.did) (finished h))

stays_gone : (d : Did) (n t : ℕ) (p : Place) (c : Bool) → fits_place d t n p ≡ true → t < n → is_gone_place p ≡ true → is_gone_place (unwrap_or (said_of t (moved d)) (swept d c p)) ≡ true
stays_gone d n t p c fits known gone = grind (arith, nat_tests)

goes_now : (d : Did) (t : ℕ) (p : Place) (c : Bool) → completer d ≡ Some t → is_gone_place (unwrap_or (said_of t (moved d)) (swept d c p)) ≡ true
goes_now d t p c is = grind (arith, nat_tests)

there_before : (c : Config) (h : List Entry) (d : Did) (t : ℕ) → Given c h d → completer d ≡ Some t → (t < submitted h) × (is_gone_place (place h t) ≡ false)
there_before c h (did.End w u o) t given is =
    let same : u.0 ≡ t = cc in
    subst (λ x. (x < submitted h) × (is_gone_place (place h x) ≡ false)) same (given.1.0, ap is_gone_place given.1.1)
there_before c h _ t given is = grind (arith, nat_tests)

submitted_more : (e : Entry) (h : List Entry) → submitted h ≤ submitted (e ∷ h)
submitted_more e h = elim (is_submit e.did) as (λ b. submitted h ≤ cond b (suc (submitted h)) (submitted h)) [ true ↦ omega arith | false ↦ omega arith ]

-- a task that was submitted and is gone
abbrev pub IsAway : List Entry → ℕ → Type 0
IsAway h t = (t < submitted h) × (is_gone_place (place h t) ≡ true)

away_more : (c : Config) (e : Entry) (h : List Entry) → Told c (e ∷ h) → (t : ℕ) → IsAway h t → IsAway (e ∷ h) t
away_more c e h told t away =
    let more = submitted_more e h in
    let known = away.0 in
    (omega (arith, more, known), stays_gone e.did (submitted h) t (place h t) (is_cancelled h t) (fits_given c h e.did t told.0) away.0 away.1)

-- each of them is one of these, once
abbrev pub AreAway : List Entry → List ℕ → Type 0
AreAway h xs = IsOnce xs × ((t : ℕ) → is_among t xs ≡ true → IsAway h t)

pushed : (c : Config) (e : Entry) (h : List Entry) (o : Option ℕ) (xs : List ℕ) → Told c (e ∷ h) → completer e.did ≡ o → AreAway h xs → AreAway (e ∷ h) (push o xs)
pushed c e h None xs told is away = (away.0, λ t among. away_more c e h told t (away.1 t among))
pushed c e h (Some x) xs told is away = (
  (new (is_among x xs) refl, away.0),
  λ t among. elim (or_cases (t == x) (is_among t xs) among) [
    | inl same ↦ let at : x ≡ t = sym (eqb-true t x same) in subst (IsAway (e ∷ h)) at gone
    | inr before ↦ away_more c e h told t (away.1 t before)
  ],
)
  where
    was : (x < submitted h) × (is_gone_place (place h x) ≡ false)
    was = there_before c h e.did x told.0 is

    new : (b : Bool) → is_among x xs ≡ b → is_among x xs ≡ false
    new true among = absurd (false≢true (sym was.1 ∙ (away.1 x among).1))
    new false off = off

    gone : IsAway (e ∷ h) x
    gone = let more = submitted_more e h in let known = was.0 in (omega (arith, more, known), goes_now e.did x (place h x) (is_cancelled h x) is)

pub finished_away : (c : Config) (h : List Entry) → Told c h → AreAway h (finished h)
finished_away c [] told = (tt, λ t among. absurd (false≢true among))
finished_away c (e ∷ h) told = pushed c e h (completer e.did) (finished h) told refl (finished_away c h told.1)
