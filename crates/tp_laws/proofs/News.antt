-- What is said of a task that is not yet submitted.
use Rattle.std.proofs.Common.{◌≡◌, ℕ, suc, ◌≤◌, Bool, true, false, cond, List, [], ◌∷◌, None, Option, refl, arith}
use Rattle.std.specs.Prelude.{unwrap_or}
use Rattle.std.proofs.lemmas.Bool.Decides.{nat_tests}
use Rattle.tp_types.specs.declared.configs.Config.{Config}
use Rattle.tp_types.specs.declared.tasks.Place.{Place}
use Rattle.tp_types.specs.declared.tasks.Fate.{Fate}
use Rattle.tp_record.specs.declared.entries.Entry.{Entry}
use Rattle.tp_record.specs.declared.entries.Did.{Did}
use Rattle.tp_record.specs.Lists.{said_of}
use Rattle.tp_record.specs.Effects.{moved, is_submit, cancels, endings}
use Rattle.tp_record.specs.Fields.{submitted, place, swept, is_cancelled, ending, handed_back}
use Rattle.tp_laws.proofs.Model.Given.{Told}
use Rattle.tp_laws.specs.Agrees.{is_gone_place}
use Rattle.tp_laws.proofs.Fits.{fits_place, fits_given}

new_place : (d : Did) (n t : ℕ) (p : Place) (c : Bool) → fits_place d t n p ≡ true → (n ≤ t → is_gone_place p ≡ true) →
    cond (is_submit d) (suc n) n ≤ t → is_gone_place (unwrap_or (said_of t (moved d)) (swept d c p)) ≡ true
new_place d n t p c fits gone far = grind (arith, nat_tests)

-- a task that is not yet submitted reads as gone
pub new_gone : (c : Config) (h : List Entry) → Told c h → (t : ℕ) → submitted h ≤ t → is_gone_place (place h t) ≡ true
new_gone c [] told t far = refl
new_gone c (e ∷ h) told t far =
    new_place e.did (submitted h) t (place h t) (is_cancelled h t) (fits_given c h e.did t told.0) (new_gone c h told.1 t) far

new_uncancelled : (d : Did) (n t : ℕ) (p : Place) (c : Bool) → fits_place d t n p ≡ true → (n ≤ t → c ≡ false) →
    cond (is_submit d) (suc n) n ≤ t → unwrap_or (said_of t (cancels d)) c ≡ false
new_uncancelled d n t p c fits new far = grind (arith, nat_tests)

-- it is not cancelled
pub new_alive : (c : Config) (h : List Entry) → Told c h → (t : ℕ) → submitted h ≤ t → is_cancelled h t ≡ false
new_alive c [] told t far = refl
new_alive c (e ∷ h) told t far =
    new_uncancelled e.did (submitted h) t (place h t) (is_cancelled h t) (fits_given c h e.did t told.0) (new_alive c h told.1 t) far

new_without_ending : (d : Did) (n t : ℕ) (p : Place) (f : Option Fate) → fits_place d t n p ≡ true → (n ≤ t → is_gone_place p ≡ true) → (n ≤ t → f ≡ None) →
    cond (is_submit d) (suc n) n ≤ t → unwrap_or (said_of t (endings d)) (handed_back d p f) ≡ None
new_without_ending d n t p f fits gone new far = grind (arith, nat_tests)

-- it has no fate
pub new_unended : (c : Config) (h : List Entry) → Told c h → (t : ℕ) → submitted h ≤ t → ending h t ≡ None
new_unended c [] told t far = refl
new_unended c (e ∷ h) told t far =
    new_without_ending e.did (submitted h) t (place h t) (ending h t) (fits_given c h e.did t told.0) (new_gone c h told.1 t) (new_unended c h told.1 t) far
