-- Fates: they are disjoint, and none changes.
use Rattle.std.proofs.Common.{◌≡◌, ℕ, ◌<◌, Bool, true, false, not, ◌&&◌, List, [], ◌∷◌, ◌++◌, Some, None, Option, refl, arith, sym, ap, ◌∙◌, inl, inr}
use mathlib.Core.Path.{ap₂}
use Rattle.std.specs.Prelude.{◌==◌, nat_lt, unwrap_or, is_some, is_none, if◌then◌else◌}
use Rattle.std.proofs.lemmas.Bool.{false≢true, cases_lt}
use Rattle.std.proofs.lemmas.Bool.Decides.{nat_tests}
use Rattle.tp_types.specs.declared.configs.Config.{Config}
use Rattle.tp_types.specs.declared.tasks.Place.{Place}
use Rattle.tp_types.specs.declared.tasks.Place.TheVariants as places
use Rattle.tp_types.specs.declared.tasks.Fate.{Fate}
use Rattle.tp_types.specs.declared.tasks.Fate.TheVariants as fate
use Rattle.tp_record.specs.declared.entries.Entry.{Entry}
use Rattle.tp_record.specs.declared.entries.Did.{Did}
use Rattle.tp_record.specs.declared.entries.Did.TheVariants as did
use Rattle.tp_record.specs.Lists.{said_of}
use Rattle.tp_record.specs.Effects.{moved, cancels, endings}
use Rattle.tp_record.specs.Fields.{submitted, place, swept, is_cancelled, ending, handed_back, task_row}
use Rattle.tp_record.specs.State.{is_fate, fate_of}
use Rattle.tp_record.specs.Words.{has_fate}
use Rattle.tp_laws.proofs.Model.Given.{Given, Told}
use Rattle.tp_laws.proofs.Model.Fated.{gone_fated}
use Rattle.tp_laws.specs.Laws.{GoneHasFate, FatedIsGone}
use Rattle.tp_laws.proofs.WordsFates.{fate_agrees}
use Rattle.tp_laws.proofs.WordsTasks.{gone_agrees, cancelled_agrees}
use Rattle.tp_laws.proofs.Fits.{fits_place, fits_given, told_front}
use Rattle.tp_laws.specs.Agrees.{is_gone_place}
use Rattle.tp_laws.proofs.News.{new_alive, new_unended}

-- a task that is not gone has no fate but by a cancel
unended_said : (d : Did) (n t : ℕ) (p : Place) (c : Bool) (o : Option Fate) → fits_place d t n p ≡ true → (is_gone_place p ≡ false → o ≡ None) →
    is_gone_place (unwrap_or (said_of t (moved d)) (swept d c p)) ≡ false → unwrap_or (said_of t (endings d)) (handed_back d p o) ≡ None
unended_said d n t p c o fits was there = grind (arith, nat_tests)

pub unended : (c : Config) (h : List Entry) → Told c h → (t : ℕ) → is_gone_place (place h t) ≡ false → ending h t ≡ None
unended c [] told t there = refl
unended c (e ∷ h) told t there =
    unended_said e.did (submitted h) t (place h t) (is_cancelled h t) (ending h t) (fits_given c h e.did t told.0) (unended c h told.1 t) there

-- a fate of a task whose cancel and ending are these
abbrev fate_by : Bool → Option Fate → Option Fate
fate_by c o = if c then Some fate.Cancelled else o

fate_is : (f : Fate) (o : Option Fate) → is_fate f o ≡ true → o ≡ Some f
fate_is f o is = grind arith

is_own : (f : Fate) → is_fate f (Some f) ≡ true
is_own f = grind arith

same_fate : (o : Option Fate) (f g : Fate) → o ≡ Some f → o ≡ Some g → f ≡ g
same_fate o f g a b = cc

-- a task has at most one fate
pub disjoint : (c : Config) (h : List Entry) → Told c h → (f g : Fate) (t : ℕ) → has_fate f h t ≡ true → has_fate g h t ≡ true → f ≡ g
disjoint c h told f g t one other =
    same_fate (fate_of (task_row h t)) f g (fate_is f _ (sym (fate_agrees c h told f t) ∙ one)) (fate_is g _ (sym (fate_agrees c h told g t) ∙ other))

-- the entry fits where t is cancelled or not, and is ended or not
abbrev fits_cancel : Did → ℕ → Bool → Option Fate → Bool
fits_cancel (did.Cancel u flag true) t c o = if t == u.0 then not c && is_none o else true
fits_cancel d t c o = true

cancel_fits : (t u : ℕ) (c : ℕ → Bool) (o : ℕ → Option Fate) → c u ≡ false → o u ≡ None → (if t == u then not (c t) && is_none (o t) else true) ≡ true
cancel_fits t u c o alive none = grind (arith, nat_tests)

cancel_given : (c : Config) (h : List Entry) (d : Did) (t : ℕ) → Given c h d → fits_cancel d t (is_cancelled h t) (ending h t) ≡ true
cancel_given c h (did.Cancel u flag true) t given = cancel_fits t u.0 (is_cancelled h) (ending h) given.2 given.3
cancel_given c h _ t given = refl

stays_cancelled : (d : Did) (n t : ℕ) (p : Place) → fits_place d t n p ≡ true → t < n → unwrap_or (said_of t (cancels d)) true ≡ true
stays_cancelled d n t p fits known = grind (arith, nat_tests)

stays_alive : (d : Did) (n t : ℕ) (p : Place) (o : Option Fate) → fits_place d t n p ≡ true → fits_cancel d t false o ≡ true → is_some o ≡ true → unwrap_or (said_of t (cancels d)) false ≡ false
stays_alive d n t p o fits cancel some = grind (arith, nat_tests)

stays_ended : (d : Did) (n t : ℕ) (p : Place) (o : Option Fate) → fits_place d t n p ≡ true → t < n → (is_gone_place p ≡ false → o ≡ None) → is_some o ≡ true →
    unwrap_or (said_of t (endings d)) (handed_back d p o) ≡ o
stays_ended d n t p o fits known there some = grind (arith, nat_tests)

known_by : (c : Config) (h : List Entry) → Told c h → (t : ℕ) → is_some (fate_by (is_cancelled h t) (ending h t)) ≡ true → t < submitted h
known_by c h told t some =
    elim (cases_lt t (submitted h)) [
      | inl below ↦ below
      | inr past ↦ absurd (false≢true (sym (ap₂ (λ a b. is_some (fate_by a b)) (new_alive c h told t past) (new_unended c h told t past)) ∙ some))
    ]

-- an entry leaves a fate as it is
fate_stays : (c : Config) (e : Entry) (h : List Entry) → Told c (e ∷ h) → (t : ℕ) → is_some (fate_of (task_row h t)) ≡ true → fate_of (task_row (e ∷ h) t) ≡ fate_of (task_row h t)
fate_stays c e h told t some = by_cancelled (is_cancelled h t) refl
  where
    fits : fits_place e.did t (submitted h) (place h t) ≡ true
    fits = fits_given c h e.did t told.0

    known : t < submitted h
    known = known_by c h told.1 t some

    by_cancelled : (b : Bool) → is_cancelled h t ≡ b →
        fate_by (unwrap_or (said_of t (cancels e.did)) (is_cancelled h t)) (unwrap_or (said_of t (endings e.did)) (handed_back e.did (place h t) (ending h t))) ≡ fate_by (is_cancelled h t) (ending h t)
    by_cancelled true is =
        rw is (ap (λ b. fate_by b (unwrap_or (said_of t (endings e.did)) (handed_back e.did (place h t) (ending h t)))) (stays_cancelled e.did (submitted h) t (place h t) fits known))
    by_cancelled false is =
        let ended : is_some (ending h t) ≡ true = sym (ap (λ b. is_some (fate_by b (ending h t))) is) ∙ some in
        let cancel : fits_cancel e.did t false (ending h t) ≡ true = sym (ap (λ b. fits_cancel e.did t b (ending h t)) is) ∙ cancel_given c h e.did t told.0 in
        rw is (ap₂ fate_by (stays_alive e.did (submitted h) t (place h t) (ending h t) fits cancel ended)
        (stays_ended e.did (submitted h) t (place h t) (ending h t) fits known (unended c h told.1 t) ended))

fate_some : (f : Fate) (o : Option Fate) → is_fate f o ≡ true → is_some o ≡ true
fate_some f o is = grind arith

fate_for_good : (c : Config) (later h : List Entry) → Told c (later ++ h) → (f : Fate) (t : ℕ) → is_fate f (fate_of (task_row h t)) ≡ true → is_fate f (fate_of (task_row (later ++ h) t)) ≡ true
fate_for_good c [] h told f t is = is
fate_for_good c (e ∷ later) h told f t is =
    let was = fate_for_good c later h told.1 f t is in
    ap (is_fate f) (fate_stays c e (later ++ h) told t (fate_some f _ was)) ∙ was

-- a fate that a front gives, each longer record gives
pub never_changes : (c : Config) (later h : List Entry) → Told c (later ++ h) → (f : Fate) (t : ℕ) → has_fate f h t ≡ true → has_fate f (later ++ h) t ≡ true
never_changes c later h told f t is =
    fate_agrees c (later ++ h) told f t ∙ fate_for_good c later h told f t (sym (fate_agrees c h (told_front c later h told) f t) ∙ is)

some_fate : (o : Option Fate) → is_some o ≡ true → (f : Fate) × (is_fate f o ≡ true)
some_fate None is = absurd (false≢true is)
some_fate (Some f) is = (f, own f)
  where
    own : (f : Fate) → is_fate f (Some f) ≡ true
    own f = grind arith

known_gone : (n t : ℕ) (b : Bool) → (nat_lt t n && b) ≡ true → (t < n) × (b ≡ true)
known_gone n t b is = (below, there)
  where
    below : t < n
    below = grind (arith, nat_tests)

    there : b ≡ true
    there = grind (arith, nat_tests)

is_gone : (p : Place) → is_gone_place p ≡ true → p ≡ places.Gone
is_gone p is = grind arith

pub gone_has_fate : (c : Config) (h : List Entry) → Told c h → GoneHasFate h
gone_has_fate c h told t gone =
    let at = known_gone (submitted h) t (is_gone_place (place h t)) (sym (gone_agrees c h told t) ∙ gone) in
    let found = some_fate (fate_of (task_row h t)) (gone_fated c h told t at.0 (is_gone (place h t) at.1)) in
    (found.0, fate_agrees c h told found.0 t ∙ found.1)

ended_some : (f : Fate) (c : Bool) (o : Option Fate) → c ≡ false → is_fate f (fate_by c o) ≡ true → is_some o ≡ true
ended_some f c o alive is = grind arith

is_ended_gone : (p : Place) (o : Option Fate) → (is_gone_place p ≡ false → o ≡ None) → is_some o ≡ true → is_gone_place p ≡ true
is_ended_gone p o there some = grind arith

both_gone : (n t : ℕ) (b : Bool) → t < n → b ≡ true → (nat_lt t n && b) ≡ true
both_gone n t b below is = grind (arith, nat_tests)

pub fated_is_gone : (c : Config) (h : List Entry) → Told c h → FatedIsGone h
fated_is_gone c h told f t is alive =
    let fated : is_fate f (fate_of (task_row h t)) ≡ true = sym (fate_agrees c h told f t) ∙ is in
    let some : is_some (ending h t) ≡ true = ended_some f (is_cancelled h t) (ending h t) (sym (cancelled_agrees c h told t) ∙ alive) fated in
    gone_agrees c h told t
    ∙ both_gone (submitted h) t (is_gone_place (place h t)) (known_by c h told t (fate_some f _ fated)) (is_ended_gone (place h t) (ending h t) (unended c h told t) some)
