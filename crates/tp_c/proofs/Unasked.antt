-- Numbers that are those of no ask: by the number of the ask, what is to be shown.
use Rattle.std.specs.Prelude.{IfNone}
use Rattle.std.proofs.Common.{◌≡◌, ◌≢◌, ℕ, zero, suc, List, [], ◌∷◌, Bool, Option, None, Some, Ok, Err, pos, ap, sym, subst}
use Rattle.tp_types.specs.declared.configs.Verdict.{Verdict}
use Rattle.tp_types.specs.declared.tasks.Kind.{Kind}
use Rattle.tp_types.specs.declared.tasks.Kind.TheVariants as kind
use Rattle.tp_record.specs.Effects.{Outcome}
use Rattle.tp_record.specs.declared.entries.Ask.TheVariants as ask
use Rattle.tp_text.specs.Fits.{Fits32, FitsKind, FitsOutcome}
use Rattle.tp_c.specs.declared.asking.Asking.{Asking}
use Rattle.tp_c.specs.Asks.{AsksNothing, asks, ending, numbers_of, of_one, ruling, submission, switch}

-- no number of 32 bits is the one argument; nor is any
abbrev pub of_small : Asking → ℕ → Type 0
of_small n what = (k : ℕ) → Fits32 k → of_one what k ≢ n

abbrev pub of_any : Asking → ℕ → Type 0
of_any n what = (k : ℕ) → of_one what k ≢ n

-- what is to be shown of the ask of each number, from 0 on
abbrev pub cases : Asking → List (Type 0)
cases n =
    Unit {0} ∷
    ((k : Kind) (p : ℕ) → FitsKind k → Fits32 p → submission k p ≢ n) ∷
    of_small n 2 ∷
    of_small n 3 ∷
    of_small n 4 ∷
    of_small n 5 ∷
    ((t : ℕ) (v : Verdict) → Fits32 t → asks 6 t (ruling v) (pos 0) ≢ n) ∷
    ((t : ℕ) (o : Outcome) → Fits32 t → FitsOutcome o → ending 7 t o ≢ n) ∷
    of_any n 8 ∷
    of_any n 9 ∷
    of_any n 10 ∷
    of_any n 11 ∷
    ((w : ℕ) (o : Outcome) → FitsOutcome o → ending 12 w o ≢ n) ∷
    of_any n 13 ∷
    (of_one 14 0 ≢ n) ∷
    (of_one 15 0 ≢ n) ∷
    (of_one 16 0 ≢ n) ∷
    (of_one 17 0 ≢ n) ∷
    of_small n 18 ∷
    (of_one 19 0 ≢ n) ∷
    ((t : ℕ) (flag : Bool) → Fits32 t → asks 20 t (switch flag) (pos 0) ≢ n) ∷
    of_small n 21 ∷
    of_small n 22 ∷
    of_small n 23 ∷
    of_any n 24 ∷
    ((on : Bool) → of_one 25 (switch on) ≢ n) ∷
    of_any n 26 ∷
    (of_one 27 0 ≢ n) ∷
    []

abbrev pub case : List (Type 0) → ℕ → Type 0
case [] k = Unit {0}
case (x ∷ xs) zero = x
case (x ∷ xs) (suc k) = case xs k

abbrev pub Case : Asking → Type 0
Case n = case (cases n) n.what

-- and of this one
here : (n m : Asking) → m ≡ n → Case n → case (cases n) m.what
here n m e c = subst (λ (k : ℕ). case (cases n) k) (sym (ap (λ (x : Asking). x.what) e)) c

pub nothing_asked : (n : Asking) → Case n → AsksNothing n
nothing_asked n c (ask.Submit kind.Plain p) fits e = here n (numbers_of (ask.Submit kind.Plain p)) e c kind.Plain p fits.0 fits.1 e
nothing_asked n c (ask.Submit kind.Future p) fits e = here n (numbers_of (ask.Submit kind.Future p)) e c kind.Future p fits.0 fits.1 e
nothing_asked n c (ask.Submit (kind.Group g) p) fits e = here n (numbers_of (ask.Submit (kind.Group g) p)) e c (kind.Group g) p fits.0 fits.1 e
nothing_asked n c (ask.Look t) fits e = here n (numbers_of (ask.Look t)) e c t.0 fits e
nothing_asked n c (ask.Offer t) fits e = here n (numbers_of (ask.Offer t)) e c t.0 fits e
nothing_asked n c (ask.Second t) fits e = here n (numbers_of (ask.Second t)) e c t.0 fits e
nothing_asked n c (ask.Grow t) fits e = here n (numbers_of (ask.Grow t)) e c t.0 fits e
nothing_asked n c (ask.Verdict t v) fits e = here n (numbers_of (ask.Verdict t v)) e c t.0 v fits e
nothing_asked n c (ask.CallerEnd t (Ok value)) fits e = here n (numbers_of (ask.CallerEnd t (Ok value))) e c t.0 (Ok value) fits.0 fits.1 e
nothing_asked n c (ask.CallerEnd t (Err code)) fits e = here n (numbers_of (ask.CallerEnd t (Err code))) e c t.0 (Err code) fits.0 fits.1 e
nothing_asked n c (ask.Open w) fits e = here n (numbers_of (ask.Open w)) e c w.0 e
nothing_asked n c (ask.Fail w) fits e = here n (numbers_of (ask.Fail w)) e c w.0 e
nothing_asked n c (ask.Take w) fits e = here n (numbers_of (ask.Take w)) e c w.0 e
nothing_asked n c (ask.Begin w) fits e = here n (numbers_of (ask.Begin w)) e c w.0 e
nothing_asked n c (ask.End w (Ok value)) fits e = here n (numbers_of (ask.End w (Ok value))) e c w.0 (Ok value) fits.1 e
nothing_asked n c (ask.End w (Err code)) fits e = here n (numbers_of (ask.End w (Err code))) e c w.0 (Err code) fits.1 e
nothing_asked n c (ask.Leave w) fits e = here n (numbers_of (ask.Leave w)) e c w.0 e
nothing_asked n c ask.Shutdown fits e = here n (numbers_of ask.Shutdown) e c e
nothing_asked n c ask.Stop fits e = here n (numbers_of ask.Stop) e c e
nothing_asked n c ask.Tidy fits e = here n (numbers_of ask.Tidy) e c e
nothing_asked n c ask.Ended fits e = here n (numbers_of ask.Ended) e c e
nothing_asked n c (ask.Remove t) fits e = here n (numbers_of (ask.Remove t)) e c t.0 fits e
nothing_asked n c ask.Purge fits e = here n (numbers_of ask.Purge) e c e
nothing_asked n c (ask.Cancel t flag) fits e = here n (numbers_of (ask.Cancel t flag)) e c t.0 flag fits e
nothing_asked n c (ask.TakeDone k) fits e = here n (numbers_of (ask.TakeDone k)) e c k fits e
nothing_asked n c (ask.Core k) fits e = here n (numbers_of (ask.Core k)) e c k fits e
nothing_asked n c (ask.Maximum k) fits e = here n (numbers_of (ask.Maximum k)) e c k fits e
nothing_asked n c (ask.Keep k) fits e = here n (numbers_of (ask.Keep k)) e c k e
nothing_asked n c (ask.CoreTimeout on) fits e = here n (numbers_of (ask.CoreTimeout on)) e c on e
nothing_asked n c (ask.Tick k) fits e = here n (numbers_of (ask.Tick k)) e c k e
nothing_asked n c ask.Prestart fits e = here n (numbers_of ask.Prestart) e c e

-- the same at a number that is known
pub nothing_at : (n : Asking) (k : ℕ) → n.what ≡ k → case (cases n) k → AsksNothing n
nothing_at n k e c = nothing_asked n (subst (λ (j : ℕ). case (cases n) j) (sym e) c)

pub small_at : (n : Asking) (k : ℕ) → n.what ≡ k → of_small n n.what → of_small n k
small_at n k e h = subst (of_small n) e h

pub any_at : (n : Asking) (k : ℕ) → n.what ≡ k → of_any n n.what → of_any n k
any_at n k e h = subst (of_any n) e h

-- whatever an option is, what is so in any case is so where it is none
pub if_none : {X : Type 0} {P : Type 0} (o : Option X) → P → IfNone o P
if_none None p = p
if_none (Some x) p = tt
