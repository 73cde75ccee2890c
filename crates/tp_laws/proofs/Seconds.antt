-- Who owes a second look.
use Rattle.std.proofs.Common.{◌≡◌, ℕ, ◌≤◌, max, Bool, true, false, not, ◌&&◌, cond, List, [], ◌∷◌, refl, arith, sym, ap, ◌∙◌, inl, inr}
use Rattle.std.specs.Prelude.{◌==◌, ◌||◌, unwrap_or, if◌then◌else◌}
use Rattle.std.proofs.lemmas.Bool.Decides.{nat_tests}
use Rattle.tp_types.specs.declared.configs.Config.{Config}
use Rattle.tp_types.specs.declared.tasks.Place.{Place}
use Rattle.tp_types.specs.declared.tasks.Place.TheVariants as at
use Rattle.tp_record.specs.declared.entries.Entry.{Entry}
use Rattle.tp_record.specs.declared.entries.Did.{Did}
use Rattle.tp_record.specs.declared.entries.Did.TheVariants as did
use Rattle.tp_record.specs.declared.entries.Seconded.TheVariants as seconded
use Rattle.tp_record.specs.Lists.{said_of, is_among}
use Rattle.tp_record.specs.Effects.{moved, reaches}
use Rattle.tp_record.specs.Fields.{rank, submitted, place, swept, is_cancelled, is_queued_place, queue}
use Rattle.tp_record.specs.Words.{accepts_offer, looks_again, owes_look}
use Rattle.tp_laws.proofs.Model.Given.{Given, Told}
use Rattle.tp_laws.proofs.WordsTasks.{queued_agrees}
use Rattle.tp_laws.proofs.Model.Queues.{among-queue}
use Rattle.tp_laws.specs.Laws.{SecondLookOwedAfterStop}
use Rattle.tp_laws.proofs.Fits.{fits_place, fits_given, fits_rank, rank_given}

-- at rank r, the entry is a second look that leaves t, at p, in the queue only while the pool runs, or a `tidy` of a pool
-- that is shut down only while t is not queued
abbrev pub fits_look : Did → ℕ → Place → ℕ → Bool
fits_look (did.Second u seconded.Back) t p r = true
fits_look (did.Second u s) t p r = if t == u.0 && is_queued_place p then r == 0 else true
fits_look did.Tidy t p r = if r == 1 then not (is_queued_place p) else true
fits_look d t p r = true

stays_runs : (t u r : ℕ) (f : ℕ → Place) → ((f u ≡ at.Queued) → r ≡ 0) → (if t == u && is_queued_place (f t) then r == 0 else true) ≡ true
stays_runs t u r f runs = grind (arith, nat_tests)

-- no task is queued where the queue is empty
pub none_queued : (c : Config) (h : List Entry) → queue c h ≡ [] → (t : ℕ) → is_queued_place (place h t) ≡ false
none_queued c h none t = sym (among-queue c h t) ∙ ap (is_among t) none

pub look_given : (c : Config) (h : List Entry) (d : Did) (t : ℕ) → Given c h d → fits_look d t (place h t) (rank h) ≡ true
look_given c h (did.Second u seconded.Stay) t given = stays_runs t u.0 (rank h) (place h) given.2
look_given c h (did.Second u (seconded.StayReserve w)) t given = stays_runs t u.0 (rank h) (place h) given.2
look_given c h did.Tidy t given = elim given.1 [
  | inl two ↦ rw two refl
  | inr one ↦ rw (one.0, none_queued c h one.1 t) refl
]
look_given c h _ t given = refl

look_owed : (d : Did) (n t r : ℕ) (p : Place) (c o : Bool) → fits_place d t n p ≡ true → fits_rank d r ≡ true → fits_look d t p r ≡ true →
    (2 ≤ r → is_queued_place p ≡ true → o ≡ true) → 2 ≤ max (reaches d) r →
    is_queued_place (unwrap_or (said_of t (moved d)) (swept d c p)) ≡ true → cond (looks_again d t) false (accepts_offer d t || o) ≡ true
look_owed d n t r p c o fits ranks looks was up is = grind (arith, nat_tests)

owed : (c : Config) (h : List Entry) → Told c h → (t : ℕ) → 2 ≤ rank h → is_queued_place (place h t) ≡ true → owes_look h t ≡ true
owed c [] told t up is = absurd (omega arith)
owed c (e ∷ h) told t up is =
    look_owed e.did (submitted h) t (rank h) (place h t) (is_cancelled h t) (owes_look h t) (fits_given c h e.did t told.0) (rank_given c h e.did told.0) (look_given c h e.did t told.0)
    (owed c h told.1 t) up is

pub second_look_owed : (c : Config) (h : List Entry) → Told c h → SecondLookOwedAfterStop h
second_look_owed c h told up t waits = owed c h told t up (sym (queued_agrees c h told t) ∙ waits)
