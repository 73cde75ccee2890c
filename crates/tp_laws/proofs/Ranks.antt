-- What holds once the run state has risen.
use Rattle.std.proofs.Common.{◌≡◌, ℕ, suc, ◌≤◌, ◌⊎◌, max, Bool, true, false, cond, List, [], ◌∷◌, Some, None, Option, refl, arith, ◌∙◌, sym, inl, inr}
use Rattle.std.proofs.lemmas.Bool.{false≢true}
use Rattle.std.proofs.lemmas.Bool.Decides.{nat_tests}
use Rattle.tp_types.specs.declared.configs.Config.{Config}
use Rattle.tp_record.specs.declared.entries.Entry.{Entry}
use Rattle.tp_record.specs.declared.entries.Did.{Did}
use Rattle.tp_record.specs.declared.entries.Did.TheVariants as did
use Rattle.tp_record.specs.declared.entries.Took.TheVariants as took
use Rattle.tp_record.specs.Effects.{reaches}
use Rattle.tp_record.specs.declared.rows.Stage.{Stage}
use Rattle.tp_record.specs.declared.rows.SlotRow.{SlotRow}
use Rattle.tp_record.specs.Fields.{rank, is_idle, is_idle_row, is_idle_stage, slot_row, idled}
use Rattle.std.specs.Prelude.{filter}
use Rattle.std.proofs.lemmas.Bool.{false_from_ne_true}
use Rattle.tp_laws.specs.Agrees.{idle_of}
use Rattle.tp_laws.proofs.WordsSlots.{idle_agrees}
use Rattle.tp_record.specs.Words.{idle_since, takes_nothing, names_slot, wakes, is_stop, moment}
use Rattle.tp_laws.proofs.Model.Given.{Given, Told}
use Rattle.tp_laws.specs.Laws.{was_shut_down, was_stopped, NoIdleAfterShutdown, NoneIdling, is_tidy, is_ended}
use Rattle.tp_laws.proofs.Fits.{fits_rank, rank_given}
use Rattle.std.specs.Prelude.{count_by, ◌||◌}
use Rattle.tp_laws.proofs.WordsLists.{count_by-cons}

-- a worker that takes nothing is idle only while the pool runs
idle_runs : (c : Config) (h : List Entry) (d : Did) → Given c h d → takes_nothing d ≡ true → rank h ≡ 0
idle_runs c h (did.Take w took.Idle) given is = given.2
idle_runs c h _ given is = absurd (false≢true is)

-- only a `shutdown` or a `stop` raises the run state from running
raised : (c : Config) (h : List Entry) (d : Did) → Given c h d → wakes d ≡ false → 1 ≤ max (reaches d) (rank h) → 1 ≤ rank h
raised c h did.Shutdown given wakes up = absurd (false≢true (sym wakes))
raised c h (did.Stop n) given wakes up = absurd (false≢true (sym wakes))
raised c h did.Tidy given wakes up = elim given.1 [ inl two ↦ omega arith | inr one ↦ omega arith ]
raised c h did.Ended given wakes up = omega arith
raised c h _ given wakes up = omega arith

idle_more : (d : Did) (w r m : ℕ) (o : Option ℕ) → (takes_nothing d ≡ true → r ≡ 0) → (wakes d ≡ false → 1 ≤ max (reaches d) r → 1 ≤ r) → (1 ≤ r → o ≡ None) → 1 ≤ max (reaches d) r →
    cond (names_slot d w) (cond (takes_nothing d) (Some m) None) (cond (wakes d) None o) ≡ None
idle_more d w r m o runs raises none up = grind (arith, nat_tests)

none_idle_above : (c : Config) (h : List Entry) → Told c h → 1 ≤ rank h → (w : ℕ) → idle_since h w ≡ None
none_idle_above c [] told up w = absurd (omega arith)
none_idle_above c (e ∷ h) told up w =
    idle_more e.did w (rank h) (moment h) (idle_since h w) (idle_runs c h e.did told.0) (raised c h e.did told.0) (λ is. none_idle_above c h told.1 is w) up

any_or : (a b : Bool) → (a || b) ≡ true → (a ≡ true) ⊎ (b ≡ true)
any_or true b is = inl refl
any_or false b is = inr is

wakes_rank : (d : Did) (r : ℕ) → wakes d ≡ true → 1 ≤ max (reaches d) r
wakes_rank d r is = grind (arith, nat_tests)

stops_rank : (d : Did) (r : ℕ) → is_stop d ≡ true → 2 ≤ max (reaches d) r
stops_rank d r is = grind (arith, nat_tests)

-- a pool that was shut down or stopped has risen
pub shut_down_rank : (h : List Entry) → was_shut_down h ≡ true → 1 ≤ rank h
shut_down_rank [] is = absurd (false≢true is)
shut_down_rank (e ∷ h) is = elim (any_or (wakes e.did) (was_shut_down h) is) [
  | inl now ↦ wakes_rank e.did (rank h) now
  | inr before ↦ (let was : 1 ≤ rank h = shut_down_rank h before in omega arith)
]

pub stopped_rank : (h : List Entry) → was_stopped h ≡ true → 2 ≤ rank h
stopped_rank [] is = absurd (false≢true is)
stopped_rank (e ∷ h) is = elim (any_or (is_stop e.did) (was_stopped h) is) [
  | inl now ↦ stops_rank e.did (rank h) now
  | inr before ↦ (let was : 2 ≤ rank h = stopped_rank h before in omega arith)
]

-- no slot is idle once the pool is shut down
pub none_idle : (c : Config) (h : List Entry) → Told c h → NoIdleAfterShutdown h
none_idle c h told is w = none_idle_above c h told (shut_down_rank h is) w

tidied_not : (d : Did) (r n : ℕ) → fits_rank d r ≡ true → (r ≤ 2 → n ≡ 0) → max (reaches d) r ≤ 2 → cond (is_tidy d) (suc n) n ≡ 0
tidied_not d r n fits none low = grind (arith, nat_tests)

tidied_one : (d : Did) (r n : ℕ) → fits_rank d r ≡ true → (r ≤ 2 → n ≡ 0) → n ≤ 1 → cond (is_tidy d) (suc n) n ≤ 1
tidied_one d r n fits none one = grind (arith, nat_tests)

tidied_fits : (c : Config) (h : List Entry) → Told c h → (rank h ≤ 2 → count_by (λ e. is_tidy e.did) h ≡ 0) × (count_by (λ e. is_tidy e.did) h ≤ 1)
tidied_fits c [] told = ((λ low. refl), omega arith)
tidied_fits c (e ∷ h) told =
    let was = tidied_fits c h told.1 in
    let ranks : fits_rank e.did (rank h) ≡ true = rank_given c h e.did told.0 in
    rw (count_by-cons (λ (x : Entry). is_tidy x.did) e h)
    (tidied_not e.did (rank h) _ ranks was.0, tidied_one e.did (rank h) _ ranks was.0 was.1)

-- a slot whose row is idle is idle since some moment
row_idle : (s : Stage) → is_idle_stage s ≡ true → idle_of s ≡ None → ⊥
row_idle s is none = grind arith

row_not_idle : (c : Config) (h : List Entry) (w : ℕ) → idle_since h w ≡ None → is_idle h w ≡ false
row_not_idle c h w none = by_row (slot_row h w) refl
  where
    by_row : (o : Option SlotRow) → slot_row h w ≡ o → is_idle_row o ≡ false
    by_row None row = refl
    by_row (Some r) row = false_from_ne_true (is_idle_stage r.stage) (λ is. row_idle r.stage is (sym (idle_agrees h w r row) ∙ none))

filter_none : (p : ℕ → Bool) (xs : List ℕ) → ((x : ℕ) → p x ≡ false) → filter p xs ≡ []
filter_none p [] none = refl
filter_none p (x ∷ xs) none = rw (none x) (filter_none p xs none)

-- the order of idling is empty once the pool is shut down
pub none_idling : (c : Config) (h : List Entry) → Told c h → NoneIdling c h
none_idling c h told is = filter_none (is_idle h) (idled h) (λ w. row_not_idle c h w (none_idle c h told is w))

-- at most one entry is a `tidy`
pub tidy_once : (c : Config) (h : List Entry) → Told c h → count_by (λ e. is_tidy e.did) h ≤ 1
tidy_once c h told = (tidied_fits c h told).1

ended_not : (d : Did) (r n : ℕ) → fits_rank d r ≡ true → (r ≤ 3 → n ≡ 0) → max (reaches d) r ≤ 3 → cond (is_ended d) (suc n) n ≡ 0
ended_not d r n fits none low = grind (arith, nat_tests)

ended_one : (d : Did) (r n : ℕ) → fits_rank d r ≡ true → (r ≤ 3 → n ≡ 0) → n ≤ 1 → cond (is_ended d) (suc n) n ≤ 1
ended_one d r n fits none one = grind (arith, nat_tests)

ended_fits : (c : Config) (h : List Entry) → Told c h → (rank h ≤ 3 → count_by (λ e. is_ended e.did) h ≡ 0) × (count_by (λ e. is_ended e.did) h ≤ 1)
ended_fits c [] told = ((λ low. refl), omega arith)
ended_fits c (e ∷ h) told =
    let was = ended_fits c h told.1 in
    let ranks : fits_rank e.did (rank h) ≡ true = rank_given c h e.did told.0 in
    rw (count_by-cons (λ (x : Entry). is_ended x.did) e h)
    (ended_not e.did (rank h) _ ranks was.0, ended_one e.did (rank h) _ ranks was.0 was.1)

-- at most one entry says that the terminated hook has run
pub ended_once : (c : Config) (h : List Entry) → Told c h → count_by (λ e. is_ended e.did) h ≤ 1
ended_once c h told = (ended_fits c h told).1
