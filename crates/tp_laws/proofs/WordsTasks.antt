-- Where a task is: the words of the rules agree with its place.
use Rattle.std.proofs.Common.{◌≡◌, ℕ, suc, ◌<◌, ◌≤◌, Bool, true, false, not, ◌&&◌, List, [], ◌∷◌, None, Option, refl, arith, ap, ◌∙◌}
use Rattle.std.specs.Prelude.{unwrap_or, nat_lt, ◌||◌, is_some, if◌then◌else◌}
use Rattle.std.proofs.lemmas.Bool.Decides.{nat_tests}
use Rattle.tp_types.specs.declared.tasks.Place.{Place}
use Rattle.tp_types.specs.declared.tasks.Place.TheVariants as at
use Rattle.tp_types.specs.declared.configs.Config.{Config}
use Rattle.tp_record.specs.declared.entries.Entry.{Entry}
use Rattle.tp_record.specs.declared.entries.Did.{Did}
use Rattle.tp_record.specs.declared.entries.Did.TheVariants as did
use Rattle.tp_record.specs.declared.entries.Offered.TheVariants as offered
use Rattle.tp_record.specs.declared.entries.Seconded.TheVariants as seconded
use Rattle.tp_record.specs.declared.entries.Grown.TheVariants as grown
use Rattle.tp_record.specs.declared.entries.Ruled.TheVariants as ruled
use Rattle.tp_record.specs.declared.entries.Opened.TheVariants as opened
use Rattle.tp_record.specs.declared.entries.Failed.TheVariants as failed
use Rattle.tp_record.specs.declared.entries.Took.TheVariants as took
use Rattle.tp_record.specs.declared.entries.Started.TheVariants as started
use Rattle.tp_record.specs.Lists.{said_of, is_it}
use Rattle.tp_record.specs.Effects.{moved, cancels, is_submit}
use Rattle.tp_record.specs.Fields.{swept, is_queued_place, place, is_cancelled, submitted}
use Rattle.tp_record.specs.Words.{of_it, submitted_by, queued_by, seated_by, returned_by, begun_by, finished_by, cancelled_by, is_stop, is_purge, is_submitted, was_cancelled, takes_out, waits_in_queue, is_gone, in_slot, with_submitter, calls, ends_call, is_at_caller, takes_head, takes_held, begins_there, was_taken, was_begun_there, is_held_in, is_taken_in, is_running_in}
use Rattle.tp_laws.specs.Seats.{slot_of}
use Rattle.tp_laws.specs.Agrees.{submitter_of, is_caller_place, is_gone_place, is_running_place, is_held_at, is_taken_at, is_running_at}
use Rattle.tp_laws.proofs.WordsLists.{by_option}
use Rattle.tp_laws.proofs.Model.Given.{IsAt, Given, Told}

-- what the words say of a task, together
pub record TaskWords : Type 0 where
  pub known : Bool
  pub queued : Bool
  pub slot : Option ℕ
  pub submitter : Option Place
  pub caller : Bool
  pub gone : Bool

-- the words at a record
abbrev pub task_words : List Entry → ℕ → TaskWords
task_words h t =
    record {
      known = is_submitted h t;
      queued = waits_in_queue h t;
      slot = in_slot h t;
      submitter = with_submitter h t;
      caller = is_at_caller h t;
      gone = is_gone h t;
    }

-- what the words are to say of a task in this place
abbrev pub place_words : Bool → Place → TaskWords
place_words known p =
    record {
      known = known;
      queued = is_queued_place p;
      slot = slot_of p;
      submitter = submitter_of p;
      caller = is_caller_place p;
      gone = known && is_gone_place p;
    }

-- an entry finishes t, as the words say
abbrev finishes_now : Did → ℕ → Bool → Bool → Bool
finishes_now d t cancelled queued =
    is_it (finished_by d) t || (is_stop d && queued) || (is_purge d && queued && cancelled)

-- the words after an entry
abbrev words_after : Did → ℕ → Bool → TaskWords → TaskWords
words_after d t cancelled w =
    record {
      known = is_it (submitted_by d) t || w.known;
      queued = if takes_out d cancelled t then false else (is_it (queued_by d) t || w.queued);
      slot =
          if is_some (of_it (returned_by d) t) || finishes_now d t cancelled w.queued then None
          else by_option (of_it (seated_by d) t) w.slot;
      submitter =
          by_option (of_it (returned_by d) t)
          (if is_it (queued_by d) t || is_some (of_it (seated_by d) t) || is_it (begun_by d) t || finishes_now d t cancelled w.queued
          then None else w.submitter);
      caller = if ends_call d t then false else (calls d t || w.caller);
      gone = finishes_now d t cancelled w.queued || w.gone;
    }

-- the place after an entry
abbrev pub place_after : Did → ℕ → Bool → Place → Place
place_after d t cancelled p = unwrap_or (said_of t (moved d)) (swept d cancelled p)

-- where the tasks are that an entry names, before it
abbrev pub WasAt : ℕ → ℕ → Bool → Place → Place → Type 0
WasAt u t known p q = t ≡ u → (known ≡ true) × (p ≡ q)

-- so for each entry; a submission names a task that is new
abbrev pub Fits : Did → ℕ → Bool → Place → Type 0
Fits (did.Submit u k pr l) t known p = t ≡ u.0 → (known ≡ false) × (p ≡ at.Gone)
Fits (did.Look u l) t known p = WasAt u.0 t known p at.Looking
Fits (did.Offer u o) t known p = WasAt u.0 t known p at.ToOffer
Fits (did.Second u seconded.Back) t known p = WasAt u.0 t known p at.Queued
Fits (did.Grow u g) t known p = WasAt u.0 t known p at.ToGrow
Fits (did.Verdict u v (ruled.RetryDrop x)) t known p = WasAt u.0 t known p at.Refused × WasAt x.0 t known p at.Queued
Fits (did.Verdict u v r) t known p = WasAt u.0 t known p at.Refused
Fits (did.CallerEnd u o) t known p = WasAt u.0 t known p at.Caller
Fits (did.Open w (opened.GivenUpRefuse u)) t known p = WasAt u.0 t known p (at.Held w)
Fits (did.Fail w (failed.Offer u)) t known p = WasAt u.0 t known p (at.Held w)
Fits (did.Fail w (failed.Refuse u)) t known p = WasAt u.0 t known p (at.Held w)
Fits (did.Take w (took.Held u)) t known p = WasAt u.0 t known p (at.Held w)
Fits (did.Take w (took.Head u)) t known p = WasAt u.0 t known p at.Queued
Fits (did.Begin w (started.Run u)) t known p = WasAt u.0 t known p (at.Taken w)
Fits (did.Begin w (started.Skip u)) t known p = WasAt u.0 t known p (at.Taken w)
Fits (did.End w u o) t known p = WasAt u.0 t known p (at.Running w)
Fits (did.Remove u true) t known p = WasAt u.0 t known p at.Queued
Fits d t known p = Unit {0}

-- the words after an entry are those of the place after it
words_step : (d : Did) (t : ℕ) (c known : Bool) (p : Place) → (known ≡ false → p ≡ at.Gone) → Fits d t known p →
    words_after d t c (place_words known p) ≡ place_words (is_it (submitted_by d) t || known) (place_after d t c p)
words_step (did.Leave v o) t c known p new fits = refl
words_step _ t c known p new fits = grind (arith, nat_tests)

-- the known tasks are those with a number below the count of submissions
known_step : (c : Config) (h : List Entry) (d : Did) (t : ℕ) → Given c h d → is_submitted h t ≡ nat_lt t (submitted h) →
    (is_it (submitted_by d) t || is_submitted h t) ≡ nat_lt t (if is_submit d then suc (submitted h) else submitted h)
known_step c h (did.Submit u k pr l) t given before = grind (arith, nat_tests, given.0)
known_step c h _ t given before = before

-- so it is at each record
pub is_submitted_below : (c : Config) (h : List Entry) → Told c h → (t : ℕ) → is_submitted h t ≡ nat_lt t (submitted h)
is_submitted_below c [] told t = grind (arith, nat_tests)
is_submitted_below c (e ∷ h) told t = known_step c h e.did t told.0 (is_submitted_below c h told.1 t)

-- a given entry finds the tasks that it names where it needs them
fits_at : (c : Config) (h : List Entry) (t u : ℕ) (q : Place) → is_submitted h t ≡ nat_lt t (submitted h) → IsAt h u q → WasAt u t (is_submitted h t) (place h t) q
fits_at c h t u q known at same = (known ∙ grind (arith, nat_tests, at.0), ap (place h) same ∙ at.1)

-- so for each given entry
fits : (c : Config) (h : List Entry) (d : Did) (t : ℕ) → is_submitted h t ≡ nat_lt t (submitted h) → (is_submitted h t ≡ false → place h t ≡ at.Gone) → Given c h d →
    Fits d t (is_submitted h t) (place h t)
fits c h (did.Submit u k pr l) t known new given = λ same.
    let none : is_submitted h t ≡ false = known ∙ grind (arith, nat_tests, given.0) in
    (none, new none)
fits c h (did.Look u l) t known new given = fits_at c h t u.0 at.Looking known given.0
fits c h (did.Offer u offered.Queued) t known new given = fits_at c h t u.0 at.ToOffer known given.0
fits c h (did.Offer u (offered.Hand w)) t known new given = fits_at c h t u.0 at.ToOffer known given.0
fits c h (did.Offer u offered.Full) t known new given = fits_at c h t u.0 at.ToOffer known given
fits c h (did.Second u seconded.Back) t known new given = fits_at c h t u.0 at.Queued known given.0
fits c h (did.Grow u (grown.Reserve w)) t known new given = fits_at c h t u.0 at.ToGrow known given.0
fits c h (did.Grow u grown.Refuse) t known new given = fits_at c h t u.0 at.ToGrow known given
fits c h (did.Verdict u v (ruled.RetryDrop x)) t known new given = (fits_at c h t u.0 at.Refused known given.0, fits_at c h t x.0 at.Queued known given.1.3)
fits c h (did.Verdict u v ruled.Rejected) t known new given = fits_at c h t u.0 at.Refused known given.0
fits c h (did.Verdict u v ruled.Caller) t known new given = fits_at c h t u.0 at.Refused known given.0
fits c h (did.Verdict u v ruled.Skip) t known new given = fits_at c h t u.0 at.Refused known given.0
fits c h (did.Verdict u v ruled.Discarded) t known new given = fits_at c h t u.0 at.Refused known given.0
fits c h (did.Verdict u v ruled.Retry) t known new given = fits_at c h t u.0 at.Refused known given.0
fits c h (did.CallerEnd u o) t known new given = fits_at c h t u.0 at.Caller known given
fits c h (did.Open w (opened.GivenUpRefuse u)) t known new given = fits_at c h t u.0 (at.Held w) known given.1
fits c h (did.Fail w (failed.Offer u)) t known new given = fits_at c h t u.0 (at.Held w) known given.1
fits c h (did.Fail w (failed.Refuse u)) t known new given = fits_at c h t u.0 (at.Held w) known given.1
fits c h (did.Take w (took.Held u)) t known new given = fits_at c h t u.0 (at.Held w) known given.1
fits c h (did.Take w (took.Head u)) t known new given = fits_at c h t u.0 at.Queued known given.2
fits c h (did.Begin w (started.Run u)) t known new given = fits_at c h t u.0 (at.Taken w) known given.1
fits c h (did.Begin w (started.Skip u)) t known new given = fits_at c h t u.0 (at.Taken w) known given.1
fits c h (did.End w u o) t known new given = fits_at c h t u.0 (at.Running w) known given.1
fits c h (did.Remove u true) t known new given = fits_at c h t u.0 at.Queued known given
fits c h _ t known new given = tt

-- a task that was never submitted is gone
new_step : (d : Did) (t : ℕ) (c known : Bool) (p : Place) → Fits d t known p → (known ≡ false → p ≡ at.Gone) →
    (is_it (submitted_by d) t || known) ≡ false → place_after d t c p ≡ at.Gone
new_step (did.Submit u k pr l) t c known p fits new none = grind (arith, nat_tests)
new_step (did.Stop n) t c known p fits new none = rw (new none) refl
new_step (did.Purge n) t c known p fits new none = rw (new none) refl
new_step _ t c known p fits new none = grind (arith, nat_tests)

-- so it is at each record
pub place_unsubmitted : (c : Config) (h : List Entry) → Told c h → (t : ℕ) → is_submitted h t ≡ false → place h t ≡ at.Gone
place_unsubmitted c [] told t none = refl
place_unsubmitted c (e ∷ h) told t none =
    let new = place_unsubmitted c h told.1 t in
    new_step e.did t (is_cancelled h t) (is_submitted h t) (place h t) (fits c h e.did t (is_submitted_below c h told.1 t) new told.0) new none

-- the place of each task that an entry names fits
pub told_fits : (c : Config) (h : List Entry) (d : Did) (t : ℕ) → Told c h → Given c h d → Fits d t (is_submitted h t) (place h t)
told_fits c h d t told given = fits c h d t (is_submitted_below c h told t) (place_unsubmitted c h told t) given

-- a task that was never submitted was not cancelled
uncancelled_step : (c : Config) (h : List Entry) (d : Did) (t : ℕ) → Given c h d → is_submitted h t ≡ nat_lt t (submitted h) → (is_submitted h t ≡ false → was_cancelled h t ≡ false) →
    (is_it (submitted_by d) t || is_submitted h t) ≡ false → (is_it (cancelled_by d) t || was_cancelled h t) ≡ false
uncancelled_step c h (did.Submit u k pr l) t given known before none = grind (arith, nat_tests)
uncancelled_step c h (did.Cancel u flag true) t given known before none = grind (arith, nat_tests, given.0)
uncancelled_step c h _ t given known before none = before none

-- so it is at each record
pub uncancelled : (c : Config) (h : List Entry) → Told c h → (t : ℕ) → is_submitted h t ≡ false → was_cancelled h t ≡ false
uncancelled c [] told t none = refl
uncancelled c (e ∷ h) told t none = uncancelled_step c h e.did t told.0 (is_submitted_below c h told.1 t) (uncancelled c h told.1 t) none

-- the words on cancels agree with the table
cancelled_step : (d : Did) (t : ℕ) (known was is : Bool) (p : Place) → Fits d t known p → (known ≡ false → was ≡ false) → was ≡ is →
    (is_it (cancelled_by d) t || was) ≡ unwrap_or (said_of t (cancels d)) is
cancelled_step (did.Submit u k pr l) t known was is p fits none before = grind (arith, nat_tests)
cancelled_step (did.Cancel u flag true) t known was is p fits none before = grind (arith, nat_tests)
cancelled_step _ t known was is p fits none before = before

-- so it is at each record
pub cancelled_agrees : (c : Config) (h : List Entry) → Told c h → (t : ℕ) → was_cancelled h t ≡ is_cancelled h t
cancelled_agrees c [] told t = refl
cancelled_agrees c (e ∷ h) told t =
    cancelled_step e.did t (is_submitted h t) (was_cancelled h t) (is_cancelled h t) (place h t) (told_fits c h e.did t told.1 told.0) (uncancelled c h told.1 t) (cancelled_agrees c h told.1 t)

-- the words on a task agree with its place
pub words_agree : (c : Config) (h : List Entry) → Told c h → (t : ℕ) → task_words h t ≡ place_words (is_submitted h t) (place h t)
words_agree c [] told t = refl
words_agree c (e ∷ h) told t =
    ap (words_after e.did t (was_cancelled h t)) (words_agree c h told.1 t)
    ∙ rw (cancelled_agrees c h told.1 t) (words_step e.did t (is_cancelled h t) (is_submitted h t) (place h t) (place_unsubmitted c h told.1 t) (told_fits c h e.did t told.1 told.0))

-- a task in this place was taken by its worker
abbrev is_taken_place : Place → Bool
is_taken_place (at.Taken w) = true
is_taken_place (at.Running w) = true
is_taken_place _ = false

-- what the words say of a task in a slot: whether it was taken, and whether it was begun
abbrev TellsPhase : Place → Bool → Bool → Type 0
TellsPhase p was_taken was_begun = is_some (slot_of p) ≡ true → (was_taken ≡ is_taken_place p) × (was_begun ≡ is_running_place p)

-- whether t was taken, after an entry
abbrev taken_after : Did → ℕ → Bool → Bool
taken_after d t was = if is_some (of_it (seated_by d) t) then takes_head d t else (takes_held d t || was)

-- whether t was begun there, after an entry
abbrev begun_after : Did → ℕ → Bool → Bool
begun_after d t was = if is_some (of_it (seated_by d) t) then false else (begins_there d t || was)

-- an entry keeps that
phase_step : (d : Did) (t : ℕ) (c known : Bool) (p : Place) (taken begun : Bool) → Fits d t known p → TellsPhase p taken begun →
    TellsPhase (place_after d t c p) (taken_after d t taken) (begun_after d t begun)
phase_step (did.Submit u k pr l) t c known p taken begun fits tells = grind (arith, nat_tests)
phase_step _ t c known p taken begun fits tells = grind (arith, nat_tests)

-- so it is at each record
phase_agrees : (c : Config) (h : List Entry) → Told c h → (t : ℕ) → TellsPhase (place h t) (was_taken h t) (was_begun_there h t)
phase_agrees c [] told t = λ some. grind arith
phase_agrees c (e ∷ h) told t =
    phase_step e.did t (is_cancelled h t) (is_submitted h t) (place h t) (was_taken h t) (was_begun_there h t) (told_fits c h e.did t told.1 told.0) (phase_agrees c h told.1 t)

-- a held task, by its place
held_by_phase : (w : ℕ) (p : Place) (taken begun : Bool) → TellsPhase p taken begun → (is_it (slot_of p) w && not begun && not taken) ≡ is_held_at w p
held_by_phase w p taken begun tells = grind (arith, nat_tests)

-- a taken task, by its place
taken_by_phase : (w : ℕ) (p : Place) (taken begun : Bool) → TellsPhase p taken begun → (is_it (slot_of p) w && not begun && taken) ≡ is_taken_at w p
taken_by_phase w p taken begun tells = grind (arith, nat_tests)

-- a running task, by its place
running_by_phase : (w : ℕ) (p : Place) (taken begun : Bool) → TellsPhase p taken begun → (is_it (slot_of p) w && begun) ≡ is_running_at w p
running_by_phase w p taken begun tells = grind (arith, nat_tests)

-- each word on a task's place
pub in_slot_agrees : (c : Config) (h : List Entry) → Told c h → (t : ℕ) → in_slot h t ≡ slot_of (place h t)
in_slot_agrees c h told t = ap (λ w. w.slot) (words_agree c h told t)

pub queued_agrees : (c : Config) (h : List Entry) → Told c h → (t : ℕ) → waits_in_queue h t ≡ is_queued_place (place h t)
queued_agrees c h told t = ap (λ w. w.queued) (words_agree c h told t)

pub submitter_agrees : (c : Config) (h : List Entry) → Told c h → (t : ℕ) → with_submitter h t ≡ submitter_of (place h t)
submitter_agrees c h told t = ap (λ w. w.submitter) (words_agree c h told t)

pub caller_agrees : (c : Config) (h : List Entry) → Told c h → (t : ℕ) → is_at_caller h t ≡ is_caller_place (place h t)
caller_agrees c h told t = ap (λ w. w.caller) (words_agree c h told t)

pub gone_agrees : (c : Config) (h : List Entry) → Told c h → (t : ℕ) → is_gone h t ≡ (nat_lt t (submitted h) && is_gone_place (place h t))
gone_agrees c h told t =
    ap (λ w. w.gone) (words_agree c h told t) ∙ ap (λ known. known && is_gone_place (place h t)) (is_submitted_below c h told t)

pub held_agrees : (c : Config) (h : List Entry) → Told c h → (w t : ℕ) → is_held_in h w t ≡ is_held_at w (place h t)
held_agrees c h told w t =
    ap (λ o. is_it o w && not (was_begun_there h t) && not (was_taken h t)) (in_slot_agrees c h told t)
    ∙ held_by_phase w (place h t) (was_taken h t) (was_begun_there h t) (phase_agrees c h told t)

pub taken_agrees : (c : Config) (h : List Entry) → Told c h → (w t : ℕ) → is_taken_in h w t ≡ is_taken_at w (place h t)
taken_agrees c h told w t =
    ap (λ o. is_it o w && not (was_begun_there h t) && was_taken h t) (in_slot_agrees c h told t)
    ∙ taken_by_phase w (place h t) (was_taken h t) (was_begun_there h t) (phase_agrees c h told t)

pub running_agrees : (c : Config) (h : List Entry) → Told c h → (w t : ℕ) → is_running_in h w t ≡ is_running_at w (place h t)
running_agrees c h told w t =
    ap (λ o. is_it o w && was_begun_there h t) (in_slot_agrees c h told t)
    ∙ running_by_phase w (place h t) (was_taken h t) (was_begun_there h t) (phase_agrees c h told t)

-- in a task that was submitted, gone is its place
pub gone_below : (c : Config) (h : List Entry) → Told c h → (t : ℕ) → t < submitted h → is_gone h t ≡ is_gone_place (place h t)
gone_below c h told t below =
    let is : nat_lt t (submitted h) ≡ true = grind (arith, nat_tests) in
    gone_agrees c h told t ∙ ap (λ b. b && is_gone_place (place h t)) is

-- a task that was never submitted is in no place
pub place_past : (c : Config) (h : List Entry) → Told c h → (t : ℕ) → submitted h ≤ t → place h t ≡ at.Gone
place_past c h told t past = place_unsubmitted c h told t (is_submitted_below c h told t ∙ grind (arith, nat_tests))

pub queued_past : (c : Config) (h : List Entry) → Told c h → (t : ℕ) → submitted h ≤ t → waits_in_queue h t ≡ false
queued_past c h told t past = queued_agrees c h told t ∙ ap is_queued_place (place_past c h told t past)

pub in_slot_past : (c : Config) (h : List Entry) → Told c h → (t : ℕ) → submitted h ≤ t → in_slot h t ≡ None
in_slot_past c h told t past = in_slot_agrees c h told t ∙ ap slot_of (place_past c h told t past)

pub submitter_past : (c : Config) (h : List Entry) → Told c h → (t : ℕ) → submitted h ≤ t → with_submitter h t ≡ None
submitter_past c h told t past = submitter_agrees c h told t ∙ ap submitter_of (place_past c h told t past)

pub caller_past : (c : Config) (h : List Entry) → Told c h → (t : ℕ) → submitted h ≤ t → is_at_caller h t ≡ false
caller_past c h told t past = caller_agrees c h told t ∙ ap is_caller_place (place_past c h told t past)

pub gone_past : (c : Config) (h : List Entry) → Told c h → (t : ℕ) → submitted h ≤ t → is_gone h t ≡ false
gone_past c h told t past =
    let is : nat_lt t (submitted h) ≡ false = grind (arith, nat_tests) in
    gone_agrees c h told t ∙ ap (λ b. b && is_gone_place (place h t)) is
