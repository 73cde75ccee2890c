-- The queue: the words of the rules agree with the working tables.
use Rattle.std.proofs.Common.{◌≡◌, ℕ, ◌<◌, max, Bool, true, false, not, List, [], ◌∷◌, ◌++◌, Some, refl, arith, sym, ap, ◌∙◌}
use Rattle.std.specs.Prelude.{nat_lt, ◌==◌, ◌||◌, filter, option_to_list, unwrap_or}
use Rattle.std.specs.List.{list_any}
use Rattle.std.proofs.lemmas.Bool.Decides.{nat_tests}
use Rattle.std.proofs.lemmas.List.{append-nil}
use Rattle.std.proofs.lemmas.List.Elements.{filter-append, filter_agree}
use mathlib.Core.Path.{ap₂, fun_ext}
use Rattle.tp_types.specs.declared.tasks.Place.{Place}
use Rattle.tp_types.specs.declared.tasks.Place.TheVariants as at
use Rattle.tp_types.specs.declared.configs.Config.{Config}
use Rattle.tp_record.specs.declared.entries.Entry.{Entry}
use Rattle.tp_record.specs.declared.entries.Did.{Did}
use Rattle.tp_record.specs.declared.entries.Did.TheVariants as did
use Rattle.tp_record.specs.declared.entries.Offered.TheVariants as offered_as
use Rattle.tp_record.specs.declared.entries.Seconded.TheVariants as seconded
use Rattle.tp_record.specs.declared.entries.Ruled.TheVariants as ruled
use Rattle.tp_types.specs.Queues.{is_ranked}
use Rattle.tp_record.specs.Lists.{said_of, is_it, without, at_end, in_line}
use Rattle.tp_record.specs.Effects.{queues, priorities_said, reaches}
use Rattle.tp_record.specs.Fields.{rank, is_queued, place, is_cancelled, submitted, offered, queued, priority, queue}
use Rattle.tp_record.specs.Words.{submitted_by, queued_by, is_submitted, waits_in_queue, offers_in_order, waiting, waiting_line, of_it, or_else, priority_submitted, priority_of}
use Rattle.tp_laws.proofs.Model.Given.{Given, Told}
use Rattle.tp_laws.proofs.WordsTasks.{Fits, place_after, told_fits, is_submitted_below, queued_agrees}

-- an entry puts t in the queue
abbrev pub was_queued : List Entry → ℕ → Bool
was_queued h t = list_any (λ e. is_it (queued_by e.did) t) h

-- an entry queues a task that was submitted
unqueued_step : (c : Config) (h : List Entry) (d : Did) (t : ℕ) → Given c h d → is_submitted h t ≡ nat_lt t (submitted h) → (is_submitted h t ≡ false → was_queued h t ≡ false) →
    (is_it (submitted_by d) t || is_submitted h t) ≡ false → (is_it (queued_by d) t || was_queued h t) ≡ false
unqueued_step c h (did.Submit u k pr l) t given known before none = grind (arith, nat_tests)
unqueued_step c h (did.Offer u offered_as.Queued) t given known before none = grind (arith, nat_tests, given.0)
unqueued_step c h _ t given known before none = before none

-- a task that was never submitted was not queued
pub unqueued : (c : Config) (h : List Entry) → Told c h → (t : ℕ) → is_submitted h t ≡ false → was_queued h t ≡ false
unqueued c [] told t none = refl
unqueued c (e ∷ h) told t none = unqueued_step c h e.did t told.0 (is_submitted_below c h told.1 t) (unqueued c h told.1 t) none

-- where a task that was queued can be, in a pool of this rank
abbrev pub is_past_queue : Place → ℕ → Bool
is_past_queue at.Queued r = true
is_past_queue (at.Taken w) r = true
is_past_queue (at.Running w) r = true
is_past_queue at.Gone r = true
is_past_queue at.Refused r = nat_lt 0 r
is_past_queue _ r = false

-- what an entry says of the rank before it, as far as a queued task's way needs it
abbrev FitsRank : Did → ℕ → Type 0
FitsRank (did.Second t seconded.Back) r = 0 < r
FitsRank (did.Verdict t v ruled.Caller) r = r ≡ 0
FitsRank (did.Verdict t v ruled.Retry) r = r ≡ 0
FitsRank (did.Verdict t v (ruled.RetryDrop u)) r = r ≡ 0
FitsRank _ r = Unit {0}

-- a given entry says so
fits_rank : (c : Config) (h : List Entry) (d : Did) → Given c h d → FitsRank d (rank h)
fits_rank c h (did.Second t seconded.Back) given = given.2
fits_rank c h (did.Verdict t v ruled.Caller) given = given.1.0
fits_rank c h (did.Verdict t v ruled.Retry) given = given.1.0
fits_rank c h (did.Verdict t v (ruled.RetryDrop u)) given = given.1.0
fits_rank c h _ given = tt

-- an entry keeps a queued task on its way
past_step : (d : Did) (t r : ℕ) (c known was : Bool) (p : Place) → Fits d t known p → FitsRank d r → (known ≡ false → was ≡ false) → (was ≡ true → is_past_queue p r ≡ true) →
    (is_it (queued_by d) t || was) ≡ true → is_past_queue (place_after d t c p) (max (reaches d) r) ≡ true
past_step (did.Submit u k pr l) t r c known was p fits at_rank new before is = grind (arith, nat_tests)
past_step _ t r c known was p fits at_rank new before is = grind (arith, nat_tests)

-- a task that was queued is not offered again
pub queued_past : (c : Config) (h : List Entry) → Told c h → (t : ℕ) → was_queued h t ≡ true → is_past_queue (place h t) (rank h) ≡ true
queued_past c [] told t is = grind arith
queued_past c (e ∷ h) told t is =
    past_step e.did t (rank h) (is_cancelled h t) (is_submitted h t) (was_queued h t) (place h t)
    (told_fits c h e.did t told.1 told.0) (fits_rank c h e.did told.0) (unqueued c h told.1 t) (queued_past c h told.1 t) is

-- an entry queues a task other than t
without_step : (d : Did) (t : ℕ) (was : Bool) (xs : List ℕ) → (was ≡ false → without t xs ≡ xs) → (is_it (queued_by d) t || was) ≡ false →
    without t (xs ++ option_to_list (queued_by d)) ≡ xs ++ option_to_list (queued_by d)
without_step (did.Offer u offered_as.Queued) t was xs before none =
    let other : (u.0 == t) ≡ false = grind (arith, nat_tests) in
    filter-append (λ y. not (y == t)) xs (u.0 ∷ []) ∙ ap₂ (λ ys zs. ys ++ zs) (before (grind (arith, nat_tests))) (rw other refl)
without_step _ t was xs before none = rw (append-nil xs) (before none)

-- a task that was not queued does not stand among those that were
without_unqueued : (h : List Entry) (t : ℕ) → was_queued h t ≡ false → without t (offers_in_order h) ≡ offers_in_order h
without_unqueued [] t none = refl
without_unqueued (e ∷ h) t none = without_step e.did t (was_queued h t) (offers_in_order h) (without_unqueued h t) none

-- a task that is queued the first time stands at the end
offered_step : (d : Did) (xs : List ℕ) → ((t : ℕ) → queued_by d ≡ Some t → without t xs ≡ xs) → xs ++ option_to_list (queued_by d) ≡ at_end (queues d) xs
offered_step (did.Offer u offered_as.Queued) xs once = ap (λ ys. ys ++ u.0 ∷ []) (sym (once u.0 refl))
offered_step _ xs once = append-nil xs

-- a task that is to be offered was not queued
unqueued_place : (was : Bool) (p : Place) (r : ℕ) → p ≡ at.ToOffer → (was ≡ true → is_past_queue p r ≡ true) → was ≡ false
unqueued_place was p r here past = grind (arith, nat_tests)

-- a task is offered before it is queued
once : (c : Config) (h : List Entry) (d : Did) (t : ℕ) → Told c h → Given c h d → queued_by d ≡ Some t → was_queued h t ≡ false
once c h (did.Offer u offered_as.Queued) t told given is =
    let same : t ≡ u.0 = cc in
    unqueued_place (was_queued h t) (place h t) (rank h) (ap (place h) same ∙ given.0.1) (queued_past c h told t)
once c h _ t told given is = absurd cc

-- the offered tasks, in order
pub offered_agrees : (c : Config) (h : List Entry) → Told c h → offers_in_order h ≡ offered h
offered_agrees c [] told = refl
offered_agrees c (e ∷ h) told =
    offered_step e.did (offers_in_order h) (λ t is. without_unqueued h t (once c h e.did t told.1 told.0 is))
    ∙ ap (at_end (queues e.did)) (offered_agrees c h told.1)

-- the queue
pub waiting_words : (c : Config) (h : List Entry) → Told c h → waiting h ≡ queued h
waiting_words c h told =
    ap (filter (waits_in_queue h)) (offered_agrees c h told)
    ∙ filter_agree (waits_in_queue h) (is_queued h) (queued_agrees c h told) (offered h)

-- the priority number that an entry submits
priority_step : (d : Did) (t n : ℕ) → or_else (of_it (priority_submitted d) t) n ≡ unwrap_or (said_of t (priorities_said d)) n
priority_step (did.Submit u k pr l) t n = grind (arith, nat_tests)
priority_step _ t n = refl

-- the priority numbers
pub priority_agrees : (h : List Entry) (t : ℕ) → priority_of h t ≡ priority h t
priority_agrees [] t = refl
priority_agrees (e ∷ h) t = ap (or_else (of_it (priority_submitted e.did) t)) (priority_agrees h t) ∙ priority_step e.did t (priority h t)

pub queue_words : (c : Config) (h : List Entry) → Told c h → waiting_line c h ≡ queue c h
queue_words c h told = ap₂ (in_line (is_ranked c.queue)) (fun_ext (priority_agrees h)) (waiting_words c h told)
