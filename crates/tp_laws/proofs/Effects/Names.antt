-- The tasks and slots that an entry names. An entry that sweeps nothing leaves all others as they were.
use Rattle.std.proofs.Common.{◌≡◌, ℕ, Bool, true, false, List, Option, Some, None, arith, ap, ◌∙◌}
use Rattle.std.specs.Prelude.{◌==◌, unwrap_or, if◌then◌else◌}
use Rattle.std.proofs.lemmas.Bool.Decides.{nat_tests}
use Rattle.tp_types.specs.declared.tasks.Place.{Place}
use Rattle.tp_types.specs.declared.tasks.Fate.{Fate}
use Rattle.tp_record.specs.declared.entries.Entry.{Entry}
use Rattle.tp_record.specs.declared.entries.Did.{Did}
use Rattle.tp_record.specs.declared.entries.Did.TheVariants as did
use Rattle.tp_record.specs.declared.entries.Offered.TheVariants as offered
use Rattle.tp_record.specs.declared.entries.Ruled.TheVariants as ruled
use Rattle.tp_record.specs.declared.entries.Opened.TheVariants as opened
use Rattle.tp_record.specs.declared.entries.Failed.TheVariants as failed
use Rattle.tp_record.specs.declared.entries.Took.TheVariants as took
use Rattle.tp_record.specs.declared.entries.Started.TheVariants as started
use Rattle.tp_record.specs.declared.rows.Stage.{Stage}
use Rattle.tp_record.specs.declared.rows.TaskRow.{TaskRow}
use Rattle.tp_record.specs.declared.rows.SlotRow.{SlotRow}
use Rattle.tp_record.specs.Lists.{said_of, is_it}
use Rattle.tp_record.specs.Effects.{reserves, kinds_said, priorities_said, moved, seconds, cancels, endings, outcomes, tries, holds, turned, seated, is_plain_fault, reaches}
use Rattle.tp_record.specs.Fields.{swept, handed_back, counted, woken, task_in}
use Rattle.tp_record.specs.State.{State, row_after, slot_after, seat_after, seat_by, no_seat, task_at}
use Rattle.tp_laws.specs.Seats.{number_of}

-- an entry that changes rows which it does not name, or the rank
abbrev pub is_wide : Did → Bool
is_wide did.Shutdown = true
is_wide (did.Stop n) = true
is_wide did.Tidy = true
is_wide did.Ended = true
is_wide (did.Purge n) = true
is_wide _ = false

-- the task whose row an entry changes
abbrev pub names : Did → Option ℕ
names (did.Submit t k p l) = Some t.0
names (did.Look t l) = Some t.0
names (did.Offer t o) = Some t.0
names (did.Second t s) = Some t.0
names (did.Grow t g) = Some t.0
names (did.Verdict t v r) = Some t.0
names (did.CallerEnd t o) = Some t.0
names (did.Open w (opened.GivenUpRefuse t)) = Some t.0
names (did.Fail w (failed.Offer t)) = Some t.0
names (did.Fail w (failed.Refuse t)) = Some t.0
names (did.Take w (took.Held t)) = Some t.0
names (did.Take w (took.Head t)) = Some t.0
names (did.Begin w (started.Run t)) = Some t.0
names (did.Begin w (started.Skip t)) = Some t.0
names (did.End w t o) = Some t.0
names (did.Remove t true) = Some t.0
names (did.Cancel t flag true) = Some t.0
names _ = None

-- the head that a retry drops
abbrev pub drops : Did → Option ℕ
drops (did.Verdict t v (ruled.RetryDrop u)) = Some u.0
drops _ = None

-- a second task that comes to owe more or less: the head that a retry drops, the task of a slot that becomes live
abbrev pub beside : List Entry → Did → Option ℕ
beside h (did.Verdict t v (ruled.RetryDrop u)) = Some u.0
beside h (did.Open w opened.Live) = number_of (task_in h w.0)
beside h _ = None

-- the slot that an entry turns, reserves, frees or gives a task
abbrev pub seats : Did → Option ℕ
seats (did.Offer t (offered.Hand w)) = Some w.0
seats (did.Open w o) = Some w.0
seats (did.Fail w f) = Some w.0
seats (did.Take w k) = Some w.0
seats (did.Begin w b) = Some w.0
seats (did.End w t o) = Some w.0
seats (did.Leave w o) = Some w.0
seats d = reserves d

-- beside it the slot that is reserved in place of one that leaves
abbrev pub replaces : Did → Option ℕ
replaces (did.Leave v (Some w)) = if w.0 == v.0 then None else Some w.0
replaces _ = None

-- an entry says nothing of another task
abbrev IsOther : Did → ℕ → Type 0
IsOther d t = (is_wide d ≡ false) × (is_it (names d) t ≡ false) × (is_it (drops d) t ≡ false)

pub kind_unsaid : (d : Did) (t : ℕ) → IsOther d t → said_of t (kinds_said d) ≡ None
kind_unsaid d t other = grind (arith, nat_tests)

prior_unsaid : (d : Did) (t : ℕ) → IsOther d t → said_of t (priorities_said d) ≡ None
prior_unsaid d t other = grind (arith, nat_tests)

pub place_unsaid : (d : Did) (t : ℕ) → IsOther d t → said_of t (moved d) ≡ None
place_unsaid d t other = grind (arith, nat_tests)

second_unsaid : (d : Did) (t : ℕ) → IsOther d t → said_of t (seconds d) ≡ None
second_unsaid d t other = grind (arith, nat_tests)

cancel_unsaid : (d : Did) (t : ℕ) → IsOther d t → said_of t (cancels d) ≡ None
cancel_unsaid d t other = grind (arith, nat_tests)

ending_unsaid : (d : Did) (t : ℕ) → IsOther d t → said_of t (endings d) ≡ None
ending_unsaid d t other = grind (arith, nat_tests)

outcome_unsaid : (d : Did) (t : ℕ) → IsOther d t → said_of t (outcomes d) ≡ None
outcome_unsaid d t other = grind (arith, nat_tests)

tries_unsaid : (d : Did) (t : ℕ) → IsOther d t → said_of t (tries d) ≡ None
tries_unsaid d t other = grind (arith, nat_tests)

pub not_swept : (d : Did) (b : Bool) (p : Place) → is_wide d ≡ false → swept d b p ≡ p
not_swept d b p narrow = grind arith

not_back : (d : Did) (p : Place) (f : Option Fate) → is_wide d ≡ false → handed_back d p f ≡ f
not_back d p f narrow = grind arith

-- another task's row stays
pub other_row : (d : Did) (t : ℕ) (r : TaskRow) → is_wide d ≡ false → is_it (names d) t ≡ false → is_it (drops d) t ≡ false → row_after d t r ≡ r
other_row d t r narrow one two =
    let other : IsOther d t = (narrow, one, two) in
    λ i. record {
      kind = ap (λ o. unwrap_or o r.kind) (kind_unsaid d t other) i;
      priority = ap (λ o. unwrap_or o r.priority) (prior_unsaid d t other) i;
      place = (ap (λ o. unwrap_or o (swept d r.cancelled r.place)) (place_unsaid d t other) ∙ not_swept d r.cancelled r.place narrow) i;
      second = ap (λ o. unwrap_or o r.second) (second_unsaid d t other) i;
      cancelled = ap (λ o. unwrap_or o r.cancelled) (cancel_unsaid d t other) i;
      ending = (ap (λ o. unwrap_or o (handed_back d r.place r.ending)) (ending_unsaid d t other) ∙ not_back d r.place r.ending narrow) i;
      outcome = ap (λ o. unwrap_or o r.outcome) (outcome_unsaid d t other) i;
      retries = ap (λ o. counted o r.retries) (tries_unsaid d t other) i;
    }

-- an entry says nothing of another slot
abbrev IsApart : Did → ℕ → Type 0
IsApart d w = (is_wide d ≡ false) × (is_it (seats d) w ≡ false) × (is_it (replaces d) w ≡ false)

hold_unsaid : (d : Did) (w : ℕ) → IsApart d w → said_of w (holds d) ≡ None
hold_unsaid d w apart = grind (arith, nat_tests)

turn_unsaid : (n : ℕ) (b : Bool) (d : Did) (w : ℕ) → IsApart d w → said_of w (turned n b d) ≡ None
turn_unsaid n b d w apart = grind (arith, nat_tests)

seat_unsaid : (d : Did) (w : ℕ) → IsApart d w → said_of w (seated d) ≡ None
seat_unsaid d w apart = grind (arith, nat_tests)

not_woken : (d : Did) (g : Stage) → is_wide d ≡ false → woken d g ≡ g
not_woken d g narrow = grind arith

-- another slot stays
pub other_slot : (d : Did) (s : State) (w : ℕ) (o : Option SlotRow) → is_wide d ≡ false → is_it (seats d) w ≡ false → is_it (replaces d) w ≡ false → slot_after d s w o ≡ o
other_slot d s w None narrow one two = ap (λ k. seat_by k (seat_after d s w no_seat) (seat_after d s w) None) (hold_unsaid d w (narrow, one, two))
other_slot d s w (Some r) narrow one two =
    ap (λ k. seat_by k (seat_after d s w no_seat) (seat_after d s w) (Some r)) (hold_unsaid d w (narrow, one, two))
    ∙ ap (λ y. Some y) (λ i. record {
      stage = (ap (λ k. unwrap_or k (woken d r.stage)) (turn_unsaid s.now (is_plain_fault d (λ t. (task_at s t).kind)) d w (narrow, one, two)) ∙ not_woken d r.stage narrow) i;
      task = ap (λ k. unwrap_or k r.task) (seat_unsaid d w (narrow, one, two)) i;
    })

-- an entry that leaves the rank
pub rank_still : (d : Did) → is_wide d ≡ false → reaches d ≡ 0
rank_still d narrow = grind arith
