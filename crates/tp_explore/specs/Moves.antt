-- The moves: who may ask what, and what it makes of a situation.
use Rattle.std.specs.Prelude.{◌≡◌, ℕ, zero, suc, ◌+◌, ◌-◌, ◌==◌, Bool, List, [], ◌∷◌, ◌++◌, map, drop, replicate, sum_by, ◌*◌, ◌^◌, ◌≤◌, ◌<◌, ◌&&◌, nat_le, Option, Some, None, Ok, Err, length, set, slice_index_or, slice_get, if◌then◌else◌}
use Rattle.std.specs.List.{Contains, list_all, list_any, flat_map}
use Rattle.tp_types.specs.declared.configs.Policy.{Policy}
use Rattle.tp_types.specs.declared.configs.Policy.TheVariants as policy
use Rattle.tp_types.specs.declared.configs.Verdict.{Verdict}
use Rattle.tp_types.specs.declared.configs.Verdict.TheVariants as verdict
use Rattle.tp_types.specs.declared.ids.TaskId.{TaskId}
use Rattle.tp_types.specs.declared.ids.SlotId.{SlotId}
use Rattle.tp_types.specs.declared.tasks.Place.{Place}
use Rattle.tp_types.specs.declared.tasks.Place.TheVariants as at
use Rattle.tp_record.specs.declared.entries.Ask.{Ask}
use Rattle.tp_record.specs.declared.entries.Ask.TheVariants as ask
use Rattle.tp_record.specs.declared.entries.Did.{Did}
use Rattle.tp_record.specs.declared.entries.Did.TheVariants as did
use Rattle.tp_record.specs.declared.entries.Opened.TheVariants as opened
use Rattle.tp_record.specs.declared.entries.Seconded.TheVariants as seconded
use Rattle.tp_record.specs.declared.rows.SlotRow.{SlotRow}
use Rattle.tp_record.specs.State as states
use Rattle.tp_record.specs.declared.entries.Entry.{Entry}
use Rattle.tp_record.specs.Step.{Answer, Legal, is_reserved, step}
use Rattle.tp_rules.specs.PlainState.{least_free}
use Rattle.tp_explore.specs.declared.callers.Caller.{Caller}
use Rattle.tp_explore.specs.declared.callers.Doing.{Doing}
use Rattle.tp_explore.specs.declared.callers.Doing.TheVariants.{Nothing, Submitting, Starting, Staffing}
use Rattle.tp_explore.specs.declared.deeds.NextAsk.{NextAsk}
use Rattle.tp_explore.specs.declared.deeds.Mover.{Mover}
use Rattle.tp_explore.specs.declared.deeds.Mover.TheVariants as mover
use Rattle.tp_explore.specs.declared.plans.Call.{Call}
use Rattle.tp_explore.specs.declared.plans.Call.TheVariants as call
use Rattle.tp_explore.specs.declared.plans.Factory.{Factory}
use Rattle.tp_explore.specs.declared.plans.Factory.TheVariants as factory
use Rattle.tp_explore.specs.declared.plans.Plan.{Plan}
use Rattle.tp_explore.specs.declared.moves.Move.{Move}
use Rattle.tp_explore.specs.declared.states.State.{State}
use Rattle.tp_explore.specs.Situation.{Situation, seen, bare, number, calls_of, outcome_of, waits_over, goes_on, staffs}

-- callers

-- before the last n calls
abbrev pub before : ℕ → Caller
before n = record { left = n; doing = Nothing }

abbrev pub next_call : Caller → Caller
next_call c = before (c.left - 1)

-- the last n calls
abbrev pub last_calls : ℕ → List Call → List Call
last_calls n calls = drop (length calls - n) calls

abbrev pub waited : Situation → List Call → ℕ → Caller
waited s calls n = before (n - waits_over s (last_calls n calls))

-- what a caller does without a step: it waits no longer where a wait is over, and starts no more workers where no task is queued
abbrev pub moved_on : Situation → List Call → Caller → Caller
moved_on s calls c = by_doing c.doing
  where
    by_doing : Doing → Caller
    by_doing Nothing = waited s calls c.left
    by_doing (Starting more) = if length s.pool.queue == 0 then waited s calls (c.left - 1) else c
    by_doing _ = c

-- after an answer on the path of task t, where the pool is s then
abbrev pub along : states.State → Caller → TaskId → Caller
along s c t = if goes_on s t.0 then record c { doing = Submitting t } else next_call c

abbrev pub starting : Caller → ℕ → Caller
starting c zero = next_call c
starting c (suc more) = record c { doing = Starting (suc more) }

-- after the first answer of a call
abbrev pub begun : states.State → Caller → Did → Caller
begun s c (did.Submit t k p l) = along s c t
begun s c (did.Core n more) = starting c more
begun s c (did.Prestart (Some w)) = record c { doing = Staffing w 0 }
begun s c _ = next_call c

-- after an answer on the path of task t, which may have reserved a slot without a task
abbrev pub submitting : states.State → Caller → TaskId → Did → Caller
submitting s c t (did.Second u (seconded.StayReserve w)) = record c { doing = Staffing w 0 }
submitting s c t _ = along s c t

-- after the answer to a start, before so many more
abbrev pub started : Caller → ℕ → Did → Caller
started c more (did.Prestart (Some w)) = record c { doing = Staffing w more }
started c more _ = next_call c

-- after a slot was opened or given back, before so many more starts
abbrev pub staffed : Caller → ℕ → Did → Caller
staffed c more (did.Open w opened.Live) = starting c more
staffed c more _ = next_call c

-- after an answer to its ask, where the pool is s then
abbrev pub after : states.State → Caller → Did → Caller
after s c d = by_doing c.doing
  where
    by_doing : Doing → Caller
    by_doing Nothing = begun s c d
    by_doing (Submitting t) = submitting s c t d
    by_doing (Starting more) = started c (more - 1) d
    by_doing (Staffing w more) = staffed c more d

-- asks

-- what may come of a slot whose worker is to be made
abbrev pub staff : Factory → SlotId → List Ask
staff factory.Consents w = ask.Open w ∷ []
staff factory.Refuses w = ask.Fail w ∷ []
staff factory.MayRefuse w = ask.Open w ∷ ask.Fail w ∷ []

abbrev pub verdicts : Policy → List Verdict
verdicts policy.Abort = verdict.Abort ∷ []
verdicts policy.CallerRuns = verdict.CallerRuns ∷ []
verdicts policy.Discard = verdict.Discard ∷ []
verdicts policy.DiscardOldest = verdict.DiscardOldest ∷ []
verdicts policy.Own = verdict.Abort ∷ verdict.CallerRuns ∷ verdict.Discard ∷ verdict.DiscardOldest ∷ []

abbrev pub slot_id : ℕ → SlotId
slot_id w = record { 0 = w }

-- an ask, where there is one
abbrev pub asks_of : Option Ask → List Ask
asks_of None = []
asks_of (Some a) = a ∷ []

abbrev pub asked_by : {A : Type 0} → Option A → (A → Ask) → List Ask
asked_by None asks = []
asked_by (Some x) asks = asks x ∷ []

-- with what a call begins
abbrev pub call_asks : Plan → Situation → Call → List Ask
call_asks plan s (call.Submit x) = asked_by (slice_get plan.submissions.items x) (λ j. ask.Submit j.kind j.priority)
call_asks plan s (call.Control a) = a ∷ []
call_asks plan s (call.Cancel x flag) = asked_by (number s x) (λ t. ask.Cancel t flag)
call_asks plan s (call.Remove x) = asked_by (number s x) (λ t. ask.Remove t)
call_asks plan s _ = []

-- the call with which the last n begin
abbrev pub call_at : List Call → ℕ → Option Call
call_at calls n = slice_get calls (length calls - n)

abbrev pub first_call : {A : Type 0} → Option Call → (Call → List A) → List A
first_call None asks = []
first_call (Some c) asks = asks c

-- each verdict that a refused task may get
abbrev pub judge : Policy → TaskId → List Ask
judge p t = map (λ v. ask.Verdict t v) (verdicts p)

-- a submitter tells how its task ended
abbrev pub caller_end : Plan → Situation → TaskId → List Ask
caller_end plan s t = asked_by (outcome_of plan s t.0) (λ o. ask.CallerEnd t o)

-- what its submitter may ask for a task in this place
abbrev pub place_asks : Plan → Situation → TaskId → Place → List Ask
place_asks plan s t at.Looking = ask.Look t ∷ []
place_asks plan s t at.ToOffer = ask.Offer t ∷ []
place_asks plan s t at.ToGrow = ask.Grow t ∷ []
place_asks plan s t at.Refused = judge plan.config.policy t
place_asks plan s t at.Caller = caller_end plan s t
place_asks plan s t (at.Held w) = staff plan.factory w
place_asks plan s t _ = []

abbrev pub task_asks : Plan → Situation → TaskId → List Ask
task_asks plan s t = if (states.task_at s.pool t.0).second then ask.Second t ∷ [] else place_asks plan s t (states.task_at s.pool t.0).place

-- what a caller that has moved on may ask
abbrev pub caller_asks : Plan → Situation → List Call → Caller → List Ask
caller_asks plan s calls c = by_doing c.doing
  where
    by_doing : Doing → List Ask
    by_doing Nothing = first_call (call_at calls c.left) (call_asks plan s)
    by_doing (Submitting t) = task_asks plan s t
    by_doing (Starting more) = ask.Prestart ∷ []
    by_doing (Staffing w more) = staff plan.factory w

-- a worker tells how its task ended
abbrev pub end_asks : Plan → Situation → SlotId → Option TaskId → List Ask
end_asks plan s w None = []
end_asks plan s w (Some t) = asked_by (outcome_of plan s t.0) (λ o. ask.End w o)

-- what the worker of a live slot may ask: what does not fit is no move
abbrev pub worker_asks : Plan → Situation → SlotId → SlotRow → List Ask
worker_asks plan s w r = ask.Take w ∷ ask.Begin w ∷ ask.Leave w ∷ end_asks plan s w r.task

-- what may be asked of a slot, apart from the callers that reserved it
abbrev pub slot_asks : Plan → Situation → ℕ → Option SlotRow → List Ask
slot_asks plan s w None = []
slot_asks plan s w (Some r) =
    if is_reserved r.stage then (if list_any (staffs s.pool w) s.callers then [] else staff plan.factory (slot_id w))
    else worker_asks plan s (slot_id w) r

abbrev pub deeds_by : Mover → List Ask → List NextAsk
deeds_by m asks = map (λ a. record { by = m; ask = a }) asks

abbrev pub callers_deeds : Plan → Situation → ℕ → List Caller → List NextAsk
callers_deeds plan s i [] = []
callers_deeds plan s i (c ∷ cs) =
    deeds_by (mover.Caller i) (caller_asks plan s (calls_of plan i) (moved_on s (calls_of plan i) c)) ++ callers_deeds plan s (suc i) cs

abbrev pub slots_deeds : Plan → Situation → ℕ → List (Option SlotRow) → List NextAsk
slots_deeds plan s w [] = []
slots_deeds plan s w (o ∷ os) = deeds_by mover.Pool (slot_asks plan s w o) ++ slots_deeds plan s (suc w) os

-- what may be asked next: by each caller, for each slot, and by the house
abbrev pub deeds : Plan → Situation → List NextAsk
deeds plan s = callers_deeds plan s 0 s.callers ++ slots_deeds plan s 0 s.pool.slots ++ deeds_by mover.Pool (ask.Tidy ∷ ask.Ended ∷ [])

-- what a deed makes

-- the number of the slot that an ask makes: the worker's own where it leaves, else the least that is no slot
abbrev pub new_slot : states.State → Ask → ℕ
new_slot s (ask.Leave v) = v.0
new_slot s _ = least_free s.slots

-- the caller's place in the plan when it asks
abbrev pub moved_on_at : Plan → Situation → ℕ → Caller
moved_on_at plan s i = moved_on s (calls_of plan i) (slice_index_or s.callers i (before 0))

-- the tasks of the submissions after a call: a submission is task t from then on
abbrev pub numbered : Option Call → TaskId → List (Option TaskId) → List (Option TaskId)
numbered (Some (call.Submit x)) t os = set os x (Some t)
numbered _ t os = os

abbrev pub numbers_after : Plan → Situation → ℕ → Did → List (Option TaskId)
numbers_after plan s i (did.Submit t k p l) = numbered (call_at (calls_of plan i) (moved_on_at plan s i).left) t s.numbers
numbers_after plan s i d = s.numbers

abbrev pub accepted : Plan → Situation → Mover → Did → Situation
accepted plan s mover.Pool d = record s { pool = bare (states.next s.pool d) }
accepted plan s (mover.Caller i) d =
    record {
      pool = bare (states.next s.pool d);
      callers = set s.callers i (after (states.next s.pool d) (moved_on_at plan s i) d);
      numbers = numbers_after plan s i d;
    }

-- the situation in which caller i has given up its call
abbrev pub given_up : Situation → ℕ → Caller → Situation
given_up s i c = record s { callers = set s.callers i (next_call c) }

abbrev pub refused_in : Situation → ℕ → Caller → Doing → List Situation
refused_in s i c Nothing = given_up s i c ∷ []
refused_in s i c (Starting more) = given_up s i c ∷ []
refused_in s i c _ = []

-- a call whose first step is refused is over, as is a start that is
abbrev pub refused : Plan → Situation → Mover → List Situation
refused plan s mover.Pool = []
refused plan s (mover.Caller i) = refused_in s i (moved_on_at plan s i) (moved_on_at plan s i).doing

abbrev pub made_by : Plan → Situation → Mover → Answer → List Situation
made_by plan s m (Ok a) = accepted plan s m a ∷ []
made_by plan s m (Err e) = refused plan s m

-- the step's answer
abbrev pub answer : Plan → Situation → NextAsk → Answer
answer plan s d = step plan.config s.pool (new_slot s.pool d.ask) d.ask

abbrev pub made : Plan → Situation → NextAsk → List Situation
made plan s d = made_by plan s d.by (answer plan s d)

-- the situations that one move leads to
abbrev pub moves : Plan → Situation → List Situation
moves plan s = flat_map (made plan s) (deeds plan s)

-- how much a caller has before it: its calls, and what it does in one
abbrev pub owes : Caller → ℕ
owes c = 2 * c.left + by_doing c.doing
  where
    by_doing : Doing → ℕ
    by_doing Nothing = 0
    by_doing _ = 1

-- each move lowers it: an entry the room, a call that is refused what its caller has before it
abbrev pub rank : Plan → Situation → ℕ
rank plan s = 2 * (plan.config.record_limit - s.pool.steps) + sum_by owes s.callers

-- what a walk of these rests on: the pool is that of a legal record, and nothing is out of range
pub record Holds (plan : Plan) (s : Situation) : Type 0 where
  pub history : List Entry
  pub legal : Legal plan.config history
  pub stands : s.pool ≡ bare (states.state plan.config history)
  pub limit : plan.config.record_limit ≤ 2 ^ 20
  pub steps : s.pool.steps ≤ plan.config.record_limit
  pub slots : length s.pool.slots ≤ s.pool.steps
  pub bounded : rank plan s < 2 ^ 64

-- the new pool, before any call
abbrev pub starts : Plan → Situation
starts plan = record { pool = states.state plan.config []; callers = map (λ calls. before (length calls.items)) plan.callers.items; numbers = replicate (length plan.submissions.items) None }

-- a state, where there is one
abbrev pub situations_of : Option State → List Situation
situations_of None = []
situations_of (Some x) = seen x ∷ []

abbrev pub moved : Option Move → List Situation
moved None = []
moved (Some m) = seen m.after ∷ []

-- a kept move is one from this situation: its deed may come next there, and is answered so
abbrev pub IsMove : Plan → Situation → Move → Type 0
IsMove plan s m = Contains (deeds plan s) m.deed × (answer plan s m.deed ≡ m.answer) × Contains (made plan s m.deed) (seen m.after)

-- the plan's numbers are small enough to be counted
abbrev pub is_fit : Plan → Bool
is_fit plan = nat_le plan.config.record_limit (2 ^ 20) && (nat_le (length plan.callers.items) 4096 && list_all (λ calls. nat_le (length calls.items) 1048576) plan.callers.items)
