-- What a contract sees of an auditor's tables.
use Rattle.std.specs.Prelude.{ℕ, suc, max, filter, unwrap_or, option_to_list, ◌≡◌, ◌<◌, ◌^◌, ◌==◌, ◌++◌, ◌∷◌, true, false, List, [], drop, length, count_by, is_some, Contains, Option, Some, None, if◌then◌else◌}
use Rattle.tp_types.specs.Config.{IsConfig}
use Rattle.tp_types.specs.declared.configs.Config.{Config}
use Rattle.tp_types.specs.declared.tasks.Kind.{Kind}
use Rattle.tp_types.specs.declared.tasks.Kind.TheVariants as kinds
use Rattle.tp_record.specs.declared.entries.Entry.{Entry}
use Rattle.tp_record.specs.declared.entries.Did.{Did}
use Rattle.tp_record.specs.declared.entries.Did.TheVariants as did
use Rattle.tp_record.specs.declared.rows.SlotRow.{SlotRow}
use Rattle.tp_record.specs.Lists.{is_it, join_line, long_enough, is_among, IsOnce}
use Rattle.tp_record.specs.Effects.{queues, idles, completes, reserves, reaches, is_completion, sets_core, sets_maximum, sets_keep, sets_core_timeout, sets_now}
use Rattle.tp_record.specs.Fields.{is_idle_row, is_live, is_queued_place}
use Rattle.tp_record.specs.State.{State, state, row_at, task_at, slot_at, due, tasks_after, stays_queued, slot_after}
use Rattle.tp_record.specs.Step.{Legal, done_of}
use Rattle.tp_laws.proofs.Effects.Names.{names, drops}
use Rattle.tp_audit.specs.declared.tables.Tables.{Tables}
use Rattle.tp_audit.specs.Changed.{change_at}
use Rattle.tp_audit.specs.Done.{done_in}
use Rattle.tp_audit.specs.Named.{turns, take_out}
use Rattle.tp_audit.specs.Queued.{tasks_of, is_by_rank, AreRanked}

-- the state that the tables show, but for what is done, which they keep by group
abbrev pub shown : Tables → State
shown t =
    record {
      steps = t.steps;
      rank = t.rank;
      core = t.core;
      maximum = t.maximum;
      keep = t.keep;
      core_timeout = t.core_timeout;
      now = t.moment;
      tasks = t.tasks.items;
      ranked = is_by_rank t.queue;
      queue = tasks_of t.queue;
      slots = t.slots;
      idling = t.idling;
      done = [];
      completions = t.completions;
      largest = t.largest;
      left_out = [];
      forgotten = λ f. 0;
    }

-- the queue has its tasks' priorities
abbrev pub HasRanks : Tables → Type 0
HasRanks t = AreRanked (λ u. (row_at t.tasks.items u).priority) t.queue

-- the state without what is done
abbrev pub undone : State → State
undone s = record s { done = [] }

-- the tables show this state
pub record Shows (t : Tables) (s : State) : Type 0 where
  pub kept : shown t ≡ undone s
  pub done : (g : ℕ) → done_in t.done g ≡ done_of s g
  pub due : t.due ≡ due s
  pub ranks : HasRanks t

-- the group of a task that an entry completes, and the task
abbrev pub group_of : Kind → ℕ → Option (ℕ × ℕ)
group_of (kinds.Group g) t = Some (g, t)
group_of _ t = None

abbrev pub grouped : State → Option ℕ → Option (ℕ × ℕ)
grouped s None = None
grouped s (Some t) = group_of (task_at s t).kind t

abbrev pub completion : Did → State → Option (ℕ × ℕ)
completion d s = grouped s (completes d (λ t. (task_at s t).kind) (λ t. (task_at s t).cancelled))

-- the completed tasks of group g with one more
abbrev pub with_completion : Option (ℕ × ℕ) → ℕ → List ℕ → List ℕ
with_completion None g ts = ts
with_completion (Some p) g ts = if p.0 == g then ts ++ p.1 ∷ [] else ts

-- the completed tasks of group g after an entry hands out
abbrev pub handed_out : Did → ℕ → List ℕ → List ℕ
handed_out (did.TakeDone n t) g ts = if g == n then drop 1 ts else ts
handed_out _ g ts = ts

-- the sizes of tables that counters need
pub record HasSizes (s : State) : Type 0 where
  pub steps : s.steps < 2 ^ 31
  pub completions : s.completions < 2 ^ 31
  pub tasks : length s.tasks < 2 ^ 31
  pub retries : (t : ℕ) → (task_at s t).retries < 2 ^ 31
  pub slots : count_by is_some s.slots < 2 ^ 31

-- what an entry that changes what it names alone needs of the state that it changes
pub record Suits (s : State) (d : Did) : Type 0 where
  pub apart : (t : ℕ) → is_it (names d) t ≡ true → is_it (drops d) t ≡ false
  pub unqueued : (t : ℕ) → queues d ≡ Some t → Contains s.queue t → ⊥
  pub idle : (w : ℕ) → Contains s.idling w → is_idle_row (slot_at s.slots w) ≡ true
  pub busy : (w : ℕ) → idles d ≡ Some w → (Contains s.idling w → ⊥) × ((r : SlotRow) × (slot_at s.slots w ≡ Some r))

-- the state after the entry, of one in which its slot is made and its list is longer (`grown`); `awake` is the slot that
-- it turns and does not leave idle
abbrev pub applied : Did → Option ℕ → State → State
applied d awake s =
    record {
      steps = suc s.steps;
      rank = max (reaches d) s.rank;
      core = unwrap_or (sets_core d) s.core;
      maximum = unwrap_or (sets_maximum d) s.maximum;
      keep = unwrap_or (sets_keep d) s.keep;
      core_timeout = unwrap_or (sets_core_timeout d) s.core_timeout;
      now = unwrap_or (sets_now d) s.now;
      tasks = tasks_after d s.tasks;
      ranked = s.ranked;
      queue = filter (stays_queued d s.tasks) s.queue;
      slots = change_at (slot_after d s) None (turns d) s.slots;
      idling = take_out awake (take_out (reserves d) s.idling);
      done = [];
      completions = if is_completion d then suc s.completions else s.completions;
      largest = max (count_by is_live (change_at (slot_after d s) None (turns d) s.slots)) s.largest;
      left_out = s.left_out;
      forgotten = s.forgotten;
    }

-- the state in which the slot is made that an entry reserves, and what it puts in a list is there
abbrev pub grown : Did → State → State
grown d s =
    record s {
      queue = join_line s.ranked (λ t. (task_at s t).priority) (queues d) s.queue;
      idling = s.idling ++ option_to_list (idles d);
      slots = change_at (slot_after d s) None (reserves d) (long_enough (reserves d) None s.slots);
    }

-- what an entry that changes rows which it does not name needs of the state that it changes
pub record SuitsAll (s : State) : Type 0 where
  pub queued : (t : ℕ) → is_queued_place (task_at s t).place ≡ true → is_among t s.queue ≡ true
  pub once : IsOnce s.queue
  pub idle : (w : ℕ) → is_idle_row (slot_at s.slots w) ≡ true → is_among w s.idling ≡ true
  pub idling : (w : ℕ) → is_among w s.idling ≡ true → is_idle_row (slot_at s.slots w) ≡ true

-- the tables of a pool that was made with c stand at this history
pub record StandsAt (c : Config) (h : List Entry) (t : Tables) : Type 0 where
  pub config : IsConfig c
  pub legal : Legal c h
  pub shows : Shows t (state c h)

-- they stand at some history
abbrev pub Stands : Config → Tables → Type 0
Stands c t = (h : List Entry) × StandsAt c h t
