-- The story of a task or of a slot.
use Rattle.std.specs.Prelude.{ℕ, suc, ◌≡◌, ◌++◌, ◌∷◌, List, [], Option, Some, None, count_by, is_some, length, option_to_list, nat_lt, Bool, if◌then◌else◌}
use Rattle.tp_types.specs.declared.configs.Config.{Config}
use Rattle.tp_types.specs.declared.tasks.Fate.{Fate}
use Rattle.tp_record.specs.declared.entries.Entry.{Entry}
use Rattle.tp_record.specs.Fields.{is_live}
use Rattle.tp_record.specs.State.{State, state, task_at, fate_of}
use Rattle.tp_audit.specs.Audited.{Judge, Judged, settings}
use Rattle.tp_audit.specs.declared.tables.Tables.{Tables}
use Rattle.tp_story.specs.declared.scenes.Scene.{Scene}
use Rattle.tp_story.specs.declared.events.Event.{Event}
use Rattle.tp_story.specs.declared.subjects.Subject.{Subject}
use Rattle.tp_story.specs.declared.subjects.Subject.TheVariants as subject
use Rattle.tp_story.specs.Naming.{tells_of}

-- what a pool is like in this state
abbrev pub scene_of : State → Scene
scene_of s =
    record {
      rank = s.rank;
      core = s.core;
      maximum = s.maximum;
      slots = count_by is_some s.slots;
      live = count_by is_live s.slots;
      queued = length s.queue;
      moment = s.now;
    }

-- the entry that follows this state as an event, if it tells of x
abbrev pub event_after : Subject → State → Entry → Option Event
event_after x s e = if tells_of s e.did x then Some (record { number = suc s.steps; entry = e; before = scene_of s }) else None

-- the entries of a history that tell of x, the oldest first, each with its number and with what the pool was like before it
abbrev pub story : Config → Subject → List Entry → List Event
story c x [] = []
story c x (e ∷ h) = story c x h ++ option_to_list (event_after x (state c h) e)

-- the fate that a task has in this state; a slot has none
abbrev pub fate_in : State → Subject → Option Fate
fate_in s (subject.Task t) = fate_of (task_at s t.0)
fate_in s (subject.Slot w) = None

-- the entry that gave a fate, where the entry n may have given it
abbrev pub fated_after : Option ℕ → Option Fate → ℕ → Option ℕ
fated_after None (Some f) n = Some n
fated_after o f n = o

-- the first entry of a history after which x has a fate
abbrev pub fated_at : Config → Subject → List Entry → Option ℕ
fated_at c x [] = None
fated_at c x (e ∷ h) = fated_after (fated_at c x h) (fate_in (state c (e ∷ h)) x) (suc (length h))

-- what a contract sees of a story that is told entry by entry
pub record Telling : Type 0 where
  pub judge : Judge
  pub subject : Subject
  pub events : List Event
  pub fated : Option ℕ

-- it was told this history, which is legal; its events are the story of its subject, and its fate came with that entry
abbrev pub Tells : Telling → List Entry → Type 0
Tells s h = Judged s.judge h × (s.events ≡ story (settings s.judge) s.subject h) × (s.fated ≡ fated_at (settings s.judge) s.subject h)

-- the record knows x: the task was submitted, or some entry tells of the slot
abbrev pub is_known : Telling → Bool
is_known s = known_in s.judge.tables s.events s.subject
  where
    known_in : Tables → List Event → Subject → Bool
    known_in t es (subject.Task u) = nat_lt u.0 (length t.tasks.items)
    known_in t es (subject.Slot w) = nat_lt 0 (length es)
