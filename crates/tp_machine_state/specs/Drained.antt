-- The tasks that a stop hands back.
use Rattle.std.specs.Prelude.{ℕ, ◌≡◌, ◌+◌, true, List, [], ◌∷◌, map, drop, sum_by, Option, Some, None, if◌then◌else◌}
use Rattle.tp_types.specs.declared.ids.TaskId.{TaskId}
use Rattle.tp_types.specs.declared.tasks.Fate.{Fate}
use Rattle.tp_types.specs.declared.tasks.Fate.TheVariants as fate
use Rattle.tp_types.specs.declared.tasks.Place.TheVariants as at
use Rattle.tp_types.specs.declared.configs.Config.{Config}
use Rattle.tp_record.specs.declared.rows.TaskRow.{TaskRow}
use Rattle.tp_record.specs.Lists.{is_among, IsOnce}
use Rattle.tp_record.specs.State.{is_fate}
use Rattle.tp_queue.specs.Queues.{waiting_of}
use Rattle.tp_tasks.specs.declared.tasks.Tasks.{Tasks}
use Rattle.tp_tasks.specs.Tasks.{payload_of, promise_of}
use Rattle.tp_laws.specs.View.{View, is_held, put}
use Rattle.tp_machine_state.specs.declared.parts.Parts.{Parts}
use Rattle.tp_machine_state.specs.Payloads.{HandsOut}
use Rattle.tp_machine_state.specs.Shows.{Views}
use Rattle.tp_machine_state.specs.Tied.{IsTied}

-- a task that is handed back
abbrev pub gone : TaskRow → TaskRow
gone r = record r { place = at.Gone; ending = Some fate.HandedBack }

-- how many more tasks have fate f where it is
abbrev pub gains : Fate → TaskRow → ℕ
gains f r = if is_fate f (if r.cancelled then None else Some fate.HandedBack) then 1 else 0

-- what is seen once each queued task is handed back
abbrev pub drained : View → View
drained v =
    record v {
      tasks = λ t. if is_among t v.queue then gone (v.tasks t) else v.tasks t;
      fates = λ f. v.fates f + sum_by (λ t. gains f (v.tasks t)) v.queue;
      queue = [];
    }

module _ {P : Type 0} where
  -- what is seen of the structures has each queued task once, and none that has ended
  pub record CanDrain (p : Parts P) : Type 0 where
    pub seen : View
    pub views : Views p seen
    pub once : IsOnce seen.queue
    pub unended : (t : ℕ) → is_among t seen.queue ≡ true → (is_held seen t ≡ true) × ((seen.tasks t).ending ≡ None)

  -- the queued tasks in order, each with its payload, if it waited
  abbrev pub handed_back : Parts P → List (TaskId × Option P)
  handed_back p = map (λ x. (x.0, payload_of p.tasks x.0.0)) (waiting_of p.queue).items

  -- the payloads of these tasks are out, and all else stays
  pub record HandsOutAll (old new : Tasks P) (ts : List ℕ) : Type 0 where
    pub payloads : (t : ℕ) → payload_of new t ≡ (if is_among t ts then None else payload_of old t)
    pub promises : (t : ℕ) → promise_of new t ≡ promise_of old t

  -- the queue's head x.0 is handed back, with its payload x.1
  pub record DrainsHead (old new : Parts P) (x : TaskId × Option P) : Type 0 where
    pub head : (k : ℕ) × ((waiting_of old.queue).items ≡ (x.0, k) ∷ (waiting_of new.queue).items)
    pub views : (v : View) → Views old v → Views new (record v {
      queue = drop 1 v.queue;
      tasks = put x.0.0 (gone (v.tasks x.0.0)) v.tasks;
      fates = λ f. v.fates f + gains f (v.tasks x.0.0);
    })
    pub tied : (c : Config) (n : ℕ) → IsTied c n old → IsTied c n new
    pub rest : new ≡ record old { tasks = new.tasks; queue = new.queue }
    pub payloads : HandsOut old.tasks new.tasks x.0.0 x.1
    pub left : CanDrain new
