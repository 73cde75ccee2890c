-- What an entry makes of the tables that changes rows which it does not name.
use Rattle.std.proofs.Common.{◌≡◌, ℕ, suc, Bool, true, false, not, ◌&&◌, cond, List, [], ◌∷◌, ◌++◌, Option, Some, None, refl, sym, ap, ap₂, subst, ◌∙◌}
use Rattle.std.specs.Prelude.{filter}
use Rattle.std.proofs.lemmas.Bool.{false≢true}
use Rattle.std.proofs.lemmas.List.{append-nil}
use Rattle.tp_types.specs.declared.tasks.Place.TheVariants as at
use Rattle.tp_record.specs.declared.entries.Did.{Did}
use Rattle.tp_record.specs.declared.entries.Did.TheVariants as did
use Rattle.tp_record.specs.declared.rows.TaskRow.{TaskRow}
use Rattle.tp_record.specs.declared.rows.SlotRow.{SlotRow}
use Rattle.tp_record.specs.Lists.{change_each, is_among}
use Rattle.tp_record.specs.Fields.{is_queued_place, is_idle_row}
use Rattle.tp_record.specs.State.{State, row_at, slot_at, row_after, tasks_after, slot_after, slots_after, queue_after, idling_after, stays_queued, stays_idle}
use Rattle.tp_laws.proofs.Effects.Names.{is_wide}
use Rattle.tp_laws.proofs.Effects.Controllers.Shutdown.{filter_none, none_idle}
use Rattle.tp_audit.proofs.Changing.{filter_among, filter_every}

-- the state after all that an entry changes but the settings and counters
abbrev pub swept : Did → State → State
swept d s =
    record s {
      tasks = tasks_after d s.tasks;
      queue = queue_after s.ranked d s.tasks s.queue;
      slots = slots_after d s;
      idling = idling_after d s;
    }

abbrev pub AreIdle : State → Type 0
AreIdle s = (w : ℕ) → is_among w s.idling ≡ true → is_idle_row (slot_at s.slots w) ≡ true

same_each : {A : Type 0} (g : ℕ → A → A) (k : ℕ) (xs : List A) → ((i : ℕ) (x : A) → g i x ≡ x) → xs ≡ change_each g k xs
same_each g k [] same = refl
same_each g k (x ∷ xs) same = ap₂ (λ y ys. y ∷ ys) (sym (same k x)) (same_each g (suc k) xs same)

-- all pass
all_stay : (p : ℕ → Bool) (xs : List ℕ) → ((x : ℕ) → is_among x xs ≡ true → p x ≡ true) → xs ≡ filter p xs ++ []
all_stay p xs all = sym (append-nil (filter p xs) ∙ filter_among p (λ x. true) xs all ∙ filter_every (λ x. true) xs (λ x. refl))

-- none passes
none_stays : (p : ℕ → Bool) (xs : List ℕ) → ((x : ℕ) → p x ≡ false) → [] ≡ filter p xs ++ []
none_stays p xs none = sym (append-nil (filter p xs) ∙ filter_among p (λ x. false) xs (λ x there. none x) ∙ filter_none xs)

-- the same, with nothing behind them
all_queued : (p : ℕ → Bool) (xs : List ℕ) → ((x : ℕ) → is_among x xs ≡ true → p x ≡ true) → xs ≡ filter p xs
all_queued p xs all = all_stay p xs all ∙ append-nil (filter p xs)

none_queued : (p : ℕ → Bool) (xs : List ℕ) → ((x : ℕ) → p x ≡ false) → [] ≡ filter p xs
none_queued p xs none = none_stays p xs none ∙ append-nil (filter p xs)

module _ (s : State) where
  -- a shutdown wakes the idle slots
  pub shutdown_swept : (d : Did) (slots : List (Option SlotRow)) (idling : List ℕ) → d ≡ did.Shutdown → slots ≡ change_each (slot_after d s) 0 s.slots → idling ≡ [] →
      ◌≡◌ {A = State} (record s { slots = slots; idling = idling }) (swept d s)
  shutdown_swept d slots idling is to none = subst (λ e. slots ≡ change_each (slot_after e s) 0 s.slots → ◌≡◌ {A = State} (record s { slots = slots; idling = idling }) (swept e s)) (sym is) here to
    where
      wakes : (w : ℕ) → stays_idle did.Shutdown s w ≡ false
      wakes w = by_slot (slot_at s.slots w)
        where
          by_slot : (o : Option SlotRow) → is_idle_row (slot_after did.Shutdown s w o) ≡ false
          by_slot None = refl
          by_slot (Some r) = none_idle (Some r)

      here : slots ≡ change_each (slot_after did.Shutdown s) 0 s.slots → ◌≡◌ {A = State} (record s { slots = slots; idling = idling }) (swept did.Shutdown s)
      here to =
          let tasks = same_each (row_after did.Shutdown) 0 s.tasks (λ i r. refl) in
          let queue = all_queued (stays_queued did.Shutdown s.tasks) s.queue (λ t there. refl) in
          let idle = none ∙ none_stays (stays_idle did.Shutdown s) s.idling wakes in
          λ i. record s { tasks = tasks i; queue = queue i; slots = to i; idling = idle i }

  -- a stop hands back the queued tasks, too
  pub stop_swept : (d : Did) (n : ℕ) (tasks : List TaskRow) (queue : List ℕ) (slots : List (Option SlotRow)) (idling : List ℕ) → d ≡ did.Stop n →
      tasks ≡ change_each (row_after d) 0 s.tasks → queue ≡ [] → slots ≡ change_each (slot_after d s) 0 s.slots → idling ≡ [] →
      ◌≡◌ {A = State} (record s { tasks = tasks; queue = queue; slots = slots; idling = idling }) (swept d s)
  stop_swept d n tasks queue slots idling is rows left to none =
      subst (λ e. tasks ≡ change_each (row_after e) 0 s.tasks → slots ≡ change_each (slot_after e s) 0 s.slots → ◌≡◌ {A = State} (record s { tasks = tasks; queue = queue; slots = slots; idling = idling }) (swept e s)) (sym is) here rows to
    where
      wakes : (w : ℕ) → stays_idle (did.Stop n) s w ≡ false
      wakes w = by_slot (slot_at s.slots w)
        where
          by_slot : (o : Option SlotRow) → is_idle_row (slot_after (did.Stop n) s w o) ≡ false
          by_slot None = refl
          by_slot (Some r) = none_idle (Some r)

      here : tasks ≡ change_each (row_after (did.Stop n)) 0 s.tasks → slots ≡ change_each (slot_after (did.Stop n) s) 0 s.slots →
          ◌≡◌ {A = State} (record s { tasks = tasks; queue = queue; slots = slots; idling = idling }) (swept (did.Stop n) s)
      here rows to =
          let out = left ∙ none_queued (stays_queued (did.Stop n) s.tasks) s.queue (λ t. refl) in
          let idle = none ∙ none_stays (stays_idle (did.Stop n) s) s.idling wakes in
          λ i. record s { tasks = rows i; queue = out i; slots = to i; idling = idle i }

  -- the cancelled tasks leave the queue
  pub purge_swept : (d : Did) (n : ℕ) (tasks : List TaskRow) (queue : List ℕ) → AreIdle s → d ≡ did.Purge n →
      tasks ≡ change_each (row_after d) 0 s.tasks → queue ≡ filter (λ t. not (row_at s.tasks t).cancelled) s.queue →
      ◌≡◌ {A = State} (record s { tasks = tasks; queue = queue }) (swept d s)
  purge_swept d n tasks queue idle is rows left =
      subst (λ e. tasks ≡ change_each (row_after e) 0 s.tasks → ◌≡◌ {A = State} (record s { tasks = tasks; queue = queue }) (swept e s)) (sym is) here rows
    where
      still : (w : ℕ) (o : Option SlotRow) → slot_after (did.Purge n) s w o ≡ o
      still w None = refl
      still w (Some r) = refl

      stays : (b : Bool) → not b ≡ is_queued_place (cond (true && b) at.Gone at.Queued)
      stays true = refl
      stays false = refl

      here : tasks ≡ change_each (row_after (did.Purge n)) 0 s.tasks → ◌≡◌ {A = State} (record s { tasks = tasks; queue = queue }) (swept (did.Purge n) s)
      here rows =
          let out = left ∙ filter_among (λ t. not (row_at s.tasks t).cancelled) (stays_queued (did.Purge n) s.tasks) s.queue (λ t there. stays (row_at s.tasks t).cancelled) in
          let slots = same_each (slot_after (did.Purge n) s) 0 s.slots still in
          let order = all_stay (stays_idle (did.Purge n) s) s.idling (λ w there. ap is_idle_row (still w (slot_at s.slots w)) ∙ idle w there) in
          λ i. record s { tasks = rows i; queue = out i; slots = slots i; idling = order i }

  -- nothing changes but the run state
  pub rank_swept : (d : Did) → AreIdle s → is_wide d ≡ true → (d ≡ did.Shutdown → ⊥) → ((n : ℕ) → d ≡ did.Stop n → ⊥) → ((n : ℕ) → d ≡ did.Purge n → ⊥) → s ≡ swept d s
  rank_swept did.Tidy idle wide one two three =
      let tasks = same_each (row_after did.Tidy) 0 s.tasks (λ i r. refl) in
      let queue = all_queued (stays_queued did.Tidy s.tasks) s.queue (λ t there. refl) in
      let slots = same_each (slot_after did.Tidy s) 0 s.slots still in
      let order = all_stay (stays_idle did.Tidy s) s.idling (λ w there. ap is_idle_row (still w (slot_at s.slots w)) ∙ idle w there) in
      λ i. record s { tasks = tasks i; queue = queue i; slots = slots i; idling = order i }
    where
      still : (w : ℕ) (o : Option SlotRow) → slot_after did.Tidy s w o ≡ o
      still w None = refl
      still w (Some r) = refl
  rank_swept did.Ended idle wide one two three =
      let tasks = same_each (row_after did.Ended) 0 s.tasks (λ i r. refl) in
      let queue = all_queued (stays_queued did.Ended s.tasks) s.queue (λ t there. refl) in
      let slots = same_each (slot_after did.Ended s) 0 s.slots still in
      let order = all_stay (stays_idle did.Ended s) s.idling (λ w there. ap is_idle_row (still w (slot_at s.slots w)) ∙ idle w there) in
      λ i. record s { tasks = tasks i; queue = queue i; slots = slots i; idling = order i }
    where
      still : (w : ℕ) (o : Option SlotRow) → slot_after did.Ended s w o ≡ o
      still w None = refl
      still w (Some r) = refl
  rank_swept did.Shutdown idle wide one two three = absurd (one refl)
  rank_swept (did.Stop n) idle wide one two three = absurd (two n refl)
  rank_swept (did.Purge n) idle wide one two three = absurd (three n refl)
  rank_swept _ idle wide one two three = absurd (false≢true wide)
