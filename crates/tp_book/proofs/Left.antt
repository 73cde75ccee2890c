-- What is read of a state from which tasks are left out, beside what is read of the whole one.
use Rattle.std.proofs.Common.{◌≡◌, ◌⊎◌, ◌↔◌, ℕ, ◌<◌, ◌≤◌, Bool, true, false, not, ◌&&◌, ◌||◌, List, length, Option, None, is_some, Err, refl, arith, sym, ap, ap₂, ◌∙◌, inl, inr}
use Rattle.std.specs.Prelude.{ℤ, Result, nat_lt, if◌then◌else◌}
use Rattle.std.proofs.lemmas.Bool.{and_parts, ltb-true, lt-ltb, not-true, cases_lt, true≢false}
use Rattle.tp_types.specs.declared.configs.Config.{Config}
use Rattle.tp_types.specs.declared.ids.SlotId.{SlotId}
use Rattle.tp_types.specs.declared.refusals.PoolError.{PoolError}
use Rattle.tp_types.specs.declared.refusals.PoolError.TheVariants.{UnknownTask}
use Rattle.tp_types.specs.declared.tasks.Fate.{Fate}
use Rattle.tp_types.specs.declared.tasks.Place.TheVariants as at
use Rattle.tp_record.specs.declared.entries.Entry.{Entry}
use Rattle.tp_record.specs.declared.entries.Ask.TheVariants as ask
use Rattle.tp_record.specs.declared.entries.Did.TheVariants as did
use Rattle.tp_record.specs.declared.entries.Took.{Took}
use Rattle.tp_record.specs.declared.rows.TaskRow.{TaskRow}
use Rattle.tp_record.specs.Lists.{is_among}
use Rattle.tp_record.specs.Fields.{submitted, place}
use Rattle.tp_record.specs.Left.{left, MayAll}
use Rattle.tp_record.specs.State.{State, state, task_at, fate_of}
use Rattle.tp_record.specs.Step.{Legal, is_known, is_of_group}
use Rattle.tp_laws.proofs.Model.Fated.{gone_fated}
use Rattle.tp_laws.proofs.Model.Readings.{tasks_counted, row_read}
use Rattle.tp_laws.proofs.Model.Told.{told_legal}
use Rattle.tp_laws.proofs.Left.LeftOut.{left_out_of, left_length, left_row, fitting_legal}
use Rattle.tp_laws.proofs.Left.Marks.{left_else}
use Rattle.tp_machine_state.specs.Steps.{IsFitting}
use Rattle.tp_machine.specs.Readings.{HasOpen, value_of_row, value_in}

-- what does not look at rows, fates and what is left out reads alike
pub else_left : {A : Type 0} (f : State → A) → ((s : State) (rows : List TaskRow) (out : List ℕ) (forgotten : Fate → ℕ) → f (record s { tasks = rows; left_out = out; forgotten = forgotten }) ≡ f s) →
    (rs : List ℕ) (s : State) → f (left rs s) ≡ f s
else_left f same rs s = ap f (left_else rs s) ∙ same s (left rs s).tasks (left rs s).left_out (left rs s).forgotten

none_more : (b : Bool) → (b || false) ≡ b
none_more true = refl
none_more false = refl

module _ (c : Config) (h : List Entry) (rs : List ℕ) where
  abbrev s : State
  s = state c h

  -- known are those that were submitted, but for those that are left out
  known_left : (t : ℕ) → is_known (left rs s) t ≡ (not (is_among t rs) && nat_lt t (length s.tasks))
  known_left t = ap₂ (λ a b. not a && nat_lt t b) (left_out_of rs s t ∙ none_more (is_among t rs)) (left_length rs s)

  -- a task that is known is not left out, and was submitted
  pub known_parts : (t : ℕ) → is_known (left rs s) t ≡ true → (is_among t rs ≡ false) × (t < length s.tasks)
  known_parts t known =
      let parts = and_parts (not (is_among t rs)) (nat_lt t (length s.tasks)) (sym (known_left t) ∙ known) in (
        not-true (is_among t rs) parts.0,
        ltb-true t (length s.tasks) parts.1,
      )

  -- and its row is whole
  pub known_row : (t : ℕ) → is_known (left rs s) t ≡ true → task_at (left rs s) t ≡ task_at s t
  known_row t known = left_row rs s t (known_parts t known).0

  -- one that is not known is left out, or was not submitted
  pub unknown_parts : (t : ℕ) → is_known (left rs s) t ≡ false → (b : Bool) → is_among t rs ≡ b → (is_among t rs ≡ true) ⊎ (length s.tasks ≤ t)
  unknown_parts t off true among = inl among
  unknown_parts t off false kept = elim (cases_lt t (length s.tasks)) [
    | inl below ↦ absurd (true≢false (sym (ap₂ (λ a b. not a && b) kept (lt-ltb t (length s.tasks) below)) ∙ sym (known_left t) ∙ off))
    | inr past ↦ inr past
  ]

  module _ (legal : Legal c h) (may : MayAll rs s) where
    -- the task of a group that has no fate was not released
    open_kept : (t : ℕ) → is_known s t ≡ true → fate_of (task_at s t) ≡ None → (b : Bool) → is_among t rs ≡ b → is_among t rs ≡ false
    open_kept t known none true among =
        let below : t < length s.tasks = ltb-true t (length s.tasks) known in
        let n = tasks_counted h in
        let within : t < submitted h = omega (arith, below, n) in
        let row = row_read h t within in
        let gone : place h t ≡ at.Gone = ap (λ (r : TaskRow). r.place) (sym row) ∙ (may.each t among).gone in
        absurd (true≢false (sym (gone_fated c h (told_legal c h legal) t within gone) ∙ ap is_some (sym (ap fate_of row) ∙ none)))
    open_kept t known none false kept = kept

    pub open_left : (g : ℕ) → HasOpen g (left rs s) ↔ HasOpen g s
    open_left g = (
      (λ has. let row = known_row has.0 has.1.known in (
        has.0,
        record {
          known = lt-ltb has.0 (length s.tasks) (known_parts has.0 has.1.known).1;
          group = ap (λ (r : TaskRow). is_of_group g r.kind) (sym row) ∙ has.1.group;
          open_row = ap fate_of (sym row) ∙ has.1.open_row;
        },
      )),
      (λ has. let kept = open_kept has.0 has.1.known has.1.open_row (is_among has.0 rs) refl in
          let row = left_row rs s has.0 kept in (
            has.0,
            record {
              known = known_left has.0 ∙ ap (λ b. not b && nat_lt has.0 (length s.tasks)) kept ∙ has.1.known;
              group = ap (λ (r : TaskRow). is_of_group g r.kind) row ∙ has.1.group;
              open_row = ap fate_of row ∙ has.1.open_row;
            },
          )),
    )

    -- a worker's take fits alike
    pub take_left : (w : SlotId) (k : Took) → IsFitting c (left rs s) (ask.Take w) (did.Take w k) → IsFitting c s (ask.Take w) (did.Take w k)
    take_left w k fits = (sym (fitting_legal c h legal rs 0 (ask.Take w) may refl) ∙ fits.0, fits.1)

    pub take_whole : (w : SlotId) (k : Took) → IsFitting c s (ask.Take w) (did.Take w k) → IsFitting c (left rs s) (ask.Take w) (did.Take w k)
    take_whole w k fits = (fitting_legal c h legal rs 0 (ask.Take w) may refl ∙ fits.0, fits.1)

  abbrev value_of_known : Bool → TaskRow → Result (Option ℤ) PoolError
  value_of_known b r = if b then value_of_row r else Err UnknownTask

  -- the future of a task that is left out is that of an unknown one, and that of each other task answers as ever
  pub value_left : (t : ℕ) → is_among t rs ≡ false → value_in (left rs s) t ≡ value_in s t
  value_left t kept = ap₂ value_of_known (known_left t ∙ ap (λ b. not b && nat_lt t (length s.tasks)) kept) (left_row rs s t kept)

  pub value_out : (t : ℕ) → is_among t rs ≡ true → value_in (left rs s) t ≡ Err UnknownTask
  value_out t among = ap (λ b. if b then value_of_row (task_at (left rs s) t) else Err UnknownTask) (known_left t ∙ ap (λ b. not b && nat_lt t (length s.tasks)) among)
