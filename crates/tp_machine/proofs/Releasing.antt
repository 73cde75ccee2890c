-- A task that is forgotten is released: the machine stands at the same histories.
use Rattle.std.proofs.Common.{◌≡◌, ℕ, ◌+◌, ◌<◌, Bool, true, false, not, ◌&&◌, List, [], ◌∷◌, length, Some, arith, refl, sym, ap, subst, ◌∙◌, inl, inr}
use mathlib.Core.Path.{ap₂}
use Rattle.std.specs.Prelude.{count_by, is_some, nat_lt}
use Rattle.std.proofs.lemmas.Bool.{lt-ltb, true≢false}
use Rattle.tp_types.specs.declared.configs.Config.{Config}
use Rattle.tp_types.specs.declared.ids.TaskId.{TaskId}
use Rattle.tp_types.specs.declared.refusals.PoolError.{PoolError}
use Rattle.tp_record.specs.declared.entries.Entry.{Entry}
use Rattle.tp_record.specs.declared.rows.TaskRow.{TaskRow}
use Rattle.tp_record.specs.Fields.{is_live}
use Rattle.tp_record.specs.Lists.{is_among}
use Rattle.tp_record.specs.Left.{left, mark, MayAll, MayRelease}
use Rattle.tp_record.specs.State.{State, state, task_at}
use Rattle.tp_record.specs.Step.{Legal}
use Rattle.tp_laws.proofs.Left.LeftOut.{may_more, left_length}
use Rattle.tp_laws.proofs.Left.Marks.{known_marked, may_marked, may_unmarked, row_marked}
use Rattle.tp_tasks.specs.Tasks.{row_of, AreReleased}
use Rattle.tp_laws.specs.View.{View, view}
use Rattle.tp_machine_state.specs.declared.parts.Parts.{Parts}
use Rattle.tp_machine_state.specs.Releases.{OwesNothing, IsKept}
use Rattle.tp_machine_state.specs.Shows.{Views, Shows}
use Rattle.tp_machine_state.specs.Tied.{IsTied}
use Rattle.tp_machine_state.specs.Terms.{terms}
use Rattle.tp_machine_state.proofs.Forgetting.{may_here}
use Rattle.tp_machine_state.proofs.Reading.{row_shown}
use Rattle.tp_machine.specs.Readings.{EachState}
use Rattle.tp_machine.specs.Seen.{Seen, At, IsSound, config_of}
use Rattle.tp_machine.proofs.Released.{marked, stands_at}

-- a task that is kept where tasks are marked is so in what is left
pub kept_left : (c : Config) (h : List Entry) (rs : List ℕ) (t : ℕ) (e : PoolError) → IsKept (mark rs (state c h)) t e → IsKept (left rs (state c h)) t e
kept_left c h rs t e (inl unknown) = inl (unknown.0, known_marked c h rs t ∙ unknown.1)
kept_left c h rs t e (inr there) = inr (there.0, known_marked c h rs t ∙ there.1, λ may. there.2 (may_unmarked c h rs t may))

-- a task that is kept may not be released
pub not_kept : (s : State) (t : ℕ) (e : PoolError) → IsKept s t e → MayRelease s t → ⊥
not_kept s t e (inl unknown) may = true≢false (sym may.known ∙ unknown.1)
not_kept s t e (inr there) may = there.2 may

pub kept_at : {P R : Type 0} (tells : R → List Entry → List ℕ → Type 0) (p : Parts P) (noted : R) (m : Seen P R) (t : ℕ) (e : PoolError) → record { parts = p; noted = noted } ≡ m →
    ((h : List Entry) (rs : List ℕ) → At tells (record { parts = p; noted = noted }) h rs → IsKept (mark rs (state (terms p) h)) t e) → EachState tells m (λ s. IsKept s t e)
kept_at tells p noted m t e is kept = subst (λ x. EachState tells x (λ s. IsKept s t e)) is (λ h rs at. kept_left (terms p) h rs t e (kept h rs at))

module _ {P R : Type 0} (tells : R → List Entry → List ℕ → Type 0) (p : Parts P) (noted : R) (m : Seen P R) (is : record { parts = p; noted = noted } ≡ m) (t : ℕ) (r : TaskRow) (row : row_of p.tasks t ≡ Some r) where
  -- the row of a task that is kept is that of what is left
  pub row_at : (h : List Entry) (rs : List ℕ) → At tells m h rs → task_at (left rs (state (config_of m) h)) t ≡ r
  row_at = subst (λ (x : Seen P R). (h : List Entry) (rs : List ℕ) → At tells x h rs → task_at (left rs (state (config_of x) h)) t ≡ r) is (λ h rs at.
      let shown = row_shown p (mark rs (state (terms p) h)) (marked tells (record { parts = p; noted = noted }) h rs at) t r row in
      row_marked (terms p) h rs t shown.0 ∙ shown.1)

module _ {P R : Type 0} (tells : R → List Entry → List ℕ → Type 0) (places : R → ℕ) (p new : Parts P) (noted : R) (t : TaskId) (r : TaskRow) (row : row_of p.tasks t.0 ≡ Some r) (owes : OwesNothing p.tasks t.0 r)
    (rest : new ≡ record p { tasks = new.tasks }) (views : (v : View) → Views p v → Views new (record v { left_out = t.0 ∷ v.left_out }))
    (tied : (c : Config) (n : ℕ) → IsTied c n p → IsTied c n new)
    (free : (h : List Entry) (rs : List ℕ) → tells noted h rs → tells noted h (t.0 ∷ rs)) where
  abbrev before : Seen P R
  before = record { parts = p; noted = noted }

  abbrev after : Seen P R
  after = record { parts = new; noted = noted }

  config : (terms new) ≡ (terms p)
  config = ap terms rest

  steps : new.steps ≡ p.steps
  steps = ap (λ x. x.steps) rest

  may : (h : List Entry) (rs : List ℕ) → At tells before h rs → MayRelease (left rs (state (terms p) h)) t.0
  may h rs at = may_marked (terms p) h rs t.0 (may_here p h rs at.legal (marked tells before h rs at) t.0 r row owes)

  shows : (h : List Entry) (rs : List ℕ) → At tells before h rs → Shows new (mark (t.0 ∷ rs) (state (terms p) h))
  shows h rs at =
      let shown = marked tells before h rs at in
      record {
        entries = shown.entries ∙ sym steps;
        seen = views (view (mark rs (state (terms p) h))) shown.seen;
        taken = shown.taken ∙ sym (ap (λ x. count_by is_some x.slots.slots) rest);
        live = shown.live ∙ sym (ap (λ x. count_by is_live x.slots.slots) rest);
        owed = shown.owed ∙ sym (ap (λ x. x.due) rest);
      }

  stands : (h : List Entry) (rs : List ℕ) → At tells before h rs → At tells after h (t.0 ∷ rs)
  stands h rs at =
      stands_at tells after h (t.0 ∷ rs) (free h rs at.told)
      (subst (λ c. Legal c h) (sym config) at.legal)
      (subst (λ c. MayAll (t.0 ∷ rs) (state c h)) (sym config) (may_more rs (state (terms p) h) t.0 at.may (may h rs at)))
      (subst (λ c. Shows new (mark (t.0 ∷ rs) (state c h))) (sym config) (shows h rs at))

  pub released : (m : Seen P R) → before ≡ m → (h : List Entry) (rs : List ℕ) → At tells m h rs → MayRelease (left rs (state (config_of m) h)) t.0 × At tells after h (t.0 ∷ rs)
  released m is = subst (λ (x : Seen P R). (h : List Entry) (rs : List ℕ) → At tells x h rs → MayRelease (left rs (state (config_of x) h)) t.0 × At tells after h (t.0 ∷ rs)) is (λ h rs at. (may h rs at, stands h rs at))

  pub released_sound : IsSound tells places before → IsSound tells places after
  released_sound sound =
      let s = sound.stands in
      let x = stands s.history s.released (stands_at tells before s.history s.released sound.told s.legal s.may s.shows) in
      let room = sound.room in
      let c = ap (λ k. k.record_limit) config in
      record {
        stands = record {
          history = s.history;
          released = t.0 ∷ s.released;
          legal = x.legal;
          may = x.may;
          shows = marked tells after s.history (t.0 ∷ s.released) x;
          tied = subst (λ k. IsTied k new.steps new) (sym config) (subst (λ k. IsTied (terms p) k new) (sym steps) (tied _ _ s.tied));
        };
        told = x.told;
        room = omega (arith, room, c, steps);
      }

-- the tasks that are left out are those that are not kept
module _ {P : Type 0} (p : Parts P) (h : List Entry) (rs : List ℕ) (may : MayAll rs (state (terms p) h)) (sh : Shows p (mark rs (state (terms p) h))) where
  pub are_released : AreReleased p.tasks rs
  are_released =
      let n = sh.seen.submitted in
      record {
        once = may.once;
        below = λ t among. let below = sh.seen.issued t among in omega (arith, below, n);
        kept = λ t less. by t (omega (arith, less, n)) (is_among t rs) refl;
      }
    where
      tasks : ℕ
      tasks = length (state (terms p) h).tasks

      by : (t : ℕ) → t < tasks → (b : Bool) → is_among t rs ≡ b → is_some (row_of p.tasks t) ≡ not (is_among t rs)
      by t less true among = ap is_some (sh.seen.unknown t (ap (λ b. not b && nat_lt t tasks) among)) ∙ sym (ap not among)
      by t less false off = ap is_some (sh.seen.rows t (ap₂ (λ a b. not a && b) off (lt-ltb t tasks less))) ∙ sym (ap not off)

-- so many are left out
left_counted : (rs : List ℕ) (s : State) → length (left rs s).left_out ≡ length rs + length s.left_out
left_counted [] s = omega arith
left_counted (t ∷ rs) s = let e = left_counted rs s in omega (arith, e)

pub kept_counted : {P R : Type 0} (tells : R → List Entry → List ℕ → Type 0) (p : Parts P) (noted : R) (m : Seen P R) → record { parts = p; noted = noted } ≡ m → (n : ℕ) →
    ((rs : List ℕ) → AreReleased p.tasks rs → n + length rs ≡ p.tasks.submitted) → EachState tells m (λ s. n + length s.left_out ≡ length s.tasks)
kept_counted tells p noted m is n counted = subst (λ x. EachState tells x (λ s. n + length s.left_out ≡ length s.tasks)) is (λ h rs at.
    let e = counted rs (are_released p h rs at.may (marked tells (record { parts = p; noted = noted }) h rs at)) in
    let tasks = left_length rs (state (terms p) h) in
    let out = left_counted rs (state (terms p) h) in
    let all = at.shows.seen.submitted in
    omega (arith, e, tasks, out, all))
