-- A payload for each task that waits, a promise for each that is known, and each outcome as promised: of the tasks that are left.
use Rattle.std.proofs.Common.{◌≡◌, ℕ, Bool, true, false, not, ◌||◌, ◌&&◌, List, [], ◌∷◌, length, Option, Some, None, is_some, arith, refl, sym, ap, subst, ◌∙◌, inl, inr}
use Rattle.std.specs.Prelude.{nat_lt, IfSome, IsSomeAnd}
use Rattle.std.proofs.lemmas.Bool.{cases_eq, cases_lt, lt-ltb, ne_eqb, true≢false}
use Rattle.std.proofs.lemmas.Option.{none-some, same_Some}
use Rattle.std.proofs.lemmas.List.{get_or_past, get_or-set_same, get_or-set_other, length-set}
use Rattle.tp_types.specs.Promise.{FitsPromise}
use Rattle.tp_record.specs.declared.entries.Entry.{Entry}
use Rattle.tp_record.specs.declared.rows.TaskRow.{TaskRow}
use Rattle.tp_record.specs.Lists.{is_among}
use Rattle.tp_record.specs.Left.{left}
use Rattle.tp_record.specs.State.{State, state, task_at, no_row}
use Rattle.tp_record.specs.Step.{is_known}
use Rattle.tp_laws.proofs.Left.LeftOut.{left_out_of}
use Rattle.tp_tasks.specs.declared.table.KeptTask.{KeptTask}
use Rattle.tp_tasks.specs.Table.{row_of_task, promise_of_task}
use Rattle.tp_tasks.specs.Tasks.{task_of, row_of, promise_of}
use Rattle.tp_machine_state.specs.declared.parts.Parts.{Parts}
use Rattle.tp_machine_state.specs.Shows.{Shows}
use Rattle.tp_machine_state.specs.Tied.{is_waiting, waits, KeepsPromise}
use Rattle.tp_machine_state.specs.Terms.{terms}
use Rattle.tp_machine.specs.Seen.{Seen, IsSound, payload, promise}
use Rattle.tp_machine.specs.Readings.{EachState, IsPromised}

-- a task that is left out has a blank row
blank_among : (rs : List ℕ) (s : State) (t : ℕ) → is_among t rs ≡ true → task_at (left rs s) t ≡ no_row
blank_among [] s t is = absurd (true≢false (sym is))
blank_among (u ∷ rs) s t is = elim (cases_eq t u) [
  | inl same ↦ ap (task_at (left (u ∷ rs) s)) same ∙ here u
  | inr apart ↦ get_or-set_other (left rs s).tasks u t no_row no_row apart ∙ blank_among rs s t (sym (ap (λ b. b || is_among t rs) (ne_eqb t u apart)) ∙ is)
]
  where
    here : (u : ℕ) → task_at (left (u ∷ rs) s) u ≡ no_row
    here u = elim (cases_lt u (length (left rs s).tasks)) [
      | inl below ↦ get_or-set_same (left rs s).tasks u no_row no_row below
      | inr past ↦ let n = length-set (left rs s).tasks u no_row in get_or_past (left (u ∷ rs) s).tasks u no_row (omega (arith, past, n))
    ]

-- so has one that is not known
blank_unknown : (s : State) (rs : List ℕ) → s.left_out ≡ [] → (t : ℕ) → is_known (left rs s) t ≡ false → task_at (left rs s) t ≡ no_row
blank_unknown s rs none t off = by (is_among t rs) refl
  where
    or_false : (b : Bool) → (b || false) ≡ b
    or_false true = refl
    or_false false = refl

    out : is_among t (left rs s).left_out ≡ is_among t rs
    out = left_out_of rs s t ∙ ap (λ xs. is_among t rs || is_among t xs) none ∙ or_false (is_among t rs)

    by : (b : Bool) → is_among t rs ≡ b → task_at (left rs s) t ≡ no_row
    by true among = blank_among rs s t among
    by false kept = elim (cases_lt t (length (left rs s).tasks)) [
      | inl below ↦ absurd (true≢false (sym (ap (λ b. not b && nat_lt t (length (left rs s).tasks)) (out ∙ kept) ∙ lt-ltb t (length (left rs s).tasks) below) ∙ off))
      | inr past ↦ get_or_past (left rs s).tasks t no_row past
    ]

module _ {P : Type 0} (p : Parts P) (s : State) (sh : Shows p s) (blank : (t : ℕ) → is_known s t ≡ false → task_at s t ≡ no_row) where
  waits_here : (t : ℕ) → waits (row_of p.tasks t) ≡ is_waiting (task_at s t)
  waits_here t = by (is_known s t) refl
    where
      by : (b : Bool) → is_known s t ≡ b → waits (row_of p.tasks t) ≡ is_waiting (task_at s t)
      by true known = ap waits (sh.seen.rows t known)
      by false off = ap waits (sh.seen.unknown t off) ∙ sym (ap is_waiting (blank t off))

  known_here : (t : ℕ) → is_some (row_of p.tasks t) ≡ is_known s t
  known_here t = by (is_known s t) refl
    where
      by : (b : Bool) → is_known s t ≡ b → is_some (row_of p.tasks t) ≡ is_known s t
      by true known = ap is_some (sh.seen.rows t known) ∙ sym known
      by false off = ap is_some (sh.seen.unknown t off) ∙ sym off

  keeps_here : (t : ℕ) → KeepsPromise (promise_of p.tasks t) (row_of p.tasks t) → IfSome (task_at s t).outcome (λ o. IsSomeAnd (promise_of p.tasks t) (λ x. FitsPromise x o))
  keeps_here t keeps = by (is_known s t) refl
    where
      Says : TaskRow → Type 0
      Says r = IfSome r.outcome (λ o. IsSomeAnd (promise_of p.tasks t) (λ x. FitsPromise x o))

      promised : (k : Option (KeptTask P)) (r : TaskRow) → row_of_task k ≡ Some r → KeepsPromise (promise_of_task k) (row_of_task k) → IfSome r.outcome (λ o. IsSomeAnd (promise_of_task k) (λ x. FitsPromise x o))
      promised None r is keeps = absurd (none-some r is)
      promised (Some k) r is keeps = subst (λ (y : TaskRow). IfSome y.outcome (FitsPromise k.promise)) (same_Some k.row r is) keeps

      by : (b : Bool) → is_known s t ≡ b → Says (task_at s t)
      by true known = promised (task_of p.tasks t) (task_at s t) (sh.seen.rows t known) keeps
      by false off = subst Says (sym (blank t off)) tt

module _ {P R : Type 0} (tells : R → List Entry → List ℕ → Type 0) (places : R → ℕ) (p : Parts P) (noted : R) (m : Seen P R) (is : record { parts = p; noted = noted } ≡ m)
    (sound : IsSound tells places (record { parts = p; noted = noted })) where
  abbrev this : Seen P R
  this = record { parts = p; noted = noted }

  blank_at : (h : List Entry) (rs : List ℕ) (t : ℕ) → is_known (left rs (state (terms p) h)) t ≡ false → task_at (left rs (state (terms p) h)) t ≡ no_row
  blank_at h rs = blank_unknown (state (terms p) h) rs refl

  pub payloads_wait : EachState tells m (λ s. (t : ℕ) → is_some (payload m t) ≡ is_waiting (task_at s t))
  payloads_wait = subst (λ (x : Seen P R). EachState tells x (λ s. (t : ℕ) → is_some (payload x t) ≡ is_waiting (task_at s t))) is
      (λ h rs at t. sound.stands.tied.payloads t ∙ waits_here p (left rs (state (terms p) h)) at.shows (blank_at h rs) t)

  pub promises_known : EachState tells m (λ s. (t : ℕ) → is_some (promise m t) ≡ is_known s t)
  promises_known = subst (λ (x : Seen P R). EachState tells x (λ s. (t : ℕ) → is_some (promise x t) ≡ is_known s t)) is
      (λ h rs at t. both (task_of p.tasks t) ∙ known_here p (left rs (state (terms p) h)) at.shows (blank_at h rs) t)
    where
      both : (k : Option (KeptTask P)) → is_some (promise_of_task k) ≡ is_some (row_of_task k)
      both None = refl
      both (Some k) = refl

  pub outcomes_promised : EachState tells m (λ s. (t : ℕ) → IfSome (task_at s t).outcome (λ o. IsPromised m t o))
  outcomes_promised = subst (λ (x : Seen P R). EachState tells x (λ s. (t : ℕ) → IfSome (task_at s t).outcome (λ o. IsPromised x t o))) is
      (λ h rs at t. keeps_here p (left rs (state (terms p) h)) at.shows (blank_at h rs) t (sound.stands.tied.promises t))
