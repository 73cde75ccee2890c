-- A worker leaves after a fault.
use Rattle.std.proofs.Common.{◌≡◌, ℕ, ◌+◌, ◌-◌, false, List, ◌∷◌, Option, Some, None, refl, arith, sym, ap, ◌∙◌, ◌⊎◌, inl, inr}
use Rattle.std.specs.Prelude.{◌==◌, count_by, if◌then◌else◌}
use Rattle.std.proofs.lemmas.Bool.{eq-eqb, ne_eqb}
use Rattle.std.proofs.lemmas.Bool.Decides.{nat_tests}
use Rattle.tp_types.specs.declared.configs.Config.{Config}
use Rattle.tp_types.specs.declared.ids.SlotId.{SlotId}
use Rattle.tp_record.specs.declared.entries.Entry.{Entry}
use Rattle.tp_record.specs.declared.entries.Did.TheVariants as did
use Rattle.tp_record.specs.Lists.{is_it}
use Rattle.tp_record.specs.Fields.{slot_row, is_idle, is_idle_row, is_live}
use Rattle.tp_record.specs.State.{state, slot_at}
use Rattle.tp_record.specs.Step.{Legal, slot_count}
use Rattle.tp_laws.proofs.Model.Given.{Given}
use Rattle.tp_laws.specs.View.{view, Effect, put}
use Rattle.tp_laws.proofs.Effects.Rows.{bare, dying}
use Rattle.tp_laws.proofs.Effects.Next.{entry, said_of_slot}
use Rattle.tp_laws.proofs.Effects.Sums.{named_due}
use Rattle.tp_laws.proofs.Effects.Lists.{only, nothing, queue_same, idling_same}
use Rattle.tp_laws.proofs.Effects.Done.{done_same}
use Rattle.tp_laws.proofs.Effects.Shapes.{reads_by, owes_by, tasks_kept, slot_turned, slots_moved}

leave_alone_falls : (c : Config) (h : List Entry) (w : SlotId) → Given c h (did.Leave w None) → named_due h (did.Leave w None) h + 0 ≡ named_due h (did.Leave w None) (entry (did.Leave w None) ∷ h) + 4
leave_alone_falls c h w given = grind (arith, nat_tests)

-- a worker leaves after a fault, and no slot is reserved in its place
pub leave_alone : (c : Config) (h : List Entry) (w : SlotId) → Legal c h → Given c h (did.Leave w None) →
    Effect (state c h) (did.Leave w None)
    (record (view (state c h)) {
      slots = put w.0 None (slot_at (state c h).slots);
      taken = slot_count (state c h) - 1;
      live = count_by is_live (state c h).slots - 1;
    }) 4 0
leave_alone c h w legal given =
    let d = did.Leave w None in
    record {
      reads = reads_by (state c h) d refl
          (tasks_kept c h d legal given refl refl refl refl refl)
          (queue_same c h d refl refl refl (λ u named. nothing u named))
          (slot_turned c h d legal given refl w.0 refl refl (slot_count (state c h) - 1) (count_by is_live (state c h).slots - 1) (state c h).largest (state c h).idling (Some dying) None given.0 (rw (eq-eqb w.0 w.0 refl) refl) (λ e. omega arith) (λ e. omega arith) (λ m. omega arith) (idling_same c h d refl refl (only (is_idle h) w.0 false (ap is_idle_row given.0)) (λ v named. nothing v named)))
          (done_same c h d legal given refl) refl;
      owes = owes_by c h d legal given refl 4 0 (leave_alone_falls c h w given);
    }

leave_replaced_falls : (c : Config) (h : List Entry) (v w : SlotId) → Given c h (did.Leave v (Some w)) → (w.0 ≡ v.0 → ⊥) → slot_row h w.0 ≡ None →
    named_due h (did.Leave v (Some w)) h + 0 ≡ named_due h (did.Leave v (Some w)) (entry (did.Leave v (Some w)) ∷ h) + 1
leave_replaced_falls c h v w given apart free = grind (arith, nat_tests)

number_free : (c : Config) (h : List Entry) (v w : SlotId) → Given c h (did.Leave v (Some w)) → (w.0 ≡ v.0 → ⊥) → slot_row h w.0 ≡ None
number_free c h v w given apart = by_side given.3
  where
    by_side : (slot_row h w.0 ≡ None) ⊎ (w.0 ≡ v.0) → slot_row h w.0 ≡ None
    by_side (inl free) = free
    by_side (inr same) = absurd (apart same)

-- a worker leaves after a fault, and a bare slot of another number is reserved in its place
pub leave_replaced : (c : Config) (h : List Entry) (v w : SlotId) → Legal c h → Given c h (did.Leave v (Some w)) → (w.0 ≡ v.0 → ⊥) →
    Effect (state c h) (did.Leave v (Some w))
    (record (view (state c h)) {
      slots = put w.0 (Some bare) (put v.0 None (slot_at (state c h).slots));
      live = count_by is_live (state c h).slots - 1;
    }) 1 0
leave_replaced c h v w legal given apart =
    let d = did.Leave v (Some w) in
    let free = number_free c h v w given apart in
    let other : v.0 ≡ w.0 → ⊥ = λ e. apart (sym e) in
    record {
      reads = reads_by (state c h) d refl
          (tasks_kept c h d legal given refl refl refl refl refl)
          (queue_same c h d refl refl refl (λ u named. nothing u named))
          (slots_moved c h d legal given refl v.0 w.0 refl (rw (ne_eqb w.0 v.0 apart) refl) dying bare given.0 free refl refl
          (said_of_slot c h d legal given v.0 (Some dying) None given.0 (rw (ne_eqb v.0 w.0 other, eq-eqb v.0 v.0 refl) refl))
          (said_of_slot c h d legal given w.0 None (Some bare) free (rw (eq-eqb w.0 w.0 refl) refl))
          (ap is_idle_row given.0) refl)
          (done_same c h d legal given refl) refl;
      owes = owes_by c h d legal given refl 1 0 (leave_replaced_falls c h v w given apart free);
    }

leave_renewed_falls : (c : Config) (h : List Entry) (w : SlotId) → Given c h (did.Leave w (Some w)) → named_due h (did.Leave w (Some w)) h + 0 ≡ named_due h (did.Leave w (Some w)) (entry (did.Leave w (Some w)) ∷ h) + 1
leave_renewed_falls c h w given = grind (arith, nat_tests)

-- a worker leaves after a fault, and its own number is reserved in its place
pub leave_renewed : (c : Config) (h : List Entry) (w : SlotId) → Legal c h → Given c h (did.Leave w (Some w)) →
    Effect (state c h) (did.Leave w (Some w))
    (record (view (state c h)) {
      slots = put w.0 (Some bare) (slot_at (state c h).slots);
      live = count_by is_live (state c h).slots - 1;
    }) 1 0
leave_renewed c h w legal given =
    let d = did.Leave w (Some w) in
    let own : ◌≡◌ {A = Option ℕ} (if w.0 == w.0 then None else Some w.0) None = rw (eq-eqb w.0 w.0 refl) refl in
    record {
      reads = reads_by (state c h) d refl
          (tasks_kept c h d legal given refl refl refl refl refl)
          (queue_same c h d refl refl refl (λ u named. nothing u named))
          (slot_turned c h d legal given refl w.0 refl own (slot_count (state c h)) (count_by is_live (state c h).slots - 1) (state c h).largest (state c h).idling (Some dying) (Some bare) given.0 (rw (eq-eqb w.0 w.0 refl) refl)
          (λ e. omega arith) (λ e. omega arith) (λ m. omega arith)
          (idling_same c h d refl refl (only (is_idle h) w.0 false (ap is_idle_row given.0)) (λ x named. nothing x (ap (λ o. is_it o x) (sym own) ∙ named))))
          (done_same c h d legal given refl) refl;
      owes = owes_by c h d legal given refl 1 0 (leave_renewed_falls c h w given);
    }
