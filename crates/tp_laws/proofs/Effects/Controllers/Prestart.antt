-- A prestart.
use Rattle.std.proofs.Common.{◌≡◌, suc, ◌+◌, false, List, ◌∷◌, Some, None, refl, arith, ap}
use Rattle.std.specs.Prelude.{count_by}
use Rattle.std.proofs.lemmas.Bool.{eq-eqb}
use Rattle.std.proofs.lemmas.Bool.Decides.{nat_tests}
use Rattle.tp_types.specs.declared.configs.Config.{Config}
use Rattle.tp_types.specs.declared.ids.SlotId.{SlotId}
use Rattle.tp_record.specs.declared.entries.Entry.{Entry}
use Rattle.tp_record.specs.declared.entries.Did.TheVariants as did
use Rattle.tp_record.specs.Fields.{is_idle, is_idle_row, is_live}
use Rattle.tp_record.specs.State.{state, slot_at}
use Rattle.tp_record.specs.Step.{Legal, slot_count}
use Rattle.tp_laws.proofs.Model.Given.{Given}
use Rattle.tp_laws.specs.View.{view, Effect, put}
use Rattle.tp_laws.proofs.Effects.Rows.{bare}
use Rattle.tp_laws.proofs.Effects.Next.{entry}
use Rattle.tp_laws.proofs.Effects.Sums.{named_due}
use Rattle.tp_laws.proofs.Effects.Lists.{only, nothing, queue_still, idling_same}
use Rattle.tp_laws.proofs.Effects.Done.{done_same}
use Rattle.tp_laws.proofs.Effects.Shapes.{reads_by, owes_by, tasks_kept, slots_kept, slot_turned}

prestart_none_falls : (c : Config) (h : List Entry) → Given c h (did.Prestart None) → named_due h (did.Prestart None) h + 0 ≡ named_due h (did.Prestart None) (entry (did.Prestart None) ∷ h) + 0
prestart_none_falls c h given = grind (arith, nat_tests)

-- a prestart that reserves no slot
pub prestart_none : (c : Config) (h : List Entry) → Legal c h → Given c h (did.Prestart None) →
    Effect (state c h) (did.Prestart None)
    (view (state c h)) 0 0
prestart_none c h legal given =
    let d = did.Prestart None in
    record {
      reads = reads_by (state c h) d refl
          (tasks_kept c h d legal given refl refl refl refl refl)
          (queue_still c h d refl refl refl)
          (slots_kept c h d legal given refl refl refl refl)
          (done_same c h d legal given refl) refl;
      owes = owes_by c h d legal given refl 0 0 (prestart_none_falls c h given);
    }

prestart_falls : (c : Config) (h : List Entry) (w : SlotId) → Given c h (did.Prestart (Some w)) → named_due h (did.Prestart (Some w)) h + 3 ≡ named_due h (did.Prestart (Some w)) (entry (did.Prestart (Some w)) ∷ h) + 0
prestart_falls c h w given = grind (arith, nat_tests)

-- a prestart that reserves a bare slot
pub prestart : (c : Config) (h : List Entry) (w : SlotId) → Legal c h → Given c h (did.Prestart (Some w)) →
    Effect (state c h) (did.Prestart (Some w))
    (record (view (state c h)) {
      slots = put w.0 (Some bare) (slot_at (state c h).slots);
      taken = suc (slot_count (state c h));
    }) 0 3
prestart c h w legal given =
    let d = did.Prestart (Some w) in
    record {
      reads = reads_by (state c h) d refl
          (tasks_kept c h d legal given refl refl refl refl refl)
          (queue_still c h d refl refl refl)
          (slot_turned c h d legal given refl w.0 refl refl (suc (slot_count (state c h))) (count_by is_live (state c h).slots) (state c h).largest (state c h).idling None (Some bare) given.2 (rw (eq-eqb w.0 w.0 refl) refl) (λ e. omega arith) (λ e. omega arith) (λ m. omega arith) (idling_same c h d refl refl (only (is_idle h) w.0 false (ap is_idle_row given.2)) (λ v named. nothing v named)))
          (done_same c h d legal given refl) refl;
      owes = owes_by c h d legal given refl 0 3 (prestart_falls c h w given);
    }
