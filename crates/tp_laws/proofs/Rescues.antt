-- Tasks that are left to nobody get a worker.
use Rattle.std.proofs.Common.{◌≡◌, ℕ, ◌≤◌, true, List, [], ◌∷◌, length, refl, inl, inr, arith, sym, ◌∙◌}
use Rattle.std.specs.Prelude.{nat_lt, ◌==◌, ◌||◌, ◌&&◌, count_by}
use Rattle.std.proofs.lemmas.Bool.{false≢true, cases_lt}
use Rattle.std.proofs.lemmas.Bool.Decides.{nat_tests}
use Rattle.tp_types.specs.declared.configs.Config.{Config}
use Rattle.tp_record.specs.declared.entries.Entry.{Entry}
use Rattle.tp_record.specs.Lists.{count_from}
use Rattle.tp_record.specs.Fields.{rank, queue, is_slot, slot_bound}
use Rattle.tp_record.specs.State.{state}
use Rattle.tp_record.specs.Step.{slot_count}
use Rattle.tp_laws.proofs.Model.Given.{Told}
use Rattle.tp_laws.proofs.WordsTasks.{queued_agrees}
use Rattle.tp_laws.proofs.WordsSlots.{slot_agrees}
use Rattle.tp_laws.specs.Laws.{RescueServes}
use Rattle.tp_laws.proofs.Counting.{slots_counted_below}
use Rattle.tp_laws.proofs.Seconds.{none_queued}
use Rattle.tp_laws.proofs.Serves.{some_passes}

-- fewer slots than the core size, in a pool that is shut down with a task in its queue
wants : (slots core rank queued : ℕ) → slots ≡ 0 → 1 ≤ core → rank ≡ 1 → 1 ≤ queued → (nat_lt slots core && (rank == 0 || (rank == 1 && nat_lt 0 queued))) ≡ true
wants slots core rank queued none some shut waits = grind (arith, nat_tests)

some_queued : (c : Config) (h : List Entry) (t : ℕ) (ts : List ℕ) → queue c h ≡ ts → (queue c h ≡ [] → ⊥) → 1 ≤ length ts
some_queued c h t [] is not = absurd (not is)
some_queued c h t (u ∷ us) is not = omega arith

pub rescue_serves : (c : Config) (h : List Entry) → Told c h → RescueServes c h
rescue_serves c h told shut none t waits core w =
    let empty : slot_count (state c h) ≡ 0 = elim (cases_lt 0 (slot_count (state c h))) [
      | inl some ↦
          let count : slot_count (state c h) ≡ count_by (is_slot h) (count_from 0 (slot_bound h)) = slots_counted_below c h in
          let found = some_passes (is_slot h) 0 (slot_bound h) (omega arith) in
          absurd (false≢true (sym (none found.0) ∙ (slot_agrees h found.0 ∙ found.1)))
      | inr not ↦ omega arith
    ] in
    let queued : 1 ≤ length (queue c h) = some_queued c h t (queue c h) refl (λ is. false≢true (sym (none_queued c h is t) ∙ (sym (queued_agrees c h told t) ∙ waits))) in
    rw (wants (slot_count (state c h)) (state c h).core (rank h) (length (queue c h)) empty core shut queued) refl
