-- What ties the structures together lasts where a completion is handed out.
use Rattle.std.proofs.Common.{◌≡◌, ℕ, sym, ap, subst, ◌∙◌}
use Rattle.std.specs.Prelude.{is_some}
use Rattle.tp_types.specs.declared.configs.Config.{Config}
use Rattle.tp_tasks.specs.declared.tasks.Tasks.{Tasks}
use Rattle.tp_queue.specs.Queues.{waiting_of}
use Rattle.tp_tasks.specs.Tasks.{row_of, promise_of, number_of, payload_of}
use Rattle.tp_machine_state.specs.declared.parts.Parts.{Parts}
use Rattle.tp_machine_state.specs.Tied.{IsTied, waits, priority_in, KeepsPromise}
use Rattle.tp_machine_state.proofs.Keeping.{most_fewer}
use Rattle.tp_machine_state.proofs.Ties.{keyed_row}

-- each task's row, promise, place number and payload as they were
pub tied_same : {P : Type 0} (c : Config) (n : ℕ) (old : Parts P) → IsTied c n old → (tasks : Tasks P) → ((t : ℕ) → row_of tasks t ≡ row_of old.tasks t) →
    ((t : ℕ) → promise_of tasks t ≡ promise_of old.tasks t) → ((t : ℕ) → number_of tasks t ≡ number_of old.tasks t) → ((t : ℕ) → payload_of tasks t ≡ payload_of old.tasks t) →
    IsTied c n (record old { tasks = tasks })
tied_same {P} c n old tied tasks rows promises numbers payloads =
    record {
      made_with = tied.made_with;
      config = tied.config;
      limit = tied.limit;
      least = tied.least;
      sizes = tied.sizes;
      places = tied.places;
      kind = tied.kind;
      queue_places = λ is. most_fewer old.tasks tasks _ (λ t there. ap (λ o. is_some o) (sym (rows t)) ∙ there) (tied.queue_places is);
      offers = tied.offers;
      idlings = tied.idlings;
      keyed = λ t k has. keyed_row (waiting_of old.queue) _ _ _ _ k (ap priority_in (rows t.0)) (numbers t.0) (tied.keyed t k has);
      payloads = λ t. ap is_some (payloads t) ∙ tied.payloads t ∙ ap waits (sym (rows t));
      promises = λ t. subst (λ p. KeepsPromise p (row_of tasks t)) (sym (promises t)) (subst (λ r. KeepsPromise (promise_of old.tasks t) r) (sym (rows t)) (tied.promises t));
    }
