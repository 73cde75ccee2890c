-- The structures of a pool without tasks show the state of the empty history, and are tied.
use Rattle.std.proofs.Common.{◌≡◌, ℕ, ◌<◌, ◌≤◌, ◌^◌, Bool, true, false, cond, List, [], refl, arith, sym, ap, subst, ◌∙◌}
use Rattle.std.specs.Prelude.{is_some, count_by}
use Rattle.std.proofs.lemmas.Bool.{ltb-true, false≢true}
use Rattle.std.specs.List.{Contains}
use Rattle.tp_types.specs.Config.{IsConfig}
use Rattle.tp_types.specs.declared.configs.Config.{Config}
use Rattle.tp_types.specs.declared.states.RunState.TheVariants.{Running}
use Rattle.tp_types.specs.Queues.{is_ranked}
use Rattle.tp_record.specs.Fields.{is_live}
use Rattle.tp_record.specs.State.{slot_at}
use Rattle.tp_queue.specs.declared.queues.Queue.{Queue}
use Rattle.tp_queue.specs.Queues.{waiting_of}
use Rattle.tp_queue.specs.Waiting.{first_waiting}
use Rattle.tp_slots.specs.Table.{Table}
use Rattle.tp_tasks.specs.declared.tasks.Tasks.{Tasks}
use Rattle.tp_tasks.specs.Table.{row_of_task, promise_of_task, payload_of_task}
use Rattle.tp_tasks.specs.Tasks.{HasNone}
use Rattle.tp_machine_state.specs.declared.parts.Parts.{Parts}
use Rattle.tp_machine_state.proofs.Keeping.{most_none}
use Rattle.tp_machine_state.specs.Shows.{numbers}
use Rattle.tp_machine_state.specs.Tied.{IsNew, waits, KeepsPromise}

-- an empty line, whether it goes by priority or not
empty_line : (b : Bool) → ◌≡◌ {A = List ℕ} (cond b [] []) []
empty_line true = refl
empty_line false = refl

module _ {P : Type 0} where
  abbrev pub first_parts : Config → ℕ → Tasks P → Queue → Table → Parts P
  first_parts c limit tasks queue slots =
      record {
        config = c;
        limit = limit;
        steps = 0;
        tasks = tasks;
        queue = queue;
        slots = slots;
        state = Running;
        core = c.core;
        maximum = c.maximum;
        keep = c.keep;
        core_timeout = c.core_timeout;
        moment = 0;
        completions = 0;
        largest = 0;
        due = 4;
      }

  pub new_parts : (c : Config) (limit : ℕ) (room : ℕ) (tasks : Tasks P) (queue : Queue) (slots : Table) → IsConfig c → (c.record_limit ≤ limit) × (limit < 2 ^ 64) → waiting_of queue ≡ first_waiting room c.queue →
      slots.slots ≡ [] → slots.idling ≡ [] → slots.places ≡ c.maximum → slots.idlings ≡ 0 →
      HasNone tasks → IsNew (record c { record_limit = limit }) (first_parts c limit tasks queue slots)
  new_parts c limit room tasks queue slots config within first none unordered places idled nothing =
      record {
        shows = record {
          entries = refl;
          seen = record {
            rank = refl;
            core_size = refl;
            maximum_size = refl;
            keep_alive = refl;
            times_out = refl;
            present = refl;
            submitted = sym nothing.submitted;
            rows = λ t known. absurd (let below : t < 0 = ltb-true t 0 known in let n : ⊥ = omega (arith, below) in n);
            unknown = λ t off. ap row_of_task (nothing.tasks t);
            issued = λ t is. absurd (false≢true is);
            fates = λ f. sym (nothing.fates f);
            queued = empty_line (is_ranked c.queue) ∙ sym (ap (λ w. numbers w.items) first);
            seats = λ w. ap (λ xs. slot_at xs w) (sym none);
            order = sym unordered;
            done = λ g. sym (nothing.done g);
            completed = refl;
            most = refl;
          };
          taken = ap (count_by is_some) (sym none);
          live = ap (count_by is_live) (sym none);
          owed = refl;
        };
        tied = record {
          made_with = refl;
          config = config;
          limit = within;
          least = config.least_maximum;
          sizes = config.greatest_core;
          places = omega (arith, places);
          kind = ap (λ w. w.kind) first;
          queue_places = λ is. most_none tasks _ (λ t. ap row_of_task (nothing.tasks t));
          offers = let n = ap (λ w. w.offers) first in omega (arith, n);
          idlings = omega (arith, idled);
          keyed = λ t k has. let no = subst (λ xs. Contains xs (t, k)) (ap (λ w. w.items) first) has in let below = no.1 in absurd (let n : ⊥ = omega (arith, below) in n);
          payloads = λ t. ap (λ k. is_some (payload_of_task k)) (nothing.tasks t) ∙ ap (λ k. waits (row_of_task k)) (sym (nothing.tasks t));
          promises = λ t. subst (λ k. KeepsPromise (promise_of_task k) (row_of_task k)) (sym (nothing.tasks t)) tt;
        };
        payloads = λ t. ap payload_of_task (nothing.tasks t);
        promises = λ t. ap promise_of_task (nothing.tasks t);
      }
