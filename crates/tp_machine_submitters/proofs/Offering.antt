-- A task that is to be offered is not in the queue, and a queue that always has room has a place for it.
use Rattle.std.proofs.Common.{◌≡◌, ℕ, ◌<◌, true, false, ◌∷◌, length, refl, arith, sym, ap, subst, ◌∙◌, inl, inr}
use Rattle.std.specs.Prelude.{nat_eq, is_some, IsTrue}
use Rattle.std.specs.List.{Contains}
use Rattle.std.proofs.lemmas.Bool.{eqb-true, or_cases}
use Rattle.std.proofs.lemmas.List.{length-map}
use Rattle.tp_types.specs.declared.ids.TaskId.{TaskId}
use Rattle.tp_types.specs.declared.configs.QueueKind.{QueueKind}
use Rattle.tp_types.specs.declared.configs.QueueKind.TheVariants.{Handoff, Unbounded, Bounded, Priority}
use Rattle.tp_types.specs.declared.tasks.Place.TheVariants as at
use Rattle.tp_types.specs.Queues.{is_open}
use Rattle.tp_record.specs.Lists.{is_among}
use Rattle.tp_record.specs.Fields.{queue, is_queued_place}
use Rattle.tp_queue.specs.Queues.{waiting_of}
use Rattle.tp_laws.proofs.Model.Given.{HasQueueRoom, IsAt}
use Rattle.tp_laws.proofs.Model.Places.{queue_at}
use Rattle.tp_laws.proofs.Model.Queues.{once-queue, among-queue, Contains-from_among}
use Rattle.tp_tasks.specs.Tasks.{row_of}
use Rattle.tp_machine_state.specs.declared.parts.Parts.{Parts}
use Rattle.tp_machine_state.specs.Offers.{RoomBy, HasRoom}
use Rattle.tp_machine_state.specs.Shows.{numbers}
use Rattle.tp_machine_state.specs.Steps.{Stands}
use Rattle.tp_machine_state.specs.Terms.{terms}
use Rattle.tp_machine_state.proofs.Standing.{task_here}

-- a queue takes a task more where its kind has room beside those that wait, and where one that always has room has a place
room_by : (q : QueueKind) (places n : ℕ) → HasQueueRoom q n → (IsTrue (is_open q) → n < places) → RoomBy q places n
room_by Handoff places n room left = absurd room
room_by Unbounded places n room left = left refl
room_by Priority places n room left = left refl
room_by (Bounded m) places n room left = room

module _ {P : Type 0} (p : Parts P) (stands : Stands p) (t : TaskId) (there : IsAt stands.history t.0 at.ToOffer) where
  not_queued : is_among t.0 (queue (terms p) stands.history) ≡ false
  not_queued = among-queue (terms p) stands.history t.0 ∙ ap is_queued_place there.1

  -- this one is kept, and so is each that is queued
  all_kept : (x : ℕ) → is_among x (t.0 ∷ queue (terms p) stands.history) ≡ true → is_some (row_of p.tasks x) ≡ true
  all_kept x is = elim (or_cases (nat_eq x t.0) (is_among x (queue (terms p) stands.history)) is) [
    | inl same ↦ ap (λ y. is_some (row_of p.tasks y)) (eqb-true x t.0 same) ∙ ap (λ o. is_some o) (task_here p stands t.0 at.ToOffer there refl).0
    | inr queued ↦
        let there = queue_at (terms p) stands.history stands.legal x (Contains-from_among (queue (terms p) stands.history) x queued) in
        ap (λ o. is_some o) (task_here p stands x at.Queued there refl).0
  ]

  pub absent_here : Contains (numbers (waiting_of p.queue).items) t.0 → ⊥
  absent_here has =
      let queued = queue_at (terms p) stands.history stands.legal t.0 (subst (λ xs. Contains xs t.0) (sym stands.shows.seen.queued) has) in
      let e : at.Queued ≡ at.ToOffer = sym queued.1 ∙ there.1 in
      absurd (let n : ⊥ = cc in n)

  pub room_here : HasQueueRoom p.config.queue (length (queue (terms p) stands.history)) → HasRoom (waiting_of p.queue)
  room_here room =
      let w = waiting_of p.queue in
      let tied = stands.tied in
      let same = ap length stands.shows.seen.queued ∙ length-map w.items (λ (x : TaskId × ℕ). x.0.0) in
      let by_kind = room_by p.config.queue w.capacity (length w.items) (subst (HasQueueRoom p.config.queue) same room) (λ roomy.
      let few = tied.queue_places roomy (t.0 ∷ queue (terms p) stands.history) (not_queued, once-queue (terms p) stands.history) all_kept in
      omega (arith, few, same)) in
      subst (λ q. RoomBy q w.capacity (length w.items)) (sym tied.kind) by_kind
