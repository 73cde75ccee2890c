-- By how much what is owed falls at a shutdown and at a stop, read in the structures.
use Rattle.std.proofs.Common.{◌≡◌, ℕ, ◌+◌, ◌*◌, ◌-◌, length, arith, ap, sym, ◌∙◌}
use Rattle.std.specs.Prelude.{◌==◌, count_by, if◌then◌else◌}
use Rattle.std.proofs.lemmas.List.{length-map}
use Rattle.tp_record.specs.declared.entries.Did.TheVariants as did
use Rattle.tp_record.specs.Left.{mark}
use Rattle.tp_record.specs.State.{State, state}
use Rattle.tp_queue.specs.Queues.{waiting_of}
use Rattle.tp_slots.specs.Table.{is_at_take}
use Rattle.tp_laws.proofs.Effects.Controllers.Shutdown.{shutdown as shutdown_effect}
use Rattle.tp_laws.proofs.Effects.Controllers.Stop.{stop as stop_effect}
use Rattle.tp_machine_state.specs.declared.parts.Parts.{Parts}
use Rattle.tp_machine_state.specs.Owing.{owed_until}
use Rattle.tp_machine_state.specs.Shows.{Shows}
use Rattle.tp_machine_state.specs.Terms.{terms}
use Rattle.tp_machine_state.proofs.Answering.{Moves}
use Rattle.tp_machine_state.proofs.Falls.{owed_read, effect_by}

module _ {P : Type 0} (p : Parts P) where
  abbrev pub shutdown_moves : (n : ℕ) → n ≡ owed_until p 1 → Moves p n 0 did.Shutdown
  shutdown_moves n is = λ h rs legal sh given. (_, effect_by (state (terms p) h) did.Shutdown _ _ n 0 (owed_read p (mark rs (state (terms p) h)) 1 sh ∙ sym is) (shutdown_effect (terms p) h legal given))

  abbrev pub fall_of : ℕ → ℕ
  fall_of n = 6 * n + owed_until p 2

  pub stop_read : (n fall : ℕ) → fall ≡ fall_of n → (s : State) → Shows p s → 6 * n + (if s.rank == 0 then count_by is_at_take s.slots else 0) + (2 - s.rank) ≡ fall
  stop_read n fall is s sh = let e = owed_read p s 2 sh in omega (arith, e, is)

  pub stop_moves : (n fall : ℕ) → fall ≡ fall_of n → Moves p fall 0 (did.Stop n)
  stop_moves n fall is = λ h rs legal sh given. (_, effect_by (state (terms p) h) (did.Stop n) _ _ fall 0 (stop_read n fall is (mark rs (state (terms p) h)) sh) (stop_effect (terms p) h n legal given))

  -- as many tasks are queued
  pub queued_read : (s : State) → Shows p s → length s.queue ≡ length (waiting_of p.queue).items
  queued_read s sh = ap length sh.seen.queued ∙ length-map (waiting_of p.queue).items (λ x. x.0.0)
