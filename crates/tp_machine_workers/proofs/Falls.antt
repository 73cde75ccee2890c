-- What an entry does to what is owed, in the words of the structures.
use Rattle.std.proofs.Common.{◌≡◌, ℕ, subst, sym, ap, ◌∙◌}
use Rattle.std.specs.Prelude.{◌==◌, if◌then◌else◌}
use Rattle.tp_types.specs.RunState.{state_rank}
use Rattle.tp_record.specs.declared.entries.Did.{Did}
use Rattle.tp_record.specs.State.{State}
use Rattle.tp_laws.specs.View.{View, Effect}
use Rattle.tp_machine_state.specs.declared.parts.Parts.{Parts}

module _ {P : Type 0} (p : Parts P) (s : State) (d : Did) (v : View) (rank : s.rank ≡ state_rank p.state) where
  -- n is what a worker that is about to take owes
  same_owed : (n : ℕ) → n ≡ (if state_rank p.state == 0 then 2 else 1) → (if s.rank == 0 then 2 else 1) ≡ n
  same_owed n is = ap (λ k. if k == 0 then 2 else 1) rank ∙ sym is

  -- what is owed falls by that
  pub falls_at_take : (n rise : ℕ) → n ≡ (if state_rank p.state == 0 then 2 else 1) → Effect s d v (if s.rank == 0 then 2 else 1) rise → Effect s d v n rise
  falls_at_take n rise is effect = subst (λ m. Effect s d v m rise) (same_owed n is) effect

  -- what is owed rises by that
  pub rises_at_take : (n fall : ℕ) → n ≡ (if state_rank p.state == 0 then 2 else 1) → Effect s d v fall (if s.rank == 0 then 2 else 1) → Effect s d v fall n
  rises_at_take n fall is effect = subst (λ m. Effect s d v fall m) (same_owed n is) effect
