-- By how much what is owed falls once the pool is shut down, read in the structures.
use Rattle.std.proofs.Common.{◌≡◌, ℕ, ◌+◌, ◌-◌, ◌≤◌, arith, cond, refl, subst, ap, ◌∙◌}
use Rattle.std.specs.Prelude.{◌==◌, count_by, if◌then◌else◌}
use Rattle.std.proofs.lemmas.Bool.Decides.{nat_tests}
use Rattle.tp_types.specs.RunState.{state_rank}
use Rattle.tp_record.specs.declared.entries.Did.{Did}
use Rattle.tp_record.specs.State.{State}
use Rattle.tp_slots.specs.Table.{is_at_take}
use Rattle.tp_machine_state.specs.declared.parts.Parts.{Parts}
use Rattle.tp_laws.specs.View.{View, Effect}
use Rattle.tp_machine_state.specs.Owing.{owed_until}
use Rattle.tp_machine_state.specs.Shows.{Shows}
use Rattle.tp_machine_state.proofs.Sums.{sums_agree}

-- as many workers are about to take
pub taking_read : {P : Type 0} (p : Parts P) (s : State) → Shows p s → count_by is_at_take s.slots ≡ count_by is_at_take p.slots.slots
taking_read p s sh = sums_agree (λ o. cond (is_at_take o) 1 0) s.slots p.slots.slots refl sh.seen.seats

-- so what is owed falls by as much until the rank n
pub owed_read : {P : Type 0} (p : Parts P) (s : State) (n : ℕ) → Shows p s →
    (if s.rank == 0 then count_by is_at_take s.slots else 0) + (n - s.rank) ≡ owed_until p n
owed_read p s n sh =
    ap (λ k. (if s.rank == 0 then k else 0) + (n - s.rank)) (taking_read p s sh)
    ∙ ap (λ r. (if r == 0 then count_by is_at_take p.slots.slots else 0) + (n - r)) sh.seen.rank

-- where the pool is shut down, no worker that is about to take owes less
alone : (n k r : ℕ) → 1 ≤ r → n - r ≡ (if r == 0 then k else 0) + (n - r)
alone n k r up = grind (arith, nat_tests)

-- so what is owed falls then until the rank n
pub owed_after : {P : Type 0} (p : Parts P) (s : State) (n : ℕ) → Shows p s → 1 ≤ s.rank →
    n - s.rank ≡ owed_until p n
owed_after p s n sh up = alone n (count_by is_at_take s.slots) s.rank up ∙ owed_read p s n sh

-- the same effect, by numbers that are the same
pub effect_by : (s : State) (d : Did) (v : View) (a b rise : ℕ) → a ≡ b → Effect s d v a rise → Effect s d v b rise
effect_by s d v a b rise same effect = subst (λ n. Effect s d v n rise) same effect
