use Rattle.std.proofs.Common.{◌≡◌, ◌∷◌, ◌++◌, take}
use Rattle.std.specs.Prelude.{filter, nat_le, nat_lt}
use Rattle.tp_record.specs.State.{row_at}
use Rattle.tp_rules.proofs.next.put_behind.Given as goal

abbrev pub invariant-loop-u : goal.invariant-loop-u
invariant-loop-u l = l.after.items ≡ filter (λ u. nat_le (row_at l.state.tasks.items u).priority l.number) (take l.u-index l.line)

abbrev pub invariant-loop-u-2 : goal.invariant-loop-u-2
invariant-loop-u-2 l =
    l.after.items
    ≡ filter (λ u. nat_le (row_at l.state.tasks.items u).priority l.number) l.line
    ++ l.t ∷ filter (λ u. nat_lt l.number (row_at l.state.tasks.items u).priority) (take l.u-index l.line)
