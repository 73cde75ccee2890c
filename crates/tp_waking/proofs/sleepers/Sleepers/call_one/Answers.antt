use Rattle.std.proofs.Common.{◌≡◌, ◌-◌, rules, length}
use Rattle.std.specs.Prelude.{Some, slice_get, true}
use Rattle.std.proofs.lemmas.Option.{get_or_from_slice_get, slice_get_within}
use Rattle.tp_waking.specs.Rests.{rest_at}
use Rattle.tp_waking.specs.declared.sleepers.Rest.TheVariants.{Listed}
use Rattle.tp_waking.proofs.Marks.{last-sleeps}
use Rattle.tp_waking.proofs.sleepers.Sleepers.call_one.Goals as goal

pub returns-clause-some : goal.returns-clause-some
returns-clause-some c =
    let listed = c.self.inside.listed.items in
    let w = c.in_ok-last.field-0.now in
    let found : slice_get listed (length listed - 1) ≡ Some w = search rules in
    let slept : rest_at c.args.self.now w ≡ Listed = rw (← c.self.view_is) (last-sleeps c.self.inside.states.items listed (length listed - 1) w c.self.invariant.tied (slice_get_within listed (length listed - 1) w found) (get_or_from_slice_get listed (length listed - 1) w 0 found)) in
    let called : c.call.result ≡ true = search rules in
    record { slept = slept; woken = search rules }
