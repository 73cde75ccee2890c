use Rattle.std.proofs.Common.{◌≡◌, ℕ, suc, ◌+◌, ◌-◌, ◌<◌, ◌≤◌, arith, sym, ap, ◌∙◌}
use Rattle.std.specs.Prelude.{min, nat_le}
use Rattle.std.proofs.lemmas.Bool.Decides.{nat_tests}
use Rattle.tp_record.specs.State.{due, next}
use Rattle.tp_machine_state.proofs.Standing.{room_left}
use Rattle.tp_machine_state.proofs.parts.Parts.has_room.Goals as goal

pub overflow_sub-left : goal.overflow_sub-left
overflow_sub-left g c = let room = room_left c.args.self.now c.requires.stands in omega (arith, room)

pub overflow_sub-left-2 : goal.overflow_sub-left-2
overflow_sub-left-2 g c = let room = room_left c.args.self.now c.requires.stands in omega (arith, room)

-- what is owed after the entry, by what is owed before it
same_test : (steps now after limit fall rise : ℕ) → after + fall ≡ now + rise → steps + now ≤ limit → rise < 4294967296 →
    nat_le (rise + 1) (min (limit - steps - now + fall) 18446744073709551615) ≡ nat_le (suc steps + after) limit
same_test steps now after limit fall rise e room few = grind (arith, nat_tests)

pub returns : goal.returns
returns g c = λ s d v sh effect.
    let room = room_left c.args.self.now c.requires.stands in
    let p = c.args.self.now in
    let e = effect.owes in
    let o = sh.owed in
    let small = c.requires.few in
    ap (λ x. nat_le (c.args.rise + 1) x) c.saturating_add.ensures
    ∙ same_test p.steps p.due (due (next s d)) p.limit c.args.fall c.args.rise (omega (arith, e, o)) room small
    ∙ ap (λ x. nat_le (suc x + due (next s d)) p.limit) (sym sh.entries)
