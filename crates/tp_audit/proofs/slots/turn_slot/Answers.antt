use Rattle.std.proofs.Common.{◌≡◌, ◌∙◌, true, false, [], None, Result, Ok, Err, OnOk, OnErr, is_err, sym, ap}
use Rattle.std.proofs.lemmas.Bool.{false≢true}
use Rattle.tp_audit.specs.Changed.{change_at}
use Rattle.tp_record.specs.State.{slot_after}
use Rattle.tp_audit.specs.Readings.{read}
use Rattle.tp_audit.proofs.Entries.{was_slot, turned_there, put_few}
use Rattle.tp_audit.proofs.slots.turn_slot.Goals as goal

on_failure : {A E : Type 0} (r : Result A E) (P : Type 0) → true ≡ is_err r → OnErr r P → P
on_failure (Ok a) P err holds = absurd (false≢true (sym err))
on_failure (Err e) P err holds = holds

on_success : {A E : Type 0} (r : Result A E) (P : Type 0) → false ≡ is_err r → OnOk r P → P
on_success (Ok a) P none holds = holds
on_success (Err e) P none holds = absurd (false≢true none)

pub unreachable-requires : goal.unreachable-requires
unreachable-requires c =
    was_slot c.args.did (read c.args.moment c.args.tasks.now []) c.in-Some.w c.get.result c.slot_after.result c.in-Some-slot_after.row
    (c.requires.old c.in-Some.w c.in-Some.is) (c.slot_after.ensures []) c.in-Some-slot_after.is
    (c.get.ensures ∙ on_failure c.put.result _ c.if-is_err.ensures.value c.put.ensures.new)

pub returns-else-is_err-clause-turned : goal.returns-else-is_err-clause-turned
returns-else-is_err-clause-turned c =
    turned_there c.args.did (read c.args.moment c.args.tasks.now []) c.args.table.now c.put.new.self c.in-Some.w c.get.result c.slot_after.result c.in-Some-slot_after.row
    (c.requires.old c.in-Some.w c.in-Some.is) c.get.ensures (c.slot_after.ensures []) c.in-Some-slot_after.is
    (on_success c.put.result _ c.if-is_err.ensures.value c.put.ensures.put)
    ∙ ap (λ o. change_at (slot_after c.args.did (read c.args.moment c.args.tasks.now [])) None o c.args.table.now) (sym c.in-Some.is)

pub returns-else-is_err-clause-few : goal.returns-else-is_err-clause-few
returns-else-is_err-clause-few c =
    put_few c.args.table.now c.put.new.self c.in-Some.w c.get.result c.in-Some-slot_after.row c.get.ensures
    (was_slot c.args.did (read c.args.moment c.args.tasks.now []) c.in-Some.w c.get.result c.slot_after.result c.in-Some-slot_after.row
    (c.requires.old c.in-Some.w c.in-Some.is) (c.slot_after.ensures []) c.in-Some-slot_after.is)
    (on_success c.put.result _ c.if-is_err.ensures.value c.put.ensures.put)
