use Rattle.std.proofs.Common.{◌≡◌, ℕ, ◌∙◌, ◌+◌, ◌-◌, ◌≤◌, Bool, true, false, cond, Some, None, slice_set, refl, sym, ap, arith}
use Rattle.std.specs.Prelude.{count_by, is_some}
use Rattle.tp_record.specs.Fields.{is_live}
use Rattle.tp_record.specs.Lists.{long_enough}
use Rattle.tp_record.specs.State.{slot_at}
use Rattle.tp_audit.specs.SlotTable.{is_at_take, slots_to}
use Rattle.tp_audit.proofs.Kept.{few, read, put_within, put_view, put_count}
use Rattle.tp_audit.proofs.slot_table.SlotTable.put.Goals as goal

at_most_one : (b : Bool) → cond b 1 0 ≤ 1
at_most_one true = omega arith
at_most_one false = omega arith

pub overflow_add-self-2 : goal.overflow_add-self-2
overflow_add-self-2 c =
    let l = few is_live refl (slots_to c.self.inside.greatest c.self.inside.rows) in
    let n = ap (count_by is_some) c.self.view_is in
    let one : c.live_in.result ≤ 1 = rw c.live_in.ensures (at_most_one (is_live (Some c.args.row))) in
    omega (arith, l, n, one, c.requires, c.self.invariant.2)

pub overflow_sub-self-2 : goal.overflow_sub-self-2
overflow_sub-self-2 c =
    let e = put_count c.self.inside.greatest c.self.inside.rows c.args.w.0 c.self.invariant.0 c.insert.new.self c.greater.result c.args.row c.greater.ensures c.in-Ok.ensures.updates is_live refl in
    let was = c.live_in-2.ensures ∙ ap (λ o. cond {A = ℕ} (is_live o) 1 0) c.in-Ok.ensures.old in
    omega (arith, e, was, c.live_in.ensures, c.self.invariant.2)

pub overflow_add-self-3 : goal.overflow_add-self-3
overflow_add-self-3 c =
    let l = few is_at_take refl (slots_to c.self.inside.greatest c.self.inside.rows) in
    let n = ap (count_by is_some) c.self.view_is in
    let one : c.at_take_in.result ≤ 1 = rw c.at_take_in.ensures (at_most_one (is_at_take (Some c.args.row))) in
    omega (arith, l, n, one, c.requires, c.self.invariant.3)

pub overflow_sub-self-3 : goal.overflow_sub-self-3
overflow_sub-self-3 c =
    let e = put_count c.self.inside.greatest c.self.inside.rows c.args.w.0 c.self.invariant.0 c.insert.new.self c.greater.result c.args.row c.greater.ensures c.in-Ok.ensures.updates is_at_take refl in
    let was = c.at_take_in-2.ensures ∙ ap (λ o. cond {A = ℕ} (is_at_take o) 1 0) c.in-Ok.ensures.old in
    omega (arith, e, was, c.at_take_in.ensures, c.self.invariant.3)

pub invariant_of-self-2 : goal.invariant_of-self-2
invariant_of-self-2 c =
    let rows = c.insert.new.self in
    let to = c.in-Ok.ensures.updates in
    let was = c.in-Ok.ensures.old in
    let inv = c.self.invariant in
    let a = put_count c.self.inside.greatest c.self.inside.rows c.args.w.0 inv.0 rows c.greater.result c.args.row c.greater.ensures to is_some refl in
    let b = put_count c.self.inside.greatest c.self.inside.rows c.args.w.0 inv.0 rows c.greater.result c.args.row c.greater.ensures to is_live refl in
    let d = put_count c.self.inside.greatest c.self.inside.rows c.args.w.0 inv.0 rows c.greater.result c.args.row c.greater.ensures to is_at_take refl in
    let i = c.taken_in.ensures ∙ ap (λ o. cond {A = ℕ} (is_some o) 1 0) was in
    let j = c.live_in-2.ensures ∙ ap (λ o. cond {A = ℕ} (is_live o) 1 0) was in
    let k = c.at_take_in-2.ensures ∙ ap (λ o. cond {A = ℕ} (is_at_take o) 1 0) was in
    let taken : c.self.inside.taken + 1 - c.taken_in.result ≡ count_by is_some (slots_to (Some c.greater.result) rows) = omega (arith, a, i, inv.1) in
    let live : c.self.inside.live + c.live_in.result - c.live_in-2.result ≡ count_by is_live (slots_to (Some c.greater.result) rows) = omega (arith, b, j, c.live_in.ensures, inv.2) in
    let waiting : c.self.inside.at_take + c.at_take_in.result - c.at_take_in-2.result ≡ count_by is_at_take (slots_to (Some c.greater.result) rows) = omega (arith, d, k, c.at_take_in.ensures, inv.3) in
    (put_within c.self.inside.greatest c.self.inside.rows c.args.w.0 inv.0 rows c.greater.result c.args.row c.greater.ensures to, taken, live, waiting)

pub returns-clause-put : goal.returns-clause-put
returns-clause-put c =
    put_view c.self.inside.greatest c.self.inside.rows c.args.w.0 c.self.invariant.0 c.insert.new.self c.greater.result c.args.row c.greater.ensures c.in-Ok.ensures.updates
    ∙ ap (λ s. slice_set (long_enough (Some c.args.w.0) None s) c.args.w.0 (Some c.args.row)) c.self.view_is

pub returns-in-Err-clause-new : goal.returns-in-Err-clause-new
returns-in-Err-clause-new c =
    sym (ap (λ s. slot_at s c.args.w.0) c.self.view_is)
    ∙ read c.self.inside.greatest c.self.inside.rows c.args.w.0 c.self.invariant.0
    ∙ c.in-Err.ensures.absent
