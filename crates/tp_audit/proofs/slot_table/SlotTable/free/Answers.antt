use Rattle.std.proofs.Common.{◌≡◌, ℕ, ◌∙◌, ◌-◌, cond, None, slice_set, refl, ap, arith}
use Rattle.std.specs.Prelude.{count_by, is_some}
use Rattle.tp_record.specs.Fields.{is_live}
use Rattle.tp_audit.specs.SlotTable.{is_at_take, slots_to}
use Rattle.tp_audit.proofs.Kept.{freed_within, freed_view, freed_count}
use Rattle.tp_audit.proofs.slot_table.SlotTable.free.Goals as goal

pub overflow_sub-self : goal.overflow_sub-self
overflow_sub-self c =
    let e = freed_count c.self.inside.greatest c.self.inside.rows c.args.w.0 c.self.invariant.0 c.swap_remove-old.new.self c.swap_remove-old.ensures.updates is_some refl in
    let was = c.taken_in.ensures ∙ ap (λ o. cond {A = ℕ} (is_some o) 1 0) c.swap_remove-old.ensures.value in
    omega (arith, e, was, c.self.invariant.1)

pub overflow_sub-self-2 : goal.overflow_sub-self-2
overflow_sub-self-2 c =
    let e = freed_count c.self.inside.greatest c.self.inside.rows c.args.w.0 c.self.invariant.0 c.swap_remove-old.new.self c.swap_remove-old.ensures.updates is_live refl in
    let was = c.live_in.ensures ∙ ap (λ o. cond {A = ℕ} (is_live o) 1 0) c.swap_remove-old.ensures.value in
    omega (arith, e, was, c.self.invariant.2)

pub overflow_sub-self-3 : goal.overflow_sub-self-3
overflow_sub-self-3 c =
    let e = freed_count c.self.inside.greatest c.self.inside.rows c.args.w.0 c.self.invariant.0 c.swap_remove-old.new.self c.swap_remove-old.ensures.updates is_at_take refl in
    let was = c.at_take_in.ensures ∙ ap (λ o. cond {A = ℕ} (is_at_take o) 1 0) c.swap_remove-old.ensures.value in
    omega (arith, e, was, c.self.invariant.3)

pub invariant_of-self : goal.invariant_of-self
invariant_of-self c =
    let rows = c.swap_remove-old.new.self in
    let to = c.swap_remove-old.ensures.updates in
    let was = c.swap_remove-old.ensures.value in
    let inv = c.self.invariant in
    let a = freed_count c.self.inside.greatest c.self.inside.rows c.args.w.0 inv.0 rows to is_some refl in
    let b = freed_count c.self.inside.greatest c.self.inside.rows c.args.w.0 inv.0 rows to is_live refl in
    let d = freed_count c.self.inside.greatest c.self.inside.rows c.args.w.0 inv.0 rows to is_at_take refl in
    let i = c.taken_in.ensures ∙ ap (λ o. cond {A = ℕ} (is_some o) 1 0) was in
    let j = c.live_in.ensures ∙ ap (λ o. cond {A = ℕ} (is_live o) 1 0) was in
    let k = c.at_take_in.ensures ∙ ap (λ o. cond {A = ℕ} (is_at_take o) 1 0) was in
    let taken : c.self.inside.taken - c.taken_in.result ≡ count_by is_some (slots_to c.self.inside.greatest rows) = omega (arith, a, i, inv.1) in
    let live : c.self.inside.live - c.live_in.result ≡ count_by is_live (slots_to c.self.inside.greatest rows) = omega (arith, b, j, inv.2) in
    let waiting : c.self.inside.at_take - c.at_take_in.result ≡ count_by is_at_take (slots_to c.self.inside.greatest rows) = omega (arith, d, k, inv.3) in
    (freed_within c.self.inside.greatest c.self.inside.rows c.args.w.0 inv.0 rows to, taken, live, waiting)

pub returns : goal.returns
returns c =
    freed_view c.self.inside.greatest c.self.inside.rows c.args.w.0 c.self.invariant.0 c.swap_remove-old.new.self c.swap_remove-old.ensures.updates
    ∙ ap (λ s. slice_set s c.args.w.0 None) c.self.view_is
