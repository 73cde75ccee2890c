use Rattle.std.proofs.Common.{◌≡◌, ℕ, ◌+◌, Bool, true, cond, length, drop, Some, refl, arith, sym, ap, subst, ◌∙◌}
use Rattle.std.specs.Prelude.{count_by}
use Rattle.std.proofs.lemmas.Bool.{eq-eqb}
use Rattle.std.proofs.lemmas.List.Sums.{count_by-le-length, sum_by-cons}
use Rattle.tp_record.specs.Lists.{is_it, is_among}
use Rattle.tp_record.specs.State.{row_at}
use Rattle.tp_audit.specs.Orders.{from_on}
use Rattle.tp_audit.specs.Queued.{tasks_of}
use Rattle.tp_audit.proofs.Walking.{head_is, from_head, from_next, from_cons, length-from, counted_next, next_among}
use Rattle.tp_audit.proofs.walks.count_cancelled.Goals as goal

pub loop-next-init : goal.loop-next-init
loop-next-init c =
    let q = tasks_of c.args.queue.now in
    let p : ℕ → Bool = λ t. (row_at c.args.tasks.now.items t).cancelled in
    let all = ap (λ o. count_by p (from_on o q)) c.first-next.ensures ∙ ap (count_by p) (from_head q) in
    record {
      counted = omega (arith, all);
      there = λ t is. head_is q t (sym (ap (λ o. is_it o t) c.first-next.ensures) ∙ is);
    }

pub overflow_add-count : goal.overflow_add-count
overflow_add-count c =
    let q = tasks_of c.args.queue.now in
    let w = c.in-Some.t in
    let p : ℕ → Bool = λ t. (row_at c.args.tasks.now.items t).cancelled in
    let there : is_among w q ≡ true = c.loop-next.invariant.there w (ap (λ o. is_it o w) c.in-Some.is ∙ eq-eqb w w refl) in
    let before = subst (λ o. c.loop-next.count + count_by p (from_on o q) ≡ count_by p q) c.in-Some.is c.loop-next.invariant.counted in
    let here = ap (count_by p) (from_cons w q there) in
    let cons = sum_by-cons (λ x. cond (p x) 1 0) w (drop 1 (from_on (Some w) q)) in
    let most = count_by-le-length p q in
    omega (arith, before, here, cons, most, c.requires.few, c.cancelled_in-count.ensures)

pub loop-next-preserved : goal.loop-next-preserved
loop-next-preserved c =
    let q = tasks_of c.args.queue.now in
    let w = c.in-Some.t in
    let p : ℕ → Bool = λ t. (row_at c.args.tasks.now.items t).cancelled in
    let there : is_among w q ≡ true = c.loop-next.invariant.there w (ap (λ o. is_it o w) c.in-Some.is ∙ eq-eqb w w refl) in
    let before = subst (λ o. c.loop-next.count + count_by p (from_on o q) ≡ count_by p q) c.in-Some.is c.loop-next.invariant.counted in
    let more = c.loop-next.count + c.cancelled_in-count.result in
    record {
      counted =
          ap (λ o. more + count_by p (from_on o q)) c.next_after-next.ensures
          ∙ counted_next p w q c.loop-next.count more c.requires.once there (ap (λ n. c.loop-next.count + n) c.cancelled_in-count.ensures) before;
      there = λ x is. next_among w q x (sym (ap (λ o. is_it o x) c.next_after-next.ensures) ∙ is);
    }

pub loop-next-smaller : goal.loop-next-smaller
loop-next-smaller c =
    let q = tasks_of c.args.queue.now in
    let w = c.in-Some.t in
    let there : is_among w q ≡ true = c.loop-next.invariant.there w (ap (λ o. is_it o w) c.in-Some.is ∙ eq-eqb w w refl) in
    let less = length-from w q there in
    let a = ap (λ xs. length xs) (ap (λ o. from_on o q) c.next_after-next.ensures ∙ from_next w q c.requires.once) in
    let b = ap (λ o. length (from_on o q)) c.in-Some.is in
    omega (arith, less, a, b)
