use Rattle.std.proofs.Common.{◌≡◌, ℕ, Bool, List, true, false, not, cond, length, drop, ◌^◌, ◌-◌, Option, Some, None, arith, refl, sym, ap, subst, ◌∙◌}
use Rattle.std.specs.Prelude.{filter}
use Rattle.std.proofs.lemmas.Bool.{eq-eqb}
use Rattle.tp_record.specs.Lists.{is_it, without, is_among, IsOnce}
use Rattle.tp_record.specs.State.{row_after, row_at, no_row}
use Rattle.tp_audit.specs.Changed.{leave_out}
use Rattle.tp_audit.specs.Orders.{next_of, from_on}
use Rattle.tp_audit.specs.Queued.{tasks_of}
use Rattle.tp_audit.proofs.Changing.{filter_among, filter_every}
use Rattle.tp_audit.proofs.Entries.{keeps_few, keeps_cancelled}
use Rattle.tp_audit.proofs.Ranking.{keeps_same, keeps_both}
use Rattle.tp_audit.proofs.Sweeping.{Swept, swept_start, swept_step, swept_end}
use Rattle.tp_audit.proofs.Walking.{head_is, from_head, rest_among, length-from, left_rest, left_once, left_there, left_kept, left_past}
use Rattle.tp_audit.proofs.wide.purge.Goals as goal

pub loop-next-init : goal.loop-next-init
loop-next-init c =
    let d = c.args.did in
    let rows = c.args.tasks.now.items in
    let q = tasks_of c.args.queue.now in
    let all : from_on c.first-next.result q ≡ q = ap (λ o. from_on o q) c.first-next.ensures ∙ from_head q in
    record {
      number = c.requires.number;
      few = c.requires.few;
      cancelled = λ t. refl;
      swept = subst (λ xs. Swept (row_after d) no_row rows q xs rows) (sym all) (swept_start (row_after d) no_row rows q);
      once = c.requires.once;
      there = λ t is. head_is q t (sym (ap (λ o. is_it o t) c.first-next.ensures) ∙ is);
      kept = refl;
      keeps = keeps_same c.args.queue.now;
      past = λ t there out. absurd (differ (sym (ap (is_among t) all ∙ there) ∙ out));
    }
  where
    differ : true ≡ false → ⊥
    differ e = cc

-- the queue after a turn of the walk
turned : (keep keep' : ℕ → Bool) (w : ℕ) (q new : List ℕ) → keep' w ≡ keep w → new ≡ leave_out keep' (Some w) q → new ≡ leave_out keep (Some w) q
turned keep keep' w q new same is = is ∙ ap (λ b. cond b q (without w q)) same

pub loop-next-preserved : goal.loop-next-preserved
loop-next-preserved c =
    let d = c.args.did in
    let rows = c.args.tasks.now.items in
    let w = c.in-Some.t in
    let q = tasks_of c.loop-next.queue in
    let new = tasks_of c.leave_cancelled.new.queue in
    let inv = c.loop-next.invariant in
    let keep : ℕ → Bool = λ x. not (row_at rows x).cancelled in
    let there : is_among w q ≡ true = inv.there w (ap (λ o. is_it o w) c.in-Some.is ∙ eq-eqb w w refl) in
    let left = turned keep (λ x. not (row_at c.loop-next.tasks.items x).cancelled) w q new (ap not (inv.cancelled w)) c.leave_cancelled.ensures.tasks in
    let rest : from_on c.next_after-next.result new ≡ drop 1 (from_on (Some w) q) =
    ap (λ o. from_on o new) c.next_after-next.ensures ∙ ap (from_on (next_of w q)) left ∙ left_rest keep w q inv.once there in
    let number = c.change_row.ensures.number in
    let before = inv.number in
    let step = swept_step (row_after d) no_row c.requires.none rows c.loop-next.tasks.items (tasks_of c.args.queue.now) (from_on (Some w) q) (from_on c.next_after-next.result new) w
    (rest_among w q inv.once there w).0 (λ x. ap (is_among x) rest ∙ (rest_among w q inv.once there x).1)
    (subst (λ o. Swept (row_after d) no_row rows (tasks_of c.args.queue.now) (from_on o q) c.loop-next.tasks.items) c.in-Some.is inv.swept) in
    record {
      number = omega (arith, number, before);
      few = λ u. rw c.change_row.ensures.row (keeps_few d c.loop-next.tasks.items w (2 ^ 32 - 1) c.requires.tries inv.few u);
      cancelled = λ u. ap (λ xs. (row_at xs u).cancelled) c.change_row.ensures.row ∙ keeps_cancelled d c.loop-next.tasks.items w c.requires.cancels u ∙ inv.cancelled u;
      swept = rw c.change_row.ensures.row step;
      once = subst IsOnce (sym left) (left_once keep w q inv.once there);
      there = λ x is. ap (is_among x) left ∙ left_there keep w q inv.once there x (sym (ap (λ o. is_it o x) c.next_after-next.ensures) ∙ is);
      kept = ap (filter keep) left ∙ left_kept keep w q inv.once there ∙ inv.kept;
      past = λ x among out. left_past keep w q inv.once there
          (subst (λ o. (y : ℕ) → is_among y q ≡ true → is_among y (from_on o q) ≡ false → keep y ≡ true) c.in-Some.is inv.past)
          x (sym (ap (is_among x) left) ∙ among) (sym (ap (is_among x) rest) ∙ out);
      keeps = keeps_both c.args.queue.now c.loop-next.queue c.leave_cancelled.new.queue inv.keeps c.leave_cancelled.ensures.kept;
    }

pub loop-next-smaller : goal.loop-next-smaller
loop-next-smaller c =
    let w = c.in-Some.t in
    let q = tasks_of c.loop-next.queue in
    let new = tasks_of c.leave_cancelled.new.queue in
    let inv = c.loop-next.invariant in
    let keep : ℕ → Bool = λ x. not (row_at c.args.tasks.now.items x).cancelled in
    let there : is_among w q ≡ true = inv.there w (ap (λ o. is_it o w) c.in-Some.is ∙ eq-eqb w w refl) in
    let left = turned keep (λ x. not (row_at c.loop-next.tasks.items x).cancelled) w q new (ap not (inv.cancelled w)) c.leave_cancelled.ensures.tasks in
    let rest : from_on c.next_after-next.result new ≡ drop 1 (from_on (Some w) q) =
    ap (λ o. from_on o new) c.next_after-next.ensures ∙ ap (from_on (next_of w q)) left ∙ left_rest keep w q inv.once there in
    let less = length-from w q there in
    let a : length (from_on c.next_after-next.result new) ≡ length (drop 1 (from_on (Some w) q)) = ap (λ xs. length xs) rest in
    let b : length (from_on c.loop-next.next q) ≡ length (from_on (Some w) q) = ap (λ o. length (from_on o q)) c.in-Some.is in
    omega (arith, less, a, b)

-- the walk is over
over : (o : Option ℕ) → ((t : ℕ) → o ≡ Some t → ⊥) → o ≡ None
over None none = refl
over (Some t) none = absurd (none t refl)

pub returns-clause-tasks : goal.returns-clause-tasks
returns-clause-tasks c =
    let d = c.args.did in
    swept_end (row_after d) no_row c.requires.none c.args.tasks.now.items c.loop-next.tasks.items (tasks_of c.args.queue.now) c.requires.others
    (subst (λ o. Swept (row_after d) no_row c.args.tasks.now.items (tasks_of c.args.queue.now) (from_on o (tasks_of c.loop-next.queue)) c.loop-next.tasks.items) c.in_default.is c.loop-next.invariant.swept)

pub returns-clause-queue : goal.returns-clause-queue
returns-clause-queue c =
    let q = tasks_of c.loop-next.queue in
    let keep : ℕ → Bool = λ x. not (row_at c.args.tasks.now.items x).cancelled in
    let past = subst (λ o. (y : ℕ) → is_among y q ≡ true → is_among y (from_on o q) ≡ false → keep y ≡ true) c.in_default.is c.loop-next.invariant.past in
    sym (filter_among keep (λ x. true) q (λ x there. past x there refl) ∙ filter_every (λ x. true) q (λ x. refl))
    ∙ c.loop-next.invariant.kept
