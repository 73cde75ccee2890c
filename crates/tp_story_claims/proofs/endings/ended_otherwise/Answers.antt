use Rattle.std.proofs.Common.{◌≡◌, ◌+◌, ◌∙◌, suc, true, false, arith, ap, sym, subst}
use Rattle.std.proofs.lemmas.Bool.{true≢false}
use Rattle.tp_story_claims.specs.Endings.{AreOtherwise}
use Rattle.tp_story_claims.proofs.Ended.{otherwise_more, otherwise_same}
use Rattle.tp_story_claims.proofs.endings.ended_otherwise.Goals.{then-not-is_same+in_ok-push, else-not-is_same}
use Rattle.tp_story_claims.proofs.endings.ended_otherwise.Goals as goal

pub loop-task-init : goal.loop-task-init
loop-task-init c = c.new-found.ensures.items

pub loop-task-preserved : goal.loop-task-preserved
loop-task-preserved c =
    let first = c.args.first.now in
    let second = c.args.second.now in
    let n = c.loop-task.task in
    let one : suc n ≡ n + 1 = omega arith in
    let o = c.ends_of-ends.result in
    let found = c.loop-task.found.items in
    let more : AreOtherwise first second (suc n) c.if-not-is_same.found.items =
    elim c.if-not-is_same.branch [
      | then-not-is_same+in_ok-push w ↦
          let no : c.is_same.result ≡ false = w.if-not-is_same.true in
          otherwise_more first second n o found c.if-not-is_same.found.items c.ends_of-ends.ensures (λ same. true≢false (sym (c.is_same.ensures.1 same) ∙ no)) c.loop-task.invariant (ap (λ v. v.items) w.found-is ∙ w.in_ok-push.ensures.items)
      | else-not-is_same w ↦
          let yes : c.is_same.result ≡ true = w.if-not-is_same.false in
          otherwise_same first second n o found c.if-not-is_same.found.items c.ends_of-ends.ensures (c.is_same.ensures.0 yes) c.loop-task.invariant (ap (λ v. v.items) w.found-is)
    ] in
    subst (λ m. AreOtherwise first second m c.if-not-is_same.found.items) one more

pub returns : goal.returns
returns c =
    let same : c.loop-task.task ≡ c.max-task-end.result = omega (arith, c.loop-task-test.false, c.loop-task.auto.task-end) in
    subst (λ n. AreOtherwise c.args.first.now c.args.second.now n c.loop-task.found.items) (same ∙ c.max-task-end.ensures) c.loop-task.invariant
