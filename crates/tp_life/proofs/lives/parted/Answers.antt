use Rattle.std.proofs.Common.{◌≡◌, [], ◌∷◌, ◌++◌, ◌+◌, append_assoc, length, ap, ◌∙◌, sym, subst, arith, rules}
use Rattle.std.proofs.lemmas.List.{length_push}
use Rattle.std.specs.Prelude.{Some, IfSome, IsSome}
use Rattle.tp_pool.proofs.Turned.{all_passed}
use Rattle.tp_life.specs.Ran.{Pairwise}
use Rattle.tp_life.proofs.Parts.{next_is, one_left, some_of}
use Rattle.tp_life.proofs.Told.{pairs_more}
use Rattle.tp_life.proofs.lives.parted.Goals as goal

pub loop-caller-preserved : goal.loop-caller-preserved
loop-caller-preserved g c =
    let done = c.loop-caller.yielded in
    let caller = c.in-Some.caller in
    let rest = c.next.new.self.rest.items in
    let kept = c.loop-caller.invariant in
    let outs = c.loop-caller.outs.items in
    let passes = c.loop-caller.passes.items in
    let gives : c.into_iter-caller-iterator.result.rest.items ≡ c.args.callers.items = search rules in
    let whole = ap (λ xs. done ++ xs) (sym c.in-Some.ensures.steps.0) ∙ kept.6 in
    let came = some_of caller.out (next_is (λ k. IsSome k.out) c.args.callers.items done rest caller (whole ∙ gives) c.requires.some) in
    let more = subst (λ r. IfSome r (λ o. c.keep.new.outs.items ≡ outs ++ o ∷ [])) came.1 c.keep.ensures.kept in
    let many = subst (λ os. length os ≡ length outs + 1) (sym more) (length_push outs came.0) in (
      tt,
      tt,
      omega (arith, many, kept.2, length_push done caller),
      omega (arith, c.push_reserved.ensures.len, kept.3, length_push done caller),
      c.keep.ensures.room ∙ kept.4,
      c.push_reserved.ensures.capacity ∙ kept.5,
      append_assoc done (caller ∷ []) rest ∙ whole,
      subst (λ os. Pairwise (λ k o. k.out ≡ Some o) (done ++ caller ∷ []) os) (sym more) (pairs_more (λ k o. k.out ≡ Some o) done outs caller came.0 kept.7 came.1),
      subst (λ ps. Pairwise (λ k p. p ≡ k.seat.pass) (done ++ caller ∷ []) ps) (sym c.push_reserved.ensures.items) (pairs_more (λ k p. p ≡ k.seat.pass) done passes caller c.into_pass.result kept.8 c.into_pass.ensures),
    )

pub returns-clause-came : goal.returns-clause-came
returns-clause-came g c =
    let rest = c.loop-caller.caller-iterator.rest in
    let gives : c.into_iter-caller-iterator.result.rest.items ≡ c.args.callers.items = search rules in
    let all = all_passed c.loop-caller.yielded rest.items c.args.callers.items (c.loop-caller.invariant.6 ∙ gives) (omega (arith, c.in-None.ensures.steps.0, rest.ok.0)) in
    subst (λ ks. Pairwise (λ k o. k.out ≡ Some o) ks c.loop-caller.outs.items) all c.loop-caller.invariant.7

pub returns-clause-passes : goal.returns-clause-passes
returns-clause-passes g c =
    let rest = c.loop-caller.caller-iterator.rest in
    let gives : c.into_iter-caller-iterator.result.rest.items ≡ c.args.callers.items = search rules in
    let all = all_passed c.loop-caller.yielded rest.items c.args.callers.items (c.loop-caller.invariant.6 ∙ gives) (omega (arith, c.in-None.ensures.steps.0, rest.ok.0)) in
    subst (λ ks. Pairwise (λ k p. p ≡ k.seat.pass) ks c.loop-caller.passes.items) all c.loop-caller.invariant.8

pub keep-requires : goal.keep-requires
keep-requires g c =
    let done = c.loop-caller.yielded in
    let kept = c.loop-caller.invariant in
    let gives : c.into_iter-caller-iterator.result.rest.items ≡ c.args.callers.items = search rules in
    let whole = ap (λ xs. done ++ xs) (sym c.in-Some.ensures.steps.0) ∙ kept.6 in
    omega (arith, one_left done c.next.new.self.rest.items c.args.callers.items c.in-Some.caller (whole ∙ gives), kept.2, kept.4, c.requires.outs.1)

pub returns-clause-outs : goal.returns-clause-outs
returns-clause-outs g c =
    let rest = c.loop-caller.caller-iterator.rest in
    let gives : c.into_iter-caller-iterator.result.rest.items ≡ c.args.callers.items = search rules in
    let all = all_passed c.loop-caller.yielded rest.items c.args.callers.items (c.loop-caller.invariant.6 ∙ gives) (omega (arith, c.in-None.ensures.steps.0, rest.ok.0)) in
    omega (arith, c.loop-caller.invariant.2, ap (λ ks. length ks) all)

pub returns-clause-callers : goal.returns-clause-callers
returns-clause-callers g c =
    let rest = c.loop-caller.caller-iterator.rest in
    let gives : c.into_iter-caller-iterator.result.rest.items ≡ c.args.callers.items = search rules in
    let all = all_passed c.loop-caller.yielded rest.items c.args.callers.items (c.loop-caller.invariant.6 ∙ gives) (omega (arith, c.in-None.ensures.steps.0, rest.ok.0)) in
    omega (arith, c.loop-caller.invariant.3, ap (λ ks. length ks) all)
