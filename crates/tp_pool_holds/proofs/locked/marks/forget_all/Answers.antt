use Rattle.std.proofs.Common.{◌≡◌, ◌+◌, [], ◌∷◌, ◌++◌, map, take, sym, ap, subst, ◌∙◌}
use Rattle.std.proofs.lemmas.List.{map_more, take_all}
use Rattle.tp_book.specs.BookView.{ForgetsAllGone}
use Rattle.tp_book.proofs.Forgetting.{all_config, all_history, forgets_more}
use Rattle.tp_pool_holds.proofs.locked.marks.forget_all.Goals as goal

pub loop-t-preserved : goal.loop-t-preserved
loop-t-preserved g c =
    let keeps = g.R.Recorder.RECEIPTS in
    let tasks = c.args.tasks.now in
    let i = c.loop-t.t-index in
    let item = c.loop-t-item.result in
    let more : map (λ x. x.0.0) (take (i + 1) tasks) ≡ map (λ x. x.0.0) (take i tasks) ++ item.0.0 ∷ [] =
    map_more (λ x. x.0.0) tasks i item c.loop-t-test.true ∙ ap (λ x. map (λ y. y.0.0) (take i tasks) ++ x.0.0 ∷ []) (sym c.loop-t-item.is) in
    subst (λ ts. ForgetsAllGone keeps c.args.book.now c.forget.new.self ts) (sym more)
    (forgets_more keeps c.args.book.now c.loop-t.book c.forget.new.self (map (λ x. x.0.0) (take i tasks)) item.0.0 c.loop-t.invariant c.forget.ensures)

pub returns-clause-forgets_gone : goal.returns-clause-forgets_gone
returns-clause-forgets_gone g c =
    let all = take_all c.loop-t.t-index c.args.tasks.now c.loop-t-test.false in
    subst (λ tasks. ForgetsAllGone g.R.Recorder.RECEIPTS c.args.book.now c.loop-t.book (map (λ x. x.0.0) tasks)) all c.loop-t.invariant

pub returns-clause-config : goal.returns-clause-config
returns-clause-config g c =
    all_config g.R.Recorder.RECEIPTS c.args.book.now c.loop-t.book (map (λ x. x.0.0) (take c.loop-t.t-index c.args.tasks.now)) c.loop-t.invariant

pub returns-clause-history : goal.returns-clause-history
returns-clause-history g c =
    all_history g.R.Recorder.RECEIPTS c.args.book.now c.loop-t.book (map (λ x. x.0.0) (take c.loop-t.t-index c.args.tasks.now)) c.loop-t.invariant
