use Rattle.std.proofs.Common.{◌≡◌, inl, inr, refl, rules, arith, ap, subst}
use Rattle.std.specs.Prelude.{All, length}
use Rattle.tp_types.specs.declared.refusals.PoolError.TheVariants.{NotTerminated, MissingPass}
use Rattle.tp_record.specs.Fields.{rank}
use Rattle.tp_glance.specs.Word.{IsFrontOf}
use Rattle.tp_book.specs.BookView.{AreAll}
use Rattle.tp_pool_holds.proofs.Moments.{keeps_open}
use Rattle.tp_pool_holds.proofs.locked.Locked.may_close.Goals as goal

pub returns-then-callers-len-clause-here : goal.returns-then-callers-len-clause-here
returns-then-callers-len-clause-here g c =
    let book = c.args.self.now.book in
    let same : c.self.inside.book ≡ book = ap (λ v. v.book) c.self.view_is in
    let ended : rank book.history ≡ 4 = search rules in
    let callers : c.callers.result ≡ book.accounts.callers = search rules in
    inr (refl, ended, λ all. c.if-callers-len.true (omega (arith, callers, c.len.ensures, all, ap length c.law_all_are_fronts.ensures.same.0)))

pub returns-then-ne-clause-refused : goal.returns-then-ne-clause-refused
returns-then-ne-clause-refused g c =
    let book = c.args.self.now.book in
    let same : c.self.inside.book ≡ book = ap (λ v. v.book) c.self.view_is in
    let fronts : All (λ p. IsFrontOf p.front book.history) c.args.passes.now.items = subst (λ b. All (λ p. IsFrontOf p.front b.history) c.args.passes.now.items) same c.law_all_are_fronts.ensures.fronts in
    let unended : ¬ (rank book.history ≡ 4) = search rules in
    keeps_open book (g.R.Recorder.terms g.G.PoolNaming.config) c.law_is_book.ensures c.args.passes.now.items fronts 0 NotTerminated (inl (refl, unended))

pub returns-then-callers-len-clause-refused : goal.returns-then-callers-len-clause-refused
returns-then-callers-len-clause-refused g c =
    let book = c.args.self.now.book in
    let same : c.self.inside.book ≡ book = ap (λ v. v.book) c.self.view_is in
    let fronts : All (λ p. IsFrontOf p.front book.history) c.args.passes.now.items = subst (λ b. All (λ p. IsFrontOf p.front b.history) c.args.passes.now.items) same c.law_all_are_fronts.ensures.fronts in
    let ended : rank book.history ≡ 4 = search rules in
    let callers : c.callers.result ≡ book.accounts.callers = search rules in
    let missing : ¬ AreAll book c.args.passes.now.items 0 = λ all. c.if-callers-len.true (omega (arith, callers, c.len.ensures, all.0, ap length c.law_all_are_fronts.ensures.same.0)) in
    keeps_open book (g.R.Recorder.terms g.G.PoolNaming.config) c.law_is_book.ensures c.args.passes.now.items fronts 0 MissingPass (inr (inl (refl, ended, missing)))
