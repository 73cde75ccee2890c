use Rattle.std.proofs.Common.{ap, refl}
use Rattle.tp_record.specs.Terms.{without_end}
use Rattle.tp_pool.proofs.Forgotten.{forgotten, kept, named_so}
use Rattle.tp_pool.proofs.releases.release_in.Goals as goal

pub returns-clause-released : goal.returns-clause-released
returns-clause-released g c =
    forgotten (without_end g.G.PoolNaming.config) c.args.locked.now.book c.law_is_book.ensures c.args.t.0 c.release_task.new.self.book c.release_task.new.pass c.release_task.result
    (ap (λ p. p.front) c.release_task.ensures.shown) (ap (λ p. p.released) c.release_task.ensures.shown) c.release_task.ensures.released

pub returns-clause-kept : goal.returns-clause-kept
returns-clause-kept g c =
    kept (without_end g.G.PoolNaming.config) c.args.locked.now.book c.law_is_book.ensures c.args.t.0 (λ v. v.book) c.args.locked.now c.release_task.new.self c.release_task.new.pass c.release_task.result refl
    (ap (λ p. p.front) c.release_task.ensures.shown) (ap (λ p. p.released) c.release_task.ensures.shown) c.release_task.ensures.unchanged c.release_task.ensures.refused

pub returns-clause-refused : goal.returns-clause-refused
returns-clause-refused g c =
    named_so (without_end g.G.PoolNaming.config) c.args.locked.now.book c.law_is_book.ensures c.args.t.0 c.release_task.result c.release_task.ensures.refused
