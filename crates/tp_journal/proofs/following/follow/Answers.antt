use Rattle.std.proofs.Common.{◌≡◌, ◌∙◌, ap, drop, reverse, rules}
use Rattle.std.proofs.lemmas.Result.{on_ok_weaker}
use Rattle.tp_journal.proofs.Fronts.{front_added, front_stays}
use Rattle.tp_journal.proofs.following.follow.Goals as goal

pub returns-in-Ok-Some : goal.returns-in-Ok-Some
returns-in-Ok-Some g c = λ before kept.
    let news : c.in-Ok-Some.news.items ≡ drop c.entries.result (reverse c.look.new.sight) = search rules in
    let told = c.as_slice.ensures.value ∙ news ∙ ap (λ n. drop n (reverse c.look.new.sight)) c.entries.ensures in
    front_added g.W.Write.contents before g.G.PoolNaming.config c.add.result c.args.sight.now c.look.new.sight c.as_slice.result.now c.args.writer.now c.add.new.self
    told c.look.ensures.goes_on (on_ok_weaker c.add.result (λ added. added before g.G.PoolNaming.config) c.add.ensures.added) c.add.ensures.sound c.add.ensures.refused kept

pub returns-in-Ok-None : goal.returns-in-Ok-None
returns-in-Ok-None g c = λ before. front_stays g.W.Write.contents before g.G.PoolNaming.config c.args.sight.now c.look.new.sight c.args.writer.now c.look.ensures.goes_on

pub returns-in-Err : goal.returns-in-Err
returns-in-Err g c = λ before. front_stays g.W.Write.contents before g.G.PoolNaming.config c.args.sight.now c.look.new.sight c.args.writer.now c.look.ensures.goes_on
